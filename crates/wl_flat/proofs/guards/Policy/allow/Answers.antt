use Rattle.std.proofs.Common.{inr, refl, rules}
use Rattle.wl_flat.proofs.GuardNames.{is_no_text}
use Rattle.wl_flat.proofs.guards.Policy.allow.Goals as goal

pub returns-in-Err : goal.returns-in-Err
returns-in-Err c = record { call = (refl, inr (search (rules, is_no_text), refl)) }
