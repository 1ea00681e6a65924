use Rattle.std.proofs.Common.{inl, inr, refl, rules}
use Rattle.wl_flat.proofs.GuardNames.{is_no_text}
use Rattle.wl_flat.proofs.guards.Policy.refuse.Goals as goal

pub returns-in-Ok-Err : goal.returns-in-Ok-Err
returns-in-Ok-Err c = record { call = (refl, inr (inr (search (rules, is_no_text), refl))) }

pub returns-in-Err-default : goal.returns-in-Err-default
returns-in-Err-default c = record { call = (refl, inr (inl (search (rules, is_no_text), refl))) }
