use Rattle.std.proofs.Common.{Result, Ok, Err, OnOk}
use Rattle.wl_client.proofs.NewIds.{nothing_matches}
use Rattle.wl_client.proofs.message.pass_over.Goals as goal

on_ok : {A E P Q : Type 0} (r : Result A E) → (P → Q) → OnOk r P → OnOk r Q
on_ok (Ok _) f p = f p
on_ok (Err _) f p = tt

pub returns-clause-empty : goal.returns-clause-empty
returns-clause-empty g c = on_ok c.read_with_signature.result (nothing_matches _) c.read_with_signature.ensures.matches
