use Rattle.std.proofs.Common.{Err, None, Ok, Some, ap, refl}
use Rattle.wl_flat.specs.Told.{LentTold}
use Rattle.wl_flat.specs.declared.flat.FlatTold.{FlatTold}
use Rattle.wl_flat.proofs.telling.Telling.next.Goals as goal

pub returns-in-Ok-Some : goal.returns-in-Ok-Some
returns-in-Ok-Some c = (Ok (Some c.in-Ok-Some.found), c.find.new.self, rw c.in-Ok-Some.field-0-is at c.in-Ok-Some.ensures, c.hand_out.ensures)

pub returns-in-Ok-None : goal.returns-in-Ok-None
returns-in-Ok-None c = (
  Ok None,
  c.find.new.self,
  rw c.in-Ok-None.field-0-is at c.in-Ok-None.ensures,
  (
    refl,
    refl,
    ap (λ (o : FlatTold). let x : LentTold = record { out = o; arguments = c.args.arguments.now; bytes = c.args.bytes.now } in x) c.none.ensures,
  ),
)

pub returns-in-Err : goal.returns-in-Err
returns-in-Err c = (
  Err c.in-Err.field-0,
  c.find.new.self,
  c.in-Err.ensures,
  (
    refl,
    refl,
    ap (λ (o : FlatTold). let x : LentTold = record { out = o; arguments = c.args.arguments.now; bytes = c.args.bytes.now } in x) c.none-in-Err.ensures,
  ),
)
