-- A reference that is lent, if there is one.
use Rattle.std.proofs.Common.{◌≡◌, Option, None, Some, is_some, true, ap, inl, MutBor}
use Rattle.std.proofs.Math.Path.{fun_ext}
use Rattle.std.proofs.lemmas.Bool.{false≢true}
use Rattle.std.specs.Option.{ghost_name_of}
use borrow.Follows.Closed.{read_of}

-- where there is a reference, what it is followed by decides
pub read_same : {D E : Type 0} (o : Option (MutBor E)) (F G : E → D) (v w : D) → is_some o ≡ true → ((z : E) → F z ≡ G z)
    → read_of (ghost_name_of o) F v ≡ read_of (ghost_name_of o) G w
read_same None F G v w some same = absurd (false≢true some)
read_same (Some r) F G v w some same = ap (λ f. inl (r.ghost_name, f)) (fun_ext same)
