use Rattle.std.proofs.Common.{◌≡◌, ◌∙◌, ℕ, Option, None, Some, is_some, true, ap, inl, sym, MutBor}
use Rattle.std.proofs.Math.Path.{fun_ext}
use Rattle.std.proofs.lemmas.Bool.{false≢true}
use Rattle.std.specs.Option.{ghost_name_of}
use Rattle.std.specs.Vec.{with_item}
use borrow.Follows.Closed.{read_of}
use Rattle.wl_host.proofs.Ledgers.{ledger_reads}
use Rattle.wl_host.proofs.server.seats.ledger_mut.Goals as goal

-- where there is a reference, what it is followed by decides
read_same : {D E : Type 0} (o : Option (MutBor E)) (F G : E → D) (v w : D) → is_some o ≡ true → ((z : E) → F z ≡ G z)
    → read_of (ghost_name_of o) F v ≡ read_of (ghost_name_of o) G w
read_same None F G v w some same = absurd (false≢true some)
read_same (Some r) F G v w some same = ap (λ f. inl (r.ghost_name, f)) (fun_ext same)

pub returns-then-is_seated : goal.returns-then-is_seated
returns-then-is_seated c =
    let seated = sym c.is_seated.ensures.seated ∙ c.if-is_seated.true in
    let reads = ledger_reads c.args.ledgers.now.items c.args.id.now c.slot.result c.index_mut.result.now seated c.slot.ensures c.index_mut.ensures.value in (
      read_same c.as_mut.result _ _ _ _ (c.as_mut.ensures.variant ∙ (ap is_some reads ∙ seated)) (λ z. ap (λ (n : ℕ). with_item c.args.ledgers.now n (Some z)) c.slot.ensures),
      record { lends = tt; value = c.as_mut.ensures.value ∙ reads },
    )
