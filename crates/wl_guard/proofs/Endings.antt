-- That messages are passed up to an end, and what is told of it.
use Rattle.std.specs.Prelude.{◌≡◌, List, Option, None, Some, Ok, Err}
use Rattle.std.proofs.Common.{ap, inl, inr, subst, sym}
use Rattle.wl_wire.specs.declared.argument.Token.{Token}
use Rattle.wl_wire.specs.declared.error.OutOfMemory.{OutOfMemory}
use Rattle.wl_link.specs.Exchange.{Queue}
use Rattle.wl_follow.specs.declared.side.Side.{Side}
use Rattle.wl_guard.specs.Ends.{HoardsAs, PassesToEnd, front_opcode, front_sender, told_end}
use Rattle.wl_guard.specs.Guard.{ArrivesAt}
use Rattle.wl_guard.specs.Known.{Known}
use Rattle.wl_guard.specs.Passages.{Breaks}
use Rattle.wl_guard.specs.Policy.{PolicyState}
use Rattle.wl_guard.specs.Steps.{PassesUpTo}
use Rattle.wl_guard.specs.declared.ending.Breach.{Breach}
use Rattle.wl_guard.specs.declared.ending.End.{End}
use Rattle.wl_guard.specs.declared.ending.End.TheVariants as end
use Rattle.wl_guard.specs.declared.session.Rule.{Rule}

module _ (p : PolicyState) (side : Side) (k k' : Known) (q rest out out' : Queue) (released released' : List Token) where
  -- by a message that breaks a rule
  pub ends_by : (r : Rule) (b : Breach) → PassesUpTo p side k q out released (Ok (Some r)) k' rest out' released' → (b.side ≡ side) × (b.rule ≡ r)
      → (b.object ≡ front_sender rest) × (b.opcode ≡ front_opcode rest) → PassesToEnd p side k q out released (Some (end.Breach b)) k' rest out' released'
  ends_by r b passed sides front =
      (passed.0, passed.1, (sides.0, front.0, front.1, passed.2.0, inl (subst (λ (x : Rule). Breaks p side passed.0 rest x) (sym sides.1) passed.2.1)))

  -- more is awaited, and what waits may be an end
  pub ends_if : (e : Option End) → PassesUpTo p side k q out released (Ok None) k' rest out' released' → HoardsAs side rest e
      → PassesToEnd p side k q out released e k' rest out' released'
  ends_if None passed none = (passed.0, passed.1, (passed.2.0, passed.2.1, none))
  ends_if (Some (end.Breach b)) passed some = (passed.0, passed.1, (some.1, some.3, some.4, ap (λ (s : Known). s.objects) passed.2.0, inr (some.2, passed.2.1, some.0)))
  ends_if (Some end.OutOfMemory) passed some = absurd some
  ends_if (Some end.HungUp) passed some = absurd some

  -- there was no memory
  pub ends_so : (e : OutOfMemory) → PassesUpTo p side k q out released (Err e) k' rest out' released'
      → PassesToEnd p side k q out released (Some end.OutOfMemory) k' rest out' released'
  ends_so e passed = (passed.0, passed.1, tt)

  -- and the client was told, or there was no memory for that
  pub arrived : (back back' : Queue) (e : Option End) → PassesToEnd p side k q out released e k' rest out' released' → back' ≡ told_end p k' e back
      → ArrivesAt p side k q out back released e k' rest out' back' released'
  arrived back back' e passed told = record {
    passages = passed.1.passages;
    last = passed.0;
    passes = passed.1.passes;
    stops = passed.2;
    sent = passed.1.out_is;
    told = told;
    back_is = passed.1.released_is;
  }

  pub arrived_untold : (back back' : Queue) (e : Option End) → PassesToEnd p side k q out released e k' rest out' released' → back' ≡ back
      → ArrivesAt p side k q out back released (Some end.OutOfMemory) k' rest out' back' released'
  arrived_untold back back' e passed same = record {
    passages = passed.1.passages;
    last = passed.0;
    passes = passed.1.passes;
    stops = tt;
    sent = passed.1.out_is;
    told = same;
    back_is = passed.1.released_is;
  }
