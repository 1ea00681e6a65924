-- That to take out an object that is not there changes nothing, and that the number of one that was there is free then.
use Rattle.std.proofs.Common.{◌≡◌, ◌≢◌, ◌⊎◌, ◌<◌, ◌≤◌, ◌&&◌, ℕ, None, Option, Some, ap, arith, inl, inr, nat_cmp, refl, sym, true, ◌∙◌}
use Rattle.std.specs.Prelude.{false, is_some, nat_le, nat_lt, not}
use Rattle.std.proofs.lemmas.Bool.{cases_eq}
use Rattle.std.specs.Cmp.{nat_cmp_total}
use Rattle.std.specs.FinMap as map
use Rattle.wl_link.specs.declared.object.Object.{Object}
use Rattle.wl_link.specs.Store.{Store, first_unused, held, is_free, removed}
use Rattle.wl_follow.specs.Inside.Freeing.{StaysOrIsFree}
use Rattle.wl_follow.specs.Objects.{Gives}
use Rattle.wl_follow.specs.declared.side.Fault.{Fault}
use Rattle.wl_follow.specs.declared.side.Fault.TheVariants as fault
use Rattle.wl_wire.specs.declared.interface.InterfaceId.{InterfaceId}
use Rattle.wl_link.proofs.Ids.StoreLaws.{removed_here, removed_other}

pub removed_absent : (s : Store (Unit {0})) (n : ℕ) → held s n ≡ None → removed s n ≡ s
removed_absent s n none =
    ap (λ (m : map.FinMap nat_cmp (Object (Unit {0}))). record s { objects = m })
    (map.same_map nat_cmp_total map.nat_cmp-IsAntisymmetric (map.remove s.objects n) s.objects (λ m. same m (cases_eq m n)))
  where
    same : (m : ℕ) → (m ≡ n) ⊎ (m ≢ n) → held (removed s n) m ≡ held s m
    same m (inl e) = removed_here s n m e ∙ sym (ap (held s) e ∙ none)
    same m (inr e) = removed_other s n m e

-- the number of an object that was there
pub removed_free : (s : Store (Unit {0})) (n : ℕ) → 0 < n → n < first_unused s n → is_free (removed s n) n ≡ true
removed_free s n some used =
    let none : held (removed s n) n ≡ None = removed_here s n n refl in
    grind (arith, none)

-- a number that is free is given, so a fault changes nothing
pub given_or_stays : (s s' s'' : Store (Unit {0})) (n : ℕ) (interface : InterfaceId) (version : ℕ) (f : Fault) → StaysOrIsFree s n s'
    → Gives s' n interface version (Some f) s'' → s'' ≡ s
given_or_stays s s' s'' n interface version fault.NewId (inl same) given = given.1 ∙ same
given_or_stays s s' s'' n interface version fault.NewId (inr free) given = let taken = given.0 in let no = free.0 in absurd cc
given_or_stays s s' s'' n interface version fault.Malformed stays given = absurd given
given_or_stays s s' s'' n interface version fault.UnknownInterface stays given = absurd given
given_or_stays s s' s'' n interface version fault.MissingDescriptor stays given = absurd given
