-- The calls that are about neither a request nor an event.
use Rattle.std.proofs.Common.{◌≡◌, ℕ, eqb, true, false, ◌&&◌, Option, None, Some, is_some, Result, Ok, Err, refl, sym, ap, subst, true≢false, arith}
use mathlib.Core.Logic.{inl, inr}
use Rattle.wl_wire.specs.declared.error.IoFault.{IoFault}
use Rattle.wl_link.proofs.Calls.Branches.{either_option}
use Rattle.wl_link.proofs.Ids.StoreLaws.{removed_here}
use Rattle.wl_link.specs.declared.object.Object.{Object}
use Rattle.wl_link.specs.Exchange.{Queue}
use Rattle.wl_link.specs.Link.{Flushed, LinkState}
use Rattle.wl_link.specs.Store.{removed, rewritten}
use Rattle.wl_client.specs.declared.error.DestroyError.{DestroyError}
use Rattle.wl_client.specs.declared.error.FlushError.{FlushError}
use Rattle.wl_client.specs.declared.error.FlushError.TheVariants as flush
use Rattle.wl_client.specs.declared.error.InvalidId.{InvalidId}
use Rattle.wl_client.specs.declared.error.WaylandError.TheVariants.{Io}
use Rattle.wl_client.specs.declared.objects.Kept.{Kept}
use Rattle.wl_client.specs.Finish.{FlushEnds, SessionFlushed}
use Rattle.wl_client.specs.ObjectId.{IdParts}
use Rattle.wl_client.specs.Objects.{DataSet, DestroyedBy, LendsData, ReclaimedBy, destroyable, given_up, user_data_of}
use Rattle.wl_client.specs.Plain.Calls.{DestroysObject, EndsSession, FlushesSession, ReclaimsObject, SetsData, SetsWhatIsLeft}
use Rattle.wl_client.specs.Session.{SessionState, alive, flagged, id_at, named, noted, with_user_data}
use Rattle.wl_client.proofs.Plain.Naming.{names_so, removed_others, rewritten_named, rewritten_others}

-- ---- objects

alive_some : {U : Type 0} (o : Option (Object (Kept U))) (x : Object (Kept U)) → alive o ≡ Some x → o ≡ Some x
alive_some o x h1 = grind (arith, true≢false, is_some)

module _ {T U : Type 0} (s : SessionState T U) (id : IdParts) where
  -- ---- data

  unset : (u : U) → named s.store id ≡ None → SetsData s id u (Err _) s
  unset u none = record { object = (none, refl); objects = λ other differ. refl; notes = refl; link = refl; rest = (refl, refl, refl, refl); settings = (refl, (refl, refl)) }

  set : (u : U) (x : Object (Kept U)) → named s.store id ≡ Some x
      → SetsData s id u (Ok tt) (record s { store = rewritten s.store id.number (with_user_data u x) })
  set u x found = grind (arith, rewritten_named, with_user_data, names_so, rewritten_others)

  pub sets_data : (u : U) (answer : Result (Unit {0}) InvalidId) (after : SessionState T U) → DataSet s id u answer after → SetsData s id u answer after
  sets_data u answer after h =
      elim (either_option (named s.store id) h) [
        | inl (none, (is, same)) ↦
            subst (λ (a : Result (Unit {0}) InvalidId). SetsData s id u a after) (sym is) (subst (λ (t : SessionState T U). SetsData s id u (Err _) t) (sym same) (unset u none))
        | inr (x, found, (is, same)) ↦
            subst (λ (a : Result (Unit {0}) InvalidId). SetsData s id u a after) (sym is) (subst (λ (t : SessionState T U). SetsData s id u (Ok tt) t) (sym same) (set u x found))
      ]

  pub sets_what_is_left : {R : Type 0} (call : U → R → U → Type 0) (answer : Result R InvalidId) (after : SessionState T U) → LendsData call s id answer after
      → SetsWhatIsLeft call s id answer after
  sets_what_is_left {R} call answer after h =
      elim (either_option (user_data_of s id) h) [
        | inl (none, (is, same)) ↦ rw none (is, same)
        | inr (u, some, (r, left, called, is, done)) ↦ rw some (r, left, called, is, sets_data left (Ok tt) after done)
      ]

  -- ---- an end

  pub named_destroyable : (x : Object (Kept U)) → destroyable s id ≡ Some x → named s.store id ≡ Some x
  named_destroyable x is = grind (arith, eqb, alive, named, true≢false, is_some, alive_some)

  destroyed : (x : Object (Kept U)) → destroyable s id ≡ Some x
      → DestroysObject s id (Ok tt) (record s { store = given_up s.store id.number x; notes = noted s.notes x.value.user_data (id_at id.number x) })
  destroyed x may = grind (arith, names_so, named_destroyable, rewritten_named, flagged, rewritten_others)

  pub destroys_object : (answer : Result (Unit {0}) DestroyError) (after : SessionState T U) → DestroyedBy s id answer after → DestroysObject s id answer after
  destroys_object answer after h = grind (arith, either_option, destroyable, destroyed)

  -- ---- what both sides have given up

  kept : named s.store id ≡ None → ReclaimsObject s id (Err _) s
  kept none = grind (arith)

  kept_by : (x : Object (Kept U)) → named s.store id ≡ Some x → (x.value.client_destroyed && x.value.id_deleted) ≡ false → ReclaimsObject s id (Err _) s
  kept_by x found not_both = grind (arith, true≢false)

  reclaimed : (x : Object (Kept U)) → named s.store id ≡ Some x → (x.value.client_destroyed && x.value.id_deleted) ≡ true
      → ReclaimsObject s id (Ok tt) (record s { store = removed s.store id.number })
  reclaimed x found both = grind (arith, names_so, removed_here, removed_others, true≢false)

  pub reclaims_object : (answer : Result (Unit {0}) InvalidId) (after : SessionState T U) → ReclaimedBy s id answer after → ReclaimsObject s id answer after
  reclaims_object answer after h = grind (arith, either_option, kept, kept_by, reclaimed)

-- ---- a flush

module _ {T U : Type 0} (sends : T → Queue → Result ℕ IoFault → T → Type 0) (s : SessionState T U) where
  to : (answer a : Result (Unit {0}) FlushError) (after t : SessionState T U) → answer ≡ a → after ≡ t → FlushesSession sends s a t → FlushesSession sends s answer after
  to answer a after t is same so =
      subst (λ (b : Result (Unit {0}) FlushError). FlushesSession sends s b after) (sym is) (subst (λ (r : SessionState T U). FlushesSession sends s a r) (sym same) so)

  module _ (none : s.error ≡ None) (link : LinkState T) where
    abbrev over : SessionState T U
    over = record s { link = link }

    fails : (f : IoFault) → EndsSession f → Flushed sends s.link (Err f) link → FlushesSession sends s (Err flush.Failed) (record over { error = Some (Io f) })
    fails f ends by = grind (arith)

    ended : (flushed : Result (Unit {0}) IoFault) (answer : Result (Unit {0}) FlushError) (after : SessionState T U) → Flushed sends s.link flushed link
        → FlushEnds over flushed answer after → FlushesSession sends s answer after
    ended flushed answer after h1 h2 = grind (arith, to, fails)

  pub flushes_session : (answer : Result (Unit {0}) FlushError) (after : SessionState T U) → SessionFlushed sends s answer after → FlushesSession sends s answer after
  flushes_session answer after h =
      elim (either_option s.error h) [
        | inl (none, (flushed, link, by, ends)) ↦ ended none link flushed answer after by ends
        | inr (e, some, (is, same)) ↦
            to answer (Err flush.Failed) after s is same
            (record {
              answered = inl (ap is_some some, refl);
              objects = refl;
              last_serial = refl;
              open_event = refl;
              notes = refl;
              table = refl;
              settings = (refl, (refl, refl));
            })
      ]
