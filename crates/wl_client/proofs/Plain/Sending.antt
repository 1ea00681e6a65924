-- A request that is sent.
use Rattle.std.proofs.Common.{◌≡◌, ◌≢◌, ◌⊎◌, ℕ, Bool, true, false, not, cond, List, ◌∷◌, Option, None, Some, is_some, is_ok, option_map, Result, Ok, Err, MatchResult, refl, sym, ap, subst, ◌∙◌, true≢false, arith}
use mathlib.Core.Logic.{inl, inr}
use Rattle.std.proofs.lemmas.Bool.{eq-eqb, ne_eqb}
use Rattle.std.specs.Prelude.{◌==◌, ◌&&◌}
use Rattle.wl_wire.specs.declared.error.IoFault.{IoFault}
use Rattle.wl_wire.specs.MessageRows.{creates, matches, request_row}
use Rattle.wl_wire.specs.Table.{MessageRow}
use Rattle.wl_link.proofs.Calls.Branches.{either_bool}
use Rattle.wl_link.proofs.Ids.StoreLaws.{held_stored, stored_here, stored_other}
use Rattle.wl_link.specs.declared.object.Object.{Object}
use Rattle.wl_link.specs.Exchange.{Queue}
use Rattle.wl_link.specs.Identity.{named_in}
use Rattle.wl_link.specs.Link.{LinkState}
use Rattle.wl_link.specs.Puts.{lacks_memory}
use Rattle.wl_link.specs.Refusals.{first_refusal, when}
use Rattle.wl_link.specs.Store.{IsLeastAbsent, client_range, held}
use Rattle.wl_client.specs.declared.error.RequestError.{RequestError}
use Rattle.wl_client.specs.declared.error.RequestError.TheVariants as refused
use Rattle.wl_client.specs.declared.error.WaylandError.{WaylandError}
use Rattle.wl_client.specs.declared.error.WaylandError.TheVariants.{Io}
use Rattle.wl_client.specs.declared.objects.Kept.{Kept}
use Rattle.wl_client.specs.declared.request.Granted.{Granted}
use Rattle.wl_client.specs.ObjectId.{IdParts}
use Rattle.wl_client.specs.Objects.{info_in, info_of}
use Rattle.wl_client.specs.Plain.{MadeAs, RequestIsSent, SendsRequest, SettingsStay, same_object}
use Rattle.wl_client.specs.Requests.{Numbered, Requested, Sent, SentAs, SessionMessage, Spec, Written, checked_row, checked_sender, child_of, ended_by, error_after, grant, id_of_new, new_child, number_of_new, request_check, unless, wire_message, with_born, with_ended}
use Rattle.wl_client.specs.Session.{SessionState, alive, core_of, flagged, id_at, id_of, last_possible_serial, named, noted, serial_of}
use Rattle.wl_client.proofs.Plain.Naming.{Names, both_none, named_here, names_so, nothing_has, other_named, rewritten_named, rewritten_others}

-- ---- what is known of a request that is granted

module _ {T U : Type 0} (s : SessionState T U) (m : SessionMessage) (spec : Option Spec) where
  record IsGranted (g : Granted) : Type 0 where
    sender : Object (Kept U)
    row : MessageRow
    found : named s.store m.sender ≡ Some sender
    live : sender.value.client_destroyed ≡ false
    request : request_row s.table sender.interface m.opcode ≡ Some row
    fits : matches row.signature m.args ≡ true
    is : grant row sender.version spec ≡ g

  last_one : (o : Option RequestError) (h g : Granted) → unless o h ≡ Ok g → h ≡ g
  last_one None h g is = cc
  last_one (Some e) h g is = absurd (true≢false (sym (ap is_ok is)))

  first_two : (gone fits : Bool) (rest : List (Option RequestError)) (h g : Granted)
      → unless (first_refusal (when gone refused.InvalidId ∷ when (not fits) refused.BadSignature ∷ rest)) h ≡ Ok g → (gone ≡ false) × (fits ≡ true) × (h ≡ g)
  first_two gone fits rest h g h1 = grind (arith, true≢false, is_ok, last_one, first_refusal)

  granted : (has_data : Bool) (g : Granted) → request_check s.table s.store m has_data spec ≡ Ok g → IsGranted g
  granted has_data g is = grind (arith, named, request_row, checked_row, true≢false, is_ok, first_two, matches, grant, checked_sender)

alive_is : {U : Type 0} (o : Option (Object (Kept U))) (x : Object (Kept U)) → o ≡ Some x → x.value.client_destroyed ≡ false → alive o ≡ Some x
alive_is o x is live = ap alive is ∙ ap (λ (b : Bool). cond b None (Some x)) live

-- ---- the new object

module _ {T U : Type 0} (s : SessionState T U) where
  abbrev IsFresh : Option (Numbered U) → Type 0
  IsFresh None = Unit {0}
  IsFresh (Some new) = (held s.store new.0 ≡ None) × ((new.0 == 0) ≡ false)

  born_elsewhere : (new : Option (Numbered U)) → IsFresh new → (other : IdParts) → same_object (id_of_new new) other ≡ false
      → named (with_born s new).store other ≡ named s.store other
  born_elsewhere new h1 other h2 = grind (arith, other_named, with_born, held_stored, nothing_has, held)

  some_none : (n : ℕ) (x : Object (Kept U)) (k : ℕ) → held s.store n ≡ None → held s.store k ≡ Some x → k ≢ n
  some_none n x k none some same = true≢false (sym (ap is_some some) ∙ ap (λ (i : ℕ). is_some (held s.store i)) same ∙ ap is_some none)

  sender_still : (new : Option (Numbered U)) → IsFresh new → (id : IdParts) (x : Object (Kept U)) → Names s.store id x → Names (with_born s new).store id x
  sender_still new h1 id x h2 = grind (arith, stored_other, some_none)

  born_rest : (new : Option (Numbered U)) → ((with_born s new).notes ≡ s.notes) × ((with_born s new).open_event ≡ s.open_event) × ((with_born s new).error ≡ s.error)
      × ((with_born s new).table ≡ s.table)
  born_rest None = (refl, refl, refl, refl)
  born_rest (Some new) = (refl, refl, refl, refl)

  born_settings : (new : Option (Numbered U)) → SettingsStay s (with_born s new)
  born_settings None = (refl, (refl, refl))
  born_settings (Some new) = (refl, (refl, refl))

-- ---- the sender's end

module _ {T U : Type 0} (t : SessionState T U) (id : IdParts) (x : Object (Kept U)) where
  abbrev ended_at : Bool → Option (Numbered U)
  ended_at b = cond b (Some (id.number, x)) None

  ended_elsewhere : (b : Bool) → Names t.store id x → (other : IdParts) → (b && same_object id other) ≡ false
      → named (with_ended t (ended_at b)).store other ≡ named t.store other
  ended_elsewhere true by other differ = rewritten_others t.store id x (flagged true x) by refl other differ
  ended_elsewhere false by other differ = refl

  ended_gone : (b : Bool) → Names t.store id x → b ≡ true → info_of (with_ended t (ended_at b)) id ≡ None
  ended_gone b h1 h2 = grind (arith, info_in, alive, rewritten_named, flagged, true≢false)

  ended_notes : (b : Bool) → (with_ended t (ended_at b)).notes ≡ cond b (noted t.notes x.value.user_data (id_at id.number x)) t.notes
  ended_notes true = refl
  ended_notes false = refl

  ended_rest : (b : Bool) → ((with_ended t (ended_at b)).open_event ≡ t.open_event) × ((with_ended t (ended_at b)).error ≡ t.error)
      × ((with_ended t (ended_at b)).table ≡ t.table)
  ended_rest true = (refl, refl, refl)
  ended_rest false = (refl, refl, refl)

  ended_settings : (b : Bool) → SettingsStay t (with_ended t (ended_at b))
  ended_settings true = (refl, (refl, refl))
  ended_settings false = (refl, (refl, refl))

stored_error : (error : Option WaylandError) (w : Result (Unit {0}) IoFault) → (error_after error w ≡ error) ⊎ ((f : IoFault) × (error_after error w ≡ Some (Io f)))
stored_error error (Ok done) = inl refl
stored_error error (Err f) = inr (f, refl)

-- ---- the request

module _ {T U : Type 0} (sends : T → Queue → Result ℕ IoFault → T → Type 0) (s : SessionState T U) (m : SessionMessage) (u : Option U) (spec : Option Spec) where
  -- it came to nothing
  refuses : (e : RequestError) (answer : Result IdParts RequestError) (after : SessionState T U) → answer ≡ Err e → after ≡ s → SendsRequest s m u spec answer after
  refuses e answer after is same = grind (arith, core_of)

  module _ {g : Granted} (known : IsGranted s m spec g) where
    abbrev x : Object (Kept U)
    x = known.sender

    abbrev ends : Bool
    ends = known.row.is_destructor

    abbrev child : Option Spec
    child = cond (creates known.row) (child_of known.row x.version spec) None

    sender_named : Names s.store m.sender x
    sender_named = names_so s.store m.sender x known.found

    module _ (link : LinkState T) (w : Result (Unit {0}) IoFault) (new : Option (Numbered U)) (fresh : IsFresh s new) where
      abbrev now : SessionState T U
      now = record s { link = link; error = error_after s.error w }

      abbrev born : SessionState T U
      born = with_born now new

      abbrev end : SessionState T U
      end = with_ended born (ended_at born m.sender x ends)

      still : Names born.store m.sender x
      still = sender_still now new fresh m.sender x sender_named

      is_sent : MadeAs s child u (id_of_new new) end → RequestIsSent s m u spec (id_of_new new) end
      is_sent made = grind (arith, born_rest, ended_rest, born_settings, ended_settings, alive_is, named, ended_gone, still, ended_notes, noted, id_at, ended_elsewhere, born_elsewhere, stored_error)

    written : (new : Option (Numbered U)) → IsFresh s new
        → ((link : LinkState T) (w : Result (Unit {0}) IoFault) (fresh : IsFresh s new) → MadeAs s child u (id_of_new new) (end link w new fresh))
        → (answer : Result IdParts RequestError) (after : SessionState T U)
        → Written sends s (wire_message (number_of_new new) m) new (ended_at s m.sender x ends) answer after → SendsRequest s m u spec answer after
    written new fresh made answer after (w, link, by, ended) =
        elim (either_bool (lacks_memory w) ended) [
          | inl (is, same) ↦
              subst (λ (a : Result IdParts RequestError). SendsRequest s m u spec a after) (sym is) (ap core_of same)
          | inr (is, same) ↦
              subst (λ (a : Result IdParts RequestError). SendsRequest s m u spec a after) (sym is)
              (subst (λ (t : SessionState T U). RequestIsSent s m u spec (id_of_new new) t) (sym same) (is_sent link w new fresh (made link w fresh)))
        ]

    sent : (new : Option (Numbered U)) → IsFresh s new
        → ((link : LinkState T) (w : Result (Unit {0}) IoFault) (fresh : IsFresh s new) → MadeAs s child u (id_of_new new) (end link w new fresh))
        → (answer : Result IdParts RequestError) (after : SessionState T U)
        → Sent sends s m new (ended_at s m.sender x ends) answer after → SendsRequest s m u spec answer after
    sent new fresh made answer after (inl (is, same, asks)) = refuses refused.OutOfMemory answer after is same
    sent new fresh made answer after (inr h) = written new fresh made answer after h

    -- a new object gets the least number that holds none
    module _ (of_child : Spec) (d : U) (n : ℕ) (least : IsLeastAbsent client_range s.store n) (makes : child ≡ Some of_child) (given : u ≡ Some d) where
      abbrev y : Object (Kept U)
      y = new_child s of_child d

      fresh_one : IsFresh s (Some (n, y))
      fresh_one = let first = least.within in (least.absent, ne_eqb n 0 (λ (zero : n ≡ 0). absurd (omega (arith, first, zero))))

      named_new : (link : LinkState T) (w : Result (Unit {0}) IoFault) (fresh : IsFresh s (Some (n, y)))
          → named (end link w (Some (n, y)) fresh).store (id_at n y) ≡ Some y
      named_new link w fresh =
          let names = sender_named in
          let apart : same_object m.sender (id_at n y) ≡ false =
          ap (λ (b : Bool). b && (m.sender.serial == y.value.serial)) (ne_eqb m.sender.number n (some_none s n x m.sender.number least.absent names.holds)) in
          ended_elsewhere (born link w (Some (n, y)) fresh) m.sender x ends (still link w (Some (n, y)) fresh) (id_at n y) (off ends (same_object m.sender (id_at n y)) apart)
          ∙ named_here (born link w (Some (n, y)) fresh).store (id_at n y) y fresh_one.1 (stored_here s.store n y n refl) (eq-eqb y.value.serial y.value.serial refl)
        where
          off : (b c : Bool) → c ≡ false → (b && c) ≡ false
          off true c is = is
          off false c is = refl

      made_one : (link : LinkState T) (w : Result (Unit {0}) IoFault) (fresh : IsFresh s (Some (n, y))) → MadeAs s child u (id_at n y) (end link w (Some (n, y)) fresh)
      made_one link w fresh =
          subst (λ (o : Option Spec). MadeAs s o u (id_at n y) (end link w (Some (n, y)) fresh)) (sym makes) (
            ap (λ (h : Option (Object (Kept U))). cond (n == 0) None (named_in serial_of (id_of (id_at n y)) h)) least.absent ∙ both_none (n == 0),
            refl,
            (d, given, named_new link w fresh),
          )

    sent_as : (o : Option Spec) (v : Option U) → child ≡ o → u ≡ v → (answer : Result IdParts RequestError) (after : SessionState T U)
        → SentAs sends s m o v (ended_at s m.sender x ends) answer after → SendsRequest s m u spec answer after
    sent_as None v makes given answer after h =
        sent None tt (λ link w fresh. subst (λ (o : Option Spec). MadeAs s o u (id_of_new {U = U} None) (end link w None fresh)) (sym makes) refl) answer after h
    sent_as (Some of_child) None makes given answer after h = absurd h
    sent_as (Some of_child) (Some d) makes given answer after (inl (full, is, same)) = refuses refused.IdsExhausted answer after is same
    sent_as (Some of_child) (Some d) makes given answer after (inr (n, least, h)) =
        elim (either_bool (s.last_serial == last_possible_serial) h) [
          | inl (is, same) ↦ refuses refused.SerialsExhausted answer after is same
          | inr whole ↦
              sent (Some (n, new_child s of_child d)) (fresh_one of_child d n least makes given) (made_one of_child d n least makes given) answer after whole
        ]

  -- what is ended is the sender that was found
  ended_is : (b : Bool) (x : Object (Kept U)) → named s.store m.sender ≡ Some x → ended_by s.store m b ≡ ended_at s m.sender x b
  ended_is false x found = refl
  ended_is true x found = ap (λ (o : Option (Object (Kept U))). option_map (λ y. (m.sender.number, y)) o) found

  of_granted : (g : Granted) (known : IsGranted s m spec g) (answer : Result IdParts RequestError) (after : SessionState T U)
      → SentAs sends s m g.child u (ended_by s.store m g.is_destructor) answer after → SendsRequest s m u spec answer after
  of_granted g known answer after h =
      sent_as known (child known) u refl refl answer after
      (subst (λ (o : Option (Numbered U)). SentAs sends s m (child known) u o answer after) (ended_is (ends known) (x known) known.found)
      (subst (λ (g : Granted). SentAs sends s m g.child u (ended_by s.store m g.is_destructor) answer after) (sym known.is) h))

  pub sends_request : (answer : Result IdParts RequestError) (after : SessionState T U) → Requested sends s m u spec answer after → SendsRequest s m u spec answer after
  sends_request answer after h = at (request_check s.table s.store m (is_some u) spec) refl h
    where
      at : (r : Result Granted RequestError) → request_check s.table s.store m (is_some u) spec ≡ r
          → MatchResult r (λ g. SentAs sends s m g.child u (ended_by s.store m g.is_destructor) answer after) (λ e. (answer ≡ Err e) × (after ≡ s))
          → SendsRequest s m u spec answer after
      at (Ok g) is w = of_granted g (granted s m spec (is_some u) g is) answer after w
      at (Err e) is (refused, same) = refuses e answer after refused same
