-- The changes that each step of a session makes, and that an error stays: one walk, over which its laws of ids, of notes and
-- of its error stand.
use Rattle.std.proofs.Common.{◌≡◌, ◌≢◌, ◌⊎◌, ℕ, zero, suc, ◌+◌, Bool, true, false, not, ◌&&◌, cond, eqb, List, [], ◌∷◌, ◌++◌, Option, None, Some, is_some, IsSome, option_map, Result, Ok, Err, is_ok, MatchResult, refl, sym, ap, ap₂, subst, ◌∙◌, ◌==◌, true≢false, not-suc-le-zero, le_of_suc-le-suc, append-nil, append_assoc, map, arith}
use mathlib.Core.Logic.{inl, inr}
use Rattle.std.specs.Option.{option_to_list}
use Rattle.std.specs.Prelude.{All, MatchBool}
use Rattle.std.proofs.lemmas.Bool.{eq-eqb, ne_eqb, cases_eq}
use Rattle.std.proofs.lemmas.Option.{same_Some}
use Rattle.wl_wire.specs.declared.argument.Argument.{Argument}
use Rattle.wl_wire.specs.declared.argument.Argument.TheVariants as arg
use Rattle.wl_wire.specs.declared.argument.Token.{Token}
use Rattle.wl_wire.specs.declared.error.IoFault.{IoFault}
use Rattle.wl_wire.specs.declared.interface.InterfaceId.{InterfaceId}
use Rattle.wl_wire.specs.Argument.{WireArgument}
use Rattle.wl_wire.specs.MessageRows.{fits, next_interface, rest_of}
use Rattle.wl_wire.specs.Message.{WireMessage}
use Rattle.wl_wire.specs.Table.{InterfaceRow, MessageRow, anonymous_id}
use Rattle.wl_link.specs.declared.memory.ArriveError.TheVariants as arrive
use Rattle.wl_link.specs.declared.object.Object.{Object}
use Rattle.wl_link.proofs.Calls.Branches.{either_bool, either_option}
use Rattle.wl_link.proofs.Ids.EndsLaw.{keeps_joins}
use Rattle.wl_link.specs.Exchange.{Queue}
use Rattle.wl_link.specs.Identity.{Objects, Change, Born, Gone, Wrote, Ended, Made, named_in, names, OwnsExactly, StepEnds, Found, HandedId, New, argument_ids}
use Rattle.wl_link.proofs.Ids.IdentityLaw.{born_first, born_later, made_first, made_later}
use Rattle.wl_link.specs.Link.{LinkState}
use Rattle.wl_link.specs.Reader.{Given, HandedOut, Queued}
use Rattle.wl_link.specs.Refusals.{first_refusal, when}
use Rattle.wl_link.specs.Script.{Script, ScriptSends, ScriptReceives}
use Rattle.wl_link.specs.Store.{Store, held, is_free, is_server_number, removed, rewritten, stored}
use Rattle.wl_link.proofs.Ids.StoreLaws.{stored_here, stored_other}
use Rattle.wl_link.specs.Puts.{lacks_memory}
use Rattle.wl_client.specs.declared.error.EventError.{EventError}
use Rattle.wl_client.specs.declared.error.FlushError.{FlushError}
use Rattle.wl_client.specs.declared.error.RequestError.{RequestError}
use Rattle.wl_client.specs.declared.event_fault.EventFault.{EventFault}
use Rattle.wl_client.specs.declared.event_fault.EventFault.TheVariants as wrong
use Rattle.wl_client.specs.declared.objects.Kept.{Kept}
use Rattle.wl_client.specs.declared.objects.Note.{Note}
use Rattle.wl_client.specs.declared.objects.Note.TheVariants.{Destroyed}
use Rattle.wl_client.specs.declared.event.OpenEvent.{OpenEvent}
use Rattle.wl_client.specs.declared.request.Granted.{Granted}
use Rattle.wl_client.specs.declared.step.Reply.{Reply}
use Rattle.wl_client.specs.declared.step.Step.{Step}
use Rattle.wl_client.specs.declared.step.Step.TheVariants as step
use Rattle.wl_client.specs.ObjectId.{IdParts}
use Rattle.wl_client.specs.Events.{Converting, Converted, Outcome, Whole, Wrong, object_argument, object_argument_of, is_destroyed, deleted_at, vacated, is_valid_new, made_object, with_object_argument, with_new_at, with_new_argument, convert_one, going_on, convert, start, DisplayEvent, Fails, Deletes, Unreadable, display_event}
use Rattle.wl_client.specs.Finish.{FinishesEvent, Finishes, FlushEnds, SessionFlushed, after_destructor, data_given, refusal, with_data_for, with_dead}
use Rattle.wl_client.specs.Freed.{GoesOnKeeping, KeepsOn, for_list, freed_for, freed_from, freed_in, freed_taken, id_held, store_after}
use Rattle.wl_client.specs.Freeing.{deleted_number, destroyed_at, destroyed_id, first_new_id, freed_as, freed_by, with_freed}
use Rattle.wl_client.specs.Handed.{IsHandedIn, ended_notes, event_ids, ids_by, ids_in, is_over, note_ids, notes_by, notes_in, request_ids}
use Rattle.wl_client.specs.Histories.{Called, Changed, Deed, Does, Grown}
use Rattle.wl_client.specs.Objects.{DataSet, DestroyedBy, ReclaimedBy, destroyable}
use Rattle.wl_client.specs.Handling.{Handling, Swallows, HandsOut, event_of, handed, handling, handling_by, objects_after, of_converted, of_display, of_event, opened_of, row_in}
use Rattle.wl_client.specs.Reading.{NextEvent, event_content, handed_by, objects_in as cored}
use Rattle.wl_client.proofs.Handling.{either_way_freed}
use Rattle.wl_client.proofs.Freeing.{hands_freed}
use Rattle.wl_client.proofs.OverRuns.ReadingLaws.{SeesObjects, next_event_respects, read_fails}
use Rattle.wl_client.specs.Requests.{Numbered, Requested, error_after, Sent, SentAs, SentWithChild, SessionMessage, Spec, Written, checked_row, checked_sender, ended_by, grant, id_of_new, new_child, number_of_new, request_check, session_content, unless, wire_message, with_born, with_ended}
use Rattle.wl_client.specs.Session.{Core, SessionState, alive, core_of, flagged, id_at, id_of, last_possible_serial, named, noted, null_parts, objects_of, serial_of, with_core, with_id_deleted, with_user_data}
use Rattle.wl_client.specs.Steps.{CallOf, Making, StepOf}
use Rattle.wl_link.proofs.Ids.HandedIds.{argument_ids_both}

-- ---- options, truth values and results

none_some : {A : Type 0} {x : A} → None ≡ Some x → ⊥
none_some e = true≢false (sym (ap is_some e))

not_some : {A : Type 0} (o : Option A) (b : Bool) → (not (is_some o) && b) ≡ true → o ≡ None
not_some None b e = refl
not_some (Some x) b e = absurd (true≢false (sym e))

both : (a b : Bool) → (a && b) ≡ true → (a ≡ true) × (b ≡ true)
both true b e = (refl, e)
both false b e = absurd (true≢false (sym e))

-- a value, which the result is, or an error, with what is known of it
value_or_error : {A E : Type 0} {P : A → Type 0} {Q : E → Type 0} (r : Result A E) → MatchResult r P Q
    → ((x : A) × (r ≡ Ok x) × P x) ⊎ ((e : E) × (r ≡ Err e) × Q e)
value_or_error (Ok x) p = inl (x, refl, p)
value_or_error (Err e) q = inr (e, refl, q)

-- ---- lists of which each has something

module _ {A : Type 0} where
  abbrev Each : (A → Type 0) → List A → Type 0
  Each P [] = Unit {0}
  Each P (x ∷ xs) = P x × Each P xs

  each_more : (P Q : A → Type 0) (xs : List A) → ((x : A) → P x → Q x) → Each P xs → Each Q xs
  each_more P Q [] more each = tt
  each_more P Q (x ∷ xs) more each = (more x each.0, each_more P Q xs more each.1)

  each_both : (P : A → Type 0) (xs others : List A) → Each P xs → Each P others → Each P (xs ++ others)
  each_both P [] others each rest = rest
  each_both P (x ∷ xs) others each rest = (each.0, each_both P xs others each.1 rest)

  pub each_all : (P : A → Type 0) (xs : List A) → Each P xs → All P xs
  each_all P [] each k d lt = absurd (not-suc-le-zero lt)
  each_all P (x ∷ xs) each zero d lt = each.0
  each_all P (x ∷ xs) each (suc k) d lt = each_all P xs each.1 k d (le_of_suc-le-suc lt)

map_both : {A B : Type 0} (f : A → B) (xs others : List A) → map f (xs ++ others) ≡ map f xs ++ map f others
map_both f [] others = refl
map_both f (x ∷ xs) others = ap (λ ys. f x ∷ ys) (map_both f xs others)

-- ---- the id of an object that leaves its number

told_listed : (ids : List IdParts) (id : Option IdParts) → with_freed true ids id ≡ ids ++ option_to_list id
told_listed ids None = sym (append-nil ids)
told_listed ids (Some id) = refl

-- ---- notes

pub note_ids_both : (notes others : List Note) → note_ids (notes ++ others) ≡ note_ids notes ++ note_ids others
note_ids_both [] others = refl
note_ids_both (Destroyed id ∷ notes) others = ap (λ ids. id ∷ ids) (note_ids_both notes others)

noted_behind : {U : Type 0} (notes : List Note) (u : Option U) (id : IdParts) → noted notes u id ≡ notes ++ (noted [] u id ++ [])
noted_behind notes None id = sym (append-nil notes)
noted_behind notes (Some u) id = refl

module _ {U : Type 0} where
  pub ended_notes_both : (changes others : List (Change (Kept U))) → ended_notes (changes ++ others) ≡ ended_notes changes ++ ended_notes others
  ended_notes_both [] others = refl
  ended_notes_both (Born n x ∷ changes) others = ended_notes_both changes others
  ended_notes_both (Gone n ∷ changes) others = ended_notes_both changes others
  ended_notes_both (Wrote n x ∷ changes) others = ended_notes_both changes others
  ended_notes_both (Made id ∷ changes) others = ended_notes_both changes others
  ended_notes_both (Ended n x left ∷ changes) others = grind (arith, noted, id_at, append_assoc, ended_notes, ended_notes_both changes others)

  -- ---- objects that leave their numbers

  freed_both : (store : Store (Kept U)) (changes others : List (Change (Kept U)))
      → freed_in store (changes ++ others) ≡ freed_in store changes ++ freed_in (store_after store changes) others
  freed_both store [] others = refl
  freed_both store (Born n x ∷ changes) others = freed_both (stored store n x) changes others
  freed_both store (Gone n ∷ changes) others =
      ap (λ ids. id_held n (held store n) ++ ids) (freed_both (removed store n) changes others)
      ∙ sym (append_assoc (id_held n (held store n)) (freed_in (removed store n) changes) (freed_in (store_after (removed store n) changes) others))
  freed_both store (Wrote n x ∷ changes) others = freed_both (rewritten store n x) changes others
  freed_both store (Ended n x None ∷ changes) others = ap (λ ids. id_at n x ∷ ids) (freed_both (removed store n) changes others)
  freed_both store (Ended n x (Some y) ∷ changes) others = freed_both (rewritten store n y) changes others
  freed_both store (Made id ∷ changes) others = freed_both store changes others

  -- the changes lead to the store that they say
  pub store_ends : (o : Objects (Kept U)) (changes : List (Change (Kept U))) (after : Objects (Kept U)) → StepEnds serial_of is_over o changes after
      → after.store ≡ store_after o.store changes
  store_ends o [] after same = ap (λ (a : Objects (Kept U)). a.store) same
  store_ends o (Born n x ∷ changes) after (mid, (free, serial, is), allowed, rest) =
      store_ends mid changes after rest ∙ ap (λ (a : Objects (Kept U)). store_after a.store changes) is
  store_ends o (Gone n ∷ changes) after (mid, is, allowed, rest) = store_ends mid changes after rest ∙ ap (λ (a : Objects (Kept U)). store_after a.store changes) is
  store_ends o (Wrote n x ∷ changes) after (mid, (was, is), allowed, rest) = store_ends mid changes after rest ∙ ap (λ (a : Objects (Kept U)). store_after a.store changes) is
  store_ends o (Ended n x None ∷ changes) after (mid, (was, is), allowed, rest) =
      store_ends mid changes after rest ∙ ap (λ (a : Objects (Kept U)). store_after a.store changes) is
  store_ends o (Ended n x (Some y) ∷ changes) after (mid, (was, serial, is), allowed, rest) =
      store_ends mid changes after rest ∙ ap (λ (a : Objects (Kept U)). store_after a.store changes) is
  store_ends o (Made id ∷ changes) after (mid, (some, is), allowed, rest) = store_ends mid changes after rest ∙ ap (λ (a : Objects (Kept U)). store_after a.store changes) is

  -- ---- ids that are handed out in a part of a step

  handed_first : (changes others : List (Change (Kept U))) (id : HandedId IdParts) → IsHandedIn changes id → IsHandedIn (changes ++ others) id
  handed_first changes others id h1 = grind (arith, handed, made_first, id_of, born_first, serial_of)

  handed_later : (changes others : List (Change (Kept U))) (id : HandedId IdParts) → IsHandedIn others id → IsHandedIn (changes ++ others) id
  handed_later changes others id h1 = grind (arith, handed, made_later, id_of, born_later, serial_of)

-- ---- moves of the kept objects and the notes

-- what a session's changes and notes are about
pub record Holding (U : Type 0) : Type 0 where
  pub objects : Objects (Kept U)
  pub notes : List Note

module _ {U : Type 0} where
  abbrev noted_ids : List (Change (Kept U)) → List (HandedId IdParts)
  noted_ids changes = map Found (note_ids (ended_notes changes))

  noted_ids_both : (changes others : List (Change (Kept U))) → noted_ids (changes ++ others) ≡ noted_ids changes ++ noted_ids others
  noted_ids_both changes others = grind (arith, note_ids, ended_notes_both, note_ids_both, ended_notes, map_both)

  -- Some changes lead from one to the other, in which these ids are handed out; the notes behind those before are of the
  -- objects that end in them. These ids are of the objects that leave their numbers.
  pub record Moved (left : List IdParts) (before : Holding U) (ids : List (HandedId IdParts)) (after : Holding U) : Type 0 where
    pub changes : List (Change (Kept U))
    pub owns : StepEnds serial_of is_over before.objects changes after.objects
    pub handed : Each (IsHandedIn changes) ids
    pub notes : after.notes ≡ before.notes ++ ended_notes changes
    pub noted : Each (IsHandedIn changes) (noted_ids changes)
    pub freed : freed_in before.objects.store changes ≡ left

  with_left : (h k : Holding U) (ids : List (HandedId IdParts)) (left left' : List IdParts) → left ≡ left' → Moved left h ids k → Moved left' h ids k
  with_left h k ids left left' same moved = subst (λ l. Moved l h ids k) same moved

  still : (h : Holding U) → Moved [] h [] h
  still h = record { changes = []; owns = refl; handed = tt; notes = sym (append-nil h.notes); noted = tt; freed = refl }

  -- no id names by the number 0
  none_handed : (h : Holding U) → Moved [] h (New null_parts ∷ []) h
  none_handed h = record { changes = []; owns = refl; handed = (λ ne. absurd (ne refl), tt); notes = sym (append-nil h.notes); noted = tt; freed = refl }

  none_found : (h : Holding U) → Moved [] h (Found null_parts ∷ []) h
  none_found h = record { changes = []; owns = refl; handed = (λ ne. absurd (ne refl), tt); notes = sym (append-nil h.notes); noted = tt; freed = refl }

  joined : (a b c : Holding U) (ids others : List (HandedId IdParts)) (left left' : List IdParts) → Moved left a ids b → Moved left' b others c
      → Moved (left ++ left') a (ids ++ others) c
  joined a b c ids others left left' first second =
      let changes = first.changes ++ second.changes in
      let earlier : (id : HandedId IdParts) → IsHandedIn first.changes id → IsHandedIn changes id = handed_first first.changes second.changes in
      let later : (id : HandedId IdParts) → IsHandedIn second.changes id → IsHandedIn changes id = handed_later first.changes second.changes in
      record {
        changes = changes;
        owns = keeps_joins serial_of (OwnsExactly is_over) a.objects b.objects c.objects first.changes second.changes first.owns second.owns;
        handed = each_both (IsHandedIn changes) ids others
            (each_more (IsHandedIn first.changes) (IsHandedIn changes) ids earlier first.handed)
            (each_more (IsHandedIn second.changes) (IsHandedIn changes) others later second.handed);
        notes = second.notes ∙ ap (λ notes. notes ++ ended_notes second.changes) first.notes
            ∙ append_assoc a.notes (ended_notes first.changes) (ended_notes second.changes)
            ∙ ap (λ notes. a.notes ++ notes) (sym (ended_notes_both first.changes second.changes));
        noted = subst (λ ids. Each (IsHandedIn changes) ids) (sym (noted_ids_both first.changes second.changes))
            (each_both (IsHandedIn changes) (noted_ids first.changes) (noted_ids second.changes)
            (each_more (IsHandedIn first.changes) (IsHandedIn changes) (noted_ids first.changes) earlier first.noted)
            (each_more (IsHandedIn second.changes) (IsHandedIn changes) (noted_ids second.changes) later second.noted));
        freed = freed_both a.objects.store first.changes second.changes
            ∙ ap (λ (store : Store (Kept U)). freed_in a.objects.store first.changes ++ freed_in store second.changes)
            (sym (store_ends a.objects first.changes b.objects first.owns))
            ∙ ap₂ (λ (ids others : List IdParts). ids ++ others) first.freed second.freed;
      }

  -- what moves nothing before or behind it
  behind : (a b c : Holding U) (ids : List (HandedId IdParts)) (left : List IdParts) → Moved left a [] b → Moved [] b ids c → Moved left a ids c
  behind a b c ids left first second = with_left a c ids (left ++ []) left (append-nil left) (joined a b c [] ids left [] first second)

  abbrev with_objects : Holding U → Objects (Kept U) → Holding U
  with_objects h objects = record { objects = objects; notes = h.notes }

  -- an object that an id names
  named_held : (store : Store (Kept U)) (id : IdParts) (x : Object (Kept U)) → named store id ≡ Some x → held store id.number ≡ Some x
  named_held store id x e = grind (arith, eqb, held, none_some, named_in, serial_of, id_of)

  -- an object that the client did not destroy
  alive_is : (o : Option (Object (Kept U))) (x : Object (Kept U)) → alive o ≡ Some x → (o ≡ Some x) × (is_over x.value ≡ false)
  alive_is o x h1 = grind (arith, none_some, is_over, same_Some)

  -- an object is named by its id
  id_names : (store : Store (Kept U)) (n : ℕ) (x : Object (Kept U)) → n ≢ 0 → held store n ≡ Some x
      → IsSome (names serial_of (id_of (id_at n x)) store)
  id_names store n x ne e = grind (arith, is_some, named_in, serial_of, id_of, id_at, held, ne_eqb, eq-eqb)

  -- its id is made
  marked : (h : Holding U) (n : ℕ) (x : Object (Kept U)) → held h.objects.store n ≡ Some x → Moved [] h (Found (id_at n x) ∷ []) h
  marked h n x e =
      elim (cases_eq n 0) [
        | inl none ↦ record { changes = []; owns = refl; handed = (λ ne. absurd (ne none), tt); notes = sym (append-nil h.notes); noted = tt; freed = refl }
        | inr some ↦ record {
          changes = Made (id_of (id_at n x)) ∷ [];
          owns = (h.objects, (id_names h.objects.store n x some e, refl), tt, refl);
          handed = (λ ne. inl refl, tt);
          notes = sym (append-nil h.notes);
          noted = tt;
          freed = refl;
        }
      ]

  -- it is written to, which leaves its serial, and whether it is over
  wrote : (h : Holding U) (n : ℕ) (x y : Object (Kept U)) → held h.objects.store n ≡ Some y → serial_of x.value ≡ serial_of y.value
      → is_over x.value ≡ is_over y.value → Moved [] h [] (with_objects h (record h.objects { store = rewritten h.objects.store n x }))
  wrote h n x y e same over = record {
    changes = Wrote n x ∷ [];
    owns = (
      record h.objects { store = rewritten h.objects.store n x },
      ((y, e, same), refl),
      λ z is. over ∙ ap (λ (a : Object (Kept U)). is_over a.value) (same_Some y z (sym e ∙ is)),
      refl,
    );
    handed = tt;
    notes = sym (append-nil h.notes);
    noted = tt;
    freed = refl;
  }

  -- one that is over leaves its number
  gone : (h : Holding U) (n : ℕ) (x : Object (Kept U)) → held h.objects.store n ≡ Some x → is_over x.value ≡ true
      → Moved (id_at n x ∷ []) h [] (with_objects h (record h.objects { store = removed h.objects.store n }))
  gone h n x e over = record {
    changes = Gone n ∷ [];
    owns = (
      record h.objects { store = removed h.objects.store n },
      refl,
      λ y is. ap (λ (a : Object (Kept U)). is_over a.value) (sym (same_Some x y (sym e ∙ is))) ∙ over,
      refl,
    );
    handed = tt;
    notes = sym (append-nil h.notes);
    noted = tt;
    freed = ap (λ (o : Option (Object (Kept U))). id_held n o ++ []) e;
  }

  -- an object takes a free number, and its id is made
  born : (h : Holding U) (n : ℕ) (x : Object (Kept U)) → held h.objects.store n ≡ None → serial_of x.value ≡ h.objects.last_serial + 1
      → Moved [] h (New (id_at n x) ∷ []) (with_objects h (record { store = stored h.objects.store n x; last_serial = h.objects.last_serial + 1 }))
  born h n x free serial =
      let after : Objects (Kept U) = record { store = stored h.objects.store n x; last_serial = h.objects.last_serial + 1 } in
      elim (cases_eq n 0) [
        | inl none ↦ record {
          changes = Born n x ∷ [];
          owns = (after, (free, serial, refl), tt, refl);
          handed = (λ ne. absurd (ne none), tt);
          notes = sym (append-nil h.notes);
          noted = tt;
          freed = refl;
        }
        | inr some ↦ record {
          changes = Born n x ∷ Made (id_of (id_at n x)) ∷ [];
          owns = (after, (free, serial, refl), tt, (after, (id_names after.store n x some (stored_here h.objects.store n x n refl), refl), tt, refl));
          handed = (λ ne. (inl refl, inl (refl, refl)), tt);
          notes = sym (append-nil h.notes);
          noted = tt;
          freed = refl;
        }
      ]

  -- an object ends, and is noted if it has user data
  ends : (h : Holding U) (n : ℕ) (x y : Object (Kept U)) → held h.objects.store n ≡ Some x → is_over x.value ≡ false
      → serial_of y.value ≡ serial_of x.value → is_over y.value ≡ true
      → Moved [] h [] (record { objects = record h.objects { store = rewritten h.objects.store n y }; notes = noted h.notes x.value.user_data (id_at n x) })
  ends h n x y e live serial over =
      let after : Objects (Kept U) = record h.objects { store = rewritten h.objects.store n y } in
      elim (cases_eq n 0) [
        | inl none ↦ record {
          changes = Ended n x (Some y) ∷ [];
          owns = (after, (e, serial, refl), (live, over), refl);
          handed = tt;
          notes = noted_behind h.notes x.value.user_data (id_at n x);
          noted = each_noted x.value.user_data (Ended n x (Some y) ∷ []) (λ ne. absurd (ne none));
          freed = refl;
        }
        | inr some ↦ record {
          changes = Made (id_of (id_at n x)) ∷ Ended n x (Some y) ∷ [];
          owns = (h.objects, (id_names h.objects.store n x some e, refl), tt, (after, (e, serial, refl), (live, over), refl));
          handed = tt;
          notes = noted_behind h.notes x.value.user_data (id_at n x);
          noted = each_noted x.value.user_data (Made (id_of (id_at n x)) ∷ Ended n x (Some y) ∷ []) (λ ne. inl refl);
          freed = refl;
        }
      ]
    where
      each_noted : (u : Option U) (changes : List (Change (Kept U))) → IsHandedIn changes (Found (id_at n x))
          → Each (IsHandedIn changes) (map Found (note_ids (noted [] u (id_at n x) ++ [])))
      each_noted None changes handed = tt
      each_noted (Some u) changes handed = (handed, tt)

  -- ---- the arguments of an event

  module _ (version : ℕ) (destroyed : Bool) (notes : List Note) where
    abbrev at : Objects (Kept U) → Holding U
    at objects = record { objects = objects; notes = notes }

    -- what an argument became
    abbrev One : List IdParts → Converting U → Converted U → Type 0
    One left c (Ok next) = Moved left (at c.objects) (argument_ids (next.0 ∷ [])) (at next.1.objects)
    One left c (Err wrong) = Unit {0}

    converts_object : (c : Converting U) (asked : InterfaceId) (n : ℕ) (b : Bool) (o : Option (Object (Kept U))) → held c.objects.store n ≡ o
        → One [] c (with_object_argument c (cond b (Ok null_parts) (object_argument_of asked n o)))
    converts_object c asked n b o h1 = grind (arith, none_found, fits, with_object_argument, id_at, marked)

    vacates : (o : Objects (Kept U)) (n : ℕ) (x : Option (Object (Kept U))) → held o.store n ≡ x
        → Moved (option_to_list (destroyed_id n x)) (at o) [] (at (record o { store = cond (is_destroyed x) (removed o.store n) o.store }))
    vacates o n None e = still (at o)
    vacates o n (Some x) e = go x.value.client_destroyed refl
      where
        go : (b : Bool) → x.value.client_destroyed ≡ b
            → Moved (option_to_list (cond b (Some (id_at n x)) None)) (at o) [] (at (record o { store = cond b (removed o.store n) o.store }))
        go true is = gone (at o) n x e is
        go false is = still (at o)

    -- the server deletes an id: what the client destroyed leaves its number, and another object is written to
    deletes : (o : Objects (Kept U)) (n : ℕ) (x : Option (Object (Kept U))) → held o.store n ≡ x
        → Moved (option_to_list (destroyed_id n x)) (at o) [] (at (record o { store = deleted_at o.store n x }))
    deletes o n None e = still (at o)
    deletes o n (Some x) e = go x.value.client_destroyed refl
      where
        go : (b : Bool) → x.value.client_destroyed ≡ b
            → Moved (option_to_list (cond b (Some (id_at n x)) None)) (at o) []
            (at (record o { store = cond b (removed o.store n) (rewritten o.store n (with_id_deleted x)) }))
        go true over = gone (at o) n x e over
        go false live = wrote (at o) n (with_id_deleted x) x e refl refl

    -- the object that a new one takes the number of
    abbrev vacating : Converting U → ℕ → List IdParts
    vacating c n = option_to_list (destroyed_id n (held c.objects.store n))

    makes_object : (c : Converting U) (n : ℕ) (i : InterfaceId) → is_valid_new c.objects n ≡ true → One (vacating c n) c (Ok (with_new_at version destroyed c n i))
    makes_object c n i e =
        let between : Objects (Kept U) = record c.objects { store = vacated c.objects.store n } in
        let x : Object (Kept U) = made_object version destroyed i (c.objects.last_serial + 1) in
        let valid = (both (is_server_number n) _ e).1 in
        let free = (both (is_free (vacated c.objects.store n) n) _ valid).0 in
        let none : held between.store n ≡ None = not_some (held between.store n) _ free in
        behind (at c.objects) (at between) (at (record { store = stored between.store n x; last_serial = c.objects.last_serial + 1 })) (New (id_at n x) ∷ []) (vacating c n)
        (vacates c.objects n (held c.objects.store n) refl)
        (born (at between) n x none refl)

    -- the objects that the arguments lead to
    abbrev led : Outcome U → Objects (Kept U)
    led (Whole c args) = c.objects
    led (Wrong w objects) = objects

    -- the object that leaves its number for a new one, if the arguments make one
    abbrev taken_by : Objects (Kept U) → List WireArgument → Objects (Kept U) → List IdParts
    taken_by o args after = option_to_list (cond (after.last_serial == o.last_serial) None (destroyed_at o.store (first_new_id args)))

    taken_none : (o : Objects (Kept U)) (args : List WireArgument) → taken_by o args o ≡ []
    taken_none o args = ap (λ (b : Bool). option_to_list (cond b None (destroyed_at o.store (first_new_id args)))) (eq-eqb o.last_serial o.last_serial refl)

    -- where no object is to be made, none changes
    none_made : (c : Converting U) (done : List (Argument IdParts Token)) (args : List WireArgument) → c.child ≡ None → led (convert version destroyed c done args) ≡ c.objects
    none_made c done [] none = refl
    none_made c done (arg.Int z ∷ args) none = none_made c (done ++ arg.Int z ∷ []) args none
    none_made c done (arg.Uint n ∷ args) none = none_made c (done ++ arg.Uint n ∷ []) args none
    none_made c done (arg.Fixed z ∷ args) none = none_made c (done ++ arg.Fixed z ∷ []) args none
    none_made c done (arg.Str text ∷ args) none = none_made c (done ++ arg.Str text ∷ []) args none
    none_made c done (arg.Array bytes ∷ args) none = none_made c (done ++ arg.Array bytes ∷ []) args none
    none_made c done (arg.Fd token ∷ args) none = none_made c (done ++ arg.Fd token ∷ []) args none
    none_made c done (arg.Object n ∷ args) none =
        go (object_argument c.objects.store (next_interface c.asked) n) (λ id. none_made (record c { asked = rest_of c.asked }) (done ++ arg.Object id ∷ []) args none)
      where
        go : (r : Result IdParts EventFault)
            → ((id : IdParts) → led (convert version destroyed (record c { asked = rest_of c.asked }) (done ++ arg.Object id ∷ []) args) ≡ c.objects)
            → led (going_on (with_object_argument c r) c.objects (λ b next. convert version destroyed next (done ++ b ∷ []) args)) ≡ c.objects
        go (Ok id) rest = rest id
        go (Err w) rest = refl
    none_made c done (arg.NewId n ∷ args) none =
        ap (λ (child : Option InterfaceId). led (going_on (with_new_argument version destroyed c n child) c.objects (λ b next. convert version destroyed next (done ++ b ∷ []) args))) none

    -- what the arguments came to
    abbrev Came : List IdParts → Objects (Kept U) → Outcome U → Type 0
    Came left o (Whole c args) = Moved left (at o) (argument_ids args) (at c.objects)
    Came left o (Wrong w objects) = Moved left (at o) [] (at objects)

    -- what they came to behind these
    abbrev CameBehind : List IdParts → Objects (Kept U) → Converting U → List WireArgument → Outcome U → Type 0
    CameBehind left o c args out = Came (left ++ taken_by c.objects args (led out)) o out

    module _ (o : Objects (Kept U)) (c : Converting U) (done : List (Argument IdParts Token)) (left : List IdParts) (moved : Moved left (at o) (argument_ids done) (at c.objects)) where
      -- one more became this
      one_more : (b : Argument IdParts Token) (next : Converting U) (more : List IdParts) → Moved more (at c.objects) (argument_ids (b ∷ [])) (at next.objects)
          → Moved (left ++ more) (at o) (argument_ids (done ++ b ∷ [])) (at next.objects)
      one_more b next more one =
          subst (λ ids. Moved (left ++ more) (at o) ids (at next.objects)) (sym (argument_ids_both done (b ∷ [])))
          (joined (at o) (at c.objects) (at next.objects) (argument_ids done) (argument_ids (b ∷ [])) left more moved one)

      -- one that took no object's number
      one_still : (b : Argument IdParts Token) (next : Converting U) → Moved [] (at c.objects) (argument_ids (b ∷ [])) (at next.objects)
          → Moved left (at o) (argument_ids (done ++ b ∷ [])) (at next.objects)
      one_still b next one = with_left (at o) (at next.objects) (argument_ids (done ++ b ∷ [])) (left ++ []) left (append-nil left) (one_more b next [] one)

      -- the arguments end here, well or not
      ends_here : (args : List WireArgument) → left ≡ left ++ taken_by c.objects args c.objects
      ends_here args = sym (append-nil left) ∙ ap (λ ids. left ++ ids) (sym (taken_none c.objects args))

      wrong_here : (w : EventFault) (args : List WireArgument) → CameBehind left o c args (Wrong w c.objects)
      wrong_here w args =
          with_left (at o) (at c.objects) [] left (left ++ taken_by c.objects args c.objects) (ends_here args)
          (record { changes = moved.changes; owns = moved.owns; handed = tt; notes = moved.notes; noted = moved.noted; freed = moved.freed })

      -- an object was made
      made_here : (n : ℕ) (i : InterfaceId) (args : List WireArgument) (out : Outcome U) → led out ≡ (with_new_at version destroyed c n i).1.objects
          → CameBehind (left ++ vacating c n) o (with_new_at version destroyed c n i).1 args out → CameBehind left o c (arg.NewId n ∷ args) out
      made_here n i args out is came =
          let made : Objects (Kept U) = (with_new_at version destroyed c n i).1.objects in
          subst (λ ids. Came ids o out)
          (ap (λ (a : Objects (Kept U)). (left ++ vacating c n) ++ taken_by made args a) is
          ∙ ap (λ ids. (left ++ vacating c n) ++ ids) (taken_none made args)
          ∙ append-nil (left ++ vacating c n)
          ∙ ap (λ (b : Bool). left ++ option_to_list (cond b None (destroyed_id n (held c.objects.store n)))) (sym (ne_eqb (c.objects.last_serial + 1) c.objects.last_serial (λ same. omega (arith, same))))
          ∙ ap (λ (a : Objects (Kept U)). left ++ taken_by c.objects (arg.NewId n ∷ args) a) (sym is))
          came

    converts : (o : Objects (Kept U)) (c : Converting U) (done : List (Argument IdParts Token)) (args : List WireArgument) (left : List IdParts)
        → Moved left (at o) (argument_ids done) (at c.objects) → CameBehind left o c args (convert version destroyed c done args)
    converts o c done [] left moved = with_left (at o) (at c.objects) (argument_ids done) left _ (ends_here o c done left moved []) moved
    converts o c done (arg.Int z ∷ args) left moved =
        converts o c (done ++ arg.Int z ∷ []) args left (one_still o c done left moved (arg.Int z) c (still (at c.objects)))
    converts o c done (arg.Uint n ∷ args) left moved =
        converts o c (done ++ arg.Uint n ∷ []) args left (one_still o c done left moved (arg.Uint n) c (still (at c.objects)))
    converts o c done (arg.Fixed z ∷ args) left moved =
        converts o c (done ++ arg.Fixed z ∷ []) args left (one_still o c done left moved (arg.Fixed z) c (still (at c.objects)))
    converts o c done (arg.Str text ∷ args) left moved =
        converts o c (done ++ arg.Str text ∷ []) args left (one_still o c done left moved (arg.Str text) c (still (at c.objects)))
    converts o c done (arg.Array bytes ∷ args) left moved =
        converts o c (done ++ arg.Array bytes ∷ []) args left (one_still o c done left moved (arg.Array bytes) c (still (at c.objects)))
    converts o c done (arg.Fd token ∷ args) left moved =
        converts o c (done ++ arg.Fd token ∷ []) args left (one_still o c done left moved (arg.Fd token) c (still (at c.objects)))
    converts o c done (arg.Object n ∷ args) left moved =
        go (object_argument c.objects.store (next_interface c.asked) n) (converts_object c (next_interface c.asked) n (n == 0) (held c.objects.store n) refl)
        (λ id so-far. converts o (record c { asked = rest_of c.asked }) (done ++ arg.Object id ∷ []) args left so-far)
      where
        go : (r : Result IdParts EventFault) → One [] c (with_object_argument c r)
            → ((id : IdParts) → Moved left (at o) (argument_ids (done ++ arg.Object id ∷ [])) (at c.objects)
            → CameBehind left o c args (convert version destroyed (record c { asked = rest_of c.asked }) (done ++ arg.Object id ∷ []) args))
            → CameBehind left o c (arg.Object n ∷ args) (going_on (with_object_argument c r) c.objects (λ b next. convert version destroyed next (done ++ b ∷ []) args))
        go (Ok id) one rest = rest id (one_still o c done left moved (arg.Object id) (record c { asked = rest_of c.asked }) one)
        go (Err w) one rest = wrong_here o c done left moved w (arg.Object n ∷ args)
    converts o c done (arg.NewId n ∷ args) left moved =
        go c.child (λ i so-far. converts o (made i) (done ++ arg.NewId (id_at n (new_object i)) ∷ []) args (left ++ vacating c n) so-far)
      where
        new_object : InterfaceId → Object (Kept U)
        new_object i = made_object version destroyed i (c.objects.last_serial + 1)

        made : InterfaceId → Converting U
        made i = (with_new_at version destroyed c n i).1

        behind_made : InterfaceId → Outcome U
        behind_made i = convert version destroyed (made i) (done ++ arg.NewId (id_at n (new_object i)) ∷ []) args

        Rest : InterfaceId → Type 0
        Rest i = Moved (left ++ vacating c n) (at o) (argument_ids (done ++ arg.NewId (id_at n (new_object i)) ∷ [])) (at (made i).objects)
            → CameBehind (left ++ vacating c n) o (made i) args (behind_made i)

        valid : (i : InterfaceId) (b : Bool) → is_valid_new c.objects n ≡ b → Rest i
            → CameBehind left o c (arg.NewId n ∷ args)
            (going_on (cond b (Ok (with_new_at version destroyed c n i)) (Err (wrong.InvalidNewId n i))) c.objects (λ b next. convert version destroyed next (done ++ b ∷ []) args))
        valid i false e rest = wrong_here o c done left moved (wrong.InvalidNewId n i) (arg.NewId n ∷ args)
        valid i true e rest =
            made_here o c done left moved n i args (behind_made i) (none_made (made i) (done ++ arg.NewId (id_at n (new_object i)) ∷ []) args refl)
            (rest (one_more o c done left moved (arg.NewId (id_at n (new_object i))) (made i) (vacating c n) (makes_object c n i e)))

        go : (child : Option InterfaceId) → ((i : InterfaceId) → Rest i)
            → CameBehind left o c (arg.NewId n ∷ args)
            (going_on (with_new_argument version destroyed c n child) c.objects (λ b next. convert version destroyed next (done ++ b ∷ []) args))
        go None rest = wrong_here o c done left moved (wrong.InvalidNewId n anonymous_id) (arg.NewId n ∷ args)
        go (Some i) rest = valid i (is_valid_new c.objects n) refl (rest i)

-- ---- a reading

-- the ids of what was handed out
abbrev given_ids : List (Given SessionMessage) → List (HandedId IdParts)
given_ids [] = []
given_ids (HandedOut m ∷ gave) = event_ids (Ok m) ++ given_ids gave
given_ids (Queued m ∷ gave) = given_ids gave

given_ids_both : (gave others : List (Given SessionMessage)) → given_ids (gave ++ others) ≡ given_ids gave ++ given_ids others
given_ids_both [] others = refl
given_ids_both (HandedOut m ∷ gave) others =
    ap (λ ids. event_ids (Ok m) ++ ids) (given_ids_both gave others) ∙ sym (append_assoc (event_ids (Ok m)) (given_ids gave) (given_ids others))
given_ids_both (Queued m ∷ gave) others = given_ids_both gave others

module _ {U : Type 0} where
  abbrev core_holding : Core U → Holding U
  core_holding c = record { objects = cored c; notes = c.notes }

  -- these ids are told, if they are kept
  abbrev Tells : Core U → List IdParts → Core U → Type 0
  Tells c left d = (d.keeps_freed ≡ c.keeps_freed) × (c.keeps_freed ≡ true → d.freed ≡ c.freed ++ left)

  both_told : (c d e : Core U) (left left' : List IdParts) → Tells c left d → Tells d left' e → Tells c (left ++ left') e
  both_told c d e left left' (kept, first) (kept', second) = (
    kept' ∙ kept,
    λ on. second (kept ∙ on) ∙ ap (λ ids. ids ++ left') (first on) ∙ append_assoc c.freed left left',
  )

  -- the ids of what was handed out are handed out in the changes from one to the other
  abbrev CoreMoves : Core U → List (Given SessionMessage) → Core U → Type 0
  CoreMoves c gave d = (left : List IdParts) × Moved left (core_holding c) (given_ids gave) (core_holding d) × Tells c left d

  -- what a message comes to
  abbrev HandlingMoves : List IdParts → List Note → Objects (Kept U) → Handling U → Type 0
  HandlingMoves left notes o h = Moved left (at 0 false notes o) (given_ids (map HandedOut (handed h))) (at 0 false notes (objects_after h))

  display_moves : (notes : List Note) (table : List InterfaceRow) (o : Objects (Kept U)) (e : DisplayEvent)
      → HandlingMoves (option_to_list (destroyed_at o.store (deleted_number e))) notes o (of_display table o e)
  display_moves notes table o (Fails code n text) = still (at 0 false notes o)
  display_moves notes table o (Deletes n) = deletes 0 false notes o n (held o.store n) refl
  display_moves notes table o Unreadable = still (at 0 false notes o)

  converted_moves : (notes : List Note) (table : List InterfaceRow) (o : Objects (Kept U)) (m : WireMessage) (receiver : Object (Kept U)) (row : MessageRow) (outcome : Outcome U)
      → held o.store m.sender ≡ Some receiver → (left : List IdParts) → Came receiver.version receiver.value.client_destroyed notes left o outcome
      → HandlingMoves left notes o (of_converted table o m receiver row outcome)
  converted_moves notes table o m receiver row (Wrong w objects) e left came = came
  converted_moves notes table o m receiver row (Whole c args) e left came = go receiver.value.client_destroyed
    where
      go : (b : Bool) → HandlingMoves left notes o (cond b (Swallows c.objects) (HandsOut (event_of m receiver args) (opened_of m receiver row c.created) c.objects))
      go true = record { changes = came.changes; owns = came.owns; handed = tt; notes = came.notes; noted = came.noted; freed = came.freed }
      go false =
          subst (λ ids. Moved left (at 0 false notes o) ids (at 0 false notes c.objects)) (sym (append-nil (Found (id_at m.sender receiver) ∷ argument_ids args)))
          (joined (at 0 false notes o) (at 0 false notes o) (at 0 false notes c.objects) (Found (id_at m.sender receiver) ∷ []) (argument_ids args) [] left
          (marked (at 0 false notes o) m.sender receiver e) came)

  -- the objects after what the arguments came to
  converted_to : (notes : List Note) (table : List InterfaceRow) (o : Objects (Kept U)) (m : WireMessage) (receiver : Object (Kept U)) (row : MessageRow) (outcome : Outcome U)
      → objects_after (of_converted table o m receiver row outcome) ≡ led receiver.version receiver.value.client_destroyed notes outcome
  converted_to notes table o m receiver row (Wrong w objects) = refl
  converted_to notes table o m receiver row (Whole c args) = go receiver.value.client_destroyed
    where
      go : (b : Bool) → objects_after (cond b (Swallows c.objects) (HandsOut (event_of m receiver args) (opened_of m receiver row c.created) c.objects)) ≡ c.objects
      go true = refl
      go false = refl

  -- the object that leaves its number for the one that an event makes
  abbrev taken_over : Objects (Kept U) → WireMessage → Objects (Kept U) → List IdParts
  taken_over o m after = option_to_list (cond (after.last_serial == o.last_serial) None (destroyed_at o.store (first_new_id m.args)))

  -- no object leaves its number
  nothing : (notes : List Note) (o : Objects (Kept U)) (m : WireMessage) → Moved (taken_over o m o) (at 0 false notes o) [] (at 0 false notes o)
  nothing notes o m = with_left (at 0 false notes o) (at 0 false notes o) [] [] (taken_over o m o) (sym (taken_none 0 false notes o m.args)) (still (at 0 false notes o))

  event_moves : (notes : List Note) (table : List InterfaceRow) (o : Objects (Kept U)) (m : WireMessage) (receiver : Option (Object (Kept U))) (row : Option MessageRow)
      → held o.store m.sender ≡ receiver → HandlingMoves (taken_over o m (objects_after (of_event table o m receiver row))) notes o (of_event table o m receiver row)
  event_moves notes table o m (Some receiver) (Some row) e =
      let out : Outcome U = convert receiver.version receiver.value.client_destroyed (start o row) [] m.args in
      converted_moves notes table o m receiver row out e (taken_over o m (objects_after (of_converted table o m receiver row out)))
      (subst (λ (a : Objects (Kept U)). Came receiver.version receiver.value.client_destroyed notes (taken_over o m a) o out) (sym (converted_to notes table o m receiver row out))
      (converts receiver.version receiver.value.client_destroyed notes o (start o row) [] m.args [] (still (at 0 false notes o))))
  event_moves notes table o m (Some receiver) None e = nothing notes o m
  event_moves notes table o m None row e = nothing notes o m

  handling_moves : (notes : List Note) (table : List InterfaceRow) (o : Objects (Kept U)) (m : WireMessage)
      → HandlingMoves (option_to_list (freed_by o m (objects_after (handling table o m)))) notes o (handling table o m)
  handling_moves notes table o m = go (m.sender == 1)
    where
      of : Bool → Handling U
      of b = cond b (of_display table o (display_event m.opcode m.args)) (of_event table o m (held o.store m.sender) (row_in table (held o.store m.sender) m.opcode))

      go : (b : Bool) → HandlingMoves (option_to_list (cond b (destroyed_at o.store (deleted_number (display_event m.opcode m.args)))
          (cond ((objects_after (of b)).last_serial == o.last_serial) None (destroyed_at o.store (first_new_id m.args))))) notes o (of b)
      go true = display_moves notes table o (display_event m.opcode m.args)
      go false = event_moves notes table o m (held o.store m.sender) (row_in table (held o.store m.sender) m.opcode) refl

  handling_moves_by : (passes : Bool) (notes : List Note) (table : List InterfaceRow) (o : Objects (Kept U)) (m : WireMessage)
      → HandlingMoves (option_to_list (freed_as passes table o m (handling_by passes table o m))) notes o (handling_by passes table o m)
  handling_moves_by passes notes table o m =
      either_way_freed (λ (id : Option IdParts) (h : Handling U). HandlingMoves (option_to_list id) notes o h) passes table o m (still (at 0 false notes o))
      (handling_moves notes table o m)

  -- a core whose objects and notes are these
  comes_to_be : (c d : Core U) (ids : List (HandedId IdParts)) (left : List IdParts) (o : Objects (Kept U)) → cored d ≡ o → d.notes ≡ c.notes
      → Moved left (core_holding c) ids (at 0 false c.notes o) → Moved left (core_holding c) ids (core_holding d)
  comes_to_be c d ids left o objects notes moved =
      subst (λ (a : Objects (Kept U)). Moved left (core_holding c) ids (record { objects = a; notes = d.notes })) (sym objects)
      (subst (λ (ns : List Note). Moved left (core_holding c) ids (record { objects = o; notes = ns })) (sym notes) moved)

  tells_one : (c d : Core U) (id : Option IdParts) → d.keeps_freed ≡ c.keeps_freed → d.freed ≡ with_freed c.keeps_freed c.freed id → Tells c (option_to_list id) d
  tells_one c d id kept is = (kept, λ on. is ∙ ap (λ (b : Bool). with_freed b c.freed id) on ∙ told_listed c.freed id)

  sees : SeesObjects CoreMoves
  sees = record {
    joins = λ c d e g h (left, first, told) (left', second, told'). (
      left ++ left',
      subst (λ ids. Moved (left ++ left') (core_holding c) ids (core_holding e)) (sym (given_ids_both g h))
          (joined (core_holding c) (core_holding d) (core_holding e) (given_ids g) (given_ids h) left left' first second),
      both_told c d e left left' told told',
    );
    handles = λ c m h d is (objects, notes, kept, freed). (
      option_to_list (freed_as c.passes_over c.table (cored c) m h),
      comes_to_be c d (given_ids (map HandedOut (handed h))) _ (objects_after h) objects notes
          (subst (λ (k : Handling U). HandlingMoves (option_to_list (freed_as c.passes_over c.table (cored c) m k)) c.notes (cored c) k) (sym is)
          (handling_moves_by c.passes_over c.notes c.table (cored c) m)),
      tells_one c d (freed_as c.passes_over c.table (cored c) m h) kept freed,
    );
    fails = λ c d (objects, notes, kept, freed). ([], comes_to_be c d [] [] (cored c) objects notes (still (core_holding c)), tells_one c d None kept freed);
  }

-- ---- moves of a session

module _ {T U : Type 0} where
  abbrev holding : SessionState T U → Holding U
  holding s = record { objects = objects_of s; notes = s.notes }

  -- an error stays, and so do the ids of the objects that left their numbers
  abbrev Stays : SessionState T U → SessionState T U → Type 0
  Stays s after = (IsSome s.error → IsSome after.error) × (after.keeps_freed ≡ s.keeps_freed) × (after.freed ≡ s.freed)

  -- the changes of a call that hands out these ids, and in which no object leaves its number
  abbrev pub Moves : SessionState T U → List (HandedId IdParts) → SessionState T U → Type 0
  Moves s ids after = Moved [] (holding s) ids (holding after) × Stays s after

  -- the objects, the notes and the error stay
  idle : (s : SessionState T U) → Moves s [] s
  idle s = (still (holding s), (λ failed. failed, refl, refl))

  both_move : (s m t : SessionState T U) (ids others : List (HandedId IdParts)) → Moves s ids m → Moves m others t → Moves s (ids ++ others) t
  both_move s m t ids others (first, (failed, kept, same)) (second, (failed', kept', same')) =
      (joined (holding s) (holding m) (holding t) ids others [] [] first second, (λ is. failed' (failed is), kept' ∙ kept, same' ∙ same))

  lands : (s : SessionState T U) (ids ids' : List (HandedId IdParts)) (after after' : SessionState T U) → ids' ≡ ids → after' ≡ after → Moves s ids after → Moves s ids' after'
  lands s ids ids' after after' e same moves = subst (λ i. Moves s i after') (sym e) (subst (λ t. Moves s ids t) (sym same) moves)

  -- it came to the same as this
  quiet : (s after after' : SessionState T U) → after' ≡ after → Moves s [] after → Moves s [] after'
  quiet s after after' same moves = lands s [] [] after after' refl same moves

  -- ---- a reading

  next_event : (sends : T → Queue → Result ℕ IoFault → T → Type 0) (receives : T → ℕ → Result Queue IoFault → T → Type 0) (s : SessionState T U)
      (answer : Result SessionMessage EventError) (refused : Bool) (after : SessionState T U) → NextEvent sends receives s answer refused after
      → (left : List IdParts) × Moved left (holding s) (event_ids answer) (holding after) × Tells (core_of s) left (core_of after)
  next_event sends receives s answer refused after h =
      let (left, moved, told) = next_event_respects CoreMoves sees sends receives s answer refused after h in
      (left, subst (λ ids. Moved left (holding s) ids (holding after)) (ids_of answer) moved, told)
    where
      ids_of : (r : Result SessionMessage EventError) → given_ids (handed_by r) ≡ event_ids r
      ids_of (Ok m) = append-nil (event_ids (Ok m))
      ids_of (Err e) = refl

  -- ---- data and destruction

  -- the number holds the object, if there is one, and the client did not destroy it
  abbrev IsAlive : SessionState T U → Option (Numbered U) → Type 0
  IsAlive s None = Unit {0}
  IsAlive s (Some o) = (held s.store o.0 ≡ Some o.1) × (is_over o.1.value ≡ false)

  -- an object that is no longer the client's
  ended : (s : SessionState T U) (o : Option (Numbered U)) → IsAlive s o → Moves s [] (with_ended s o)
  ended s None live = idle s
  ended s (Some (n, x)) (h, live) = (ends (holding s) n x (flagged true x) h live refl refl, (λ failed. failed, refl, refl))

  sets : (s : SessionState T U) (id : IdParts) (u : U) (answer : _) (after : SessionState T U) → DataSet s id u answer after → Moves s [] after
  sets s id u answer after h =
      elim (either_option (named s.store id) h) [
        | inl (none, (is, same)) ↦ quiet s s after same (idle s)
        | inr (x, some, (is, same)) ↦ quiet s _ after same (wrote (holding s) id.number (with_user_data u x) x (named_held s.store id x some) refl refl, (λ failed. failed, refl, refl))
      ]

  destroyable_alive : (s : SessionState T U) (id : IdParts) (x : Object (Kept U)) → destroyable s id ≡ Some x → IsAlive s (Some (id.number, x))
  destroyable_alive s id x e = grind (arith, alive_is, named, eqb, named_held, alive, none_some)

  destroys : (s : SessionState T U) (id : IdParts) (answer : _) (after : SessionState T U) → DestroyedBy s id answer after → Moves s [] after
  destroys s id answer after h =
      elim (either_option (destroyable s id) h) [
        | inl (none, (is, same)) ↦ quiet s s after same (idle s)
        | inr (x, some, inr (is, same, has_data)) ↦ quiet s s after same (idle s)
        | inr (x, some, inl (is, same)) ↦ quiet s _ after same (ended s (Some (id.number, x)) (destroyable_alive s id x some))
      ]

  -- the object that it takes out leaves its number, and is not told
  abbrev Reclaims : SessionState T U → SessionState T U → Type 0
  Reclaims s after = (left : List IdParts) × Moved left (holding s) [] (holding after) × Stays s after

  reclaims : (s : SessionState T U) (id : IdParts) (answer : _) (after : SessionState T U) → ReclaimedBy s id answer after → Reclaims s after
  reclaims s id answer after h =
      elim (either_option (named s.store id) h) [
        | inl (none, (is, same)) ↦ still_here same
        | inr (x, some, end) ↦ by x some x.value.client_destroyed x.value.id_deleted refl end
      ]
    where
      still_here : after ≡ s → Reclaims s after
      still_here same = let q = quiet s s after same (idle s) in ([], q.0, q.1)

      by : (x : Object (Kept U)) → named s.store id ≡ Some x → (a b : Bool) → x.value.client_destroyed ≡ a
          → MatchBool (a && b) ((answer ≡ Ok tt) × (after ≡ record s { store = removed s.store id.number })) ((answer ≡ Err _) × (after ≡ s)) → Reclaims s after
      by x some true true is (ok, same) =
          subst (λ (t : SessionState T U). Reclaims s t) (sym same)
          (id_at id.number x ∷ [], gone (holding s) id.number x (named_held s.store id x some) is, (λ failed. failed, refl, refl))
      by x some true false is (refused, same) = still_here same
      by x some false b is (refused, same) = still_here same

  -- ---- a request

  -- a new object may be put at that number, and has the next serial
  abbrev IsNew : SessionState T U → Option (Numbered U) → Type 0
  IsNew s None = Unit {0}
  IsNew s (Some new) = (held s.store new.0 ≡ None) × (serial_of new.1.value ≡ s.last_serial + 1)

  makes_new : (s : SessionState T U) (new : Option (Numbered U)) → IsNew s new → Moves s (New (id_of_new new) ∷ []) (with_born s new)
  makes_new s None fresh = (none_handed (holding s), (λ failed. failed, refl, refl))
  makes_new s (Some (n, x)) fresh = (born (holding s) n x fresh.0 fresh.1, (λ failed. failed, refl, refl))

  -- the fault of a write is stored
  written_moves : (s : SessionState T U) (link : LinkState T) (w : Result (Unit {0}) IoFault) → Moves s [] (record s { link = link; error = error_after s.error w })
  written_moves s link (Ok u) = idle s
  written_moves s link (Err f) = (still (holding s), (λ failed. refl, refl, refl))

  alive_still : (s : SessionState T U) (new o : Option (Numbered U)) → IsNew s new → IsAlive s o → IsAlive (with_born s new) o
  alive_still s new o h1 h2 = grind (arith, stored_other, none_some, held)

  module _ (sends : T → Queue → Result ℕ IoFault → T → Type 0) (s : SessionState T U) (m : SessionMessage) (answer : Result IdParts RequestError) (after : SessionState T U) where
    -- the request came to nothing
    refuses : (e : RequestError) (after' : SessionState T U) → answer ≡ Err e → after ≡ after' → Moves s [] after' → Moves s (request_ids answer) after
    refuses e after' is same moves = lands s [] (request_ids answer) after' after (ap request_ids is) same moves

    written : (new o : Option (Numbered U)) → IsNew s new → IsAlive s o → Written sends s (wire_message (number_of_new new) m) new o answer after
        → Moves s (request_ids answer) after
    written new o fresh h (w, link, by, end) =
        elim (either_bool (lacks_memory w) end) [
          | inl (is, same) ↦ refuses _ (record s { link = link }) is same (idle s)
          | inr (is, same) ↦
              let now : SessionState T U = record s { link = link; error = error_after s.error w } in
              lands s (New (id_of_new new) ∷ []) (request_ids answer) (with_ended (with_born now new) o) after (ap request_ids is) same
              (both_move s (with_born now new) (with_ended (with_born now new) o) (New (id_of_new new) ∷ []) []
              (both_move s now (with_born now new) [] (New (id_of_new new) ∷ []) (written_moves s link w) (makes_new now new fresh))
              (ended (with_born now new) o (alive_still now new o fresh h)))
        ]

    sent : (new o : Option (Numbered U)) → IsNew s new → IsAlive s o → Sent sends s m new o answer after → Moves s (request_ids answer) after
    sent new o fresh h (inl (is, same, asks)) = refuses _ s is same (idle s)
    sent new o fresh h (inr w) = written new o fresh h w

    sent_with_child : (child : Spec) (u : U) (o : Option (Numbered U)) → IsAlive s o → SentWithChild sends s m child u o answer after
        → Moves s (request_ids answer) after
    sent_with_child child u o h (inl (full, is, same)) = refuses _ s is same (idle s)
    sent_with_child child u o h (inr (n, least, end)) =
        elim (either_bool (eqb s.last_serial last_possible_serial) end) [
          | inl (is, same) ↦ refuses _ s is same (idle s)
          | inr w ↦ sent (Some (n, new_child s child u)) o (least.absent, refl) h w
        ]

    sent_as : (child : Option Spec) (u : Option U) (o : Option (Numbered U)) → IsAlive s o → SentAs sends s m child u o answer after
        → Moves s (request_ids answer) after
    sent_as None u o h w = sent None o tt h w
    sent_as (Some child) None o h w = absurd w
    sent_as (Some child) (Some u) o h w = sent_with_child child u o h w

    -- the sender of a request that is granted
    sender_alive : (x : Object (Kept U)) (row : Option MessageRow) (has_data : Bool) (spec : Option Spec) (g : Granted)
        → checked_row s.table s.store x row m has_data spec ≡ Ok g → is_over x.value ≡ false
    sender_alive x row has_data spec g h1 = grind (arith, true≢false, is_ok, grant, unless, first_refusal, when)

    ended_alive : (has_data : Bool) (spec : Option Spec) (g : Granted) → request_check s.table s.store m has_data spec ≡ Ok g
        → (b : Bool) → IsAlive s (ended_by s.store m b)
    ended_alive has_data spec g h1 b = grind (arith, named, checked_sender, option_map, named_held, sender_alive)

    requested : (u : Option U) (spec : Option Spec) → Requested sends s m u spec answer after → Moves s (request_ids answer) after
    requested u spec h =
        elim (value_or_error (request_check s.table s.store m (is_some u) spec) h) [
          | inl (g, e, w) ↦ sent_as g.child u (ended_by s.store m g.is_destructor) (ended_alive (is_some u) spec g e g.is_destructor) w
          | inr (e, refused, (is, same)) ↦ refuses e s is same (idle s)
        ]

  -- ---- the end of an event, and a flush

  dead : (s : SessionState T U) (n : ℕ) (o : Option (Object (Kept U))) → ((x : Object (Kept U)) → o ≡ Some x → held s.store n ≡ Some x)
      → Moves s [] (with_core s (with_dead (core_of s) n o))
  dead s n None h = idle s
  dead s n (Some x) h = go x.value.client_destroyed refl
    where
      go : (b : Bool) → x.value.client_destroyed ≡ b → Moves s [] (record s {
        store = rewritten s.store n (flagged true x);
        notes = cond b s.notes (noted s.notes x.value.user_data (id_at n x));
      })
      go true is = (wrote (holding s) n (flagged true x) x (h x refl) refl (sym is), (λ failed. failed, refl, refl))
      go false is = (ends (holding s) n x (flagged true x) (h x refl) is refl refl, (λ failed. failed, refl, refl))

  destructor : (s : SessionState T U) (event : OpenEvent) → Moves s [] (with_core s (after_destructor (core_of s) event))
  destructor s event = grind (arith, with_core, with_dead, core_of, named, dead, named_held, idle)

  gives_data : (s : SessionState T U) (created : Option IdParts) (u : Option U) → Moves s [] (with_core s (with_data_for (core_of s) created u))
  gives_data s None u = idle s
  gives_data s (Some id) None = idle s
  gives_data s (Some id) (Some u) = go (named s.store id) refl
    where
      go : (o : Option (Object (Kept U))) → named s.store id ≡ o
          → Moves s [] (record s { store = data_given s.store id.number o u })
      go None e = idle s
      go (Some x) e = (wrote (holding s) id.number (with_user_data u x) x (named_held s.store id x e) refl refl, (λ failed. failed, refl, refl))

  finishes_event : (s : SessionState T U) (event : OpenEvent) (u : Option U) (answer : _) (after : SessionState T U) → FinishesEvent s event u answer after → Moves s [] after
  finishes_event s event u answer after (inl (is, same)) =
      let unopened : SessionState T U = record s { open_event = None } in
      let ended = with_core s (after_destructor (core_of unopened) event) in
      quiet s _ after same
      (both_move s ended (with_core s (with_data_for (core_of ended) event.created u)) [] [] (destructor unopened event) (gives_data ended event.created u))
  finishes_event s event u answer after (inr (ends_sender, (is, same))) = quiet s s after same (idle s)

  finishes : (s : SessionState T U) (u : Option U) (answer : _) (after : SessionState T U) → Finishes s u answer after → Moves s [] after
  finishes s u answer after h =
      elim (either_option s.open_event h) [
        | inl (none, (is, same)) ↦ quiet s s after same (idle s)
        | inr (event, some, g) ↦
            elim (either_option (refusal event.created u) g) [
              | inl (none, end) ↦ finishes_event s event u answer after end
              | inr (e, why, (is, same)) ↦ quiet s s after same (idle s)
            ]
      ]

  flush_ends : (s : SessionState T U) (r : _) (answer : Result (Unit {0}) FlushError) (after : SessionState T U) → FlushEnds s r answer after → Moves s [] after
  flush_ends s r answer after h1 = grind (arith, quiet, idle, still)

  flushes : (sends : T → Queue → Result ℕ IoFault → T → Type 0) (s : SessionState T U) (answer : Result (Unit {0}) FlushError) (after : SessionState T U)
      → SessionFlushed sends s answer after → Moves s [] after
  flushes sends s answer after h = grind (arith, either_option, flush_ends, quiet, idle)

-- ---- a step

module _ {U : Type 0} where
  -- no object left, and none is for the list
  for_none : (call : Step U) → for_list call [] ≡ []
  for_none (step.Reclaim id) = refl
  for_none _ = refl

module _ {T U : Type 0} where
  -- While ids are kept, those that wait, and those of the objects that leave their numbers in a call, are those that it hands out, and
  -- then those that wait after it.
  abbrev pub CallTells : SessionState T U → Step U → Reply U → SessionState T U → List IdParts → Type 0
  CallTells s call reply after left = s.keeps_freed ≡ true → KeepsOn call → (after.keeps_freed ≡ true) × (s.freed ++ for_list call left ≡ freed_taken reply ++ after.freed)

  abbrev pub DeedTells : SessionState T U → Deed T U → SessionState T U → List IdParts → Type 0
  DeedTells s d after left = s.keeps_freed ≡ true → GoesOnKeeping d → (after.keeps_freed ≡ true) × (s.freed ++ freed_for d left ≡ freed_from d ++ after.freed)

  -- the changes of a step, which hand out the ids of its reply; the notes that wait, and those of what ends, are those that
  -- are handed out and those that wait after it; and an error stays; and so it is with the ids of the objects that leave their numbers
  pub record StepMoves (s : SessionState T U) (ids : List (HandedId IdParts)) (told : List Note) (Freed : List IdParts → Type 0) (after : SessionState T U) : Type 0 where
    pub changes : List (Change (Kept U))
    pub owns : StepEnds serial_of is_over (objects_of s) changes (objects_of after)
    pub handed : Each (IsHandedIn changes) ids
    pub notes : s.notes ++ ended_notes changes ≡ told ++ after.notes
    pub noted : Each (IsHandedIn changes) (noted_ids changes)
    pub stays : IsSome s.error → IsSome after.error
    pub freed : Freed (freed_in s.store changes)

  module _ (s : SessionState T U) where
    abbrev Steps : Step U → Reply U → SessionState T U → Type 0
    Steps call reply after = StepMoves s (ids_in reply) (notes_in reply) (CallTells s call reply after) after

    by_left : (call : Step U) (reply : Reply U) (ids : List (HandedId IdParts)) (left : List IdParts) (after : SessionState T U) → ids_in reply ≡ ids → notes_in reply ≡ []
        → Moved left (holding s) ids (holding after) → (IsSome s.error → IsSome after.error) → CallTells s call reply after left → Steps call reply after
    by_left call reply ids left after is none moved failed tells = record {
      changes = moved.changes;
      owns = moved.owns;
      handed = subst (λ i. Each (IsHandedIn moved.changes) i) (sym is) moved.handed;
      notes = sym moved.notes ∙ ap (λ ns. ns ++ after.notes) (sym none);
      noted = moved.noted;
      stays = failed;
      freed = subst (CallTells s call reply after) (sym moved.freed) tells;
    }

    by_moves : (call : Step U) (reply : Reply U) (ids : List (HandedId IdParts)) (after : SessionState T U) → ids_in reply ≡ ids → notes_in reply ≡ [] → freed_taken reply ≡ []
        → Moves s ids after → Steps call reply after
    by_moves call reply ids after is none untaken (moved, (failed, kept, same)) =
        by_left call reply ids [] after is none moved failed
        (λ on keeps. (
          kept ∙ on,
          ap (λ left. s.freed ++ left) (for_none call) ∙ append-nil s.freed ∙ sym same ∙ ap (λ taken. taken ++ after.freed) (sym untaken),
        ))

    by_quiet : (call : Step U) (reply : Reply U) (after after' : SessionState T U) → ids_in reply ≡ [] → notes_in reply ≡ [] → freed_taken reply ≡ [] → after' ≡ after
        → Moves s [] after → Steps call reply after'
    by_quiet call reply after after' is none untaken same moves = by_moves call reply [] after' is none untaken (quiet s after after' same moves)

    -- the objects stay
    untouched : (call : Step U) (reply : Reply U) (after : SessionState T U) → ids_in reply ≡ [] → objects_of after ≡ objects_of s → s.notes ≡ notes_in reply ++ after.notes
        → (IsSome s.error → IsSome after.error) → CallTells s call reply after [] → Steps call reply after
    untouched call reply after none same notes failed tells = record {
      changes = [];
      owns = same;
      handed = subst (λ i. Each (IsHandedIn {U = U} []) i) (sym none) tt;
      notes = append-nil s.notes ∙ notes;
      noted = tt;
      stays = failed;
      freed = tells;
    }

    pub call_moves : (sends : T → Queue → Result ℕ IoFault → T → Type 0) (receives : T → ℕ → Result Queue IoFault → T → Type 0) (call : Step U) (reply : Reply U) (refused : Bool) (after : SessionState T U)
        → CallOf sends receives s call reply refused after → Steps call reply after
    call_moves sends receives (step.SetData id u) reply refused after (r, is, no_memory, h) =
        by_moves (step.SetData id u) reply [] after (ap ids_in is) (ap notes_in is) (ap freed_taken is) (sets s id u r after h)
    call_moves sends receives (step.DestroyObject id) reply refused after (r, is, no_memory, h) =
        by_moves (step.DestroyObject id) reply [] after (ap ids_in is) (ap notes_in is) (ap freed_taken is) (destroys s id r after h)
    call_moves sends receives (step.Reclaim id) reply refused after (r, is, no_memory, h) =
        let (left, moved, (failed, kept, same)) = reclaims s id r after h in
        by_left (step.Reclaim id) reply [] left after (ap ids_in is) (ap notes_in is) moved failed
        (λ on keeps. (kept ∙ on, append-nil s.freed ∙ sym same ∙ ap (λ taken. taken ++ after.freed) (sym (ap freed_taken is))))
    call_moves sends receives (step.SendRequest m u spec) reply refused after (r, is, no_memory, h) =
        by_moves (step.SendRequest m u spec) reply (request_ids r) after (ap ids_in is) (ap notes_in is) (ap freed_taken is) (requested sends s (session_content m) r after u spec h)
    call_moves sends receives step.Flush reply refused after (r, is, no_memory, h) =
        by_moves step.Flush reply [] after (ap ids_in is) (ap notes_in is) (ap freed_taken is) (flushes sends s r after h)
    call_moves sends receives step.NextEvent reply refused after (r, is, h) =
        let (left, moved, (kept, told)) = next_event sends receives s (event_content r) refused after h in
        by_left step.NextEvent reply (event_ids (event_content r)) left after (ap ids_in is) (ap notes_in is) moved
        (λ failed. subst (λ (a : SessionState T U). IsSome a.error) (sym (read_fails sends receives s (event_content r) refused after failed h).1) failed)
        (λ on keeps. (kept ∙ on, sym (told on) ∙ ap (λ taken. taken ++ after.freed) (sym (ap freed_taken is))))
    call_moves sends receives (step.FinishEvent u) reply refused after (r, is, no_memory, h) =
        by_moves (step.FinishEvent u) reply [] after (ap ids_in is) (ap notes_in is) (ap freed_taken is) (finishes s u r after h)
    call_moves sends receives (step.Fail e) reply refused after (is, no_memory, same) =
        by_quiet (step.Fail e) reply _ after (ap ids_in is) (ap notes_in is) (ap freed_taken is) same (still (holding s), (λ failed. refl, refl, refl))
    call_moves sends receives step.DispatchInnerQueue reply refused after (is, no_memory, same) =
        by_quiet step.DispatchInnerQueue reply _ after (ap ids_in is) (ap notes_in is) (ap freed_taken is) same (idle s)
    call_moves sends receives (step.SetMaxBufferSize limit) reply refused after (is, no_memory, (link, set, same)) =
        by_quiet (step.SetMaxBufferSize limit) reply _ after (ap ids_in is) (ap notes_in is) (ap freed_taken is) same (idle s)
    call_moves sends receives (step.PassOverUnknownSenders passes) reply refused after (is, no_memory, same) =
        by_quiet (step.PassOverUnknownSenders passes) reply _ after (ap ids_in is) (ap notes_in is) (ap freed_taken is) same
        (still (holding s), (λ failed. failed, refl, refl))
    call_moves sends receives step.TakeNotes reply refused after (notes, is, no_memory, taken, same) =
        untouched step.TakeNotes reply after (ap ids_in is) (ap objects_of same)
        (sym taken ∙ sym (append-nil notes.items) ∙ ap₂ (λ (ns others : List Note). ns ++ others) (sym (ap notes_in is)) (sym (ap (λ (a : SessionState T U). a.notes) same)))
        (λ failed. subst (λ (a : SessionState T U). IsSome a.error) (sym same) failed)
        (λ on keeps. (
          ap (λ (a : SessionState T U). a.keeps_freed) same ∙ on,
          append-nil s.freed ∙ sym (ap (λ (a : SessionState T U). a.freed) same) ∙ ap (λ taken. taken ++ after.freed) (sym (ap freed_taken is)),
        ))
    call_moves sends receives (step.KeepFreed keeps) reply refused after (is, no_memory, same) =
        untouched (step.KeepFreed keeps) reply after (ap ids_in is) (ap objects_of same)
        (sym (ap (λ (a : SessionState T U). a.notes) same) ∙ ap (λ ns. ns ++ after.notes) (sym (ap notes_in is)))
        (λ failed. subst (λ (a : SessionState T U). IsSome a.error) (sym same) failed)
        (λ on go. (
          ap (λ (a : SessionState T U). a.keeps_freed) same ∙ go,
          append-nil s.freed ∙ sym (ap (λ (a : SessionState T U). a.freed) same ∙ ap₂ (λ (a b : Bool). cond (a && b) s.freed []) go on)
              ∙ ap (λ taken. taken ++ after.freed) (sym (ap freed_taken is)),
        ))
    call_moves sends receives step.NextFreed reply refused after (id, is, no_memory, h) =
        let (same, waited) = hands_freed s id after h in
        untouched step.NextFreed reply after (ap ids_in is) (ap objects_of same)
        (sym (ap (λ (a : SessionState T U). a.notes) same) ∙ ap (λ ns. ns ++ after.notes) (sym (ap notes_in is)))
        (λ failed. subst (λ (a : SessionState T U). IsSome a.error) (sym same) failed)
        (λ on keeps. (
          ap (λ (a : SessionState T U). a.keeps_freed) same ∙ on,
          append-nil s.freed ∙ waited ∙ ap (λ taken. taken ++ after.freed) (sym (ap freed_taken is)),
        ))
    call_moves sends receives _ reply refused after h = absurd h

module _ {U : Type 0} (s : SessionState Script U) where
  pub step_moves : (call : Step U) (reply : Reply U) (refused : Bool) (after : SessionState Script U) → StepOf s call reply refused after → Steps s call reply after
  step_moves (step.Arrive bytes tokens) reply refused after (Ok u, is, no_memory, h) = by_quiet s (step.Arrive bytes tokens) reply _ after (ap ids_in is) (ap notes_in is) (ap freed_taken is) h.1 (idle s)
  step_moves (step.Arrive bytes tokens) reply refused after (Err arrive.TooManyTokens, is, no_memory, h) = by_quiet s (step.Arrive bytes tokens) reply _ after (ap ids_in is) (ap notes_in is) (ap freed_taken is) h.1 (idle s)
  step_moves (step.Arrive bytes tokens) reply refused after (Err arrive.OutOfMemory, is, no_memory, h) = by_quiet s (step.Arrive bytes tokens) reply _ after (ap ids_in is) (ap notes_in is) (ap freed_taken is) h.1 (idle s)
  step_moves (step.ArriveFault f) reply refused after (Ok u, is, no_memory, same) = by_quiet s (step.ArriveFault f) reply _ after (ap ids_in is) (ap notes_in is) (ap freed_taken is) same (idle s)
  step_moves (step.ArriveFault f) reply refused after (Err e, is, no_memory, same) = by_quiet s (step.ArriveFault f) reply _ after (ap ids_in is) (ap notes_in is) (ap freed_taken is) same (idle s)
  step_moves (step.Accept n) reply refused after (Ok u, is, no_memory, same) = by_quiet s (step.Accept n) reply _ after (ap ids_in is) (ap notes_in is) (ap freed_taken is) same (idle s)
  step_moves (step.Accept n) reply refused after (Err e, is, no_memory, same) = by_quiet s (step.Accept n) reply _ after (ap ids_in is) (ap notes_in is) (ap freed_taken is) same (idle s)
  step_moves (step.AcceptFault f) reply refused after (Ok u, is, no_memory, same) = by_quiet s (step.AcceptFault f) reply _ after (ap ids_in is) (ap notes_in is) (ap freed_taken is) same (idle s)
  step_moves (step.AcceptFault f) reply refused after (Err e, is, no_memory, same) = by_quiet s (step.AcceptFault f) reply _ after (ap ids_in is) (ap notes_in is) (ap freed_taken is) same (idle s)
  step_moves step.TakeSent reply refused after (taken, is, no_memory, h, same) = by_quiet s step.TakeSent reply _ after (ap ids_in is) (ap notes_in is) (ap freed_taken is) same (idle s)
  step_moves (step.SetData id u) reply refused after h = call_moves s ScriptSends ScriptReceives (step.SetData id u) reply refused after h
  step_moves (step.DestroyObject id) reply refused after h = call_moves s ScriptSends ScriptReceives (step.DestroyObject id) reply refused after h
  step_moves (step.Reclaim id) reply refused after h = call_moves s ScriptSends ScriptReceives (step.Reclaim id) reply refused after h
  step_moves (step.SendRequest m u spec) reply refused after h = call_moves s ScriptSends ScriptReceives (step.SendRequest m u spec) reply refused after h
  step_moves step.Flush reply refused after h = call_moves s ScriptSends ScriptReceives step.Flush reply refused after h
  step_moves step.NextEvent reply refused after h = call_moves s ScriptSends ScriptReceives step.NextEvent reply refused after h
  step_moves (step.FinishEvent u) reply refused after h = call_moves s ScriptSends ScriptReceives (step.FinishEvent u) reply refused after h
  step_moves (step.Fail e) reply refused after h = call_moves s ScriptSends ScriptReceives (step.Fail e) reply refused after h
  step_moves step.DispatchInnerQueue reply refused after h = call_moves s ScriptSends ScriptReceives step.DispatchInnerQueue reply refused after h
  step_moves (step.SetMaxBufferSize limit) reply refused after h = call_moves s ScriptSends ScriptReceives (step.SetMaxBufferSize limit) reply refused after h
  step_moves (step.PassOverUnknownSenders passes) reply refused after h = call_moves s ScriptSends ScriptReceives (step.PassOverUnknownSenders passes) reply refused after h
  step_moves step.TakeNotes reply refused after h = call_moves s ScriptSends ScriptReceives step.TakeNotes reply refused after h
  step_moves (step.KeepFreed keeps) reply refused after h = call_moves s ScriptSends ScriptReceives (step.KeepFreed keeps) reply refused after h
  step_moves step.NextFreed reply refused after h = call_moves s ScriptSends ScriptReceives step.NextFreed reply refused after h

-- ---- a deed

module _ {T U : Type 0} (makes : Making T U)
    (moves : (s : SessionState T U) (call : Step U) (reply : Reply U) (refused : Bool) (after : SessionState T U) → makes s call reply refused after → Steps s call reply after) where
  -- so a deed moves them; a change of the transport moves nothing, nor do interfaces
  pub deed_moves : (s : SessionState T U) (d : Deed T U) (after : SessionState T U) → Does makes s d after → StepMoves s (ids_by d) (notes_by d) (DeedTells s d after) after
  deed_moves s (Called e) after by = moves s e.step e.answer e.refused after by
  deed_moves s (Changed t) after same = record {
    changes = [];
    owns = ap objects_of same;
    handed = tt;
    notes = append-nil s.notes ∙ sym (ap (λ (a : SessionState T U). a.notes) same);
    noted = tt;
    stays = λ failed. subst (λ (a : SessionState T U). IsSome a.error) (sym same) failed;
    freed = λ on keeps. (ap (λ (a : SessionState T U). a.keeps_freed) same ∙ on, append-nil s.freed ∙ sym (ap (λ (a : SessionState T U). a.freed) same));
  }
  deed_moves s (Grown growth answer) after (answers, same) = record {
    changes = [];
    owns = ap objects_of same;
    handed = tt;
    notes = append-nil s.notes ∙ sym (ap (λ (a : SessionState T U). a.notes) same);
    noted = tt;
    stays = λ failed. subst (λ (a : SessionState T U). IsSome a.error) (sym same) failed;
    freed = λ on keeps. (ap (λ (a : SessionState T U). a.keeps_freed) same ∙ on, append-nil s.freed ∙ sym (ap (λ (a : SessionState T U). a.freed) same));
  }
