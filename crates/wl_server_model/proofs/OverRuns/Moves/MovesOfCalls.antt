-- That what a program does with one client is a chain of base moves.
use Rattle.std.proofs.Common.{◌≡◌, ◌≢◌, ◌⊎◌, ℕ, ◌+◌, ◌≤◌, Bool, true, false, cond, eqb, List, [], ◌∷◌, ◌++◌, map, Option, None, Some, is_some, Result, Ok, Err, refl, sym, ap, ◌∙◌, append-nil, true≢false, arith}
use mathlib.Core.Logic.{inl, inr}
use Rattle.std.specs.Prelude.{slice_get, is_ok}
use Rattle.std.proofs.lemmas.Option.{none-some}
use Rattle.wl_wire.specs.declared.error.IoFault.{IoFault}
use Rattle.wl_wire.specs.declared.error.IoFault.TheVariants as fault
use Rattle.wl_wire.specs.declared.interface.InterfaceId.{InterfaceId}
use Rattle.wl_wire.specs.Table.{InterfaceRow}
use Rattle.wl_link.specs.declared.object.Object.{Object}
use Rattle.wl_link.proofs.Calls.Branches.{either_bool, either_option}
use Rattle.wl_link.specs.Exchange.{Queue, Sending}
use Rattle.wl_link.specs.Link.{LinkState, WroteBy}
use Rattle.wl_link.specs.Puts.{Said, PutsOut}
use Rattle.wl_link.specs.Reader.{Verdict}
use Rattle.wl_link.specs.Identity.{New}
use Rattle.wl_link.specs.Store.{Store, held, removed, rewritten, server_range, stored}
use Rattle.wl_link.proofs.Ids.StoreLaws.{removed_here}
use Rattle.wl_server_client.specs.declared.reading.action.OpenAction.TheVariants as opened
use Rattle.wl_server_client.specs.declared.error.CreateAtError.{CreateAtError}
use Rattle.wl_server_client.specs.declared.error.CreateError.{CreateError}
use Rattle.wl_server_client.specs.declared.error.DestroyError.{DestroyError}
use Rattle.wl_server_client.specs.declared.error.EventError.{EventError}
use Rattle.wl_server_client.specs.declared.error.FinishRefused.{FinishRefused}
use Rattle.wl_server_client.specs.declared.objects.Kept.{Kept}
use Rattle.wl_server_client.specs.declared.notes.DisconnectReason.{DisconnectReason}
use Rattle.wl_server_client.specs.declared.notes.DisconnectReason.TheVariants.{ProtocolError as BrokeProtocol, ConnectionClosed}
use Rattle.wl_server_model.specs.HandedIds.{made_ids}
use Rattle.wl_server_model.proofs.OverRuns.Moves.BaseMoves.{Doings, Kind, born, finished, followed, handing, joined, leaving as leaves, left_by, left_id, moved, nothing_done, putting, sending, stayed, told, versioned, went, wrote}
use Rattle.wl_server_client.specs.Chosen.{CreatesNumbered, VersionSet, has_version, is_free_own, with_version}
use Rattle.wl_server_client.specs.declared.error.VersionError.{VersionError}
use Rattle.wl_server_client.specs.Deeds.{Deed, Noted, Sent, left_if, Put}
use Rattle.wl_server_model.proofs.OverRuns.Moves.DoingsLaws.{doings_in, doings_in_both, doings_sends, joined_none, told_deeds, doings_puts, told_did}
use Rattle.wl_server_client.specs.Errors.{PostsError, error_of, posts}
use Rattle.wl_server_client.specs.Events.{SendsEvent, SentAs, SessionMessage, argument_faults, checked_row, checked_sender, ends_closed, ends_sender, event_check, granted, said, wire_message}
use Rattle.wl_server_client.specs.Finish.{FinishesBind, FinishesRequest, core_finished, data_given, ended_by, ends, ends_request, refusal, store_with_data}
use Rattle.wl_server_client.specs.Ids.{ClientParts, IdParts}
use Rattle.wl_server_model.proofs.OverRuns.Moves.MovesOfVerdicts.{Comes, Go, at, lands_at, lands_not, same_doings, tells_moves, lands_killed, comes_silently}
use Rattle.wl_server_client.specs.Objects.{Creates, Destroys, destroyable, destroys, new_object, without}
use Rattle.wl_server_client.specs.Part.{Part, end_note, id_at, id_of, last_possible_serial, named, note_of_end, serial_of, with_link, with_user_data}
use Rattle.wl_server_client.specs.Telling.{Core, Did, Kills, Tells, Told, closed_down, core_of, deletions, killed, tells}
use Rattle.wl_server_model.proofs.ObjectCalls.Choosing.{either_flag, own_absent}
use Rattle.wl_server_client.proofs.ObjectCalls.Destroying.{named_is_held}
use Rattle.wl_server_client.proofs.Readings.Finishing.{still_gone}

-- ---- what an id names

module _ {U : Type 0} where
  pub named_serial : (store : Store (Kept U)) (id : IdParts) (x : Object (Kept U)) → named store id ≡ Some x → x.value.serial ≡ id.serial
  named_serial store id x e = grind (arith, eqb, held, serial_of, id_of)

  -- where its number holds none, an id names none
  gone_named : (store : Store (Kept U)) (id : IdParts) → held store id.number ≡ None → is_some (named store id) ≡ false
  gone_named store id e = grind (arith, eqb, is_some, serial_of, id_of, held)

  -- the deeds of an object that leaves: its note waits, or is made at once
  abbrev pub left_deeds : ClientParts → Bool → IdParts → Object (Kept U) → List (Deed U)
  left_deeds client waits id x = cond waits [] (map Noted (note_of_end client id.number x)) ++ left_if (id_of id) x.value.user_data

  -- an object left in what the core came to, and else nothing happened; the deeds are among what is handed out, where it is gone
  abbrev pub leaving_by : {C : Type 0} → ClientParts → Core U C → Core U C → Bool → Bool → IdParts → Object (Kept U) → List Said
      → Verdict (Core U C) (Told U)
  leaving_by client e starved waits asks id x puts = record (tells e puts) {
    asks = asks;
    starved = starved;
    events = λ d. cond (is_some (named d.store id)) [] (map Did (left_deeds client waits id x));
  }

  doings_left : (client : ClientParts) (waits : Bool) (id : IdParts) (x : Object (Kept U)) → x.value.serial ≡ id.serial
      → doings_in (left_deeds client waits id x) ≡ leaves client waits id.number x
  doings_left client waits id x is = grind (arith, doings_in, end_note, id_at, id_of, nothing_done, left_id, left_if)

not_zero : (n : ℕ) → server_range.first ≤ n → n ≢ 0
not_zero n least zero = omega (arith, least, zero)

module _ {U : Type 0} where
  -- what a check grants is the object that the id names
  pub granted_named : (client : ClientParts) (store : Store (Kept U)) (table : List InterfaceRow) (m : SessionMessage) (g : Object (Kept U) × Bool)
      → event_check client store table m ≡ Ok g
      → named store m.sender ≡ Some g.0
  granted_named client store table m g e = grind (arith, named, granted, true≢false, is_ok, checked_row, argument_faults, checked_sender)

module _ {T U C : Type 0} (kind : Kind) (sends : T → Queue → Result ℕ IoFault → T → Type 0) (receives : T → ℕ → Result Queue IoFault → T → Type 0)
    (client : ClientParts) where
  abbrev Move : Part T U C → Doings U → Part T U C → Type 0
  Move p d q = Go kind sends receives client p d q

  abbrev Come : Core U C → Verdict (Core U C) (Told U) → Type 0
  Come c v = Comes kind sends receives client c v

  -- a call that does nothing
  stays : (p : Part T U C) (did : List (Deed U)) (q : Part T U C) → did ≡ [] → q ≡ p → Move p (doings_in did) q
  stays p did q none same = stayed (ap doings_in none) same

  -- ---- data, and new objects

  pub writes : {p q : Part T U C} {d : Doings U} (n : ℕ) (x : Object (Kept U)) (u : U) → held p.store n ≡ Some x → d ≡ nothing_done
      → q ≡ record p { store = rewritten p.store n (with_user_data u x) } → Move p d q
  writes n x u there none same = moved (wrote n x u there none same)

  bears : {p q : Part T U C} {d : Doings U} (n : ℕ) (x : Object (Kept U)) → held p.store n ≡ None → n ≢ 0 → x.value.serial ≡ p.last_serial + 1
      → d ≡ handing (New (id_at client n x) ∷ []) → q ≡ record p { store = stored p.store n x; last_serial = p.last_serial + 1 } → Move p d q
  bears n x free ne serial made same = moved (born n x free ne serial made same)

  versions : {p q : Part T U C} {d : Doings U} (n : ℕ) (x : Object (Kept U)) (version : ℕ) → held p.store n ≡ Some x → d ≡ nothing_done
      → q ≡ record p { store = rewritten p.store n (with_version version x) } → Move p d q
  versions n x version there none same = moved (versioned n x version there none same)

  pub sets_version : (table : List InterfaceRow) (p : Part T U C) (id : IdParts) (version : ℕ) (answer : Result (Unit {0}) VersionError)
      (did : List (Deed U)) (q : Part T U C)
      → did ≡ [] → VersionSet table p id version answer q → Move p (doings_in did) q
  sets_version table p id version answer did q none h =
      elim (either_option (named p.store id) h) [
        | inl (nobody, (is, same)) ↦ stays p did q none same
        | inr (x, there, set) ↦
            elim (either_bool (has_version table x.interface version) set) [
              | inl (is, same) ↦ versions id.number x version (named_is_held p.store id x there) (ap doings_in none) same
              | inr (is, same) ↦ stays p did q none same
            ]
      ]

  pub numbered_moves : (table : List InterfaceRow) (p : Part T U C) (i : InterfaceId) (version n : ℕ) (u : U) (answer : Result IdParts CreateAtError)
      (q : Part T U C)
      → CreatesNumbered table client p i version n u answer q → Move p (handing (made_ids answer)) q
  numbered_moves table p i version n u answer q h =
      elim (either_option (slice_get table i.0) h) [
        | inl (unknown, (is, same)) ↦ rw (is, same) (stayed refl refl)
        | inr (row, known, more) ↦
            elim (either_bool (eqb p.last_serial last_possible_serial) more) [
              | inl (is, same) ↦ rw (is, same) (stayed refl refl)
              | inr by ↦ elim (either_flag (is_free_own p.store n) by) [
                | inl (free, inl (is, same)) ↦ let (absent, ne) = own_absent p.store n free in
                    rw is (bears n (new_object p i version u) absent ne refl refl same)
                | inl (free, inr (is, unused, same)) ↦ rw (is, same) (stayed refl refl)
                | inr (taken, (is, same)) ↦ rw (is, same) (stayed refl refl)
              ]
            ]
      ]

  pub creates_moves : (table : List InterfaceRow) (p : Part T U C) (i : InterfaceId) (version : ℕ) (u : U) (answer : Result IdParts CreateError)
      (q : Part T U C)
      → Creates table client p i version u answer q → Move p (handing (made_ids answer)) q
  creates_moves table p i version u answer q h = grind (arith, slice_get, eqb, last_possible_serial, bears, new_object, not_zero, handing, stayed)

  -- ---- an object that leaves

  leaves_comes : (c e starved : Core U C) (waits asks : Bool) (id : IdParts) (x : Object (Kept U)) (puts : List Said) → c.ended ≡ None
      → named c.store id ≡ Some x
      → e.ended ≡ None → held e.store id.number ≡ None
      → ((l : LinkState T) → Move (left_by client waits (at kind sends receives client c l) id.number x) nothing_done
      (at kind sends receives client e l))
      → (starved ≡ closed_down e) ⊎ (starved ≡ c) → Come c (leaving_by client e starved waits asks id x puts)
  leaves_comes c e starved waits asks id x puts none is none_then gone moves back = (
    did,
    lands_at kind sends receives client c did e none_then
        (λ l. followed (moved (went id.number x waits (named_is_held c.store id x is) refl refl)) (moves l)
        (doings_left client waits id x (named_serial c.store id x is) ∙ sym (joined_none _))),
    λ d store. grind (arith, gone_named, told_did did [] refl, append-nil, gone, store),
    grind (arith, end_note, id_at, id_of, left_if),
    inl refl,
    elim back [ inl over ↦ inl over | inr back ↦ inr (back, (ap (λ (b : Bool). told_deeds (cond b [] (map Did did))) (ap is_some is))) ],
  )
    where
      did : List (Deed U)
      did = left_deeds client waits id x

  -- and then the client is closed down
  closes_comes : (c : Core U C) (v : Verdict (Core U C) (Told U)) → Come c v → Come c (record (tells (closed_down v.core) []) { events = v.events })
  closes_comes c v (made, lands, events, quiet, last, starved) =
      (made, lands_killed kind sends receives client c made v.core ConnectionClosed kind.closes lands, events, quiet, inl refl, inl refl)

  pub destroys_moves : (p : Part T U C) (id : IdParts) (answer : Result (Unit {0}) DestroyError) (lacked : Bool) (did : List (Deed U))
      (q : Part T U C)
      → Destroys sends client p id answer lacked did q → Move p (doings_in did) q
  destroys_moves p id answer lacked did q h =
      elim (either_option (destroyable p id) h) [
        | inl (none, (is, no_memory, nothing, same)) ↦ stays p did q nothing same
        | inr (x, some, (is, tells')) ↦
            tells_moves kind sends receives client p (destroys client (core_of p) id x) lacked did q
            (leaves_comes (core_of p) _ _ true (is_some x.value.user_data) id x (deletions id.number) refl (grind (arith, eqb, named)) refl
            (removed_here p.store id.number id.number refl) (λ l. stayed refl refl) (inr refl)) tells'
      ]

  -- ---- messages alone, errors, the end of a client

  pub tells_comes : (c : Core U C) (messages : List Said) → c.ended ≡ None → Come c (tells c messages)
  tells_comes c messages none =
      comes_silently kind sends receives client c (tells c messages) (lands_not kind sends receives client c none) (λ e. refl) (inl refl) refl

  posts_comes : (table : List InterfaceRow) (c : Core U C) (id : IdParts) (code : ℕ) (text : List ℕ)
      → kind.kills (BrokeProtocol (error_of table id code text)) → c.ended ≡ None
      → Come c (posts table c id code text)
  posts_comes table c id code text may none =
      comes_silently kind sends receives client c (posts table c id code text) (lands_not kind sends receives client c none) (λ e. refl)
      (inr (BrokeProtocol (error_of table id code text), may, refl)) refl

  pub posts_moves : (table : List InterfaceRow) (p : Part T U C) (id : IdParts) (code : ℕ) (text : List ℕ) (lacked : Bool) (did : List (Deed U))
      (q : Part T U C)
      → kind.kills (BrokeProtocol (error_of table id code text)) → PostsError sends table p id code text lacked did q → Move p (doings_in did) q
  posts_moves table p id code text lacked did q may h =
      elim (either_bool (eqb id.number 0) h) [
        | inl (no_memory, none, same) ↦ stays p did q none same
        | inr tells' ↦ tells_moves kind sends receives client p (posts table (core_of p) id code text) lacked did q
            (posts_comes table (core_of p) id code text may refl) tells'
      ]

  pub kills_moves : (p : Part T U C) (reason : DisconnectReason) (did : List (Deed U)) (q : Part T U C) → kind.kills reason → Kills p reason did q
      → Move p (doings_in did) q
  kills_moves p reason did q may (is, same) =
      rw (is, same)
      (same_doings kind sends receives client _ _ _ _ (grind (arith, (killed (core_of p) reason).ended))
      ((lands_killed kind sends receives client (core_of p) [] (core_of p) reason may
      (lands_not kind sends receives client (core_of p) refl)).moves p.link))

  -- ---- an event

  module _ (m : SessionMessage) (sender : Object (Kept U)) where
    ends_sender_comes : (c : Core U C) (b : Bool) → c.ended ≡ None → named c.store m.sender ≡ Some sender → Come c (ends_sender client c m sender b)
    ends_sender_comes c false none is = tells_comes c [] none
    ends_sender_comes c true none is =
        leaves_comes c _ _ true false m.sender sender (deletions m.sender.number) none is none
        (removed_here c.store m.sender.number m.sender.number refl)
        (λ l. stayed refl refl) (inl refl)

    -- the client is closed down, and its sender ends all the same
    ends_closed_comes : (c : Core U C) (b : Bool) → c.ended ≡ None → named c.store m.sender ≡ Some sender → Come c (ends_closed client c m sender b)
    ends_closed_comes c false none is = closes_comes c (ends_sender client c m sender false) (ends_sender_comes c false none is)
    ends_closed_comes c true none is = closes_comes c (ends_sender client c m sender true) (ends_sender_comes c true none is)

    module _ (p : Part T U C) (b : Bool) (es : List Sending) (link : LinkState T) (answer : Result (Unit {0}) EventError) (lacked : Bool)
        (rest did : List (Deed U)) (q : Part T U C)
        (is : named p.store m.sender ≡ Some sender) (did_so : did ≡ map Sent es ++ rest) where
      -- the event was written so, and then a verdict was carried out
      then_tells : (put : List Said) (w : Result (Unit {0}) IoFault) (v : Verdict (Core U C) (Told U)) (more : List (Deed U))
          → PutsOut sends p.link (said m ∷ []) es put w link → rest ≡ map Put put ++ more → Come (core_of p) v → Tells sends v link lacked more q
          → Move p (doings_in did) q
      then_tells put w v more puts rest_so comes tells' =
          followed (moved (told (said m ∷ []) es put w link puts refl refl))
          (tells_moves kind sends receives client (with_link p link) v lacked more q comes tells')
          (rw (did_so, rest_so) (grind (arith, doings_in_both, doings_sends, doings_puts, joined, putting, sending)))

      sent_moves : (w : Result (Unit {0}) IoFault) → WroteBy sends p.link (wire_message m) es w link
          → SentAs sends client p m sender b w link answer lacked rest q
          → Move p (doings_in did) q
      sent_moves (Ok u) by (more, tells', is_ok', rest_so) =
          then_tells (said m ∷ []) (Ok tt) (ends_sender client (core_of p) m sender b) more
          (es, Ok tt, link, inl by, ([], [], sym (append-nil es), refl, (refl, refl, refl, refl))) rest_so
          (ends_sender_comes (core_of p) b refl is) tells'
      sent_moves (Err fault.OutOfMemory) by (is_err, no_memory, none, same) =
          moved {d = doings_in did}
          (told (said m ∷ []) es [] (Err fault.OutOfMemory) link ((es, Err fault.OutOfMemory, link, inl by, (refl, refl, refl, refl)))
          (ap doings_in (did_so ∙ ap (λ (ds : List (Deed U)). map Sent es ++ ds) none ∙ append-nil (map Sent es)) ∙ doings_sends es) same)
      sent_moves (Err f) by h =
          then_tells [] (Err f) (ends_closed client (core_of p) m sender b) rest
          (es, Err f, link, inl by, (refl, refl, refl, refl)) refl (ends_closed_comes (core_of p) b refl is) h.0

  pub sends_moves : (table : List InterfaceRow) (p : Part T U C) (m : SessionMessage) (answer : Result (Unit {0}) EventError) (lacked : Bool)
      (did : List (Deed U)) (q : Part T U C)
      → SendsEvent sends client table p m answer lacked did q → Move p (doings_in did) q
  sends_moves table p m answer lacked did q h1 = grind (arith, either_bool, stays, event_check, doings_in, sent_moves, granted_named, stayed, named, granted, true≢false, is_ok, checked_row, argument_faults, checked_sender)

  -- ---- the end of an action

  -- the object that the action made gets the data, if it is still kept
  data_moves : (p : Part T U C) (created : Option IdParts) (u : Option U)
      → Move p nothing_done (record p { store = store_with_data p.store created u })
  data_moves p created u = grind (arith, stayed, named, nothing_done, data_given, writes, named_is_held)

  ends_comes : kind.finishes ≡ true → (c : Core U C) (id : IdParts) (o : Option (Object (Kept U))) (created : Option IdParts) (u : Option U)
      → c.ended ≡ None
      → ((x : Object (Kept U)) → o ≡ Some x → named c.store id ≡ Some x) → Come c (ends client c id o created u)
  ends_comes may c id None created u none is =
      comes_silently kind sends receives client c (ends client c id None created u)
      (lands_at kind sends receives client c [] (core_finished c created u) none
      (λ l. followed (data_moves (at kind sends receives client c l) created u) (moved (finished may refl refl)) refl)) (λ e. refl) (inl refl) refl
  ends_comes may c id (Some x) created u none is =
      leaves_comes c _ c false (is_some x.value.user_data) id x (deletions id.number) none (is x refl) none
      (still_gone (removed c.store id.number) id.number created u (removed_here c.store id.number id.number refl))
      (λ l. (followed (data_moves (at kind sends receives client (without c id.number x) l) created u) (moved (finished may refl refl)) refl))
      (inr refl)

  pub finishes_moves : kind.finishes ≡ true → (p : Part T U C) (u : Option U) (answer : Result (Unit {0}) (FinishRefused (Option U))) (lacked : Bool)
      (did : List (Deed U)) (q : Part T U C)
      → FinishesRequest sends client p u answer lacked did q → Move p (doings_in did) q
  finishes_moves may p u answer lacked did q h =
      elim (either_option p.action h) [
        | inl (none, refuses) ↦ stays p did q refuses.2 refuses.3
        | inr (opened.Bind object, is, refuses) ↦ stays p did q refuses.2 refuses.3
        | inr (opened.Request sender b created, is, g) ↦
            elim (either_option (refusal p.is_killed created u) g) [
              | inr (e, why, refuses) ↦ stays p did q refuses.2 refuses.3
              | inl (none, (is', tells')) ↦
                  tells_moves kind sends receives client p (ends_request client (core_of p) sender b created u) lacked did q
                  (ends_comes may (core_of p) sender (ended_by p.store sender b) created u refl (λ x e.
                  (grind (arith, none-some, p.store)))) tells'
            ]
      ]

  pub finishes_bind_moves : kind.finishes ≡ true
      → (p : Part T U C) (u : U) (answer : Result (Unit {0}) (FinishRefused U)) (lacked : Bool) (did : List (Deed U)) (q : Part T U C)
      → FinishesBind p u answer lacked did q → Move p (doings_in did) q
  finishes_bind_moves may p u answer lacked did q h =
      elim (either_option p.action h) [
        | inl (none, refuses) ↦ stays p did q refuses.2 refuses.3
        | inr (opened.Request sender b created, is, refuses) ↦ stays p did q refuses.2 refuses.3
        | inr (opened.Bind object, is, (is', no_memory, none, same)) ↦
            rw (same, none) (followed (data_moves p (Some object) (Some u)) (moved (finished may refl refl)) refl)
      ]
