-- That each call on what is one client's has one outcome, where memory is not refused to it and what a transport answers and
-- becomes follows from its value.
use Rattle.std.proofs.Common.{◌≡◌, ℕ, Bool, false, List, [], map, Option, None, Some, Result, Ok, Err, sym, ap, subst, ◌∙◌, true≢false, arith, ◌≢◌, true, ◌∷◌, is_ok, refl, ap₂}
use Rattle.std.specs.Prelude.{◌==◌, MatchBool, MatchOption, slice_get}
use mathlib.Core.Logic.{inl, inr}
use Rattle.wl_wire.specs.declared.error.IoFault.{IoFault}
use Rattle.wl_wire.specs.declared.error.IoFault.TheVariants as fault
use Rattle.wl_wire.specs.declared.interface.InterfaceId.{InterfaceId}
use Rattle.wl_wire.specs.Table.{InterfaceRow}
use Rattle.wl_link.specs.declared.object.Object.{Object}
use Rattle.wl_link.proofs.Calls.Branches.{both_bool, both_option, both_result}
use Rattle.wl_link.specs.Exchange.{Queue, IsFunction, IsReceiveFunction, Sending}
use Rattle.wl_link.specs.Link.{LinkState, LimitSet, count_of, counted_answer}
use Rattle.wl_link.proofs.Calls.OneLaws.{one_flush_lem, one_write_lem, one_fill_lem}
use Rattle.wl_link.specs.Puts.{Said, PutsOut, lacks_memory}
use Rattle.wl_link.proofs.Readings.PutsLaws.{not_lacked, puts_one}
use Rattle.wl_link.specs.Reader.{Verdict, handled_in, CarriesOut, Given, Gives, Handled, Lacks, Leaves, ReaderState, Reader, Reads, Received, Stops, Takes, Then, Turn, Unread, with_link as with_link_read}
use Rattle.wl_link.proofs.Readings.ReaderLaws.{reads_one}
use Rattle.wl_link.proofs.Readings.ServedLaws.{carries_one, both_false, finds_one}
use Rattle.wl_link.specs.Store.{server_range}
use Rattle.wl_server_client.specs.declared.reading.action.OpenAction.{OpenAction}
use Rattle.wl_server_client.specs.declared.reading.action.OpenAction.TheVariants as opened
use Rattle.wl_server_client.specs.declared.reading.action.Reading.{Reading}
use Rattle.wl_server_client.specs.declared.error.ActionError.{ActionError}
use Rattle.wl_server_client.specs.declared.objects.Kept.{Kept}
use Rattle.wl_server_client.specs.Chosen.{CreatesNumbered, VersionSet, has_version, is_free_own}
use Rattle.wl_server_client.specs.Deeds.{Deed, Handed}
use Rattle.wl_server_client.specs.Errors.{PostsError, posts}
use Rattle.wl_server_client.specs.Events.{SendsEvent, SendsGranted, SentAs, SessionMessage, ends_closed, ends_sender, event_check, said, wire_message, session_content}
use Rattle.wl_server_client.specs.Felt.{FlushedTo, Hears, objects_leave}
use Rattle.wl_server_client.specs.Finish.{FinishesOpen, FinishesRequest, ends_request, refusal}
use Rattle.wl_server_client.specs.Ids.{ClientParts, IdParts, same_client}
use Rattle.wl_server_model.specs.Moves.{Move, Moved, nothing_taken, taken}
use Rattle.wl_link.proofs.Calls.NumberLaws.{full_not_absent, least_absent_one, limit_set_one, fresh_one}
use Rattle.wl_server_client.specs.Objects.{Creates, DataSet, Destroys, destroyable, destroys, new_object}
use Rattle.wl_server_model.proofs.OverRuns.Outcome.MoveLaws.{IsMoveFunction, IsDetermined}
use Rattle.wl_server_client.specs.Part.{Part, last_possible_serial, named, with_link}
use Rattle.wl_server_model.specs.PartStep.{Quietly, WithTransport, lacks_create, lacks_create_at, lacks_move, Asked, Call, Changed, Grown, InsertedAs, OfClient, OnPart, PartCall, PartStep, Unfelt, World, around, share_of}
use Rattle.wl_server_client.specs.Reading.{Around, NextAction, answered, exchanges_in, read_on, server, action_content, new_reading}
use Rattle.wl_server_client.specs.Telling.{Core, Tells, Told, core_of, deeds_of, part_of, reader_part, speaker, tells}
use Rattle.wl_link.specs.Served.{Finds}
use Rattle.wl_link.proofs.Calls.ReadLaws.{one_read_lem}
use Rattle.wl_server_client.specs.declared.error.EventError.TheVariants as event
use Rattle.wl_server_client.specs.declared.error.InsertClientError.{InsertClientError}
use Rattle.wl_server_client.specs.declared.error.ScriptError.{ScriptError}
use Rattle.wl_server_model.specs.declared.step.Reply.{Reply}
use Rattle.wl_server_model.specs.declared.step.Reply.TheVariants as reply
use Rattle.wl_server_model.specs.declared.step.Step.{Step}
use Rattle.wl_server_model.specs.declared.step.Step.TheVariants as step
use Rattle.wl_server_client.specs.Globals.{Offer}
use Rattle.wl_server_model.specs.Outcome.{SameCall, SameOutcome, SameReply, SameStep, SharedAnswer, SharedSame}
use Rattle.wl_server_model.specs.Runs.{is_about}
use Rattle.wl_server_model.specs.Server.{Seen}
use Rattle.wl_server_model.specs.Steps.{lacks_growth}

module _ {T : Type 0} (sends : T → Queue → Result ℕ IoFault → T → Type 0) (function : IsFunction sends) where
  -- ---- messages that are put

  puts_sends : (ms : List Said) (before x y : LinkState T) (es fs : List Sending) (p q : List Said) (a b : Result (Unit {0}) IoFault)
      → a ≢ Err fault.OutOfMemory → b ≢ Err fault.OutOfMemory → PutsOut sends before ms es p a x → PutsOut sends before ms fs q b y → es ≡ fs
  puts_sends [] before x y es fs p q a b ok ok' (none, put, is, same) (none', put', is', same') = none ∙ sym none'
  puts_sends (m ∷ ms) before x y es fs p q a b ok ok' (first, o, mid, wrote, end) (first', o', mid', wrote', end') =
      grind (arith, one_write_lem, true≢false, is_ok, both_result, puts_sends ms mid x y)

  module _ {Core Event Finish : Type 0} (reader : Reader Core Event Finish) where
    -- ---- a verdict that is carried out

    pub carries_sends : (v : Verdict Core Event) (before : LinkState T) (x y : ReaderState T Core) (es fs : List Sending) (g h : List (Given Event))
        → CarriesOut sends reader v before es g false x → CarriesOut sends reader v before fs h false y → es ≡ fs
    carries_sends v before x y es fs g h h9 other =
        grind (arith, true≢false, both_false, lacks_memory, not_lacked, puts_one, puts_sends, both_bool, one_flush_lem)

    -- ---- a reading

    abbrev refused_of : Gives Event → Bool
    refused_of o = o.refused

    -- a reading that ends where the core would read on has no receive left
    ends : (left : ℕ) (p : ReaderState T Core) (out : Gives Event) → reader.reads_on p.core ≡ true → out.refused ≡ false
        → Stops sends reader left p out
        → Lacks sends reader p × (left ≡ 0)
    ends left p out on ample stops' = grind (arith, true≢false)

    -- two verdicts that were carried out, and what follows them
    then_same : (Found : ReaderState T Core → Verdict Core Event → LinkState T → Type 0) (mk : List Sending → Turn) (p : ReaderState T Core)
        → ((v : Verdict Core Event) (l : LinkState T) → Found p v l → Finds sends reader p v l) → (es fs : List Sending) (turns turns' : List Turn)
        (o o' : Gives Event) (on on' : ReaderState T Core → Gives Event → Type 0) → o.refused ≡ false → o'.refused ≡ false
        → Then sends reader Found p es o on → Then sends reader Found p fs o' on'
        → ((mid : ReaderState T Core) (r r' : Gives Event) → r.refused ≡ false → r'.refused ≡ false → on mid r → on' mid r' → turns ≡ turns')
        → mk es ∷ turns ≡ mk fs ∷ turns'
    then_same Found mk p finds es fs turns turns' o o' on on' ample ample' (reads, (v, link, first, lacked, mid, rest, found, carried, split, more))
        (reads', (w, link', first', lacked', mid', rest', found', carried', split', more')) goes =
        let one = finds_one sends function reader p v w link link' (finds v link found) (finds w link' found') in
        let ok = both_false lacked rest.refused (sym ample ∙ ap refused_of split) in
        let ok' = both_false lacked' rest'.refused (sym ample' ∙ ap refused_of split') in
        let known = rw ok.0 at carried in
        let known' = rw (← one.0, ← one.1, ok'.0) at carried' in
        let ends = carries_one sends function reader v link mid mid' es fs first first' known known' in
        ap₂ (λ (z : List Sending) (l : List Turn). mk z ∷ l) (carries_sends v link mid mid' es fs first first' known known')
        (goes mid rest rest' ok.1 ok'.1 more (rw (← ends.after) at more'))

    module _ (receives : T → ℕ → Result Queue IoFault → T → Type 0) (receives_function : IsReceiveFunction receives) where
      pub reads_turns : (left : ℕ) (p x y : ReaderState T Core) (turns turns' : List Turn) (o o' : Gives Event) → o.refused ≡ false
          → o'.refused ≡ false
          → Reads sends reader receives left p turns o x → Reads sends reader receives left p turns' o' y → turns ≡ turns'
      reads_turns left p x y [] [] o o' ample ample' h h' = refl
      reads_turns left p x y (Received r ∷ turns) (Received r' ∷ turns') o o' ample ample' (on, lacks, (n, is, (link, filled, finds, a)))
          (on', lacks', (n', is', (link', filled', finds', b))) = grind (arith, counted_answer, count_of, true≢false, is_ok, not_lacked, refused_of, one_fill_lem, both_result, with_link_read, reads_turns n (with_link_read p link) x y turns turns' o o' ample ample')
      reads_turns left p x y (Handled es ∷ turns) (Handled fs ∷ turns') o o' ample ample' h h' =
          then_same (Takes sends reader) Handled p (λ v l t. inl t) es fs turns turns' o o' _ _ ample ample' h h'
          (λ mid. reads_turns left mid x y turns turns')
      reads_turns left p x y (Unread es ∷ turns) (Unread fs ∷ turns') o o' ample ample' h h' =
          then_same (Leaves sends reader) Unread p (λ v l t. inr t) es fs turns turns' o o' _ _ ample ample' h h'
          (λ mid. reads_turns left mid x y turns turns')
      reads_turns left p x y turns turns' o o' ample ample' h h' = absurd (grind (arith, ends, one_read_lem, true≢false, is_ok))

-- ---- the same choice is made in both of two cases

pub by_bool : {P P' Q Q' R : Type 0} (b : Bool) → MatchBool b P Q → MatchBool b P' Q' → (P → P' → R) → (Q → Q' → R) → R
by_bool true p p' first second = first p p'
by_bool false q q' first second = second q q'

pub by_option : {A P P' R : Type 0} {Q Q' : A → Type 0} (o : Option A) → MatchOption o P Q → MatchOption o P' Q' → (P → P' → R)
    → ((x : A) → Q x → Q' x → R) → R
by_option None p p' none some = none p p'
by_option (Some x) q q' none some = some x q q'

-- ---- what two outcomes share

-- the deeds and the values of two outcomes are the same
pub record SameFelt {U S : Type 0} (d e : List (Deed U)) (x y : S) : Type 0 where
  pub did : d ≡ e
  pub after : x ≡ y

-- and so are the answers
pub record SameEnd {A U S : Type 0} (a b : A) (d e : List (Deed U)) (x y : S) : Type 0 where
  pub answer : a ≡ b
  pub did : d ≡ e
  pub after : x ≡ y

-- what is done without an answer, or with one, has one outcome
abbrev pub IsFelt : {U S : Type 0} → (Bool → List (Deed U) → S → Type 0) → Type 0
IsFelt {U} {S} R = (d e : List (Deed U)) (x y : S) → R false d x → R false e y → SameFelt d e x y

abbrev pub IsOne : {A U S : Type 0} → (A → Bool → List (Deed U) → S → Type 0) → Type 0
IsOne {A} {U} {S} R = (a b : A) (d e : List (Deed U)) (x y : S) → R a false d x → R b false e y → SameEnd a b d e x y

pub same_felt : {U S : Type 0} {d e f : List (Deed U)} {x y z : S} → d ≡ f → e ≡ f → x ≡ z → y ≡ z → SameFelt d e x y
same_felt did did' same same' = record { did = did ∙ sym did'; after = same ∙ sym same' }

pub same_end : {A U S : Type 0} {a b c : A} {d e f : List (Deed U)} {x y z : S} → a ≡ c → b ≡ c → d ≡ f → e ≡ f → x ≡ z → y ≡ z → SameEnd a b d e x y
same_end is is' did did' same same' = record { answer = is ∙ sym is'; did = did ∙ sym did'; after = same ∙ sym same' }

pub answered_too : {A U S : Type 0} {a b c : A} {d e : List (Deed U)} {x y : S} → a ≡ c → b ≡ c → SameFelt d e x y → SameEnd a b d e x y
answered_too is is' one = record { answer = is ∙ sym is'; did = one.did; after = one.after }

-- nothing was done in both
both_unfelt : {U S P P' : Type 0} {d e f : List (Deed U)} {x y z : S} → P × (d ≡ f) × (x ≡ z) → P' × (e ≡ f) × (y ≡ z) → SameFelt d e x y
both_unfelt (unlacked, did, same) (unlacked', did', same') = same_felt did did' same same'

both_refused : {A U S P P' : Type 0} {a b c : A} {d e f : List (Deed U)} {x y z : S} → (a ≡ c) × P × (d ≡ f) × (x ≡ z)
    → (b ≡ c) × P' × (e ≡ f) × (y ≡ z) → SameEnd a b d e x y
both_refused (is, unlacked, did, same) (is', unlacked', did', same') = same_end is is' did did' same same'

module _ {T U C : Type 0} where
  -- ---- objects, limits and transports

  pub sets_one : (s : Part T U C) (id : IdParts) (u : U) → IsOne {U = U} (λ a l d x. Quietly l d (DataSet s id u a x))
  sets_one s id u a b d e x y h g = grind (arith, same_end)

  pub versions_one : (table : List InterfaceRow) (s : Part T U C) (id : IdParts) (version : ℕ)
      → IsOne {U = U} (λ a l d x. Quietly l d (VersionSet table s id version a x))
  versions_one table s id version a b d e x y (unlacked, did, h) (unlacked', did', g) =
      elim (both_option (named s.store id) h g) [
        | inl (none, (is, same), (is', same')) ↦ same_end is is' did did' same same'
        | inr (o, there, h', g') ↦
            elim (both_bool (has_version table o.interface version) h' g') [
              | inl ((is, same), (is', same')) ↦ same_end is is' did did' same same'
              | inr ((is, same), (is', same')) ↦ same_end is is' did did' same same'
            ]
      ]

  pub numbered_one : (client : ClientParts) (table : List InterfaceRow) (s : Part T U C) (i : InterfaceId) (version n : ℕ) (u : U)
      → IsOne {U = U} (λ a l d x. (l ≡ lacks_create_at a) × (d ≡ []) × CreatesNumbered table client s i version n u a x)
  numbered_one client table s i version n u a b d e x y (unlacked, did, h) (unlacked', did', g) =
      elim (both_option (slice_get table i.0) h g) [
        | inl (none, (is, same), (is', same')) ↦ same_end is is' did did' same same'
        | inr (row, some, h', g') ↦
            elim (both_bool (s.last_serial == last_possible_serial) h' g') [
              | inl ((is, same), (is', same')) ↦ same_end is is' did did' same same'
              | inr (h'', g'') ↦
                  elim (both_bool (is_free_own s.store n) h'' g'') [
                    | inr ((is, same), (is', same')) ↦ same_end is is' did did' same same'
                    | inl (inl (is, same), inl (is', same')) ↦ same_end is is' did did' same same'
                    | inl (inr (is, unused, same), other) ↦ absurd (true≢false (sym (unlacked ∙ ap lacks_create_at is)))
                    | inl (inl one, inr (is', unused, same')) ↦ absurd (true≢false (sym (unlacked' ∙ ap lacks_create_at is')))
                  ]
            ]
      ]

  pub creates_one : (client : ClientParts) (table : List InterfaceRow) (s : Part T U C) (i : InterfaceId) (version : ℕ) (u : U)
      → IsOne {U = U} (λ a l d x. (l ≡ lacks_create a) × (d ≡ []) × Creates table client s i version u a x)
  creates_one client table s i version u a b d e x y (unlacked, did, h) (unlacked', did', g) =
      elim (both_option (slice_get table i.0) h g) [
        | inl (none, (is, same), (is', same')) ↦ same_end is is' did did' same same'
        | inr (row, some, inl (full, is, same), inl (full', is', same')) ↦ same_end is is' did did' same same'
        | inr (row, some, inl (full, is, same), inr (n, least, end)) ↦ absurd (full_not_absent server_range s.store n full least)
        | inr (row, some, inr (n, least, end), inl (full, is, same)) ↦ absurd (full_not_absent server_range s.store n full least)
        | inr (row, some, inr (n, least, end), inr (n', least', end')) ↦
            grind (arith, least_absent_one server_range s.store n' n least' least, same_end, true≢false, lacks_create, new_object s i version u)
      ]

  pub limits_one : (s : Part T U C) (limit : ℕ)
      → IsFelt {U = U} (λ l d x. Quietly l d ((link : LinkState T) × LimitSet s.link (Some limit) link × (x ≡ with_link s link)))
  limits_one s limit d e x y (unlacked, did, (link, set, same)) (unlacked', did', (link', set', same')) =
      grind (arith, limit_set_one s.link (Some limit) link link' set set', same_felt)

  pub moves_one : (moves : T → Move → Moved → T → Type 0) → IsMoveFunction moves → (s : Part T U C) (m : Move)
      → IsOne {U = U} (λ a l d x. (l ≡ lacks_move a) × (d ≡ []) × WithTransport (λ t t'. moves t m a t') s x)
  moves_one moves function s m a b d e x y (unlacked, did, (t, moved, same)) (unlacked', did', (t', moved', same')) = grind (arith)

  module _ (sends : T → Queue → Result ℕ IoFault → T → Type 0) (function : IsFunction sends) where
    -- ---- what is told

    pub tells_one : (v : Verdict (Core U C) (Told U)) (link : LinkState T) → IsFelt (Tells sends v link)
    tells_one v link d e x y (es, gave, end, carried, did, same) (fs, gave', end', carried', did', same') =
        let one = carries_one sends function speaker v link end end' es fs gave gave' carried carried' in
        let sent = carries_sends sends function speaker v link end end' es fs gave gave' carried carried' in grind (arith, deeds_of, map, part_of)

    pub destroys_one : (client : ClientParts) (s : Part T U C) (id : IdParts) → IsOne (Destroys sends client s id)
    destroys_one client s id a b d e x y h g =
        by_option (destroyable s id) h g both_refused
        (λ o told told'. answered_too told.0 told'.0 (tells_one (destroys client (core_of s) id o) s.link d e x y told.1 told'.1))

    pub posts_error_one : (table : List InterfaceRow) (s : Part T U C) (id : IdParts) (code : ℕ) (text : List ℕ)
        → IsFelt (PostsError sends table s id code text)
    posts_error_one table s id code text d e x y h g =
        by_bool (id.number == 0) h g both_unfelt (tells_one (posts table (core_of s) id code text) s.link d e x y)

    pub hears_one : (s : Part T U C) (messages : List Said) → IsFelt (Hears sends s messages)
    hears_one s messages d e x y h g = by_bool s.is_killed h g both_unfelt (tells_one (tells (core_of s) messages) s.link d e x y)

    -- ---- flushes

    pub flushed_one : (s : Part T U C) → IsOne (FlushedTo sends s)
    flushed_one s a b d e x y h8 h9 = grind (arith, one_flush_lem, not_lacked, map, with_link)

    module _ (client : ClientParts) (s : Part T U C) where
      -- ---- an event

      sent_as_one : (m : SessionMessage) (sender : Object (Kept U)) (ends : Bool) (wrote : Result (Unit {0}) IoFault) (link : LinkState T)
          → IsOne (SentAs sends client s m sender ends wrote link)
      sent_as_one m sender ends (Ok u) link a b d e x y (more, told, is, did) (more', told', is', did') =
          let one = tells_one (ends_sender client (core_of s) m sender ends) link more more' x y told told' in grind (arith, said)
      sent_as_one m sender ends (Err f) link a b d e x y h g = grind (arith, true≢false, answered_too, tells_one, ends_closed, core_of)

      sends_granted_one : (m : SessionMessage) (sender : Object (Kept U)) (ends : Bool) → IsOne (SendsGranted sends client s m sender ends)
      sends_granted_one m sender ends a b d e x y (inl (asks, is, lacked, did, same)) other = absurd (true≢false (sym lacked))
      sends_granted_one m sender ends a b d e x y (inr h) (inl (asks, is, lacked, did, same)) = absurd (true≢false (sym lacked))
      sends_granted_one m sender ends a b d e x y (inr (es, rest, w, link, by, sent, did)) (inr (fs, rest', w', link', by', sent', did')) =
          let same = one_write_lem sends function (wire_message m) link link' es fs w w' (λ is. grind (arith, true≢false))
          (λ is. grind (arith, true≢false))
          s.link by by' in
          let one = sent_as_one m sender ends w link a b rest rest' x y sent (rw (← same.answer, ← same.after) at sent') in grind (arith, map)

      pub sends_event_one : (table : List InterfaceRow) (m : SessionMessage) → IsOne (SendsEvent sends client table s m)
      sends_event_one table m a b d e x y h g =
          by_bool s.is_killed h g both_refused
          (λ p q. elim (both_result (event_check client s.store table m) p q) [
            | inl (granted, sent, sent') ↦ sends_granted_one m granted.0 granted.1 a b d e x y sent sent'
            | inr (f, none, none') ↦ both_refused none none'
          ])

      -- ---- the end of a request

      finishes_open_one : (u : Option U) (action : OpenAction) → IsOne (FinishesOpen sends client s action u)
      finishes_open_one u (opened.Bind object) a b d e x y h g = both_refused h g
      finishes_open_one u (opened.Request sender is_destructor created) a b d e x y h g =
          by_option (refusal s.is_killed created u) h g
          (λ end end'. answered_too end.0 end'.0
          (tells_one (ends_request client (core_of s) sender is_destructor created u) s.link d e x y end.1 end'.1))
          (λ f. both_refused)

      pub finishes_request_one : (u : Option U) → IsOne (FinishesRequest sends client s u)
      finishes_request_one u a b d e x y h g = by_option s.action h g both_refused (λ action. finishes_open_one u action a b d e x y)

    -- ---- a reading

    module _ {G : Type 0} (receives : T → ℕ → Result Queue IoFault → T → Type 0) (receives_function : IsReceiveFunction receives)
        (around : Around G C) (r : Reading) (s : Part T U C)
        (a b : Result Handed ActionError) (left left' : Reading) (d e : List (Deed U)) (x y : Part T U C) where
      pub next_action_one : NextAction sends receives around r s a left false d x → NextAction sends receives around r s b left' false e y
          → SameEnd a b d e x y × (left ≡ left')
      next_action_one h1 h2 = grind (arith, both_option, same_end, both_bool, reads_one, server, reader_part, reads_turns, answered, deeds_of, exchanges_in, part_of, read_on, handled_in)

-- ---- replies

nothing_taken_one : (a b : Result (Unit {0}) ScriptError) → nothing_taken a ≡ nothing_taken b → a ≡ b
nothing_taken_one a b same = grind (arith, a, b)

module _ {T U : Type 0} where
  -- two replies are the same where what they are is
  pub same_reply : (id : ClientParts) (p q p' q' : Reply T U) → p ≡ p' → q ≡ q' → SameReply id p' q' → SameReply id p q
  same_reply id p q p' q' is is' same = subst (λ r. SameReply id r q) (sym is) (subst (λ r. SameReply id p' r) (sym is') same)

-- ---- what is held of a client

module _ {T U C : Type 0} (before : Seen T U C) (d e : List (Deed U)) (x y : Seen T U C) where
  unfelt_one : Unfelt before false d x → Unfelt before false e y → SameFelt d e x y
  unfelt_one (unlacked, did, same) (unlacked', did', same') = same_felt did did' same same'

  -- a step of the part
  on_one : {P : Type 0} (R R' : Part T U C → Part T U C → Type 0) (missing missing' : Type 0) → (missing → missing' → P)
      → ((p q q' : Part T U C) → R p q → R' p q' → SameFelt d e q q' × P) → OnPart before R missing false d x → OnPart before R' missing' false e y
      → SameFelt d e x y × P
  on_one R R' missing missing' absent each h g = grind (arith, unfelt_one)

  -- a step about this client or about another
  of_one : {P : Type 0} (b : Bool) (R R' : Part T U C → Part T U C → Type 0) (missing missing' : Type 0) → (missing → missing' → P)
      → ((p q q' : Part T U C) → R p q → R' p q' → SameFelt d e q q' × P) → OfClient b before R missing false d x
      → OfClient b before R' missing' false e y
      → SameFelt d e x y × (b ≡ true → P)
  of_one h1 h2 h3 missing missing' absent each h g = grind (arith, on_one, unfelt_one, true≢false)

-- the answers apart
with_answer : {A U S : Type 0} {a b : A} {d e : List (Deed U)} {x y : S} → SameEnd a b d e x y → SameFelt d e x y × (a ≡ b)
with_answer one = (record { did = one.did; after = one.after }, one.answer)

with_none : {U S : Type 0} {d e : List (Deed U)} {x y : S} → SameFelt d e x y → SameFelt d e x y × (Unit {0})
with_none one = (one, tt)

-- ---- a step

ruleset part_forms = (of_one, on_one, unfelt_one, with_answer, with_none, same_felt, same_end, same_reply, true≢false, both_bool, not_lacked, map)

ruleset part_calls = (sets_one, destroys_one, posts_error_one, hears_one, next_action_one, finishes_request_one, moves_one, flushed_one)

ruleset part_words = (same_client, action_content, around, new_reading, nothing_taken, nothing_taken_one, taken, objects_leave, share_of, with_link)

-- memory was not refused for what belongs to no client
abbrev pub Ample : {T U G C : Type 0} → Step T U G C → Reply T U → Type 0
Ample s answer = lacks_growth (Asked s answer) ≡ false

module _ {T U G C : Type 0} (w : World T G C) (known : IsDetermined w) (id : ClientParts) (offer : Offer G) (before : Seen T U C)
    (d e : List (Deed U)) (x y : Seen T U C) where
  -- two outcomes of a step are the same to a client
  abbrev Same : Bool → Reply T U → Reply T U → Type 0
  Same own p q = SameFelt d e x y × (own ≡ true → SameReply id p q)

  inserted_one : (transport : T) (client_data : C) (r : Result ClientParts InsertClientError)
      → InsertedAs w id offer transport client_data r before false d x
      → InsertedAs w id offer transport client_data r before false e y → SameFelt d e x y
  inserted_one transport client_data (Ok new) h g =
      by_bool (same_client new id) h g (λ new new'. grind (arith, fresh_one transport (Some offer.default_limit) new.0 new'.0 new.1 new'.1, same_felt)) (unfelt_one before d e x y)
  inserted_one transport client_data (Err f) h g = unfelt_one before d e x y h g

  -- each step has one outcome
  pub step_one : (s : Step T U G C) (p q : Reply T U) → Ample s p → Ample s q → SharedSame s p q
      → PartStep w id offer s p before false d x → PartStep w id offer s q before false e y → Same (is_about id s) p q
  step_one (step.SendEvent m) p q _ _ _ (r, is, h) (r', is', g) =
      let one = of_one before d e x y (same_client m.sender_id.client id) _ _ _ _ (λ a b. a ∙ sym b)
      (λ s q q' f f'. with_answer (sends_event_one w.sends known.sends id s offer.table (session_content m) r r' d e q q' f f')) h g in
      (one.0, λ own. same_reply id p q _ _ is is' (ap reply.SendEvent (one.1 own)))
  step_one (step.SetClientMaxBufferSize target limit) p q _ _ _ (is, h) (is', g) =
      let one = of_one before d e x y (same_client target id) _ _ _ _ (λ _ _. tt) (λ s q q' f f'. with_none (limits_one s limit d e q q' f f')) h g in
      (one.0, λ own. same_reply id p q reply.SetClientMaxBufferSize reply.SetClientMaxBufferSize is is' refl)
  step_one (step.SetObjectVersion o version) p q _ _ _ (r, is, h) (r', is', g) =
      let one = of_one before d e x y (same_client o.client id) _ _ _ _ (λ a b. a ∙ sym b)
      (λ s q q' f f'. with_answer (versions_one offer.table s o version r r' d e q q' f f')) h g in
      (one.0, λ own. same_reply id p q _ _ is is' (ap reply.SetObjectVersion (one.1 own)))
  step_one (step.CreateObject target i version u) p q _ _ _ (r, is, h) (r', is', g) =
      let one = of_one before d e x y (same_client target id) _ _ _ _ (λ a b. a ∙ sym b)
      (λ s q q' f f'. with_answer (creates_one _ offer.table s i version u r r' d e q q' f f')) h g in
      (one.0, λ own. same_reply id p q _ _ is is' (ap reply.CreateObject (one.1 own)))
  step_one (step.CreateObjectAt target i version n u) p q _ _ _ (r, is, h) (r', is', g) =
      let one = of_one before d e x y (same_client target id) _ _ _ _ (λ a b. a ∙ sym b)
      (λ s q q' f f'. with_answer (numbered_one _ offer.table s i version n u r r' d e q q' f f')) h g in
      (one.0, λ own. same_reply id p q _ _ is is' (ap reply.CreateObjectAt (one.1 own)))
  step_one s p q ample ample' shared h g = grind (arith, part_forms, part_calls, part_words, inserted_one, lacks_create, lacks_create_at, one_flush_lem)

  -- what a step does, another does that is the same
  pub part_as : (s s' : Step T U G C) (q : Reply T U) → SameStep s s' → PartStep w id offer s' q before false e y
      → PartStep w id offer s q before false e y
  part_as (step.SendEvent m) (step.SendEvent m') q same h =
      subst (λ (c : SessionMessage). (r : _) × (q ≡ reply.SendEvent r)
      × OfClient (same_client c.sender.client id) before (λ s t. SendsEvent w.sends id offer.table s c r false e t) (r ≡ Err event.InvalidId) false e y) (sym same) h
  part_as (step.SendEvent m) s' q same h = absurd same
  part_as (step.Arrive target bytes tokens) s' q same h = grind (arith, nothing_taken)
  part_as s s' q same h = subst (λ (z : Step T U G C). PartStep w id offer z q before false e y) (sym same) h

  -- so has each call
  pub call_one : (call call' : Call T U G C) → SameCall call call' → lacks_growth call ≡ false → lacks_growth call' ≡ false → SharedAnswer call call'
      → PartCall w id offer call before false d x → PartCall w id offer call' before false e y
      → SameOutcome id call call' d e x y
  call_one (Asked s p) (Asked s' q) same ample ample' shared h g =
      let one = step_one s p q ample ample' shared h (part_as s s' q same g) in record { reply = one.1; deeds = one.0.did; held = one.0.after }
  call_one (Changed target t) (Changed target' t') (same, same_value) ample ample' shared h g = grind (arith, of_one, with_none)
  call_one (Grown rows p) (Grown rows' q) same ample ample' shared h g =
      let one = unfelt_one before d e x y h g in record { reply = λ own. shared; deeds = one.did; held = one.after }
  call_one _ _ same ample ample' shared h g = absurd same
