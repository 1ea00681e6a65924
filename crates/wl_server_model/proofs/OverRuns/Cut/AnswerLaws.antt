-- What the readings of a client of a server answer, and how they leave it: an action, or that the client was killed, or that
-- more may be received later.
use Rattle.std.proofs.Common.{◌≡◌, ◌≢◌, ◌⊎◌, ℕ, Bool, true, false, not, ◌&&◌, List, [], ◌∷◌, ◌++◌, append-nil, map, Option, None, Some, is_none, is_some, Result, Ok, Err, is_ok, refl, sym, ap, ap₂, subst, ◌∙◌, true≢false, arith}
use Rattle.std.proofs.lemmas.Option.{same_Some, none-some}
use Rattle.std.specs.Prelude.{nat_lt}
use Rattle.wl_wire.specs.declared.error.IoFault.{IoFault}
use Rattle.wl_wire.specs.declared.error.IoFault.TheVariants as fault
use Rattle.wl_wire.specs.Message.{WireMessage}
use Rattle.wl_wire.specs.Table.{MessageRow}
use Rattle.wl_link.specs.declared.object.Object.{Object}
use Rattle.wl_link.specs.Exchange.{Queue, Sending}
use Rattle.wl_link.specs.Link.{LinkState, counted_answer, count_of}
use Rattle.wl_link.specs.Puts.{Said, lacks_memory}
use Rattle.wl_link.specs.Reader.{CarriesOut, Ends, Given, Gives, HandedOut, Handled, Reads, Received, Turn, Unread, Verdict, given_first, came_to, put_and_gave, stops, with_link, ReaderState}
use Rattle.wl_link.proofs.Readings.ServedLaws.{both_false}
use Rattle.wl_server_client.specs.declared.reading.action.OpenAction.{OpenAction}
use Rattle.wl_server_client.specs.declared.error.ActionError.{ActionError}
use Rattle.wl_server_client.specs.declared.error.ActionError.TheVariants.{Io}
use Rattle.wl_server_client.specs.declared.objects.Kept.{Kept}
use Rattle.wl_server_client.specs.declared.notes.DisconnectReason.{DisconnectReason}
use Rattle.wl_server_client.specs.declared.notes.Happening.TheVariants.{Disconnected}
use Rattle.wl_server_client.specs.declared.reading.violation.Violation.{Violation}
use Rattle.wl_server_client.specs.Deeds.{Acted, Came, Deed, Handed, Noted, Put, Sent}
use Rattle.wl_server_model.proofs.OverRuns.Announced.RequestCases.{request_case}
use Rattle.wl_server_model.proofs.OverRuns.Moves.DoingsLaws.{deeds_given}
use Rattle.wl_server_client.specs.Finish.{finish_verdict, ended_by, ends, ends_request, refusal}
use Rattle.wl_server_client.specs.Ids.{IdParts}
use Rattle.wl_server_client.specs.Reading.{Around, action_in, breaks, exchanges_in, garbled, hands_out, other_request, reads_on, server, synced, with_registry}
use Rattle.wl_server_client.specs.Requests.{convert, start}
use Rattle.wl_server_model.specs.Stretches.{answers_in, beside_exchanges, was_killed}
use Rattle.wl_server_client.specs.Telling.{Core, Did, Finish, Stops, Told, closed_down, deeds_in, killed, objects_in, with_objects}
use Rattle.wl_server_client.proofs.Readings.OneMessage.{deeds_append}

-- ---- lists of what was given

-- the first of the answers
abbrev pub first_of : List (Result Handed IoFault) → Result Handed ActionError
first_of [] = Err (Io fault.Pipe)
first_of (Ok h ∷ answers) = Ok h
first_of (Err f ∷ answers) = Err (Io f)

module _ {U : Type 0} where
  pub answers_both : (gave others : List (Given (Told U))) → answers_in (gave ++ others) ≡ answers_in gave ++ answers_in others
  answers_both [] others = refl
  answers_both (HandedOut (Did (Acted h)) ∷ gave) others = ap (λ (l : List (Result Handed IoFault)). Ok h ∷ l) (answers_both gave others)
  answers_both (HandedOut (Stops f) ∷ gave) others = ap (λ (l : List (Result Handed IoFault)). Err f ∷ l) (answers_both gave others)
  answers_both (g ∷ gave) others = answers_both gave others

  answers_given : (put : List Said) (events : List (Told U)) → answers_in (put_and_gave put events) ≡ answers_in (map HandedOut events)
  answers_given [] events = refl
  answers_given (m ∷ put) events = answers_given put events

  pub action_first : (gave : List (Given (Told U))) → action_in gave ≡ first_of (answers_in gave)
  action_first [] = refl
  action_first (HandedOut (Did (Acted h)) ∷ gave) = refl
  action_first (HandedOut (Stops f) ∷ gave) = refl
  action_first (g ∷ gave) = action_first gave

  -- ---- deeds beside what was sent and received

  pub beside_both : (did others : List (Deed U)) → beside_exchanges (did ++ others) ≡ beside_exchanges did ++ beside_exchanges others
  beside_both [] others = refl
  beside_both (Sent e ∷ did) others = beside_both did others
  beside_both (Came r ∷ did) others = beside_both did others
  beside_both (d ∷ did) others = ap (λ (l : List (Deed U)). d ∷ l) (beside_both did others)

  pub beside_sends : (es : List Sending) → beside_exchanges {U = U} (map Sent es) ≡ []
  beside_sends [] = refl
  beside_sends (e ∷ es) = beside_sends es

  pub beside_turns : (turns : List Turn) → beside_exchanges {U = U} (exchanges_in turns) ≡ []
  beside_turns [] = refl
  beside_turns (Received r ∷ turns) = beside_turns turns
  beside_turns (t ∷ turns) = grind (arith, beside_both, map, exchanges_in, beside_exchanges, beside_sends, beside_turns turns)

  beside_puts : (put : List Said) (others : List (Deed U)) → beside_exchanges (map Put put ++ others) ≡ map Put put ++ beside_exchanges others
  beside_puts [] others = refl
  beside_puts (m ∷ put) others = ap (λ (l : List (Deed U)). Put m ∷ l) (beside_puts put others)

  pub killed_later : (did others : List (Deed U)) → was_killed others ≡ true → was_killed (did ++ others) ≡ true
  killed_later [] others is = is
  killed_later (Noted (Disconnected reason) ∷ did) others is = refl
  killed_later (d ∷ did) others is = killed_later did others is

  -- nothing that was sent or received is among what was given
  abbrev pub IsBeside : List (Given (Told U)) → Type 0
  IsBeside gave = beside_exchanges (deeds_in gave) ≡ deeds_in gave

  beside_given : (put : List Said) (events : List (Told U)) → IsBeside (map HandedOut events) → IsBeside (put_and_gave put events)
  beside_given put events quiet = grind (arith, deeds_given, beside_puts, deeds_in)

module _ {U C : Type 0} where
  -- ---- how a client stands

  -- it is live, and has no end; or it was killed, with no action open, for a reason
  abbrev pub IsSound : Core U C → Type 0
  IsSound c =
      ((c.is_killed ≡ false) × (c.ended ≡ None))
      ⊎ ((c.is_killed ≡ true) × (c.action ≡ None) × ((reason : DisconnectReason) × (c.ended ≡ Some reason)))

  sound_killed : (c : Core U C) (reason : DisconnectReason) → IsSound c → c.action ≡ None → IsSound (killed c reason)
  sound_killed c reason h1 h2 = grind (arith)

  -- the client is read on, and so has no end
  abbrev IsReady : Core U C → Type 0
  IsReady c = (c.is_killed ≡ false) × (c.action ≡ None) × (c.ended ≡ None)

  pub on_of : (c : Core U C) → c.is_killed ≡ false → c.action ≡ None → reads_on c ≡ true
  on_of c live unopened = ap₂ (λ (b : Bool) (o : Option OpenAction). not b && is_none o) live unopened

  -- ---- what a verdict answers

  -- one answer: an action, or that nothing more is read, where the client was killed
  abbrev pub IsOver : List (Result Handed IoFault) → Core U C → Type 0
  IsOver answers d =
      (reads_on d ≡ false)
      × (((h : Handed) × (answers ≡ Ok h ∷ []))
      ⊎ ((f : IoFault) × (answers ≡ Err f ∷ []) × (f ≢ fault.WouldBlock) × (d.is_killed ≡ true)))

  -- nothing was answered, and the client is read on; or one answer was, and it is not
  record Says (gave : List (Given (Told U))) (d : Core U C) : Type 0 where
    sound : IsSound d
    quiet : IsBeside gave
    so : ((reads_on d ≡ true) × (answers_in gave ≡ [])) ⊎ IsOver (answers_in gave) d

  says_stops : (f : IoFault) (d : Core U C) → f ≢ fault.WouldBlock → IsSound d → d.is_killed ≡ true → Says (HandedOut (Stops f) ∷ []) d
  says_stops f d not sound dead = grind (arith, reads_on)

module _ {U G C : Type 0} (a : Around G C) where
  -- what a verdict says where its messages were put, and where one could not be
  record Speaks (v : Verdict (Core U C) (Told U)) : Type 0 where
    whole : Says (map HandedOut (v.events (v.last v.core))) (v.last v.core)
    broken : (v.puts ≢ []) → Says (map HandedOut (v.events (v.last (closed_down v.core)))) (v.last (closed_down v.core))

  stops_speaks : (c : Core U C) (w : Violation) (code : ℕ) (text : List ℕ) → IsReady c → Speaks (breaks a c w code text)
  stops_speaks c w code text r = grind (arith, sound_killed, says_stops, closed_down)

  garbled_speaks : (c : Core U C) (w : Violation) → IsReady c → Speaks (garbled c w)
  garbled_speaks c w r = grind (arith, sound_killed, says_stops, closed_down)

  action_speaks : (c : Core U C) (action : OpenAction) (h : Handed) → IsReady c → Speaks (hands_out c action h)
  action_speaks c action h r = grind (arith)

  other_speaks : (c : Core U C) (m : WireMessage) (receiver : Object (Kept U)) (row : MessageRow) → IsReady c
      → Speaks (other_request a c m receiver row)
  other_speaks c m receiver row r = grind (arith, nat_lt, stops_speaks, with_objects, action_speaks, convert, start, objects_in)

  -- a message, of whatever kind
  handles_speaks : (c : Core U C) (m : WireMessage) → IsReady c → Speaks ((server a).handles c m)
  handles_speaks c m r =
      request_case a c Speaks (λ w. garbled_speaks c w r) (λ w code text. stops_speaks c w code text r) (λ n new. (grind (arith, on_of, sound_killed, synced)))
      (λ n new. (grind (arith, on_of, sound_killed, with_registry))) (λ n new. action_speaks _ _ _ r) (λ g version n x new. action_speaks _ _ _ r) m
      (λ receiver row holds other. other_speaks c m receiver row r)

  -- ---- a verdict that was carried out

  came_broken : (v : Verdict (Core U C) (Told U)) (f : IoFault) → lacks_memory (Err f) ≡ false
      → came_to (server a) v (Err f) ≡ v.last (closed_down v.core)
  came_broken v h2 ample = grind (arith, true≢false)

  module _ {T : Type 0} (sends : T → Queue → Result ℕ IoFault → T → Type 0) where
    carried_says : (v : Verdict (Core U C) (Told U)) → Speaks v
        → (before : LinkState T) (es : List Sending) (gave : List (Given (Told U))) (refused : Bool)
        (after : ReaderState T (Core U C)) → refused ≡ false → CarriesOut sends (server a) v before es gave refused after → Says gave after.core
    carried_says v h1 before es gave refused after h2 h3 = grind
        (arith, true≢false, both_false, came_broken, is_ok, came_to, server, beside_given, reads_on, answers_given)

-- ---- a reading

module _ {U C : Type 0} where
  -- it stopped, and answered nothing; or it is over: the client was not read on before, or there is one answer
  abbrev pub IsAnswered : Core U C → Gives (Told U) → Core U C → Type 0
  IsAnswered c out e =
      ((f : IoFault) × (out.stopped ≡ Some f) × (answers_in out.gave ≡ []))
      ⊎ ((out.stopped ≡ None) × (((reads_on c ≡ false) × (out.gave ≡ [])) ⊎ IsOver (answers_in out.gave) e))

  pub record ReadsSo (c : Core U C) (out : Gives (Told U)) (e : Core U C) : Type 0 where
    pub sound : IsSound e
    pub quiet : IsBeside out.gave
    pub answered : IsAnswered c out e

  -- what a verdict said, and then the rest
  joins_so : (c mid e : Core U C) (first : List (Given (Told U))) (lacked : Bool) (rest out : Gives (Told U)) → out ≡ given_first first lacked rest
      → Says first mid
      → ReadsSo mid rest e → (reads_on mid ≡ false → (rest.stopped ≡ None) × (rest.gave ≡ []) × (e ≡ mid)) → ReadsSo c out e
  joins_so c mid e first lacked rest out h1 h2 h3 h4 =
      grind (arith, deeds_append, beside_both, deeds_in, ap₂, answers_in, answers_both, reads_on, given_first, true≢false, append-nil)

module _ {T U G C : Type 0} (sends : T → Queue → Result ℕ IoFault → T → Type 0) (receives : T → ℕ → Result Queue IoFault → T → Type 0)
    (a : Around G C) where
  reads_off : (left : ℕ) (p after : ReaderState T (Core U C)) (turns : List Turn) (out : Gives (Told U)) → reads_on p.core ≡ false
      → Reads sends (server a) receives left p turns out after → (out.stopped ≡ None) × (out.gave ≡ []) × (after.core ≡ p.core)
  reads_off left p after [] out off (same, ends) = grind (arith, reads_on, server, stops, true≢false)
  reads_off left p after (Received r ∷ turns) out off h = absurd (true≢false (sym h.0 ∙ off))
  reads_off left p after (t ∷ turns) out off h = absurd (true≢false (sym h.0 ∙ off))

  pub reads_so : (left : ℕ) (p after : ReaderState T (Core U C)) (turns : List Turn) (out : Gives (Told U))
      → Reads sends (server a) receives left p turns out after
      → out.refused ≡ false → IsSound p.core → ReadsSo p.core out after.core
  reads_so left p after [] out (same, ends) ample sound = grind (arith, reads_on, server, stops)
  reads_so left p after (Received r ∷ turns) out (on, lacks, (n, is, (link, filled, finds, h))) ample sound =
      grind (arith, sound_killed, is_none, true≢false, counted_answer (count_of r), reads_so n (with_link p link) after turns out)
  reads_so left p after (Handled es ∷ turns) out (on, (v, link, first, lacked, mid, rest, (m, read, is), carried, split, more)) ample sound =
      let calm = both_false lacked rest.refused (sym ample ∙ ap (λ (o : Gives (Told U)). o.refused) split) in
      let ready : IsReady p.core = grind (arith, is_none, true≢false, p.core) in
      let says = carried_says a sends v (subst (Speaks a) (sym is) (handles_speaks a p.core m ready)) link es first lacked mid calm.0 carried in
      joins_so p.core mid.core after.core first lacked rest out split says (reads_so left mid after turns rest more calm.1 says.sound)
      (λ off. reads_off left mid after turns rest off more)
  reads_so left p after (Unread es ∷ turns) out
      (on, (v, link, first, lacked, mid, rest, (read, same, is), carried, split, more)) ample sound = grind (arith, both_false, garbled_speaks, is_none, true≢false, carried_says, joins_so, reads_off, reads_so left mid after turns rest more)

-- ---- the end of an action

module _ {U C : Type 0} where
  -- what an end came to: nothing is answered, and none is open
  pub record EndsSo (gave : List (Given (Told U))) (d : Core U C) : Type 0 where
    pub sound : IsSound d
    pub quiet : IsBeside gave
    pub none : answers_in gave ≡ []

module _ {U G C : Type 0} (a : Around G C) where
  -- what the verdict of an end says
  record IsFinishVerdict (v : Verdict (Core U C) (Told U)) : Type 0 where
    last : (d : Core U C) → v.last d ≡ d
    live : v.core.is_killed ≡ false
    unopened : v.core.action ≡ None
    unended : v.core.ended ≡ None
    quiet : (d : Core U C) → IsBeside (map HandedOut (v.events d))
    none : (d : Core U C) → answers_in (map HandedOut (v.events d)) ≡ []

  ending_is_finish : (c : Core U C) (id : IdParts) (x : Option (Object (Kept U))) (created : Option IdParts) (u : Option U) → c.is_killed ≡ false
      → c.ended ≡ None
      → IsFinishVerdict (ends a.client c id x created u)
  ending_is_finish c id x created u h1 h2 = grind (arith, is_some)

  module _ {T : Type 0} (sends : T → Queue → Result ℕ IoFault → T → Type 0) where
    pub ends_so : (p after : ReaderState T (Core U C)) (u : Finish U) (es : List Sending) (gave : List (Given (Told U))) → p.core.ended ≡ None
        → Ends sends (server a) p u es gave false after → EndsSo gave after.core
    ends_so p after u es gave h1 h2 = grind (arith, true≢false, same_Some, ends_request, ending_is_finish, ended_by, none-some, refusal, finish_verdict, both_false, lacks_memory, came_to, server, came_broken, closed_down, sound_killed, beside_given, answers_in, answers_given, deeds_given, beside_puts, deeds_in)
