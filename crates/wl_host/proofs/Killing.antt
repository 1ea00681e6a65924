-- Which steps of the core kill a client, and that a reading which kills says so by its answer.
use Rattle.std.proofs.Common.{◌≡◌, ℕ, Bool, true, false, not, ◌&&◌, ◌⊎◌, inl, inr, List, [], ◌∷◌, ◌++◌, map, Option, None, Some, Result, Ok, Err, refl, ap, sym, subst, ◌∙◌, true≢false}
use Rattle.std.specs.Prelude.{if◌then◌else◌, nat_lt}
use Rattle.wl_wire.specs.declared.error.IoFault.{IoFault}
use Rattle.wl_wire.specs.declared.error.IoFault.TheVariants as fault
use Rattle.wl_wire.specs.Message.{WireMessage}
use Rattle.wl_wire.specs.Table.{MessageRow, name_of, registry_id}
use Rattle.wl_link.specs.declared.object.Object.{Object}
use Rattle.wl_link.proofs.Calls.Branches.{either_bool, either_option, either_result}
use Rattle.wl_link.specs.Exchange.{Queue, Sending}
use Rattle.wl_link.specs.Identity.{Id}
use Rattle.wl_link.specs.Link.{LinkState, count_of, counted_answer}
use Rattle.wl_link.specs.Puts.{PutsOut, Said}
use Rattle.wl_link.specs.Reader.{CarriesOut, Given, Gives, Handled, HandedOut, Queued, Reader, ReaderState, Reads, Received, Turn, Unread, Verdict, came_to, given_first, with_link}
use Rattle.wl_server_client.specs.declared.error.ActionError.{ActionError}
use Rattle.wl_server_client.specs.declared.error.ActionError.TheVariants as action_error
use Rattle.wl_server_client.specs.declared.objects.Kept.{Kept}
use Rattle.wl_server_client.specs.declared.reading.action.OpenAction.{OpenAction}
use Rattle.wl_server_client.specs.declared.reading.action.OpenAction.TheVariants as opened
use Rattle.wl_server_client.specs.declared.reading.action.Reading.{Reading}
use Rattle.wl_server_client.specs.declared.reading.violation.MessageFault.TheVariants as message
use Rattle.wl_server_client.specs.declared.reading.violation.Violation.{Violation}
use Rattle.wl_server_client.specs.Deeds as deeds
use Rattle.wl_server_client.specs.Deeds.{Acted, Deed, Handed, Remembered}
use Rattle.wl_server_client.specs.Errors.{since_text}
use Rattle.wl_server_client.specs.Reading.{Around, NextAction, action_in, answered, breaks, converted, faulted, garbled, hands_out, other_request, reads_on, replies, sent_to, server, stops_if}
use Rattle.wl_server_client.specs.Globals.{global_at}
use Rattle.wl_server_client.specs.Requests.{Outcome, Whole, Wrong, convert, made_id, start, with_made}
use Rattle.wl_server_client.specs.Part.{Part}
use Rattle.wl_server_client.specs.Telling.{Core, Did, Finish, Stops, Told, objects_in, reader_part, with_objects}
use Rattle.wl_server_client.specs.Violations.{violation}
use Rattle.wl_server_model.proofs.OverRuns.Announced.RequestCases.{request_case}
use Rattle.wl_server_model.proofs.Plain.Base.{when_false}
use Rattle.wl_host.specs.Actions.{kills}

-- ---- a reading

-- the answer says that the client was killed
abbrev pub says_killed : Result Handed ActionError → Bool
says_killed (Ok h) = false
says_killed (Err e) = kills e

module _ {U : Type 0} where
  -- what was put says nothing of an action
  behind_puts_and : (put : List Said) (gave rest : List (Given (Told U))) → action_in ((map Queued put ++ gave) ++ rest) ≡ action_in (gave ++ rest)
  behind_puts_and [] gave rest = refl
  behind_puts_and (m ∷ put) gave rest = behind_puts_and put gave rest

  -- deeds that are no action
  record AreQuiet (did : List (Deed U)) : Type 0 where
    silent : (stops : List (Told U)) (rest : List (Given (Told U))) → action_in (map HandedOut (map Did did ++ stops) ++ rest) ≡ action_in (map HandedOut stops ++ rest)

  none_quiet : AreQuiet []
  none_quiet = record { silent = λ stops rest. refl }

  remembered_quiet : (id : Id) → AreQuiet (Remembered id ∷ [])
  remembered_quiet id = record { silent = λ stops rest. refl }

  -- What a verdict hands out tells why the client was killed, whatever comes behind it.
  abbrev Tells : List (Told U) → Type 0
  Tells events = (rest : List (Given (Told U))) → says_killed (action_in (map HandedOut events ++ rest)) ≡ true

module _ {U C : Type 0} where
  -- or it tells nothing of that, and the client is live
  record IsQuiet (events : List (Told U)) (d : Core U C) : Type 0 where
    live : d.is_killed ≡ false
    silent : (rest : List (Given (Told U))) → action_in (map HandedOut events ++ rest) ≡ action_in rest

  -- or an action is handed out, and the client is live
  record HandsOutLive (v : Verdict (Core U C) (Told U)) : Type 0 where
    puts : v.puts ≡ []
    asks : v.asks ≡ false
    live : (v.last v.core).is_killed ≡ false
    ends : reads_on (v.last v.core) ≡ false

  abbrev Form : Verdict (Core U C) (Told U) → Type 0
  Form v = ((d : Core U C) → Tells (v.events d) ⊎ IsQuiet (v.events d) d) ⊎ HandsOutLive v

  stopped : (did : List (Deed U)) (quiet : AreQuiet did) (d : Core U C) → Tells (map Did did ++ stops_if d) ⊎ IsQuiet (map Did did ++ stops_if d) d
  stopped did quiet d = by d.is_killed refl
    where
      by : (killed : Bool) → d.is_killed ≡ killed
          → Tells (map Did did ++ (if killed then Stops fault.Pipe ∷ [] else [])) ⊎ IsQuiet (map Did did ++ (if killed then Stops fault.Pipe ∷ [] else [])) d
      by true e = inl (λ rest. ap says_killed (quiet.silent (Stops fault.Pipe ∷ []) rest))
      by false e = inr (record { live = e; silent = λ rest. quiet.silent [] rest })

  replies_form : (c : Core U C) (puts : List Said) (did : List (Deed U)) → AreQuiet did → Form (replies c puts did)
  replies_form c puts did quiet = inl (λ d. stopped did quiet d)

  garbled_form : (c : Core U C) (w : Violation) → Form (garbled c w)
  garbled_form c w = inl (λ d. inl (λ rest. refl))

  hands_out_form : (c : Core U C) (action : OpenAction) (h : Handed) → c.is_killed ≡ false → Form (hands_out c action h)
  hands_out_form c action h live = inr (record { puts = refl; asks = refl; live = live; ends = no_more c.is_killed })
    where
      no_more : (b : Bool) → not b && false ≡ false
      no_more true = refl
      no_more false = refl

module _ {U G C : Type 0} (a : Around G C) where
  breaks_form : (c : Core U C) (w : Violation) (code : ℕ) (text : List ℕ) → Form (breaks a c w code text)
  breaks_form c w code text = inl (λ d. inl (λ rest. refl))

  -- the verdicts of a live client
  module _ (c : Core U C) (live : c.is_killed ≡ false) where
    converted_form : (m : WireMessage) (receiver : Object (Kept U)) (row : MessageRow) (o : Outcome U) → Form (converted a c m receiver row o)
    converted_form m receiver row (Wrong place w objects) = breaks_form (with_objects c objects) _ 0 _
    converted_form m receiver row (Whole d args) = hands_out_form (with_objects c d.objects) _ _ live

    other_form : (m : WireMessage) (receiver : Object (Kept U)) (row : MessageRow) → Form (other_request a c m receiver row)
    other_form m receiver row = by (nat_lt receiver.version row.since)
      where
        by : (b : Bool)
            → Form (if b then breaks a c (violation (sent_to m receiver) (message.SinceLater receiver.version row.since)) 1 (since_text m.opcode receiver.version row.since (name_of a.table receiver.interface.0) m.sender)
            else converted a c m receiver row (convert a.client receiver.version (start (objects_in c) row) [] m.args))
        by true = breaks_form c _ 1 _
        by false = converted_form m receiver row _

    handles_form : (m : WireMessage) → Form ((server a).handles c m)
    handles_form m =
        request_case a c Form (garbled_form c) (breaks_form c)
        (λ n valid. replies_form _ _ [] none_quiet)
        (λ n valid. replies_form _ _ _ (remembered_quiet _))
        (λ n valid. hands_out_form (with_objects c (with_made (objects_in c) n registry_id 1)) (opened.Bind (made_id a.client (objects_in c) n registry_id))
        (deeds.Registry (made_id a.client (objects_in c) n registry_id)) live)
        (λ g version n x valid. hands_out_form (with_objects c (with_made (objects_in c) n x.interface version)) (opened.Bind (made_id a.client (objects_in c) n x.interface))
        (deeds.Bind (global_at g x) (made_id a.client (objects_in c) n x.interface)) live)
        m (λ receiver row holds is. other_form m receiver row)

-- what a verdict came to that was carried out
module _ {T U C : Type 0} (sends : T → Queue → Result ℕ IoFault → T → Type 0) (reader : Reader (Core U C) (Told U) (Finish U)) where
  came : (v : Verdict (Core U C) (Told U)) (link : LinkState T) (es : List Sending) (gave : List (Given (Told U))) (lacked : Bool) (after : ReaderState T (Core U C))
      → CarriesOut sends reader v link es gave lacked after → (put : List Said) × (gave ≡ map Queued put ++ map HandedOut (v.events after.core))
  came v link es gave lacked after (inl (first, others, put, wrote, mid, lack, puts, flushed, sent, core, given, is)) =
      (put, given ∙ ap (λ (d : Core U C). map Queued put ++ map HandedOut (v.events d)) (sym core))
  came v link es gave lacked after (inr (asks, is, none, given, same)) =
      ([], given ∙ ap (λ (p : ReaderState T (Core U C)). map HandedOut (v.events p.core)) (sym same))

  pub came_to_last : (v : Verdict (Core U C) (Told U)) → v.puts ≡ [] → v.asks ≡ false → (link : LinkState T) (es : List Sending) (gave : List (Given (Told U))) (lacked : Bool)
      (after : ReaderState T (Core U C)) → CarriesOut sends reader v link es gave lacked after → after.core ≡ v.last v.core
  came_to_last v no_puts no_memory link es gave lacked after (inr (asks, is, none, given, same)) = absurd (true≢false (sym asks ∙ no_memory))
  came_to_last v no_puts no_memory link es gave lacked after (inl (first, others, put, wrote, mid, lack, puts, flushed, sent, core, given, is)) =
      let p = subst (λ (ms : List Said). PutsOut sends link ms first put wrote mid) no_puts puts in
      core ∙ ap (came_to reader v) p.2

dead : (killed unopened : Bool) → killed ≡ true → not killed && unopened ≡ false
dead killed unopened is = ap (λ (b : Bool). not b && unopened) is

module _ {T U G C : Type 0} (sends : T → Queue → Result ℕ IoFault → T → Type 0) (receives : T → ℕ → Result Queue IoFault → T → Type 0) (a : Around G C) where
  -- nothing is read of a client that is not read on
  read_none : (left : ℕ) (before : ReaderState T (Core U C)) (turns : List Turn) (out : Gives (Told U)) (after : ReaderState T (Core U C))
      → Reads sends (server a) receives left before turns out after → reads_on before.core ≡ false → (out.stopped ≡ None) × (after.core ≡ before.core)
  read_none left before [] out after (same, ends) off =
      (ap (λ (o : Gives (Told U)). o.stopped) (when_false _ (reads_on before.core) off ends), ap (λ (p : ReaderState T (Core U C)). p.core) same)
  read_none left before (Received t ∷ turns) out after h off = absurd (true≢false (sym h.0 ∙ off))
  read_none left before (Handled es ∷ turns) out after h off = absurd (true≢false (sym h.0 ∙ off))
  read_none left before (Unread es ∷ turns) out after h off = absurd (true≢false (sym h.0 ∙ off))

  -- a fault of a receive that kills is told
  faulted_says : (c : Core U C) (f : IoFault) → c.is_killed ≡ false → (faulted c f).is_killed ≡ true → kills (action_error.Io f) ≡ true
  faulted_says c fault.WouldBlock live killed = absurd (true≢false (sym killed ∙ live))
  faulted_says c fault.OutOfMemory live killed = absurd (true≢false (sym killed ∙ live))
  faulted_says c _ live killed = refl

  abbrev pub Says : Gives (Told U) → Type 0
  Says out = says_killed (answered out.stopped out.gave) ≡ true

  -- what was given first says it
  says_first : (first : List (Given (Told U))) (lacked : Bool) (rest : Gives (Told U)) → rest.stopped ≡ None → says_killed (action_in (first ++ rest.gave)) ≡ true
      → Says (given_first first lacked rest)
  says_first first lacked rest none says = ap (λ s. says_killed (answered s (first ++ rest.gave))) none ∙ says

  -- or what was given then
  says_rest : (first : List (Given (Told U))) (lacked : Bool) (rest : Gives (Told U)) → action_in (first ++ rest.gave) ≡ action_in rest.gave → Says rest
      → Says (given_first first lacked rest)
  says_rest first lacked rest silent says = by rest.stopped says
    where
      by : (s : Option IoFault) → says_killed (answered s rest.gave) ≡ true → says_killed (answered s (first ++ rest.gave)) ≡ true
      by None says = ap says_killed silent ∙ says
      by (Some f) says = says

  mutual_then : (v : Verdict (Core U C) (Told U)) → Form v → (link : LinkState T) (es : List Sending) (first : List (Given (Told U))) (lacked : Bool)
      (mid : ReaderState T (Core U C)) (rest : Gives (Told U)) (left : ℕ) (turns : List Turn) (after : ReaderState T (Core U C))
      → CarriesOut sends (server a) v link es first lacked mid → Reads sends (server a) receives left mid turns rest after
      → (mid.core.is_killed ≡ false → Says rest) → after.core.is_killed ≡ true → Says (given_first first lacked rest)
  mutual_then v (inr hands) link es first lacked mid rest left turns after by more on killed =
      let core = came_to_last sends (server a) v hands.puts hands.asks link es first lacked mid by in
      let ends : reads_on mid.core ≡ false = ap reads_on core ∙ hands.ends in
      let same = (read_none left mid turns rest after more ends).1 in
      absurd (true≢false (sym killed ∙ (ap (λ (d : Core U C). d.is_killed) (same ∙ core) ∙ hands.live)))
  mutual_then v (inl forms) link es first lacked mid rest left turns after by more on killed =
      let (put, given) = came sends (server a) v link es first lacked mid by in
      elim (forms mid.core) [
        | inl tells ↦ of_told put given tells mid.core.is_killed refl
        | inr quiet ↦
            says_rest first lacked rest
            (ap (λ g. action_in (g ++ rest.gave)) given ∙ (behind_puts_and put (map HandedOut (v.events mid.core)) rest.gave ∙ quiet.silent rest.gave))
            (on quiet.live)
      ]
    where
      told_first : (put : List Said) → first ≡ map Queued put ++ map HandedOut (v.events mid.core) → Tells (v.events mid.core) → says_killed (action_in (first ++ rest.gave)) ≡ true
      told_first put given tells =
          ap (λ g. says_killed (action_in (g ++ rest.gave))) given
          ∙ (ap says_killed (behind_puts_and put (map HandedOut (v.events mid.core)) rest.gave) ∙ tells rest.gave)

      of_told : (put : List Said) → first ≡ map Queued put ++ map HandedOut (v.events mid.core) → Tells (v.events mid.core) → (b : Bool) → mid.core.is_killed ≡ b
          → Says (given_first first lacked rest)
      of_told put given tells true e =
          says_first first lacked rest (read_none left mid turns rest after more (dead mid.core.is_killed _ e)).0 (told_first put given tells)
      of_told put given tells false e = by_stop rest.stopped refl
        where
          by_stop : (s : Option IoFault) → rest.stopped ≡ s → Says (given_first first lacked rest)
          by_stop None none = says_first first lacked rest none (told_first put given tells)
          by_stop (Some f) is =
              ap (λ s. says_killed (answered s (first ++ rest.gave))) is
              ∙ (ap (λ s. says_killed (answered s rest.gave)) (sym is) ∙ on e)

  -- a reading that kills says so
  pub reads_say : (left : ℕ) (before : ReaderState T (Core U C)) (turns : List Turn) (out : Gives (Told U)) (after : ReaderState T (Core U C))
      → Reads sends (server a) receives left before turns out after → before.core.is_killed ≡ false → after.core.is_killed ≡ true → Says out
  reads_say left before [] out after (same, ends) live killed =
      absurd (true≢false (sym killed ∙ (ap (λ (p : ReaderState T (Core U C)). p.core.is_killed) same ∙ live)))
  reads_say left before (Received t ∷ turns) out after (on, lacks, (n, is, (link, filled, room, h))) live killed =
      elim (either_result (counted_answer (count_of t)) h) [
        | inl (u, more) ↦ reads_say n (with_link before link) turns out after more live killed
        | inr (f, (over, stopped, same)) ↦
            ap (λ (o : Gives (Told U)). says_killed (answered o.stopped o.gave)) stopped
            ∙ faulted_says before.core f live (ap (λ (p : ReaderState T (Core U C)). p.core.is_killed) (sym same) ∙ killed)
      ]
  reads_say left before (Handled es ∷ turns) out after (on, (v, link, first, lacked, mid, rest, (m, read, is), by, split, more)) live killed =
      subst Says (sym split)
      (mutual_then v (subst (λ (w : Verdict (Core U C) (Told U)). Form w) (sym is) (handles_form a before.core live m)) link es first lacked mid rest left turns after by more
      (λ alive. reads_say left mid turns rest after more alive killed) killed)
  reads_say left before (Unread es ∷ turns) out after (on, (v, link, first, lacked, mid, rest, (read, same, is), by, split, more)) live killed =
      subst Says (sym split)
      (mutual_then v (subst (λ (w : Verdict (Core U C) (Told U)). Form w) (sym is) (garbled_form before.core _)) link es first lacked mid rest left turns after by more
      (λ alive. reads_say left mid turns rest after more alive killed) killed)

  -- and so does a call that reads
  pub next_action_says : (t : Reading) (p : Part T U C) (answer : Result Handed ActionError) (t' : Reading) (lacked : Bool) (did : List (Deed U)) (q : Part T U C)
      → NextAction sends receives a t p answer t' lacked did q → p.is_killed ≡ false → q.is_killed ≡ true → says_killed answer ≡ true
  next_action_says t p answer t' lacked did q h live killed =
      elim (either_option p.action h) [
        | inr (action, is_open, (is, same, no_memory, none, stays)) ↦ absurd (true≢false (sym killed ∙ (ap (λ (r : Part T U C). r.is_killed) stays ∙ live)))
        | inl (not_open, g) ↦
            elim (either_bool p.is_killed g) [
              | inl (is, same, no_memory, none, stays) ↦ absurd (true≢false (sym killed ∙ (ap (λ (r : Part T U C). r.is_killed) stays ∙ live)))
              | inr (turns, out, end, reads, is, same, no_memory, did_so, after) ↦
                  ap says_killed is ∙ reads_say t.turns_left (reader_part p) turns out end reads live (ap (λ (r : Part T U C). r.is_killed) (sym after) ∙ killed)
            ]
      ]
