-- How a verdict that was carried out is a turn of a reading.
use Rattle.std.proofs.Common.{◌≡◌, ◌∙◌, ℕ, Bool, true, false, not, List, [], ◌∷◌, ◌++◌, append-nil, map, Some, Result, Ok, Err, MatchResult, refl, sym, ap, arith, append_assoc}
use mathlib.Core.Logic.{inl, inr}
use Rattle.wl_wire.specs.declared.error.IoFault.{IoFault}
use Rattle.wl_wire.specs.declared.error.IoFault.TheVariants as fault
use Rattle.wl_link.specs.Exchange.{Queue}
use Rattle.wl_link.specs.Link.{LinkState}
use Rattle.wl_link.specs.Puts.{Said, lacks_memory}
use Rattle.wl_link.specs.Reader.{Given, HandedOut, Queued, Verdict, came_to, put_and_gave}
use Rattle.wl_server_client.specs.declared.reading.action.OpenAction.{OpenAction}
use Rattle.wl_server_client.specs.declared.notes.DisconnectReason.TheVariants.{ConnectionClosed}
use Rattle.wl_server_client.specs.declared.reading.action.NoAction.{NoAction}
use Rattle.wl_server_client.specs.declared.reading.violation.Violation.{Violation}
use Rattle.wl_server_client.specs.declared.reading.action.MessageEnd.{MessageEnd}
use Rattle.wl_server_client.specs.declared.reading.action.MessageEnd.TheVariants as came
use Rattle.wl_server_client.specs.Inside.Carried.{IsCarried, told_notes}
use Rattle.wl_server_client.specs.Inside.Client.{Does}
use Rattle.wl_server_client.specs.Deeds.{Deed, Handed}
use Rattle.wl_server_client.specs.Errors.{posts}
use Rattle.wl_server_client.specs.Part.{display_of}
use Rattle.wl_server_client.specs.Inside.Puts.{Puts}
use Rattle.wl_server_client.specs.Reading.{Around, action_in, breaking, breaks, garbled, hands_out, replies, stops_if}
use Rattle.wl_server_client.specs.Stored.{Stored}
use Rattle.wl_server_client.specs.Telling.{Core, Did, Kills, Stops, Told, closed_down, core_of, speaker, killed}
use Rattle.wl_server_client.specs.Inside.ReadingLoop.{Acts, Ended, WentOn, IsHandled, Live, MessageResult, message_result, linked, Says}
use Rattle.wl_server_client.proofs.ObjectCalls.Posting.{kills_is}
use Rattle.wl_server_client.proofs.GlobalCalls.Putting.{puts_none}
use Rattle.wl_server_client.proofs.Readings.Notes.{made_end, notes_of_puts, told_carried}

-- ---- what was put says nothing of an action, and is no note

module _ {U : Type 0} where
  pub behind_puts : (put : List Said) (gave : List (Given (Told U))) → action_in (map Queued put ++ gave) ≡ action_in gave
  behind_puts [] gave = refl
  behind_puts (m ∷ put) gave = behind_puts put gave

  -- deeds that are neither an action nor a note
  abbrev pub AreQuiet : List (Deed U) → Type 0
  AreQuiet did =
      (stops : List (Told U)) → (told_notes (map Did did ++ stops) ≡ told_notes stops)
      × ((rest : List (Given (Told U))) → action_in (map HandedOut (map Did did ++ stops) ++ rest) ≡ action_in (map HandedOut stops ++ rest))

says_put : {U C : Type 0} (to : MessageResult) (put : List Said) (gave : List (Given (Told U))) (refused : Bool) (c : Core U C)
    → Says to gave refused c → Says to (map Queued put ++ gave) refused c
says_put to put gave refused c says = grind (arith, behind_puts, append_assoc, to)

abbrev pub broken_with : Bool → NoAction
broken_with refused = record { fault = fault.Pipe; refused = refused }

module _ {T U C : Type 0} (sends : T → Queue → Result ℕ IoFault → T → Type 0) where
  -- a verdict that was carried out came to what its events say
  pub handled : (v : Verdict (Core U C) (Told U)) (s after : Stored T U C) (to : MessageResult) (refused : Bool)
      (carried : IsCarried sends v s refused after)
      → told_notes (v.events carried.0) ≡ [] → Says to (map HandedOut (v.events carried.0)) refused carried.0 → IsHandled sends v s to after
  handled v s after to refused (core, link, inl (wrote, mid, others, lacked, (es, put, puts), flushed, is, refused-is), after_is) none says = record {
    es = es ++ others;
    gave = put_and_gave put (v.events core);
    refused = refused;
    end = record { core = core; link = link };
    carried = inl (es, others, put, wrote, mid, lacked, puts, flushed, refl, is, ap (λ (c : Core U C). put_and_gave put (v.events c)) is, refused-is);
    no_note = notes_of_puts put (map HandedOut (v.events core)) ∙ none;
    says = says_put to put (map HandedOut (v.events core)) refused core says;
    after_is = after_is ∙ rw none refl;
  }
  handled v s after to refused (core, link, inr (asks, lacked, is, same), after_is) none says = record {
    es = [];
    gave = map HandedOut (v.events core);
    refused = refused;
    end = record { core = core; link = link };
    carried = inr (asks, lacked, refl, ap (λ (c : Core U C). map HandedOut (v.events c)) is, rw (is, same) refl);
    no_note = none;
    says = says;
    after_is = after_is ∙ rw none refl;
  }

  -- it is kept how the client broke the protocol
  abbrev pub broken_by : Stored T U C → Violation → Stored T U C
  broken_by s w = record s { part = record s.part { violation = Some w } }

  pub garbled_handled : (s after : Stored T U C) (w : Violation) → Does (broken_by s w) (λ p did q. Kills p ConnectionClosed did q) after
      → IsHandled sends (garbled (core_of s.part) w) s (Ended (record { fault = fault.Proto; refused = false })) after
  garbled_handled s after w kills =
      handled (garbled (core_of s.part) w) s after (Ended (record { fault = fault.Proto; refused = false })) false (
        closed_down (breaking (core_of s.part) w),
        s.part.link,
        inl (Ok tt, s.part.link, [], false, puts_none sends s.part.link, (refl, refl, refl), refl, refl),
        kills_is (broken_by s w) after ConnectionClosed kills,
      )
      refl (refl, refl, refl)

  -- ---- an error

  pub broke : {G : Type 0} (a : Around G C) (s after : Stored T U C) (w : Violation) (code : ℕ) (text : List ℕ) (refused : Bool)
      → IsCarried sends (posts a.table (core_of (broken_by s w).part) (display_of a.client) code text) (broken_by s w) refused after
      → IsHandled sends (breaks a (core_of s.part) w code text) s (Ended (broken_with refused)) after
  broke a s after w code text refused carried =
      handled (breaks a (core_of s.part) w code text) s after (Ended (broken_with refused)) refused carried refl
      (refl, grind (arith, came_to, speaker, posts, killed, closed_down, carried.2), refl)

  -- there was no memory for the text
  pub broke_starved : {G : Type 0} (a : Around G C) (s after : Stored T U C) (w : Violation) (code : ℕ) (text : List ℕ)
      → s.part.is_killed ≡ false → Does (broken_by s w) (λ p did q. Kills p ConnectionClosed did q) after
      → IsHandled sends (breaks a (core_of s.part) w code text) s (Ended (broken_with true)) after
  broke_starved a s after w code text live kills =
      broke a s after w code text true (
        closed_down (breaking (core_of s.part) w),
        s.part.link,
        inr (ap not live, refl, refl, refl),
        kills_is (broken_by s w) after ConnectionClosed kills,
      )

  -- ---- a reply, and an action

  quiet_reply : (did : List (Deed U)) → AreQuiet did → (c : Core U C) → told_notes (map Did did ++ stops_if c) ≡ []
  quiet_reply did quiet c = grind (arith, quiet (stops_if c), c.is_killed)

  pub replied_all : (s after : Stored T U C) (link : LinkState T) (puts : List Said) (did : List (Deed U)) → AreQuiet did → Live s.part
      → Puts sends s.part.link puts (Ok tt) link → after ≡ linked s link → IsHandled sends (replies (core_of s.part) puts did) s WentOn after
  replied_all s after link puts did quiet live put same =
      handled (replies (core_of s.part) puts did) s after WentOn false
      (told_carried sends s after puts (λ d. map Did did ++ stops_if d) (Ok tt) link (quiet_reply did quiet) put same)
      (quiet_reply did quiet (core_of s.part))
      (refl, refl, live.0, live.1, λ rest. (quiet (stops_if (core_of s.part))).1 rest ∙ rw live.0 refl)

  pub replied : (s after : Stored T U C) (link : LinkState T) (puts : List Said) (did : List (Deed U)) (wrote : Result (Unit {0}) IoFault)
      (end : MessageEnd)
      (h : Handed) → AreQuiet did → Live s.part → Puts sends s.part.link puts wrote link
      → MatchResult wrote (λ _. (end ≡ came.Continues) × (after ≡ linked s link))
      (λ f. (end ≡ came.Ends (broken_with (lacks_memory (Err f)))) × Does (linked s link) (λ p did q. Kills p ConnectionClosed did q) after)
      → IsHandled sends (replies (core_of s.part) puts did) s (message_result end h) after
  replied s after link puts did (Ok u) end h quiet live put (is, same) = rw is (replied_all s after link puts did quiet live put same)
  replied s after link puts did (Err f) end h quiet live put (is, kills) =
      rw is
      (handled (replies (core_of s.part) puts did) s after (Ended (broken_with (lacks_memory (Err f)))) (lacks_memory (Err f))
      (told_carried sends s after puts (λ d. map Did did ++ stops_if d) (Err f) link (quiet_reply did quiet) put kills)
      (quiet_reply did quiet (closed_down (core_of s.part)))
      (refl, refl, ap action_in (sym (append-nil (map HandedOut (map Did did ++ Stops fault.Pipe ∷ [])))) ∙ (quiet (Stops fault.Pipe ∷ [])).1 []))

  pub handed_out : (s : Stored T U C) (action : OpenAction) (h : Handed)
      → IsHandled sends (hands_out (core_of s.part) action h) s (Acts h) (record s { part = record s.part { action = Some action } })
  handed_out s action h =
      handled (hands_out (core_of s.part) action h) s _ (Acts h) false (
        record (core_of s.part) { action = Some action },
        s.part.link,
        inl (Ok tt, s.part.link, [], false, puts_none sends s.part.link, (refl, refl, refl), refl, refl),
        made_end s.serial (record s.part { action = Some action }) s.made,
      )
      refl (refl, grind (arith, s.part.is_killed), refl)
