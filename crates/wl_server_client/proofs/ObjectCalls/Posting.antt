-- How an error that was posted on an object is a verdict that was carried out.
use Rattle.std.proofs.Common.{◌≡◌, ◌∙◌, ℕ, Bool, true, false, ◌||◌, List, [], ◌∷◌, ◌++◌, is_some, Result, Ok, MatchResult, refl, ap, append-nil, inl, arith}
use Rattle.std.proofs.lemmas.Bool.{false≢true}
use Rattle.wl_wire.specs.declared.error.IoFault.{IoFault}
use Rattle.wl_wire.specs.declared.error.ProtocolError.{ProtocolError}
use Rattle.wl_wire.specs.Table.{InterfaceRow}
use Rattle.wl_link.specs.Exchange.{Queue, Sending}
use Rattle.wl_link.specs.Link.{LinkState}
use Rattle.wl_link.specs.Puts.{FlushesOut, lacks_memory}
use Rattle.wl_link.specs.Reader.{came_to}
use Rattle.wl_server_client.specs.declared.notes.DisconnectReason.{DisconnectReason}
use Rattle.wl_server_client.specs.declared.notes.DisconnectReason.TheVariants.{ConnectionClosed, ProtocolError as BrokeProtocol}
use Rattle.wl_server_client.specs.Inside.Carried.{IsCarried}
use Rattle.wl_server_client.specs.Inside.Client.{Does}
use Rattle.wl_server_client.specs.Deeds.{notes_in}
use Rattle.wl_server_client.specs.Errors.{error_messages, error_of, posts}
use Rattle.wl_server_client.specs.Ids.{IdParts}
use Rattle.wl_server_client.specs.Part.{Part, named, with_link}
use Rattle.wl_server_client.specs.Inside.Puts.{Puts}
use Rattle.wl_server_client.specs.Stored.{Stored, no_times, untimed}
use Rattle.wl_server_client.specs.Telling.{Core, Kills, core_of, end_deeds, error_message, killed, part_of, speaker}
use Rattle.wl_server_client.proofs.GlobalCalls.Putting.{puts_none}

module _ {T U C : Type 0} where
  -- over another link
  abbrev pub linked : Stored T U C → LinkState T → Stored T U C
  linked s link = record s { part = with_link s.part link }

  -- it is killed
  abbrev pub ended : Stored T U C → DisconnectReason → Stored T U C
  ended s reason = record {
    serial = s.serial;
    part = record s.part { is_killed = true };
    made = s.made ++ notes_in (end_deeds (killed (core_of s.part) reason).ended);
    times = no_times;
  }

  pub kills_is : (s after : Stored T U C) (reason : DisconnectReason) → Does s (λ p did q. Kills p reason did q) after
      → untimed after ≡ ended s reason
  kills_is s after reason (did, q, (deeds, part), is) = grind (arith)

  -- the client as it is where its core came to this
  abbrev pub arrived : Stored T U C → Core U C → LinkState T → Stored T U C
  arrived s core link = record {
    serial = s.serial;
    part = part_of (record { core = core; link = link });
    made = s.made ++ notes_in (end_deeds core.ended);
    times = no_times;
  }

module _ {T U C : Type 0} (sends : T → Queue → Result ℕ IoFault → T → Type 0) (p : Part T U C) (id : IdParts) (code : ℕ) (text : List ℕ)
    (live : p.is_killed ≡ false) where
  -- the error of a live client's object that is kept, and of none
  pub puts_error : (n : ℕ) (answer : Result (Unit {0}) IoFault) (link after : LinkState T) → n ≡ id.number → is_some (named p.store id) ≡ true
      → Puts sends link (error_message n code text ∷ []) answer after → Puts sends link (error_messages (core_of p) id code text) answer after
  puts_error n answer link after is kept puts = rw (live, kept, ← is) puts

  pub puts_no_error : (link : LinkState T) → is_some (named p.store id) ≡ false
      → Puts sends link (error_messages (core_of p) id code text) (Ok tt) link
  puts_no_error link gone = rw (live, gone) (puts_none sends link)

module _ {T U C : Type 0} (sends : T → Queue → Result ℕ IoFault → T → Type 0) (table : List InterfaceRow) (s : Stored T U C) (id : IdParts) (code : ℕ)
    (text : List ℕ) where
  -- to a killed client nothing is told
  pub posted_dead : (after : Stored T U C) (es : List Sending) (lacked : Bool) → s.part.is_killed ≡ true
      → FlushesOut sends true s.part.link es lacked after.part.link → after ≡ linked s after.part.link
      → IsCarried sends (posts table (core_of s.part) id code text) s lacked after
  posted_dead after es lacked dead flushed rest = (
    killed (core_of s.part) (BrokeProtocol (error_of table id code text)),
    after.part.link,
    inl (Ok tt, s.part.link, es, lacked, rw dead (puts_none sends s.part.link), flushed, refl, refl),
    ap untimed rest ∙ (grind (arith, core_of, killed, append-nil, false≢true, after.part.link)),
  )

  -- the error was told, then flushed; the answer to the first tells why the client is killed
  pub posted_live : (put flushed told after : Stored T U C) (error : ProtocolError) (wrote : Result (Unit {0}) IoFault) (es : List Sending)
      (refused lacked : Bool)
      → error ≡ error_of table id code text
      → Puts sends s.part.link (error_messages (core_of s.part) id code text) wrote put.part.link → put ≡ linked s put.part.link
      → FlushesOut sends true put.part.link es lacked flushed.part.link → flushed ≡ linked put flushed.part.link
      → refused ≡ lacks_memory wrote → MatchResult wrote (λ _. told ≡ flushed) (λ _. Does flushed (λ p did q. Kills p ConnectionClosed did q) told)
      → Does told (λ p did q. Kills p (BrokeProtocol error) did q) after
      → IsCarried sends (posts table (core_of s.part) id code text) s (refused || lacked) after
  posted_live put flushed told after error wrote es refused lacked is puts put-is flushes flushed-is refused-is tells kills = (
    came_to speaker (posts table (core_of s.part) id code text) wrote,
    flushed.part.link,
    inl (wrote, put.part.link, es, lacked, puts, flushes, refl, ap (λ (b : Bool). b || lacked) refused-is),
    kills_is told after (BrokeProtocol error) kills ∙ (grind (arith, kills_is, append-nil, is, put-is, flushed-is, put.part.link, flushed.part.link)),
  )
