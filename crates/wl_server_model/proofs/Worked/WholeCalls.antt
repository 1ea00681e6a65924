-- Worked calls from end to end, computed from the definitions: what waits, what is sent, what is noted, and what is left.
use Rattle.std.proofs.Common.{◌≡◌, ℕ, Bool, List, [], ◌∷◌, Some, None, Result, Ok, Err, true, false, refl, inl, inr, lit≤, arith, ap, true≢false, ◌++◌}
use Rattle.std.specs.Fmt.{digits}
use Rattle.std.specs.Str.Lossy.{utf8_lossy, utf8_valid_len}
use Rattle.std.specs.Str.{is_utf8, chars}
use lib.Utf8.{encode}
use Rattle.std.specs.Prelude.{codes, ℕ}
use Rattle.wl_wire.specs.declared.error.IoFault.{IoFault}
use Rattle.wl_wire.specs.Message.{word, piece, spelling}
use Rattle.wl_wire.specs.Parse.{ReadsMessage, sender_of, second_word}
use Rattle.wl_wire.specs.Inside.Cursor.{arguments_at}
use Rattle.wl_wire.specs.Pieces.{word_at, counted_at, text_of, argument_at}
use Rattle.wl_wire.proofs.Spelling.CursorLaws.{arguments_read}
use Rattle.wl_link.specs.Exchange.{Queue, Sending, nothing}
use Rattle.wl_link.specs.Link.{FlushedBy, Grown, LinkState, Wants, WroteBy, needed}
use Rattle.wl_link.specs.Puts.{FlushesOut, PutsOut, Said}
use Rattle.wl_link.specs.Reader.{Given, HandedOut, Handled, Queued, ReaderState, stops, Gives, Reads, Received, Turn}
use Rattle.wl_link.specs.Store.{held, removed}
use Rattle.wl_server_client.specs.declared.error.ActionError.TheVariants.{Io}
use Rattle.wl_server_client.specs.declared.notes.DisconnectReason.{DisconnectReason}
use Rattle.wl_server_client.specs.declared.notes.DisconnectReason.TheVariants.{ProtocolError as BrokeProtocol, ConnectionClosed}
use Rattle.wl_server_client.specs.Deeds.{Noted, Put, Sent, Left, Came}
use Rattle.wl_server_client.specs.Globals.{Globals, Offer}
use Rattle.wl_server_client.specs.Part.{Part, display_object, objects_of, fresh_object}
use Rattle.wl_server_client.specs.Reading.{Around, NextAction, breaking, new_reading, server, exchanges_in}
use Rattle.wl_server_client.specs.declared.reading.response.RequestFault.TheVariants as wrong
use Rattle.wl_server_client.specs.declared.reading.violation.MessageFault.TheVariants as breach
use Rattle.wl_server_client.specs.declared.reading.violation.Violation.{Violation}
use Rattle.wl_wire.specs.Table.{display_id}
use Rattle.wl_server_client.specs.Requests.{is_valid_new}
use Rattle.wl_server_client.specs.Telling.{Core, Stops, Told, core_of, delete_message, error_message, killed, deeds_of, reader_part}
use Rattle.wl_server_model.proofs.Worked.Messages.{at, client, id_in, is_cons, quad, quad_id, says, table}
use Rattle.wl_link.specs.declared.object.Object.{Object}
use Rattle.wl_link.specs.Stretch.{EndsByPipe}
use Rattle.wl_server_client.specs.declared.objects.Kept.{Kept}
use Rattle.wl_server_client.specs.Events.{SendsEvent, SessionMessage, said}
use Rattle.wl_server_client.specs.Finish.{FinishesRequest}
use Rattle.wl_link.specs.Script.{Script}
use Rattle.wl_link.specs.Served.{Answers, state_as, AsTold}
use Rattle.wl_server_model.specs.Cutting.{CutsReading, IsServed}
use Rattle.wl_server_model.proofs.OverRuns.Cut.CuttingLaws.{seen_reads}
use Rattle.wl_server_model.specs.PartStep.{Asked, ReadsFor, World, around, over_scripts}
use Rattle.wl_server_model.specs.Runs.{Alone, Own}
use Rattle.wl_server_model.specs.Server.{Seen}
use Rattle.wl_server_model.proofs.OverRuns.Cut.StretchLaws.{stretch_served}
use Rattle.wl_server_model.specs.Stretches.{IsStretch, StretchIsServed}
use Rattle.wl_wire.specs.declared.argument.ArgumentType.TheVariants as kind
use Rattle.wl_wire.specs.declared.argument.Argument.TheVariants as arg
use Rattle.wl_wire.specs.declared.error.IoFault.TheVariants as fault
use Rattle.wl_server_client.specs.declared.notes.Happening.TheVariants as happened
use Rattle.wl_server_client.specs.declared.reading.action.OpenAction.TheVariants as opened
use Rattle.wl_server_model.specs.declared.step.Reply.TheVariants as reply
use Rattle.wl_server_model.specs.declared.step.Step.TheVariants as step
use Rattle.wl_link.proofs.Readings.ServedLaws.{served_one, told_function}

abbrev arrived : List ℕ
arrived = 1 ∷ 0 ∷ 0 ∷ 0 ∷ 0 ∷ 0 ∷ 0x0c ∷ 0 ∷ 5 ∷ 0 ∷ 0 ∷ 0 ∷ []

abbrev link_with : ℕ → List ℕ → List ℕ → LinkState ℕ
link_with transport incoming outgoing = record {
  transport = transport;
  incoming = record { bytes = incoming; tokens = [] };
  incoming_capacity = 4096;
  outgoing = record { bytes = outgoing; tokens = [] };
  outgoing_capacity = 4096;
  limit = Some 4096;
}

abbrev the_error : Said
the_error = error_message 1 0 (codes "Invalid new_id: 5.")

abbrev the_send : Sending
the_send = record { offer = record { bytes = spelling the_error.message; tokens = [] }; answer = Ok 40 }

abbrev why : DisconnectReason
why = BrokeProtocol (record { code = 0; object_id = 1; object_interface = codes "wl_display"; message = codes "Invalid new_id: 5." })

-- the new id is the first argument
abbrev how : Violation
how = record { sender_id = 1; interface = display_id; opcode = 0; fault = breach.WrongArgument 0 (wrong.InvalidNewId 5) }

-- a buffer that has room, or may not grow, stays as it is
stays : (l : LinkState ℕ) (more : ℕ) → (Wants l.limit (needed l more) l.outgoing_capacity → ⊥) → Grown l more l
stays l more fits = (record { times = 0; grown = omega arith; wanted = λ k less. absurd (omega (arith, less)); enough = fits }, refl)

-- ---- a reading: the first request is a sync whose new id may not be used

module _ (sends : ℕ → Queue → Result ℕ IoFault → ℕ → Type 0) (receives : ℕ → ℕ → Result Queue IoFault → ℕ → Type 0) (globals : Globals ℕ)
    (p : Part ℕ ℕ Bool) (display : held p.store 1 ≡ Some display_object)
    (taken : is_valid_new (objects_of p) 5 ≡ false)
    (takes : sends 0 (record { bytes = spelling the_error.message; tokens = [] }) (Ok 40) 1) where
  abbrev a : Around ℕ Bool
  a = record { table = table; client = client; globals = globals; views = says; object_limit = None; hands_registries = false }

  abbrev before : Part ℕ ℕ Bool
  before = record p { link = link_with 0 arrived []; is_killed = false; action = None }

  abbrev after : Part ℕ ℕ Bool
  after = record p { link = link_with 1 [] []; is_killed = true; action = None; violation = Some how }

  abbrev end : ReaderState ℕ (Core ℕ Bool)
  end = record { core = killed (breaking (core_of before) how) why; link = link_with 1 [] [] }

  it_is_read : ReadsMessage arrived (kind.NewId ∷ []) [] (record { sender = 1; opcode = 0; args = arg.NewId 5 ∷ [] })
  unfolding word piece sender_of second_word word_at counted_at text_of argument_at arguments_at
  it_is_read = record {
    whole = record { header = lit≤ tt; counts_header = lit≤ tt; there = lit≤ tt };
    sender = refl;
    opcode = refl;
    args = (arguments_read (kind.NewId ∷ []) (5 ∷ 0 ∷ 0 ∷ 0 ∷ []) [] (arg.NewId 5 ∷ []) [] refl).0;
  }

  it_is_put : PutsOut sends (link_with 0 [] []) (the_error ∷ []) [] (the_error ∷ []) (Ok tt) (link_with 0 [] (spelling the_error.message))
  unfolding word piece
  it_is_put = (
    [],
    Ok tt,
    link_with 0 [] (spelling the_error.message),
    inl (inr (link_with 0 [] [], stays (link_with 0 [] []) 40 (λ w. absurd (let h = w.0 in omega (arith, h))), (refl, inl (refl, refl)))),
    ([], [], refl, refl, (refl, refl, refl, refl)),
  )

  it_is_sent : FlushesOut sends true (link_with 0 [] (spelling the_error.message)) (the_send ∷ []) false (link_with 1 [] [])
  unfolding word piece
  it_is_sent = (Ok tt, ((1, takes, refl), ((λ e. true≢false (ap is_cons e)), refl, (refl, refl, refl)), refl), refl)

  sync_with_taken_new_id : NextAction sends receives a new_reading before (Err (Io fault.Pipe)) (record { turns_left = 64; read = 1 }) false
      (Sent the_send ∷ Put the_error ∷ Noted (happened.Disconnected why) ∷ []) after
  unfolding word piece digits utf8_lossy utf8_valid_len is_utf8 chars encode sender_of second_word word_at counted_at text_of argument_at arguments_at
  sync_with_taken_new_id =
      let handed : List (Given (Told ℕ)) = Queued the_error ∷ HandedOut (Stops fault.Pipe) ∷ [] in (
        Handled (the_send ∷ []) ∷ [],
        record { gave = handed; stopped = None; refused = false; left = 64 },
        end,
        (
          refl,
          (
            _,
            link_with 0 [] [],
            handed,
            false,
            end,
            stops None false 64,
            (record { sender = 1; opcode = 0; args = arg.NewId 5 ∷ [] }, (Some (kind.NewId ∷ []), rw display refl, (it_is_read, refl)), refl),
            rw display (rw taken (rw display (inl ([], the_send ∷ [], the_error ∷ [], Ok tt, _, _, it_is_put, it_is_sent, refl, refl, refl, refl)))),
            refl,
            (refl, refl),
          ),
        ),
        refl,
        refl,
        refl,
        refl,
        refl,
      )

-- ---- a client as a reader

-- it is over at the end of its stream
ends_by_pipe : (a : Around ℕ Bool) → EndsByPipe (server {U = ℕ} a)
ends_by_pipe a = record { blocks = λ core. refl; over = λ core. (refl, λ u. refl) }

-- ---- objects that end

abbrev served : Object (Kept ℕ)
served = fresh_object quad_id 3 1 (Some 9)

abbrev gone : SessionMessage
gone = record { sender = id_in client 0xFF000000 1 quad_id; opcode = 2; args = [] }

module _ (sends : ℕ → Queue → Result ℕ IoFault → ℕ → Type 0) (p : Part ℕ ℕ Bool) where
  abbrev live : Part ℕ ℕ Bool
  live = record p { link = link_with 0 [] []; is_killed = false }

  it_is_written : WroteBy sends (link_with 0 [] []) (said gone).message [] (Ok tt) (link_with 0 [] (spelling (said gone).message))
  unfolding word piece
  it_is_written = inr (link_with 0 [] [], stays (link_with 0 [] []) 8 (λ w. absurd (let h = w.0 in omega (arith, h))), (refl, inl (refl, refl)))

  -- a destructor event of an object of the server's range: no `delete_id`, the object leaves, and its note waits
  an_event_ends_its_sender : held p.store 0xFF000000 ≡ Some served → held (removed p.store 0xFF000000) 0xFF000000 ≡ None
      → SendsEvent sends client table live gone (Ok tt) false (Put (said gone) ∷ Left (at 0xFF000000 1) ∷ [])
      (record live {
        link = link_with 0 [] (spelling (said gone).message);
        store = removed p.store 0xFF000000;
        waiting = p.waiting ++ happened.Destroyed (id_in client 0xFF000000 1 quad_id) 9 ∷ [];
      })
  unfolding word piece
  an_event_ends_its_sender there left =
      rw there (inr (
        [],
        Put (said gone) ∷ Left (at 0xFF000000 1) ∷ [],
        Ok tt,
        link_with 0 [] (spelling (said gone).message),
        it_is_written,
        (
          Left (at 0xFF000000 1) ∷ [],
          ([], _, _, inl ([], [], [], Ok tt, _, false, (refl, refl, refl, refl), (refl, refl, refl), refl, refl, refl, refl), rw left refl, refl),
          refl,
          refl,
        ),
        refl,
      ))

  abbrev full : Part ℕ ℕ Bool
  full = record p { link = record (link_with 0 [] []) { outgoing_capacity = 4; limit = Some 4; outgoing = record { bytes = 7 ∷ []; tokens = [] } }; is_killed = false; action = Some (opened.Request (id_in client 3 2 quad_id) true None) }

  abbrev failed : Sending
  failed = record { offer = record { bytes = 7 ∷ []; tokens = [] }; answer = Err fault.Pipe }

  abbrev broken : LinkState ℕ
  broken = record full.link { transport = 1 }

  it_fails : sends 0 (record { bytes = 7 ∷ []; tokens = [] }) (Err fault.Pipe) 1
      → PutsOut sends full.link (delete_message 3 ∷ []) (failed ∷ []) [] (Err fault.Pipe) broken
  unfolding word piece
  it_fails fails =
      let sent : FlushedBy sends full.link (failed ∷ [])
      (Err fault.Pipe) broken = ((1, fails, refl), ((λ e. true≢false (ap is_cons e)), refl, (refl, refl, refl)), refl) in (
        failed ∷ [],
        Err fault.Pipe,
        broken,
        inl (inr
            (full.link, stays full.link 12 (λ w. absurd (let h = w.1 in omega (arith, h))), (broken, Err fault.Pipe, sent, (refl, refl)))),
        (refl, refl, refl, refl),
      )

  -- where the `delete_id` of a destructor request fails, the sender is noted first, and then the end of the client
  an_end_that_fails : held p.store 3 ≡ Some quad → held (removed p.store 3) 3 ≡ None → sends 0 (record { bytes = 7 ∷ []; tokens = [] })
      (Err fault.Pipe) 1
      → FinishesRequest sends client full None (Ok tt) false
      (Sent failed ∷ Noted (happened.Destroyed (id_in client 3 2 quad_id) 6) ∷ Left (at 3 2) ∷ Noted (happened.Disconnected ConnectionClosed) ∷ [])
      (record full { link = broken; store = removed p.store 3; is_killed = true; action = None })
  unfolding word piece
  an_end_that_fails there left fails =
      let failing = it_fails fails in
      rw there (refl, (failed ∷ [], _, _, inl (failed ∷ [], [], [], _, broken, false, failing, (refl, refl, refl), refl, refl, refl, refl), rw left refl, refl))

-- ---- a stretch of a client's own run: five bytes of a header arrive, are read, and wait

-- The deeds of the reading are those of its turns; and what is served of the five bytes is nothing, by no answer to a send.

abbrev half : Queue
half = record { bytes = 1 ∷ 0 ∷ 0 ∷ 0 ∷ 0 ∷ []; tokens = [] }

abbrev scripted : List (Result Queue IoFault) → Script
scripted arrivals = record { arrivals = arrivals; answers = []; sent = [] }

abbrev link_over : Script → Queue → LinkState Script
link_over script incoming = record {
  transport = script;
  incoming = incoming;
  incoming_capacity = 4096;
  outgoing = nothing;
  outgoing_capacity = 4096;
  limit = Some 4096;
}

module _ (offer : Offer ℕ) (p : Part Script ℕ Bool) where
  abbrev w : World Script ℕ Bool
  w = over_scripts says

  abbrev at_first : Part Script ℕ Bool
  at_first = record p { link = link_over (scripted (Ok half ∷ [])) nothing; is_killed = false; action = None }

  abbrev at_last : Part Script ℕ Bool
  at_last = record p { link = link_over (scripted []) half; is_killed = false; action = None }

  abbrev with_part : Part Script ℕ Bool → Seen Script ℕ Bool
  with_part q = record { part = Some q; made = [] }

  abbrev reading : Own Script ℕ ℕ Bool
  reading = record {
    call = Asked (step.NextAction client) (reply.NextAction (Err (Io fault.WouldBlock)));
    lacked = false;
    did = Came (Ok half) ∷ Came (Err fault.WouldBlock) ∷ [];
  }

  -- what is told of the reading
  abbrev outcome : Gives (Told ℕ)
  outcome = stops (Some fault.WouldBlock) false 62

  abbrev turns : List Turn
  turns = Received (Ok half) ∷ Received (Err fault.WouldBlock) ∷ []

  its_deeds : reading.did ≡ deeds_of (exchanges_in turns) outcome.gave (core_of at_last)
  its_deeds = refl

  -- a piece is received, and then nothing can be
  would_block : Reads w.sends (server (around w client offer)) w.receives 63 (reader_part at_last) (Received (Err fault.WouldBlock) ∷ []) outcome
      (reader_part at_last)
  would_block = (refl, inl (refl, refl), (62, refl, (_, (inl (tt, refl, refl), refl, refl), λ lacks fits. omega arith, (refl, refl, refl))))

  half_arrives : Reads w.sends (server (around w client offer)) w.receives 64 (reader_part at_first) turns outcome (reader_part at_last)
  half_arrives = (refl, inl (refl, refl), (63, refl, (_, (inl (lit≤ tt, refl, refl), refl, refl), λ lacks fits. omega arith, would_block)))

  a_read : ReadsFor w client offer client new_reading (Err (Io fault.WouldBlock)) (record { turns_left = 62; read = 0 })
      (with_part at_first) false reading.did (with_part at_last)
  a_read = (at_last, (turns, outcome, reader_part at_last, half_arrives, refl, refl, refl, refl, refl), refl)

  a_reading : Alone w client offer (with_part at_first) (reading ∷ []) (with_part at_last)
  a_reading = (with_part at_last, (Err (Io fault.WouldBlock), record { turns_left = 62; read = 0 }, refl, a_read), refl)

  -- it is a stretch, and so what is served of the piece
  a_stretch : IsStretch (around w client offer) at_first (reading ∷ []) at_last
  a_stretch = grind (arith, true≢false, is_cons)

  so_it_is_served : StretchIsServed (around w client offer) at_first (reading ∷ []) at_last
  so_it_is_served = stretch_served says client offer (with_part at_first) (with_part at_last) at_first refl at_last
      (reading ∷ []) refl a_reading a_stretch

  -- the reading is cut by its own deeds
  it_is_cut : CutsReading (around w client offer) w.sends w.receives new_reading (with_part at_first) (Err (Io fault.WouldBlock)) reading.did
      (with_part at_last)
  it_is_cut =
      seen_reads w client offer (with_part at_first) (with_part at_last) new_reading (Err (Io fault.WouldBlock))
      (record { turns_left = 62; read = 0 }) false reading.did refl a_read

  -- five bytes that wait are served as nothing, and still wait
  of_half : IsServed (around w client offer) (reader_part at_first) half [] [] [] (state_as (reader_part at_first) half [])
  of_half = record { count = 0; left = []; serves = (refl, refl, refl); rests = inl (refl, refl) }

  -- with the law of one outcome: as nothing else
  of_half_alone : (gave : List (Given (Told ℕ))) (end : ReaderState Answers (Core ℕ Bool)) → IsServed (around w client offer)
      (reader_part at_first) half [] [] gave end → gave ≡ []
  of_half_alone gave end served =
      (served_one AsTold told_function (server (around w client offer)) (state_as (reader_part at_first) half []) end _ [] gave [] served of_half).0
