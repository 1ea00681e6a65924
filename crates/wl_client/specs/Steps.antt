-- The calls of a session one after another.
--
-- A step is a call that changes the session, with its arguments, or a call by which the program changes the transport by
-- script. An entry of a run is a step, its reply, and whether memory was refused in it. `CallOf` says what a call does over
-- any transport, `LocalCall` what one does that neither sends nor receives, and `StepOf` what a step does over the transport
-- by script.
use Rattle.std.specs.Prelude.{◌≡◌, ℕ, ◌<◌, List, [], ◌∷◌, ◌++◌, length, map, Bool, true, false, Result, Ok, Err}
use Rattle.wl_wire.specs.declared.error.IoFault.{IoFault}
use Rattle.wl_wire.specs.declared.error.OutOfMemory.{OutOfMemory}
use Rattle.wl_wire.specs.declared.protocol.TableError.{TableError}
use Rattle.wl_wire.specs.Table.{AnswersTo, Growth, table_after}
use Rattle.wl_link.specs.declared.memory.ArriveError.{ArriveError}
use Rattle.wl_link.specs.declared.memory.ArriveError.TheVariants as arrive
use Rattle.wl_link.specs.Exchange.{Queue}
use Rattle.wl_link.specs.Link.{LinkState, LimitSet, with_transport}
use Rattle.wl_link.specs.Runs.{RunEntry, Leads as RunLeads, StopsAt as RunStopsAt, entries as run_entries}
use Rattle.wl_link.specs.Script.{Script, ScriptSends, ScriptReceives, parcel}
use Rattle.wl_client.specs.declared.error.DestroyError.TheVariants as destroy
use Rattle.wl_client.specs.declared.error.FinishError.TheVariants as finish
use Rattle.wl_client.specs.declared.error.FinishRefused.{FinishRefused}
use Rattle.wl_client.specs.declared.error.FlushError.TheVariants as flush
use Rattle.wl_client.specs.declared.error.RequestError.TheVariants as request
use Rattle.wl_client.specs.declared.step.Step.{Step}
use Rattle.wl_client.specs.declared.step.Step.TheVariants as step
use Rattle.wl_client.specs.declared.step.Reply.{Reply}
use Rattle.wl_client.specs.declared.step.Reply.TheVariants as reply
use Rattle.wl_client.specs.Finish.{Finishes, SessionFlushed}
use Rattle.wl_client.specs.Freeing.{HandsFreed, kept_freed}
use Rattle.wl_client.specs.Objects.{DataSet, DestroyedBy, ReclaimedBy}
use Rattle.wl_client.specs.Reading.{NextEvent, event_content}
use Rattle.wl_client.specs.Requests.{Requested, session_content}
use Rattle.wl_client.specs.Session.{SessionState, failed_by}

-- ---- whether memory was refused, by the answer

abbrev pub refused_destroy : Result (Unit {0}) destroy.the_data → Bool
refused_destroy (Err destroy.OutOfMemory) = true
refused_destroy _ = false

abbrev pub refused_request : {A : Type 0} → Result A request.the_data → Bool
refused_request (Err request.OutOfMemory) = true
refused_request _ = false

abbrev pub refused_flush : Result (Unit {0}) flush.the_data → Bool
refused_flush (Err flush.OutOfMemory) = true
refused_flush _ = false

abbrev pub is_out_of_memory : finish.the_data → Bool
is_out_of_memory finish.OutOfMemory = true
is_out_of_memory _ = false

abbrev pub refused_finish : {U : Type 0} → Result (Unit {0}) (FinishRefused U) → Bool
refused_finish (Ok _) = false
refused_finish (Err e) = is_out_of_memory e.error

abbrev pub refused_arrive : Result (Unit {0}) ArriveError → Bool
refused_arrive (Err arrive.OutOfMemory) = true
refused_arrive _ = false

abbrev pub refused_script : Result (Unit {0}) OutOfMemory → Bool
refused_script (Ok _) = false
refused_script (Err _) = true

-- ---- steps

module _ {U : Type 0} where
  -- the transport is another one, and all else is as it was
  abbrev pub with_script : SessionState Script U → Script → SessionState Script U
  with_script s script = record s { link = with_transport s.link script }

  -- a call of the transport that fails only if memory is refused, and the script after it
  abbrev pub Scripts : SessionState Script U → Script → Result (Unit {0}) OutOfMemory → SessionState Script U → Type 0
  Scripts before script (Ok _) after = after ≡ with_script before script
  Scripts before script (Err _) after = after ≡ before

  -- a chunk arrives, unless it has more than 28 tokens or there is no memory for it
  abbrev pub ArrivesWith : SessionState Script U → Queue → Result (Unit {0}) ArriveError → SessionState Script U → Type 0
  ArrivesWith before chunk (Ok _) after =
      ¬ (28 < length chunk.tokens)
      × (after ≡ with_script before (record before.link.transport { arrivals = before.link.transport.arrivals ++ Ok chunk ∷ [] }))
  ArrivesWith before chunk (Err arrive.TooManyTokens) after = (28 < length chunk.tokens) × (after ≡ before)
  ArrivesWith before chunk (Err arrive.OutOfMemory) after = ¬ (28 < length chunk.tokens) × (after ≡ before)

module _ {T U : Type 0} where
  -- the table grows by that, or not, as it answers; all else is as it was
  abbrev pub InterfacesAdded : SessionState T U → Growth → Result (Unit {0}) TableError → SessionState T U → Type 0
  InterfacesAdded before growth answer after = AnswersTo before.table growth answer × (after ≡ record before { table = table_after before.table growth answer })

-- what a step does: the session before it, the step, its reply, whether memory was refused, and the session after it
abbrev pub Making : Type 0 → Type 0 → Type 1
Making T U = SessionState T U → Step U → Reply U → Bool → SessionState T U → Type 0

module _ {T U : Type 0} where
  -- a call of a session that neither sends nor receives, over whatever transport
  abbrev pub LocalCall : Making T U
  LocalCall before (step.SetData id u) answer refused after =
      (r : _) × (answer ≡ reply.SetData r) × (refused ≡ false) × DataSet before id u r after
  LocalCall before (step.DestroyObject id) answer refused after =
      (r : _) × (answer ≡ reply.DestroyObject r) × (refused ≡ refused_destroy r) × DestroyedBy before id r after
  LocalCall before (step.Reclaim id) answer refused after =
      (r : _) × (answer ≡ reply.Reclaim r) × (refused ≡ false) × ReclaimedBy before id r after
  LocalCall before (step.FinishEvent u) answer refused after =
      (r : _) × (answer ≡ reply.FinishEvent r) × (refused ≡ refused_finish r) × Finishes before u r after
  LocalCall before (step.Fail e) answer refused after = (answer ≡ reply.Fail) × (refused ≡ false) × (after ≡ failed_by before e)
  LocalCall before step.DispatchInnerQueue answer refused after =
      (answer ≡ reply.DispatchInnerQueue (Ok 0)) × (refused ≡ false) × (after ≡ before)
  LocalCall before (step.SetMaxBufferSize limit) answer refused after =
      (answer ≡ reply.SetMaxBufferSize) × (refused ≡ false)
      × ((link : LinkState T) × LimitSet before.link limit link × (after ≡ record before { link = link }))
  LocalCall before (step.PassOverUnknownSenders passes) answer refused after =
      (answer ≡ reply.PassOverUnknownSenders) × (refused ≡ false) × (after ≡ record before { passes_over = passes })
  LocalCall before step.TakeNotes answer refused after =
      (notes : _) × (answer ≡ reply.TakeNotes notes) × (refused ≡ false) × (notes.items ≡ before.notes) × (after ≡ record before { notes = [] })
  LocalCall before (step.KeepFreed keeps) answer refused after = (answer ≡ reply.KeepFreed) × (refused ≡ false) × (after ≡ kept_freed before keeps)
  LocalCall before step.NextFreed answer refused after =
      (id : _) × (answer ≡ reply.NextFreed id) × (refused ≡ false) × HandsFreed before.freed before id after
  LocalCall before _ answer refused after = ⊥

module _ {T U : Type 0} (sends : T → Queue → Result ℕ IoFault → T → Type 0) (receives : T → ℕ → Result Queue IoFault → T → Type 0) where
  -- a call of a session over a transport that sends and receives so; the steps of the transport by script are none
  abbrev pub CallOf : Making T U
  CallOf before (step.SendRequest m u spec) answer refused after =
      (r : _) × (answer ≡ reply.SendRequest r) × (refused ≡ refused_request r) × Requested sends before (session_content m) u spec r after
  CallOf before step.Flush answer refused after =
      (r : _) × (answer ≡ reply.Flush r) × (refused ≡ refused_flush r) × SessionFlushed sends before r after
  CallOf before step.NextEvent answer refused after =
      (r : _) × (answer ≡ reply.NextEvent r) × NextEvent sends receives before (event_content r) refused after
  CallOf before call answer refused after = LocalCall before call answer refused after

-- the step is a call of the transport by script
abbrev pub IsOfScript : {U : Type 0} → Step U → Type 0
IsOfScript (step.Arrive bytes tokens) = Unit {0}
IsOfScript (step.ArriveFault fault) = Unit {0}
IsOfScript (step.Accept count) = Unit {0}
IsOfScript (step.AcceptFault fault) = Unit {0}
IsOfScript step.TakeSent = Unit {0}
IsOfScript _ = ⊥

module _ {U : Type 0} where
  -- a step over the transport by script: a call of that transport, or of the session
  abbrev pub StepOf : Making Script U
  StepOf before (step.Arrive bytes tokens) answer refused after =
      (r : _) × (answer ≡ reply.Arrive r) × (refused ≡ refused_arrive r)
      × ArrivesWith before (record { bytes = bytes.items; tokens = tokens.items }) r after
  StepOf before (step.ArriveFault f) answer refused after =
      (r : _) × (answer ≡ reply.ArriveFault r) × (refused ≡ refused_script r)
      × Scripts before (record before.link.transport { arrivals = before.link.transport.arrivals ++ Err f ∷ [] }) r after
  StepOf before (step.Accept n) answer refused after =
      (r : _) × (answer ≡ reply.Accept r) × (refused ≡ refused_script r)
      × Scripts before (record before.link.transport { answers = before.link.transport.answers ++ Ok n ∷ [] }) r after
  StepOf before (step.AcceptFault f) answer refused after =
      (r : _) × (answer ≡ reply.AcceptFault r) × (refused ≡ refused_script r)
      × Scripts before (record before.link.transport { answers = before.link.transport.answers ++ Err f ∷ [] }) r after
  StepOf before step.TakeSent answer refused after =
      (sent : _) × (answer ≡ reply.TakeSent sent) × (refused ≡ false) × (map parcel sent.items ≡ before.link.transport.sent)
      × (after ≡ with_script before (record before.link.transport { sent = [] }))
  StepOf before call answer refused after = CallOf ScriptSends ScriptReceives before call answer refused after

-- ---- runs

-- a step of a run, its reply, and whether memory was refused in it
abbrev pub Entry : Type 0 → Type 0
Entry U = RunEntry (Step U) (Reply U)

module _ {U : Type 0} where
  -- the steps in which no memory was refused, with their replies
  abbrev pub entries : List (Step U) → List (Reply U) → List (Entry U)
  entries steps replies = run_entries steps replies

  -- the entries lead from one value of the session to another
  abbrev pub Leads : SessionState Script U → List (Entry U) → SessionState Script U → Type 0
  Leads before run after = RunLeads StepOf before run after

  -- A run stopped in the step after the first n. Either there was no memory for the replies, and nothing was done; or the
  -- steps before it were made with these replies, and memory was refused in it.
  abbrev pub StopsAt : SessionState Script U → List (Step U) → ℕ → List (Reply U) → SessionState Script U → Type 0
  StopsAt before steps n replies after = RunStopsAt StepOf before steps n replies after
