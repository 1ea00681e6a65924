-- What a fresh client sends for its first `wl_display.sync`.
use Rattle.std.proofs.Common.{◌≡◌, ◌≢◌, ℕ, ◌+◌, ◌≤◌, List, [], ◌∷◌, true, false, Option, None, Some, is_some, Result, Ok, Err, MatchBool, MatchOption, MatchResult, refl, ◌∙◌, ap, subst, inl, inr, arith}
use Rattle.wl_wire.specs.declared.argument.Argument.TheVariants as arg
use Rattle.wl_wire.specs.declared.error.IoFault.{IoFault}
use Rattle.wl_wire.specs.declared.error.IoFault.TheVariants as fault
use Rattle.wl_wire.specs.declared.interface.TheConstants.{WL_DISPLAY_INTERFACE, WL_CALLBACK_INTERFACE}
use Rattle.wl_wire.specs.Message.{WireMessage, word, piece, size}
use Rattle.wl_wire.specs.Table.{InterfaceRow, fixed_rows}
use Rattle.wl_link.specs.declared.object.Object.{Object}
use Rattle.wl_link.specs.Exchange.{Queue, Sending, nothing, joined}
use Rattle.wl_link.specs.Identity.{named_in}
use Rattle.wl_link.specs.Link.{LinkState, Wrote, Flushed, FlushedBy, spelled, with_outgoing, offer_of, left_of}
use Rattle.wl_link.proofs.Calls.OneLaws.{one_flush_lem, one_write_lem}
use Rattle.wl_link.specs.Puts.{lacks_memory}
use Rattle.wl_link.specs.Script.{Script, ScriptSends, script_after_send}
use Rattle.wl_link.proofs.Calls.OneScript.{script_sends_function}
use Rattle.wl_link.specs.Store.{Store, client_range, empty_store, stored, IsLeastAbsent}
use Rattle.wl_link.proofs.Ids.StoreLaws.{held_empty, stored_here, stored_other, least_unique}
use Rattle.wl_link.proofs.Calls.WriteLaws.{wrote_at_once}
use Rattle.wl_client.specs.declared.error.FlushError.{FlushError}
use Rattle.wl_client.specs.declared.error.FlushError.TheVariants as flush
use Rattle.wl_client.specs.declared.error.RequestError.{RequestError}
use Rattle.wl_client.specs.declared.error.RequestError.TheVariants as refused
use Rattle.wl_client.specs.declared.error.WaylandError.{WaylandError}
use Rattle.wl_client.specs.declared.objects.Kept.{Kept}
use Rattle.wl_client.specs.declared.request.Granted.{Granted}
use Rattle.wl_client.specs.Finish.{SessionFlushed, FlushEnds}
use Rattle.wl_client.specs.ObjectId.{IdParts}
use Rattle.wl_client.specs.Requests.{SessionMessage, Numbered, Requested, SentAs, SentWithChild, Sent, Written, checked_sender, request_check, ended_by, wire_message, new_child, error_after, with_born, with_ended, id_of_new}
use Rattle.wl_client.specs.Session.{SessionState, IsConnected, serial_of, id_of, named, display_object, null_parts}
use Rattle.wl_bench.specs.Sync.{one_argument, all_bytes, request_bytes}

-- ---- what the calls are made with

abbrev pub fresh_script : Script
fresh_script = record { arrivals = []; answers = []; sent = [] }

abbrev fresh_link : LinkState Script
fresh_link = record { transport = fresh_script; incoming = nothing; incoming_capacity = 4096; outgoing = nothing; outgoing_capacity = 4096; limit = None }

abbrev pub sync_message : SessionMessage
sync_message = record {
  sender = record { number = 1; serial = 0; interface = WL_DISPLAY_INTERFACE };
  opcode = 0;
  args = arg.NewId null_parts ∷ [];
}

abbrev wire_sync : WireMessage
wire_sync = one_argument 1 0 (arg.NewId 2)

-- ---- the write

-- the link in which the request waits
abbrev waiting_link : LinkState Script
waiting_link = with_outgoing fresh_link fresh_script (joined nothing (spelled wire_sync))

sync_size : size wire_sync ≡ 12
unfolding word piece
sync_size = refl

not_refused : (u : Unit {0}) → ◌≢◌ {A = Result (Unit {0}) IoFault} (Ok u) (Err fault.OutOfMemory)
not_refused u e = absurd cc

-- a write that is not refused puts the request, and sends nothing
written_waits : (written : Result (Unit {0}) IoFault) (link : LinkState Script) → written ≢ Err fault.OutOfMemory
    → Wrote ScriptSends fresh_link wire_sync written link → (written ≡ Ok tt) × (link ≡ waiting_link)
written_waits written link ok wrote =
    let small : size wire_sync ≤ 65535 = omega (arith, sync_size) in
    let room : 0 + size wire_sync ≤ 4096 = omega (arith, sync_size) in
    let put = wrote_at_once ScriptSends fresh_link waiting_link wire_sync (Ok tt) small room (inl (refl, refl)) in
    let one = one_write_lem ScriptSends script_sends_function wire_sync link waiting_link wrote.0 put.0 written (Ok tt) ok (not_refused tt) fresh_link wrote.1 put.1 in
    (one.answer, one.after)

-- ---- the flush

abbrev sync_offer : Queue
sync_offer = offer_of (spelled wire_sync)

abbrev sync_sending : Sending
sync_sending = record { offer = sync_offer; answer = Ok 12 }

abbrev sent_script : Script
sent_script = script_after_send fresh_script sync_offer

abbrev sent_link : LinkState Script
sent_link = with_outgoing waiting_link sent_script (left_of 12 (spelled wire_sync))

-- a transport with an empty script takes the request in one send
sync_flushed : FlushedBy ScriptSends waiting_link (sync_sending ∷ []) (Ok tt) sent_link
unfolding word piece
sync_flushed = ((sent_script, inl (refl, refl), refl), ((λ e. absurd cc), refl, (refl, refl, refl)), refl)

sent_whole : (link : LinkState Script) → Flushed ScriptSends waiting_link (Ok tt) link → link ≡ sent_link
sent_whole link flushed =
    (one_flush_lem ScriptSends script_sends_function waiting_link link sent_link flushed.0 (sync_sending ∷ []) (Ok tt) (Ok tt) flushed.1 sync_flushed (not_refused tt) (not_refused tt)).after

sent_is : all_bytes sent_link.transport.sent ≡ request_bytes
unfolding word piece
sent_is = refl

-- ---- the session

-- the request makes a callback
abbrev granted : Granted
granted = record { child = Some (WL_CALLBACK_INTERFACE, 1); is_destructor = false }

module _ {U : Type 0} where
  abbrev display_alone : Store (Kept U)
  display_alone = stored empty_store 1 display_object

  -- a session in which nothing has happened
  abbrev fresh_session : SessionState Script U
  fresh_session = record {
    table = fixed_rows;
    link = fresh_link;
    store = display_alone;
    last_serial = 0;
    error = None;
    open_event = None;
    notes = [];
    passes_over = false;
    keeps_freed = false;
    freed = [];
  }

  -- the display is there, and the request is one of its own
  sync_checked : (store : Store (Kept U)) → store ≡ display_alone → request_check fixed_rows store sync_message true None ≡ Ok granted
  sync_checked store is =
      let there : named store sync_message.sender ≡ Some display_object
      = ap (λ (x : Store (Kept U)). named x sync_message.sender) is
      ∙ ap (named_in serial_of (id_of sync_message.sender)) (stored_here empty_store 1 display_object 1 refl) in
      ap (λ (o : Option (Object (Kept U))). checked_sender fixed_rows store o sync_message true None) there

  connected_is : (s : SessionState Script U) → IsConnected fixed_rows fresh_script s → s ≡ fresh_session
  connected_is s connected =
      let link : connected.0 ≡ fresh_link = connected.1.2 ∙ ap (λ (l : Option ℕ). record fresh_link { limit = l }) connected.1.1 in
      connected.2 ∙ ap (λ (l : LinkState Script). record fresh_session { link = l }) link

  -- the least number without an object is 2
  number_two : IsLeastAbsent client_range display_alone 2
  number_two = record {
    within = omega arith;
    below = omega arith;
    absent = stored_other empty_store 1 display_object 2 (λ e. omega (arith, e)) ∙ held_empty 2;
    least = λ k ge lt. ap is_some (stored_here empty_store 1 display_object k (omega (arith, ge, lt)));
  }

  -- a flush that is answered by Ok was one of the link
  flushed_ends : (s after : SessionState Script U) (flushed : Result (Unit {0}) IoFault) → FlushEnds s flushed (Ok tt) after
      → (flushed ≡ Ok tt) × (after ≡ s)
  flushed_ends s after (Ok u) ends = (refl, ends.1)
  flushed_ends s after (Err fault.WouldBlock) ends = let e = ends.0 in absurd cc
  flushed_ends s after (Err fault.Pipe) ends = let e = ends.0 in absurd cc
  flushed_ends s after (Err fault.TooBig) ends = let e = ends.0 in absurd cc
  flushed_ends s after (Err fault.Proto) ends = let e = ends.0 in absurd cc
  flushed_ends s after (Err fault.InvalidInput) ends = let e = ends.0 in absurd cc
  flushed_ends s after (Err fault.OutOfMemory) ends = let e = ends.0 in absurd cc
  flushed_ends s after (Err (fault.Other n)) ends = let e = ends.0 in absurd cc

  -- a session without an error in which the request waits sends all of it
  session_sent : (s after : SessionState Script U) → s.error ≡ None → s.link ≡ waiting_link → SessionFlushed ScriptSends s (Ok tt) after
      → after.link ≡ sent_link
  session_sent s after none waits flushes =
      let P : Option WaylandError → Type 0
      = λ o. MatchOption o
      ((flushed : Result (Unit {0}) IoFault) × (link : LinkState Script) × Flushed ScriptSends s.link flushed link
      × FlushEnds (record s { link = link }) flushed (Ok tt) after)
      (λ _. (◌≡◌ {A = Result (Unit {0}) FlushError} (Ok tt) (Err flush.Failed)) × (after ≡ s)) in
      let f = subst P none flushes in
      let ends = flushed_ends (record s { link = f.1 }) after f.0 f.3 in
      let went = subst (λ (r : Result (Unit {0}) IoFault). Flushed ScriptSends s.link r f.1) ends.0 f.2 in
      ap (λ (x : SessionState Script U). x.link) ends.1 ∙ sent_whole f.1 (subst (λ (l : LinkState Script). Flushed ScriptSends l (Ok tt) f.1) waits went)

  -- the request is written, and no fault kept
  sync_written : (new : Numbered U) (id : IdParts) (after : SessionState Script U)
      → Written ScriptSends fresh_session wire_sync (Some new) None (Ok id) after → (after.error ≡ None) × (after.link ≡ waiting_link)
  sync_written new id after w =
      let P : Result (Unit {0}) IoFault → Type 0
      = λ r. MatchBool (lacks_memory r)
      ((◌≡◌ {A = Result IdParts RequestError} (Ok id) (Err refused.OutOfMemory)) × (after ≡ record fresh_session { link = w.1 }))
      ((◌≡◌ {A = Result IdParts RequestError} (Ok id) (Ok (id_of_new (Some new))))
      × (after ≡ with_ended (with_born (record fresh_session { link = w.1; error = error_after None r }) (Some new)) None)) in
      let remembered : w.0 ≢ Err fault.OutOfMemory = λ e. let lacked = subst P e w.3 in let refusal = lacked.0 in absurd cc in
      let waits = written_waits w.0 w.1 remembered w.2 in
      let is = subst P waits.0 w.3 in
      (ap (λ (x : SessionState Script U). x.error) is.1, ap (λ (x : SessionState Script U). x.link) is.1 ∙ waits.1)

  -- it is written for the new object 2
  sync_sent : (new : Numbered U) (id : IdParts) (after : SessionState Script U) → new.0 ≡ 2
      → Sent ScriptSends fresh_session sync_message (Some new) None (Ok id) after → (after.error ≡ None) × (after.link ≡ waiting_link)
  sync_sent new id after two (inl refusal) = let e = refusal.0 in absurd cc
  sync_sent new id after two (inr w) =
      sync_written new id after
      (subst (λ (n : ℕ). Written ScriptSends fresh_session (wire_message n sync_message) (Some new) None (Ok id) after) two w)

  child_sent : (u : U) (id : IdParts) (after : SessionState Script U)
      → SentWithChild ScriptSends fresh_session sync_message (WL_CALLBACK_INTERFACE, 1) u None (Ok id) after
      → (after.error ≡ None) × (after.link ≡ waiting_link)
  child_sent u id after (inl full) = let e = full.1 in absurd cc
  child_sent u id after (inr s) =
      sync_sent (s.0, new_child fresh_session (WL_CALLBACK_INTERFACE, 1) u) id after (least_unique s.1 number_two) s.2

  sync_requested : (u : U) (id : IdParts) (after : SessionState Script U)
      → Requested ScriptSends fresh_session sync_message (Some u) None (Ok id) after → (after.error ≡ None) × (after.link ≡ waiting_link)
  sync_requested u id after requested =
      let P : Result Granted RequestError → Type 0
      = λ r. MatchResult r
      (λ g. SentAs ScriptSends fresh_session sync_message g.child (Some u) (ended_by display_alone sync_message g.is_destructor) (Ok id) after)
      (λ e. (◌≡◌ {A = Result IdParts RequestError} (Ok id) (Err e)) × (after ≡ fresh_session)) in
      child_sent u id after (subst P (sync_checked display_alone refl) requested)

  -- a session over this table and this script is one over the fixed interfaces and the empty script
  pub fresh_is : (table : List InterfaceRow) (script : Script) (s : SessionState Script U) → table ≡ fixed_rows → script ≡ fresh_script
      → IsConnected table script s → IsConnected fixed_rows fresh_script s
  fresh_is table script s table_is script_is connected =
      subst (λ (t : List InterfaceRow). IsConnected t fresh_script s) table_is (subst (λ (t : Script). IsConnected table t s) script_is connected)

  -- what a fresh session sends for the request and the flush after it
  pub first_sync : (table : List InterfaceRow) (script : Script) (before mid after : SessionState Script U) (m : SessionMessage) (u : U) (id : IdParts)
      → table ≡ fixed_rows → script ≡ fresh_script → m ≡ sync_message → IsConnected table script before
      → Requested ScriptSends before m (Some u) None (Ok id) mid → SessionFlushed ScriptSends mid (Ok tt) after
      → all_bytes after.link.transport.sent ≡ request_bytes
  first_sync table script before mid after m u id table_is script_is m_is connected requested flushed =
      let fresh = connected_is before
      (subst (λ (t : List InterfaceRow). IsConnected t fresh_script before) table_is
      (subst (λ (t : Script). IsConnected table t before) script_is connected)) in
      let asked = subst (λ (x : SessionMessage). Requested ScriptSends fresh_session x (Some u) None (Ok id) mid) m_is
      (subst (λ (s : SessionState Script U). Requested ScriptSends s m (Some u) None (Ok id) mid) fresh requested) in
      let waits = sync_requested u id mid asked in
      ap (λ (l : LinkState Script). all_bytes l.transport.sent) (session_sent mid after waits.0 waits.1 flushed) ∙ sent_is
