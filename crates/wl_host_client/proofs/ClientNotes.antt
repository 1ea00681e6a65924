-- The notes that a client's core makes of a request: one at most, and none if it is refused. And what the host is told of them.
use Rattle.std.proofs.Common.{◌≡◌, ℕ, ◌≤◌, ◌++◌, inl, inr, List, [], length, Bool, true, false, Option, None, Some, Result, Ok, Err, refl, ap, sym, arith}
use Rattle.std.proofs.lemmas.List.{append-nil}
use Rattle.std.specs.Prelude.{MatchResult, MatchBool, ◌==◌, is_some}
use Rattle.wl_wire.specs.declared.error.IoFault.{IoFault}
use Rattle.wl_link.specs.Link.{LinkState}
use Rattle.wl_link.specs.Puts.{lacks_memory}
use Rattle.wl_link.specs.Mailbox.{MailboxState, MailboxSends}
use Rattle.wl_client.specs.declared.error.RequestError.{RequestError}
use Rattle.wl_client.specs.declared.error.RequestError.TheVariants as refused
use Rattle.wl_client.specs.declared.request.Granted.{Granted}
use Rattle.wl_client.specs.declared.objects.Note.{Note}
use Rattle.wl_client.specs.ObjectId.{IdParts}
use Rattle.wl_client.specs.Requests.{Numbered, Requested, Sent, SentAs, SentWithChild, SessionMessage, Spec, ended_by, error_after, id_of_new, new_child, request_check, with_born, with_ended}
use Rattle.wl_client.specs.Session.{SessionState, id_at, last_possible_serial, noted}
use Rattle.wl_host_client.specs.declared.client.notes.DestroyedObject.{DestroyedObject}
use Rattle.wl_host_client.specs.Client.{ClientCore, HostedClient, ended_objects, with_notes_of, without_notes}

abbrev Session : Type 0
Session = SessionState MailboxState ℕ

-- one note at most, and none if the answer is an error
abbrev pub FewNotes : {A E : Type 0} → Result A E → List Note → Type 0
FewNotes answer notes = MatchResult answer (λ _. length notes ≤ 1) (λ _. notes ≡ [])

few_noted : (notes : List Note) (u : Option ℕ) (id : IdParts) → notes ≡ [] → length (noted notes u id) ≤ 1
few_noted notes None id e = rw e (omega arith)
few_noted notes (Some u) id e = rw e (omega arith)

none_few : (notes : List Note) → notes ≡ [] → length notes ≤ 1
none_few notes e = rw e (omega arith)

-- ---- a request

notes_born : (s : Session) (new : Option (Numbered ℕ)) → (with_born s new).notes ≡ s.notes
notes_born s None = refl
notes_born s (Some new) = refl

few_ended : (s : Session) (ended : Option (Numbered ℕ)) → s.notes ≡ [] → length (with_ended s ended).notes ≤ 1
few_ended s None e = none_few s.notes e
few_ended s (Some ended) e = few_noted s.notes ended.1.value.user_data (id_at ended.0 ended.1) e

few_written : (before : Session) (link : LinkState MailboxState) (written : Result (Unit {0}) IoFault) (new ended : Option (Numbered ℕ))
    (answer : Result IdParts RequestError) (after : Session) (lacks : Bool)
    → MatchBool lacks ((answer ≡ Err refused.OutOfMemory) × (after ≡ record before { link = link }))
    ((answer ≡ Ok (id_of_new new)) × (after ≡ with_ended (with_born (record before { link = link; error = error_after before.error written }) new) ended))
    → before.notes ≡ [] → FewNotes answer after.notes
few_written before link written new ended answer after true (refused, same) e = rw refused (rw same e)
few_written before link written new ended answer after false (done, now) e =
    rw done (rw now (few_ended (with_born (record before { link = link; error = error_after before.error written }) new) ended
    (rw (notes_born (record before { link = link; error = error_after before.error written }) new) e)))

few_sent : (before : Session) (m : SessionMessage) (new ended : Option (Numbered ℕ)) (answer : Result IdParts RequestError) (after : Session)
    → Sent MailboxSends before m new ended answer after → before.notes ≡ [] → FewNotes answer after.notes
few_sent before m new ended answer after (inl (refused, same, asked)) e = rw refused (rw same e)
few_sent before m new ended answer after (inr (written, link, wrote, now)) e =
    few_written before link written new ended answer after (lacks_memory written) now e

few_numbered : (before : Session) (m : SessionMessage) (new ended : Option (Numbered ℕ)) (answer : Result IdParts RequestError) (after : Session)
    (exhausted : Bool)
    → MatchBool exhausted ((answer ≡ Err refused.SerialsExhausted) × (after ≡ before)) (Sent MailboxSends before m new ended answer after)
    → before.notes ≡ [] → FewNotes answer after.notes
few_numbered before m new ended answer after true (refused, same) e = rw refused (rw same e)
few_numbered before m new ended answer after false h e = few_sent before m new ended answer after h e

few_with_child : (before : Session) (m : SessionMessage) (child : Spec) (u : ℕ) (ended : Option (Numbered ℕ)) (answer : Result IdParts RequestError)
    (after : Session) → SentWithChild MailboxSends before m child u ended answer after → before.notes ≡ [] → FewNotes answer after.notes
few_with_child before m child u ended answer after (inl (full, refused, same)) e = rw refused (rw same e)
few_with_child before m child u ended answer after (inr (n, least, h)) e =
    few_numbered before m (Some (n, new_child before child u)) ended answer after (before.last_serial == last_possible_serial) h e

few_sent_as : (before : Session) (m : SessionMessage) (child : Option Spec) (u : Option ℕ) (ended : Option (Numbered ℕ)) (answer : Result IdParts RequestError)
    (after : Session) → SentAs MailboxSends before m child u ended answer after → before.notes ≡ [] → FewNotes answer after.notes
few_sent_as before m None u ended answer after h e = few_sent before m None ended answer after h e
few_sent_as before m (Some child) None ended answer after h e = absurd h
few_sent_as before m (Some child) (Some u) ended answer after h e = few_with_child before m child u ended answer after h e

few_checked : (before : Session) (m : SessionMessage) (u : Option ℕ) (answer : Result IdParts RequestError) (after : Session)
    (checked : Result Granted RequestError)
    → MatchResult checked (λ g. SentAs MailboxSends before m g.child u (ended_by before.store m g.is_destructor) answer after)
    (λ e. (answer ≡ Err e) × (after ≡ before))
    → before.notes ≡ [] → FewNotes answer after.notes
few_checked before m u answer after (Ok g) h e = few_sent_as before m g.child u (ended_by before.store m g.is_destructor) answer after h e
few_checked before m u answer after (Err reason) (refused, same) e = rw refused (rw same e)

pub few_requested : (before : Session) (m : SessionMessage) (u : Option ℕ) (spec : Option Spec) (answer : Result IdParts RequestError) (after : Session)
    → Requested MailboxSends before m u spec answer after → before.notes ≡ [] → FewNotes answer after.notes
few_requested before m u spec answer after h e =
    few_checked before m u answer after (request_check before.table before.store m (is_some u) spec) h e

-- ---- what the host is told

-- the notes were taken from the core
pub told_notes : (s : HostedClient) (core core' : ClientCore) (notes : List DestroyedObject) → core.refused ≡ false → core' ≡ without_notes core
    → notes ≡ s.notes ++ ended_objects core.session → record s { core = core'; notes = notes } ≡ with_notes_of s core
told_notes s core core' notes refused taken told = rw (taken, told, refused) refl

without_change : (core : ClientCore) → core.session.notes ≡ [] → record core { session = record core.session { notes = [] } } ≡ core
without_change core e = ap (λ notes. record core { session = record core.session { notes = notes } }) (sym e)

-- or the core has none
pub untold_notes : (s : HostedClient) (core : ClientCore) → core.session.notes ≡ [] → record s { core = core } ≡ with_notes_of s core
untold_notes s core e =
    let c = without_change core e in
    let n : s.notes ++ ended_objects core.session ≡ s.notes = rw e (append-nil s.notes) in cc
