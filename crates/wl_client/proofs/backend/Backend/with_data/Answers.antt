use Rattle.std.proofs.Common.{◌≡◌, false, Option, None, Some, Result, Ok, Err, MatchOption, refl, ap}
use Rattle.wl_link.specs.declared.object.Object.{Object}
use Rattle.wl_link.specs.Store.{Store, rewritten}
use Rattle.wl_client.specs.declared.error.InvalidId.{InvalidId}
use Rattle.wl_client.specs.declared.objects.Kept.{Kept}
use Rattle.wl_client.specs.declared.step.Reply.TheVariants as reply
use Rattle.wl_client.specs.declared.step.Step.TheVariants as step
use Rattle.wl_client.specs.Accounts.{CallsLocally, LendsAsCall}
use Rattle.wl_client.specs.ObjectId.{IdParts}
use Rattle.wl_client.specs.Session.{ClientState, SessionState, named, with_user_data}
use Rattle.wl_client.specs.Objects.{DataSet, LendsData, LendsDataIn, user_data_in, user_data_of}
use Rattle.wl_client.proofs.Plain.Calls.{sets_what_is_left}
use Rattle.wl_client.proofs.backend.Backend.with_data.Goals as goal

-- what is done to the objects of a session is done to the session
lends_of_session : {T U R : Type 0} (call : U → R → U → Type 0) (s : SessionState T U) (id : IdParts) (answer : Result R InvalidId) (store : Store (Kept U))
    → LendsDataIn call s.store id answer store → LendsData call s id answer (record s { store = store })
lends_of_session {T} {U} {R} call s id answer store = at (named s.store id)
  where
    over : Store (Kept U) → SessionState T U
    over objects = record s { store = objects }

    after_call : Option (Object (Kept U)) → U → Type 0
    after_call found u = (r : R) × (left : U) × call u r left × (answer ≡ Ok r)
        × MatchOption found ((◌≡◌ {A = Result (Unit {0}) InvalidId} (Ok tt) (Err _)) × (over store ≡ s))
        (λ x. (◌≡◌ {A = Result (Unit {0}) InvalidId} (Ok tt) (Ok tt)) × (over store ≡ over (rewritten s.store id.number (with_user_data left x))))

    with_it : (x : Object (Kept U)) (kept : Option U)
        → MatchOption kept ((answer ≡ Err _) × (store ≡ s.store))
        (λ u. (r : R) × (left : U) × call u r left × (answer ≡ Ok r) × (store ≡ rewritten s.store id.number (with_user_data left x)))
        → MatchOption kept ((answer ≡ Err _) × (over store ≡ s)) (after_call (Some x))
    with_it x None (is, same) = (is, ap over same)
    with_it x (Some u) (r, left, called, is, same) = (r, left, called, is, (refl, ap over same))

    at : (found : Option (Object (Kept U)))
        → MatchOption found ((answer ≡ Err _) × (store ≡ s.store))
        (λ x. MatchOption x.value.user_data ((answer ≡ Err _) × (store ≡ s.store))
        (λ u. (r : R) × (left : U) × call u r left × (answer ≡ Ok r) × (store ≡ rewritten s.store id.number (with_user_data left x))))
        → MatchOption (user_data_in found) ((answer ≡ Err _) × (over store ≡ s)) (after_call found)
    at None (is, same) = (is, ap over same)
    at (Some x) h = with_it x x.value.user_data h

-- what was left is set as by a call
lends_as_call : {T U R : Type 0} (lend : U → R → U → Type 0)
    (before : ClientState T U) (id : IdParts) (answer : Result R InvalidId) (after : SessionState T U) → LendsData lend before.session id answer after
    → LendsAsCall lend before id answer (record { session = after; refused = false })
lends_as_call {T} {U} {R} lend before id answer after = at (user_data_of before.session id)
  where
    calm : SessionState T U → ClientState T U
    calm s = record { session = s; refused = false }

    at : (found : Option U)
        → MatchOption found ((answer ≡ Err _) × (after ≡ before.session))
        (λ u. (r : R) × (left : U) × lend u r left × (answer ≡ Ok r) × DataSet before.session id left (Ok tt) after)
        → MatchOption found ((answer ≡ Err _) × (calm after ≡ calm before.session))
        (λ u. (r : R) × (left : U) × lend u r left × (answer ≡ Ok r)
        × CallsLocally before (step.SetData id left) (reply.SetData (Ok tt)) (calm after))
    at None (is, same) = (is, ap calm same)
    at (Some u) (r, left, lent, is, set) = (r, left, lent, is, (Ok tt, refl, refl, set))

pub returns-clause-lent : goal.returns-clause-lent
returns-clause-lent g c =
    rw (← c.self.view_is) (lends_of_session _ _ c.args.id.now c.lend_data.result c.lend_data.new.objects.store c.lend_data.ensures)

pub returns-clause-call : goal.returns-clause-call
returns-clause-call g c =
    rw (← c.self.view_is)
    (lends_as_call _ (record { session = _; refused = c.self.inside.refused }) c.args.id.now c.lend_data.result _
    (lends_of_session _ _ c.args.id.now c.lend_data.result c.lend_data.new.objects.store c.lend_data.ensures))

pub returns-clause-plain : goal.returns-clause-plain
returns-clause-plain g c =
    rw (← c.self.view_is)
    (sets_what_is_left _ c.args.id.now _ c.lend_data.result _
    (lends_of_session _ _ c.args.id.now c.lend_data.result c.lend_data.new.objects.store c.lend_data.ensures))
