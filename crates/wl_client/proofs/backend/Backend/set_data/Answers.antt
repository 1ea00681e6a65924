use Rattle.std.proofs.Common.{◌≡◌, Option, None, Some, Result, Ok, Err, MatchOption, ap, refl}
use Rattle.wl_link.specs.declared.object.Object.{Object}
use Rattle.wl_link.specs.Store.{Store, rewritten}
use Rattle.wl_client.specs.declared.error.InvalidId.{InvalidId}
use Rattle.wl_client.specs.declared.objects.Kept.{Kept}
use Rattle.wl_client.specs.Finish.{data_given}
use Rattle.wl_client.specs.ObjectId.{IdParts}
use Rattle.wl_client.specs.Objects.{DataSet}
use Rattle.wl_client.specs.Session.{SessionState, named, with_user_data}
use Rattle.wl_client.proofs.Plain.Calls.{sets_data}
use Rattle.wl_client.proofs.backend.Backend.set_data.Goals as goal

-- data that are given to an object of a session are set
data_set : {T U : Type 0} (s : SessionState T U) (id : IdParts) (u : U) (answer : Result (Unit {0}) InvalidId) (store : Store (Kept U))
    → MatchOption (named s.store id) (answer ≡ Err _) (λ _. answer ≡ Ok tt) → store ≡ data_given s.store id.number (named s.store id) u
    → DataSet s id u answer (record s { store = store })
data_set {T} {U} s id u answer store = at (named s.store id)
  where
    over : Store (Kept U) → SessionState T U
    over objects = record s { store = objects }

    at : (found : Option (Object (Kept U))) → MatchOption found (answer ≡ Err _) (λ _. answer ≡ Ok tt) → store ≡ data_given s.store id.number found u
        → MatchOption found ((answer ≡ Err _) × (over store ≡ s))
        (λ x. (answer ≡ Ok tt) × (over store ≡ over (rewritten s.store id.number (with_user_data u x))))
    at None is same = (is, ap over same)
    at (Some x) is same = (is, ap over same)

pub returns-clause-call : goal.returns-clause-call
returns-clause-call g c =
    rw (← c.self.view_is)
    (c.give_data.result, refl, refl, data_set _ c.args.id.now c.args.user_data c.give_data.result c.give_data.new.objects.store c.give_data.ensures.answer c.give_data.ensures.given)

pub returns-clause-plain : goal.returns-clause-plain
returns-clause-plain g c =
    rw (← c.self.view_is)
    (sets_data _ c.args.id.now c.args.user_data c.give_data.result _
    (data_set _ c.args.id.now c.args.user_data c.give_data.result c.give_data.new.objects.store c.give_data.ensures.answer c.give_data.ensures.given))
