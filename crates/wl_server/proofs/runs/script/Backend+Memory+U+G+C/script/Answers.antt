use Rattle.std.proofs.Common.{◌≡◌, Bool, true, Err, Result, List, refl, subst, ap}
use Rattle.wl_link.specs.Script.{Script}
use Rattle.wl_server_client.specs.declared.error.ScriptError.{ScriptError}
use Rattle.wl_server_client.specs.declared.error.ScriptError.TheVariants as refused
use Rattle.wl_server.specs.declared.runs.script.ScriptCall.{ScriptCall}
use Rattle.wl_server.specs.declared.runs.script.ScriptCall.TheVariants as call
use Rattle.wl_server_client.specs.Deeds.{Deed}
use Rattle.wl_server_client.specs.Ids.{ClientParts, same_client}
use Rattle.wl_server_model.specs.Moves.{ScriptMoves, nothing_taken}
use Rattle.wl_server_model.specs.PartStep.{OfClient, PartStep, lacks_move, over_scripts}
use Rattle.wl_server.specs.Inside.Scripting.{move_of, reply_to, step_of}
use Rattle.wl_server_model.specs.Server.{Seen, ServerState}
use Rattle.wl_server_client.specs.Stored.{Stored, no_times}
use Rattle.wl_server_client.proofs.CallSteps.Numbers.{in_time_same}
use Rattle.wl_server_model.proofs.CallSteps.Numbering.{numbered_at, numbers_stay}
use Rattle.wl_server.proofs.CallSteps.OneClient.{is_own, done_to, held_by, none_stored}
use Rattle.wl_server_model.proofs.CallSteps.Moved.{moved, moves}
use Rattle.wl_server_model.proofs.CleanupSteps.Taken.{slots_set}
use Rattle.wl_server.proofs.runs.script.Backend+Memory+U+G+C.script.Goals as goal

own : (T U G C : Type 0) (id : ClientParts) (x : ScriptCall) (answer : Result (Unit {0}) ScriptError)
    → is_own {T = T} {U = U} {G = G} {C = C} (step_of id x) (reply_to x answer) ≡ true
own T U G C id (call.Arrive bytes tokens) answer = refl
own T U G C id _ answer = refl

-- the step is that of its script's call, whichever it is
to : {U G C : Type 0} (views : _) (before : ServerState Script U G C) (target : ClientParts) (x : ScriptCall) (answer : Result (Unit {0}) ScriptError)
    (id : ClientParts) (lacked : Bool)
    (did : List (Deed U)) (b a : Seen Script U C)
    → OfClient (same_client target id) b (λ p q. moves (move_of x) (nothing_taken answer) id p lacked did q)
    (nothing_taken answer ≡ Err refused.InvalidId) lacked did a
    → PartStep (over_scripts views) id before.offer (step_of target x) (reply_to x answer) b lacked did a
to views before target (call.Arrive bytes tokens) answer id lacked did b a h = (answer, refl, h)
to views before target _ answer id lacked did b a h = (answer, refl, h)

pub returns-in_default : goal.returns-in_default
returns-in_default g c =
    let i = c.self.inside in
    let before = held_by i.protocol i.globals.store i.last_global i.keeps_names i.default_limit i.object_limit i.hands_registries i.last_client i.clients.items i.notes.items i.numbers in
    rw (← c.self.view_is)
    (none_stored (over_scripts g.G.GlobalHandler.views) before (step_of c.args.id.now c.args.call) (reply_to c.args.call (Err refused.InvalidId)) (own _ _ _ _ _ _ _) c.args.id.now
    (moves (move_of c.args.call) (nothing_taken (Err refused.InvalidId))) (nothing_taken (Err refused.InvalidId) ≡ Err refused.InvalidId)
    (to g.G.GlobalHandler.views before c.args.id.now c.args.call (Err refused.InvalidId)) _ refl c.in_default.ensures.value refl c.self.invariant.2)

pub returns : goal.returns
returns g c =
    let i = c.self.inside in
    let before = held_by i.protocol i.globals.store i.last_global i.keeps_names i.default_limit i.object_limit i.hands_registries i.last_client i.clients.items i.notes.items i.numbers in
    let answer = c.make_move-answer.result in
    rw (← c.self.view_is, c.lacks_memory-self-inside.ensures)
    (done_to (over_scripts g.G.GlobalHandler.views) before (step_of c.args.id.now c.args.call) (reply_to c.args.call answer)
    (own _ _ _ _ _ _ _) c.args.id.now
    (moves (move_of c.args.call) (nothing_taken answer)) (nothing_taken answer ≡ Err refused.InvalidId)
    (to g.G.GlobalHandler.views before c.args.id.now c.args.call answer)
    _ c.in-Some.client.now _ (lacks_move (nothing_taken answer)) refl c.in-Some.ensures.value
    (rw (← c.client.view_is)
    (moved (move_of c.args.call) (nothing_taken answer) c.args.id.now
    (record { serial = _; part = _; made = _; times = no_times }) _ c.make_move-answer.new.script refl
    (subst (λ (t : Script). ScriptMoves t (move_of c.args.call)
    (nothing_taken answer) c.make_move-answer.new.script) c.transport_mut.ensures.value c.make_move-answer.ensures))) _
    (in_time_same _ _ _ _ (ap (λ (s : Stored _ _ _). s.times) c.client.view_is) refl) (λ is. rw (← c.client.view_is) at is) c.self.invariant.2)

pub invariant_of-self : goal.invariant_of-self
invariant_of-self g c = (c.self.invariant.0, c.self.invariant.1, c.self.invariant.2, c.in_default.ensures.touched c.self.invariant.3)

pub invariant_of-self-2 : goal.invariant_of-self-2
invariant_of-self-2 g c = (
  slots_set _ _ _ _ _ c.self.invariant.0,
  numbers_stay _ _ _ _ _ c.in-Some.ensures.value (ap (λ (s : Stored _ _ _). s.times) c.client.view_is) c.self.invariant.1,
  numbered_at _ _ _ _ c.in-Some.ensures.value (λ is. rw (← c.client.view_is) at is) c.self.invariant.2,
  c.in-Some.ensures.touched c.self.invariant.3 _,
)
