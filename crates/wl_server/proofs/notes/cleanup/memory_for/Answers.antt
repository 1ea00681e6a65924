use Rattle.std.proofs.Common.{◌≡◌, length, true, map, arith}
use Rattle.std.specs.Vec.{vec_capacity, vec_len}
use Rattle.wl_server_model.specs.Inside.Gathering.{count_leaving}
use Rattle.wl_server_model.specs.Inside.Leaving.{collected, given_at}
use Rattle.wl_server_client.specs.NoteTimes.{times_of}
use Rattle.wl_server_model.specs.Inside.NoteOrder.{count_places}
use Rattle.wl_server_model.proofs.CleanupSteps.Asking.{none_ends, none_leaving, none_of}
use Rattle.wl_server_model.proofs.CleanupSteps.Ordering.{none_order}
use Rattle.wl_server.proofs.notes.cleanup.memory_for.Goals as goal

pub returns-then-count-eq0-clause-notes : goal.returns-then-count-eq0-clause-notes
returns-then-count-eq0-clause-notes g c =
    let none : c.count_work-work.result.gathered ≡ 0 = omega (arith, c.saturating_add-count.ensures, c.if-count-eq0.true) in
    let none_left : c.count_work-work.result.leaving ≡ 0 = omega (arith, c.saturating_add-count.ensures, c.if-count-eq0.true) in
    let notes = none_of c.count_work-work.result.gathered (count_leaving true c.args.clients.now) none c.count_work-work.ensures.gathered in
    let given = none_of c.count_work-work.result.leaving (length (collected given_at 0 c.args.clients.now)) none_left c.count_work-work.ensures.leaving in
    let ends = none_ends 0 c.args.clients.now given in
    grind (arith, vec_len, vec_capacity)

pub returns-then-count-eq0-clause-given : goal.returns-then-count-eq0-clause-given
returns-then-count-eq0-clause-given g c = grind (arith, none_of, length, collected, given_at, vec_capacity)

pub returns-then-count-eq0-clause-order : goal.returns-then-count-eq0-clause-order
returns-then-count-eq0-clause-order g c =
    let none : c.count_work-work.result.gathered ≡ 0 = omega (arith, c.saturating_add-count.ensures, c.if-count-eq0.true) in
    let notes = none_of c.count_work-work.result.gathered (count_leaving true c.args.clients.now) none c.count_work-work.ensures.gathered in
    let places = none_of c.count_work-work.result.gathered (count_places true
    (map times_of c.args.clients.now)) none c.count_work-work.ensures.places in
    none_order true c.args.clients.now c.new.result.items c.new.ensures.items (none_leaving true c.args.clients.now notes) places

pub returns-clause-notes : goal.returns-clause-notes
returns-clause-notes g c = c.in_ok-memory_for_notes.ensures.room _ _ c.count_work-work.ensures.gathered c.count_work-work.ensures.ends
