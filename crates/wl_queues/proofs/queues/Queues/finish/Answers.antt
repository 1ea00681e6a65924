use Rattle.std.proofs.Common.{◌≡◌, refl, subst, sym}
use Rattle.std.specs.Prelude.{Some}
use Rattle.std.specs.List.{position}
use Rattle.wl_queues.specs.Events.{has_ticket}
use Rattle.wl_queues.specs.Inside.Counts.{AreGivenOut}
use Rattle.wl_queues.specs.States.{state_of}
use Rattle.wl_queues.proofs.States.{finish-does}
use Rattle.wl_queues.proofs.Tickets.{given-removed}
use Rattle.wl_queues.proofs.queues.Queues.finish.Goals as goal

pub returns-clause-finished : goal.returns-clause-finished
returns-clause-finished g c =
    let before = c.args.self.now in
    let found = rw c.deref.ensures.value at c.in_ok-place.ensures in
    let at : position (has_ticket c.args.ticket) before.in_hand.items ≡ Some c.in_ok-place.place = sym found in
    finish-does (state_of before) _ c.args.ticket c.in_ok-place.place c.remove-held.result at c.remove-held.ensures.value c.release.ensures.objects refl (λ n. refl) (λ n. refl) c.remove-held.ensures.items refl refl

pub invariant_of-self-clause-given_out : goal.invariant_of-self-clause-given_out
invariant_of-self-clause-given_out g c =
    let before = c.args.self.now in
    subst (λ hs. AreGivenOut hs before.tickets) (sym c.remove-held.ensures.items) (given-removed before.in_hand.items c.in_ok-place.place before.tickets before.given_out)
