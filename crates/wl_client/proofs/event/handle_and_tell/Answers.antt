use Rattle.std.proofs.Common.{IsSome, subst}
use Rattle.wl_client.proofs.NewIds.{first_is_there}
use Rattle.wl_client.specs.Freeing.{first_new_id}
use Rattle.wl_client.proofs.event.handle_and_tell.Goals as goal

-- an object is taken out only where the event has a new id, for which there is a place
pub push-requires : goal.push-requires
push-requires g c some =
    c.requires.place (first_is_there c.args.message.now.args.items (subst (λ args. IsSome (first_new_id args)) c.as_slice.ensures (c.taken_over-taken.ensures.none some).0))
