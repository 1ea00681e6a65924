use Rattle.std.proofs.Common.{refl}
use Rattle.wl_server_model.proofs.Dispatches.Joining.{reached_both, reached_by}
use Rattle.server_examples.proofs.tests.room.Room.act.Goals as goal

pub returns-in_err-tell_all-in-Member-Int-default : goal.returns-in_err-tell_all-in-Member-Int-default
returns-in_err-tell_all-in-Member-Int-default c client = reached_both (reached_by c.set_object_data.ensures.call refl) (c.tell_all.ensures client)

pub returns-in_ok-tell_all-in-Member-Int-default : goal.returns-in_ok-tell_all-in-Member-Int-default
returns-in_ok-tell_all-in-Member-Int-default c client = reached_both (reached_by c.set_object_data.ensures.call refl) (c.tell_all.ensures client)
