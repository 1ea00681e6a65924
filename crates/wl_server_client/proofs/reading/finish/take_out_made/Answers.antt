use Rattle.std.proofs.Common.{◌∙◌, arith, refl, sym}
use Rattle.wl_server_client.proofs.reading.finish.take_out_made.Goals as goal

pub push-requires : goal.push-requires
push-requires g c = omega (arith, c.requires c.in-Some.object (sym c.take_out.ensures.found ∙ c.in-Some.is) (rw c.in-Some-user_data.is refl))

pub returns-in-Some-user_data-clause-room : goal.returns-in-Some-user_data-clause-room
returns-in-Some-user_data-clause-room g c = λ below.
    omega (arith, c.requires c.in-Some.object (sym c.take_out.ensures.found ∙ c.in-Some.is) (rw c.in-Some-user_data.is refl), c.push.ensures.len, c.push.ensures.capacity)
