use Rattle.std.proofs.Common.{refl}
use Rattle.wl_client.proofs.backend.Backend.set_max_buffer_size.Goals as goal

pub returns-clause-set : goal.returns-clause-set
returns-clause-set g c = rw (← c.self.view_is) (c.set_max_buffer_size.new.self, c.set_max_buffer_size.ensures, refl)

pub returns-clause-call : goal.returns-clause-call
returns-clause-call g c = rw (← c.self.view_is) (refl, refl, (c.set_max_buffer_size.new.self, c.set_max_buffer_size.ensures, refl))

pub returns-clause-plain : goal.returns-clause-plain
returns-clause-plain g c =
    rw (← c.self.view_is) (record { link = c.set_max_buffer_size.ensures; objects = refl; notes = refl; rest = (refl, refl, refl, refl); settings = (refl, (refl, refl)) })
