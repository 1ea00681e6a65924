use Rattle.wl_flat.proofs.ReadingInPlace.{in_place}
use Rattle.wl_flat.specs.Flat.{flat_proxy, flat_resource}
use Rattle.wl_host.proofs.laws.strings_and_arrays_are_read_in_place.Goals as goal

pub returns-clause-server : goal.returns-clause-server
returns-clause-server c user_data out_of args h = in_place flat_resource user_data out_of args h

pub returns-clause-client : goal.returns-clause-client
returns-clause-client c user_data out_of args h = in_place flat_proxy user_data out_of args h
