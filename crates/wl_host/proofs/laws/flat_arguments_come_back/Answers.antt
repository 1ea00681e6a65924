use Rattle.wl_flat.proofs.ComingBack.{comes_back}
use Rattle.wl_flat.specs.Flat.{flat_proxy, flat_resource, proxy_of, resource_of}
use Rattle.wl_host.proofs.laws.flat_arguments_come_back.Goals as goal

pub returns-clause-server : goal.returns-clause-server
returns-clause-server c user_data out_of into args f h = comes_back flat_resource user_data resource_of out_of into args f h

pub returns-clause-client : goal.returns-clause-client
returns-clause-client c user_data out_of into args f h = comes_back flat_proxy user_data proxy_of out_of into args f h
