use Rattle.wl_flat.proofs.TellingNulls.{tells_null}
use Rattle.wl_flat.specs.Flat.{flat_proxy, flat_resource}
use Rattle.wl_host.proofs.laws.a_forbidden_null_is_told.Goals as goal

pub returns-clause-server : goal.returns-clause-server
returns-clause-server c signature args = tells_null flat_resource signature args

pub returns-clause-client : goal.returns-clause-client
returns-clause-client c signature args = tells_null flat_proxy signature args
