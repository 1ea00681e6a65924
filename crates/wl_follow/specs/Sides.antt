-- The two sides of a connection, and the words for them and for faults.
use Rattle.std.specs.Prelude.{ℕ, List, codes}
use Rattle.wl_follow.specs.declared.side.Fault.{Fault}
use Rattle.wl_follow.specs.declared.side.Fault.TheVariants as fault
use Rattle.wl_follow.specs.declared.side.Side.{Side}
use Rattle.wl_follow.specs.declared.side.Side.TheVariants.{Client, Server}

abbrev pub other_side : Side → Side
other_side Client = Server
other_side Server = Client

abbrev pub side_name : Side → List ℕ
side_name Client = codes "client"
side_name Server = codes "server"

abbrev pub fault_name : Fault → List ℕ
fault_name fault.Malformed = codes "malformed"
fault_name fault.NewId = codes "new-id"
fault_name fault.UnknownInterface = codes "unknown-interface"
fault_name fault.MissingDescriptor = codes "missing-descriptor"
