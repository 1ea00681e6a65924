-- What the host chooses of an object, its number or its version, in the words of the core.
use Rattle.std.specs.Prelude.{◌≡◌, ◌==◌, ◌&&◌, ℕ, Option, None, Some, Result, Ok, Err, MatchBool, MatchOption, if◌then◌else◌}
use Rattle.wl_server_model.specs.Backend.{Calls}
use Rattle.wl_server_client.specs.Ids.{IdParts}
use Rattle.wl_server_client.specs.declared.error.CreateAtError.{CreateAtError}
use Rattle.wl_server_client.specs.declared.error.VersionError.{VersionError}
use Rattle.wl_server_model.specs.declared.step.Reply.TheVariants as reply
use Rattle.wl_server_model.specs.declared.step.Step.TheVariants as step
use Rattle.wl_server_model.specs.Lookups.{and_then, held_by_number}
use Rattle.wl_host.specs.Calls.{CoreState, CreatesObject, SetsObjectData, interface_of, status_by, world}
use Rattle.wl_flat.specs.Status.{flattened, is_done, of_create_at, of_version}
use Rattle.wl_flat.specs.Flat.{client_of, flat_resource, resource_of}
use Rattle.wl_host.specs.Held.{flat_held}
use Rattle.wl_flat.specs.declared.flat.FlatClientId.{FlatClientId}
use Rattle.wl_flat.specs.declared.flat.FlatHeldObject.{FlatHeldObject}
use Rattle.wl_flat.specs.declared.flat.FlatObjectId.{FlatObjectId}
use Rattle.wl_flat.specs.declared.status.Status.{Status}
use Rattle.wl_flat.specs.declared.status.Status.TheVariants as status

abbrev pub CreatesObjectAt : CoreState → FlatClientId → ℕ → ℕ → ℕ → ℕ → Result FlatObjectId Status → CoreState → Type 0
CreatesObjectAt before client interface version number u result after =
    (answer : Result IdParts CreateAtError)
    × Calls world before (step.CreateObjectAt (client_of client) (interface_of interface) version number u) (reply.CreateObjectAt answer) after
    × (result ≡ flattened flat_resource of_create_at answer)

abbrev pub SetsObjectVersion : CoreState → FlatObjectId → ℕ → Status → CoreState → Type 0
SetsObjectVersion before object version s after =
    (answer : Result (Unit {0}) VersionError)
    × Calls world before (step.SetObjectVersion (resource_of object) version) (reply.SetObjectVersion answer) after × (s ≡ status_by of_version answer)

-- ---- an object for something of the host's

-- the object, if it is of the interface and has no data, or 0
abbrev pub if_unclaimed : ℕ → FlatHeldObject → Option FlatObjectId
if_unclaimed interface held = if held.object.interface == interface && held.«data» == 0 then Some held.object else None

-- the client's object at the number, if it is such a one
abbrev pub unclaimed : CoreState → FlatClientId → ℕ → ℕ → Option FlatObjectId
unclaimed core client interface number =
    and_then (held_by_number core.server (client_of client) number) (λ held. if_unclaimed interface (flat_held held))

-- The object gets the version, and then the data, which is not refused. Or the version is, and it gets neither.
abbrev pub TakesObject : CoreState → FlatObjectId → ℕ → ℕ → Result FlatObjectId Status → CoreState → Type 0
TakesObject before object version u result after =
    (s : Status) × (mid : CoreState) × SetsObjectVersion before object version s mid
    × MatchBool (is_done s) ((result ≡ Ok object) × SetsObjectData mid object u status.Ok after) ((result ≡ Err s) × (after ≡ mid))

-- At the number 0 a new object of the server's range. Else the client's unclaimed object at the number, or if there is none, a
-- new object there.
abbrev pub ClaimsObject : CoreState → FlatClientId → ℕ → ℕ → ℕ → ℕ → Result FlatObjectId Status → CoreState → Type 0
ClaimsObject before client interface version number u result after =
    MatchBool (number == 0) (CreatesObject before client interface version u result after)
    (MatchOption (unclaimed before client interface number) (CreatesObjectAt before client interface version number u result after)
    (λ object. TakesObject before object version u result after))
