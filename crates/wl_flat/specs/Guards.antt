-- A policy and guards as a host drives them: what each call does, in the words of `wl_guard`, and with which status it refuses.
use Rattle.std.specs.Prelude.{◌≡◌, ◌⊎◌, ℕ, ℤ, ◌-◌, ◌<◌, ◌==◌, List, length, map, min, take, nat_lt, false, if◌then◌else◌, Option, None, Some, IsSome, Result, Ok, Err}
use Rattle.std.specs.Result.{result_map_both}
use Rattle.std.specs.Str.{is_utf8}
use Rattle.wl_wire.specs.declared.argument.Token.{Token}
use Rattle.wl_wire.specs.declared.protocol.TableError.TheVariants as table_error
use Rattle.wl_wire.specs.Table.{InterfaceRow}
use Rattle.wl_link.specs.Exchange.{Queue}
use Rattle.wl_follow.specs.Sides.{other_side}
use Rattle.wl_follow.specs.declared.side.Side.{Side}
use Rattle.wl_follow.specs.declared.side.Side.TheVariants.{Client, Server}
use Rattle.wl_guard.specs.Guard.{Arrives, GivesBack, GuardState, to_send}
use Rattle.wl_guard.specs.Guard as guard
use Rattle.wl_guard.specs.Policy.{RefusesAllow, RefusesIgnore, RefusesRefuse, RefusesTable, new_policy}
use Rattle.wl_guard.specs.Policy as rules
use Rattle.wl_guard.specs.Queues.{one_send}
use Rattle.wl_guard.specs.declared.ending.End.{End}
use Rattle.wl_guard.specs.declared.ending.End.TheVariants.{Breach, HungUp, OutOfMemory as NoMemory}
use Rattle.wl_guard.specs.declared.guard.ArriveError.{ArriveError}
use Rattle.wl_guard.specs.declared.guard.ArriveError.TheVariants as arrive
use Rattle.wl_guard.specs.declared.policy.Limits.{Limits}
use Rattle.wl_guard.specs.declared.policy.PolicyError.{PolicyError}
use Rattle.wl_guard.specs.declared.policy.PolicyError.TheVariants as policy_error
use Rattle.wl_guard.specs.declared.session.Rule.{Rule}
use Rattle.wl_guard.specs.declared.session.Rule.TheVariants as rule
use Rattle.wl_flat.specs.declared.guards.FlatEnd.{FlatEnd}
use Rattle.wl_flat.specs.declared.guards.Guard.{Guard}
use Rattle.wl_flat.specs.declared.guards.Policy.{Policy}
use Rattle.wl_flat.specs.declared.flat.Counts.{Counts}
use Rattle.wl_flat.specs.declared.rows.Rows.{Rows}
use Rattle.wl_flat.specs.declared.rows.TableFault.{TableFault}
use Rattle.wl_flat.specs.declared.status.Status.{Status}
use Rattle.wl_flat.specs.declared.status.Status.TheVariants as status
use Rattle.wl_flat.specs.Flat.{over_front}
use Rattle.wl_flat.specs.Rows.{fault_of}
use Rattle.wl_flat.specs.Sending.{Copied, counts_of}
use Rattle.wl_flat.specs.Tables.{IsFaultOf, IsTableOf}

-- ---- numbers

abbrev pub side_of : ℕ → Option Side
side_of n = if n == 0 then Some Client else if n == 1 then Some Server else None

abbrev pub side_number : Side → ℕ
side_number Client = 0
side_number Server = 1

-- the number of a rule that was broken
abbrev pub reason_of : Rule → ℕ
reason_of rule.Malformed = 1
reason_of rule.Unknown = 2
reason_of rule.Destroyed = 3
reason_of rule.Length = 4
reason_of rule.Version = 5
reason_of rule.Policy = 6
reason_of rule.Global = 7
reason_of rule.NewId = 8
reason_of rule.Objects = 9
reason_of rule.Globals = 10
reason_of rule.Descriptors = 11

-- how a connection ended, if it has
abbrev pub flat_end : Option End → FlatEnd
flat_end None = record { reason = 0; side = 0; object = 0; opcode = 0 }
flat_end (Some (Breach b)) = record { reason = reason_of b.rule; side = side_number b.side; object = b.object; opcode = b.opcode }
flat_end (Some NoMemory) = record { reason = 12; side = 0; object = 0; opcode = 0 }
flat_end (Some HungUp) = record { reason = 13; side = 0; object = 0; opcode = 0 }

-- a descriptor's own number is its token
abbrev pub token_of : ℤ → Token
token_of d = record { 0 = d }

abbrev pub descriptor_of : Token → ℤ
descriptor_of t = t.0

-- ---- statuses

abbrev pub of_arrival : ArriveError → Status
of_arrival arrive.Ended = status.Closed
of_arrival arrive.NoRoom = status.WouldBlock
of_arrival arrive.OutOfMemory = status.OutOfMemory

abbrev pub of_error : PolicyError → Status
of_error policy_error.UnknownInterface = status.UnknownInterface
of_error policy_error.Fixed = status.WrongInterface
of_error policy_error.Version = status.VersionTooHigh
of_error policy_error.UnknownRequest = status.UnknownOpcode
of_error policy_error.ChangesObjects = status.WrongKind
of_error (policy_error.UnnamedChild interface) = status.MissingChild
of_error policy_error.OutOfMemory = status.OutOfMemory

-- the answer of a rule, with the status in place of its error
abbrev pub of_rule : Result (Unit {0}) PolicyError → Result (Unit {0}) Status
of_rule answer = result_map_both (λ u. u) of_error answer

-- ---- a policy

-- the fault of a table that no policy takes; it counts the interfaces from the first that the rows say
abbrev pub policy_fault : PolicyError → TableFault
policy_fault (policy_error.UnnamedChild interface) = fault_of (table_error.MissingChild (interface.0 - 4))
policy_fault _ = fault_of table_error.OutOfMemory

abbrev pub IsPolicyOver : List InterfaceRow → Limits → Policy → Type 0
IsPolicyOver table limits p = p.core ≡ new_policy table limits

abbrev pub RefusesPolicy : List InterfaceRow → TableFault → Type 0
RefusesPolicy table fault = (error : PolicyError) × RefusesTable table error × (fault ≡ policy_fault error)

-- nothing is allowed, over the table of the rows
abbrev pub IsNewPolicy : Rows → Limits → Policy → Type 0
IsNewPolicy rows limits p = (table : List InterfaceRow) × IsTableOf rows table × IsPolicyOver table limits p

-- the rows are no table; or they are one that no policy takes
abbrev pub IsPolicyFault : Rows → TableFault → Type 0
IsPolicyFault rows fault = IsFaultOf rows fault ⊎ ((table : List InterfaceRow) × IsTableOf rows table × RefusesPolicy table fault)

-- what a rule that was refused answers: why, in the words of the policy; or one of its names is not UTF-8, so that nothing has it
abbrev pub IsRefused : (PolicyError → Type 0) → Type 0 → Status → Type 0
IsRefused why unreadable s = ((error : PolicyError) × why error × (s ≡ of_error error)) ⊎ unreadable

abbrev pub Unreadable : List ℕ → Status → Status → Type 0
Unreadable name asked s = (is_utf8 name ≡ false) × (s ≡ asked)

-- a global of the interface of this name may be told of and bound, up to that version
abbrev pub Allows : List ℕ → ℕ → Policy → Result (Unit {0}) Status → Policy → Type 0
Allows name version before (Ok u) after = rules.Allows before.core name version after.core
Allows name version before (Err s) after =
    (after.core ≡ before.core) × IsRefused (RefusesAllow before.core name version) (Unreadable name status.UnknownInterface s) s

-- a request of this name ends the connection
abbrev pub Refuses : List ℕ → List ℕ → Policy → Result (Unit {0}) Status → Policy → Type 0
Refuses name request before (Ok u) after = rules.Refuses before.core name request after.core
Refuses name request before (Err s) after =
    (after.core ≡ before.core)
    × IsRefused (RefusesRefuse before.core name request) (Unreadable name status.UnknownInterface s ⊎ Unreadable request status.UnknownOpcode s) s

-- a request of this name is dropped
abbrev pub Ignores : List ℕ → List ℕ → Policy → Result (Unit {0}) Status → Policy → Type 0
Ignores name request before (Ok u) after = rules.Ignores before.core name request after.core
Ignores name request before (Err s) after =
    (after.core ≡ before.core)
    × IsRefused (RefusesIgnore before.core name request) (Unreadable name status.UnknownInterface s ⊎ Unreadable request status.UnknownOpcode s) s

-- ---- a guard

abbrev pub came : List ℕ → List ℤ → Queue
came bytes descriptors = record { bytes = bytes; tokens = map token_of descriptors }

-- This came from the side, and what is whole of it was passed; or it was not taken, and nothing is changed.
abbrev pub Receives : Policy → ℕ → List ℕ → List ℤ → Guard → Status → Guard → Type 0
Receives p n bytes descriptors before status.Ok after =
    (side : Side) × (side_of n ≡ Some side) × Arrives p.core side (came bytes descriptors) before.core after.core
Receives p n bytes descriptors before status.InvalidInput after = (after.core ≡ before.core) × (side_of n ≡ None)
Receives p n bytes descriptors before status.Closed after = (after.core ≡ before.core) × IsSome before.core.end
Receives p n bytes descriptors before status.WouldBlock after =
    (after.core ≡ before.core) × (before.core.end ≡ None)
    × ((side : Side) × (side_of n ≡ Some side) × (p.core.limits.waiting < length (to_send (other_side side) before.core).bytes))
Receives p n bytes descriptors before status.OutOfMemory after = after.core ≡ before.core
Receives p n bytes descriptors before _ after = ⊥

-- so many of the bytes of one send, and its descriptors
abbrev pub copied_so_many : ℕ → Queue → List ℕ → List ℤ → Copied
copied_so_many n out bytes descriptors =
    if nat_lt (length descriptors) (length out.tokens)
    then (record { status = status.TooSmall; bytes = bytes; descriptors = descriptors; counts = counts_of n (length out.tokens) })
    else (record {
      status = status.Ok;
      bytes = over_front (take n out.bytes) bytes;
      descriptors = over_front (map descriptor_of out.tokens) descriptors;
      counts = counts_of n (length out.tokens);
    })

-- As many of its bytes as fit, and all of its descriptors, which go with the first byte. If no byte is copied, nothing is.
abbrev pub copied_out : Queue → List ℕ → List ℤ → Copied
copied_out out bytes descriptors =
    if min (length out.bytes) (length bytes) == 0
    then (record { status = status.Ok; bytes = bytes; descriptors = descriptors; counts = counts_of 0 0 })
    else copied_so_many (min (length out.bytes) (length bytes)) out bytes descriptors

-- what is to be sent to the side of this number; there may be none
abbrev pub copied_to : Option Side → GuardState → List ℕ → List ℤ → Counts → Copied
copied_to None g bytes descriptors counts = record { status = status.InvalidInput; bytes = bytes; descriptors = descriptors; counts = counts }
copied_to (Some side) g bytes descriptors counts = copied_out (one_send (to_send side g)) bytes descriptors

abbrev pub copied_for : ℕ → Guard → List ℕ → List ℤ → Counts → Copied
copied_for n g bytes descriptors counts = copied_to (side_of n) g.core bytes descriptors counts

-- so many bytes of one send were sent to the side; or there is no such side
abbrev pub Sends : ℕ → ℕ → Guard → Status → Guard → Type 0
Sends n count before status.Ok after = (side : Side) × (side_of n ≡ Some side) × guard.Sent side count before.core after.core
Sends n count before status.InvalidInput after = (side_of n ≡ None) × (after.core ≡ before.core)
Sends n count before _ after = ⊥

-- a descriptor is given back; or there is none now
abbrev pub Frees : Guard → Result ℤ Status → Guard → Type 0
Frees before (Ok d) after = GivesBack before.core (Some (token_of d)) after.core
Frees before (Err s) after = GivesBack before.core None after.core × (s ≡ status.WouldBlock)

-- the connection ends; one that has ended stays as it was
abbrev pub HangsUp : Guard → Guard → Type 0
HangsUp before after = (before.core.end ≡ None → guard.HangsUp before.core after.core) × (IsSome before.core.end → after.core ≡ before.core)
