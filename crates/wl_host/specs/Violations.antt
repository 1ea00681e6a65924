-- How a client broke the protocol, as a flat struct.
use Rattle.std.specs.Prelude.{ℕ, true, false}
use Rattle.wl_server_client.specs.declared.reading.response.RequestFault.{RequestFault}
use Rattle.wl_server_client.specs.declared.reading.response.RequestFault.TheVariants as wrong
use Rattle.wl_server_client.specs.declared.reading.violation.MessageFault.{MessageFault}
use Rattle.wl_server_client.specs.declared.reading.violation.MessageFault.TheVariants as fault
use Rattle.wl_server_client.specs.declared.reading.violation.Violation.{Violation}
use Rattle.wl_flat.specs.Flat.{count_number, interface_number}
use Rattle.wl_flat.specs.Kinds as kinds
use Rattle.wl_host.specs.declared.server.violations.FlatViolation.{FlatViolation}

-- which message it was, without what was wrong
abbrev pub of_message : Violation → FlatViolation
of_message v = record {
  kind = 0;
  sender = v.sender_id;
  interface = interface_number v.interface.0;
  opcode = v.opcode;
  argument = 0;
  number = 0;
  wanted = 0;
  found = 0;
}

-- an argument that was read is wrong
abbrev pub with_wrong : FlatViolation → ℕ → RequestFault → FlatViolation
with_wrong v place (wrong.InvalidNewId n) = record v { kind = kinds.violation_invalid_new_id; argument = count_number place; number = n }
with_wrong v place (wrong.UnknownId n) = record v { kind = kinds.violation_unknown_id; argument = count_number place; number = n }
with_wrong v place (wrong.WrongInterface n asked got) = record v {
  kind = kinds.violation_wrong_interface;
  argument = count_number place;
  number = n;
  wanted = interface_number asked.0;
  found = interface_number got.0;
}
with_wrong v place wrong.NullObject = record v { kind = kinds.violation_null_object; argument = count_number place }

-- what was wrong
abbrev pub with_fault : FlatViolation → MessageFault → FlatViolation
with_fault v fault.UnknownSender = record v { kind = kinds.violation_unknown_sender }
with_fault v fault.UnknownOpcode = record v { kind = kinds.violation_unknown_opcode }
with_fault v fault.ShortHeader = record v { kind = kinds.violation_short_header }
with_fault v (fault.MissingBytes place) = record v { kind = kinds.violation_missing_bytes; argument = count_number place }
with_fault v (fault.UnendedString place) = record v { kind = kinds.violation_unended_string; argument = count_number place }
with_fault v (fault.SinceLater version since) = record v { kind = kinds.violation_since_later; wanted = since; found = version }
with_fault v (fault.RefusedBind global version true) = record v { kind = kinds.violation_refused_bind; number = global; wanted = version }
with_fault v (fault.RefusedBind global version false) = record v { kind = kinds.violation_null_name; number = global; wanted = version }
with_fault v (fault.TooManyObjects limit) = record v { kind = kinds.violation_too_many_objects; wanted = limit }
with_fault v (fault.WrongArgument place w) = with_wrong v place w

abbrev pub flat_violation : Violation → FlatViolation
flat_violation v = with_fault (of_message v) v.fault
