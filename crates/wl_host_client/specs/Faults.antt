-- The error of a client's session as a flat struct, and its text.
use Rattle.std.specs.Prelude.{ℕ, ℤ, pos, ◌++◌, List, [], length, Option, None, Some}
use Rattle.wl_wire.specs.declared.error.IoFault.{IoFault}
use Rattle.wl_wire.specs.declared.error.IoFault.TheVariants as fault
use Rattle.wl_wire.specs.declared.error.ProtocolError.{ProtocolError}
use Rattle.wl_client.specs.declared.error.WaylandError.{WaylandError}
use Rattle.wl_client.specs.declared.error.WaylandError.TheVariants.{Io, Protocol}
use Rattle.wl_flat.specs.declared.flat.FlatError.{FlatError}
use Rattle.wl_flat.specs.declared.status.Status.TheVariants as status
use Rattle.wl_flat.specs.Flat.{count_number}
use Rattle.wl_flat.specs.Status.{code_of, of_fault}

abbrev pub no_error : FlatError
no_error = record { kind = 0; status = 0; number = pos 0; code = 0; object_number = 0; message_length = 0; interface_length = 0 }

-- the number of the system; 0 if the fault has none
abbrev pub number_of : IoFault → ℤ
number_of (fault.Other number) = number
number_of _ = pos 0

abbrev pub io_error : IoFault → FlatError
io_error fault = record no_error { kind = 1; status = code_of (of_fault fault); number = number_of fault }

abbrev pub protocol_error : ProtocolError → FlatError
protocol_error error = record no_error {
  kind = 2;
  status = code_of status.ProtocolError;
  code = error.code;
  object_number = error.object_id;
  message_length = count_number (length error.message);
  interface_length = count_number (length error.object_interface);
}

abbrev pub flat_error : Option WaylandError → FlatError
flat_error None = no_error
flat_error (Some (Io fault)) = io_error fault
flat_error (Some (Protocol error)) = protocol_error error

-- the message, and behind it the name of the interface
abbrev pub text_of_error : Option WaylandError → List ℕ
text_of_error (Some (Protocol error)) = error.message ++ error.object_interface
text_of_error _ = []
