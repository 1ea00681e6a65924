-- Replacing the ids of a message by their numbers.
use Rattle.std.specs.Prelude.{ℕ, map}
use Rattle.wl_wire.specs.declared.argument.Argument.{Argument}
use Rattle.wl_wire.specs.declared.argument.Argument.TheVariants as arg
use Rattle.wl_wire.specs.declared.argument.Token.{Token}
use Rattle.wl_wire.specs.declared.message.Message.{Message}
use Rattle.wl_wire.specs.Message.{WireMessage}

-- the argument with what the first function gives for the id of an object, and the second for that of a new one
abbrev pub with_ids : {Id New Fd : Type 0} → (Id → New) → (Id → New) → Argument Id Fd → Argument New Fd
with_ids object_id new_id (arg.Int z) = arg.Int z
with_ids object_id new_id (arg.Uint n) = arg.Uint n
with_ids object_id new_id (arg.Fixed z) = arg.Fixed z
with_ids object_id new_id (arg.Str text) = arg.Str text
with_ids object_id new_id (arg.Object id) = arg.Object (object_id id)
with_ids object_id new_id (arg.NewId id) = arg.NewId (new_id id)
with_ids object_id new_id (arg.Array bytes) = arg.Array bytes
with_ids object_id new_id (arg.Fd t) = arg.Fd t

-- the message as it goes on the wire; these functions give the numbers of its objects' ids and of its new ids
abbrev pub numbered : {Id : Type 0} → (Id → ℕ) → (Id → ℕ) → Message Id Token → WireMessage
numbered object_id new_id m =
    record { sender = object_id m.sender_id; opcode = m.opcode; args = map (with_ids object_id new_id) m.args.items }
