use Rattle.std.proofs.Common.{◌≡◌, ◌<◌, nat_le, refl, sym, true, arith}
use Rattle.wl_server_model.proofs.GlobalCalls.AtName.{name_lacks_memory, new_named}
use Rattle.wl_server.proofs.globals.create.Goals as goal

pub returns-in-Err-OutOfMemory-clause-answer : goal.returns-in-Err-OutOfMemory-clause-answer
returns-in-Err-OutOfMemory-clause-answer g c =
    let fits : nat_le c.args.version c.in-Some.known.now.version ≡ true = grind (arith, c.if-version-known.false) in
    let left : c.args.last_serial.now < 0xFFFFFFFFFFFFFFFF = omega arith in
    (name_lacks_memory c.args.protocol.now c.args.globals.now.store c.insert.new.globals.store c.args.last_serial.now c.args.keeps_names c.args.interface c.args.version _ (sym c.in-Some.ensures.interface) fits left _ _ c.insert.ensures _ c.in-Err-OutOfMemory.is c.in-Err-OutOfMemory.field-0-is).0

pub returns-in-Ok-clause-kept : goal.returns-in-Ok-clause-kept
returns-in-Ok-clause-kept g c = rw c.from_parts.ensures (new_named _ _ c.args.keeps_names _ _ _ refl c.in-Ok.is c.insert.ensures)
