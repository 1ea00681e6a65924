use Rattle.std.proofs.Common.{take, map}
use Rattle.std.specs.Io.KnownBytes.{Appends}
use Rattle.std.specs.String.{string_bytes}
use Rattle.wl_relay.specs.Input.{text_of}
use Rattle.wl_relay.specs.Program.{logged_line}
use Rattle.wl_relay.proofs.commands.write_lines.Given as goal

abbrev pub invariant-loop-line : goal.invariant-loop-line
invariant-loop-line g l =
    Appends (g.W.Write.contents l.fn.writer) (g.W.Write.contents l.writer) (text_of (map logged_line (map string_bytes (take l.line-index l.lines))))
