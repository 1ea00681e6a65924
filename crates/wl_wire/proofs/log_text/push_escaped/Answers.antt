use Rattle.std.proofs.Common.{rules, arith, false}
use Rattle.std.proofs.lemmas.Fmt.{hex_byte}
use Rattle.wl_wire.proofs.log_text.push_escaped.Goals as goal

pub returns : goal.returns
returns c = let two = hex_byte false c.args.byte (omega arith) in search (rules, two)
