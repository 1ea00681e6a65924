use Rattle.std.proofs.Common.{rules, ◌≡◌, Ok, true, false, arith}
use Rattle.std.proofs.lemmas.Grind.{common_steps}
use Rattle.wl_wire.specs.Table.{interface_rows}
use Rattle.wl_relay.specs.declared.mode.Mode.{Mode}
use Rattle.wl_relay.specs.Program.{EndsTable}
use Rattle.wl_relay.proofs.TableLines.{reads_lent, rows_bad, rows_end, rows_next, rows_none}
use Rattle.wl_relay.proofs.commands.read_rows.Goals as goal

pub returns-then-not-branch-clause-stops : goal.returns-then-not-branch-clause-stops
returns-then-not-branch-clause-stops g c =
    let left = g.R.Read.remaining in
    let none : c.read_line.result ≡ Ok false = grind (arith, common_steps) in
    rows_none c.loop-number.number (left c.args.reader.now) (left c.loop-number.reader) (interface_rows c.loop-number.interfaces.items)
    c.loop-number.invariant (c.read_line.ensures.none none)

pub returns-in-Some-clause-found : goal.returns-in-Some-clause-found
returns-in-Some-clause-found g c =
    let left = g.R.Read.remaining in
    let some : c.read_line.result ≡ Ok true = grind (arith, common_steps) in
    let line = c.without_line_feed-front.result.now in
    let now = left c.loop-number.reader in
    let next = left c.read_line.new.reader in
    let read = reads_lent now next c.read_line.new.line.items c.as_slice.result.now line c.as_slice.ensures.value
    c.without_line_feed-front.ensures (c.read_line.ensures.read some)
    in
    rows_end c.loop-number.number (left c.args.reader.now) now next line c.in-Some.mode (interface_rows c.loop-number.interfaces.items)
    c.loop-number.invariant read c.in-Some.ensures

pub returns-then-not-branch-2-clause-stops : goal.returns-then-not-branch-2-clause-stops
returns-then-not-branch-2-clause-stops g c =
    let left = g.R.Read.remaining in
    let some : c.read_line.result ≡ Ok true = grind (arith, common_steps) in
    let refused : c.row_line.result ≡ Ok false = grind (arith, common_steps) in
    let line = c.without_line_feed-front.result.now in
    let now = left c.loop-number.reader in
    let next = left c.read_line.new.reader in
    let read = reads_lent now next c.read_line.new.line.items c.as_slice.result.now line c.as_slice.ensures.value
    c.without_line_feed-front.ensures (c.read_line.ensures.read some)
    in
    let no_end : (mode : Mode) → ¬ (EndsTable mode line) = search rules in
    rows_bad c.loop-number.number (left c.args.reader.now) now next line (interface_rows c.loop-number.interfaces.items) c.loop-number.invariant read
    (no_end, c.row_line.ensures.none refused)

pub loop-number-preserved : goal.loop-number-preserved
loop-number-preserved g c =
    let left = g.R.Read.remaining in
    let some : c.read_line.result ≡ Ok true = grind (arith, common_steps) in
    let taken : c.row_line.result ≡ Ok true = grind (arith, common_steps) in
    let line = c.without_line_feed-front.result.now in
    let now = left c.loop-number.reader in
    let next = left c.read_line.new.reader in
    let read = reads_lent now next c.read_line.new.line.items c.as_slice.result.now line c.as_slice.ensures.value
    c.without_line_feed-front.ensures (c.read_line.ensures.read some)
    in
    rows_next c.loop-number.number (left c.args.reader.now) now next line (interface_rows c.loop-number.interfaces.items)
    (interface_rows c.row_line.new.interfaces.items) c.loop-number.invariant read (c.row_line.ensures.added taken)
