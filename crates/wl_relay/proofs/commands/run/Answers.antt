use Rattle.wl_relay.proofs.Answers.{runs}
use Rattle.wl_relay.proofs.commands.run.Goals as goal

pub returns : goal.returns
returns g c =
    let left = g.R.Read.remaining in
    let held = g.W.Write.contents in
    let read = c.in_ok-before.ensures in
    let made = c.in_ok-relay.ensures in
    runs (left c.args.reader.now) (left c.read_table.new.reader) c.in_ok-before.mode c.in_ok-before.before c.in_ok-before.table read.found.0
    c.in_ok-relay.relay c.run_lines-ended.result (held c.args.writer.now) (held c.run_lines-ended.new.writer) read.found.1 read.found.2
    read.accepted (made.begins, made.is_open, made.made.0, made.made.1) c.run_lines-ended.ensures
