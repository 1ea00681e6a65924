use Rattle.std.proofs.Common.{sym}
use Rattle.wl_host.proofs.Refusing.{allowed_read, nothing_allowed, refused_read}
use Rattle.wl_host.proofs.server.actions.read_allowed.Goals as goal

pub returns-in-Err-clause-read : goal.returns-in-Err-clause-read
returns-in-Err-clause-read c =
    nothing_allowed c.args.refuses_nulls c.args.core.now c.read_action.new.core c.args.id.now c.args.kept.now c.read_action.new.kept c.in-Err.error
    c.in-Err.ensures.none c.in-Err.ensures.read

pub returns-then-is_refused-clause-read : goal.returns-then-is_refused-clause-read
returns-then-is_refused-clause-read c =
    refused_read c.args.core.now c.read_action.new.core c.args.id.now c.args.kept.now c.read_action.new.action c.forbidden_null_of-place.result
    c.args.refuses_nulls c.refuse.new.kept c.refuse.new.core c.in_default.ensures.read c.forbidden_null_of-place.ensures (sym c.if-is_refused.ensures) c.refuse.ensures

pub returns-clause-read : goal.returns-clause-read
returns-clause-read c =
    allowed_read c.args.core.now c.read_action.new.core c.args.id.now c.args.kept.now c.read_action.new.action c.forbidden_null_of-place.result
    c.args.refuses_nulls c.read_action.new.kept c.in_default.ensures.none c.in_default.ensures.read c.forbidden_null_of-place.ensures (sym c.if-is_refused.ensures)
