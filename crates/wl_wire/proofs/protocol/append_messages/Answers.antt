use Rattle.std.proofs.Common.{rules, subst, sym}
use Rattle.std.proofs.lemmas.Result.{err_from_is_err_and}
use Rattle.wl_wire.specs.Table.{AnswersExtension, IsFirstOfExtension, extension_of, interface_rows, new_messages}
use Rattle.wl_wire.proofs.Extension.{AnswersExtension-first, extended_there}
use Rattle.wl_wire.proofs.protocol.append_messages.Goals as goal

pub returns-in_err-check_extension-clause-answer : goal.returns-in_err-check_extension-clause-answer
returns-in_err-check_extension-clause-answer c =
    let table = interface_rows c.args.table.now.items in
    let more = extension_of c.args.id c.args.version c.args.requests.items c.args.events.items in
    let p = err_from_is_err_and c.from_residual.result c.from_residual.ensures.1 in
    let first : IsFirstOfExtension table c.args.id.0 (new_messages more) p.0 =
    rw (p.2, ← c.deref.ensures.value, ← c.deref-2.ensures.value, ← c.deref-3.ensures.value) c.in_err-check_extension.ensures.first in
    subst (AnswersExtension table more) (sym p.1) (AnswersExtension-first table more p.0 first)

pub returns-in-Some-clause-table : goal.returns-in-Some-clause-table
returns-in-Some-clause-table c =
    let more = extension_of c.args.id c.args.version c.args.requests.items c.args.events.items in
    extended_there c.args.table.now.items more c.in-Some.interface.now c.extend_interface.new.interface c.extend_interface.result
    (search rules) (search rules) (c.extend_interface.ensures.row c.args.id)
