use Rattle.std.proofs.Common.{[], ap, refl}
use Rattle.wl_host.proofs.Catching.{reads_caught, reads_nothing}
use Rattle.wl_host.specs.Actions.{Lent}
use Rattle.wl_flat.specs.declared.flat.FlatAction.{FlatAction}
use Rattle.wl_host.proofs.server.Server.next_action.Goals as goal

pub returns-in-Ok : goal.returns-in-Ok
returns-in-Ok c =
    let (out, next, conserves) = c.read_next.ensures in
    let (reads, keeps) = reads_caught _ _ _ _ _ _ _ _ _ _ c.id.ensures.id c.in-Ok.ensures (next, conserves) in (out, reads, keeps)

pub returns-in-Err : goal.returns-in-Err
returns-in-Err c =
    let (reads, keeps) =
    reads_nothing _ _ _ _ _ _ _ _ _ c.id.ensures.id c.in-Err.ensures
    (refl, ap (λ (o : FlatAction). let x : Lent = record { out = o; arguments = c.args.arguments.now; bytes = c.args.bytes.now } in x) c.none.ensures) in
    ([], reads, keeps)
