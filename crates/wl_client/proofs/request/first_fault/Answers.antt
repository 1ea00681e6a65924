use Rattle.std.proofs.Common.{arith}
use Rattle.std.proofs.lemmas.Slice.Zip.{zip_end}
use Rattle.wl_client.proofs.Requests.{no_fault}
use Rattle.wl_client.proofs.request.first_fault.Goals as goal

pub returns : goal.returns
returns g c =
    let t = zip_end c.args.signature.now c.args.args.now c.loop-kind.yielded c.into_iter-kind-iterator.result c.loop-kind.kind-iterator c.next.new.self c.next.result (cc) (cc) c.loop-kind.yielded_by c.in-None.is c.next.ensures.steps in
    no_fault c.args.objects.now.store c.args.signature.now c.loop-kind.asked.now c.args.args.now _ _ (λ short also. omega (arith, t)) c.loop-kind.invariant
