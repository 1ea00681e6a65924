use Rattle.std.proofs.Common.{◌≡◌, length, drop}
use Rattle.wl_link.specs.Refusals.{first_refusal}
use Rattle.wl_client.specs.Requests.{argument_faults}
use Rattle.wl_client.proofs.request.first_fault.Given as goal

abbrev pub invariant-loop-kind : goal.invariant-loop-kind
invariant-loop-kind g l =
    first_refusal (argument_faults l.objects.store (drop (length l.yielded) l.signature) l.asked (drop (length l.yielded) l.args))
    ≡ first_refusal (argument_faults l.objects.store l.signature l.interfaces l.args)
