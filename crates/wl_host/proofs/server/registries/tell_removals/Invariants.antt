use Rattle.std.proofs.Common.{◌≡◌, [], ◌∷◌, drop}
use Rattle.wl_wire.specs.declared.argument.Argument.TheVariants as arg
use Rattle.wl_host.specs.Calls.{CoreState}
use Rattle.wl_host.specs.Registries.{TellsRemovals, registries_told}
use Rattle.wl_flat.specs.declared.status.Status.{Status}
use Rattle.wl_flat.specs.declared.status.Status.TheVariants as status
use Rattle.wl_host.proofs.server.registries.tell_removals.Given as goal

-- if those that are left are told, all were
abbrev pub invariant-loop-one : goal.invariant-loop-one
invariant-loop-one l = record {
  opcode : l.event.opcode ≡ 1;
  args : l.event.args.items ≡ arg.Uint l.global.name ∷ [];
  told : (s : Status) (after : CoreState) → TellsRemovals l.global.name l.core (registries_told l.global (drop l.one-index l.told)) l.status s after
      → TellsRemovals l.global.name l.fn.core (registries_told l.global l.told) status.Ok s after;
}
