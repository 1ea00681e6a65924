use Rattle.std.proofs.Common.{◌≡◌, ◌+◌, ◌-◌, ◌≤◌, drop, length}
use Rattle.wl_wire.specs.Argument.{Matches}
use Rattle.wl_server_client.specs.Requests.{convert}
use Rattle.wl_server_client.specs.Inside.Conversion.{CanMake, state}
use Rattle.wl_server_client.proofs.reading.arguments.convert.Given as goal

-- the arguments that are left come to what all come to
abbrev pub invariant-loop-arg : goal.invariant-loop-arg
invariant-loop-arg g l = record {
  can_make : CanMake l.progress l.objects;
  same : drop l.arg-index l.args ≡ drop l.arg-index l.fn.args;
  kinds : Matches l.progress.kinds.now (drop l.arg-index l.fn.args);
  registries : l.objects.registries ≡ l.fn.objects.registries;
  capacity : l.converted.capacity ≡ l.fn.converted.capacity;
  room : length l.converted.items + (length l.args - l.arg-index) ≤ l.converted.capacity;
  left : convert l.fn.client l.fn.version (state l.objects l.progress) l.converted.items (drop l.arg-index l.fn.args)
      ≡ convert l.fn.client l.fn.version (state l.fn.objects l.fn.progress) l.fn.converted.items l.fn.args;
}
