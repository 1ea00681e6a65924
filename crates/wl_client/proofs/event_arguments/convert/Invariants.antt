use Rattle.std.proofs.Common.{◌≡◌, length, reverse}
use Rattle.smallvec.specs.SmallVec.{HasRoomFor}
use Rattle.wl_client.specs.Events.{convert}
use Rattle.wl_client.specs.Inside.Conversion.{CanMake, state}
use Rattle.wl_client.proofs.event_arguments.convert.Given as goal

-- the arguments that are left come to what all come to
abbrev pub invariant-loop-arg : goal.invariant-loop-arg
invariant-loop-arg g l = record {
  can_make : CanMake l.progress (reverse l.args.items) l.objects;
  capacity : l.converted.capacity ≡ l.fn.converted.capacity;
  place : l.args.capacity ≡ l.fn.args.capacity;
  room : HasRoomFor l.converted (length l.args.items);
  left : convert l.fn.receiver.version l.fn.receiver.client_destroyed (state l.objects l.last_serial l.progress) l.converted.items (reverse l.args.items)
      ≡ convert l.fn.receiver.version l.fn.receiver.client_destroyed (state l.fn.objects l.fn.last_serial l.fn.progress) l.fn.converted.items (reverse l.fn.args.items);
}

abbrev pub decreases-loop-arg : goal.decreases-loop-arg
decreases-loop-arg g l = length l.args.items
