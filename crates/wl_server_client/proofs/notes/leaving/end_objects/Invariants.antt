use Rattle.std.proofs.Common.{◌≡◌, ◌++◌, map}
use Rattle.std.specs.FinMap.{entries}
use Rattle.std.specs.Vec.{vec_capacity}
use Rattle.wl_server_client.specs.Inside.Leaving.{ends_of}
use Rattle.wl_server_client.specs.Stored.{note_of}
use Rattle.wl_server_client.proofs.CleanupSteps.Ending.{Ending}
use Rattle.wl_server_client.proofs.notes.leaving.end_objects.Given as goal

abbrev pub invariant-loop-number : goal.invariant-loop-number
invariant-loop-number g l = record {
  ending : Ending l.client l.notes.items l.all
      (l.fn.notes.items ++ map (note_of l.client) (ends_of l.client (entries l.fn.objects.map.store.objects))) (vec_capacity l.fn.notes);
  capacity : vec_capacity l.notes ≡ vec_capacity l.fn.notes;
}
