use Rattle.std.proofs.Common.{◌<◌, ◌≤◌, ◌+◌, length}
use Rattle.std.specs.FinMap.{entries}
use Rattle.wl_server_client.specs.Inside.Leaving.{with_data}
use Rattle.wl_server_client.proofs.notes.leaving.count_ending.Given as goal

abbrev pub invariant-loop-object : goal.invariant-loop-object
invariant-loop-object g l =
    l.count < 0xFFFFFFFFFFFFFFFF → length (with_data (entries l.objects.store.objects)) ≤ l.count + length (with_data l.all)
