use Rattle.std.proofs.Common.{◌≡◌, ◌≤◌, ◌+◌, ◌++◌, length, map, take}
use Rattle.std.specs.VecDeque.{deque_capacity, deque_len}
use Rattle.wl_host_client.specs.Client.{ended_object}
use Rattle.wl_host_client.proofs.client.notes.take_notes.Given as goal

abbrev pub invariant-loop-note : goal.invariant-loop-note
invariant-loop-note l =
    (l.notes.items ≡ l.fn.notes.items ++ map (ended_object l.core.session) (take l.note-index l.note-items))
    × (deque_len l.notes + length l.note-items ≤ deque_capacity l.notes + l.note-index)
