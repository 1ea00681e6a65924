use Rattle.std.proofs.Common.{◌≡◌, ◌+◌, ◌*◌, ◌-◌, ◌≤◌, [], length, map, take}
use Rattle.std.specs.List.{AllByRecursion}
use Rattle.wl_wire.specs.Message.{IsArgument, pieces}
use Rattle.wl_wire.specs.MapIds.{with_ids}
use Rattle.wl_wire.specs.Inside.Buffer.{overwritten, bytes_of, tokens_of}
use Rattle.wl_wire.proofs.write.put_each_within.Given as goal

abbrev pub invariant-loop-arg : goal.invariant-loop-arg
invariant-loop-arg g l =
    let args = map (with_ids (g.N.Numbering.object_number l.numbers) (g.N.Numbering.new_number l.numbers)) l.args in
    (l.at ≡ bytes_of (take l.arg-index l.args))
    × (l.at + 4 * (length l.args - l.arg-index) + l.room ≡ l.end)
    × (l.arg-index ≤ length l.args)
    × (l.payload ≡ overwritten l.fn.payload 8 (pieces (take l.arg-index args)))
    × (tokens_of (take l.arg-index l.args) ≡ [])
    × AllByRecursion IsArgument (take l.arg-index args)
