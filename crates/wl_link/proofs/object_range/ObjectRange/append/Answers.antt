use Rattle.std.proofs.Common.{◌≡◌, ◌+◌, arith, length, subst, sym}
use Rattle.wl_sets.specs.FreeTree.{IsTree, words_of}
use Rattle.wl_link.specs.Inside.PlaceList.{free_flag}
use Rattle.wl_link.proofs.FreePlaces.{marks_pushed, free_past}
use Rattle.wl_link.proofs.object_range.ObjectRange.append.Goals as goal

pub push-requires-2-clause-tree : goal.push-requires-2-clause-tree
push-requires-2-clause-tree g c =
    let places = c.args.self.now.slots.items in (
      free_flag places,
      subst (λ n. IsTree (free_flag places) n (words_of c.reserve_for.new.self.levels.items)) (sym c.requires.last)
          (c.in_ok-reserve_for.ensures.tree (free_flag places) (length places) c.requires.free.tree),
    )

pub returns-clause-free : goal.returns-clause-free
returns-clause-free g c =
    let places = c.args.self.now.slots.items in
    let levels = c.push-2.new.self.levels.items in
    let last : length places ≡ c.args.at = sym c.requires.last in
    let reserved = c.in_ok-reserve_for.ensures.tree (free_flag places) (length places) c.requires.free.tree in
    let pushed : IsTree (free_flag places) (length places + 1) (words_of levels) =
    subst (λ n. IsTree (free_flag places) (n + 1) (words_of levels)) (sym last)
    (c.push-2.ensures.tree (free_flag places) (λ j past. free_past places j (omega arith))
    (subst (λ n. IsTree (free_flag places) n (words_of c.reserve_for.new.self.levels.items)) last reserved)) in
    rw (c.in_ok-push.ensures.items) (rw (c.in_ok-reserve_slot.ensures.items) (marks_pushed places c.args.object levels c.requires.fits pushed))
