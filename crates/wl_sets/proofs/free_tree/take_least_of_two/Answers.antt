use Rattle.std.proofs.Common.{◌∙◌, ap, arith}
use Rattle.std.specs.Int.{trailing_zeros, w64}
use Rattle.wl_sets.specs.FreeTree.{word}
use Rattle.wl_sets.proofs.Trees.{bit_of_row, least_of_row, none_of_two, row_emptied, row_is_set, row_left, row_of_two, tells_none, tells_row}
use Rattle.wl_sets.proofs.free_tree.take_least_of_two.Goals as goal

pub returns-then-top-eq0-clause-least : goal.returns-then-top-eq0-clause-least
returns-then-top-eq0-clause-least c = λ flag count tree.
    let top_is = c.read-top.ensures.value ∙ ap (λ ws. word ws 0) c.deref.ensures.value in
    none_of_two flag count c.args.words.now.items c.args.tops.now.items c.requires.top (tells_none c.args.tops.now.items c.read-top.result top_is (omega arith)) tree

pub read-word-requires-clause-within : goal.read-word-requires-clause-within
read-word-requires-clause-within c =
    let (flag, count, small, past, tree) = c.requires.tree in
    let top_is = c.read-top.ensures.value ∙ ap (λ ws. word ws 0) c.deref.ensures.value in
    let told = tells_row c.args.tops.now.items c.read-top.result top_is (omega arith) in
    let within = row_of_two flag count c.args.words.now.items c.args.tops.now.items (trailing_zeros w64 c.read-top.result) c.requires.top told tree in
    omega arith

pub with_bit-rest-requires : goal.with_bit-rest-requires
with_bit-rest-requires c =
    let words = c.args.words.now.items in
    let tops = c.args.tops.now.items in
    let top_is = c.read-top.ensures.value ∙ ap (λ ws. word ws 0) c.deref.ensures.value in
    let told = tells_row c.args.tops.now.items c.read-top.result top_is (omega arith) in
    let is = c.read-word.ensures.value ∙ ap (λ ws. word ws (trailing_zeros w64 c.read-top.result)) c.deref-2.ensures.value in
    let (flag, count, small, past, tree) = c.requires.tree in
    bit_of_row flag count words tops (trailing_zeros w64 c.read-top.result) c.read-word.result c.requires.top told is tree

pub index_mut-requires : goal.index_mut-requires
index_mut-requires c =
    let (flag, count, small, past, tree) = c.requires.tree in
    let top_is = c.read-top.ensures.value ∙ ap (λ ws. word ws 0) c.deref.ensures.value in
    let told = tells_row c.args.tops.now.items c.read-top.result top_is (omega arith) in
    let within = row_of_two flag count c.args.words.now.items c.args.tops.now.items (trailing_zeros w64 c.read-top.result) c.requires.top told tree in
    omega arith

pub returns-then-rest-eq0-clause-least : goal.returns-then-rest-eq0-clause-least
returns-then-rest-eq0-clause-least c = λ flag count tree.
    let words = c.args.words.now.items in
    let tops = c.args.tops.now.items in
    let top_is = c.read-top.ensures.value ∙ ap (λ ws. word ws 0) c.deref.ensures.value in
    let told = tells_row c.args.tops.now.items c.read-top.result top_is (omega arith) in
    let is = c.read-word.ensures.value ∙ ap (λ ws. word ws (trailing_zeros w64 c.read-top.result)) c.deref-2.ensures.value in
    least_of_row flag count words tops (trailing_zeros w64 c.read-top.result) c.read-word.result c.requires.top told is tree

pub returns-else-rest-eq0-clause-least : goal.returns-else-rest-eq0-clause-least
returns-else-rest-eq0-clause-least c = λ flag count tree.
    let words = c.args.words.now.items in
    let tops = c.args.tops.now.items in
    let top_is = c.read-top.ensures.value ∙ ap (λ ws. word ws 0) c.deref.ensures.value in
    let told = tells_row c.args.tops.now.items c.read-top.result top_is (omega arith) in
    let is = c.read-word.ensures.value ∙ ap (λ ws. word ws (trailing_zeros w64 c.read-top.result)) c.deref-2.ensures.value in
    least_of_row flag count words tops (trailing_zeros w64 c.read-top.result) c.read-word.result c.requires.top told is tree

pub returns-else-at-end-clause-least : goal.returns-else-at-end-clause-least
returns-else-at-end-clause-least c = λ flag count tree.
    let words = c.args.words.now.items in
    let tops = c.args.tops.now.items in
    let top_is = c.read-top.ensures.value ∙ ap (λ ws. word ws 0) c.deref.ensures.value in
    let told = tells_row c.args.tops.now.items c.read-top.result top_is (omega arith) in
    let is = c.read-word.ensures.value ∙ ap (λ ws. word ws (trailing_zeros w64 c.read-top.result)) c.deref-2.ensures.value in
    least_of_row flag count words tops (trailing_zeros w64 c.read-top.result) c.read-word.result c.requires.top told is tree

pub returns-then-rest-eq0-clause-taken : goal.returns-then-rest-eq0-clause-taken
returns-then-rest-eq0-clause-taken c =
    let words = c.args.words.now.items in
    let tops = c.args.tops.now.items in
    let top_is = c.read-top.ensures.value ∙ ap (λ ws. word ws 0) c.deref.ensures.value in
    let told = tells_row c.args.tops.now.items c.read-top.result top_is (omega arith) in
    let is = c.read-word.ensures.value ∙ ap (λ ws. word ws (trailing_zeros w64 c.read-top.result)) c.deref-2.ensures.value in (
      λ l. λ flag count inside tree.
          row_emptied flag count words tops (trailing_zeros w64 c.read-top.result) _ c.read-word.result c.with_bit-rest.result c.read-top.result c.with_bit.result inside
          (bit_of_row flag count words tops (trailing_zeros w64 c.read-top.result) c.read-word.result c.requires.top told is tree) (row_of_two flag count words tops (trailing_zeros w64 c.read-top.result) c.requires.top told tree)
          c.requires.top (omega arith) is (omega arith) c.with_bit-rest.ensures.here c.with_bit-rest.ensures.others (omega arith) top_is
          c.with_bit.ensures.here c.with_bit.ensures.others tree,
      λ l. absurd (omega arith),
    )

pub returns-else-rest-eq0-clause-taken : goal.returns-else-rest-eq0-clause-taken
returns-else-rest-eq0-clause-taken c =
    let words = c.args.words.now.items in
    let tops = c.args.tops.now.items in
    let top_is = c.read-top.ensures.value ∙ ap (λ ws. word ws 0) c.deref.ensures.value in
    let told = tells_row c.args.tops.now.items c.read-top.result top_is (omega arith) in
    let is = c.read-word.ensures.value ∙ ap (λ ws. word ws (trailing_zeros w64 c.read-top.result)) c.deref-2.ensures.value in (
      λ l. λ flag count inside tree.
          row_left flag count words tops (trailing_zeros w64 c.read-top.result) _ c.read-word.result c.with_bit-rest.result inside
          (bit_of_row flag count words tops (trailing_zeros w64 c.read-top.result) c.read-word.result c.requires.top told is tree) (row_of_two flag count words tops (trailing_zeros w64 c.read-top.result) c.requires.top told tree)
          (omega arith) is (row_is_set flag count words tops (trailing_zeros w64 c.read-top.result) c.read-word.result c.requires.top told is tree) (omega arith)
          c.with_bit-rest.ensures.here c.with_bit-rest.ensures.others tree,
      λ l. absurd (omega arith),
    )
