use Rattle.std.proofs.Common.{◌≡◌, ◌+◌, ◌∷◌, ◌==◌, ◌&&◌, not, false, Some, get_or, drop, drop-cons, add-one, arith}
use Rattle.std.proofs.lemmas.Grind.{common_steps}
use Rattle.wl_flat.specs.Signatures.{kind_of, row_of}
use Rattle.wl_flat.proofs.RowsOfSignatures.{all_taken, over_front-next, next_row, no_row}
use Rattle.wl_flat.proofs.signatures.write_arguments.Goals as goal
use Rattle.wl_flat.proofs.signatures.write_arguments.Goals.{then-letter-eq63+then-not-is_nullable, else-letter-eq63+in-Some+then-place-arguments, else-letter-eq63+in_default, in_default-via-in-None-1, in_default-via-in-Some+else-place-arguments}

pub loop-letter-preserved : goal.loop-letter-preserved
loop-letter-preserved c = λ rows said room.
    let before = c.loop-letter.invariant rows said room in
    let letter = get_or c.args.letters.now c.loop-letter.letter-index 0 in
    let others = drop (c.loop-letter.letter-index + 1) c.args.letters.now in
    let at : drop c.loop-letter.letter-index c.args.letters.now ≡ letter ∷ others = rw add-one (drop-cons c.args.letters.now c.loop-letter.letter-index 0 c.loop-letter-test.true) in
    elim c.if-letter-eq63.branch [
      | then-letter-eq63+then-not-is_nullable w ↦ grind (arith, common_steps, before)
      | else-letter-eq63+in-Some+then-place-arguments w ↦
          let is_letter : (letter == 63 && not c.loop-letter.is_nullable) ≡ false = grind (arith, common_steps) in
          let kind : kind_of letter ≡ Some w.in-Some.kind = grind (arith, common_steps) in
          let next = next_row rows c.loop-letter.place w.in-Some.kind letter c.loop-letter.is_nullable others (grind (arith, at, before.said)) is_letter kind in
          let written = over_front-next rows c.args.arguments.now (drop (c.loop-letter.place + 1) rows) c.loop-letter.place (row_of c.loop-letter.is_nullable w.in-Some.kind) next.row room in
          record {
            said = grind (arith, common_steps, next.others);
            within = grind (arith, common_steps, next.row, before.within);
            written = grind (arith, before.written, written, w.arguments-is, w.place-is);
          }
      | else-letter-eq63+in_default w ↦
          let is_letter : (letter == 63 && not c.loop-letter.is_nullable) ≡ false = grind (arith, common_steps) in
          elim w.in_default.branch [
            | in_default-via-in-None-1 w' ↦ grind (arith, common_steps, before, at, is_letter, no_row)
            | in_default-via-in-Some+else-place-arguments w' ↦ grind (arith, common_steps, before, at, is_letter, next_row)
          ]
    ]

pub returns : goal.returns
returns c = λ rows said room.
    let before = c.loop-letter.invariant rows said room in
    grind (arith, common_steps, before, all_taken rows c.loop-letter.place)
