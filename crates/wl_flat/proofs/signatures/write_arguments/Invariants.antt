use Rattle.std.proofs.Common.{◌≡◌, ◌≤◌, List, Some, false, length, take, drop}
use Rattle.wl_flat.specs.Flat.{over_front}
use Rattle.wl_flat.specs.Signatures.{arguments_said}
use Rattle.wl_flat.specs.declared.rows.ArgumentRow.{ArgumentRow}
use Rattle.wl_flat.proofs.signatures.write_arguments.Given as goal

-- If the letters say these rows, and there is room: those that are written stand in front, and the letters that are left say the others.
abbrev pub invariant-loop-letter : goal.invariant-loop-letter
invariant-loop-letter l = (rows : List ArgumentRow) → arguments_said false l.letters ≡ Some rows → length rows ≤ length l.initial.arguments → record {
  said : arguments_said l.is_nullable (drop l.letter-index l.letters) ≡ Some (drop l.place rows);
  within : l.place ≤ length rows;
  written : l.arguments ≡ over_front (take l.place rows) l.initial.arguments;
}
