use Rattle.std.proofs.Common.{◌≡◌, ◌≤◌, ◌+◌, false, length, drop, option_map}
use Rattle.wl_flat.specs.Signatures.{arguments_said}
use Rattle.wl_flat.proofs.signatures.count_arguments.Given as goal

-- the letters that are left say what comes behind the arguments that were counted
abbrev pub invariant-loop-letter : goal.invariant-loop-letter
invariant-loop-letter l = record {
  said : option_map length (arguments_said false l.letters) ≡ option_map (λ rows. l.count + length rows) (arguments_said l.is_nullable (drop l.letter-index l.letters));
  fewer : l.count ≤ l.letter-index;
}
