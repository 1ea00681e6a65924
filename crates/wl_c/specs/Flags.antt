-- How C says yes and no.
use Rattle.std.specs.Prelude.{Bool, false, true, ℕ}

abbrev pub flag : Bool → ℕ
flag true = 1
flag false = 0
