-- What becomes of a number whose object was taken out.
use Rattle.std.specs.Prelude.{◌≡◌, ℕ, ◌<◌, ◌⊎◌, true}
use Rattle.wl_link.specs.Store.{Store, first_unused, is_free}

-- Nothing was taken out; or the number is free, and was in use before, so that to give it to another object takes no memory.
abbrev pub StaysOrIsFree : Store (Unit {0}) → ℕ → Store (Unit {0}) → Type 0
StaysOrIsFree objects number objects' =
    (objects' ≡ objects) ⊎ ((is_free objects' number ≡ true) × (number < first_unused objects' number))
