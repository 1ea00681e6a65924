-- A number whose object was taken out is free.
use Rattle.std.proofs.Common.{◌≡◌, ℕ, ◌<◌, true, refl, arith}
use Rattle.std.proofs.lemmas.Bool.{lt-ltb, le-leb}
use Rattle.wl_link.specs.Store.{Store, first_unused, is_free, removed}
use Rattle.wl_link.proofs.Ids.StoreLaws.{removed_here}
use Rattle.wl_client.specs.declared.objects.Kept.{Kept}

pub free_again : {U : Type 0} (store : Store (Kept U)) (n : ℕ) → 0 < n → n < first_unused store n → is_free (removed store n) n ≡ true
free_again store n positive used =
    rw (removed_here store n n refl, lt-ltb 0 n positive, le-leb n (first_unused store n) (omega (arith, used))) refl
