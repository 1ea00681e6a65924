-- Whether arguments fit a signature, place by place.
use Rattle.std.proofs.Common.{◌≡◌, ℕ, ◌+◌, ◌<◌, ◌≤◌, ◌++◌, ◌∷◌, [], List, length, take, map, get_or, sym, ap, ◌∙◌}
use Rattle.std.proofs.lemmas.List.{get_or-map, map_more, take_all}
use Rattle.wl_wire.specs.declared.argument.Argument.{Argument}
use Rattle.wl_wire.specs.declared.argument.ArgumentType.{ArgumentType}
use Rattle.wl_wire.specs.declared.argument.ArgumentType.TheVariants.{Int}
use Rattle.wl_wire.specs.Argument.{kind_of, type_of, Matches}
use Rattle.wl_wire.proofs.Spelling.MatchingLaws.{kind_of-type_of}

module _ {Id Fd : Type 0} (signature : List ArgumentType) (args : List (Argument Id Fd)) where
  -- one more place fits
  pub fits_more : (i : ℕ) (k : ArgumentType) (a : Argument Id Fd) → i < length signature → i < length args → k ≡ get_or signature i k → a ≡ get_or args i a
      → kind_of k ≡ kind_of (type_of a) → map kind_of (take i signature) ≡ map type_of (take i args)
      → map kind_of (take (i + 1) signature) ≡ map type_of (take (i + 1) args)
  fits_more i k a short also here there same so_far =
      let one : kind_of (get_or signature i k) ≡ type_of (get_or args i a) = sym (ap kind_of here) ∙ same ∙ kind_of-type_of a ∙ ap type_of there in
      map_more kind_of signature i k short ∙ ap (λ (xs : List ArgumentType). xs ++ kind_of (get_or signature i k) ∷ []) so_far ∙ ap (λ (x : ArgumentType). map type_of (take i args) ++ x ∷ []) one ∙ sym (map_more type_of args i a also)

  -- a place does not fit
  pub differs : (i : ℕ) (k : ArgumentType) (a : Argument Id Fd) → i < length signature → i < length args → k ≡ get_or signature i k → a ≡ get_or args i a
      → ¬ (kind_of k ≡ kind_of (type_of a)) → ¬ (Matches signature args)
  differs i k a short also here there unlike match =
      unlike (ap kind_of here ∙ sym (get_or-map kind_of signature i k Int short) ∙ ap (λ (xs : List ArgumentType). get_or xs i Int) match ∙ get_or-map type_of args i a Int also ∙ sym (ap type_of there) ∙ sym (kind_of-type_of a))

  -- all places fit
  pub all_fit : (i : ℕ) → length signature ≤ i → length args ≤ i → map kind_of (take i signature) ≡ map type_of (take i args) → Matches signature args
  all_fit i short also so_far =
      ap (map kind_of) (sym (take_all i signature short)) ∙ so_far ∙ ap (map type_of) (take_all i args also)
