-- Arguments that are handed out as flat structs and passed in again are the same.
use Rattle.std.proofs.Common.{◌≡◌, ℕ, ◌+◌, ◌^◌, ◌++◌, ◌<◌, true, List, [], ◌∷◌, Option, None, Some, length, replicate, refl, ap, arith, append_assoc, le-leb}
use Rattle.std.proofs.lemmas.List.{length-append}
use Rattle.std.proofs.Math.Seq.{drop-append_seam, take-append_seam}
use Rattle.std.proofs.lemmas.Bool.Decides.{nat_tests}
use Rattle.std.proofs.lemmas.Int.{of_z-to_z}
use Rattle.std.specs.Int.{w32}
use Rattle.std.specs.List.{AllByRecursion}
use Rattle.std.specs.Prelude.{nat_le}
use Rattle.wl_wire.specs.declared.argument.Argument.{Argument}
use Rattle.wl_wire.specs.declared.argument.Argument.TheVariants as arg
use Rattle.wl_wire.specs.declared.argument.Token.{Token}
use Rattle.wl_flat.specs.Arguments.{ComesBack, all_bytes, argument_of, arguments_of, before_others, bytes_of, descriptor_given, flat_argument, flat_arguments, moved, part_of, queue_after, told, with_token, zeros_behind_array, zeros_behind_string}
use Rattle.wl_flat.specs.Descriptors.{Descriptors, put_in, token_after}
use Rattle.wl_flat.specs.Flat.{count_number, flat_bytes}
use Rattle.wl_flat.specs.Kinds as kinds
use Rattle.wl_flat.specs.declared.flat.FlatObjectId.{FlatObjectId}

pub small_count : (n : ℕ) → n < 2 ^ 32 → count_number n ≡ n
small_count n h = grind (arith, nat_tests)

-- the part that stands there
part_there : (kind : ℕ) (before part behind : List ℕ) → length before + length part < 2 ^ 32
    → part_of (before ++ (part ++ behind)) (flat_bytes kind (count_number (length before)) (count_number (length part))) ≡ Some part
part_there kind before part behind h =
    let a = small_count (length before) (omega arith) in
    let b = small_count (length part) (omega arith) in
    let n = length-append before (part ++ behind) in
    let m = length-append part behind in
    let t : nat_le (length before + length part) (length (before ++ (part ++ behind))) ≡ true = le-leb (length before + length part) (length (before ++ (part ++ behind))) (omega arith) in
    let d = drop-append_seam before (part ++ behind) in
    let k = take-append_seam part behind in
    rw (a, b, t, d, k) refl

module _ {Id : Type 0} (flat : Id → FlatObjectId) (user_data : Id → ℕ) (stands_for : FlatObjectId → Id) where
  one_back : (t : Token) (q : Descriptors) (before behind : List ℕ) (a : Argument Id Token) → ComesBack flat stands_for a → length before + length (bytes_of a) < 2 ^ 32
      → argument_of stands_for (before ++ (bytes_of a ++ behind)) t (flat_argument flat user_data q (length before) a) ≡ Some (with_token t a)
  one_back t q before behind (arg.Int value) c h = refl
  one_back t q before behind (arg.Uint value) c h = ap (λ v. Some (arg.Uint v)) (of_z-to_z w32 value c)
  one_back t q before behind (arg.Fixed value) c h = refl
  one_back t q before behind (arg.Str None) c h = refl
  one_back t q before behind (arg.Str (Some text)) c h =
      let zeros : List ℕ = replicate {A = ℕ} (zeros_behind_string (length text)) 0 in
      let n = length-append text zeros in
      rw (append_assoc text zeros behind, part_there kinds.string before text (zeros ++ behind) (omega arith), c) refl
  one_back t q before behind (arg.Object id) c h = ap (λ i. Some (arg.Object i)) c
  one_back t q before behind (arg.NewId id) c h = ap (λ i. Some (arg.NewId i)) c
  one_back t q before behind (arg.Array bytes) c h =
      let zeros : List ℕ = replicate {A = ℕ} (zeros_behind_array (length bytes)) 0 in
      let n = length-append bytes zeros in
      rw (append_assoc bytes zeros behind, part_there kinds.array before bytes (zeros ++ behind) (omega arith)) refl
  one_back t q before behind (arg.Fd own) c h = refl

  told_given : (q : Descriptors) (at : ℕ) (a : Argument Id Token) → descriptor_given (flat_argument flat user_data q at a) ≡ told q a
  told_given q at (arg.Int value) = refl
  told_given q at (arg.Uint value) = refl
  told_given q at (arg.Fixed value) = refl
  told_given q at (arg.Str None) = refl
  told_given q at (arg.Str (Some text)) = refl
  told_given q at (arg.Object id) = refl
  told_given q at (arg.NewId id) = refl
  told_given q at (arg.Array bytes) = refl
  told_given q at (arg.Fd own) = refl

  both : (x : Option (Argument Id Token)) (y : Option (List (Argument Id Token))) (a : Argument Id Token) (others : List (Argument Id Token)) → x ≡ Some a → y ≡ Some others → before_others x y ≡ Some (a ∷ others)
  both x y a others e f = rw (e, f) refl

  back_from : (q r : Descriptors) (before : List ℕ) (args : List (Argument Id Token)) → AllByRecursion (ComesBack flat stands_for) args → length before + length (all_bytes args) < 2 ^ 32
      → arguments_of stands_for (before ++ all_bytes args) r (flat_arguments flat user_data q (length before) args) ≡ Some (moved q r args)
  back_from q r before [] c h = refl
  back_from q r before (a ∷ args) c h =
      let n = length-append (bytes_of a) (all_bytes args) in
      let o = one_back (token_after r (length r.held)) q before (all_bytes args) a c.0 (omega arith) in
      let l = length-append before (bytes_of a) in
      let i = back_from (queue_after q a) (put_in r (told q a)) (before ++ bytes_of a) args c.1 (omega arith) in
      let s = append_assoc before (bytes_of a) (all_bytes args) in
      let w : arguments_of stands_for (before ++ (bytes_of a ++ all_bytes args)) (put_in r (descriptor_given (flat_argument flat user_data q (length before) a))) (flat_arguments flat user_data (queue_after q a) (length before + length (bytes_of a)) args) ≡ Some (moved (queue_after q a) (put_in r (told q a)) args) =
      rw (told_given q (length before) a, ← l, ← s) i in
      both _ _ _ _ o w

  pub comes_back : (q r : Descriptors) (args : List (Argument Id Token)) → AllByRecursion (ComesBack flat stands_for) args → length (all_bytes args) < 2 ^ 32
      → arguments_of stands_for (all_bytes args) r (flat_arguments flat user_data q 0 args) ≡ Some (moved q r args)
  comes_back q r args c h = back_from q r [] args c (omega arith)
