-- Strings and arrays that are handed out are read where they are.
use Rattle.std.proofs.Common.{◌≡◌, ℕ, ◌+◌, ◌%◌, ◌^◌, ◌++◌, ◌<◌, List, [], ◌∷◌, None, Some, length, replicate, refl, subst, arith, append_assoc}
use Rattle.std.proofs.lemmas.List.{get_or-append-add, get_or-replicate, get_or_append_left, length-append, length-replicate}
use Rattle.std.proofs.lemmas.Option.{slice_get-get_or}
use Rattle.std.specs.List.{AllByRecursion}
use Rattle.std.specs.Prelude.{slice_get}
use Rattle.wl_wire.specs.declared.argument.Argument.{Argument}
use Rattle.wl_wire.specs.declared.argument.Argument.TheVariants as arg
use Rattle.wl_wire.specs.declared.argument.Token.{Token}
use Rattle.wl_flat.specs.Arguments.{IsReadInPlace, all_bytes, bytes_of, flat_argument, flat_arguments, queue_after, zeros_behind_array, zeros_behind_string}
use Rattle.wl_flat.specs.Descriptors.{Descriptors}
use Rattle.wl_flat.specs.declared.flat.FlatObjectId.{FlatObjectId}
use Rattle.wl_flat.proofs.ComingBack.{small_count}

length_zeros : (n : ℕ) → length (replicate {A = ℕ} n 0) ≡ n
length_zeros n = length-replicate n 0

-- a zero follows the string
zero_there : (before text behind : List ℕ) → slice_get (before ++ ((text ++ replicate (zeros_behind_string (length text)) 0) ++ behind)) (length before + length text) ≡ Some 0
zero_there before text behind =
    let zeros : List ℕ = replicate {A = ℕ} (zeros_behind_string (length text)) 0 in
    let part : List ℕ = (text ++ zeros) ++ behind in
    let z : length zeros ≡ zeros_behind_string (length text) = length_zeros (zeros_behind_string (length text)) in
    let n : length (before ++ part) ≡ length before + length part = length-append before part in
    let m : length part ≡ length (text ++ zeros) + length behind = length-append (text ++ zeros) behind in
    let k : length (text ++ zeros) ≡ length text + length zeros = length-append text zeros in
    let p : 0 < zeros_behind_string (length text) = omega arith in
    let p' : 0 < length zeros = omega arith in
    let h : length before + length text < length (before ++ part) = omega arith in
    let a = get_or-append-add before part (length text) 0 in
    let b = append_assoc text zeros behind in
    let e : length text + 0 ≡ length text = omega arith in
    let c = get_or-append-add text (zeros ++ behind) 0 0 in
    let d = get_or_append_left zeros behind 0 0 p' in
    let f = get_or-replicate {A = ℕ} (zeros_behind_string (length text)) 0 0 0 p in
    let g = slice_get-get_or (before ++ part) (length before + length text) 0 h in
    cc

-- the length of each part is a multiple of eight
whole_eights : {Id : Type 0} (a : Argument Id Token) → length (bytes_of a) % 8 ≡ 0
whole_eights (arg.Str (Some text)) =
    let n = length-append text (replicate {A = ℕ} (zeros_behind_string (length text)) 0) in
    let z = length_zeros (zeros_behind_string (length text)) in omega arith
whole_eights (arg.Array bytes) =
    let n = length-append bytes (replicate {A = ℕ} (zeros_behind_array (length bytes)) 0) in
    let z = length_zeros (zeros_behind_array (length bytes)) in omega arith
whole_eights (arg.Str None) = refl
whole_eights (arg.Int value) = refl
whole_eights (arg.Uint value) = refl
whole_eights (arg.Fixed value) = refl
whole_eights (arg.Object id) = refl
whole_eights (arg.NewId id) = refl
whole_eights (arg.Fd t) = refl

module _ {Id : Type 0} (flat : Id → FlatObjectId) (user_data : Id → ℕ) where
  one_in_place : (q : Descriptors) (before behind : List ℕ) (a : Argument Id Token) → length before % 8 ≡ 0 → length before + length (bytes_of a) < 2 ^ 32
      → IsReadInPlace (before ++ (bytes_of a ++ behind)) (flat_argument flat user_data q (length before) a)
  one_in_place q before behind (arg.Str (Some text)) e h =
      let n = length-append text (replicate {A = ℕ} (zeros_behind_string (length text)) 0) in
      let s = small_count (length before) (omega arith) in
      let t = small_count (length text) (omega arith) in
      record { string = λ _. rw (s, t) (e, zero_there before text behind); array = λ k. absurd (cc) }
  one_in_place q before behind (arg.Array bytes) e h =
      let s = small_count (length before) (omega arith) in
      record { string = λ k. absurd (cc); array = λ _. rw s e }
  one_in_place q before behind (arg.Str None) e h = record { string = λ k. absurd (cc); array = λ k. absurd (cc) }
  one_in_place q before behind (arg.Int value) e h = record { string = λ k. absurd (cc); array = λ k. absurd (cc) }
  one_in_place q before behind (arg.Uint value) e h = record { string = λ k. absurd (cc); array = λ k. absurd (cc) }
  one_in_place q before behind (arg.Fixed value) e h = record { string = λ k. absurd (cc); array = λ k. absurd (cc) }
  one_in_place q before behind (arg.Object id) e h = record { string = λ k. absurd (cc); array = λ k. absurd (cc) }
  one_in_place q before behind (arg.NewId id) e h = record { string = λ k. absurd (cc); array = λ k. absurd (cc) }
  one_in_place q before behind (arg.Fd t) e h = record { string = λ k. absurd (cc); array = λ k. absurd (cc) }

  in_place_from : (q : Descriptors) (before : List ℕ) (args : List (Argument Id Token)) → length before % 8 ≡ 0 → length before + length (all_bytes args) < 2 ^ 32
      → AllByRecursion (IsReadInPlace (before ++ all_bytes args)) (flat_arguments flat user_data q (length before) args)
  in_place_from q before [] e h = tt
  in_place_from q before (a ∷ args) e h =
      let n = length-append (bytes_of a) (all_bytes args) in
      let l = length-append before (bytes_of a) in
      let w = whole_eights a in
      let i = in_place_from (queue_after q a) (before ++ bytes_of a) args (omega arith) (omega arith) in
      let s = append_assoc before (bytes_of a) (all_bytes args) in
      let behind = λ (all : List ℕ) (at : ℕ). AllByRecursion (IsReadInPlace all) (flat_arguments flat user_data (queue_after q a) at args) in
      let j : behind ((before ++ bytes_of a) ++ all_bytes args) (length before + length (bytes_of a)) =
      subst (λ (at : ℕ). behind ((before ++ bytes_of a) ++ all_bytes args) at) l i in
      (one_in_place q before (all_bytes args) a e (omega arith), subst (λ (all : List ℕ). behind all (length before + length (bytes_of a))) s j)

  pub in_place : (q : Descriptors) (args : List (Argument Id Token)) → length (all_bytes args) < 2 ^ 32
      → AllByRecursion (IsReadInPlace (all_bytes args)) (flat_arguments flat user_data q 0 args)
  in_place q args h = in_place_from q [] args refl (omega arith)
