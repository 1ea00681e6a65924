-- Arguments that are written to lent memory, and read from flat structs.
use Rattle.std.proofs.Common.{◌≡◌, ℕ, ◌+◌, ◌-◌, ◌++◌, ◌<◌, ◌≤◌, ℤ, List, [], ◌∷◌, Option, None, Some, true, false, length, take, drop, refl, ap, sym, ◌∙◌, arith, append-nil, append_assoc, inl, inr, Result, Ok, Err, subst}
use Rattle.std.proofs.lemmas.Bool.{eqb-true, false_from_ne_true}
use Rattle.std.proofs.lemmas.List.{drop-drop, drop-set-lt, length-append, length-take-le, take-append-drop, take-append-le, take_more_set}
use Rattle.std.proofs.lemmas.Map.Views.{Contains-from_any}
use Rattle.std.proofs.Math.ListN.{set}
use Rattle.std.proofs.Math.Seq.{take-length}
use Rattle.smallvec.specs.SmallVec.{HasRoomFor, SmallVec}
use Rattle.std.specs.List.{Contains}
use Rattle.std.specs.Option.{option_map}
use Rattle.std.specs.Result.{IfErr, IsErrAnd}
use Rattle.wl_wire.specs.declared.argument.Argument.{Argument}
use Rattle.wl_wire.specs.declared.argument.Token.{Token}
use Rattle.wl_flat.proofs.Queues.{front_of, rest_of}
use Rattle.wl_flat.specs.Arguments.{all_bytes, argument_of, arguments_of, before_others, bytes_of, descriptor_given, descriptors_given, flat_argument, flat_arguments, has_zero, IsUnread, queue_after, queue_after_all, written_at}
use Rattle.wl_flat.specs.Descriptors.{Descriptors, IsLonger, put_in, token_after}
use Rattle.wl_flat.specs.Flat.{over_front}
use Rattle.wl_flat.specs.declared.flat.FlatArgument.{FlatArgument}
use Rattle.wl_flat.specs.declared.flat.FlatObjectId.{FlatObjectId}
use Rattle.wl_flat.specs.declared.status.Status.{Status}

-- ---- lent memory

pub written_nothing : (at : ℕ) (memory : List ℕ) → memory ≡ written_at at [] memory
written_nothing at memory =
    let a = append-nil (take at memory) in
    let t = take-append-drop at memory in
    let z : at + 0 ≡ at = omega arith in
    rw (a, z) (sym t)

module _ {A : Type 0} where
  -- one item more was written behind those that were written before
  pub front_more : (xs : List A) (n : ℕ) (y : A) (rest all : List A) → n < length xs → take n xs ++ y ∷ rest ≡ all → take (n + 1) (set xs n y) ++ rest ≡ all
  front_more xs n y rest all h e =
      let t = take_more_set xs n y h in
      let a = append_assoc (take n xs) (y ∷ []) rest in cc

  pub behind_more : (xs old : List A) (n : ℕ) (y : A) → drop n xs ≡ drop n old → drop (n + 1) (set xs n y) ≡ drop (n + 1) old
  behind_more xs old n y e =
      let s = drop-set-lt (n + 1) xs n y (omega arith) in
      let a = drop-drop 1 n xs in
      let b = drop-drop 1 n old in
      let e' : drop 1 (drop n xs) ≡ drop 1 (drop n old) = ap (drop 1) e in cc

  -- all was written
  pub front_whole : (xs old all : List A) (n : ℕ) → n ≤ length xs → take n xs ++ [] ≡ all → drop n xs ≡ drop n old → xs ≡ over_front all old
  front_whole xs old all n h e f =
      let t = take-append-drop n xs in
      let a : take n xs ≡ all = sym (append-nil (take n xs)) ∙ e in
      let l : length all ≡ n = sym (ap length a) ∙ length-take-le n xs h in
      let d : drop (length all) old ≡ drop n old = ap (λ k. drop k old) l in cc

-- a part was written behind what was written before
pub part_more : (at : ℕ) (part memory rest all : List ℕ) → at + length part ≤ length memory → take at memory ++ (part ++ rest) ≡ all → take (at + length part) (written_at at part memory) ++ rest ≡ all
part_more at part memory rest all h e =
    let l : length (take at memory ++ part) ≡ at + length part = length-append (take at memory) part ∙ ap (λ k. k + length part) (length-take-le at memory (omega arith)) in
    let t = front_of (at + length part) (take at memory ++ part) (drop (at + length part) memory) l in
    let a = append_assoc (take at memory) part rest in cc

-- what is written behind a part is written with it
pub written_behind : (at : ℕ) (part more memory : List ℕ) → at + length (part ++ more) ≤ length memory
    → written_at (at + length part) more (written_at at part memory) ≡ written_at at (part ++ more) memory
written_behind at part more memory h =
    let n = length-append part more in
    let k : at + length part ≤ length memory = omega arith in
    let front = take at memory ++ part in
    let behind = drop (at + length part) memory in
    let l : length front ≡ at + length part = length-append (take at memory) part ∙ ap (λ k. k + length part) (length-take-le at memory (omega arith)) in
    let a = append_assoc (take at memory) part behind in
    let f = front_of (at + length part) front behind l in
    let b = append_assoc front more (drop (at + length part + length more) memory) in
    let c = append_assoc (take at memory) part more in
    let d = drop-drop (length more) (at + length part) (front ++ behind) in
    let r = rest_of (at + length part) front behind l in
    let e = drop-drop (length more) (at + length part) memory in
    let g = append_assoc (take at memory) (part ++ more) (drop (at + length part + length more) memory) in
    let s : at + length (part ++ more) ≡ at + length part + length more = omega arith in
    cc

pub part_behind : (at : ℕ) (part memory old : List ℕ) → at + length part ≤ length memory → drop at memory ≡ drop at old → drop (at + length part) (written_at at part memory) ≡ drop (at + length part) old
part_behind at part memory old h e =
    let l : length (take at memory ++ part) ≡ at + length part = length-append (take at memory) part ∙ ap (λ k. k + length part) (length-take-le at memory (omega arith)) in
    let t = rest_of (at + length part) (take at memory ++ part) (drop (at + length part) memory) l in
    let a = drop-drop (length part) at memory in
    let b = drop-drop (length part) at old in
    let e' : drop (length part) (drop at memory) ≡ drop (length part) (drop at old) = ap (drop (length part)) e in cc

-- ---- the steps of writing

module _ {Id : Type 0} (flat : Id → FlatObjectId) (user_data : Id → ℕ) where
  pub argument_more : (xs : List FlatArgument) (n : ℕ) (y : FlatArgument) (q r : Descriptors) (at bt : ℕ) (args rest : List (Argument Id Token)) (a : Argument Id Token) (all : List FlatArgument)
      → n < length xs → args ≡ a ∷ rest → y ≡ flat_argument flat user_data q at a → r ≡ queue_after q a → bt ≡ at + length (bytes_of a)
      → take n xs ++ flat_arguments flat user_data q at args ≡ all → take (n + 1) (set xs n y) ++ flat_arguments flat user_data r bt rest ≡ all
  argument_more xs n y q r at bt args rest a all h d e f b w =
      rw (e, f, b) (front_more xs n (flat_argument flat user_data q at a) (flat_arguments flat user_data (queue_after q a) (at + length (bytes_of a)) rest) all h (rw d at w))

module _ {Id : Type 0} where
  pub bytes_more : (at bt : ℕ) (memory new : List ℕ) (args rest : List (Argument Id Token)) (a : Argument Id Token) (all : List ℕ)
      → at + length (bytes_of a) ≤ length memory → args ≡ a ∷ rest → new ≡ written_at at (bytes_of a) memory → bt ≡ at + length (bytes_of a)
      → take at memory ++ all_bytes args ≡ all → take bt new ++ all_bytes rest ≡ all
  bytes_more at bt memory new args rest a all h d e b w =
      rw (e, b) (part_more at (bytes_of a) memory (all_bytes rest) all h (rw d at w))

  pub bytes_behind : (at bt : ℕ) (memory new old : List ℕ) (a : Argument Id Token)
      → at + length (bytes_of a) ≤ length memory → new ≡ written_at at (bytes_of a) memory → bt ≡ at + length (bytes_of a)
      → drop at memory ≡ drop at old → drop bt new ≡ drop bt old
  bytes_behind at bt memory new old a h e b w = rw (e, b) (part_behind at (bytes_of a) memory old h w)

  -- how much room is left
  pub length_more : (args rest : List (Argument Id Token)) (a : Argument Id Token) → args ≡ a ∷ rest → length (all_bytes args) ≡ length (bytes_of a) + length (all_bytes rest)
  length_more args rest a d = rw d (length-append (bytes_of a) (all_bytes rest))

  pub queue_more : (q r all : Descriptors) (args rest : List (Argument Id Token)) (a : Argument Id Token) → args ≡ a ∷ rest → r ≡ queue_after q a
      → queue_after_all q args ≡ all → queue_after_all r rest ≡ all
  queue_more q r all args rest a d f w = rw f (rw d at w)

-- ---- what an error was made of

pub err_is : {T E : Type 0} (r : Result T E) (P : E → Type 0) (e : E) → IsErrAnd r (λ s. s ≡ e) → P e → IfErr r P
err_is (Ok x) P e h p = tt
err_is (Err s) P e h p = subst P (sym h) p

-- ---- strings

pub no_zero : (bytes : List ℕ) → (Contains bytes 0 → false ≡ true) → has_zero bytes ≡ false
no_zero bytes h = false_from_ne_true (has_zero bytes) (λ e. let k = h (Contains-from_any eqb-true 0 bytes e) in cc)

-- ---- the steps of reading

pub put_nothing : (q : Descriptors) → q ≡ put_in q []
put_nothing q = ap (λ (xs : List ℤ). record q { held = xs }) (sym (append-nil q.held))

pub put_both : (q : Descriptors) (xs ys : List ℤ) → put_in (put_in q xs) ys ≡ put_in q (xs ++ ys)
put_both q xs ys = ap (λ (zs : List ℤ). record q { held = zs }) (append_assoc q.held xs ys)

pub longer_put : (q r : Descriptors) (xs : List ℤ) → IsLonger q r → IsLonger q (put_in r xs)
longer_put q r xs h = record {
  passed = h.passed;
  front = h.front;
  held = take-append-le (length q.held) r.held xs h.more ∙ h.held;
  more = let m = h.more in omega (arith, length-append r.held xs);
}

pub longer_same : (q : Descriptors) → IsLonger q q
longer_same q = record { passed = refl; front = refl; held = take-length q.held; more = omega arith }

-- what was put in is taken back
pub taken_back : (q r : Descriptors) → IsLonger q r → record r { held = take (length r.held - (length r.held - length q.held)) r.held } ≡ q
taken_back q r h =
    let m = h.more in
    let n : length r.held - (length r.held - length q.held) ≡ length q.held = omega arith in
    rw (n, h.passed, h.front, h.held)

module _ {Id : Type 0} where
  pub pushed : (xs : List (Argument Id Token)) (a : Argument Id Token) (others : Option (List (Argument Id Token))) → option_map (λ ys. (xs ++ a ∷ []) ++ ys) others ≡ option_map (λ ys. xs ++ ys) (before_others (Some a) others)
  pushed xs a None = refl
  pushed xs a (Some ys) = ap Some (append_assoc xs (a ∷ []) ys)

pub room_more : {T : Type 0} (v w : SmallVec T) (a : T) (xs ys : List FlatArgument) (x : FlatArgument) → HasRoomFor v (length xs) → xs ≡ x ∷ ys → w.items ≡ v.items ++ a ∷ [] → w.capacity ≡ v.capacity → HasRoomFor w (length ys)
room_more v w a xs ys x h d e c =
    let l = ap length e ∙ length-append v.items (a ∷ []) in
    let m = ap length d in omega arith

module _ {Id : Type 0} (stands_for : FlatObjectId → Id) (bytes : List ℕ) where
  -- one argument more was read
  pub read_more : (q r : Descriptors) (xs : List (Argument Id Token)) (x : FlatArgument) (a : Argument Id Token) (args rest : List FlatArgument) (all : Option (List (Argument Id Token)))
      → args ≡ x ∷ rest → argument_of stands_for bytes (token_after q (length q.held)) x ≡ Some a → r ≡ put_in q (descriptor_given x)
      → option_map (λ others. xs ++ others) (arguments_of stands_for bytes q args) ≡ all
      → option_map (λ others. (xs ++ a ∷ []) ++ others) (arguments_of stands_for bytes r rest) ≡ all
  read_more q r xs x a args rest all d e f w =
      rw f (pushed xs a (arguments_of stands_for bytes (put_in q (descriptor_given x)) rest) ∙ (rw (d, e) at w))

  -- one cannot be read, so not all can
  pub unread : (q : Descriptors) (xs : List (Argument Id Token)) (x : FlatArgument) (args rest : List FlatArgument) (all : Option (List (Argument Id Token))) (s : Status)
      → args ≡ x ∷ rest → IsUnread s (argument_of stands_for bytes (token_after q (length q.held)) x)
      → option_map (λ others. xs ++ others) (arguments_of stands_for bytes q args) ≡ all → IsUnread s all
  unread q xs x args rest all s d u w =
      elim u [ inl h ↦ inl (h.0, sym (rw (d, h.1) at w)) | inr h ↦ inr h ]

pub put_more : (q r all : Descriptors) (x : FlatArgument) (args rest : List FlatArgument) → args ≡ x ∷ rest → r ≡ put_in q (descriptor_given x)
    → put_in q (descriptors_given args) ≡ all → put_in r (descriptors_given rest) ≡ all
put_more q r all x args rest d f w = rw f (put_both q (descriptor_given x) (descriptors_given rest) ∙ (rw d at w))
