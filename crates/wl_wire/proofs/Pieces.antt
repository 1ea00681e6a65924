-- How long the pieces of arguments are, and how one is written behind another.
use Rattle.std.proofs.Common.{◌≡◌, ℕ, zero, suc, ◌+◌, ◌*◌, ◌-◌, ◌≤◌, ◌<◌, List, [], ◌∷◌, ◌++◌, length, get_or, map, take, drop, replicate, Some, None, refl, sym, ap, subst, ◌∙◌, append_assoc, arith, length-append, add-zero, zero-add}
use Rattle.std.proofs.lemmas.List.{nil_from_length, length-map, get_or-map, append-nil, length-replicate, replicate-append-replicate, take_more, length-take-le, length-drop, take_at, drop_at, drop-drop, take-append-drop, take-append-le, take-take, drop-append-le, drop-replicate, take-map}
use Rattle.std.proofs.Math.Seq.{take-append-add}
use Rattle.std.proofs.lemmas.Grind.{flat_map-append}
use Rattle.std.proofs.lemmas.List.Folds.{length-flat_map-take}
use Rattle.std.proofs.lemmas.List.Sums.{sum_by-cons, sum_by_push}
use Rattle.std.specs.List.{AllByRecursion, flat_map, sum_by}
use Rattle.wl_wire.specs.declared.argument.Argument.{Argument}
use Rattle.wl_wire.specs.declared.argument.Argument.TheVariants as arg
use Rattle.wl_wire.specs.declared.argument.Token.{Token}
use Rattle.wl_wire.specs.declared.message.Message.{Message}
use Rattle.wl_wire.specs.Argument.{WireArgument}
use Rattle.wl_wire.specs.MapIds.{numbered, with_ids}
use Rattle.wl_wire.specs.Message.{content, word, pad_len, counted, piece, pieces, size, token, tokens}
use Rattle.wl_wire.specs.Inside.Buffer.{overwritten, counted_len, piece_len, bytes_of, token_of, tokens_of}
use Rattle.wl_wire.proofs.Spelling.RoundTrip.{length-word}

word-zero : word 0 ≡ replicate 4 0
unfolding word
word-zero = refl

pub length-counted : (bytes : List ℕ) → length (counted bytes) ≡ counted_len (length bytes)
length-counted bytes =
    omega (arith, length-append (word (length bytes)) (bytes ++ replicate (pad_len (length bytes)) 0), length-append (word (length bytes) ++ bytes) (replicate (pad_len (length bytes)) 0), length-append (word (length bytes)) bytes, length-word (length bytes), length-replicate {A = ℕ} (pad_len (length bytes)) 0)

length-piece : (a : WireArgument) → length (piece a) ≡ piece_len a
unfolding piece
length-piece (arg.Int z) = length-word _
length-piece (arg.Uint n) = length-word n
length-piece (arg.Fixed z) = length-word _
length-piece (arg.Str None) = length-word 0
length-piece (arg.Str (Some text)) = length-counted (text ++ 0 ∷ []) ∙ ap counted_len (length-append text (0 ∷ []))
length-piece (arg.Object n) = length-word n
length-piece (arg.NewId n) = length-word n
length-piece (arg.Array bytes) = length-counted bytes
length-piece (arg.Fd t) = refl

-- ---- whatever the numbers of the ids are

module _ {Id : Type 0} (object_number new_number : Id → ℕ) where
  piece_len-with_ids : (a : Argument Id Token) → piece_len (with_ids object_number new_number a) ≡ piece_len a
  piece_len-with_ids (arg.Fd t) = refl
  piece_len-with_ids _ = refl

  token-with_ids : (a : Argument Id Token) → token (with_ids object_number new_number a) ≡ token_of a
  token-with_ids (arg.Fd t) = refl
  token-with_ids _ = refl

  pub length-piece-with_ids : (a : Argument Id Token) → length (piece (with_ids object_number new_number a)) ≡ piece_len a
  length-piece-with_ids a = length-piece (with_ids object_number new_number a) ∙ piece_len-with_ids a

  pub length_pieces : (args : List (Argument Id Token)) → length (pieces (map (with_ids object_number new_number) args)) ≡ sum_by piece_len args
  length_pieces [] = refl
  length_pieces (a ∷ args) =
      omega (arith, length-append (piece (with_ids object_number new_number a)) (pieces (map (with_ids object_number new_number) args)), length-piece-with_ids a, length_pieces args, sum_by-cons piece_len a args)

  pub length-pieces-front : (args : List (Argument Id Token)) (i : ℕ) → length (pieces (take i (map (with_ids object_number new_number) args))) ≡ sum_by piece_len (take i args)
  length-pieces-front args i = ap (λ (xs : List WireArgument). length (pieces xs)) (take-map (with_ids object_number new_number) i args) ∙ length_pieces (take i args)

  pub tokens-with_ids : (args : List (Argument Id Token)) → tokens (map (with_ids object_number new_number) args) ≡ tokens_of args
  tokens-with_ids [] = refl
  tokens-with_ids (a ∷ args) = rw (token-with_ids a, tokens-with_ids args) refl

  -- so a message takes what its arguments take, and has their tokens
  module _ (m : Message Id Token) (args : List (Argument Id Token)) (same : args ≡ m.args.items) where
    pub size-numbered : size (numbered object_number new_number m) ≡ bytes_of args
    size-numbered = ap (λ n. 8 + n) (length_pieces m.args.items) ∙ ap bytes_of (sym same)

    pub tokens-numbered : tokens (numbered object_number new_number m).args ≡ tokens_of args
    tokens-numbered = tokens-with_ids m.args.items ∙ ap tokens_of (sym same)

-- an argument has one token at most
pub token_of-few : {Id : Type 0} (a : Argument Id Token) → length (token_of a) ≤ 1
token_of-few (arg.Fd t) = omega arith
token_of-few _ = omega arith

own_argument : (a : WireArgument) → with_ids (λ n. n) (λ n. n) a ≡ a
own_argument (arg.Fd t) = refl
own_argument _ = refl

own_arguments : (args : List WireArgument) → map (with_ids (λ n. n) (λ n. n)) args ≡ args
own_arguments [] = refl
own_arguments (a ∷ args) = rw (own_argument a, own_arguments args) refl

-- where each number is its own
pub own_numbers : (m : Message ℕ Token) → numbered (λ n. n) (λ n. n) m ≡ content m
own_numbers m = ap (λ args. record { sender = m.sender_id; opcode = m.opcode; args = args }) (own_arguments m.args.items)

-- ---- one more of what is added up

pub sum_by-more : {A : Type 0} (f : A → ℕ) (args : List A) (i : ℕ) (a : A) → i < length args → a ≡ get_or args i a → sum_by f (take (i + 1) args) ≡ sum_by f (take i args) + f a
sum_by-more f args i a lt is =
    ap (sum_by f) (take_more args i a lt ∙ ap (λ x. take i args ++ x ∷ []) (sym is)) ∙ sum_by_push f (take i args) a

module _ {A B : Type 0} (f : A → List B) (args : List A) (i : ℕ) (a : A) (lt : i < length args) (is : a ≡ get_or args i a) where
  pub flat_map-more : flat_map f (take (i + 1) args) ≡ flat_map f (take i args) ++ f a
  flat_map-more =
      ap (flat_map f) (take_more args i a lt ∙ ap (λ x. take i args ++ x ∷ []) (sym is))
      ∙ flat_map-append f (take i args) (a ∷ []) ∙ ap (λ (p : List B). flat_map f (take i args) ++ p) (append-nil (f a))

  pub length-flat_map-more : length (flat_map f (take (i + 1) args)) ≡ length (flat_map f (take i args)) + length (f a)
  length-flat_map-more = ap length flat_map-more ∙ length-append (flat_map f (take i args)) (f a)

  pub length-flat_map-front : length (flat_map f (take i args)) + length (f a) ≤ length (flat_map f args)
  length-flat_map-front =
      subst (λ (x : A). length (flat_map f (take i args)) + length (f x) ≤ length (flat_map f args)) (sym is) (length-flat_map-take f args i a lt)

-- the argument that is looked at, with numbers for its ids
pub got_with_ids : {Id : Type 0} (object_number new_number : Id → ℕ) (args : List (Argument Id Token)) (i : ℕ) (a : Argument Id Token) → i < length args → a ≡ get_or args i a
    → (i < length (map (with_ids object_number new_number) args))
    × (with_ids object_number new_number a ≡ get_or (map (with_ids object_number new_number) args) i (with_ids object_number new_number a))
got_with_ids f g args i a lt is =
    (rw (length-map args (with_ids f g)) lt, ap (with_ids f g) is ∙ sym (get_or-map (with_ids f g) args i a (with_ids f g a) lt))

-- ---- the pieces of a message, one after another

-- one more argument
pub pieces-more : (args : List WireArgument) (i : ℕ) (a : WireArgument) → i < length args → a ≡ get_or args i a → pieces (take (i + 1) args) ≡ pieces (take i args) ++ piece a
pieces-more = flat_map-more piece

-- so much of all the pieces is written behind an argument
pub length-pieces-more : (args : List WireArgument) (i : ℕ) (a : WireArgument) → i < length args → a ≡ get_or args i a → length (pieces (take i args)) + length (piece a) ≤ length (pieces args)
length-pieces-more = length-flat_map-front piece

module _ {A : Type 0} (P : A → Type 0) where
  all_behind : (xs : List A) (x : A) → AllByRecursion P xs → P x → AllByRecursion P (xs ++ x ∷ [])
  all_behind [] x all one = (one, tt)
  all_behind (y ∷ xs) x all one = (all.0, all_behind xs x all.1 one)

  -- what holds of each of so many, and of one more, holds of each of these
  pub all-more : (xs : List A) (i : ℕ) (x : A) → i < length xs → x ≡ get_or xs i x → AllByRecursion P (take i xs) → P x → AllByRecursion P (take (i + 1) xs)
  all-more xs i x lt is all one =
      subst (AllByRecursion P) (sym (take_more xs i x lt ∙ ap (λ (y : A). take i xs ++ y ∷ []) (sym is))) (all_behind (take i xs) x all one)

  -- what holds of each holds of the one that is looked at
  pub all-at : (xs : List A) (i : ℕ) (x : A) → AllByRecursion P xs → i < length xs → x ≡ get_or xs i x → P x
  all-at [] i x all lt is = absurd (omega arith)
  all-at (y ∷ xs) zero x all lt is = subst P (sym is) all.0
  all-at (y ∷ xs) (suc i) x all lt is = all-at xs i x all.1 (omega arith) is

-- an argument without a token takes a word at least
piece_len-some : {Id : Type 0} (a : Argument Id Token) → token_of a ≡ [] → 4 ≤ piece_len a
piece_len-some (arg.Str None) none = omega arith
piece_len-some (arg.Str (Some text)) none = omega arith
piece_len-some (arg.Array bytes) none = omega arith
piece_len-some (arg.Fd t) none = absurd (cc)
piece_len-some _ none = omega arith

-- if no argument has a token, this one has none, nor have those after it
no_token_first : {Id : Type 0} (a : Argument Id Token) (args : List (Argument Id Token)) → tokens_of (a ∷ args) ≡ [] → (token_of a ≡ []) × (tokens_of args ≡ [])
no_token_first a args none =
    let len : length (token_of a) + length (tokens_of args) ≡ 0 = sym (length-append (token_of a) (tokens_of args)) ∙ ap length none in
    (nil_from_length (token_of a) (omega (arith, len)), nil_from_length (tokens_of args) (omega (arith, len)))

-- arguments without tokens take a word each at least
pub words_at_least : {Id : Type 0} (args : List (Argument Id Token)) → tokens_of args ≡ [] → 4 * length args ≤ sum_by piece_len args
words_at_least [] none = omega arith
words_at_least (a ∷ args) none =
    let nones = no_token_first a args none in
    omega (arith, sum_by-cons piece_len a args, piece_len-some a nones.0, words_at_least args nones.1)

-- so do those after this one, which has no token either
pub rest_at_least : {Id : Type 0} (args : List (Argument Id Token)) (i : ℕ) (a : Argument Id Token) → i < length args → a ≡ get_or args i a → tokens_of args ≡ []
    → (token_of a ≡ []) × (sum_by piece_len (take i args) + piece_len a + 4 * (length args - (i + 1)) ≤ sum_by piece_len args)
rest_at_least [] i a lt is none = absurd (omega arith)
rest_at_least (x ∷ args) zero a lt is none =
    let nones = no_token_first x args none in
    (ap token_of is ∙ nones.0, omega (arith, sum_by-cons piece_len x args, ap piece_len is, words_at_least args nones.1))
rest_at_least (x ∷ args) (suc i) a lt is none =
    let nones = no_token_first x args none in
    let others = rest_at_least args i a (omega arith) is nones.1 in
    (others.0, omega (arith, others.1, sum_by-cons piece_len x args, sum_by-cons piece_len x (take i args)))

-- ---- one write behind another is one write

pub overwritten-append : (old : List ℕ) (at : ℕ) (xs ys : List ℕ) → at + length xs + length ys ≤ length old
    → overwritten (overwritten old at xs) (at + length xs) ys ≡ overwritten old at (xs ++ ys)
unfolding overwritten
overwritten-append old at xs ys le =
    let tail : List ℕ = drop (at + length xs) old in
    let len : length (take at old ++ xs) ≡ at + length xs = omega (arith, length-append (take at old) xs, length-take-le at old (omega arith)) in
    let front-is : take (at + length xs) ((take at old ++ xs) ++ tail) ≡ take at old ++ xs = take_at (take at old ++ xs) tail (at + length xs) len in
    let back-is : drop (at + length xs + length ys) ((take at old ++ xs) ++ tail) ≡ drop (at + length (xs ++ ys)) old
    = sym (drop-drop (length ys) (at + length xs) ((take at old ++ xs) ++ tail))
    ∙ ap (drop (length ys)) (drop_at (take at old ++ xs) tail (at + length xs) len)
    ∙ drop-drop (length ys) (at + length xs) old
    ∙ ap (λ (n : ℕ). drop n old) (omega (arith, length-append xs ys)) in
    rw (front-is, back-is) (ap (λ (p : List ℕ). p ++ drop (at + length (xs ++ ys)) old) (append_assoc (take at old) xs ys))

pub length-overwritten : (old : List ℕ) (at : ℕ) (xs : List ℕ) → at + length xs ≤ length old → length (overwritten old at xs) ≡ length old
unfolding overwritten
length-overwritten old at xs le =
    omega (arith, length-append (take at old ++ xs) (drop (at + length xs) old), length-append (take at old) xs, length-take-le at old (omega arith), length-drop (at + length xs) old)

pub overwritten-nil : (old : List ℕ) (at : ℕ) → overwritten old at [] ≡ old
unfolding overwritten
overwritten-nil old at = rw (append-nil (take at old), add-zero at) (take-append-drop at old)

-- from the front on
pub overwritten-front : (old xs : List ℕ) → overwritten old 0 xs ≡ xs ++ drop (length xs) old
unfolding overwritten
overwritten-front old xs = rw (zero-add (length xs)) refl

-- a write over one that begins in it and does not end behind it
pub overwritten-over : (old : List ℕ) (at before : ℕ) (xs under : List ℕ) (k : ℕ) → at ≤ before → at + length xs ≡ before + k → k ≤ length under
    → before + length under ≤ length old
    → overwritten (overwritten old before under) at xs ≡ overwritten old at (xs ++ drop k under)
unfolding overwritten
overwritten-over old at before xs under k starts ends within le =
    let tail : List ℕ = drop (before + length under) old in
    let front-len : length (take before old) ≡ before = length-take-le before old (omega arith) in
    let both-len : length (take before old ++ under) ≡ before + length under = omega (arith, length-append (take before old) under) in
    let front-is : take at ((take before old ++ under) ++ tail) ≡ take at old
    = take-append-le at (take before old ++ under) tail (omega arith)
    ∙ take-append-le at (take before old) under (omega arith)
    ∙ take-take at before old starts in
    let back-is : drop (at + length xs) ((take before old ++ under) ++ tail) ≡ drop k under ++ tail
    = ap (λ (n : ℕ). drop n ((take before old ++ under) ++ tail)) ends
    ∙ drop-append-le (before + k) (take before old ++ under) tail (omega arith)
    ∙ ap (λ (p : List ℕ). p ++ tail) (sym (drop-drop k before (take before old ++ under)) ∙ ap (drop k) (drop_at (take before old) under before front-len)) in
    let tail-is : tail ≡ drop (at + length (xs ++ drop k under)) old
    = ap (λ (n : ℕ). drop n old) (omega (arith, length-append xs (drop k under), length-drop k under)) in
    rw (front-is, back-is)
    (ap (λ (p : List ℕ). (take at old ++ xs) ++ (drop k under ++ p)) tail-is ∙ simp append_assoc)

-- the first bytes, and then the last ones, which begin in them or right behind them
pub overwritten-ends : (old bytes : List ℕ) (at last n : ℕ) → last + n ≡ length bytes → last ≤ n → at + length bytes ≤ length old
    → overwritten (overwritten old at (take n bytes)) (at + last) (drop last bytes) ≡ overwritten old at bytes
unfolding overwritten
overwritten-ends old bytes at last n ends meet le =
    let tail : List ℕ = drop (at + length (take n bytes)) old in
    let front : List ℕ = take at old ++ take n bytes in
    let n-len : length (take n bytes) ≡ n = length-take-le n bytes (omega arith) in
    let at-len : length (take at old) ≡ at = length-take-le at old (omega arith) in
    let front-len : length front ≡ at + n = omega (arith, length-append (take at old) (take n bytes)) in
    let back-len : length (drop last bytes) ≡ n = omega (arith, length-drop last bytes) in
    let front-is : take (at + last) (front ++ tail) ≡ take at old ++ take last bytes
    = take-append-le (at + last) front tail (omega arith)
    ∙ ap (λ (k : ℕ). take (k + last) front) (sym at-len)
    ∙ take-append-add (take at old) (take n bytes) last
    ∙ ap (λ (p : List ℕ). take at old ++ p) (take-take last n bytes meet) in
    let back-is : drop (at + last + length (drop last bytes)) (front ++ tail) ≡ drop (at + length bytes) old
    = ap (λ (k : ℕ). drop k (front ++ tail)) (omega (arith, back-len))
    ∙ sym (drop-drop last (at + n) (front ++ tail))
    ∙ ap (drop last) (drop_at front tail (at + n) front-len)
    ∙ drop-drop last (at + length (take n bytes)) old
    ∙ ap (λ (k : ℕ). drop k old) (omega arith) in
    rw (front-is, back-is) (ap (λ (p : List ℕ). p ++ drop (at + length bytes) old)
    (append_assoc (take at old) (take last bytes) (drop last bytes) ∙ ap (λ (p : List ℕ). take at old ++ p) (take-append-drop last bytes)))

-- a last word of zeros, a count and the counted bytes: what is left of the zeros ends the bytes and pads them
pub overwritten-counted : (old : List ℕ) (at : ℕ) (bytes : List ℕ) (ending n : ℕ) → n ≡ length bytes + ending → ending ≤ 1 → at + counted_len n ≤ length old
    → overwritten (overwritten (overwritten old (at + n + pad_len n) (word 0)) at (word n)) (at + 4) bytes
    ≡ overwritten old at (counted (bytes ++ replicate ending 0))
overwritten-counted old at bytes ending n n-is few le =
    let zeros : List ℕ = replicate ending 0 in
    let last : ℕ = at + n + pad_len n in
    let under : List ℕ = overwritten old last (word 0) in
    let word-len : length (word n) ≡ 4 = length-word n in
    let under-len : length under ≡ length old = length-overwritten old last (word 0) (omega (arith, length-word 0)) in
    let two-len : length (word n ++ bytes) ≡ 4 + length bytes = omega (arith, length-append (word n) bytes) in
    let whole-len : length (bytes ++ zeros) ≡ n = omega (arith, length-append bytes zeros, length-replicate {A = ℕ} ending 0) in
    let left : ℕ = 4 - (ending + pad_len n) in
    let small : ending + pad_len n ≤ 4 = omega arith in
    let first : overwritten (overwritten under at (word n)) (at + 4) bytes ≡ overwritten under at (word n ++ bytes)
    = subst (λ (k : ℕ). overwritten (overwritten under at (word n)) (at + k) bytes ≡ overwritten under at (word n ++ bytes)) word-len (overwritten-append under at (word n) bytes (omega arith)) in
    let second : overwritten under at (word n ++ bytes) ≡ overwritten old at ((word n ++ bytes) ++ drop left (word 0))
    = overwritten-over old at last (word n ++ bytes) (word 0) left (omega arith) (omega arith) (omega (arith, length-word 0)) (omega (arith, length-word 0)) in
    let zeros-is : drop left (word 0) ≡ zeros ++ replicate (pad_len n) 0
    = ap (drop left) word-zero ∙ drop-replicate {X = ℕ} left 4 0 ∙ ap (λ (k : ℕ). replicate k 0) (omega arith) ∙ sym (replicate-append-replicate {A = ℕ} ending (pad_len n) 0) in
    let content-is : (word n ++ bytes) ++ drop left (word 0) ≡ counted (bytes ++ zeros)
    = rw (whole-len, zeros-is) (simp append_assoc) in
    first ∙ second ∙ ap (overwritten old at) content-is

-- one more argument is written behind the others
pub overwritten-more : (old now new : List ℕ) (args : List WireArgument) (i at : ℕ) (a : WireArgument) → i < length args → a ≡ get_or args i a
    → 8 + length (pieces args) ≤ length old → at ≡ 8 + length (pieces (take i args)) → now ≡ overwritten old 8 (pieces (take i args)) → new ≡ overwritten now at (piece a)
    → new ≡ overwritten old 8 (pieces (take (i + 1) args))
overwritten-more old now new args i at a lt is room at-is now-is new-is =
    new-is ∙ ap (λ (p : List ℕ). overwritten p at (piece a)) now-is
    ∙ ap (λ (k : ℕ). overwritten (overwritten old 8 (pieces (take i args))) k (piece a)) at-is
    ∙ overwritten-append old 8 (pieces (take i args)) (piece a) (omega (arith, length-pieces-more args i a lt is))
    ∙ ap (overwritten old 8) (sym (pieces-more args i a lt is))

-- two words at the front
pub overwritten-two : (old a b : List ℕ) → length a ≡ 4 → length b ≡ 4 → 8 ≤ length old → overwritten (overwritten old 0 a) 4 b ≡ overwritten old 0 (a ++ b)
overwritten-two old a b a-len b-len le =
    subst (λ (k : ℕ). overwritten (overwritten old 0 a) k b ≡ overwritten old 0 (a ++ b)) (omega arith) (overwritten-append old 0 a b (omega arith))

-- a header, and what follows it
pub overwritten-header : (old head rest : List ℕ) → length head ≡ 8 → 8 + length rest ≤ length old → overwritten (overwritten old 0 head) 8 rest ≡ (head ++ rest) ++ drop (8 + length rest) old
overwritten-header old head rest head-len le =
    let whole-len : length (head ++ rest) ≡ 8 + length rest = omega (arith, length-append head rest) in
    let whole : overwritten (overwritten old 0 head) 8 rest ≡ overwritten old 0 (head ++ rest)
    = subst (λ (k : ℕ). overwritten (overwritten old 0 head) k rest ≡ overwritten old 0 (head ++ rest)) (omega arith) (overwritten-append old 0 head rest (omega arith)) in
    whole ∙ overwritten-front old (head ++ rest) ∙ ap (λ (k : ℕ). (head ++ rest) ++ drop k old) whole-len

behind-header : (old rest : List ℕ) → 8 + length rest ≤ length old → drop 8 (overwritten old 8 rest) ≡ rest ++ drop (8 + length rest) old
unfolding overwritten
behind-header old rest le =
    ap (drop 8) (append_assoc (take 8 old) rest (drop (8 + length rest) old))
    ∙ drop_at (take 8 old) (rest ++ drop (8 + length rest) old) 8 (length-take-le 8 old (omega arith))

-- the header, written after what follows it
pub overwritten-header-last : (old head rest : List ℕ) → length head ≡ 8 → 8 + length rest ≤ length old → overwritten (overwritten old 8 rest) 0 head ≡ (head ++ rest) ++ drop (8 + length rest) old
overwritten-header-last old head rest head-len le =
    overwritten-front (overwritten old 8 rest) head
    ∙ ap (λ (k : ℕ). head ++ drop k (overwritten old 8 rest)) head-len
    ∙ ap (λ (p : List ℕ). head ++ p) (behind-header old rest le)
    ∙ sym (append_assoc head rest (drop (8 + length rest) old))

-- as overwritten-more, where it is not known that all pieces have room
pub overwritten-next : (old now new : List ℕ) (args : List WireArgument) (i at : ℕ) (a : WireArgument) → i < length args → a ≡ get_or args i a
    → at + length (piece a) ≤ length old → at ≡ 8 + length (pieces (take i args)) → now ≡ overwritten old 8 (pieces (take i args)) → new ≡ overwritten now at (piece a)
    → new ≡ overwritten old 8 (pieces (take (i + 1) args))
overwritten-next old now new args i at a lt is room at-is now-is new-is =
    new-is ∙ ap (λ (p : List ℕ). overwritten p at (piece a)) now-is
    ∙ ap (λ (k : ℕ). overwritten (overwritten old 8 (pieces (take i args))) k (piece a)) at-is
    ∙ overwritten-append old 8 (pieces (take i args)) (piece a) (omega arith)
    ∙ ap (overwritten old 8) (sym (pieces-more args i a lt is))

pub length-header : (sender size-opcode : ℕ) → length (word sender ++ word size-opcode) ≡ 8
length-header sender size-opcode = omega (arith, length-append (word sender) (word size-opcode), length-word sender, length-word size-opcode)
