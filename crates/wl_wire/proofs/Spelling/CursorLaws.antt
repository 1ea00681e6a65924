-- Reading from left to right finds the arguments that read, and no others.
use Rattle.std.specs.Prelude.{◌≡◌, ◌≢◌, ℕ, ◌+◌, ◌-◌, ◌≤◌, ◌⊎◌, List, [], ◌∷◌, ◌++◌, length, take, drop, Option, Some, None, is_some, Bool, true, false, if◌then◌else◌, not, ◌||◌, refl}
use Rattle.std.proofs.Common.{sym, ◌∙◌, ap, subst, append_assoc, arith, length-append, get_or, cond, eqb, ltb, inl, inr}
use Rattle.std.specs.List.{list_any, AllByRecursion}
use Rattle.std.specs.Int.{w32, from_le_bytes, cast_signed}
use Rattle.std.proofs.lemmas.Bool.{ltb-false, le-ltb, eqb-true, eqb-false, ne_eqb}
use Rattle.std.proofs.lemmas.List.{nil_from_length, take_at, drop_at, drop-drop, take-append-drop, length-take-le, take_more, take_all}
use Rattle.std.proofs.lemmas.List.Elements.{All-from_recursion, recursion_from_All}
use Rattle.std.proofs.Math.Seq.{get_or-append_seam}
use Rattle.std.proofs.lemmas.List.Sums.{sum_by-cons}
use Rattle.wl_wire.specs.declared.argument.ArgumentType.{ArgumentType}
use Rattle.wl_wire.specs.declared.argument.ArgumentType.TheVariants as kind
use Rattle.wl_wire.specs.declared.argument.Argument.TheVariants as arg
use Rattle.wl_wire.specs.declared.argument.Token.{Token}
use Rattle.wl_wire.specs.Text.{HasNoZero}
use Rattle.wl_wire.specs.Argument.{WireArgument, kind_of, type_of}
use Rattle.wl_wire.specs.Message.{pad_len, token, tokens}
use Rattle.wl_wire.specs.Reading.{IsWord, IsCounted, IsPiece, Reads}
use Rattle.wl_wire.specs.Parse.{is_fd, fd_count}
use Rattle.wl_wire.specs.Inside.Cursor.{arguments_at}
use Rattle.wl_wire.specs.Pieces.{◌>>=◌, word_at, counted_at, front, is_no_text, text_of, argument_at}

-- ---- steps that may find nothing

bind_some : {A B : Type 0} (r : Option A) (f : A → Option B) (y : B) → (r >>= f) ≡ Some y → (x : A) × (r ≡ Some x) × (f x ≡ Some y)
bind_some (Some x) f y e = (x, refl, e)
bind_some None f y e = absurd cc

guard_some : {A : Type 0} (b : Bool) (x y : A) → cond b None (Some x) ≡ Some y → (b ≡ false) × (x ≡ y)
guard_some true x y e = absurd cc
guard_some false x y e = (refl, cc)

-- ---- words

pub word_reads : (payload : List ℕ) (n : ℕ) (rest : List ℕ) → word_at payload ≡ Some (n, rest) → IsWord n (take 4 payload) × (payload ≡ take 4 payload ++ rest)
unfolding word_at
word_reads payload n rest e =
    let g = guard_some (ltb (length payload) 4) (from_le_bytes w32 (take 4 payload), drop 4 payload) (n, rest) e in
    let long : 4 ≤ length payload = ltb-false _ _ g.0 in
    let n-is : from_le_bytes w32 (take 4 payload) ≡ n = ap (λ (p : ℕ × List ℕ). p.0) g.1 in
    let rest-is : drop 4 payload ≡ rest = ap (λ (p : ℕ × List ℕ). p.1) g.1 in
    (record { four = length-take-le 4 payload long; value = sym n-is }, sym (take-append-drop 4 payload) ∙ ap (λ (r : List ℕ). take 4 payload ++ r) rest-is)

abbrev word_found : ℕ → List ℕ → Option (ℕ × List ℕ)
word_found n rest = Some (n, rest)

pub word_again : (n : ℕ) (bytes rest : List ℕ) → IsWord n bytes → word_at (bytes ++ rest) ≡ Some (n, rest)
unfolding word_at
word_again n bytes rest w =
    let long : ltb (length (bytes ++ rest)) 4 ≡ false = le-ltb _ _ (omega (arith, length-append bytes rest, w.four)) in
    ap (λ (b : Bool). cond b None (word_found (from_le_bytes w32 (take 4 (bytes ++ rest))) (drop 4 (bytes ++ rest)))) long
    ∙ ap (λ (p : List ℕ). word_found (from_le_bytes w32 p) (drop 4 (bytes ++ rest))) (take_at bytes rest 4 w.four)
    ∙ ap (word_found (from_le_bytes w32 bytes)) (drop_at bytes rest 4 w.four)
    ∙ ap (λ (k : ℕ). word_found k rest) (sym w.value)

-- ---- counted bytes

pub counted_reads : (payload content rest : List ℕ) → counted_at payload ≡ Some (content, rest) → (piece : List ℕ) × IsCounted content piece × (payload ≡ piece ++ rest)
unfolding counted_at
counted_reads payload content rest e =
    let b = bind_some (word_at payload) (λ n. cond (ltb (length n.1) (n.0 + pad_len n.0)) None (Some (take n.0 n.1, drop (n.0 + pad_len n.0) n.1))) (content, rest) e in
    let n = b.0.0 in
    let tail = b.0.1 in
    let w = word_reads payload n tail b.1 in
    let g = guard_some (ltb (length tail) (n + pad_len n)) (take n tail, drop (n + pad_len n) tail) (content, rest) b.2 in
    let long : n + pad_len n ≤ length tail = ltb-false _ _ g.0 in
    let content-is : take n tail ≡ content = ap (λ (p : List ℕ × List ℕ). p.0) g.1 in
    let rest-is : drop (n + pad_len n) tail ≡ rest = ap (λ (p : List ℕ × List ℕ). p.1) g.1 in
    let len : length (take n tail) ≡ n = length-take-le n tail (omega arith) in
    let pad-fits : pad_len n ≤ length (drop n tail) = omega (arith, ap length (take-append-drop n tail), length-append (take n tail) (drop n tail)) in
    let padding : List ℕ = take (pad_len n) (drop n tail) in
    let piece : List ℕ = take 4 payload ++ (take n tail ++ padding) in
    let counted : IsCounted (take n tail) piece = record {
      count = take 4 payload;
      padding = padding;
      is_word = subst (λ (k : ℕ). IsWord k (take 4 payload)) (sym len) w.0;
      pad = length-take-le (pad_len n) (drop n tail) pad-fits ∙ ap pad_len (sym len);
      whole = refl;
    } in
    let behind : drop n tail ≡ padding ++ rest = sym (take-append-drop (pad_len n) (drop n tail)) ∙ ap (λ (r : List ℕ). padding ++ r) (drop-drop (pad_len n) n tail ∙ rest-is) in
    let tail-is : tail ≡ (take n tail ++ padding) ++ rest = sym (take-append-drop n tail) ∙ ap (λ (r : List ℕ). take n tail ++ r) behind ∙ sym (append_assoc (take n tail) padding rest) in
    let whole : payload ≡ piece ++ rest = w.1 ∙ ap (λ (r : List ℕ). take 4 payload ++ r) tail-is ∙ sym (append_assoc (take 4 payload) (take n tail ++ padding) rest) in
    (piece, subst (λ (k : List ℕ). IsCounted k piece) content-is counted, whole)

abbrev counted_found : List ℕ → List ℕ → Option (List ℕ × List ℕ)
counted_found content rest = Some (content, rest)

abbrev counted_behind : ℕ × List ℕ → Option (List ℕ × List ℕ)
counted_behind n = cond (ltb (length n.1) (n.0 + pad_len n.0)) None (counted_found (take n.0 n.1) (drop (n.0 + pad_len n.0) n.1))

pub counted_again : (content piece rest : List ℕ) → IsCounted content piece → counted_at (piece ++ rest) ≡ Some (content, rest)
unfolding counted_at
counted_again content piece rest c =
    let n : ℕ = length content in
    let tail : List ℕ = content ++ (c.padding ++ rest) in
    let regrouped : piece ++ rest ≡ c.count ++ tail = ap (λ (p : List ℕ). p ++ rest) c.whole ∙ append_assoc c.count (content ++ c.padding) rest ∙ ap (λ (p : List ℕ). c.count ++ p) (append_assoc content c.padding rest) in
    let long : ltb (length tail) (n + pad_len n) ≡ false = le-ltb _ _ (omega (arith, c.pad, length-append content (c.padding ++ rest), length-append c.padding rest)) in
    let behind : drop (n + pad_len n) tail ≡ rest = sym (drop-drop (pad_len n) n tail) ∙ ap (drop (pad_len n)) (drop_at content (c.padding ++ rest) n refl) ∙ drop_at c.padding rest (pad_len n) c.pad in
    ap (λ (p : List ℕ). word_at p >>= counted_behind) regrouped
    ∙ ap (λ (r : Option (ℕ × List ℕ)). r >>= counted_behind) (word_again n c.count tail c.is_word)
    ∙ ap (λ (b : Bool). cond b None (counted_found (take n tail) (drop (n + pad_len n) tail))) long
    ∙ ap (λ (p : List ℕ). counted_found p (drop (n + pad_len n) tail)) (take_at content (c.padding ++ rest) n refl)
    ∙ ap (counted_found content) behind

-- ---- strings

or_false : (x y : Bool) → (x || y) ≡ false → (x ≡ false) × (y ≡ false)
or_false true y e = absurd cc
or_false false y e = (refl, e)

not_is_false : (x : Bool) → not x ≡ false → x ≡ true
not_is_false true e = refl
not_is_false false e = absurd cc

no_zeros : (bytes : List ℕ) → list_any (λ b. eqb b 0) bytes ≡ false → AllByRecursion (λ b. b ≢ 0) bytes
no_zeros [] e = tt
no_zeros (b ∷ bytes) e = let p = or_false (eqb b 0) (list_any (λ b. eqb b 0) bytes) e in (eqb-false b 0 p.0, no_zeros bytes p.1)

finds_no_zero : (bytes : List ℕ) → AllByRecursion (λ b. b ≢ 0) bytes → list_any (λ b. eqb b 0) bytes ≡ false
finds_no_zero [] h = refl
finds_no_zero (b ∷ bytes) h = rw (ne_eqb b 0 h.0) (finds_no_zero bytes h.1)

chosen : {A : Type 0} (b : Bool) (x y z : A) → cond b x y ≡ z → ((b ≡ true) × (x ≡ z)) ⊎ ((b ≡ false) × (y ≡ z))
chosen true x y z e = inl (refl, e)
chosen false x y z e = inr (refl, e)

abbrev null_found : Option (Option (List ℕ))
null_found = Some None

abbrev text_found : List ℕ → Option (Option (List ℕ))
text_found text = Some (Some text)

pub text_reads_null : (bytes : List ℕ) → text_of bytes ≡ null_found → bytes ≡ []
unfolding text_of
text_reads_null bytes e =
    elim (chosen (eqb (length bytes) 0) null_found (cond (is_no_text bytes) None (text_found (front bytes))) null_found e) [
      | inl p ↦ nil_from_length bytes (eqb-true (length bytes) 0 p.0)
      | inr p ↦ let g = guard_some (is_no_text bytes) (Some (front bytes)) None p.1 in absurd cc
    ]

pub text_reads : (bytes text : List ℕ) → text_of bytes ≡ text_found text → HasNoZero text × (bytes ≡ text ++ 0 ∷ [])
unfolding text_of
text_reads bytes text e =
    elim (chosen (eqb (length bytes) 0) null_found (cond (is_no_text bytes) None (text_found (front bytes))) (text_found text) e) [
      | inl p ↦ let h = p.1 in absurd cc
      | inr p ↦
          let g = guard_some (is_no_text bytes) (Some (front bytes)) (Some text) p.1 in
          let text-is : front bytes ≡ text = let h = g.1 in cc in
          let parts = or_false (not (eqb (get_or bytes (length bytes - 1) 0) 0)) (list_any (λ b. eqb b 0) (front bytes)) g.0 in
          let last-is : get_or bytes (length bytes - 1) 0 ≡ 0 = eqb-true _ _ (not_is_false _ parts.0) in
          let some_bytes : length bytes ≢ 0 = eqb-false (length bytes) 0 p.0 in
          let whole : bytes ≡ front bytes ++ 0 ∷ [] =
          sym (take_all (length bytes - 1 + 1) bytes (omega arith)) ∙ take_more bytes (length bytes - 1) 0 (omega arith) ∙ ap (λ (b : ℕ). front bytes ++ b ∷ []) last-is in
          (subst HasNoZero text-is (All-from_recursion (λ b. b ≢ 0) (front bytes) (no_zeros (front bytes) parts.1)), whole ∙ ap (λ (t : List ℕ). t ++ 0 ∷ []) text-is)
    ]

pub text_again : (text : List ℕ) → HasNoZero text → text_of (text ++ 0 ∷ []) ≡ text_found text
unfolding text_of
text_again text h =
    let bytes : List ℕ = text ++ 0 ∷ [] in
    let len : length bytes - 1 ≡ length text = omega (arith, length-append text (0 ∷ [])) in
    let some_bytes : eqb (length bytes) 0 ≡ false = ne_eqb (length bytes) 0 (omega (arith, length-append text (0 ∷ []))) in
    let front-is : front bytes ≡ text = ap (λ (n : ℕ). take n bytes) len ∙ take_at text (0 ∷ []) (length text) refl in
    let last-is : get_or bytes (length bytes - 1) 0 ≡ 0 = ap (λ (n : ℕ). get_or bytes n 0) len ∙ get_or-append_seam text 0 [] 0 in
    let none : list_any (λ b. eqb b 0) (front bytes) ≡ false = ap (list_any (λ b. eqb b 0)) front-is ∙ finds_no_zero text (recursion_from_All (λ b. b ≢ 0) text h) in
    let is_text : is_no_text bytes ≡ false = ap (λ (n : ℕ). not (eqb n 0) || list_any (λ b. eqb b 0) (front bytes)) last-is ∙ none in
    ap (λ (b : Bool). cond b null_found (cond (is_no_text bytes) None (text_found (front bytes)))) some_bytes
    ∙ ap (λ (b : Bool). cond b None (text_found (front bytes))) is_text
    ∙ ap text_found front-is

-- ---- one argument

-- the piece, the bytes behind it and the tokens behind it
pub record IsRead (k : ArgumentType) (payload : List ℕ) (fds : List Token) (x : WireArgument × List ℕ × List Token) : Type 0 where
  pub piece : List ℕ
  pub is_piece : IsPiece k x.0 piece
  pub bytes : payload ≡ piece ++ x.1
  pub waiting : fds ≡ token x.0 ++ x.2

abbrev argument_found : WireArgument → List ℕ → List Token → Option (WireArgument × List ℕ × List Token)
argument_found a rest others = Some (a, rest, others)

-- an argument of one word
word_argument_reads : (k : ArgumentType) (make : ℕ → WireArgument) (payload : List ℕ) (fds : List Token) (x : WireArgument × List ℕ × List Token)
    → ((n : ℕ) (bytes : List ℕ) → IsWord n bytes → IsPiece k (make n) bytes) → ((n : ℕ) → token (make n) ≡ [])
    → (word_at payload >>= λ n. argument_found (make n.0) n.1 fds) ≡ Some x → IsRead k payload fds x
word_argument_reads k make payload fds x is_piece none e =
    let b = bind_some (word_at payload) (λ n. argument_found (make n.0) n.1 fds) x e in
    let w = word_reads payload b.0.0 b.0.1 b.1 in
    let made : WireArgument × List ℕ × List Token = (make b.0.0, b.0.1, fds) in
    let made-is : made ≡ x = let h = b.2 in cc in
    let read : IsRead k payload fds made = record {
      piece = take 4 payload;
      is_piece = is_piece b.0.0 (take 4 payload) w.0;
      bytes = w.1;
      waiting = ap (λ (ts : List Token). ts ++ fds) (sym (none b.0.0));
    } in
    subst (IsRead k payload fds) made-is read

pub argument_reads : (k : ArgumentType) (payload : List ℕ) (fds : List Token) (x : WireArgument × List ℕ × List Token) → argument_at k payload fds ≡ Some x → IsRead k payload fds x
unfolding argument_at IsPiece
argument_reads kind.Int payload fds x e = word_argument_reads kind.Int (λ n. arg.Int (cast_signed w32 n)) payload fds x (λ n bytes w. (n, w, refl)) (λ n. refl) e
argument_reads kind.Uint payload fds x e = word_argument_reads kind.Uint (λ n. arg.Uint n) payload fds x (λ n bytes w. w) (λ n. refl) e
argument_reads kind.Fixed payload fds x e = word_argument_reads kind.Fixed (λ n. arg.Fixed (cast_signed w32 n)) payload fds x (λ n bytes w. (n, w, refl)) (λ n. refl) e
argument_reads (kind.Str null) payload fds x e =
    let b = bind_some (counted_at payload) (λ bytes. text_of bytes.0 >>= λ text. argument_found (arg.Str text) bytes.1 fds) x e in
    let c = bind_some (text_of b.0.0) (λ text. argument_found (arg.Str text) b.0.1 fds) x b.2 in
    let counted = counted_reads payload b.0.0 b.0.1 b.1 in
    let made-is : (arg.Str c.0, b.0.1, fds) ≡ x = let h = c.2 in cc in
    subst (IsRead (kind.Str null) payload fds) made-is (text_read c.0 b.0.0 b.0.1 counted c.1)
  where
    text_read : (text : Option (List ℕ)) (bytes rest : List ℕ) → ((piece : List ℕ) × IsCounted bytes piece × (payload ≡ piece ++ rest)) → text_of bytes ≡ Some text
        → IsRead (kind.Str null) payload fds (arg.Str text, rest, fds)
    text_read None bytes rest counted found = record {
      piece = counted.0;
      is_piece = subst (λ (b : List ℕ). IsCounted b counted.0) (text_reads_null bytes found) counted.1;
      bytes = counted.2;
      waiting = refl;
    }
    text_read (Some text) bytes rest counted found =
        let t = text_reads bytes text found in
        record {
          piece = counted.0;
          is_piece = (t.0, subst (λ (b : List ℕ). IsCounted b counted.0) t.1 counted.1);
          bytes = counted.2;
          waiting = refl;
        }
argument_reads (kind.Object null) payload fds x e = word_argument_reads (kind.Object null) (λ n. arg.Object n) payload fds x (λ n bytes w. w) (λ n. refl) e
argument_reads kind.NewId payload fds x e = word_argument_reads kind.NewId (λ n. arg.NewId n) payload fds x (λ n bytes w. w) (λ n. refl) e
argument_reads kind.Array payload fds x e =
    let b = bind_some (counted_at payload) (λ bytes. argument_found (arg.Array bytes.0) bytes.1 fds) x e in
    let counted = counted_reads payload b.0.0 b.0.1 b.1 in
    let made : WireArgument × List ℕ × List Token = (arg.Array b.0.0, b.0.1, fds) in
    let made-is : made ≡ x = let h = b.2 in cc in
    let read : IsRead kind.Array payload fds made = record { piece = counted.0; is_piece = counted.1; bytes = counted.2; waiting = refl } in
    subst (IsRead kind.Array payload fds) made-is read
argument_reads kind.Fd payload [] x e = absurd cc
argument_reads kind.Fd payload (t ∷ fds) x e =
    let made : WireArgument × List ℕ × List Token = (arg.Fd t, payload, fds) in
    let made-is : made ≡ x = cc in
    let read : IsRead kind.Fd payload (t ∷ fds) made = record { piece = []; is_piece = refl; bytes = refl; waiting = refl } in
    subst (IsRead kind.Fd payload (t ∷ fds)) made-is read

-- what is a piece is read again, whatever follows
pub argument_again : (k : ArgumentType) (a : WireArgument) (piece rest : List ℕ) (others : List Token) → IsPiece k a piece
    → argument_at k (piece ++ rest) (token a ++ others) ≡ Some (a, rest, others)
unfolding argument_at IsPiece text_of
argument_again kind.Int (arg.Int z) piece rest others p =
    rw (word_again p.0 piece rest p.1) (ap (λ (i : _). argument_found (arg.Int i) rest others) (sym p.2))
argument_again kind.Uint (arg.Uint n) piece rest others p = rw (word_again n piece rest p) refl
argument_again kind.Fixed (arg.Fixed z) piece rest others p =
    rw (word_again p.0 piece rest p.1) (ap (λ (i : _). argument_found (arg.Fixed i) rest others) (sym p.2))
argument_again (kind.Str null) (arg.Str None) piece rest others p = rw (counted_again [] piece rest p) refl
argument_again (kind.Str null) (arg.Str (Some text)) piece rest others p = rw (counted_again (text ++ 0 ∷ []) piece rest p.1, text_again text p.0) refl
argument_again (kind.Object null) (arg.Object n) piece rest others p = rw (word_again n piece rest p) refl
argument_again kind.NewId (arg.NewId n) piece rest others p = rw (word_again n piece rest p) refl
argument_again kind.Array (arg.Array content) piece rest others p = rw (counted_again content piece rest p) refl
argument_again kind.Fd (arg.Fd t) piece rest others p = rw p refl
argument_again _ _ piece rest others p = absurd p

-- ---- all arguments

pub arguments_read : (signature : List ArgumentType) (payload : List ℕ) (fds : List Token) (args : List WireArgument) (left : List Token)
    → arguments_at signature payload fds ≡ Some (args, left) → Reads signature args payload fds × (fds ≡ tokens args ++ left)
unfolding arguments_at Reads
arguments_read [] payload fds args left e =
    let none : List WireArgument × List Token = ([], fds) in
    let made-is : none ≡ (args, left) = cc in
    subst (λ (x : List WireArgument × List Token). Reads [] x.0 payload fds × (fds ≡ tokens x.0 ++ x.1)) made-is (tt, refl)
arguments_read (k ∷ signature) payload fds args left e =
    let b = bind_some (argument_at k payload fds) (λ first. arguments_at signature first.1 first.2 >>= λ others. Some (first.0 ∷ others.0, others.1)) (args, left) e in
    let first = b.0 in
    let c = bind_some (arguments_at signature first.1 first.2) (λ others. Some (first.0 ∷ others.0, others.1)) (args, left) b.2 in
    let read = argument_reads k payload fds first b.1 in
    let others = arguments_read signature first.1 first.2 c.0.0 c.0.1 c.1 in
    let made : List WireArgument × List Token = (first.0 ∷ c.0.0, c.0.1) in
    let made-is : made ≡ (args, left) = let h = c.2 in cc in
    let reads : Reads (k ∷ signature) made.0 payload fds = (read.piece, first.1, first.2, read.bytes, read.waiting, read.is_piece, others.0) in
    let waiting : fds ≡ tokens made.0 ++ made.1 = read.waiting ∙ ap (λ (ts : List Token). token first.0 ++ ts) others.1 ∙ sym (append_assoc (token first.0) (tokens c.0.0) c.0.1) in
    subst (λ (x : List WireArgument × List Token). Reads (k ∷ signature) x.0 payload fds × (fds ≡ tokens x.0 ++ x.1)) made-is (reads, waiting)

-- what reads is found, with the tokens that are left
pub arguments_again : (signature : List ArgumentType) (args : List WireArgument) (payload : List ℕ) (fds : List Token)
    → Reads signature args payload fds → (left : List Token) × (arguments_at signature payload fds ≡ Some (args, left))
unfolding arguments_at Reads
arguments_again [] [] payload fds r = (fds, refl)
arguments_again (k ∷ signature) (a ∷ args) payload fds r =
    let first : argument_at k payload fds ≡ Some (a, r.1, r.2)
    = ap (λ (p : List ℕ). argument_at k p fds) r.3 ∙ ap (argument_at k (r.0 ++ r.1)) r.4 ∙ argument_again k a r.0 r.1 r.2 r.5 in
    let others = arguments_again signature args r.1 r.2 r.6 in
    (others.0, rw (first, others.1) refl)
arguments_again [] (a ∷ args) payload fds r = absurd r
arguments_again (k ∷ signature) [] payload fds r = absurd r

-- ---- whether they read

pub some_read : (signature : List ArgumentType) (payload : List ℕ) (fds : List Token) → is_some (arguments_at signature payload fds) ≡ true
    → (args : List WireArgument) × Reads signature args payload fds
some_read signature payload fds e = found (arguments_at signature payload fds) refl e
  where
    found : (r : Option (List WireArgument × List Token)) → arguments_at signature payload fds ≡ r → is_some r ≡ true → (args : List WireArgument) × Reads signature args payload fds
    found (Some x) is e = (x.0, (arguments_read signature payload fds x.0 x.1 is).0)
    found None is e = absurd cc

pub none_reads : (signature : List ArgumentType) (payload : List ℕ) (fds : List Token) → is_some (arguments_at signature payload fds) ≡ false
    → (args : List WireArgument) → Reads signature args payload fds → ⊥
none_reads signature payload fds e args r =
    let again = arguments_again signature args payload fds r in
    let some : is_some (arguments_at signature payload fds) ≡ true = ap is_some again.1 in
    absurd cc

-- ---- at most one list of arguments reads

pub one_reading : (signature : List ArgumentType) (args args' : List WireArgument) (payload : List ℕ) (fds : List Token)
    → Reads signature args payload fds → Reads signature args' payload fds → args ≡ args'
one_reading signature args args' payload fds r r' =
    let a = arguments_again signature args payload fds r in
    let b = arguments_again signature args' payload fds r' in
    let one : List WireArgument × List Token = (args, a.0) in
    let two : List WireArgument × List Token = (args', b.0) in
    let some_is : Some one ≡ Some two = sym a.1 ∙ b.1 in
    let pair_is : one ≡ two = cc in
    ap (λ (x : List WireArgument × List Token). x.0) pair_is

-- ---- the types of the arguments, and how many tokens there are

-- an argument that a piece stands for is of the piece's type, and has a token where that is a descriptor
pub piece_fits : (k : ArgumentType) (a : WireArgument) (piece : List ℕ) → IsPiece k a piece
    → (kind_of k ≡ type_of a) × (length (token a) ≡ (if is_fd k then 1 else 0))
unfolding IsPiece
piece_fits kind.Int (arg.Int z) piece p = (refl, refl)
piece_fits kind.Uint (arg.Uint n) piece p = (refl, refl)
piece_fits kind.Fixed (arg.Fixed z) piece p = (refl, refl)
piece_fits (kind.Str null) (arg.Str text) piece p = (refl, refl)
piece_fits (kind.Object null) (arg.Object n) piece p = (refl, refl)
piece_fits kind.NewId (arg.NewId n) piece p = (refl, refl)
piece_fits kind.Array (arg.Array content) piece p = (refl, refl)
piece_fits kind.Fd (arg.Fd t) piece p = (refl, refl)
piece_fits _ _ piece p = absurd p

pub reads_tokens : (signature : List ArgumentType) (args : List WireArgument) (payload : List ℕ) (fds : List Token)
    → Reads signature args payload fds → length (tokens args) ≡ fd_count signature
unfolding Reads
reads_tokens [] [] payload fds r = refl
reads_tokens (k ∷ signature) (a ∷ args) payload fds r =
    length-append (token a) (tokens args) ∙ ap (λ (n : ℕ). n + length (tokens args)) (piece_fits k a r.0 r.5).1
    ∙ ap (λ (n : ℕ). (if is_fd k then 1 else 0) + n) (reads_tokens signature args r.1 r.2 r.6) ∙ sym (sum_by-cons (λ x. cond (is_fd x) 1 0) k signature)
reads_tokens [] (a ∷ args) payload fds r = absurd r
reads_tokens (k ∷ signature) [] payload fds r = absurd r
