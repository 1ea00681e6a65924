-- Reading the arguments one after the other, as the parser's loops do.
use Rattle.std.proofs.Common.{◌≡◌, ℕ, ◌+◌, ◌≤◌, ◌<◌, List, [], ◌∷◌, ◌++◌, length, get_or, drop, Option, Some, None, option_map, is_some, true, false, refl, sym, ap, ◌∙◌, append_assoc, add-one, drop-cons}
use Rattle.std.proofs.lemmas.List.{append-nil, drop_all}
use Rattle.wl_wire.specs.declared.argument.ArgumentType.{ArgumentType}
use Rattle.wl_wire.specs.declared.argument.Token.{Token}
use Rattle.wl_wire.specs.declared.error.MessageParseError.{MessageParseError}
use Rattle.wl_wire.specs.declared.error.MessageParseError.TheVariants as errors
use Rattle.wl_wire.specs.Argument.{WireArgument}
use Rattle.wl_wire.specs.Inside.Cursor.{arguments_at, rests, with_front, with_one}
use Rattle.wl_wire.specs.Pieces.{◌>>=◌, Fails, argument_at}

-- where the next argument is read, the others are read behind it
module _ (signature : List ArgumentType) (i : ℕ) (rest : List ℕ) (left : List Token) (d : ArgumentType) (lt : i < length signature) where
  step : arguments_at (drop i signature) rest left
      ≡ (argument_at (get_or signature i d) rest left >>= λ first. arguments_at (drop (i + 1) signature) first.1 first.2 >>= λ others. Some (first.0 ∷ others.0, others.1))
  unfolding arguments_at
  step = rw (add-one, drop-cons signature i d lt) refl

regroup : (before : List WireArgument) (a : WireArgument) (read : Option (List WireArgument × List Token))
    → with_front before (read >>= λ x. Some (a ∷ x.0, x.1)) ≡ with_front (before ++ a ∷ []) read
regroup before a (Some x) = ap (λ (args : List WireArgument). Some (args, x.1)) (simp append_assoc)
regroup before a None = refl

-- ---- filling the arguments

pub goes_on : (before now : List WireArgument) (signature : List ArgumentType) (i : ℕ) (rest : List ℕ) (left : List Token) (d : ArgumentType)
    (after : List ℕ) (others : List Token) (total : Option (List WireArgument × List Token))
    → i < length signature → with_one before (argument_at (get_or signature i d) rest left) ≡ Some (now, after, others)
    → with_front before (arguments_at (drop i signature) rest left) ≡ total
    → with_front now (arguments_at (drop (i + 1) signature) after others) ≡ total
goes_on before now signature i rest left d after others total lt found so_far =
    one_more (argument_at (get_or signature i d) rest left) found (sym (ap (with_front before) (step signature i rest left d lt)) ∙ so_far)
  where
    one_more : (first : Option (WireArgument × List ℕ × List Token)) → with_one before first ≡ Some (now, after, others)
        → with_front before (first >>= λ x. arguments_at (drop (i + 1) signature) x.1 x.2 >>= λ y. Some (x.0 ∷ y.0, y.1)) ≡ total
        → with_front now (arguments_at (drop (i + 1) signature) after others) ≡ total
    one_more (Some x) e all =
        let same : (before ++ x.0 ∷ [], x.1, x.2) ≡ (now, after, others) = cc in
        let now-is : before ++ x.0 ∷ [] ≡ now = ap (λ (y : List WireArgument × List ℕ × List Token). y.0) same in
        let after-is : x.1 ≡ after = ap (λ (y : List WireArgument × List ℕ × List Token). y.1) same in
        let others-is : x.2 ≡ others = ap (λ (y : List WireArgument × List ℕ × List Token). y.2) same in
        rw (sym now-is, sym after-is, sym others-is) (sym (regroup before x.0 (arguments_at (drop (i + 1) signature) x.1 x.2)) ∙ all)
    one_more None e all = absurd cc

pub ends : (e : MessageParseError) (before : List WireArgument) (signature : List ArgumentType) (i : ℕ) (rest : List ℕ) (left : List Token) (d : ArgumentType)
    (total : Option (List WireArgument × List Token))
    → i < length signature → Fails e (argument_at (get_or signature i d) rest left)
    → with_front before (arguments_at (drop i signature) rest left) ≡ total → Fails e total
ends errors.Malformed before signature i rest left d total lt fails so_far =
    let one : with_front before (arguments_at (drop i signature) rest left) ≡ None = rw (step signature i rest left d lt, fails) refl in
    sym so_far ∙ one
ends errors.OutOfMemory before signature i rest left d total lt fails so_far = tt
ends errors.MissingData before signature i rest left d total lt fails so_far = fails
ends errors.MissingFD before signature i rest left d total lt fails so_far = fails

pub is_done : (before : List WireArgument) (signature : List ArgumentType) (i : ℕ) (rest : List ℕ) (left : List Token) (total : Option (List WireArgument × List Token))
    → length signature ≤ i → with_front before (arguments_at (drop i signature) rest left) ≡ total → total ≡ Some (before, left)
unfolding arguments_at
is_done before signature i rest left total le so_far =
    let none : drop i signature ≡ [] = drop_all i signature le in
    let one : with_front before (arguments_at (drop i signature) rest left) ≡ Some (before, left) = rw none (ap (λ (args : List WireArgument). Some (args, left)) (append-nil before)) in
    sym so_far ∙ one

-- what fails with one more fails without
pub fails_alone : (e : MessageParseError) (before : List WireArgument) (first : Option (WireArgument × List ℕ × List Token)) → Fails e (with_one before first) → Fails e first
fails_alone errors.Malformed before (Some x) fails = absurd cc
fails_alone errors.Malformed before None fails = refl
fails_alone errors.OutOfMemory before first fails = tt
fails_alone errors.MissingData before first fails = fails
fails_alone errors.MissingFD before first fails = fails

-- ---- looking whether they read

pub skips : (signature : List ArgumentType) (i : ℕ) (rest : List ℕ) (left : List Token) (d : ArgumentType) (after : List ℕ) (others : List Token)
    → i < length signature → Some (after, others) ≡ option_map rests (argument_at (get_or signature i d) rest left)
    → is_some (arguments_at (drop i signature) rest left) ≡ is_some (arguments_at (drop (i + 1) signature) after others)
skips signature i rest left d after others lt found =
    ap is_some (step signature i rest left d lt) ∙ skipped (argument_at (get_or signature i d) rest left) found
  where
    kept : (a : WireArgument) (read : Option (List WireArgument × List Token)) → is_some {T = List WireArgument × List Token} (read >>= λ x. Some (a ∷ x.0, x.1)) ≡ is_some read
    kept a (Some x) = refl
    kept a None = refl

    skipped : (read : Option (WireArgument × List ℕ × List Token)) → Some (after, others) ≡ option_map rests read
        → is_some {T = List WireArgument × List Token} (read >>= λ first. arguments_at (drop (i + 1) signature) first.1 first.2 >>= λ x. Some (first.0 ∷ x.0, x.1)) ≡ is_some (arguments_at (drop (i + 1) signature) after others)
    skipped (Some first) e =
        let both : (after, others) ≡ rests first = cc in
        let after-is : after ≡ first.1 = ap (λ (x : List ℕ × List Token). x.0) both in
        let others-is : others ≡ first.2 = ap (λ (x : List ℕ × List Token). x.1) both in
        rw (after-is, others-is) (kept first.0 (arguments_at (drop (i + 1) signature) first.1 first.2))
    skipped None e = absurd cc

pub stops : (signature : List ArgumentType) (i : ℕ) (rest : List ℕ) (left : List Token) (d : ArgumentType)
    → i < length signature → None ≡ option_map rests (argument_at (get_or signature i d) rest left)
    → is_some (arguments_at (drop i signature) rest left) ≡ false
stops signature i rest left d lt found = ap is_some (step signature i rest left d lt) ∙ stopped (argument_at (get_or signature i d) rest left) found
  where
    stopped : (read : Option (WireArgument × List ℕ × List Token)) → None ≡ option_map rests read
        → is_some {T = List WireArgument × List Token} (read >>= λ first. arguments_at (drop (i + 1) signature) first.1 first.2 >>= λ x. Some (first.0 ∷ x.0, x.1)) ≡ false
    stopped (Some first) e = absurd cc
    stopped None e = refl

pub all_skipped : (signature : List ArgumentType) (i : ℕ) (rest : List ℕ) (left : List Token) → length signature ≤ i → is_some (arguments_at (drop i signature) rest left) ≡ true
unfolding arguments_at
all_skipped signature i rest left le = let none : drop i signature ≡ [] = drop_all i signature le in rw none refl
