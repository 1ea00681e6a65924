-- What waits in the mailbox to be sent, as it is appended to what is told; and how what is told is written to lent memory.
use Rattle.std.specs.Prelude.{◌≡◌, ℕ, suc, ◌+◌, ◌-◌, ◌++◌, ◌<◌, ◌≤◌, ℤ, Bool, true, false, List, [], ◌∷◌, drop, length, map, min, nat_lt, take}
use Rattle.std.proofs.Common.{ap, arith, refl, sym, ◌∙◌}
use Rattle.std.proofs.Math.ListN.{set}
use Rattle.std.proofs.Math.Seq.{take-append_seam, take-length}
use Rattle.std.proofs.lemmas.Bool.{ltb-false, ltb-true}
use Rattle.std.proofs.lemmas.List.{drop_all, length-drop, length-map}
use Rattle.wl_wire.specs.declared.argument.Argument.{Argument}
use Rattle.wl_wire.specs.declared.argument.Token.{Token}
use Rattle.wl_link.specs.Exchange.{Queue}
use Rattle.wl_link.specs.Mailbox.{MailboxState}
use Rattle.wl_follow.specs.Following.{FollowState, came_from}
use Rattle.wl_follow.specs.Sides.{other_side}
use Rattle.wl_follow.specs.declared.side.Side.{Side}
use Rattle.wl_flat.proofs.Flattening.{front_more}
use Rattle.wl_flat.specs.Arguments.{bytes_of}
use Rattle.wl_flat.specs.Descriptors.{Descriptors, without}
use Rattle.wl_flat.specs.Flat.{over_front}
use Rattle.wl_flat.specs.Sending.{descriptors_of, shown}
use Rattle.wl_flat.specs.Told.{as_tokens, token_of, told_argument, told_arguments, waiting_in, with_said}
use Rattle.wl_flat.specs.declared.flat.FlatArgument.{FlatArgument}
use Rattle.wl_flat.specs.declared.telling.Telling.{Telling}

-- ---- what waits

-- so many fewer are left as there are
drop_min : {A : Type 0} (n k : ℕ) (xs : List A) → k ≡ length xs → drop (min n k) xs ≡ drop n xs
drop_min n k xs is = by (nat_lt k n) refl
  where
    by : (b : Bool) → nat_lt k n ≡ b → drop (min n k) xs ≡ drop n xs
    by false test =
        let le : n ≤ k = ltb-false k n test in
        let m : min n k ≡ n = omega (arith, le) in ap (λ (i : ℕ). drop i xs) m
    by true test =
        let lt : k < n = ltb-true k n test in
        let m : min n k ≡ k = omega (arith, lt) in
        ap (λ (i : ℕ). drop i xs) m ∙ drop_all k xs (omega (arith, is)) ∙ sym (drop_all n xs (omega (arith, is, lt)))

-- what a slice from there on has
pub rest_of_slice : {A : Type 0} (n b : ℕ) (xs ys : List A) → xs ≡ ys → b ≡ min n (length xs) → take (length xs - b) (drop b xs) ≡ drop n ys
rest_of_slice n b xs ys same is =
    ap (λ (k : ℕ). take k (drop b xs)) (sym (length-drop b xs)) ∙ take-length (drop b xs)
    ∙ ap (λ (k : ℕ). drop k xs) is ∙ drop_min n (length xs) xs refl ∙ ap (drop n) same

length_shown : (q : Descriptors) (ts : List Token) → length (map shown (descriptors_of q ts)) ≡ length ts
length_shown q [] = refl
length_shown q (t ∷ ts) = ap suc (length_shown (without q t) ts)

-- the descriptors of the tokens stand at the front of where they were copied to
copied_front : (q : Descriptors) (ts : List Token) (zs to : List ℤ) → to ≡ over_front (map shown (descriptors_of q ts)) zs
    → take (length ts) to ≡ map shown (descriptors_of q ts)
copied_front q ts zs to is =
    let xs : List ℤ = map shown (descriptors_of q ts) in
    ap (λ (n : ℕ). take n to) (sym (length_shown q ts)) ∙ ap (take (length xs)) is ∙ take-append_seam xs (drop (length xs) zs)

length_waiting : (q : Descriptors) (ts : List Token) → length (as_tokens (map shown (descriptors_of q ts))) ≡ length ts
length_waiting q ts = length-map (map shown (descriptors_of q ts)) token_of ∙ length_shown q ts

-- the tokens that the follower does not have, as they are appended
pub new_tokens : (n b : ℕ) (q : Descriptors) (ws ts : List Token) (to zs : List ℤ) (tokens : List Token) → ws ≡ ts
    → to ≡ over_front (map shown (descriptors_of q ws)) zs → tokens ≡ as_tokens (take (length ws) to) → b ≡ min n (length ws)
    → take (length tokens - b) (drop b tokens) ≡ drop n (as_tokens (map shown (descriptors_of q ts)))
new_tokens n b q ws ts to zs tokens same to_is tokens_is is =
    let all : tokens ≡ as_tokens (map shown (descriptors_of q ws)) = tokens_is ∙ ap as_tokens (copied_front q ws zs to to_is) in
    let long : length tokens ≡ length ws = ap length all ∙ length_waiting q ws in
    rest_of_slice n b tokens (as_tokens (map shown (descriptors_of q ts)))
    (all ∙ ap (λ (x : List Token). as_tokens (map shown (descriptors_of q x))) same)
    (is ∙ ap (λ (k : ℕ). min n k) (sym long))

pub says_waiting : (t : Telling) (peer side : Side) (m : MailboxState) (q : Descriptors) (f : FollowState) (b k : ℕ) (bytes : List ℕ) (tokens : List Token)
    → side ≡ other_side peer → b ≡ length m.waiting.bytes → k ≡ length m.waiting.tokens → bytes ≡ drop t.said m.waiting.bytes
    → tokens ≡ drop t.said_tokens (as_tokens (map shown (descriptors_of q m.waiting.tokens)))
    → f ≡ came_from side (record { bytes = bytes; tokens = tokens }) t.follower
    → ◌≡◌ {A = Telling} (record { follower = f; said = b; said_tokens = k; kept = t.kept }) (with_said peer (waiting_in m q) t)
says_waiting t peer side m q f b k bytes tokens side_is b_is k_is bytes_is tokens_is came =
    let u : Queue = record { bytes = drop t.said m.waiting.bytes; tokens = drop t.said_tokens (as_tokens (map shown (descriptors_of q m.waiting.tokens))) } in
    let queue : ◌≡◌ {A = Queue} (record { bytes = bytes; tokens = tokens }) u =
    ap (λ (x : List ℕ). let y : Queue = record { bytes = x; tokens = tokens } in y) bytes_is
    ∙ ap (λ (x : List Token). let y : Queue = record { bytes = drop t.said m.waiting.bytes; tokens = x } in y) tokens_is in
    let follower : f ≡ came_from (other_side peer) u t.follower =
    came ∙ ap (λ (s : Side). came_from s (record { bytes = bytes; tokens = tokens }) t.follower) side_is ∙ ap (λ (x : Queue). came_from (other_side peer) x t.follower) queue in
    ap (λ (g : FollowState). let x : Telling = record { follower = g; said = b; said_tokens = k; kept = t.kept } in x) follower
    ∙ ap (λ (n : ℕ). let x : Telling = record { follower = came_from (other_side peer) u t.follower; said = n; said_tokens = k; kept = t.kept } in x) b_is
    ∙ ap (λ (n : ℕ). let x : Telling = record { follower = came_from (other_side peer) u t.follower; said = length m.waiting.bytes; said_tokens = n; kept = t.kept } in x)
    (k_is ∙ sym (length_waiting q m.waiting.tokens))

-- ---- what is told

pub told_more : (f : FollowState) (xs : List FlatArgument) (n : ℕ) (y : FlatArgument) (at bt : ℕ) (args rest : List (Argument ℕ Token)) (a : Argument ℕ Token) (all : List FlatArgument)
    → n < length xs → args ≡ a ∷ rest → y ≡ told_argument f at a → bt ≡ at + length (bytes_of a)
    → take n xs ++ told_arguments f at args ≡ all → take (n + 1) (set xs n y) ++ told_arguments f bt rest ≡ all
told_more f xs n y at bt args rest a all h d e b w =
    rw (e, b) (front_more xs n (told_argument f at a) (told_arguments f (at + length (bytes_of a)) rest) all h (rw d at w))
