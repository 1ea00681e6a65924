-- What is left of what a side sent, once some of it was taken back.
use Rattle.std.specs.Prelude.{◌≡◌, ℕ, ◌+◌, ◌-◌, Bool, List, drop, length, max, take, true, if◌then◌else◌}
use Rattle.std.proofs.Common.{ap, sym, ◌∙◌}
use Rattle.std.proofs.lemmas.List.{drop-take}
use Rattle.wl_wire.specs.declared.argument.Token.{Token}
use Rattle.wl_follow.specs.Sent.{SentState, left_bytes, less_sent}

pub less_bytes : (xs ys : List ℕ) (start kept most : ℕ) → ys ≡ take (start + kept) xs → kept ≡ most → drop start ys ≡ take most (drop start xs)
less_bytes xs ys start kept most is same = ap (drop start) is ∙ drop-take start kept xs ∙ ap (λ (n : ℕ). take n (drop start xs)) same

pub sent_is : (b b' : List ℕ) (t t' : List Token) (r l : ℕ) (f : Bool) → b ≡ b' → t ≡ t'
    → ◌≡◌ {A = SentState} (record { bytes = b; tokens = t; ready = r; released = l; is_followed = f }) (record { bytes = b'; tokens = t'; ready = r; released = l; is_followed = f })
sent_is b b' t t' r l f bytes tokens =
    ap (λ (x : List ℕ). let s : SentState = record { bytes = x; tokens = t; ready = r; released = l; is_followed = f } in s) bytes
    ∙ ap (λ (x : List Token). let s : SentState = record { bytes = b'; tokens = x; ready = r; released = l; is_followed = f } in s) tokens

-- so it is of a side that is followed
pub less_is : (bytes tokens : ℕ) (s x : SentState) → s.is_followed ≡ true
    → x ≡ record s { bytes = take (left_bytes bytes s) s.bytes; tokens = take (length s.tokens - tokens) s.tokens }
    → x ≡ less_sent bytes tokens s
less_is bytes tokens s x on is =
    is ∙ ap (λ (b : Bool). if b then (record s { bytes = take (left_bytes bytes s) s.bytes; tokens = take (length s.tokens - tokens) s.tokens }) else s) (sym on)
