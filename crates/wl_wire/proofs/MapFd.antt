-- Replacing the descriptors of a message, from the last argument of the reversed list on.
use Rattle.std.proofs.Common.{◌≡◌, ◌++◌, ◌∷◌, [], List, length, drop, take, reverse, refl, sym, ap, ◌∙◌, ◌<◌, arith}
use Rattle.std.specs.List.{refill}
use Rattle.std.proofs.Math.Seq.{take-append_seam}
use Rattle.std.proofs.lemmas.List.{length-reverse, reverse-append}
use Rattle.wl_wire.specs.declared.argument.Argument.{Argument}
use Rattle.wl_wire.specs.MapFd.{MapsFd, MapsFds}

-- the places of a list that were written over from the front to the end
pub refill_whole : {X : Type 0} (xs ws : List X) → ws ≡ reverse xs → refill (length xs) xs ws ≡ reverse xs
refill_whole xs ws is =
    let long : length xs ≡ length ws = sym (length-reverse xs) ∙ ap length (sym is) in
    ap (λ n. take n (ws ++ drop (length ws) xs)) long ∙ take-append_seam ws (drop (length ws) xs) ∙ is

module _ {Id Fd T F : Type 0} (step : F → Fd → T → F → Type 0) where
  -- the last of the reversed list is the first
  pub MapsFds-popped : (f h last : F) (old left : List (Argument Id Fd)) (a : Argument Id Fd) (b : Argument Id T) (rest : List (Argument Id T)) → old ≡ left ++ a ∷ []
      → MapsFd step f a b h → MapsFds step h (reverse left) rest last → MapsFds step f (reverse old) (b ∷ rest) last
  MapsFds-popped f h last old left a b rest is one others =
      let turned : reverse old ≡ a ∷ reverse left = ap reverse is ∙ reverse-append left (a ∷ []) in
      rw turned (h, one, others)

  -- nothing is left
  pub MapsFds-done : (f : F) (old : List (Argument Id Fd)) → ¬ (0 < length old) → MapsFds step f (reverse old) [] f
  MapsFds-done f [] none = refl
  MapsFds-done f (a ∷ old) none = absurd (none (omega arith))
