-- Turns one after another, and what is told after them.
use Rattle.std.specs.Prelude.{◌≡◌, List, [], ◌∷◌, ◌++◌}
use Rattle.std.proofs.Common.{refl, subst}
use Rattle.wl_wire.specs.Message.{WireMessage}
use Rattle.wl_wire.specs.Table.{InterfaceRow}
use Rattle.wl_link.specs.Exchange.{Queue}
use Rattle.wl_follow.specs.Following.{FollowState, IsExhausted, Tells, Turns, turned}
use Rattle.wl_follow.specs.declared.follower.Stretch.{Stretch}
use Rattle.wl_follow.specs.declared.follower.Told.{Told}

module _ (table : List InterfaceRow) where
  pub turns_join : (xs ys : List Stretch) (a b c : FollowState) → Turns table a xs b → Turns table b ys c → Turns table a (xs ++ ys) c
  turns_join [] ys a b c same more = subst (λ (f : FollowState). Turns table f ys c) same more
  turns_join (x ∷ xs) ys a b c (rest, is, none, turns) more = (rest, is, none, turns_join xs ys (turned x rest a) b c turns more)

  pub turns_more : (xs : List Stretch) (x : Stretch) (rest : List Stretch) (a b c : FollowState) → Turns table a xs b → IsExhausted table b → b.order ≡ x ∷ rest
      → c ≡ turned x rest b → Turns table a (xs ++ x ∷ []) c
  turns_more xs x rest a b c turns none is same = turns_join xs (x ∷ []) a b c turns (rest, is, none, same)

  pub tells_after : (xs : List Stretch) (a b c : FollowState) (told : Told) (m : WireMessage) (piece : Queue) → Turns table a xs b → Tells table b told m piece c
      → Tells table a told m piece c
  tells_after xs a b c told m piece turns tells = record {
    stretches = xs ++ tells.stretches;
    mid = tells.mid;
    objects = tells.objects;
    left = tells.left;
    turns = turns_join xs tells.stretches a b tells.mid turns tells.turns;
    side = tells.side;
    front = tells.front;
    after_is = tells.after_is;
  }

  pub told_after : (a b c : FollowState) (told : Told) (m : WireMessage) → (xs : List Stretch) × Turns table a xs b
      → (piece : Queue) × Tells table b told m piece c → (piece : Queue) × Tells table a told m piece c
  told_after a b c told m (xs, turns) (piece, tells) = (piece, tells_after xs a b c told m piece turns tells)

  pub turn_after : (a b b1 c : FollowState) → (xs : List Stretch) × Turns table a xs b → IsExhausted table b × (b1 ≡ b)
      → (x : Stretch) × (rest : List Stretch) × (b1.order ≡ x ∷ rest) × (c ≡ turned x rest b1) → (xs : List Stretch) × Turns table a xs c
  turn_after a b b1 c (xs, turns) (none, same) (x, rest, is, after) = (
    xs ++ x ∷ [],
    turns_more xs x rest a b c turns none
        (subst (λ (f : FollowState). f.order ≡ x ∷ rest) same is)
        (subst (λ (f : FollowState). c ≡ turned x rest f) same after),
  )
