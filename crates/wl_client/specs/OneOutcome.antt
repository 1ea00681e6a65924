-- When two histories are of the same calls, and when their replies are the same.
use Rattle.std.specs.Prelude.{◌≡◌, false, List, [], ◌∷◌}
use Rattle.wl_wire.specs.Table.{refused_growth}
use Rattle.wl_client.specs.Histories.{Called, Changed, Deed, Grown}
use Rattle.wl_client.specs.Replies.{SameReply}

module _ {T U : Type 0} where
  -- The same calls were made, the transport became the same by the same changes, and the same was to be added to the table.
  -- Memory was not refused in any of them.
  abbrev pub SameDeeds : List (Deed T U) → List (Deed T U) → Type 0
  SameDeeds [] [] = Unit {0}
  SameDeeds (Called e ∷ deeds) (Called f ∷ others) = (e.step ≡ f.step) × (e.refused ≡ false) × (f.refused ≡ false) × SameDeeds deeds others
  SameDeeds (Changed t ∷ deeds) (Changed t' ∷ others) = (t ≡ t') × SameDeeds deeds others
  SameDeeds (Grown rows p ∷ deeds) (Grown rows' q ∷ others) =
      (rows ≡ rows') × (refused_growth p ≡ false) × (refused_growth q ≡ false) × SameDeeds deeds others
  SameDeeds _ _ = ⊥

  -- the calls had the same replies, and the growths of the table the same answers
  abbrev pub SameAnswers : List (Deed T U) → List (Deed T U) → Type 0
  SameAnswers [] [] = Unit {0}
  SameAnswers (Called e ∷ deeds) (Called f ∷ others) = SameReply e.answer f.answer × SameAnswers deeds others
  SameAnswers (Changed _ ∷ deeds) (Changed _ ∷ others) = SameAnswers deeds others
  SameAnswers (Grown _ p ∷ deeds) (Grown _ q ∷ others) = (p ≡ q) × SameAnswers deeds others
  SameAnswers _ _ = ⊥
