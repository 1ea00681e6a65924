-- The ids of the objects that leave their numbers over a history, and those that the session tells.
--
-- The changes of a step (`Handed`) say which objects leave their numbers in it, and in which order.
use Rattle.std.specs.Prelude.{◌≡◌, ℕ, List, [], ◌∷◌, ◌++◌, true, Option, None, Some}
use Rattle.std.specs.Option.{option_to_list}
use Rattle.wl_link.specs.declared.object.Object.{Object}
use Rattle.wl_link.specs.Identity.{Born, Change, Ended, Gone, Made, Wrote}
use Rattle.wl_link.specs.Store.{Store, held, removed, rewritten, stored}
use Rattle.wl_client.specs.declared.objects.Kept.{Kept}
use Rattle.wl_client.specs.declared.step.Reply.{Reply}
use Rattle.wl_client.specs.declared.step.Reply.TheVariants as reply
use Rattle.wl_client.specs.declared.step.Step.{Step}
use Rattle.wl_client.specs.declared.step.Step.TheVariants as step
use Rattle.wl_client.specs.Handed.{Follows}
use Rattle.wl_client.specs.Histories.{Called, Changed, Deed, Grown}
use Rattle.wl_client.specs.ObjectId.{IdParts}
use Rattle.wl_client.specs.Session.{SessionState, id_at}
use Rattle.wl_client.specs.Steps.{Making}

-- ---- in a step

module _ {U : Type 0} where
  abbrev pub id_held : ℕ → Option (Object (Kept U)) → List IdParts
  id_held n None = []
  id_held n (Some x) = id_at n x ∷ []

  -- the ids of the objects that leave their numbers by these changes, in order
  abbrev pub freed_in : Store (Kept U) → List (Change (Kept U)) → List IdParts
  freed_in store [] = []
  freed_in store (Born n x ∷ rest) = freed_in (stored store n x) rest
  freed_in store (Gone n ∷ rest) = id_held n (held store n) ++ freed_in (removed store n) rest
  freed_in store (Wrote n x ∷ rest) = freed_in (rewritten store n x) rest
  freed_in store (Ended n x None ∷ rest) = id_at n x ∷ freed_in (removed store n) rest
  freed_in store (Ended n x (Some y) ∷ rest) = freed_in (rewritten store n y) rest
  freed_in store (Made id ∷ rest) = freed_in store rest

  -- the objects after them
  abbrev pub store_after : Store (Kept U) → List (Change (Kept U)) → Store (Kept U)
  store_after store [] = store
  store_after store (Born n x ∷ rest) = store_after (stored store n x) rest
  store_after store (Gone n ∷ rest) = store_after (removed store n) rest
  store_after store (Wrote n x ∷ rest) = store_after (rewritten store n x) rest
  store_after store (Ended n x None ∷ rest) = store_after (removed store n) rest
  store_after store (Ended n x (Some y) ∷ rest) = store_after (rewritten store n y) rest
  store_after store (Made id ∷ rest) = store_after store rest

  -- Of those that leave in a call, these are for the list: all but the one that `reclaim` takes out, which its answer tells.
  abbrev pub for_list : Step U → List IdParts → List IdParts
  for_list (step.Reclaim id) ids = []
  for_list _ ids = ids

  -- the id that a reply hands out from the list
  abbrev pub freed_taken : Reply U → List IdParts
  freed_taken (reply.NextFreed id) = option_to_list id
  freed_taken _ = []

  -- the call does not end the keeping of ids
  abbrev pub KeepsOn : Step U → Type 0
  KeepsOn (step.KeepFreed keeps) = keeps ≡ true
  KeepsOn _ = Unit {0}

module _ {T U : Type 0} where
  -- ---- over a history

  abbrev pub freed_for : Deed T U → List IdParts → List IdParts
  freed_for (Called e) ids = for_list e.step ids
  freed_for (Changed t) ids = ids
  freed_for (Grown growth answer) ids = ids

  abbrev pub freed_from : Deed T U → List IdParts
  freed_from (Called e) = freed_taken e.answer
  freed_from (Changed t) = []
  freed_from (Grown growth answer) = []

  abbrev pub GoesOnKeeping : Deed T U → Type 0
  GoesOnKeeping (Called e) = KeepsOn e.step
  GoesOnKeeping (Changed t) = Unit {0}
  GoesOnKeeping (Grown growth answer) = Unit {0}

  -- no deed ends the keeping of ids
  abbrev pub AllKeep : List (Deed T U) → Type 0
  AllKeep [] = Unit {0}
  AllKeep (d ∷ deeds) = GoesOnKeeping d × AllKeep deeds

  -- the ids of the objects that leave their numbers over the deeds with these changes, in order, but for those of `reclaim`
  abbrev pub freed_over : Store (Kept U) → List (Deed T U) → List (List (Change (Kept U))) → List IdParts
  freed_over store (d ∷ deeds) (changes ∷ rest) = freed_for d (freed_in store changes) ++ freed_over (store_after store changes) deeds rest
  freed_over store _ _ = []

  -- the ids that the replies of the deeds hand out from the list, in order
  abbrev pub freed_told : List (Deed T U) → List IdParts
  freed_told [] = []
  freed_told (d ∷ deeds) = freed_from d ++ freed_told deeds

module _ {T U : Type 0} (makes : Making T U) where
  -- The ids that waited, and then those of the objects that left their numbers over the history, are those that were handed out,
  -- and then those that wait after it.
  pub record TellsWhatLeft (begins : SessionState T U) (deeds : List (Deed T U)) (ends : SessionState T U) : Type 0 where
    pub changes : List (List (Change (Kept U)))
    pub follows : Follows makes begins deeds changes ends
    pub kept : ends.keeps_freed ≡ true
    pub exact : begins.freed ++ freed_over begins.store deeds changes ≡ freed_told deeds ++ ends.freed
