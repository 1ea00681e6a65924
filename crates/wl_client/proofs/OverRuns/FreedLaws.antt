-- The ids of the objects that leave their numbers, over every history.
use Rattle.std.proofs.Common.{◌≡◌, true, List, [], ◌∷◌, ◌++◌, refl, sym, ap, ◌∙◌, append-nil, append_assoc}
use Rattle.wl_link.specs.Store.{Store}
use Rattle.wl_client.specs.declared.objects.Kept.{Kept}
use Rattle.wl_client.proofs.OverRuns.ChangeLaws.{deed_moves, each_all, store_ends}
use Rattle.wl_client.proofs.OverRuns.FailedLaws.{IsKept}
use Rattle.wl_client.specs.Freed.{AllKeep, TellsWhatLeft, freed_for, freed_from, freed_in, freed_over, freed_told, store_after}
use Rattle.wl_client.specs.Histories.{Deed, History}
use Rattle.wl_client.specs.ObjectId.{IdParts}
use Rattle.wl_client.specs.Session.{SessionState, objects_of}
use Rattle.wl_client.specs.Steps.{Making}

module _ {T U : Type 0} (makes : Making T U) (kept : IsKept makes) where
  -- while they are kept, those that leave are told
  pub tells_what_left : (before after : SessionState T U) (deeds : List (Deed T U)) → before.keeps_freed ≡ true → AllKeep deeds → History makes before deeds after
      → TellsWhatLeft makes before deeds after
  tells_what_left before after [] on keeps same = record {
    changes = [];
    follows = same;
    kept = ap (λ (a : SessionState T U). a.keeps_freed) same ∙ on;
    exact = append-nil before.freed ∙ sym (ap (λ (a : SessionState T U). a.freed) same);
  }
  tells_what_left before after (d ∷ deeds) on keeps (mid, by, leads) =
      let first = deed_moves makes kept.moves before d mid by in
      let told = first.freed on keeps.0 in
      let rest = tells_what_left mid after deeds told.0 keeps.1 leads in
      let left : List IdParts = freed_for d (freed_in before.store first.changes) in
      let later : Store (Kept U) → List IdParts = λ store. freed_over store deeds rest.changes in
      let out : List IdParts = freed_from d in
      record {
        changes = first.changes ∷ rest.changes;
        follows = (mid, by, first.owns, each_all _ _ first.handed, first.notes, each_all _ _ first.noted, rest.follows);
        kept = rest.kept;
        exact = sym (append_assoc before.freed left (later (store_after before.store first.changes)))
            ∙ ap (λ ids. ids ++ later (store_after before.store first.changes)) told.1
            ∙ append_assoc out mid.freed (later (store_after before.store first.changes))
            ∙ ap (λ (store : Store (Kept U)). out ++ (mid.freed ++ later store)) (sym (store_ends (objects_of before) first.changes (objects_of mid) first.owns))
            ∙ ap (λ ids. out ++ ids) rest.exact
            ∙ sym (append_assoc out (freed_told deeds) after.freed);
      }
