-- What holds of the ids and the notes of every history: laws over the changes of its steps.
use Rattle.std.proofs.Common.{◌≡◌, ◌≢◌, ℕ, Bool, List, [], ◌∷◌, ◌++◌, is_some, IsSome, AllPairs, refl, sym, ap, subst, ◌∙◌, append-nil, append_assoc, map, arith}
use Rattle.wl_wire.specs.Table.{InterfaceRow}
use Rattle.wl_link.specs.declared.object.Object.{Object}
use Rattle.wl_link.proofs.Ids.EndsLaw.{ends_once_law, run_keeps_joins, run_leads, run_owns}
use Rattle.wl_link.specs.Identity.{Change, Born, Gone, Wrote, Ended, Made, Id, OwnsExactly, RunEnds, first_objects, counted_id, ended_in, ended_over}
use Rattle.wl_link.proofs.Ids.IdentityLaw.{identity_law}
use Rattle.wl_link.proofs.Ids.NamedLaw.{named_law, none_again_law}
use Rattle.wl_client.specs.declared.objects.Kept.{Kept}
use Rattle.wl_client.specs.declared.objects.Note.{Note}
use Rattle.wl_client.specs.ObjectId.{IdParts}
use Rattle.wl_client.proofs.OverRuns.ChangeLaws.{deed_moves, each_all, note_ids_both}
use Rattle.wl_client.proofs.OverRuns.FailedLaws.{IsKept, stays_failed}
use Rattle.wl_client.specs.Accounts.{IsAccountedFor, IsPoint}
use Rattle.wl_client.specs.Handed.{Follows, HasOwnIds, ended_notes, is_over, note_ids, notes_by}
use Rattle.wl_client.specs.Histories.{Deed, History}
use Rattle.wl_client.specs.Objects.{info_in, info_of}
use Rattle.wl_client.specs.Named.{KeepsNaming}
use Rattle.wl_client.specs.Noted.{NotesWhatEnded, all_ended_notes, notes_of}
use Rattle.wl_client.specs.Session.{IsConnected, SessionState, alive, display_object, id_at, id_of, named, noted, objects_of, serial_of}
use Rattle.wl_client.specs.Steps.{Making}

-- ---- the numbers and serials of notes

abbrev ids_of : List Note → List Id
ids_of notes = map id_of (note_ids notes)

ids_both : (notes others : List Note) → ids_of (notes ++ others) ≡ ids_of notes ++ ids_of others
ids_both notes others = ap (map id_of) (note_ids_both notes others) ∙ map_both (note_ids notes) (note_ids others)
  where
    map_both : (ids others : List IdParts) → map id_of (ids ++ others) ≡ map id_of ids ++ map id_of others
    map_both [] others = refl
    map_both (id ∷ ids) others = ap (λ is. id_of id ∷ is) (map_both ids others)

-- ---- the changes of a history

module _ {T U : Type 0} (makes : Making T U) (kept : IsKept makes) where
  -- the changes of a history
  record RunMoves (s : SessionState T U) (deeds : List (Deed T U)) (after : SessionState T U) : Type 0 where
    changes : List (List (Change (Kept U)))
    owns : RunEnds serial_of is_over (objects_of s) changes (objects_of after)
    follows : Follows makes s deeds changes after

  run_moves : (s : SessionState T U) (deeds : List (Deed T U)) (after : SessionState T U) → History makes s deeds after → RunMoves s deeds after
  run_moves s [] after same = record { changes = []; owns = ap objects_of same; follows = same }
  run_moves s (d ∷ deeds) after (mid, by, leads) =
      let first = deed_moves makes kept.moves s d mid by in
      let rest = run_moves mid deeds after leads in
      record {
        changes = first.changes ∷ rest.changes;
        owns = (objects_of mid, first.owns, rest.owns);
        follows = (mid, by, first.owns, each_all _ _ first.handed, first.notes, each_all _ _ first.noted, rest.follows);
      }

  -- from the connecting on, the objects begin as the display alone
  from_display : (table : List InterfaceRow) (transport : T) (before after : SessionState T U) → IsConnected table transport before
      → (changes : List (List (Change (Kept U)))) → RunEnds serial_of is_over (objects_of before) changes (objects_of after)
      → RunEnds serial_of is_over (first_objects display_object) changes (objects_of after)
  from_display table transport before after (link, fresh, same) changes owns =
      subst (λ o. RunEnds serial_of is_over o changes (objects_of after)) (ap objects_of same) owns

  -- where something is known of an id, it names an object
  known_named : (s : SessionState T U) (id : IdParts) → IsSome (info_of s id) → IsSome (named s.store id)
  known_named s id known = grind (arith, named, info_in, alive)

  -- changes of a history from the connecting on make its ids its own
  own_by : (table : List InterfaceRow) (transport : T) (before after : SessionState T U) (deeds : List (Deed T U)) → IsConnected table transport before
      → (changes : List (List (Change (Kept U)))) → RunEnds serial_of is_over (objects_of before) changes (objects_of after) → Follows makes before deeds changes after
      → HasOwnIds makes before deeds after
  own_by table transport before after deeds connected changes ends follows =
      let owns = from_display table transport before after connected changes ends in
      let identity = identity_law serial_of display_object refl changes (objects_of after)
      (run_leads serial_of (OwnsExactly is_over) (first_objects display_object) (objects_of after) changes owns) in
      record {
        changes = changes;
        follows = follows;
        ends_so = owns;
        identity = identity;
        info = λ id birth made known. (identity.own (id_of id) birth made).0 (known_named after id known);
      }

  -- every history from the connecting on has ids of its own
  pub own_ids : (table : List InterfaceRow) (transport : T) (before after : SessionState T U) (deeds : List (Deed T U))
      → IsConnected table transport before → History makes before deeds after → HasOwnIds makes before deeds after
  own_ids table transport before after deeds connected leads =
      let moves = run_moves before deeds after leads in
      own_by table transport before after deeds connected moves.changes moves.owns moves.follows

  -- ---- from a point of a history on

  follows_joins : (s mid after : SessionState T U) (deeds others : List (Deed T U)) (changes rest : List (List (Change (Kept U))))
      → Follows makes s deeds changes mid → Follows makes mid others rest after → Follows makes s (deeds ++ others) (changes ++ rest) after
  follows_joins s mid after [] others [] rest same behind = subst (λ (x : SessionState T U). Follows makes x others rest after) same behind
  follows_joins s mid after [] others (changes ∷ more) rest follows behind = absurd follows
  follows_joins s mid after (d ∷ deeds) others [] rest follows behind = absurd follows
  follows_joins s mid after (d ∷ deeds) others (changes ∷ more) rest (next, by, owns, handed, notes, noted, follows) behind =
      (next, by, owns, handed, notes, noted, follows_joins next mid after deeds others more rest follows behind)

  -- each id that names an object at a point of a history names that object from there on
  pub keeps_naming : (table : List InterfaceRow) (transport : T) (begun point after : SessionState T U) (done later : List (Deed T U))
      → IsConnected table transport begun → History makes begun done point → History makes point later after → KeepsNaming makes begun done point later after
  unfolding own_by
  keeps_naming table transport begun point after done later connected first others =
      let moves = run_moves begun done point first in
      let more = run_moves point later after others in
      let ends = from_display table transport begun point connected moves.changes moves.owns in
      record {
        ids = own_by table transport begun after (done ++ later) connected (moves.changes ++ more.changes)
            (run_keeps_joins serial_of (OwnsExactly is_over) (objects_of begun) (objects_of point) (objects_of after) moves.changes more.changes moves.owns more.owns)
            (follows_joins begun point after done later moves.changes more.changes moves.follows more.follows);
        first = moves.changes;
        rest = more.changes;
        split = refl;
        before = moves.follows;
        after_point = more.follows;
        stays = λ id named. named_law serial_of display_object refl moves.changes more.changes (objects_of point) (objects_of after)
            (run_leads serial_of (OwnsExactly is_over) (first_objects display_object) (objects_of point) moves.changes ends)
            (run_leads serial_of (OwnsExactly is_over) (objects_of point) (objects_of after) more.changes more.owns) (id_of id) named;
      }

  -- and where it names none, it names none ever after
  pub names_none_again : (table : List InterfaceRow) (transport : T) (begun point mid after : SessionState T U) (done between later : List (Deed T U))
      → IsConnected table transport begun → History makes begun done point → History makes point between mid → History makes mid later after
      → (id : IdParts) → IsSome (named point.store id) → ¬ IsSome (named mid.store id) → ¬ IsSome (named after.store id)
  names_none_again table transport begun point mid after done between later connected first second third id =
      let moves = run_moves begun done point first in
      let more = run_moves point between mid second in
      let last = run_moves mid later after third in
      let ends = from_display table transport begun point connected moves.changes moves.owns in
      none_again_law serial_of display_object refl moves.changes more.changes last.changes (objects_of point) (objects_of mid) (objects_of after)
      (run_leads serial_of (OwnsExactly is_over) (first_objects display_object) (objects_of point) moves.changes ends)
      (run_leads serial_of (OwnsExactly is_over) (objects_of point) (objects_of mid) more.changes more.owns)
      (run_leads serial_of (OwnsExactly is_over) (objects_of mid) (objects_of after) last.changes last.owns) (id_of id)

  -- ---- notes

  -- the notes that are handed out, and those that wait, are those that waited and those of what ended
  notes_follow : (s : SessionState T U) (deeds : List (Deed T U)) (changes : List (List (Change (Kept U)))) (after : SessionState T U)
      → Follows makes s deeds changes after → notes_of deeds ++ after.notes ≡ s.notes ++ all_ended_notes changes
  notes_follow s [] [] after same = ap (λ (a : SessionState T U). a.notes) same ∙ sym (append-nil s.notes)
  notes_follow s [] (changes ∷ rest) after follows = absurd follows
  notes_follow s (d ∷ deeds) [] after follows = absurd follows
  notes_follow s (d ∷ deeds) (changes ∷ rest) after (mid, by, owns, handed, notes, noted, follows) = grind (arith, append_assoc, notes_by, notes_of, all_ended_notes, ended_notes, notes_follow mid deeds rest after follows)

  -- an object counts that has user data
  abbrev has_data : Object (Kept U) → Bool
  has_data x = is_some x.value.user_data

  counted : (n : ℕ) (x : Object (Kept U)) → ids_of (noted [] x.value.user_data (id_at n x)) ≡ counted_id serial_of has_data n x
  counted n x = grind (arith, noted, id_at, is_some, id_of)

  ids_ended : (changes : List (Change (Kept U))) → ids_of (ended_notes changes) ≡ ended_in serial_of has_data changes
  ids_ended [] = refl
  ids_ended (Born n x ∷ rest) = ids_ended rest
  ids_ended (Gone n ∷ rest) = ids_ended rest
  ids_ended (Wrote n x ∷ rest) = ids_ended rest
  ids_ended (Made id ∷ rest) = ids_ended rest
  ids_ended (Ended n x left ∷ rest) = grind (arith, ids_both, noted, id_at, ended_notes, counted, counted_id, serial_of, ids_ended rest)

  ids_ended_over : (steps : List (List (Change (Kept U)))) → ids_of (all_ended_notes steps) ≡ ended_over serial_of has_data steps
  ids_ended_over [] = refl
  ids_ended_over (changes ∷ rest) = grind (arith, ids_both, ended_notes, all_ended_notes, ids_ended, ended_in, serial_of, ids_ended_over rest)

  -- every history from the connecting on notes what ended
  pub notes_ended : (table : List InterfaceRow) (transport : T) (before after : SessionState T U) (deeds : List (Deed T U))
      → IsConnected table transport before → History makes before deeds after → NotesWhatEnded makes before deeds after
  notes_ended table transport before after deeds (link, fresh, same) leads =
      let ids = own_ids table transport before after deeds (link, fresh, same) leads in
      let none : before.notes ≡ [] = ap (λ (s : SessionState T U). s.notes) same in
      let exact : notes_of deeds ++ after.notes ≡ all_ended_notes ids.changes =
      notes_follow before deeds ids.changes after ids.follows ∙ ap (λ ns. ns ++ all_ended_notes ids.changes) none in
      record {
        ids = ids;
        exact = exact;
        once = subst (λ (is : List Id). AllPairs (λ a b. a ≢ b) is) (sym (ap ids_of exact ∙ ids_ended_over ids.changes))
            (ends_once_law serial_of is_over has_data display_object refl ids.changes (objects_of after)
            (run_owns serial_of is_over (first_objects display_object) (objects_of after) ids.changes ids.ends_so));
      }

  -- ---- the points of a history

  follows_ends : (s : SessionState T U) (deeds : List (Deed T U)) (changes : List (List (Change (Kept U)))) (after : SessionState T U)
      → Follows makes s deeds changes after → RunEnds serial_of is_over (objects_of s) changes (objects_of after)
  follows_ends s [] [] after same = ap objects_of same
  follows_ends s [] (changes ∷ rest) after follows = absurd follows
  follows_ends s (d ∷ deeds) [] after follows = absurd follows
  follows_ends s (d ∷ deeds) (changes ∷ rest) after (mid, by, owns, handed, notes, noted, follows) =
      (objects_of mid, owns, follows_ends mid deeds rest after follows)

  follows_leads : (s : SessionState T U) (deeds : List (Deed T U)) (changes : List (List (Change (Kept U)))) (after : SessionState T U)
      → Follows makes s deeds changes after → History makes s deeds after
  follows_leads s [] [] after same = same
  follows_leads s [] (changes ∷ rest) after follows = absurd follows
  follows_leads s (d ∷ deeds) [] after follows = absurd follows
  follows_leads s (d ∷ deeds) (changes ∷ rest) after (mid, by, owns, handed, notes, noted, follows) =
      (mid, by, follows_leads mid deeds rest after follows)

  -- the changes of a history that is divided, and the point between
  record Divided (s : SessionState T U) (done later : List (Deed T U)) (changes : List (List (Change (Kept U)))) (after : SessionState T U) : Type 0 where
    point : SessionState T U
    first : List (List (Change (Kept U)))
    rest : List (List (Change (Kept U)))
    split : changes ≡ first ++ rest
    before : Follows makes s done first point
    after_point : Follows makes point later rest after

  divided : (s : SessionState T U) (done later : List (Deed T U)) (changes : List (List (Change (Kept U)))) (after : SessionState T U)
      → Follows makes s (done ++ later) changes after → Divided s done later changes after
  divided s [] later changes after follows = record { point = s; first = []; rest = changes; split = refl; before = refl; after_point = follows }
  divided s (d ∷ done) later [] after follows = absurd follows
  divided s (d ∷ done) later (changes ∷ more) after (mid, by, owns, handed, notes, noted, follows) =
      let r = divided mid done later more after follows in
      record {
        point = r.point;
        first = changes ∷ r.first;
        rest = r.rest;
        split = ap (λ (steps : List (List (Change (Kept U)))). changes ∷ steps) r.split;
        before = (mid, by, owns, handed, notes, noted, r.before);
        after_point = r.after_point;
      }

  is_point : (table : List InterfaceRow) (transport : T) (begun after : SessionState T U) (done later : List (Deed T U)) (changes : List (List (Change (Kept U))))
      → IsConnected table transport begun → Follows makes begun (done ++ later) changes after → IsPoint makes begun done later changes after
  is_point table transport begun after done later changes connected follows =
      let r = divided begun done later changes after follows in
      let ends = from_display table transport begun r.point connected r.first (follows_ends begun done r.first r.point r.before) in
      let more = follows_ends r.point later r.rest after r.after_point in
      record {
        point = r.point;
        first = r.first;
        rest = r.rest;
        split = r.split;
        before = r.before;
        after_point = r.after_point;
        stays = λ id named. named_law serial_of display_object refl r.first r.rest (objects_of r.point) (objects_of after)
            (run_leads serial_of (OwnsExactly is_over) (first_objects display_object) (objects_of r.point) r.first ends)
            (run_leads serial_of (OwnsExactly is_over) (objects_of r.point) (objects_of after) r.rest more) (id_of id) named;
        failed = λ failed. stays_failed makes kept r.point after later failed (follows_leads r.point later r.rest after r.after_point);
      }

  -- every history from the connecting on is accounted for
  pub accounted : (table : List InterfaceRow) (transport : T) (begun after : SessionState T U) (deeds : List (Deed T U))
      → IsConnected table transport begun → History makes begun deeds after → IsAccountedFor makes begun deeds after
  accounted table transport begun after deeds connected leads =
      let notes = notes_ended table transport begun after deeds connected leads in
      record {
        notes = notes;
        points = λ done later split. is_point table transport begun after done later notes.ids.changes connected
            (subst (λ (all : List (Deed T U)). Follows makes begun all notes.ids.changes after) split notes.ids.follows);
      }
