-- The changes of a client's objects in each call: an induction over base moves, over which the laws of ids stand.
use Rattle.std.proofs.Common.{arith, ◌≡◌, ◌≢◌, ◌⊎◌, ℕ, ◌+◌, Bool, true, List, [], ◌∷◌, ◌++◌, None, Some, is_some, IsSome, Option, Result, refl, sym, ap, subst, ◌∙◌, append_assoc}
use Rattle.std.proofs.lemmas.Option.{none-some}
use mathlib.Core.Logic.{inl, inr}
use Rattle.wl_wire.specs.declared.error.IoFault.{IoFault}
use Rattle.wl_link.specs.declared.object.Object.{Object}
use Rattle.wl_link.proofs.Ids.EndsLaw.{keeps_joins}
use Rattle.wl_link.specs.Exchange.{Queue}
use Rattle.wl_link.specs.Identity.{Born, Change, Ended, Made, Objects, StepEnds, Wrote, counted_id, ended_in, named_in, names, Found, HandedId, New}
use Rattle.wl_link.proofs.Ids.IdentityLaw.{born_first, born_later, made_first, made_later}
use Rattle.wl_link.specs.Store.{Store, held, removed, rewritten, stored}
use Rattle.wl_link.proofs.Ids.StoreLaws.{removed_other, rewritten_other, stored_here, stored_other}
use Rattle.wl_server_client.specs.declared.objects.Kept.{Kept}
use Rattle.wl_server_client.specs.declared.notes.Happening.{Happening}
use Rattle.wl_server_client.specs.Chosen.{with_version}
use Rattle.wl_server_client.specs.Deeds.{IsAmong}
use Rattle.wl_server_model.proofs.OverRuns.Moves.BaseMoves.{Doings, Goes, Moves, any, end_notes, followed, handed_out, handing, joined, leaving, left_by, left_id, moved, nothing_done, notes_taken, noting, stayed, taken_out, unfelt, within}
use Rattle.wl_server_model.specs.Identified.{AreObjectsOf, IsHandedIn, IsNotedIn, has_data, is_over, waiting_of}
use Rattle.wl_server_client.specs.Ids.{ClientParts, IdParts}
use Rattle.wl_server_model.proofs.OverRuns.Ids.AmongLaws.{among_both, among_first, among_later}
use Rattle.wl_server_client.specs.Part.{Part, id_at, id_of, note_of_end, objects_of, serial_of, with_user_data}
use Rattle.wl_server_model.specs.Server.{Seen}

-- ---- ids

module _ {U : Type 0} where
  ended_both : (changes others : List (Change (Kept U)))
      → ended_in serial_of has_data (changes ++ others) ≡ ended_in serial_of has_data changes ++ ended_in serial_of has_data others
  ended_both [] others = refl
  ended_both (Ended n x left ∷ changes) others = grind (arith, counted_id, serial_of, has_data, append_assoc, ended_in, ended_both changes others)
  ended_both (_ ∷ changes) others = ended_both changes others

  -- an object is named by its id
  id_names : (client : ClientParts) (store : Store (Kept U)) (n : ℕ) (x : Object (Kept U)) → n ≢ 0 → held store n ≡ Some x
      → IsSome (names serial_of (id_of (id_at client n x)) store)
  id_names client store n x ne e = grind (arith, is_some, named_in, serial_of, id_of, id_at, held)

  -- the taken, the made and the waiting notes
  pub in_three : (a b c : List (Happening U)) (h : Happening U) → IsAmong (a ++ (b ++ c)) h → IsAmong a h ⊎ (IsAmong b h ⊎ IsAmong c h)
  in_three a b c h among = elim (among_both a (b ++ c) h among) [ inl first ↦ inl first | inr rest ↦ inr (among_both b c h rest) ]

-- ---- moves

module _ {T U C : Type 0} (sends : T → Queue → Result ℕ IoFault → T → Type 0) (receives : T → ℕ → Result Queue IoFault → T → Type 0)
    (client : ClientParts) where
  -- the changes of the objects, in which the ids are handed out; a note waited before, or its object leaves
  pub record Changing (p : Part T U C) (d : Doings U) (q : Part T U C) : Type 0 where
    pub changes : List (Change (Kept U))
    pub ends : StepEnds serial_of is_over (objects_of p) changes (objects_of q)
    pub handed : (h : HandedId IdParts) → IsAmong d.handed h → IsHandedIn client changes h
    pub left : d.left ≡ ended_in serial_of has_data changes
    pub noted : (h : Happening U) → IsAmong d.notes h → IsAmong p.waiting h ⊎ IsNotedIn client changes h
    pub waits : (h : Happening U) → IsAmong q.waiting h → IsAmong p.waiting h ⊎ IsNotedIn client changes h
    pub empty : held q.store 0 ≡ None

  changing_so : (p q q' : Part T U C) (d d' : Doings U) → d' ≡ d → q' ≡ q → Changing p d q → Changing p d' q'
  changing_so p q q' d d' is same changing = grind (arith)

  -- the objects and the notes that wait stay, and nothing is noted of an object
  quiet : (p q : Part T U C) (d : Doings U) → held p.store 0 ≡ None → objects_of q ≡ objects_of p → q.waiting ≡ p.waiting → d.handed ≡ []
      → d.left ≡ []
      → ((h : Happening U) → IsAmong d.notes h → IsNotedIn client [] h) → Changing p d q
  quiet p q d empty same waits none_handed none_left none_noted = grind (arith, held)

  then_changing : (p m q : Part T U C) (a b : Doings U) → Changing p a m → Changing m b q → Changing p (joined a b) q
  then_changing p m q a b first second = grind (arith, keeps_joins, serial_of, is_over, objects_of, among_both, made_first, id_of, born_first, made_later, born_later, ended_in, has_data, ended_both)

  born_changing : (p : Part T U C) (n : ℕ) (x : Object (Kept U)) → held p.store 0 ≡ None → held p.store n ≡ None → n ≢ 0
      → x.value.serial ≡ p.last_serial + 1
      → Changing p (handing (New (id_at client n x) ∷ [])) (record p { store = stored p.store n x; last_serial = p.last_serial + 1 })
  born_changing p n x empty free ne serial =
      let after : Objects (Kept U) = record { store = stored p.store n x; last_serial = p.last_serial + 1 } in
      record {
        changes = Born n x ∷ Made (id_of (id_at client n x)) ∷ [];
        ends = (after, (free, serial, refl), tt, (after, (id_names client after.store n x ne (stored_here p.store n x n refl), refl), tt, refl));
        handed = grind (arith, id_of, id_at);
        left = refl;
        noted = λ h among. absurd among;
        waits = λ h among. inl among;
        empty = stored_other p.store n x 0 (λ same. ne (sym same)) ∙ empty;
      }

  found_changing : (p : Part T U C) (n : ℕ) (x : Object (Kept U)) → held p.store 0 ≡ None → held p.store n ≡ Some x
      → Changing p (handing (Found (id_at client n x) ∷ [])) p
  found_changing p n x empty holds = record {
    changes = Made (id_of (id_at client n x)) ∷ [];
    ends =
        (objects_of p, (id_names client p.store n x (λ same. none-some _ (sym empty ∙ ap (held p.store) (sym same) ∙ holds)) holds, refl), tt, refl);
    handed = grind (arith, id_of, id_at);
    left = refl;
    noted = λ h among. absurd among;
    waits = λ h among. inl among;
    empty = empty;
  }

  wrote_changing : (p : Part T U C) (n : ℕ) (x : Object (Kept U)) (u : U) → held p.store 0 ≡ None → held p.store n ≡ Some x
      → Changing p nothing_done (record p { store = rewritten p.store n (with_user_data u x) })
  wrote_changing p n x u empty holds = record {
    changes = Wrote n (with_user_data u x) ∷ [];
    ends = (record { store = rewritten p.store n (with_user_data u x); last_serial = p.last_serial }, ((x, holds, refl), refl), λ y is. refl, refl);
    handed = λ h among. absurd among;
    left = refl;
    noted = λ h among. absurd among;
    waits = λ h among. inl among;
    empty = rewritten_other p.store n (with_user_data u x) 0 (λ same. (none-some _ (sym empty ∙ ap (held p.store) (sym (sym same)) ∙ holds))) ∙ empty;
  }

  versioned_changing : (p : Part T U C) (n : ℕ) (x : Object (Kept U)) (version : ℕ) → held p.store 0 ≡ None → held p.store n ≡ Some x
      → Changing p nothing_done (record p { store = rewritten p.store n (with_version version x) })
  versioned_changing p n x version empty holds = record {
    changes = Wrote n (with_version version x) ∷ [];
    ends = (record { store = rewritten p.store n (with_version version x); last_serial = p.last_serial }, ((x, holds, refl), refl), λ y is. refl, refl);
    handed = λ h among. absurd among;
    left = refl;
    noted = λ h among. absurd among;
    waits = λ h among. inl among;
    empty = rewritten_other p.store n (with_version version x) 0 (λ same. (none-some _ (sym empty ∙ ap (held p.store) (sym (sym same)) ∙ holds))) ∙ empty;
  }

  went_changing : (p : Part T U C) (n : ℕ) (x : Object (Kept U)) (waits : Bool) → held p.store 0 ≡ None → held p.store n ≡ Some x
      → Changing p (leaving client waits n x) (left_by client waits p n x)
  went_changing p n x waits empty holds = record {
    changes = changes;
    ends = (
      objects_of p,
      (id_names client p.store n x (λ same. none-some _ (sym empty ∙ ap (held p.store) (sym same) ∙ holds)) holds, refl),
      tt,
      (record { store = removed p.store n; last_serial = p.last_serial }, (holds, refl), refl, refl),
    );
    handed = λ h among. absurd among;
    left = grind (arith, left_id, id_of, id_at, is_some);
    noted = λ h among. (grind (arith, changes, id_at));
    waits = λ h among. (grind (arith, among_both, note_of_end, changes, id_at));
    empty = removed_other p.store n 0 (λ same. (none-some _ (sym empty ∙ ap (held p.store) (sym (sym same)) ∙ holds))) ∙ empty;
  }
    where
      changes : List (Change (Kept U))
      changes = Made (id_of (id_at client n x)) ∷ Ended n x None ∷ []

  -- each move changes the objects so
  pub moves_change : (p q : Part T U C) (d : Doings U) → held p.store 0 ≡ None → Moves (any true) sends receives client p d q → Changing p d q
  moves_change p q d empty (stayed is same) =
      changing_so p p q nothing_done d is same (quiet p p nothing_done empty refl refl refl refl (λ h among. absurd among))
  moves_change p q d empty (followed {m = m} {a = a} {b = b} first second is) =
      let one = moves_change p m a empty first in
      changing_so p q q (joined a b) d is refl (then_changing p m q a b one (moves_change m q b one.empty second))
  moves_change p q d empty (handed_out {a = a} ids moves among is) = grind (arith, changing_so, moves_change p q a empty moves)
  moves_change p q d empty (moved move) =
      grind (arith, changing_so, quiet, born_changing, found_changing, wrote_changing, versioned_changing, went_changing, noting, nothing_done, end_notes, id_of, id_at)

  -- no note is handed out by moves of the part
  pub moves_take : (p q : Part T U C) (d : Doings U) → Moves (any true) sends receives client p d q → d.taken ≡ []
  moves_take p q d (stayed is same) = ap (λ (x : Doings U). x.taken) is
  moves_take p q d (followed {m = m} {a = a} {b = b} first second is) = grind (arith, moves_take p m a first, moves_take m q b second)
  moves_take p q d (handed_out {a = a} ids moves among is) = ap (λ (x : Doings U). x.taken) is ∙ moves_take p q a moves
  moves_take p q d (moved move) = grind (arith)

  -- ---- what is held of a client

  -- the changes of a call, from what is held of a client and its objects to those that are then held
  pub record CallChanging (s : Seen T U C) (o : Objects (Kept U)) (d : Doings U) (t : Seen T U C) : Type 0 where
    pub after : Objects (Kept U)
    pub changes : List (Change (Kept U))
    pub ends : StepEnds serial_of is_over o changes after
    pub are : AreObjectsOf t after
    pub empty : held after.store 0 ≡ None
    pub handed : (h : HandedId IdParts) → IsAmong d.handed h → IsHandedIn client changes h
    pub left : d.left ≡ ended_in serial_of has_data changes
    pub noted : (h : Happening U) → IsAmong (d.taken ++ (t.made ++ waiting_of t.part)) h
        → IsAmong (s.made ++ waiting_of s.part) h ⊎ IsNotedIn client changes h
    pub new : (h : Happening U) → IsAmong (d.notes ++ waiting_of t.part) h → IsAmong (waiting_of s.part) h ⊎ IsNotedIn client changes h

  -- the objects stay, and the notes that were made are perhaps handed out
  goes_still : (s : Seen T U C) (o : Objects (Kept U)) (taken made : List (Happening U)) → AreObjectsOf s o → held o.store 0 ≡ None
      → taken ++ (made ++ waiting_of s.part) ≡ s.made ++ waiting_of s.part
      → CallChanging s o (record nothing_done { taken = taken }) (record { part = s.part; made = made })
  goes_still s o taken made are empty same = record {
    after = o;
    changes = [];
    ends = refl;
    are = are;
    empty = empty;
    handed = λ h among. absurd among;
    left = refl;
    noted = λ h among. inl (subst (λ (hs : List (Happening U)). IsAmong hs h) same among);
    new = λ h among. inl among;
  }

  -- a part goes over moves: it is kept, or taken out with no object left and nothing that waits
  goes_part : (p q : Part T U C) (made : List (Happening U)) (d : Doings U) (kept : Option (Part T U C)) → held p.store 0 ≡ None
      → Moves (any true) sends receives client p d q
      → AreObjectsOf (record { part = kept; made = made ++ d.notes }) (objects_of q)
      → ((h : Happening U) → IsAmong (waiting_of kept) h → IsAmong q.waiting h)
      → CallChanging (record { part = Some p; made = made }) (objects_of p) d (record { part = kept; made = made ++ d.notes })
  goes_part p q made d kept empty moves are waits =
      let changing = moves_change p q d empty moves in
      record {
        after = objects_of q;
        changes = changing.changes;
        ends = changing.ends;
        are = are;
        empty = changing.empty;
        handed = changing.handed;
        left = changing.left;
        noted = grind (arith, in_three, among_both, among_first, among_later, moves_take p q d moves);
        new = λ h among. elim (among_both d.notes
            (waiting_of kept) h among) [ inl made_now ↦ changing.noted h made_now | inr more ↦ changing.waits h (waits h more) ];
      }

  goes_from : (s t : Seen T U C) (p q : Part T U C) (o : Objects (Kept U)) (d : Doings U) (kept : Option (Part T U C)) → AreObjectsOf s o
      → held o.store 0 ≡ None → s.part ≡ Some p
      → Moves (any true) sends receives client p d q → t ≡ record { part = kept; made = s.made ++ d.notes }
      → AreObjectsOf (record { part = kept; made = s.made ++ d.notes }) (objects_of q)
      → ((h : Happening U) → IsAmong (waiting_of kept) h → IsAmong q.waiting h) → CallChanging s o d t
  goes_from s t p q o d kept are empty there moves same left waits =
      let at : o ≡ objects_of p = grind (arith, held, objects_of) in
      let changing = goes_part p q s.made d kept (subst (λ (x : Objects (Kept U)). held x.store 0 ≡ None) at empty) moves left waits in
      grind (arith, objects_of)

  pub goes_change : (s t : Seen T U C) (o : Objects (Kept U)) (d : Doings U) → AreObjectsOf s o → held o.store 0 ≡ None
      → Goes (any true) sends receives client s d t → CallChanging s o d t
  goes_change s t o d are empty (unfelt is same) = grind (arith, nothing_done, goes_still s o [] s.made are empty refl)
  goes_change s t o d are empty (notes_taken on is same) = grind (arith, nothing_done, goes_still s o s.made [] are empty refl)
  goes_change s t o d are empty (within p q there moves same) = goes_from s t p q o d (Some q) are empty there moves same refl (λ h among. among)
  goes_change s t o d are empty (taken_out p q on there killed moves none waiting same) =
      goes_from s t p q o d None are empty there moves same none (λ h among. absurd among)
