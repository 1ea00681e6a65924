-- What holds of the ids of every run.
use Rattle.std.proofs.Common.{◌≡◌, ◌≢◌, ◌⊎◌, eqb, List, [], ◌∷◌, ◌++◌, None, is_some, IsSome, refl, sym, ap, subst, ◌∙◌, true≢false, append_assoc, arith}
use mathlib.Core.Logic.{inl, inr}
use Rattle.std.specs.Prelude.{AllPairs, ◌↔◌}
use Rattle.wl_wire.specs.Table.{InterfaceRow}
use Rattle.wl_link.proofs.Ids.EndsLaw.{ends_once_law, run_keeps_joins, run_leads, run_owns}
use Rattle.wl_link.specs.Identity.{Change, Id, IsMadeIn, Objects, OwnsExactly, RunEnds, ended_in, ended_over, named_in, names}
use Rattle.wl_link.specs.Identity as objects
use Rattle.wl_link.proofs.Ids.IdentityLaw.{identity_law}
use Rattle.wl_link.specs.Link.{LinkState}
use Rattle.wl_link.specs.Store.{empty_store, held}
use Rattle.wl_link.proofs.Ids.StoreLaws.{held_empty, stored_other}
use Rattle.wl_server_client.specs.declared.objects.Kept.{Kept}
use Rattle.wl_server_client.specs.declared.notes.Happening.{Happening}
use Rattle.wl_server_client.specs.declared.notes.Happening.TheVariants.{Destroyed, Initialized}
use Rattle.wl_server_client.specs.Deeds.{IsAmong, Deed, left_in, notes_in, taken_in}
use Rattle.wl_server_model.proofs.OverRuns.Moves.BaseMoves.{Doings, doings_of, handed_by}
use Rattle.wl_server_model.proofs.OverRuns.Moves.BaseMovesLaw.{call_goes}
use Rattle.wl_server_model.proofs.OverRuns.Moves.DoingsLaws.{doings_in_both}
use Rattle.wl_server_model.proofs.OverRuns.Ids.ChangeLaws.{CallChanging, goes_change, in_three}
use Rattle.wl_server_model.proofs.OverRuns.Ids.ReplyLaws.{covers}
use Rattle.wl_server_client.specs.Globals.{Offer, new_offer}
use Rattle.wl_server_model.specs.Identified.{AreObjectsOf, EachHasOwnIds, Follows, HasOwnIds, IsHandedIn, IsNotedIn, has_data, ids_in, is_over, named_of, waiting_of}
use Rattle.wl_server_client.specs.Ids.{ClientParts, IdParts}
use Rattle.wl_server_model.proofs.OverRuns.Alone.IsolationLaw.{is_isolated}
use Rattle.wl_server_model.proofs.OverRuns.Ids.AmongLaws.{all_among, among_contains, among_first, among_later, contains_among}
use Rattle.wl_server_model.proofs.OverRuns.Alone.OwnRuns.{AreMine, are_mine}
use Rattle.wl_server_model.specs.Named.{offer_through}
use Rattle.wl_server_client.specs.Part.{display_object, id_of, named, objects_of, serial_of}
use Rattle.wl_server_model.specs.PartStep.{World}
use Rattle.wl_server_model.specs.Runs.{Alone, Leads, Own, just_inserted, history, mine, offer_over}
use Rattle.wl_server_model.specs.Server.{Seen, ServerState, new_server, seen}
use Rattle.wl_server_model.specs.Steps.{Entry, offer_after}

-- ---- the run of a client

module _ {U : Type 0} (client : ClientParts) where
  -- a note whose id is made in some step
  abbrev pub IsNotedOver : List (List (Change (Kept U))) → Happening U → Type 0
  IsNotedOver [] h = ⊥
  IsNotedOver (step ∷ rest) h = IsNotedIn client step h ⊎ IsNotedOver rest h

  pub noted_over : (run : List (List (Change (Kept U)))) (o : IdParts) (u : U) → IsNotedOver run (Destroyed o u)
      → (o.client ≡ client) × IsMadeIn run (id_of o)
  noted_over [] o u noted = absurd noted
  noted_over (step ∷ rest) o u (inl (of_it, made)) = (of_it, inl made)
  noted_over (step ∷ rest) o u (inr later) = let (of_it, made) = noted_over rest o u later in (of_it, inr made)

  pub begins_without : (o : IdParts) (u : U) → IsAmong (Initialized ∷ []) (Destroyed o u) → ⊥
  begins_without o u h1 = grind (arith, true≢false)

module _ {T U G C : Type 0} (w : World T G C) (id : ClientParts) where
  pub record RunChanging (offer : Offer G) (s : Seen T U C) (o : Objects (Kept U)) (run : List (Own T U G C)) (t : Seen T U C) : Type 0 where
    pub changes : List (List (Change (Kept U)))
    pub kept : Objects (Kept U)
    pub follows : Follows w id offer s o run changes t kept
    pub ends : RunEnds serial_of is_over o changes kept
    pub are : AreObjectsOf t kept
    pub empty : held kept.store 0 ≡ None
    pub left : left_in (history run) ≡ ended_over serial_of has_data changes
    pub noted : (h : Happening U) → IsAmong (taken_in (history run) ++ (t.made ++ waiting_of t.part)) h
        → IsAmong (s.made ++ waiting_of s.part) h ⊎ IsNotedOver id changes h

  pub left_both : (a b : List (Deed U)) → left_in (a ++ b) ≡ left_in a ++ left_in b
  left_both a b = ap (λ (d : Doings U). d.left) (doings_in_both a b)

  pub taken_both : (a b : List (Deed U)) → taken_in (a ++ b) ≡ taken_in a ++ taken_in b
  taken_both a b = ap (λ (d : Doings U). d.taken) (doings_in_both a b)

  pub run_change : (offer : Offer G) (s : Seen T U C) (o : Objects (Kept U)) (run : List (Own T U G C)) (t : Seen T U C) → AreMine id run
      → AreObjectsOf s o
      → held o.store 0 ≡ None → Alone w id offer s run t → RunChanging offer s o run t
  run_change offer s o [] t own are empty same = record {
    changes = [];
    kept = o;
    follows = (same, refl);
    ends = refl;
    are = subst (λ (x : Seen T U C). AreObjectsOf x o) (sym same) are;
    empty = empty;
    left = refl;
    noted = λ h among. inl (subst (λ (x : Seen T U C). IsAmong (x.made ++ waiting_of x.part) h) same among);
  }
  run_change offer s o (e ∷ run) t own are empty (mid, by, alone) =
      let first : CallChanging w.sends w.receives id s o (doings_of (handed_by id e.call e.did) e.did) mid =
      grind (arith, goes_change, doings_of, handed_by, call_goes, own.0) in
      let rest = run_change (offer_after offer e.call) mid first.after run t own.1 first.are first.empty alone in
      record {
        changes = first.changes ∷ rest.changes;
        kept = rest.kept;
        follows = (
          mid,
          first.after,
          by,
          first.ends,
          first.are,
          all_among (IsHandedIn id first.changes) (ids_in e.call)
              (λ i among. first.handed i (covers w id offer e.call s e.lacked e.did mid own.0 by i among)),
          first.left,
          grind (arith, contains_among, waiting_of, among_contains, notes_in),
          rest.follows,
        );
        ends = (first.after, first.ends, rest.ends);
        are = rest.are;
        empty = rest.empty;
        left = grind (arith, left_both, history, left_in, ended_in, serial_of, has_data);
        noted = grind (arith, in_three, taken_in, history, waiting_of, taken_both, append_assoc, among_first, among_later);
      }

  -- the run of a client from its insertion on
  pub run_begins : (offer : Offer G) (link : LinkState T) (client_data : C) (run : List (Own T U G C)) (t : Seen T U C) → AreMine id run
      → Alone w id offer (just_inserted link client_data) run t
      → RunChanging offer (just_inserted link client_data) (objects.first_objects display_object) run t
  run_begins offer link client_data run t own alone =
      run_change offer (just_inserted link client_data) (objects.first_objects display_object) run t own refl
      (stored_other empty_store 1 display_object 0 (λ is. (omega (arith, is))) ∙ held_empty 0) alone

  -- ---- what holds of it

  pub names_of : (t : Seen T U C) (kept : Objects (Kept U)) → AreObjectsOf t kept → (o : IdParts)
      → IsSome (named_of t o) ↔ IsSome (names serial_of (id_of o) kept.store)
  names_of t kept are o = grind (arith, names, serial_of, id_of, eqb, named_in, true≢false, is_some, objects_of, named)

  -- and those changes make its ids its own
  unfoldable pub own_by : (offer : Offer G) (link : LinkState T) (client_data : C) (run : List (Own T U G C)) (t : Seen T U C)
      → RunChanging offer (just_inserted link client_data) (objects.first_objects display_object) run t
      → HasOwnIds w id offer (just_inserted link client_data) run t
  own_by offer link client_data run t changing =
      let identity = identity_law serial_of display_object refl changing.changes changing.kept
      (run_leads serial_of (OwnsExactly is_over) (objects.first_objects display_object) changing.kept changing.changes changing.ends) in
      record {
        changes = changing.changes;
        kept = changing.kept;
        follows = changing.follows;
        are = changing.are;
        identity = identity;
        names = λ o birth made. (
            let at = names_of t changing.kept changing.are o in
            let own = identity.own (id_of o) birth made in (λ some. own.0 (at.0 some), λ is. at.1 (own.1 is))
            );
        noted = λ o u there. (
            elim (changing.noted (Destroyed o u) (among_contains (taken_in (history run) ++ (t.made ++ waiting_of t.part)) (Destroyed o u) there)) [
              | inl old ↦ absurd (begins_without id o u old)
              | inr over ↦ noted_over id changing.changes o u over
            ]
            );
        left = changing.left;
        once = subst (λ (is : List Id). AllPairs (λ a b. a ≢ b) is) (sym changing.left)
            (ends_once_law serial_of is_over has_data display_object refl changing.changes changing.kept
            (run_owns serial_of is_over (objects.first_objects display_object) changing.kept changing.changes changing.ends));
      }

  pub own_ids : (offer : Offer G) (link : LinkState T) (client_data : C) (run : List (Own T U G C)) (t : Seen T U C) → AreMine id run
      → Alone w id offer (just_inserted link client_data) run t
      → HasOwnIds w id offer (just_inserted link client_data) run t
  own_ids offer link client_data run t own alone = own_by offer link client_data run t (run_begins offer link client_data run t own alone)

  -- ---- two runs, one behind the other

  pub history_both : (done later : List (Own T U G C)) → history (done ++ later) ≡ history done ++ history later
  history_both [] later = refl
  history_both (e ∷ done) later =
      ap (λ (did : List (Deed U)). e.did ++ did) (history_both done later) ∙ sym (append_assoc e.did (history done) (history later))

  pub ended_both : (a b : List (List (Change (Kept U))))
      → ended_over serial_of has_data (a ++ b) ≡ ended_over serial_of has_data a ++ ended_over serial_of has_data b
  ended_both [] b = refl
  ended_both (step ∷ a) b = grind (arith, append_assoc, ended_both a b)

  pub noted_both : (a b : List (List (Change (Kept U)))) (h : Happening U) → IsNotedOver id a h ⊎ IsNotedOver id b h → IsNotedOver id (a ++ b) h
  noted_both [] b h over = elim over [ inl none ↦ absurd none | inr later ↦ later ]
  noted_both (step ∷ a) b h over = grind (arith, noted_both a b h)

  pub follows_both : (offer : Offer G) (s : Seen T U C) (o : Objects (Kept U)) (done : List (Own T U G C)) (a : List (List (Change (Kept U))))
      (point : Seen T U C) (there : Objects (Kept U))
      (later : List (Own T U G C)) (b : List (List (Change (Kept U)))) (t : Seen T U C) (kept : Objects (Kept U))
      → Follows w id offer s o done a point there
      → Follows w id (offer_through offer done) point there later b t kept → Follows w id offer s o (done ++ later) (a ++ b) t kept
  follows_both offer s o [] [] point there later b t kept (same, is) more = grind (arith)
  follows_both offer s o (e ∷ done) (step ∷ a) point there later b t kept (mid, between, by, ends, are, handed, left, noted, leads) more =
      let whole = follows_both (offer_after offer e.call) mid between done a point there later b t kept leads more in (mid, between, by, ends, are, handed, left, noted, whole)
  follows_both offer s o _ _ point there later b t kept none more = absurd none

  unfoldable pub change_both : (offer : Offer G) (s : Seen T U C) (o : Objects (Kept U)) (done : List (Own T U G C)) (point : Seen T U C)
      (later : List (Own T U G C)) (t : Seen T U C)
      (first : RunChanging offer s o done point) → RunChanging (offer_through offer done) point first.kept later t
      → RunChanging offer s o (done ++ later) t
  change_both offer s o done point later t first rest = record {
    changes = first.changes ++ rest.changes;
    kept = rest.kept;
    follows = follows_both offer s o done first.changes point first.kept later rest.changes t rest.kept first.follows rest.follows;
    ends = run_keeps_joins serial_of (OwnsExactly is_over) o first.kept rest.kept first.changes rest.changes first.ends rest.ends;
    are = rest.are;
    empty = rest.empty;
    left = grind (arith, history_both, left_both, ended_both, left_in, history);
    noted = grind (arith, history_both, taken_both, append_assoc, in_three, among_first, among_later, noted_both, taken_in, history);
  }

-- ---- every client of a server

module _ {T U G C : Type 0} where
  -- over every run of a new server, each client has ids of its own
  pub each_has_own_ids : (w : World T G C) (table : List InterfaceRow) (run : List (Entry T U G C)) (after : ServerState T U G C)
      → Leads w (new_server table) run after
      → EachHasOwnIds w table run after
  each_has_own_ids w table run after leads id transport client_data earlier later e split inserts =
      let (link, fresh, alone) = (is_isolated w table run after leads).each id transport client_data earlier later e split inserts in
      (link, fresh, own_ids w id (offer_over (new_offer table) (earlier ++ e ∷ [])) link client_data (mine id later) (seen id after) (are_mine id later) alone)
