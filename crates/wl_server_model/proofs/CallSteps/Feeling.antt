-- A step that each client feels by itself, one slot after another.
use Rattle.std.proofs.Common.{◌≡◌, ◌∙◌, ℕ, ◌+◌, Bool, true, false, ◌||◌, List, [], length, map, Option, None, Some, is_some, refl, ap, arith, true≢false, ◌<◌}
use Rattle.std.specs.Option.{option_map_or}
use Rattle.std.specs.Prelude.{◌==◌, if◌then◌else◌, slice_get, slice_set}
use Rattle.std.proofs.lemmas.Bool.{eqb-true, false≢true, cases_lt}
use Rattle.std.proofs.lemmas.List.{length-set}
use Rattle.std.proofs.lemmas.Option.{slice_get_past}
use Rattle.wl_server_client.specs.declared.notes.Happening.{Happening}
use Rattle.wl_server_client.specs.declared.notes.queues.NoteNumbers.{NoteNumbers}
use Rattle.wl_server_model.specs.declared.step.Reply.{Reply}
use Rattle.wl_server_model.specs.declared.step.Step.{Step}
use Rattle.wl_server_model.proofs.OverRuns.Alone.AccountLaws.{calls}
use Rattle.wl_server_model.specs.Backend.{Calls}
use Rattle.wl_server_client.specs.Inside.Client.{Does}
use Rattle.wl_server_client.specs.Deeds.{Deed}
use Rattle.wl_server_client.specs.Globals.{Offer}
use Rattle.wl_server_client.specs.Ids.{ClientParts}
use Rattle.wl_server_model.specs.PartStep.{Asked, Call, Feels, PartCall, PartStep, World}
use Rattle.wl_server_model.specs.NoteOrder.{AllInTime, AllNumbered}
use Rattle.wl_server_client.specs.NoteTimes.{times_of}
use Rattle.wl_server_model.specs.Inside.Places.{AllFeel, FeltAt, PlaceFeels}
use Rattle.wl_server_model.specs.Server.{Seen, ServerState, client_at, if_serial, seen_as, notes_of, seen}
use Rattle.wl_server_client.specs.Stored.{Stored}
use Rattle.wl_server_model.specs.Steps.{AsksForRoom, Makes, MakesNotes, NotesGoOn, NumbersClient, AnswersShared, RisesBySlot, inserted_by, lacks_growth, offer_after, IsRefused}
use Rattle.wl_sets.proofs.Lists.{get_set_other, get_set_same, other_of}
use Rattle.wl_server_model.proofs.CallSteps.Slots.{Kind, client_present, on_part, same_parts, slot_within}
use Rattle.wl_server_model.proofs.CallSteps.Numbering.{all_same}

-- ---- a step from its parts

module _ {T U G C : Type 0} (w : World T G C) (before : ServerState T U G C) (call : Call T U G C) (refused : Bool) where
  pub step_by : (lacks : ClientParts → Bool) (did : ClientParts → List (Deed U)) (after : ServerState T U G C)
      → after.offer ≡ offer_after before.offer call
      → after.last_client ≡ before.last_client + inserted_by call → NumbersClient before call → AnswersShared before.offer call → RisesBySlot call
      → AsksForRoom before call
      → IsRefused (record { call = call; refused = refused; lacks = lacks; did = did }) → NotesGoOn before call after
      → ((id : ClientParts) → PartCall w id before.offer call (seen id before) (lacks id) (did id) (seen id after))
      → Makes w before call refused after
  step_by lacks did after offer last client global order room is notes each =
      (record { call = call; refused = refused; lacks = lacks; did = did }, refl, refl, grind (arith))

  -- memory was refused to no client
  pub step_of : (did : ClientParts → List (Deed U)) (after : ServerState T U G C) → after.offer ≡ offer_after before.offer call
      → after.last_client ≡ before.last_client + inserted_by call → NumbersClient before call → AnswersShared before.offer call → RisesBySlot call
      → AsksForRoom before call
      → lacks_growth call ≡ refused → NotesGoOn before call after
      → ((id : ClientParts) → PartCall w id before.offer call (seen id before) false (did id) (seen id after)) → Makes w before call refused after
  step_of did after offer last client global order room growth = step_by (λ id. false) did after offer last client global order room
      (grind (arith, false≢true))

module _ {T U C : Type 0} (R : Kind T U C) where
  -- ---- the loop over the slots

  -- the client of a slot felt it by its id
  pub place_felt : (slot serial : ℕ) (id : ClientParts) (s s' : Stored T U C) (place : Option (Stored T U C)) (lacked : Bool) → place ≡ Some s
      → id ≡ record { slot = slot; serial = serial } → serial ≡ s.serial → Does s (λ p did q. R id p lacked did q) s'
      → PlaceFeels R slot place lacked (Some s')
  place_felt slot serial id s s' place lacked is known same does = rw is (s', (rw (known, same) at does), refl)

  -- the clients of these slots are as they were after it
  pub none_feels : (n : ℕ) (start : List (Option (Stored T U C)))
      → ((k : ℕ) (x : Option (Stored T U C)) → k < n → slice_get start k ≡ Some x → PlaceFeels R k x false x)
      → AllFeel R false n start start
  none_feels n start each = record {
    lacks = λ k. false;
    len = refl;
    felt = λ k below. at k below (slice_get start k) refl;
    rest = λ k above. refl;
    told = λ k below lacks. lacks;
    blame = λ refused. absurd (false≢true refused);
  }
    where
      at : (k : ℕ) → k < n → (o : Option (Option (Stored T U C))) → slice_get start k ≡ o → FeltAt R k o false o
      at k below None here = (refl, refl)
      at k below (Some x) here = (x, each k x below here, refl)

  pub none_felt : (start : List (Option (Stored T U C))) → AllFeel R false 0 start start
  none_felt start = none_feels 0 start (λ k x below here. absurd (omega (arith, below)))

  -- the client of the next slot feels it
  pub one_more_felt : (refused lacked : Bool) (slot : ℕ) (start now : List (Option (Stored T U C))) (place place' : Option (Stored T U C))
      → AllFeel R refused slot start now → slice_get now slot ≡ Some place → PlaceFeels R slot place lacked place'
      → AllFeel R (refused || lacked) (slot + 1) start (slice_set now slot place')
  one_more_felt refused lacked slot start now place place' all here feels = record {
    lacks = λ k. if k == slot then lacked else all.lacks k;
    len = length-set now slot place' ∙ all.len;
    felt = λ k below. (grind (arith, slice_get, slice_set, eqb-true, get_set_same, get_set_other, other_of, k == slot));
    rest = λ k above. get_set_other now slot k place' (λ e. absurd (omega (arith, e, above))) ∙ all.rest k (omega (arith, above));
    told = λ k below is. (grind (arith, other_of, k == slot));
    blame = λ is. (grind (arith, all.blame, eqb-true, other_of, slot == slot, refused, lacked));
  }

  -- ---- what is felt by each id

  abbrev pub client_in : ℕ → Option (Option (Stored T U C)) → Option (Stored T U C)
  client_in serial x = if_serial serial (option_map_or (λ s. s) x None)

  -- memory was refused to a client that is stored
  abbrev pub lacks_in : Option (Stored T U C) → Bool → Bool
  lacks_in None lacked = false
  lacks_in (Some s) lacked = lacked

  abbrev pub FeltBy : ClientParts → List (Happening U) → Bool → Option (Option (Stored T U C)) → Option (Option (Stored T U C)) → Type 0
  FeltBy id gathered lacked before after =
      (did : List (Deed U))
      × Feels (seen_as gathered (client_in id.serial before)) (λ p q. R id p (lacks_in (client_in id.serial before) lacked) did q)
      (lacks_in (client_in id.serial before) lacked) did (seen_as gathered (client_in id.serial after))

  felt_by : (id : ClientParts) (gathered : List (Happening U)) (lacked : Bool) (before after : Option (Option (Stored T U C)))
      → FeltAt R id.slot before lacked after → FeltBy id gathered lacked before after
  felt_by id gathered lacked None after (none, is) = rw is ([], (tt, (refl, refl, refl)))
  felt_by id gathered lacked (Some None) after (place', (none, gone), is) = grind (arith)
  felt_by id gathered lacked (Some (Some s)) after (place', (s', (did, q, feels, made), now), is) = rw (is, now) (at (s.serial == id.serial) refl)
    where
      at : (b : Bool) → (s.serial == id.serial) ≡ b → FeltBy id gathered lacked (Some (Some s)) (Some (Some s'))
      at true same = rw (ap (λ (x : Stored T U C). x.serial) made, same) (
        did,
        on_part gathered s s' (λ p d r. R id p lacked d r) (Unit {0}) lacked did q
            (rw (same_parts (record { slot = id.slot; serial = s.serial }) id refl (eqb-true s.serial id.serial same)) at feels) made,
      )
      at false other = grind (arith, made)

  module _ (refused : Bool) (start now : List (Option (Stored T U C))) (all : AllFeel R refused (length start) start now) where
    -- whether memory was refused to the client of an id
    abbrev pub lacks_of : ClientParts → Bool
    lacks_of id = lacks_in (client_at id start) (all.lacks id.slot)

    pub each_felt : (gathered : List (Happening U)) (id : ClientParts)
        → FeltBy id gathered (all.lacks id.slot) (slice_get start id.slot) (slice_get now id.slot)
    each_felt gathered id = grind (arith, felt_by, slice_get_past, slice_get, cases_lt id.slot (length start))

    pub some_lacks : refused ≡ true → (id : ClientParts) × (lacks_of id ≡ true)
    some_lacks is = let (k, below, lacks) = all.blame is in at k (slice_get start k) refl lacks (all.felt k below)
      where
        at : (k : ℕ) (x : Option (Option (Stored T U C))) → slice_get start k ≡ x → all.lacks k ≡ true → FeltAt R k x (all.lacks k) (slice_get now k)
            → (id : ClientParts) × (lacks_of id ≡ true)
        at k (Some (Some s)) here lacks felt =
            (record { slot = k; serial = s.serial }, rw (client_present (record { slot = k; serial = s.serial }) start s here refl) lacks)
        at k _ here lacks felt = grind (arith, true≢false)

    pub one_lacks : (id : ClientParts) → lacks_of id ≡ true → refused ≡ true
    one_lacks id lacks = grind (arith, stored, client_at, slot_within)
      where
        stored : (o : Option (Stored T U C)) (l : Bool) → lacks_in o l ≡ true → (is_some o ≡ true) × (l ≡ true)
        stored h1 l h = grind (arith, false≢true)

-- A call that each client feels by itself, or none: no client is inserted, and no memory is wanted but for those that are
-- stored.
pub record IsFelt {T U G C : Type 0} (call : Call T U G C) : Type 0 where
  pub last : inserted_by call ≡ 0
  pub client : (before : ServerState T U G C) → NumbersClient before call
  pub order : RisesBySlot call
  pub room : (before : ServerState T U G C) → AsksForRoom before call
  pub notes : (before after : ServerState T U G C) → MakesNotes before after → NotesGoOn before call after

module _ {T U G C : Type 0} (w : World T G C) (before : ServerState T U G C) (call : Call T U G C) (felt : IsFelt call) where
  -- no client made anything of it
  pub makes_unfelt : (refused : Bool) (offer : Offer G) → offer ≡ offer_after before.offer call → AnswersShared before.offer call
      → lacks_growth call ≡ refused
      → ((id : ClientParts) (b : Seen T U C) → PartCall w id before.offer call b false [] b) → AllNumbered before.clients
      → Makes w before call refused (record before { offer = offer })
  makes_unfelt refused offer becomes numbers growth to all =
      step_of w before call refused (λ id. []) (record before { offer = offer }) becomes (grind (arith, felt.last))
      (felt.client before) numbers felt.order (felt.room before) growth
      (felt.notes before _ (record { gathered = refl; times = all_same _ _ _ refl; numbered = all })) (λ id. to id (seen id before))

module _ {T U G C : Type 0} (w : World T G C) (before : ServerState T U G C) (s : Step T U G C) (answer : Reply T U)
    (felt : IsFelt (Asked s answer)) where
  -- all clients felt it
  pub felt_call : {was : Bool} (R : Kind T U C) (refused : Bool) (offer : Offer G) (clients : List (Option (Stored T U C))) (numbers' : NoteNumbers)
      → offer ≡ offer_after before.offer (Asked s answer) → AnswersShared before.offer (Asked s answer) → lacks_growth (Asked s answer) ≡ false
      → ((id : ClientParts) (lacked : Bool) (did : List (Deed U)) (b a : Seen T U C) → Feels b (λ p q. R id p lacked did q) lacked did a
      → PartStep w id before.offer s answer b lacked did a)
      → AllFeel R refused (length before.clients) before.clients clients
      → AllInTime (map times_of before.clients) before.numbers (map times_of clients) numbers' → AllNumbered clients
      → Calls w (record { server = before; refused = was }) s answer
      (record { server = record before { offer = offer; clients = clients; numbers = numbers' }; refused = refused })
  felt_call R refused offer clients numbers' becomes numbers growth to all times numbered = calls _ _ _ _ _ (
    record { call = Asked s answer; refused = refused; lacks = λ id. lacks_of R refused before.clients clients all id; did = λ id. (by id).0 },
    refl,
    refl,
    grind (arith, false≢true, felt, to, by, some_lacks R refused before.clients clients all, one_lacks R refused before.clients clients all),
  )
    where
      by : (id : ClientParts) → FeltBy R id (notes_of id before.notes) (all.lacks id.slot) (slice_get before.clients id.slot)
          (slice_get clients id.slot)
      by id = each_felt R refused before.clients clients all (notes_of id before.notes) id

  -- no client made anything of it
  pub unfelt_call : {was : Bool} (refused : Bool) (offer : Offer G) → offer ≡ offer_after before.offer (Asked s answer)
      → AnswersShared before.offer (Asked s answer)
      → lacks_growth (Asked s answer) ≡ refused → ((id : ClientParts) (b : Seen T U C) → PartStep w id before.offer s answer b false [] b)
      → AllNumbered before.clients
      → Calls w (record { server = before; refused = was }) s answer (record { server = record before { offer = offer }; refused = refused })
  unfelt_call refused offer becomes numbers growth to all =
      calls _ _ _ _ _ (makes_unfelt w before (Asked s answer) felt refused offer becomes numbers growth to all)
