-- The notes of all clients: by their slots and their clients, and what is handed out, or gathered, of each client.
use Rattle.std.proofs.Common.{◌≡◌, ◌∙◌, ℕ, Bool, true, false, List, [], ◌∷◌, ◌++◌, length, map, Option, None, is_some, Ok, Vec, refl, sym, ap, subst, arith, append_assoc, append-nil}
use mathlib.Core.Logic.{inl, inr}
use Rattle.std.specs.Global.{Global}
use Rattle.std.specs.Option.{option_map_or}
use Rattle.std.specs.Prelude.{IsPermutation}
use Rattle.std.proofs.lemmas.List.{append_cancel_left}
use Rattle.wl_link.proofs.Calls.Branches.{either_bool, either_option}
use Rattle.wl_server_client.specs.declared.notes.Happening.{Happening}
use Rattle.wl_server_client.specs.declared.notes.Note.{Note}
use Rattle.wl_server_client.specs.declared.notes.Note.TheVariants as note
use Rattle.wl_server_client.specs.declared.notes.Happening.TheVariants as happened
use Rattle.wl_server_client.specs.declared.notes.queues.NotePlace.{NotePlace}
use Rattle.wl_server_model.specs.declared.step.Reply.TheVariants as reply
use Rattle.wl_server_model.specs.declared.step.Step.TheVariants as step
use Rattle.wl_server_client.specs.Deeds.{Deed, Noted, notes_in}
use Rattle.wl_server_client.specs.Globals.{Offer}
use Rattle.wl_server_model.specs.Identified.{waiting_of}
use Rattle.wl_server_client.specs.Ids.{ClientParts}
use Rattle.wl_server_model.specs.NoteOrder.{Rise, all_places, slot_of}
use Rattle.wl_server_client.specs.NoteTimes.{times_of}
use Rattle.wl_server_model.specs.PartStep.{Asked, Call, CleanedAs, World}
use Rattle.wl_server_model.specs.Server.{Seen, ServerState, client_at, if_serial, notes_of, seen, stored_at, told_of}
use Rattle.wl_server_client.specs.Stored.{Stored, note_of}
use Rattle.wl_server_model.specs.Steps.{Entry, GathersNotes, NotesGoOn, OneStep}
use Rattle.wl_server_model.proofs.CallSteps.Slots.{same_parts, same_self}
use Rattle.wl_server_model.proofs.CleanupSteps.Cleaning.{noted_notes}
use Rattle.wl_server_model.proofs.CleanupSteps.Gathering.{notes_append}
use Rattle.wl_server_model.proofs.OverRuns.Moves.BaseMoves.{Doings}
use Rattle.wl_server_model.proofs.OverRuns.Moves.DoingsLaws.{doings_in_both}

-- ---- notes by their slots and their clients

module _ {U : Type 0} where
  abbrev pub id_of : Note U → ClientParts
  id_of (note.Initialized client) = client
  id_of (note.Disconnected client reason) = client
  id_of (note.Destroyed client object u) = client

  abbrev pub happening_of : Note U → Happening U
  happening_of (note.Initialized client) = happened.Initialized
  happening_of (note.Disconnected client reason) = happened.Disconnected reason
  happening_of (note.Destroyed client object u) = happened.Destroyed object u

  pub note_is : (n : Note U) → n ≡ note_of (id_of n) (happening_of n)
  note_is n = grind (arith)

  pub slot_is : (n : Note U) → slot_of n ≡ (id_of n).slot
  slot_is n = grind (arith)

  pub own_first : (n : Note U) (ns : List (Note U)) → notes_of (id_of n) (n ∷ ns) ≡ happening_of n ∷ notes_of (id_of n) ns
  own_first n ns = grind (arith, notes_of, told_of, note_is, same_self)

  one_note : (x y : Note U) (b : List (Note U)) (hs : List (Happening U)) → id_of y ≡ id_of x
      → notes_of (id_of x) (y ∷ b) ≡ happening_of x ∷ hs → y ≡ x
  one_note x y b hs ids told = grind (arith, note_is x, note_is y, own_first y b)

  less_told : (id : ClientParts) (n : Note U) (a b : List (Note U)) (more : List (Happening U)) → notes_of id (n ∷ b) ≡ notes_of id (n ∷ a) ++ more
      → notes_of id b ≡ notes_of id a ++ more
  less_told id n a b more all =
      append_cancel_left (told_of id n) (notes_of id b) (notes_of id a ++ more) (all ∙ append_assoc (told_of id n) (notes_of id a) more)

  later_told : (Is : Type 0) (id : ClientParts) (n : Note U) (b : List (Note U))
      → ((h : Happening U) (hs : List (Happening U)) → notes_of id (n ∷ b) ≡ h ∷ hs → Is)
      → (h : Happening U) (hs : List (Happening U)) → notes_of id b ≡ h ∷ hs → Is
  later_told Is id n b is h hs at = grind (arith, told_of, notes_of)

  -- Notes begin as others do, if their slots do, and what they tell of each client; and only one client of a slot is told of.
  module _ (Is : ClientParts → Type 0) (one : (i j : ClientParts) → Is i → Is j → i.slot ≡ j.slot → i ≡ j) where
    pub begins_so : (a b : List (Note U)) (slots : List ℕ) → map slot_of b ≡ map slot_of a ++ slots
        → ((id : ClientParts) → (more : List (Happening U)) × (notes_of id b ≡ notes_of id a ++ more))
        → ((id : ClientParts) (h : Happening U) (hs : List (Happening U)) → notes_of id b ≡ h ∷ hs → Is id)
        → (rest : List (Note U)) × (b ≡ a ++ rest)
    begins_so [] b slots along told is = (b, refl)
    begins_so (x ∷ a) [] slots along told is = absurd (omega (arith, ap length along))
    begins_so (x ∷ a) (y ∷ b) slots along told is =
        let at : slot_of y ≡ slot_of x = cc in
        let x_told = (told (id_of x)).1 ∙ ap (λ (l : List (Happening U)). l ++ (told (id_of x)).0) (own_first x a) in
        let ids = one (id_of y) (id_of x) (is (id_of y) _ _ (own_first y b)) (is (id_of x) _ _ x_told) (sym (slot_is y) ∙ (at ∙ slot_is x)) in
        let same = one_note x y b _ ids x_told in
        let (rest, behind) = begins_so a b slots (cc) (λ id. ((told id).0, less_told id x a b (told id).0 (rw same at (told id).1)))
        (λ id. later_told (Is id) id y b (is id)) in
        (rest, ap (λ (n : Note U). n ∷ b) same ∙ ap (λ (l : List (Note U)). x ∷ l) behind)

-- ---- what is handed out, or gathered, of each client

abbrev pub made_of : {T U C : Type 0} → ClientParts → List (Option (Stored T U C)) → List (Happening U)
made_of id clients = option_map_or (λ s. s.made) (client_at id clients) []

-- What `take_notes` hands out: what was gathered before, and then the notes of all clients that were made, in order of time.
pub record Takes {T U G C : Type 0} (s : ServerState T U G C) (out : List (Note U)) : Type 0 where
  pub more : List (Note U)
  pub order : List NotePlace
  pub behind : out ≡ s.notes ++ more
  pub rise : Rise order
  pub places : IsPermutation (all_places false 0 (map times_of s.clients)) order
  pub along : map slot_of more ≡ map (λ p. p.slot) order
  pub each : (id : ClientParts) → notes_of id more ≡ made_of id s.clients

module _ {T U C : Type 0} where
  pub one_client : (clients : List (Option (Stored T U C))) (i j : ClientParts) → is_some (client_at i clients) ≡ true
      → is_some (client_at j clients) ≡ true → i.slot ≡ j.slot → i ≡ j
  one_client clients i j a b same = grind (arith, same_parts, stored_at, is_some, if_serial)

module _ {T U G C : Type 0} (w : World T G C) where
  pub takes_of : (s : ServerState T U G C) (e : Entry T U G C) (after : ServerState T U G C) (out : Vec (Note U) Global)
      → e.call ≡ Asked step.TakeNotes (reply.TakeNotes (Ok out)) → OneStep w s e after → Takes s out.items
  takes_of s e after out is one = let (order, ordered, (more, behind, along)) = (subst (λ (call : Call T U G C). NotesGoOn s call after) is one.notes).in_order in
      record {
        more = more;
        order = order;
        behind = behind;
        rise = ordered.rise;
        places = ordered.numbers;
        along = along;
        each = λ id. (append_cancel_left (notes_of id s.notes) (notes_of id more) (made_of id s.clients) (sym (notes_append id s.notes more) ∙
            (ap (notes_of id) (sym behind) ∙ (grind (arith, seen, notes_of)))));
      }

  noted_more : (hs : List (Happening U)) (ds did : List (Deed U)) → did ≡ map Noted hs ++ ds → (rest : List (Happening U))
      × (notes_in did ≡ hs ++ rest)
  noted_more hs ds did is =
      let both = ap (λ (d : Doings U). d.notes) (doings_in_both (map Noted hs) ds) in
      (notes_in ds, ap notes_in is ∙ (both ∙ ap (λ (l : List (Happening U)). l ++ notes_in ds) (noted_notes hs)))

  -- a cleanup notes what waits, and then the end of a client that it takes out
  cleaned_so : (id : ClientParts) (offer : Offer G) (out : Vec (ClientParts × T) Global) (s : Seen T U C) (lacked : Bool) (did : List (Deed U))
      (t : Seen T U C) → CleanedAs w id offer (Ok out) s lacked did t
      → (rest : List (Happening U)) × (t.made ≡ s.made ++ (waiting_of s.part ++ rest)) × (s.part ≡ None → rest ≡ [])
  cleaned_so id offer out s lacked did t h =
      elim (either_option s.part h) [
        | inl (gone, (nobody, (unlacked, did_so, same))) ↦ ([], grind (arith, append-nil, waiting_of), λ none. refl)
        | inr (p, there, (q, c, same)) ↦
            elim (either_bool p.is_killed c) [
              | inl (sent, answer, end, flushes, did_so, handed, gone) ↦
                  let (rest, noted) = noted_more p.waiting _ did did_so in (rest, grind (arith, noted, waiting_of), λ none. (grind (arith)))
              | inr (unlacked, did_so, handed, stays) ↦ ([], grind (arith, noted_notes, append-nil, waiting_of), λ none. refl)
            ]
      ]

  -- What is told of a client that a cleanup gathers: its notes that were made, then those that waited. Who is not stored is not told of.
  pub told_so : (s : ServerState T U G C) (e : Entry T U G C) (after : ServerState T U G C) (out : Vec (ClientParts × T) Global)
      → e.call ≡ Asked step.Cleanup (reply.Cleanup (Ok out)) → OneStep w s e after → (l : List (Note U)) → after.notes ≡ s.notes ++ l
      → (id : ClientParts) → (rest : List (Happening U)) × (notes_of id l ≡ made_of id s.clients ++ (waiting_of (seen id s).part ++ rest))
      × (client_at id s.clients ≡ None → notes_of id l ≡ [])
  told_so s e after out is one l behind id =
      let h : GathersNotes s after = subst (λ (call : Call T U G C). NotesGoOn s call after) is one.notes in
      let (rest, made, none) = cleaned_so id s.offer out (seen id s) (e.lacks id) (e.did id) (seen id after) (grind (arith, is, one.each id)) in
      let all = append_cancel_left (notes_of id s.notes) (notes_of id l) (made_of id s.clients ++ (waiting_of (seen id s).part ++ rest))
      (grind (arith, notes_append id s.notes l, h.none_left id, append-nil, append_assoc, made, behind)) in
      (rest, all, λ gone. (grind (arith, all, none, gone, seen, made_of)))
