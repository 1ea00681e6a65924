-- What is held of each client id after one slot was written.
use Rattle.std.proofs.Common.{◌≡◌, ℕ, Bool, true, false, ◌<◌, ◌≤◌, List, [], ◌++◌, length, Option, None, Some, is_some, refl, ap, ◌∙◌, append_assoc, arith}
use Rattle.std.specs.Option.{option_map_or}
use Rattle.std.specs.Prelude.{if◌then◌else◌, ◌==◌, slice_get, slice_index_or, slice_set}
use Rattle.std.proofs.lemmas.Bool.{eqb-true, eq-eqb, false≢true}
use Rattle.std.proofs.lemmas.Option.{slice_get_past, slice_get_read, slice_get_within}
use Rattle.wl_sets.proofs.Lists.{get_set_other, get_set_same, other_of}
use Rattle.wl_server_client.specs.declared.notes.Happening.{Happening}
use Rattle.wl_server_client.specs.declared.notes.Note.{Note}
use Rattle.wl_server_client.specs.Deeds.{Deed, notes_in}
use Rattle.wl_server_client.specs.Ids.{ClientParts, same_client}
use Rattle.wl_server_client.specs.Part.{Part}
use Rattle.wl_server_model.specs.PartStep.{OfClient, OnPart}
use Rattle.wl_server_model.specs.Server.{Seen, client_at, if_serial, notes_of, seen_as, stored_at}
use Rattle.wl_server_client.specs.Stored.{Stored, no_times, untimed}

-- ---- ids

pub same_parts : (a b : ClientParts) → a.slot ≡ b.slot → a.serial ≡ b.serial → a ≡ b
same_parts a b slot serial = grind (arith)

pub same_self : (a : ClientParts) → same_client a a ≡ true
same_self a = rw (eq-eqb a.slot a.slot refl) (eq-eqb a.serial a.serial refl)

pub same_slots : (a b : ClientParts) → (a.slot == b.slot) ≡ false → same_client a b ≡ false
same_slots a b slot = rw slot refl

pub same_serials : (a b : ClientParts) → a.slot ≡ b.slot → (a.serial == b.serial) ≡ false → same_client a b ≡ false
same_serials a b slot serial = rw (eq-eqb a.slot b.slot slot) serial

-- two ids that are the same are one
pub same_is : (a b : ClientParts) → same_client a b ≡ true → a ≡ b
same_is a b is = grind (arith, eqb-true, same_parts, a.slot == b.slot, a.serial == b.serial)

-- ---- one client's share of what was done to one of them

abbrev pub lacks_at : Bool → Bool → Bool
lacks_at about lacked = if about then lacked else false

abbrev pub did_at : {U : Type 0} → Bool → List (Deed U) → List (Deed U)
did_at about did = if about then did else []

-- what a call does to the part of a client, by its id
abbrev pub Kind : (T U C : Type 0) → Type 1
Kind T U C = ClientParts → Part T U C → Bool → List (Deed U) → Part T U C → Type 0

module _ {T U C : Type 0} where
  -- ---- look-ups

  pub stored_is : (clients : List (Option (Stored T U C))) (k : ℕ) (x : Option (Stored T U C)) → slice_get clients k ≡ Some x
      → stored_at k clients ≡ x
  stored_is clients k x here = rw here refl

  pub stored_past : (clients : List (Option (Stored T U C))) (k : ℕ) → length clients ≤ k → stored_at k clients ≡ None
  stored_past clients k past = rw (slice_get_past clients k past) refl

  pub client_absent : (id : ClientParts) (xs : List (Option (Stored T U C))) (s : Stored T U C)
      → slice_get xs id.slot ≡ Some (Some s) → (s.serial == id.serial) ≡ false → client_at id xs ≡ None
  client_absent id xs s is differ = rw is (rw differ refl)

  pub client_present : (id : ClientParts) (xs : List (Option (Stored T U C))) (s : Stored T U C)
      → slice_get xs id.slot ≡ Some (Some s) → s.serial ≡ id.serial → client_at id xs ≡ Some s
  client_present id xs s is same = rw is (rw (eq-eqb s.serial id.serial same) refl)

  -- ---- the slot of a stored client

  pub slot_within : (clients : List (Option (Stored T U C))) (id : ClientParts) → is_some (client_at id clients) ≡ true → id.slot < length clients
  slot_within clients id some = grind (arith, slice_get, is_some, slice_get_within, slice_get clients id.slot)

  -- what was read at the slot of a stored client is the client
  pub slot_reads : (clients : List (Option (Stored T U C))) (id : ClientParts) (n : ℕ) (x : Option (Stored T U C))
      → is_some (client_at id clients) ≡ true
      → n ≡ id.slot → x ≡ slice_index_or clients n x → x ≡ client_at id clients
  slot_reads clients id n x some at value =
      grind (arith, client_at, if_serial, option_map_or, slice_get_read, slot_within, slice_index_or, is_some, false≢true)

  -- the client of an id is at its slot, under its serial
  pub slot_of_client : (clients : List (Option (Stored T U C))) (id : ClientParts) (s : Stored T U C) → Some s ≡ client_at id clients
      → (slice_get clients id.slot ≡ Some (Some s)) × (s.serial ≡ id.serial)
  slot_of_client clients id s is = grind (arith, slice_get, eqb-true, option_map_or, is_some, stored_at, if_serial, slice_get clients id.slot)

  -- where the client of a slot became another of its serial, every other id names the client that it named
  pub client_other : (clients : List (Option (Stored T U C))) (target id : ClientParts) (s s' : Stored T U C) → slice_get clients target.slot ≡ Some
      (Some s)
      → s'.serial ≡ s.serial → s.serial ≡ target.serial → same_client target id ≡ false → client_at id
      (slice_set clients target.slot (Some s')) ≡ client_at id clients
  client_other clients target id s s' here same known other =
      grind (arith, eq-eqb, eqb-true, get_set_same, get_set_other, other_of, if_serial, target.slot == id.slot, target.serial == id.serial)

  -- ---- a step of one client

  pub on_part : (gathered : List (Happening U)) (s s' : Stored T U C) (R : Part T U C → List (Deed U) → Part T U C → Type 0) (missing : Type 0)
      (lacked : Bool)
      (did : List (Deed U)) (q : Part T U C) → R s.part did q
      → untimed s' ≡ record { serial = s.serial; part = q; made = s.made ++ notes_in did; times = no_times }
      → OnPart (seen_as gathered (Some s)) (λ p q. R p did q) missing lacked did (seen_as gathered (Some s'))
  on_part gathered s s' R missing lacked did q does is = (
    q,
    does,
    grind (arith, seen_as, append_assoc, notes_in),
  )

  -- what is held of an id
  abbrev pub held_of : List (Note U) → List (Option (Stored T U C)) → ClientParts → Seen T U C
  held_of notes clients id = seen_as (notes_of id notes) (client_at id clients)

  -- of each id, that this was done to one of them
  abbrev pub DoneFor : ClientParts → Kind T U C → Type 0 → Bool → List (Deed U) → ClientParts → Seen T U C → Seen T U C → Type 0
  DoneFor target R missing lacked did id before after =
      OfClient (same_client target id) before (λ p q. R id p (lacks_at (same_client target id) lacked) (did_at (same_client target id) did) q) missing
      (lacks_at (same_client target id) lacked) (did_at (same_client target id) did) after

  -- one client's slot was written by a step of its own: so it is a step of that client, and of no other
  pub each_set : (clients : List (Option (Stored T U C))) (notes : List (Note U)) (target : ClientParts) (s s' : Stored T U C)
      (R : Kind T U C) (missing : Type 0) (lacked : Bool) (did : List (Deed U)) (q : Part T U C)
      → slice_get clients target.slot ≡ Some (Some s) → s.serial ≡ target.serial → R target s.part lacked did q
      → untimed s' ≡ record { serial = s.serial; part = q; made = s.made ++ notes_in did; times = no_times } → (id : ClientParts)
      → DoneFor target R missing lacked did id (held_of notes clients id) (held_of notes (slice_set clients target.slot (Some s')) id)
  each_set clients notes target s s' R missing lacked did q here known does is id = at (same_client target id) refl
    where
      meant : DoneFor target R missing lacked did target (held_of notes clients target)
          (held_of notes (slice_set clients target.slot (Some s')) target)
      meant = rw (
        same_self target,
        client_present target clients s here known,
        client_present target (slice_set clients target.slot (Some s')) s'
            (get_set_same clients target.slot (Some s) (Some s') here) (ap (λ (x : Stored T U C). x.serial) is ∙ known),
      )
          (on_part (notes_of target notes) s s' (λ p d r. R target p lacked d r) missing lacked did q does is)

      at : (b : Bool) → same_client target id ≡ b → DoneFor target R missing lacked did id (held_of notes clients id)
          (held_of notes (slice_set clients target.slot (Some s')) id)
      at true same = rw (← same_is target id same) meant
      at false other = grind (arith, seen_as, notes_of, client_other clients target id s s' here (ap (λ (x : Stored T U C). x.serial) is) known other)
