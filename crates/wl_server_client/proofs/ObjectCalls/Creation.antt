-- How an insertion, or why there is none, is a creation.
use Rattle.std.proofs.Common.{◌≡◌, ℕ, ◌+◌, ◌<◌, Bool, true, false, List, [], Option, Some, is_some, Result, Ok, Err, MatchOption, Bor, not, option_copied, option_map, refl, true≢false, arith}
use Rattle.std.specs.Prelude.{slice_get}
use Rattle.std.proofs.lemmas.Bool.{eqb-true, eq-eqb, false≢true}
use Rattle.wl_wire.specs.declared.interface.InterfaceId.{InterfaceId}
use Rattle.wl_wire.specs.Table.{InterfaceRow}
use Rattle.wl_link.specs.declared.object.Object.{Object}
use Rattle.wl_link.specs.declared.object_map.NewError.{NewError}
use Rattle.wl_link.specs.declared.object_map.NewError.TheVariants as new
use Rattle.wl_link.specs.ObjectMap.{InsertsNew}
use Rattle.wl_link.specs.Store.{Store, server_range, stored}
use Rattle.wl_server_client.specs.declared.error.CreateError.{CreateError}
use Rattle.wl_server_client.specs.declared.error.CreateError.TheVariants as create
use Rattle.wl_server_client.specs.declared.objects.Kept.{Kept}
use Rattle.wl_server_client.specs.Inside.Client.{Does}
use Rattle.wl_server_client.specs.Inside.Creation.{LacksSerial}
use Rattle.wl_server_client.specs.Deeds.{Deed}
use Rattle.wl_server_client.specs.Ids.{ClientParts, IdParts}
use Rattle.wl_server_client.specs.Objects.{Creates}
use Rattle.wl_server_client.specs.Part.{Part, fresh_object, last_possible_serial}
use Rattle.wl_server_client.specs.Stored.{Stored, no_times}
use Rattle.wl_server_client.proofs.CallSteps.Doing.{does_quietly}
use Rattle.wl_link.proofs.Calls.Branches.{at_false, at_true}

known : {A : Type 0} (o : Option A) (X Y : Type 0) → is_some o ≡ true → Y → MatchOption o X (λ _. Y)
known h1 h2 h3 is y = grind (arith, false≢true)

pub unknown : {A : Type 0} (o : Option A) (X Y : Type 0) → is_some o ≡ false → X → MatchOption o X (λ _. Y)
unknown h1 h2 h3 is x = grind (arith, true≢false)

-- a row of the table is found where the interface is
pub row_found : {A B : Type 0} (f : A → B) (found : Option (Bor A)) (row : Option B) (none : Bool) → option_map f (option_copied found) ≡ row
    → is_some found ≡ not none
    → is_some row ≡ not none
row_found f h2 row none is some = grind (arith)

module _ {T U C : Type 0} (table : List InterfaceRow) (client : ClientParts) (s : Stored T U C) (i : InterfaceId) (version : ℕ) (u : U) where
  abbrev pub Created : Result IdParts CreateError → Part T U C → List (Deed U) → Part T U C → Type 0
  Created answer p did q = (did ≡ []) × Creates table client p i version u answer q

  abbrev pub over : Store (Kept U) → Part T U C
  over store = record s.part { store = store }

  abbrev pub Refused : CreateError → Store (Kept U) → Type 0
  Refused e store = Does s (λ p did q. Created (Err e) p did q) (record { serial = s.serial; part = over store; made = s.made; times = no_times })

  pub lacks_serial : is_some (slice_get table i.0) ≡ true → s.part.last_serial < 0x10000000000000000
      → (s.part.last_serial + 1 < 0x10000000000000000 → ⊥) → (e : CreateError) → LacksSerial s.part.store e
      → Does s (λ p did q. Created (Err e) p did q) s
  lacks_serial is fits last e lacks = does_quietly s (Created (Err e)) s.part (refl, grind (arith, known, at_true, eq-eqb, last_possible_serial))

  module _ (is_known : is_some (slice_get table i.0) ≡ true) (few : s.part.last_serial + 1 < 0x10000000000000000) where
    abbrev pub with_both : Store (Kept U) → ℕ → Part T U C
    with_both store serial = record s.part { store = store; last_serial = serial }

    -- a number was given
    pub created : (n serial : ℕ) (x : Object (Kept U)) (store : Store (Kept U)) → serial ≡ s.part.last_serial + 1
        → x ≡ fresh_object i version serial (Some u)
        → InsertsNew server_range s.part.store x (Ok n) store
        → Does s (λ p did q. Created (Ok (record { number = n; serial = serial; client = client; interface = i })) p did q)
        (record { serial = s.serial; part = with_both store serial; made = s.made; times = no_times })
    created n serial x store next is (least, put) =
        let id : IdParts = record { number = n; serial = serial; client = client; interface = i } in
        does_quietly s (Created (Ok id)) (with_both store serial) (refl, grind (arith, known, at_false, eqb-true, stored, is, next))

    pub exhausted : (e : NewError) (x : Object (Kept U)) (store : Store (Kept U)) → e ≡ new.IdsExhausted
        → InsertsNew server_range s.part.store x (Err e) store
        → Refused create.IdsExhausted store
    exhausted e x store is inserts = does_quietly s (Created (Err create.IdsExhausted)) (over store) (refl, grind (arith, known, slice_get, over))

    pub no_memory : (e : NewError) (x : Object (Kept U)) (store : Store (Kept U)) → e ≡ new.OutOfMemory
        → InsertsNew server_range s.part.store x (Err e) store
        → Refused create.OutOfMemory store
    no_memory e x store is inserts =
        does_quietly s (Created (Err create.OutOfMemory)) (over store) (refl, grind (arith, known, at_false, eqb-true))
