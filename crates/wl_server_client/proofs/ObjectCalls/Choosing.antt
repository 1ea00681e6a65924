-- A client of which the program chose the number of an object.
use Rattle.std.proofs.Common.{◌≡◌, ℕ, ◌+◌, ◌<◌, true, false, eqb, List, [], Option, Some, is_some, Result, Ok, Err, MatchOption, refl, ap, arith}
use mathlib.Core.Logic.{inl, inr}
use Rattle.std.specs.Prelude.{slice_get}
use Rattle.std.proofs.lemmas.Bool.{false≢true, ne_eqb, eq-eqb}
use Rattle.wl_wire.specs.declared.interface.InterfaceId.{InterfaceId}
use Rattle.wl_wire.specs.Table.{InterfaceRow}
use Rattle.wl_link.specs.declared.object.Object.{Object}
use Rattle.wl_link.specs.declared.object_map.InsertError.{InsertError}
use Rattle.wl_link.specs.declared.object_map.InsertError.TheVariants as insert
use Rattle.wl_link.specs.Store.{Store, stored}
use Rattle.wl_link.proofs.Calls.Branches.{at_false, at_true}
use Rattle.wl_server_client.specs.declared.error.CreateAtError.{CreateAtError}
use Rattle.wl_server_client.specs.declared.error.CreateAtError.TheVariants as create
use Rattle.wl_server_client.specs.declared.objects.Kept.{Kept}
use Rattle.wl_server_client.specs.Chosen.{CreatesNumbered}
use Rattle.wl_server_client.specs.Deeds.{Deed}
use Rattle.wl_server_client.specs.Ids.{ClientParts, IdParts}
use Rattle.wl_server_client.specs.Inside.Choosing.{InsertsOwn}
use Rattle.wl_server_client.specs.Inside.Client.{Does}
use Rattle.wl_server_client.specs.Part.{Part, fresh_object, last_possible_serial}
use Rattle.wl_server_client.specs.Stored.{Stored, no_times}
use Rattle.wl_server_client.proofs.CallSteps.Doing.{does_quietly}

known : {A : Type 0} (o : Option A) (X Y : Type 0) → is_some o ≡ true → Y → MatchOption o X (λ _. Y)
known h1 h2 h3 is y = grind (arith, false≢true)

module _ {T U C : Type 0} (table : List InterfaceRow) (client : ClientParts) (s : Stored T U C) (i : InterfaceId) (version n : ℕ) (u : U) where
  abbrev pub Numbered : Result IdParts CreateAtError → Part T U C → List (Deed U) → Part T U C → Type 0
  Numbered answer p did q = (did ≡ []) × CreatesNumbered table client p i version n u answer q

  abbrev Refused : CreateAtError → Store (Kept U) → Type 0
  Refused e store =
      Does s (λ p did q. Numbered (Err e) p did q) (record { serial = s.serial; part = record s.part { store = store }; made = s.made; times = no_times })

  pub no_serial : is_some (slice_get table i.0) ≡ true → s.part.last_serial < 0x10000000000000000
      → (s.part.last_serial + 1 < 0x10000000000000000 → ⊥) → Does s (λ p did q. Numbered (Err create.SerialsExhausted) p did q) s
  no_serial is fits last = does_quietly s (Numbered (Err create.SerialsExhausted)) s.part
      (refl, known _ _ _ is (at_true _ _ (eq-eqb s.part.last_serial last_possible_serial (omega (arith, fits, last))) (refl, refl)))

  module _ (is_known : is_some (slice_get table i.0) ≡ true) (few : s.part.last_serial + 1 < 0x10000000000000000) where
    left : eqb s.part.last_serial last_possible_serial ≡ false
    left = ne_eqb s.part.last_serial last_possible_serial (λ same. omega (arith, few, same))

    pub at_number : (serial : ℕ) (x : Object (Kept U)) (store : Store (Kept U)) → serial ≡ s.part.last_serial + 1
        → x ≡ fresh_object i version serial (Some u)
        → InsertsOwn s.part.store n x (Ok tt) store
        → Does s (λ p did q. Numbered (Ok (record { number = n; serial = serial; client = client; interface = i })) p did q)
        (record { serial = s.serial; part = record s.part { store = store; last_serial = serial }; made = s.made; times = no_times })
    at_number serial x store next is (free, put) =
        let id : IdParts = record { number = n; serial = serial; client = client; interface = i } in
        does_quietly s (Numbered (Ok id)) (record s.part { store = store; last_serial = serial })
        (refl, known _ _ _ is_known (at_false _ _ left (at_true _ _ free (inl (grind (arith, stored, is, next, put))))))

    pub not_free : (e : InsertError) (x : Object (Kept U)) (store : Store (Kept U)) → e ≡ insert.NotFree → InsertsOwn s.part.store n x (Err e) store
        → Refused create.NotFree store
    not_free e x store is inserts =
        let (taken, same) = rw is at inserts in
        does_quietly s (Numbered (Err create.NotFree)) (record s.part { store = store })
        (refl, known _ _ _ is_known (at_false _ _ left (at_false _ _ taken (refl, ap (λ (k : Store (Kept U)). record s.part { store = k }) same))))

    pub no_memory_at : (e : InsertError) (x : Object (Kept U)) (store : Store (Kept U)) → e ≡ insert.OutOfMemory
        → InsertsOwn s.part.store n x (Err e) store
        → Refused create.OutOfMemory store
    no_memory_at e x store is inserts =
        let (free, next, same) = rw is at inserts in
        does_quietly s (Numbered (Err create.OutOfMemory)) (record s.part { store = store })
        (refl, known _ _ _ is_known (at_false _ _ left (at_true _ _ free (inr (refl, next, ap (λ (k : Store (Kept U)). record s.part { store = k }) same)))))
