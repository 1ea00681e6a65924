-- How a registry is told of globals, one after another.
use Rattle.std.proofs.Common.{arith, ◌≡◌, ℕ, true, List, [], ◌∷◌, ◌++◌, append_assoc, length, map, Result, Ok, Err, refl, sym, ap}
use Rattle.std.specs.List.{filter}
use Rattle.std.specs.Prelude.{nat_lt}
use Rattle.wl_wire.specs.declared.error.IoFault.{IoFault}
use Rattle.wl_wire.specs.Table.{name_of}
use Rattle.wl_link.specs.declared.object.Object.{Object}
use Rattle.wl_link.specs.Exchange.{Queue}
use Rattle.wl_link.specs.Identity.{Id}
use Rattle.wl_link.specs.Link.{LinkState}
use Rattle.wl_link.specs.Puts.{Said}
use Rattle.wl_server_client.specs.declared.globals.KeptGlobal.{KeptGlobal}
use Rattle.wl_server_client.specs.Globals.{is_shown, shown_as}
use Rattle.wl_server_client.specs.Inside.Puts.{Puts}
use Rattle.wl_server_client.specs.Reading.{Around}
use Rattle.wl_server_client.specs.Telling.{global_message, introductions, making}
use Rattle.wl_server_client.proofs.GlobalCalls.Putting.{puts_failed, puts_more, puts_none}

-- what a registry is told of these globals, with so much room for the first text
abbrev pub told_of_all : {G C : Type 0} → Around G C → C → Id → ℕ → List (ℕ × Object (KeptGlobal G)) → List Said
told_of_all a client_data id room entries = introductions a.table id room (map shown_as (filter (is_shown a.views a.client client_data) entries))

module _ {T G C : Type 0} (sends : T → Queue → Result ℕ IoFault → T → Type 0) (a : Around G C) (client_data : C) (id : Id) where
  abbrev Entry : Type 0
  Entry = ℕ × Object (KeptGlobal G)

  -- how long the text of a global is
  abbrev pub long : Entry → ℕ
  long e = length (name_of a.table e.1.interface.0)

  -- what it is told of one
  abbrev pub told_of : ℕ → Entry → Said
  told_of room e = making (nat_lt room (long e)) (global_message a.table id (shown_as e))

  -- so far all was told, and this is left
  abbrev pub ToldTo : LinkState T → List Said → LinkState T → ℕ → List Entry → Type 0
  ToldTo start all now room left = (first : List Said) × Puts sends start first (Ok tt) now × (all ≡ first ++ told_of_all a client_data id room left)

  shows : (room : ℕ) (e : Entry) (left : List Entry) → is_shown a.views a.client client_data e ≡ true
      → told_of_all a client_data id room (e ∷ left) ≡ told_of room e ∷ told_of_all a client_data id (long e) left
  shows room e left is = rw is refl

  pub told_begins : (start : LinkState T) (room : ℕ) → room ≡ 0 → (entries : List Entry)
      → ToldTo start (told_of_all a client_data id 0 entries) start room entries
  told_begins start room none entries = ([], puts_none sends start, ap (λ (n : ℕ). told_of_all a client_data id n entries) (sym none))

  pub told_one : (start now after : LinkState T) (all : List Said) (room next : ℕ) (e : Entry) (old left : List Entry) → old ≡ e ∷ left
      → is_shown a.views a.client client_data e ≡ true → next ≡ long e → Puts sends now (told_of room e ∷ []) (Ok tt) after
      → ToldTo start all now room old
      → ToldTo start all after next left
  told_one start now after all room next e old left step shown length_is one (first, puts, is) = (
    first ++ told_of room e ∷ [],
    puts_more sends start now after first (told_of room e ∷ []) (Ok tt) puts one,
    grind (arith, shows, append_assoc, told_of, told_of_all),
  )

  pub told_failed : (start now after : LinkState T) (all : List Said) (room : ℕ) (e : Entry) (old left : List Entry) (f : IoFault) → old ≡ e ∷ left
      → is_shown a.views a.client client_data e ≡ true → Puts sends now (told_of room e ∷ []) (Err f) after → ToldTo start all now room old
      → Puts sends start all (Err f) after
  told_failed start now after all room e old left f step shown one (first, puts, is) =
      let m = told_of room e ∷ [] in
      let split : all ≡ (first ++ m) ++ told_of_all a client_data id (long e) left = grind (arith, shows, append_assoc) in
      rw split (puts_failed sends start after (first ++ m) (told_of_all a client_data id (long e) left) f
      (puts_more sends start now after first m (Err f) puts one))
