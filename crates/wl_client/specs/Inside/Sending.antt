-- The steps of a request that is sent.
use Rattle.std.specs.Prelude.{◌≡◌, ℕ, ◌+◌, ◌⊎◌, List, [], ◌∷◌, ◌++◌, Bool, true, false, ◌==◌, if◌then◌else◌, Option, None, Some, is_some, option_map, Result, Ok, Err, MatchBool}
use Rattle.wl_wire.specs.declared.error.IoFault.{IoFault}
use Rattle.wl_wire.specs.declared.error.OutOfMemory.{OutOfMemory}
use Rattle.wl_wire.specs.Message.{WireMessage}
use Rattle.wl_link.specs.declared.object.Object.{Object}
use Rattle.wl_link.specs.Exchange.{Queue}
use Rattle.wl_link.specs.Link.{LinkState, Wrote}
use Rattle.wl_link.specs.Store.{Store, client_range, held, stored, is_free, IsLeastAbsent, IsFull}
use Rattle.wl_link.specs.Puts.{lacks_memory}
use Rattle.wl_client.specs.declared.error.RequestError.{RequestError}
use Rattle.wl_client.specs.declared.error.RequestError.TheVariants as refused
use Rattle.wl_client.specs.declared.error.WaylandError.{WaylandError}
use Rattle.wl_client.specs.declared.objects.Kept.{Kept}
use Rattle.wl_client.specs.declared.objects.Note.{Note}
use Rattle.wl_client.specs.declared.objects.Note.TheVariants.{Destroyed}
use Rattle.wl_client.specs.ObjectId.{IdParts}
use Rattle.wl_client.specs.Objects.{given_up}
use Rattle.wl_client.specs.Requests.{Spec, Numbered, error_after, new_child}
use Rattle.wl_client.specs.Session.{SessionState, last_possible_serial, id_at}

module _ {U : Type 0} where
  -- an object that may be the client's next one: its number is the least that holds none, and its serial the next
  pub record IsNext (store : Store (Kept U)) (last_serial : ℕ) (new : Numbered U) : Type 0 where
    pub number : IsLeastAbsent client_range store new.0
    pub free : is_free store new.0 ≡ true
    pub serial : new.1.value.serial ≡ last_serial + 1

  -- the store with the new object, if there is one
  abbrev pub store_with : Store (Kept U) → Option (Numbered U) → Store (Kept U)
  store_with store None = store
  store_with store (Some new) = stored store new.0 new.1

  -- the last serial; the new object, if there is one, uses up the next
  abbrev pub serial_with : ℕ → Option (Numbered U) → ℕ
  serial_with last None = last
  serial_with last (Some _) = last + 1

  -- of an object that is no longer the client's: its id, and whether it has user data
  abbrev pub ended_of : Option (Numbered U) → Option (IdParts × Bool)
  ended_of ended = option_map (λ e. (id_at e.0 e.1, is_some e.1.value.user_data)) ended

  -- the object at the number, if there is one, is no longer the client's
  abbrev pub given_up_at : Store (Kept U) → ℕ → Option (Object (Kept U)) → Store (Kept U)
  given_up_at store n None = store
  given_up_at store n (Some x) = given_up store n x

  abbrev pub store_ending : Store (Kept U) → Option (IdParts × Bool) → Store (Kept U)
  store_ending store None = store
  store_ending store (Some e) = given_up_at store e.0.number (held store e.0.number)

-- whether a note of it is kept
abbrev pub is_noted : Option (IdParts × Bool) → Bool
is_noted None = false
is_noted (Some e) = e.1

abbrev pub notes_ending : List Note → Option (IdParts × Bool) → List Note
notes_ending notes None = notes
notes_ending notes (Some e) = if e.1 then notes ++ Destroyed e.0 ∷ [] else notes

module _ {T U : Type 0} where
  -- the next object of the client, of that interface and version and with that user data
  abbrev pub IsNextObject : SessionState T U → Spec → U → Numbered U → Type 0
  IsNextObject s child u new =
      IsLeastAbsent client_range s.store new.0 × ((s.last_serial == last_possible_serial) ≡ false) × (new.1 ≡ new_child s child u)
      × (is_free s.store new.0 ≡ true)

  -- why there is no next object
  abbrev pub LacksNext : SessionState T U → RequestError → Type 0
  LacksNext s e =
      (IsFull client_range s.store × (e ≡ refused.IdsExhausted))
      ⊎ ((n : ℕ) × IsLeastAbsent client_range s.store n
      × ((s.last_serial == last_possible_serial) ≡ true) × (e ≡ refused.SerialsExhausted))

-- The message is written. A fault of the write takes the place of the stored error, except `OutOfMemory`, which is the
-- answer.
abbrev pub WrittenTo : {T : Type 0} → (T → Queue → Result ℕ IoFault → T → Type 0) → LinkState T → Option WaylandError → WireMessage
    → Result (Unit {0}) OutOfMemory → LinkState T → Option WaylandError → Type 0
WrittenTo sends link error m answer link' error' =
    (written : Result (Unit {0}) IoFault) × Wrote sends link m written link'
    × MatchBool (lacks_memory written) ((answer ≡ Err _) × (error' ≡ error)) ((answer ≡ Ok tt) × (error' ≡ error_after error written))
