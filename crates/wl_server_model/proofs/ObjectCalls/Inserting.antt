-- A new client at a free slot, as a step of the server.
use Rattle.std.proofs.Common.{◌≡◌, ℕ, ◌+◌, ◌<◌, ◌≤◌, Bool, true, false, List, [], ◌∷◌, ◌++◌, length, map, Option, None, Some, is_some, IsSome, Result, Ok, Err, refl, sym, arith, append-nil}
use Rattle.std.specs.Prelude.{MatchBool, MatchOption, nat_lt, slice_get, slice_set, ◌==◌}
use Rattle.std.specs.Result.{OkIff, result_ok}
use Rattle.std.proofs.lemmas.Bool.{false≢true, ltb-true, ltb-false, eq-eqb, eqb-true}
use Rattle.std.proofs.lemmas.Option.{slice_get-get_or}
use Rattle.wl_server_client.specs.declared.error.InsertClientError.TheVariants as insert
use Rattle.wl_server_client.specs.declared.notes.Happening.TheVariants.{Initialized}
use Rattle.wl_server_client.specs.declared.notes.Note.{Note}
use Rattle.wl_server_client.specs.declared.notes.queues.NoteNumbers.{NoteNumbers}
use Rattle.wl_server_model.specs.declared.step.Reply.TheVariants as reply
use Rattle.wl_server_model.specs.declared.step.Step.TheVariants as step
use Rattle.wl_server_model.proofs.OverRuns.Alone.AccountLaws.{calls}
use Rattle.wl_server_model.specs.Backend.{Calls}
use Rattle.wl_server_client.specs.Inside.Client.{IsInserted}
use Rattle.wl_server_client.specs.Deeds.{Noted}
use Rattle.wl_server_client.specs.Globals.{Offer}
use Rattle.wl_server_client.specs.Ids.{ClientParts, same_client}
use Rattle.wl_server_model.specs.Inside.Inserting.{AreTaken, IsPut}
use Rattle.wl_server_model.specs.NoteOrder.{AllInTime, AllNumbered}
use Rattle.wl_server_client.specs.NoteTimes.{times_of}
use Rattle.wl_server_client.specs.Part.{fresh_part, last_possible_serial}
use Rattle.wl_server_model.specs.PartStep.{Asked, Inserted, Unfelt, World}
use Rattle.wl_server_model.specs.Server.{Seen, ServerState, if_serial, seen_as, stored_at}
use Rattle.wl_server_client.specs.Stored.{Stored}
use Rattle.wl_server_model.specs.Steps.{IsLeastFree, LacksSlot}
use Rattle.wl_sets.proofs.Lists.{get_set_other, get_set_same, other_of}
use Rattle.wl_server_model.proofs.CallSteps.Slots.{client_present, did_at, held_of, stored_past, same_is}
use Rattle.wl_server_model.proofs.CallSteps.Numbering.{all_same}
use Rattle.wl_server_model.proofs.CallSteps.Feeling.{step_of}

module _ {T U C : Type 0} where
  -- ---- slots

  -- the first free place is a slot, or each slot is taken
  pub slot_of : {E : Type 0} (clients : List (Option (Stored T U C))) (n : ℕ) (r : Result ℕ E) (o : Option ℕ) → stored_at n clients ≡ None
      → AreTaken n clients → OkIff r (n < 0x100000000) n → o ≡ result_ok r
      → MatchOption o ((k : ℕ) → k < 0x100000000 → IsSome (stored_at k clients)) (IsLeastFree clients)
  unfolding AreTaken
  slot_of clients n r o h1 h2 h3 h4 = grind (arith, stored_at)

  pub least_within : (clients : List (Option (Stored T U C))) (slot : ℕ) → IsLeastFree clients slot → slot ≤ length clients
  least_within clients slot free = grind (arith, nat_lt, false≢true, is_some, stored_past, ltb-true, ltb-false)

  -- ---- a client is put at a slot

  pub put_within : (clients : List (Option (Stored T U C))) (slot : ℕ) (s : Stored T U C) → slot < length clients
      → IsPut clients slot s (slice_set clients slot (Some s))
  put_within clients slot s within =
      (get_set_same clients slot _ (Some s) (slice_get-get_or clients slot None within), λ k differ. get_set_other clients slot k (Some s) (λ e. differ (sym e)))

  at_end : (clients : List (Option (Stored T U C))) (s : Stored T U C) → IsPut clients (length clients) s (clients ++ Some s ∷ [])
  at_end [] s = grind (arith, slice_get)
  at_end (x ∷ clients) s = grind (arith, at_end clients s)

  pub put_behind : (clients : List (Option (Stored T U C))) (slot : ℕ) (s : Stored T U C) → slot ≡ length clients
      → IsPut clients slot s (clients ++ Some s ∷ [])
  put_behind clients slot s is = rw is (at_end clients s)

module _ {T U G C : Type 0} (w : World T G C) where
  -- ---- what each client makes of it

  abbrev InsertedAt : ClientParts → Offer G → T → C → Bool → Seen T U C → Seen T U C → Type 0
  InsertedAt id offer transport client_data b before after =
      MatchBool b (Inserted w id offer transport client_data before false (did_at b (Noted Initialized ∷ [])) after)
      (Unfelt before false (did_at b (Noted Initialized ∷ [])) after)

  each_inserted : (offer : Offer G) (transport : T) (client_data : C) (clients clients' : List (Option (Stored T U C))) (notes : List (Note U))
      (new : ClientParts) (s : Stored T U C)
      → stored_at new.slot clients ≡ None → IsPut clients new.slot s clients'
      → IsInserted new.serial transport (Some offer.default_limit) client_data s → (id : ClientParts)
      → InsertedAt id offer transport client_data (same_client new id) (held_of notes clients id) (held_of notes clients' id)
  each_inserted offer transport client_data clients clients' notes new s free (here, others) (link, fresh, is) id = at (same_client new id) refl
    where
      at : (b : Bool) → same_client new id ≡ b → InsertedAt id offer transport client_data b (held_of notes clients id) (held_of notes clients' id)
      at true same = (
        link,
        fresh,
        refl,
        refl,
        grind (arith, seen_as, fresh_part, append-nil, same_is new id same, client_present new clients' s here, is, free, if_serial, stored_at),
      )
      at false other =
          grind (arith, eq-eqb, eqb-true, seen_as, is, here, free, others, if_serial, other_of, new.slot == id.slot, new.serial == id.serial)

  -- ---- the step

  -- the client of this id was put at its slot
  pub inserted : {was : Bool} (before : ServerState T U G C) (transport : T) (client_data : C) (new : ClientParts) (s : Stored T U C)
      (clients' : List (Option (Stored T U C)))
      → IsLeastFree before.clients new.slot → before.last_client < last_possible_serial → new.serial ≡ before.last_client + 1
      → IsInserted new.serial transport (Some before.offer.default_limit) client_data s → IsPut before.clients new.slot s clients'
      → (numbers' : NoteNumbers) → AllInTime (map times_of before.clients) before.numbers (map times_of clients') numbers' → AllNumbered clients'
      → Calls w (record { server = before; refused = was }) (step.InsertClient transport client_data) (reply.InsertClient (Ok new))
      (record { server = record before { last_client = before.last_client + 1; clients = clients'; numbers = numbers' }; refused = false })
  inserted before transport client_data new s clients' free below serial is put numbers' times numbered =
      calls _ _ _ _ _
      (step_of w before _ false (λ id. did_at (same_client new id) (Noted Initialized ∷ [])) _ refl refl (free, below, serial) tt tt tt refl
      (record { gathered = refl; times = times; numbered = numbered })
      (λ id. (Ok new, refl, each_inserted before.offer transport client_data before.clients clients' before.notes new s free.free put is id)))

  -- no slot or no serial is left
  pub not_inserted : {was : Bool} (before : ServerState T U G C) (transport : T) (client_data : C) → LacksSlot before.last_client before.clients
      → AllNumbered before.clients
      → Calls w (record { server = before; refused = was }) (step.InsertClient transport client_data) (reply.InsertClient (Err insert.Full))
      (record { server = before; refused = false })
  not_inserted before transport client_data lacks all =
      calls _ _ _ _ _ (step_of w before _ false (λ id. []) before refl (omega arith) lacks tt tt tt refl
      (record { gathered = refl; times = all_same _ _ _ refl; numbered = all }) (λ id. (Err insert.Full, refl, (refl, refl, refl))))

  pub insertion_starved : {was : Bool} (before : ServerState T U G C) (transport : T) (client_data : C) (new : ClientParts)
      (clients' : List (Option (Stored T U C)))
      → IsLeastFree before.clients new.slot → before.last_client < last_possible_serial → new.serial ≡ before.last_client + 1
      → clients' ≡ before.clients
      → (numbers' : NoteNumbers) → AllInTime (map times_of before.clients) before.numbers (map times_of clients') numbers'
      → AllNumbered before.clients
      → Calls w (record { server = before; refused = was }) (step.InsertClient transport client_data) (reply.InsertClient (Err insert.OutOfMemory))
      (record { server = record before { clients = clients'; numbers = numbers' }; refused = true })
  insertion_starved before transport client_data new clients' free below serial same numbers' times all =
      calls _ _ _ _ _ (rw same (step_of w before (Asked (step.InsertClient transport client_data) (reply.InsertClient (Err insert.OutOfMemory))) true
      (λ id. []) _ refl (omega arith)
      (new, (free, below, serial)) tt tt tt refl (record { gathered = refl; times = rw same at times; numbered = all })
      (λ id. (Err insert.OutOfMemory, refl, (refl, refl, refl)))))
