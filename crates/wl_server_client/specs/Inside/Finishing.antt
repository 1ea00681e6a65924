-- What the functions that end an action say to their callers.
use Rattle.std.specs.Prelude.{◌≡◌, ◌⊎◌, ℕ, ◌++◌, Bool, true, false, Option, None, Some, is_some, Result, Ok, Err, MatchOption, if◌then◌else◌}
use Rattle.wl_wire.specs.declared.error.IoFault.{IoFault}
use Rattle.wl_wire.specs.declared.error.OutOfMemory.{OutOfMemory}
use Rattle.wl_link.specs.declared.object.Object.{Object}
use Rattle.wl_link.specs.Exchange.{Queue}
use Rattle.wl_link.specs.Link.{LinkState}
use Rattle.wl_link.specs.Puts.{lacks_memory}
use Rattle.wl_link.specs.Store.{Store, removed}
use Rattle.wl_server_client.specs.declared.error.FinishError.{FinishError}
use Rattle.wl_server_client.specs.declared.error.FinishError.TheVariants as finish
use Rattle.wl_server_client.specs.declared.error.FinishRefused.{FinishRefused}
use Rattle.wl_server_client.specs.declared.objects.Kept.{Kept}
use Rattle.wl_server_client.specs.declared.reading.action.OpenAction.TheVariants as opened
use Rattle.wl_server_client.specs.Finish.{HoldsData, ended_by, store_with_data}
use Rattle.wl_server_client.specs.Ids.{ClientParts, IdParts}
use Rattle.wl_server_client.specs.Part.{Part, named, note_of_end, registries_without, with_link}
use Rattle.wl_server_client.specs.Inside.Puts.{Puts}
use Rattle.wl_server_client.specs.Stored.{Stored, no_times, untimed}
use Rattle.wl_server_client.specs.Telling.{deletions}

-- what the answer of telling a client says: that memory was refused, or how the client was told
abbrev pub ended_as : Result (Unit {0}) IoFault → Result (Result (Unit {0}) IoFault) OutOfMemory
ended_as told = if lacks_memory told then Err (record {}) else Ok told

-- whether memory was refused, by the reason or the answer
abbrev pub is_out_of_memory : FinishError → Bool
is_out_of_memory finish.OutOfMemory = true
is_out_of_memory _ = false

abbrev pub lacks_finish : {D : Type 0} → Result (Unit {0}) (FinishRefused D) → Bool
lacks_finish (Ok _) = false
lacks_finish (Err r) = is_out_of_memory r.error

-- the object that an action made has the data that were given, if there are both and it is kept; else nothing comes back
abbrev pub DataHeld : {U : Type 0} → Store (Kept U) → Option IdParts → Option U → Option U → Type 0
DataHeld store (Some id) (Some u) back = HoldsData (named store id) u back
DataHeld store _ _ back = back ≡ None

module _ {T U C : Type 0} where
  -- no action is open any longer, and the object that it made has its data
  abbrev pub part_finished : Part T U C → Option IdParts → Option U → Part T U C
  part_finished p created u = record p { action = None; store = store_with_data p.store created u }

  -- what becomes of the data of the open request or bind
  abbrev pub RequestLeaves : Part T U C → Option U → Result (Option U) (FinishRefused (Option U)) → Part T U C → Type 0
  RequestLeaves before u (Ok back) after =
      (sender : IdParts) × (is_destructor : Bool) × (created : Option IdParts) × (before.action ≡ Some (opened.Request sender is_destructor created))
      × DataHeld after.store created u back
  RequestLeaves before u (Err _) after = Unit {0}

  abbrev pub BindLeaves : Part T U C → U → Result (Option U) (FinishRefused U) → Part T U C → Type 0
  BindLeaves before u (Ok back) after =
      (object : IdParts) × (before.action ≡ Some (opened.Bind object)) × HoldsData (named after.store object) u back
  BindLeaves before u (Err _) after = Unit {0}

  -- the part without an object, with this link
  abbrev pub part_without : Part T U C → LinkState T → ℕ → Object (Kept U) → Part T U C
  part_without p link n x = record p { link = link; store = removed p.store n; registries = registries_without p.registries n x }

module _ {T U C : Type 0} (sends : T → Queue → Result ℕ IoFault → T → Type 0) (client : ClientParts) where
  -- The client was told that the object's number is free, with this answer, and the object left and was noted. Or memory was
  -- refused, and the object stays.
  abbrev pub EndsObject : Stored T U C → IdParts → Object (Kept U) → Result (Result (Unit {0}) IoFault) OutOfMemory → Stored T U C → Type 0
  EndsObject before sender x (Ok wrote) after =
      Puts sends before.part.link (deletions sender.number) wrote after.part.link × (lacks_memory wrote ≡ false)
      × (untimed after ≡ record {
        serial = before.serial;
        part = part_without before.part after.part.link sender.number x;
        made = before.made ++ note_of_end client sender.number x;
        times = no_times;
      })
  EndsObject before sender x (Err _) after =
      ((is_some x.value.user_data ≡ true) × (after ≡ before))
      ⊎ ((wrote : Result (Unit {0}) IoFault) × (lacks_memory wrote ≡ true)
      × Puts sends before.part.link (deletions sender.number) wrote after.part.link
      × (after ≡ record before { part = with_link before.part after.part.link }))

  -- the same for a request that may end its sender
  abbrev pub EndsSender : Stored T U C → IdParts → Bool → Result (Result (Unit {0}) IoFault) OutOfMemory → Stored T U C → Type 0
  EndsSender before sender is_destructor answer after =
      MatchOption (ended_by before.part.store sender is_destructor) ((answer ≡ Ok (Ok tt)) × (after ≡ before))
      (λ x. EndsObject before sender x answer after)
