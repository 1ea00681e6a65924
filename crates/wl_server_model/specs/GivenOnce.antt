-- That no id of a client or of a global is given twice, and that one which names none any longer never names one again.
use Rattle.std.specs.Prelude.{◌≡◌, ◌⊎◌, ℕ, ◌<◌, List, [], ◌∷◌, ◌++◌, Bool, ◌==◌, ◌&&◌, if◌then◌else◌, Option, None, Some, IsSome, option_map, Ok}
use Rattle.wl_wire.specs.declared.interface.InterfaceId.{InterfaceId}
use Rattle.wl_wire.specs.Table.{InterfaceRow}
use Rattle.wl_link.specs.declared.object.Object.{Object}
use Rattle.wl_server_client.specs.declared.globals.KeptGlobal.{KeptGlobal}
use Rattle.wl_server_model.specs.declared.step.Reply.TheVariants as reply
use Rattle.wl_server_model.specs.declared.step.Step.TheVariants as step
use Rattle.wl_server_client.specs.Globals.{as_disabled, global_of, new_global}
use Rattle.wl_server_client.specs.Ids.{ClientParts, GlobalParts}
use Rattle.wl_server_model.specs.PartStep.{Asked, Call, World}
use Rattle.wl_server_model.specs.Runs.{Inserts, Leads}
use Rattle.wl_server_model.specs.Server.{ServerState, new_server, seen}
use Rattle.wl_server_model.specs.Steps.{Entry}

-- one global: the same name and the same serial
abbrev pub same_global : GlobalParts → GlobalParts → Bool
same_global a b = (a.name == b.name) && (a.serial == b.serial)

module _ {T U G C : Type 0} where
  -- a call creates this global
  abbrev pub Offers : GlobalParts → Call T U G C → Type 0
  Offers new call = (i : InterfaceId) × (version : ℕ) × (handler : G) × (call ≡ Asked (step.CreateGlobal i version handler) (reply.CreateGlobal (Ok new)))

  -- some call of the run does so
  abbrev pub SomeCall : (Call T U G C → Type 0) → List (Entry T U G C) → Type 0
  SomeCall Does [] = ⊥
  SomeCall Does (e ∷ run) = Does e.call ⊎ SomeCall Does run

  -- ---- each id has a greater serial than those that were given before it

  abbrev pub ClientsRise : List (Entry T U G C) → Type 0
  ClientsRise [] = Unit {0}
  ClientsRise (e ∷ run) = ((old new : ClientParts) → Inserts old e.call → SomeCall (Inserts new) run → old.serial < new.serial) × ClientsRise run

  abbrev pub GlobalsRise : List (Entry T U G C) → Type 0
  GlobalsRise [] = Unit {0}
  GlobalsRise (e ∷ run) = ((old new : GlobalParts) → Offers old e.call → SomeCall (Offers new) run → old.serial < new.serial) × GlobalsRise run

  -- ---- what becomes of one global

  -- a call that names it disables it, or removes it
  abbrev pub global_by : GlobalParts → Call T U G C → Option (Object (KeptGlobal G)) → Option (Object (KeptGlobal G))
  global_by g (Asked (step.DisableGlobal target) answer) o = if same_global target g then option_map as_disabled o else o
  global_by g (Asked (step.RemoveGlobal target) answer) o = if same_global target g then None else o
  global_by g _ o = o

  abbrev pub global_over : GlobalParts → List (Entry T U G C) → Option (Object (KeptGlobal G)) → Option (Object (KeptGlobal G))
  global_over g [] o = o
  global_over g (e ∷ run) o = global_over g run (global_by g e.call o)

  -- The id of each global that was created in the run names that global, as the calls behind it that name it left it: until
  -- it is removed, and then none.
  abbrev pub EachNamesItsGlobal : List (Entry T U G C) → ServerState T U G C → Type 0
  EachNamesItsGlobal run after =
      (g : GlobalParts) (i : InterfaceId) (version : ℕ) (handler : G) (earlier later : List (Entry T U G C)) (e : Entry T U G C) →
      run ≡ earlier ++ e ∷ later → e.call ≡ Asked (step.CreateGlobal i version handler) (reply.CreateGlobal (Ok g)) →
      global_of after.offer.globals g ≡ global_over g later (Some (new_global i version g.serial handler))

  -- ---- what holds of a run of a new server

  pub record GivesOnce (w : World T G C) (table : List InterfaceRow) (run : List (Entry T U G C)) (after : ServerState T U G C) : Type 0 where
    pub clients : ClientsRise run
    pub globals : GlobalsRise run
    -- what an id names was made in the run
    pub client_made : (id : ClientParts) → IsSome (seen id after).part → SomeCall (Inserts id) run
    pub global_made : (g : GlobalParts) → IsSome (global_of after.offer.globals g) → SomeCall (Offers g) run
    pub names_global : EachNamesItsGlobal run after
    -- an id that was given, and names none at some later point, names none from then on
    pub no_client_again : (id : ClientParts) (done later : List (Entry T U G C)) (point : ServerState T U G C) → run ≡ done ++ later
        → Leads w (new_server table) done point → Leads w point later after → SomeCall (Inserts id) done → (seen id point).part ≡ None
        → (seen id after).part ≡ None
    pub no_global_again : (g : GlobalParts) (done later : List (Entry T U G C)) (point : ServerState T U G C) → run ≡ done ++ later
        → Leads w (new_server table) done point → Leads w point later after → SomeCall (Offers g) done → global_of point.offer.globals g ≡ None
        → global_of after.offer.globals g ≡ None
