-- Which globals a client's registries announced to it: exactly the enabled ones that it may see.
use Rattle.std.specs.Prelude.{◌≡◌, ◌≢◌, ◌↔◌, ℕ, List, [], ◌∷◌, ◌++◌, map, Bool, false, not, ◌==◌, if◌then◌else◌, Some, Ok, Contains, MatchOption}
use Rattle.std.specs.List.{filter}
use Rattle.wl_wire.specs.declared.argument.Argument.TheVariants as arg
use Rattle.wl_wire.specs.Argument.{WireArgument}
use Rattle.wl_wire.specs.Message.{WireMessage}
use Rattle.wl_wire.specs.Table.{InterfaceRow, name_of}
use Rattle.wl_link.specs.Identity.{Id}
use Rattle.wl_link.specs.Puts.{Said}
use Rattle.wl_server_model.specs.declared.step.Reply.TheVariants as reply
use Rattle.wl_server_model.specs.declared.step.Step.TheVariants as step
use Rattle.wl_server_client.specs.Deeds.{log_of, registries_in}
use Rattle.wl_server_client.specs.Globals.{Offer, Shown, shown}
use Rattle.wl_server_client.specs.Ids.{ClientParts, GlobalParts}
use Rattle.wl_server_client.specs.Part.{id_of, same_id}
use Rattle.wl_server_model.specs.PartStep.{Asked, Call, World}
use Rattle.wl_server_model.specs.Runs.{Own, history, mine}
use Rattle.wl_server_model.specs.Server.{Seen, ServerState, seen}
use Rattle.wl_server_model.specs.Steps.{Entry}

-- ---- what is announced

-- a global as a registry announces it: its name, the name of its interface, and its version
pub record Announced : Type 0 where
  pub name : ℕ
  pub interface : List ℕ
  pub version : ℕ

-- the object that sends a message
abbrev pub sender_of : Said → Id
sender_of m = record { number = m.message.sender; serial = m.serial }

-- the global that the arguments of `global` tell of
abbrev pub told_global : List WireArgument → List Announced
told_global (arg.Uint name ∷ arg.Str (Some interface) ∷ arg.Uint version ∷ []) = record { name = name; interface = interface; version = version } ∷ []
told_global _ = []

-- all but those of a name
abbrev pub without_name : ℕ → List Announced → List Announced
without_name name told = filter (λ g. not (g.name == name)) told

abbrev pub taken_back : List Announced → List WireArgument → List Announced
taken_back told (arg.Uint name ∷ []) = without_name name told
taken_back told _ = told

-- A registry's event 0, `global`, announces a global. Its event 1, `global_remove`, takes those of a name back.
abbrev pub announced_after : List Announced → WireMessage → List Announced
announced_after told m =
    if m.opcode == 0
    then told ++ told_global m.args
    else (if m.opcode == 1 then taken_back told m.args else told)

-- what is announced on an object after these messages; only those that it sends count
abbrev pub announced_over : Id → List Announced → List Said → List Announced
announced_over r told [] = told
announced_over r told (m ∷ log) = announced_over r (if same_id (sender_of m) r then announced_after told m.message else told) log

-- what is announced on an object by a log, and not taken back
abbrev pub announced : List Said → Id → List Announced
announced log r = announced_over r [] log

-- ---- what is shown

abbrev pub announced_as : List InterfaceRow → Shown → Announced
announced_as table g = record { name = g.name; interface = name_of table g.interface.0; version = g.version }

-- the enabled globals of an offer that the client may see, as they are announced
abbrev pub shown_of : {G C : Type 0} → (G → ClientParts → C → GlobalParts → Bool) → Offer G → ClientParts → C → List Announced
shown_of views offer client client_data = map (announced_as offer.table) (shown views offer.globals client client_data)

-- the same globals, in whatever order
abbrev pub AreSameGlobals : List Announced → List Announced → Type 0
AreSameGlobals told others = (g : Announced) → Contains told g ↔ Contains others g

-- ---- over runs

module _ {T U G C : Type 0} where
  -- In the call the program itself sends no event of the object, and does not destroy it. A call that is refused does
  -- neither.
  abbrev pub IsLeftAlone : Id → Call T U G C → Type 0
  IsLeftAlone r (Asked (step.SendEvent m) (reply.SendEvent answer)) = id_of m.sender_id ≡ r → answer ≢ Ok tt
  IsLeftAlone r (Asked (step.DestroyObject o) (reply.DestroyObject answer)) = id_of o ≡ r → answer ≢ Ok tt
  IsLeftAlone r _ = Unit {0}

  abbrev pub IsAlwaysLeftAlone : Id → List (Own T U G C) → Type 0
  IsAlwaysLeftAlone r [] = Unit {0}
  IsAlwaysLeftAlone r (e ∷ run) = IsLeftAlone r e.call × IsAlwaysLeftAlone r run

  -- If the client is live: on each registry that was made for it, and that the program leaves alone, exactly the enabled
  -- globals that the client may see are announced and not taken back. A registry that was handed out is none of these: what is
  -- announced on it the program says by itself.
  abbrev pub AnnouncesShown : World T G C → ClientParts → Offer G → List (Own T U G C) → Seen T U C → Type 0
  AnnouncesShown w id offer run s =
      (registry : Id) → Contains (registries_in (history run)) registry → IsAlwaysLeftAlone registry run
      → MatchOption s.part (Unit {0})
      (λ p. p.is_killed ≡ false → AreSameGlobals (announced (log_of (history run)) registry) (shown_of w.views offer id p.client_data))

  -- so it is with each client that was inserted in the run, from then on
  abbrev pub EachAnnouncesShown : World T G C → List (Entry T U G C) → ServerState T U G C → Type 0
  EachAnnouncesShown w run after =
      (id : ClientParts) (transport : T) (client_data : C) (earlier later : List (Entry T U G C)) (e : Entry T U G C) →
      run ≡ earlier ++ e ∷ later → e.call ≡ Asked (step.InsertClient transport client_data) (reply.InsertClient (Ok id)) →
      AnnouncesShown w id after.offer (mine id later) (seen id after)
