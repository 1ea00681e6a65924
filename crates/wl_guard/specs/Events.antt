-- What a client is told.
use Rattle.std.specs.Prelude.{◌≡◌, ℕ, ◌-◌, ◌<◌, ◌≤◌, ◌⊎◌, Bool, true, false, ◌&&◌, ◌==◌, List, [], ◌∷◌, ◌++◌, length, take, Option, None, Some, Result, Ok, Err, MatchBool, MatchOption, if◌then◌else◌}
use Rattle.wl_wire.specs.declared.argument.Argument.TheVariants as arg
use Rattle.wl_wire.specs.declared.interface.InterfaceId.{InterfaceId}
use Rattle.wl_wire.specs.Argument.{WireArgument}
use Rattle.wl_wire.specs.Message.{WireMessage}
use Rattle.wl_wire.specs.Table.{name_of}
use Rattle.wl_link.specs.declared.object.Object.{Object}
use Rattle.wl_follow.specs.Objects.{LacksName, new_number}
use Rattle.wl_follow.specs.declared.side.Side.TheVariants.{Server}
use Rattle.wl_guard.specs.Known.{has_place, is_beyond, told_of, with_told}
use Rattle.wl_guard.specs.Policy.{PolicyState, allowed_version}
use Rattle.wl_guard.specs.declared.session.Fate.{Fate}
use Rattle.wl_guard.specs.declared.session.Fate.TheVariants as fate
use Rattle.wl_guard.specs.declared.session.Rule.{Rule}
use Rattle.wl_guard.specs.declared.session.Rule.TheVariants as rule
use Rattle.wl_guard.specs.declared.session.Told.{Told}

-- the number, the name and the version of an announcement
abbrev pub announcement_of : List WireArgument → Option (ℕ × (List ℕ × ℕ))
announcement_of (arg.Uint number ∷ arg.Str (Some name) ∷ arg.Uint version ∷ []) = Some (number, (name, version))
announcement_of _ = None

-- no interface of the table has this name, or the policy allows none that has
abbrev pub IsHidden : PolicyState → List ℕ → Type 0
IsHidden p name = LacksName p.table name ⊎ ((i : InterfaceId) × (name_of p.table i.0 ≡ name) × (allowed_version p i ≡ 0))

-- the policy allows this interface of that name, up to this version
abbrev pub IsShown : PolicyState → List ℕ → InterfaceId → ℕ → Type 0
IsShown p name i most = (name_of p.table i.0 ≡ name) × (1 ≤ most) × (most ≡ allowed_version p i)

-- What becomes of the announcement of a global of this number, name and version, and what is remembered of it. One that the policy
-- does not allow is dropped; one above the version that it allows has that version; others go on as they are.
abbrev pub Shows : PolicyState → ℕ → List ℕ → ℕ → Fate → Told → Type 0
Shows p number name version fate.HandOn t =
    (i : InterfaceId) × (most : ℕ) × IsShown p name i most × (version ≤ most)
    × (t ≡ record { number = number; interface = i; version = version; is_shown = true })
Shows p number name version fate.Drop t =
    IsHidden p name × (t ≡ record { number = number; interface = record { 0 = 0 }; version = 0; is_shown = false })
Shows p number name version (fate.Lower most) t =
    (i : InterfaceId) × IsShown p name i most × (most < version)
    × (t ≡ record { number = number; interface = i; version = most; is_shown = true })

-- An announcement is remembered. One of a number that is not remembered, beyond the limit, breaks a rule.
abbrev pub Announces : PolicyState → List Told → ℕ → List ℕ → ℕ → Result Fate Rule → List Told → Type 0
Announces p told number name version (Ok f) told' =
    (has_place p.limits told number ≡ true) × ((t : Told) × Shows p number name version f t × (told' ≡ with_told told t))
Announces p told number name version (Err rule.Globals) told' = (has_place p.limits told number ≡ false) × (told' ≡ told)
Announces p told number name version (Err _) told' = ⊥

-- the client was told of what the number is now
abbrev pub is_shown : Option Told → Bool
is_shown None = false
is_shown (Some t) = t.is_shown

-- a removal goes on if the last announcement of its number did
abbrev pub fate_of_removal : List Told → List WireArgument → Fate
fate_of_removal told (arg.Uint number ∷ []) = if is_shown (told_of told number) then fate.HandOn else fate.Drop
fate_of_removal told _ = fate.Drop

-- What becomes of an event of an object of this interface, and what is remembered after it: announcements and removals of globals are
-- looked at, and others go on as they are.
abbrev pub TellsOf : PolicyState → List Told → InterfaceId → WireMessage → Result Fate Rule → List Told → Type 0
TellsOf p told interface m verdict told' =
    MatchBool (interface.0 == 2 && m.opcode == 0)
    (MatchOption (announcement_of m.args) ((verdict ≡ Ok fate.Drop) × (told' ≡ told)) (λ g. Announces p told g.0 g.1.0 g.1.1 verdict told'))
    (MatchBool (interface.0 == 2 && m.opcode == 1) ((verdict ≡ Ok (fate_of_removal told m.args)) × (told' ≡ told))
    ((verdict ≡ Ok fate.HandOn) × (told' ≡ told)))

-- an event that makes an object of a number beyond the limit breaks a rule
abbrev pub JudgesEvent : PolicyState → List Told → Object (Unit {0}) → WireMessage → Result Fate Rule → List Told → Type 0
JudgesEvent p told object m verdict told' =
    MatchBool (is_beyond p.limits Server (new_number m.args)) ((verdict ≡ Err rule.Objects) × (told' ≡ told))
    (TellsOf p told object.interface m verdict told')

-- the announcement with this version in place of its own, which is its last argument
abbrev pub lowered : WireMessage → ℕ → WireMessage
lowered m version = record m { args = take (length m.args - 1) m.args ++ arg.Uint version ∷ [] }
