-- Which requests a client may make.
use Rattle.std.specs.Prelude.{◌≡◌, ◌≢◌, ℕ, ◌<◌, ◌≤◌, ◌⊎◌, true, false, List, [], ◌∷◌, Option, None, Some, MatchOption, if◌then◌else◌}
use Rattle.wl_wire.specs.declared.argument.Argument.TheVariants as arg
use Rattle.wl_wire.specs.declared.interface.InterfaceId.{InterfaceId}
use Rattle.wl_wire.specs.Argument.{WireArgument}
use Rattle.wl_wire.specs.Message.{WireMessage, size}
use Rattle.wl_wire.specs.Table.{MessageRow, name_of}
use Rattle.wl_link.specs.declared.object.Object.{Object}
use Rattle.wl_follow.specs.Objects.{new_number}
use Rattle.wl_follow.specs.declared.side.Side.TheVariants.{Client}
use Rattle.wl_guard.specs.Known.{is_beyond, is_one_of, told_of}
use Rattle.wl_guard.specs.Policy.{PolicyState, allowed_version, lists}
use Rattle.wl_guard.specs.declared.session.Fate.{Fate}
use Rattle.wl_guard.specs.declared.session.Fate.TheVariants as fate
use Rattle.wl_guard.specs.declared.session.Rule.{Rule}
use Rattle.wl_guard.specs.declared.session.Rule.TheVariants as rule
use Rattle.wl_guard.specs.declared.session.Told.{Told}

-- the number of the global, the name of the interface and the version that a bind asks for
abbrev pub bind_of : List WireArgument → Option (ℕ × (List ℕ × ℕ))
bind_of (arg.Uint number ∷ arg.Str (Some name) ∷ arg.Uint version ∷ arg.NewId _ ∷ []) = Some (number, (name, version))
bind_of _ = None

-- The last announcement of the number was handed on, with this interface; and the version is one that the client was told of and may
-- have.
pub record BindsTold (p : PolicyState) (told : List Told) (number : ℕ) (name : List ℕ) (version : ℕ) : Type 0 where
  pub last : Told
  pub is_told : told_of told number ≡ Some last
  pub is_shown : last.is_shown ≡ true
  pub named : name_of p.table last.interface.0 ≡ name
  pub some : 1 ≤ version
  pub within_told : version ≤ last.version
  pub within_policy : version ≤ allowed_version p last.interface

abbrev pub BindIsAllowed : PolicyState → List Told → List WireArgument → Type 0
BindIsAllowed p told args = MatchOption (bind_of args) ⊥ (λ b. BindsTold p told b.0 b.1.0 b.1.1)

module _ (p : PolicyState) (told : List Told) (ended : List ℕ) (object : Object (Unit {0})) (row : MessageRow) (m : WireMessage) (len : ℕ) where
  -- A request of this object, of this row of the table, may be made. `len` is the length that its header says.
  pub record IsAllowed : Type 0 where
    pub alive : is_one_of ended m.sender ≡ false
    pub exact : len ≡ size m
    pub since : row.since ≤ object.version
    pub unrefused : lists p.refused object.interface m.opcode ≡ false
    pub within : is_beyond p.limits Client (new_number m.args) ≡ false
    pub bind : object.interface.0 ≡ 2 → BindIsAllowed p told m.args

  -- it breaks this rule
  abbrev pub BreaksRule : Rule → Type 0
  BreaksRule rule.Destroyed = is_one_of ended m.sender ≡ true
  BreaksRule rule.Length = (len ≢ size m) ⊎ (65535 < size m)
  BreaksRule rule.Version = object.version < row.since
  BreaksRule rule.Policy = lists p.refused object.interface m.opcode ≡ true
  BreaksRule rule.Objects = is_beyond p.limits Client (new_number m.args) ≡ true
  BreaksRule rule.Global = (object.interface.0 ≡ 2) × (BindIsAllowed p told m.args → ⊥)
  BreaksRule _ = ⊥

-- one that may be made is handed on, or dropped
abbrev pub fate_of_request : PolicyState → InterfaceId → ℕ → Fate
fate_of_request p interface opcode = if lists p.ignored interface opcode then fate.Drop else fate.HandOn
