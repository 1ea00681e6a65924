-- The interfaces that objects of a connection may have, and the numbers that they may have.
use Rattle.std.specs.Prelude.{◌≡◌, ℕ, ◌+◌, ◌<◌, ◌≤◌, ◌⊎◌, Bool, true, false, List, [], ◌∷◌, length, Some}
use Rattle.wl_wire.specs.declared.interface.InterfaceId.{InterfaceId}
use Rattle.wl_wire.specs.Table.{MessageRow, name_of}
use Rattle.wl_link.specs.declared.object.Object.{Object}
use Rattle.wl_link.specs.Store.{Store, held, server_range}
use Rattle.wl_follow.specs.Fronts.{row_at}
use Rattle.wl_follow.specs.declared.side.Side.TheVariants.{Client, Server}
use Rattle.wl_guard.specs.Known.{Known, is_one_of}
use Rattle.wl_guard.specs.Policy.{PolicyState, allowed_version, lists}

-- A set of interfaces that has the display and those of whose name the policy allows a global, and that no message leaves: no request
-- that is neither refused nor ignored, and no event, of an interface of the set makes an object of one outside. The policy's closure is
-- the least such set.
pub record IsClosed (p : PolicyState) (set : InterfaceId → Bool) : Type 0 where
  pub display : set (record { 0 = 1 }) ≡ true
  pub globals : (i j : InterfaceId) → name_of p.table i.0 ≡ name_of p.table j.0 → 1 ≤ allowed_version p j → set i ≡ true
  pub requests : (i child : InterfaceId) (opcode : ℕ) (row : MessageRow) → set i ≡ true → row_at p.table Client i opcode ≡ Some row
      → lists p.refused i opcode ≡ false → lists p.ignored i opcode ≡ false → row.child_interface ≡ Some child → set child ≡ true
  pub events : (i child : InterfaceId) (opcode : ℕ) (row : MessageRow) → set i ≡ true → row_at p.table Server i opcode ≡ Some row
      → row.child_interface ≡ Some child → set child ≡ true

-- each object is of an interface of the set
abbrev pub AreWithin : (InterfaceId → Bool) → Store (Unit {0}) → Type 0
AreWithin set objects = (n : ℕ) (x : Object (Unit {0})) → held objects n ≡ Some x → set x.interface ≡ true

-- each number of an object is the display's, or below the limit of its side
abbrev pub AreBelow : PolicyState → Store (Unit {0}) → Type 0
AreBelow p objects =
    (n : ℕ) (x : Object (Unit {0})) → held objects n ≡ Some x → (n ≡ 1) ⊎ (n < p.limits.objects) ⊎ ((server_range.first ≤ n) × (n < server_range.first + p.limits.objects))

-- each number is that of an object, and stands there once
abbrev pub AreOnce : Store (Unit {0}) → List ℕ → Type 0
AreOnce objects [] = Unit {0}
AreOnce objects (n ∷ ns) = ((x : Object (Unit {0})) × (held objects n ≡ Some x)) × (is_one_of ns n ≡ false) × AreOnce objects ns

-- Nothing is kept beyond the limits. The numbers that the client has ended are those of objects, each once, so they are no more than these.
pub record IsBounded (p : PolicyState) (k : Known) : Type 0 where
  pub objects : AreBelow p k.objects
  pub globals : length k.told ≤ p.limits.globals
  pub ended : AreOnce k.objects k.ended
