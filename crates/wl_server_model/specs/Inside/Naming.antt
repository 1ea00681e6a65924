-- The name that a new global gets, of the store alone.
use Rattle.std.specs.Prelude.{◌≡◌, ℕ, Bool, MatchBool, Option, Result, Ok, Err}
use Rattle.wl_link.specs.declared.object.Object.{Object}
use Rattle.wl_link.specs.declared.object_map.NewError.{NewError}
use Rattle.wl_link.specs.declared.object_map.NewError.TheVariants as new
use Rattle.wl_link.specs.ObjectMap.{NextNew}
use Rattle.wl_link.specs.Store.{Store, first_unused, stored}
use Rattle.wl_link.specs.Unused.{IsLeastUnused, IsUsedUp, NextUnused}
use Rattle.wl_server_client.specs.declared.globals.KeptGlobal.{KeptGlobal}
use Rattle.wl_server_client.specs.Globals.{name_range}

module _ {G : Type 0} where
  -- the least name that was never in use if names are kept, and else the least that no global has
  abbrev pub NextName : Bool → Store (KeptGlobal G) → Option ℕ → Type 0
  NextName keeps store next = MatchBool keeps (NextUnused name_range store next) (NextNew name_range store next)

  -- a new global gets the least name that was never in use
  abbrev pub InsertsUnused : Store (KeptGlobal G) → Object (KeptGlobal G) → Result ℕ NewError → Store (KeptGlobal G) → Type 0
  InsertsUnused store x (Ok n) after = IsLeastUnused name_range store n × (after ≡ stored store n x)
  InsertsUnused store x (Err new.IdsExhausted) after = IsUsedUp name_range store × (after ≡ store)
  InsertsUnused store x (Err new.OutOfMemory) after =
      ((n : ℕ) × IsLeastUnused name_range store n × (n ≡ first_unused store n)) × (after ≡ store)
