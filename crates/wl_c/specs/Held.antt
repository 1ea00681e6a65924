-- What a place owns of the session that it holds.
use Rattle.std.specs.Prelude.{None, Option, Some}
use base.Fml.{Fml, ftrue}
use denote.RattleType.{RattleType}
use denote.RawPtr.{Ptr}
use Rattle.std.specs.Box.Ownership.{box_owns}
use Rattle.std.specs.contracts.impls.GlobalAllocator.TheImpl.{ghosts}
use Rattle.std.specs.declared.alloc.Global.{Global}

-- The heap of the C library. All handles to it are one value.
abbrev pub the_heap : Global
the_heap = record { memory = record { seal = tt } }

-- Nothing, or what a box on that heap owns whose value lies at this address.
abbrev pub owns_held : (R : RattleType) → Ptr → Option R.Denot → Fml
owns_held R at None = ftrue
owns_held R at (Some value) = box_owns (ghosts.dealloc_token the_heap) R at value
