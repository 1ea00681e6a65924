-- The history of a session over any transport: its calls one after another, what the program makes of the transport between
-- them, and what it adds to the table.
use Rattle.std.specs.Prelude.{◌≡◌, List, [], ◌∷◌, Result, map}
use Rattle.wl_wire.specs.declared.protocol.TableError.{TableError}
use Rattle.wl_wire.specs.Table.{Growth}
use Rattle.wl_client.specs.Session.{SessionState, over_transport}
use Rattle.wl_client.specs.Steps.{Entry, InterfacesAdded, IsOfScript, Making}

-- A deed is a call, as an entry of a run; a change of the transport, which becomes this one; or what the table was asked to
-- take, with the answer.
pub data Deed (T U : Type 0) : Type 0 where
  Called : Entry U → Deed T U
  Changed : T → Deed T U
  Grown : Growth → Result (Unit {0}) TableError → Deed T U

-- the entries of a run as deeds
abbrev pub called : {T U : Type 0} → List (Entry U) → List (Deed T U)
called run = map Called run

module _ {T U : Type 0} (makes : Making T U) where
  -- what a deed does: a call is a step, a change leaves all but the transport as it was, and a growth leaves all but the table
  abbrev pub Does : SessionState T U → Deed T U → SessionState T U → Type 0
  Does before (Called e) after = makes before e.step e.answer e.refused after
  Does before (Changed t) after = after ≡ over_transport before t
  Does before (Grown rows answer) after = InterfacesAdded before rows answer after

  -- the deeds lead from one value of the session to another
  abbrev pub History : SessionState T U → List (Deed T U) → SessionState T U → Type 0
  History before [] after = after ≡ before
  History before (d ∷ deeds) after = (mid : SessionState T U) × Does before d mid × History mid deeds after

-- A deed over the transport by script stands for one over every transport: a call of the transport itself for a change of it,
-- and each other deed for itself.
abbrev pub StandsFor : {T U : Type 0} → Deed T U → Deed T U → Type 0
StandsFor (Called e) (Changed t) = IsOfScript e.step
StandsFor d other = other ≡ d

-- the deeds stand for these, one for one
abbrev pub EachStandsFor : {T U : Type 0} → List (Deed T U) → List (Deed T U) → Type 0
EachStandsFor [] others = others ≡ []
EachStandsFor (d ∷ deeds) [] = ⊥
EachStandsFor (d ∷ deeds) (other ∷ others) = StandsFor d other × EachStandsFor deeds others
