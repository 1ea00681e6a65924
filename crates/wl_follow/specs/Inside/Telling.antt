-- What becomes of the first message of a side, and of one of an object that is not known.
use Rattle.std.specs.Prelude.{◌≡◌, ℕ, ◌<◌, List, [], None, Option, Some}
use Rattle.wl_wire.specs.Message.{WireMessage}
use Rattle.wl_wire.specs.Parse.{IsWhole, length_of}
use Rattle.wl_wire.specs.Table.{InterfaceRow}
use Rattle.wl_link.specs.Exchange.{Queue}
use Rattle.wl_link.specs.Store.{Store}
use Rattle.wl_follow.specs.Following.{FollowState, TellsFront, sent, with_sent}
use Rattle.wl_follow.specs.Fronts.{LacksPart}
use Rattle.wl_follow.specs.Sent.{SentState, ready_part, unfollowed, without_first}
use Rattle.wl_follow.specs.declared.follower.What.{What}
use Rattle.wl_follow.specs.declared.follower.What.TheVariants as what
use Rattle.wl_follow.specs.declared.side.Side.{Side}

-- It is taken off, if it is there to its end; or its header says a length below its own.
abbrev pub TellsUnknown : ℕ → ℕ → SentState → Option What → SentState → Type 0
TellsUnknown sender opcode s None s' = (s' ≡ s) × LacksPart [] (ready_part s)
TellsUnknown sender opcode s (Some (what.Unknown a b)) s' = (a ≡ sender) × (b ≡ opcode) × IsWhole (ready_part s).bytes × (s' ≡ without_first [] s)
TellsUnknown sender opcode s (Some what.Malformed) s' = (length_of (ready_part s).bytes < 8) × (s' ≡ unfollowed s)
TellsUnknown sender opcode s (Some _) s' = ⊥

-- this is told of the side
abbrev pub TellsOf : List InterfaceRow → Side → FollowState → What → WireMessage → FollowState → Type 0
TellsOf table side before w m after =
    (piece : Queue) × (objects : Store (Unit {0})) × (left : SentState)
    × TellsFront table side before.objects (sent side before) w m piece objects left × (after ≡ with_sent side left (record before { objects = objects }))
