-- What a line says that came.
use Rattle.std.proofs.Common.{◌≡◌, List, Option, Some, None, Result, Ok, Err, sym, subst}
use Rattle.std.specs.Prelude.{IfOk}
use Rattle.std.specs.Str.{IsUtf8}
use Rattle.wl_link.specs.Exchange.{Queue}
use Rattle.wl_follow.specs.declared.side.Side.{Side}
use Rattle.wl_relay.specs.declared.commands.Arrival.{Arrival}
use Rattle.wl_relay.specs.Input.{Line}
use Rattle.wl_relay.specs.Inside.Gathering.{FindsArrival, came_of}
use Rattle.wl_relay.specs.Program.{IsArrival, SayCame}
use Rattle.wl_relay.specs.Words.{Word, words}

-- what the words of a line say, the line says
pub line_says : {E : Type 0} (line : Line) (ws : List Word) (r : Result (Option Arrival) E) → IsUtf8 line → ws ≡ words line
    → IfOk r (FindsArrival (λ side came. SayCame side came ws)) → IfOk r (FindsArrival (λ side came. IsArrival side came line))
line_says line ws (Ok (Some a)) text same h = (text, subst (λ (vs : List Word). SayCame a.side (came_of a) vs) same h)
line_says line ws (Ok None) text same h =
    λ (side : Side) (came : Queue) (is : IsArrival side came line). h side came (subst (λ (vs : List Word). SayCame side came vs) (sym same) is.1)
line_says line ws (Err e) text same h = tt
