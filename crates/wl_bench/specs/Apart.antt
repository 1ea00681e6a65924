-- A command about one client, and the other clients.
use Rattle.std.specs.Prelude.{◌≡◌, ℕ, List, ◌∷◌, ◌++◌, codes, false, Some}
use Rattle.wl_link.specs.Exchange.{Queue}
use Rattle.wl_server_client.specs.Ids.{ClientParts, same_client}
use Rattle.wl_server_model.specs.Server.{seen}
use Rattle.wl_bench.specs.declared.bench.Seat.{Seat}
use Rattle.wl_bench.specs.Answers.{Line, sent_lines}
use Rattle.wl_bench.specs.Bench.{BenchState, latest}

-- a line that says what a client was sent
abbrev pub SaysWhatWasSent : Line → Type 0
SaysWhatWasSent line = (rest : Line) × (line ≡ codes "out " ++ rest)

-- All that is held of another client is as before: its transport with what that took, what waits to be sent to it, its
-- objects and its notes.
abbrev pub LeavesOthers : ClientParts → BenchState → BenchState → Type 0
LeavesOthers client before after = (id : ClientParts) → same_client client id ≡ false → seen id after.server ≡ seen id before.server

-- The command prints its answer, and after it what its client was sent, if it was sent something. No line says what another
-- client was sent.
abbrev pub PrintsOfOne : ClientParts → List Line → Type 0
PrintsOfOne client out =
    (answer : Line) × (sends : List Queue) × ¬ (SaysWhatWasSent answer) × (out ≡ answer ∷ sent_lines client.slot sends)

-- what a command does concerns only the client that was inserted last at the slot
abbrev pub StaysWith : ℕ → BenchState → List Line → BenchState → Type 0
StaysWith slot before out after =
    (seat : Seat) × (latest slot before.clients ≡ Some seat) × PrintsOfOne seat.client out × LeavesOthers seat.client before after
