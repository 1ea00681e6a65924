-- How a server's session cleans up: killed clients are taken out, and notes that the host does not want are dropped.
use Rattle.std.specs.Prelude.{◌≡◌, ◌⊎◌, [], true, false, Result, MatchResult}
use Rattle.wl_host.specs.Notes.{Fetches}
use Rattle.wl_host.specs.Server.{ServerState, TakesOut}
use Rattle.wl_flat.specs.declared.status.Status.{Status}
use Rattle.wl_flat.specs.declared.status.Status.TheVariants as status

-- The notes are dropped: those that were taken from the core, and those that it has. These stay there if there is no memory to take
-- them.
abbrev pub DropsNotes : ServerState → ServerState → Type 0
DropsNotes before after =
    (mid : ServerState) × (fetched : Result (Unit {0}) Status) × Fetches (record before { notes = [] }) fetched mid
    × (after ≡ record mid { notes = [] })

-- unless they are kept
abbrev pub DropsUnlessKept : ServerState → ServerState → Type 0
DropsUnlessKept before after =
    ((before.keeps_notes ≡ true) × (after ≡ before)) ⊎ ((before.keeps_notes ≡ false) × DropsNotes before after)

-- the killed clients are taken out, and then the notes are dropped that are not to be kept; or there was no memory, and nothing else
-- is done
abbrev pub CleansUp : ServerState → Status → ServerState → Type 0
CleansUp before s after =
    (mid : ServerState) × (result : Result (Unit {0}) Status) × TakesOut before result mid
    × MatchResult result (λ _. (s ≡ status.Ok) × DropsUnlessKept mid after) (λ e. (s ≡ e) × (after ≡ mid))
