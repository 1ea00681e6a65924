-- That steps with their replies have one history, of which all the laws hold, and that each public call keeps it so.
use Rattle.std.proofs.Common.{◌≡◌, Bool, false, Result, Err, List, [], ◌∷◌, ◌++◌, refl, sym}
use Rattle.wl_wire.specs.declared.protocol.TableError.{TableError}
use Rattle.wl_wire.specs.declared.protocol.TableError.TheVariants as table_error
use Rattle.wl_wire.specs.Table.{Growth, InterfaceRow, refused_growth}
use Rattle.wl_link.specs.Exchange.{IsWithinOffer}
use Rattle.wl_server_model.specs.declared.step.Reply.{Reply}
use Rattle.wl_server_model.specs.declared.step.Step.{Step}
use Rattle.wl_server_model.specs.Accounts.{IsAccountedFor, StaysAccountedFor}
use Rattle.wl_server_model.proofs.OverRuns.Announced.AnnouncedLaw.{each_announces}
use Rattle.wl_server_model.specs.Backend.{BackendState, Calls, IsChange, IsGrowth}
use Rattle.wl_server_model.proofs.OverRuns.Ids.GivenLaws.{gives_once}
use Rattle.wl_server_model.proofs.OverRuns.Ids.IdentityLaws.{each_has_own_ids}
use Rattle.wl_server_model.proofs.OverRuns.Alone.IsolationLaw.{is_isolated, join_runs}
use Rattle.wl_server_model.proofs.OverRuns.Killed.KilledLaws.{each_stays_killed}
use Rattle.wl_server_model.proofs.OverRuns.Log.LogLaws.{each_log}
use Rattle.wl_server_model.proofs.OverRuns.Noted.NotedLaws.{each_is_noted}
use Rattle.wl_server_client.specs.Ids.{ClientParts}
use Rattle.wl_server_model.specs.PartStep.{Changed, Grown, World}
use Rattle.wl_server_model.specs.Runs.{Leads}
use Rattle.wl_server_model.specs.Server.{ServerState, new_server}
use Rattle.wl_server_model.specs.Steps.{Entry, Makes, OneStep, StepOf, lacks_growth}

pub is_accounted_for : {T U G C : Type 0} (w : World T G C) → IsWithinOffer w.sends
    → (table : List InterfaceRow) (run : List (Entry T U G C)) (after : ServerState T U G C)
    → Leads w (new_server table) run after → IsAccountedFor w table run after
is_accounted_for w within table run after leads = record {
  isolated = is_isolated w table run after leads;
  ids = each_has_own_ids w table run after leads;
  logs = each_log w within table run after leads;
  announcements = each_announces w table run after leads;
  notes = each_is_noted w table run after leads;
  killed = each_stays_killed w table run after leads;
  given = gives_once w table run after leads;
}

-- ---- a public call

-- a history that led to where a call begins goes on with it
goes_on : {T U G C : Type 0} (w : World T G C) {before after : ServerState T U G C} {e : Entry T U G C} → OneStep w before e after
    → IsWithinOffer w.sends
    → StaysAccountedFor w before e after
goes_on w {before} {after} {e} one within table run leads =
    let longer = join_runs w (new_server table) before after run (e ∷ []) leads (after, one, refl) in
    (longer, is_accounted_for w within table (run ++ e ∷ []) after longer)

pub calls : {T U G C : Type 0} (w : World T G C) (before : BackendState T U G C) (call : Step T U G C) (answer : Reply T U)
    (after : BackendState T U G C)
    → StepOf w before.server call answer after.refused after.server → Calls w before call answer after
calls w before call answer after (e, is, refused, one) = record { step = (e, is, refused, one); accounted = goes_on w one }

pub is_change : {T U G C : Type 0} (w : World T G C) (before : ServerState T U G C) (id : ClientParts) (t : T) (after : ServerState T U G C)
    → Makes w before (Changed id t) false after → IsChange w before id t after
is_change w before id t after (e, is, refused, one) = record { step = (e, is, refused, one); accounted = goes_on w one }

-- the answer of a table that was to grow tells whether memory was refused
pub growth_lacked : (T U G C : Type 0) (rows : Growth) (r : Result (Unit {0}) TableError) (refused : Bool) → refused ≡ refused_growth r
    → lacks_growth {T = T} {U = U} {G = G} {C = C} (Grown rows r) ≡ refused
growth_lacked T U G C rows (Err table_error.OutOfMemory) refused is = sym is
growth_lacked T U G C rows r refused is = sym is

pub is_growth : {T U G C : Type 0} (w : World T G C) (before : BackendState T U G C) (rows : Growth)
    (answer : Result (Unit {0}) TableError)
    (after : BackendState T U G C) → Makes w before.server (Grown rows answer) after.refused after.server → IsGrowth w before rows answer after
is_growth w before rows answer after (e, is, refused, one) = record { step = (e, is, refused, one); accounted = goes_on w one }
