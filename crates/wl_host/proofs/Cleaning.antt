-- How clients that were killed are taken out of the core, and what becomes of notes then.
use Rattle.std.proofs.Common.{◌≡◌, ◌∙◌, ℕ, true, false, List, [], Result, Ok, Err, refl, ap, subst, inl, inr}
use Rattle.std.specs.Global.{Global}
use Rattle.std.specs.Prelude.{Vec}
use Rattle.wl_wire.specs.declared.error.OutOfMemory.{OutOfMemory}
use Rattle.wl_link.specs.Mailbox.{MailboxState}
use Rattle.wl_server_model.specs.Backend.{Calls}
use Rattle.wl_server_client.specs.Ids.{ClientParts}
use Rattle.wl_server_client.specs.declared.notes.Note.{Note}
use Rattle.wl_server_model.specs.declared.step.Reply.TheVariants as reply
use Rattle.wl_server_model.specs.declared.step.Step.TheVariants as step
use Rattle.wl_host.specs.Calls.{CoreState, world}
use Rattle.wl_host.specs.Seats.{SeatsState, gone_all}
use Rattle.wl_host.specs.Cleaning.{CleansUp, DropsNotes}
use Rattle.wl_host.specs.Notes.{Fetches}
use Rattle.wl_host.specs.Server.{ServerState, TakesOut}
use Rattle.wl_flat.specs.declared.status.Status.{Status}
use Rattle.wl_flat.specs.declared.status.Status.TheVariants as status

pub cleaned : (b : ServerState) (core : CoreState) (out : Vec (ClientParts × MailboxState) Global) (seats : SeatsState) → Calls world b.core step.Cleanup (reply.Cleanup (Ok out)) core
    → seats ≡ gone_all b.seats out.items → b.may_clean_up ≡ true → TakesOut b (Ok tt) (record b { core = core; seats = seats; may_clean_up = false; may_have_notes = true })
cleaned b core out seats call e may =
    inr (may, (Ok out, call, (refl, ap (λ (s : SeatsState). let t : ServerState = record b { core = core; seats = s; may_clean_up = false; may_have_notes = true } in t) e)))

pub not_cleaned : (b : ServerState) (core : CoreState) (e : OutOfMemory) (result : Result (Unit {0}) Status) → Calls world b.core step.Cleanup (reply.Cleanup (Err e)) core
    → result ≡ Err status.OutOfMemory → b.may_clean_up ≡ true → TakesOut b result (record b { core = core })
not_cleaned b core e result call is may = inr (may, (Err e, call, (is, refl)))

-- ---- notes

pub cleans_not : (b m : ServerState) (s : Status) → TakesOut b (Err s) m → CleansUp b s m
cleans_not b m s h = (m, Err s, h, (refl, refl))

pub cleans_keeping : (b m : ServerState) → TakesOut b (Ok tt) m → m.keeps_notes ≡ true → CleansUp b status.Ok m
cleans_keeping b m h on = (m, Ok tt, h, (refl, inl (on, refl)))

pub cleans_dropping : (b m a : ServerState) → TakesOut b (Ok tt) m → m.keeps_notes ≡ false → DropsNotes m a → CleansUp b status.Ok a
cleans_dropping b m a h off drops = (m, Ok tt, h, (refl, inr (off, drops)))

-- no note is left, those are taken that the core has, and no note is left again
pub drops : (b m a : ServerState) (fetched : Result (Unit {0}) Status) (none nothing : List (Note ℕ)) → none ≡ [] → Fetches (record b { notes = none }) fetched m
    → nothing ≡ [] → a ≡ record m { notes = nothing } → DropsNotes b a
drops b m a fetched none nothing e fetches f is = (
  m,
  fetched,
  subst (λ ns. Fetches (record b { notes = ns }) fetched m) e fetches,
  is ∙ ap (λ ns. let t : ServerState = record m { notes = ns } in t) f,
)
