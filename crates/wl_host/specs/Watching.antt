-- What becomes of what is told of a client, in calls of a server's session one after another.
use Rattle.std.specs.Prelude.{◌≡◌, List, Some}
use Rattle.wl_link.specs.Mailbox.{MailboxState}
use Rattle.wl_server_client.specs.Ids.{ClientParts}
use Rattle.wl_server_model.specs.Lookups.{transport_of}
use Rattle.wl_follow.specs.declared.side.Side.TheVariants.{Client}
use Rattle.wl_host.specs.Seats.{ledger_of}
use Rattle.wl_host.specs.Server.{ServerState}
use Rattle.wl_flat.specs.Told.{waiting_in}
use Rattle.wl_host.specs.declared.server.ledger.Ledger.{Ledger}
use Rattle.wl_flat.specs.ToldRuns.{Deed, Does, Leads, Watched}

-- The session keeps this of the client: it is stored, its messages are told, and this waits in its mailbox.
pub record Watches (id : ClientParts) (s : ServerState) (w : Watched) : Type 0 where
  pub ledger : Ledger
  pub mailbox : MailboxState
  pub is_seated : ledger_of id s.seats.ledgers ≡ Some ledger
  pub is_stored : transport_of s.core.server id ≡ Some mailbox
  pub telling : ledger.telling ≡ Some w.telling
  pub waiting : w.waiting ≡ waiting_in mailbox ledger.sending

-- a call comes to this for the client
abbrev pub ComesTo : ClientParts → Watched → Deed → ServerState → Type 0
ComesTo id w d after = (w' : Watched) × Does Client w d w' × Watches id after w'

-- and so one that comes to several deeds
abbrev pub ComesToAll : ClientParts → Watched → List Deed → ServerState → Type 0
ComesToAll id w run after = (w' : Watched) × Leads Client w run w' × Watches id after w'
