-- How the table of a session grows with one growth.
use Rattle.std.proofs.Common.{◌≡◌, ◌∙◌, Result, ap}
use Rattle.wl_wire.specs.Table.{Growth, table_after}
use Rattle.wl_wire.specs.declared.protocol.TableError.{TableError}
use Rattle.wl_server_model.specs.Backend.{IsGrowth}
use Rattle.wl_server_client.specs.Globals.{Offer}
use Rattle.wl_server_model.specs.Steps.{offer_after}
use Rattle.wl_host.specs.Calls.{CoreState, world}
use Rattle.wl_host.specs.declared.server.HostGlobal.{HostGlobal}
use Rattle.wl_host_client.specs.Client.{ClientCore}
use Rattle.wl_host_client.specs.Tables.{ClientGrows}

pub server_grows : (s : CoreState) (more : Growth) (answer : Result (Unit {0}) TableError) (t : CoreState) → IsGrowth world s more answer t
    → t.server.offer.table ≡ table_after s.server.offer.table more answer
server_grows s more answer t growth =
    let (e, is, refused, one) = growth.step in
    ap (λ (o : Offer HostGlobal). o.table) (one.offer ∙ ap (offer_after s.server.offer) is)

pub client_grows : (s : ClientCore) (more : Growth) (answer : Result (Unit {0}) TableError) (t : ClientCore) → ClientGrows s more answer t
    → t.session.table ≡ table_after s.session.table more answer
client_grows s more answer t growth = ap (λ (c : ClientCore). c.session.table) growth.1
