use Rattle.std.proofs.Common.{Ok, inl, inr}
use Rattle.wl_server_model.specs.Backend.{IsGrowth}
use Rattle.wl_flat.proofs.RowsAreThere.{no_fault, rows_are_there}
use Rattle.wl_host.proofs.TablesGrow.{client_grows, server_grows}
use Rattle.wl_host.specs.Calls.{CoreState, world}
use Rattle.wl_host_client.specs.Client.{ClientCore}
use Rattle.wl_flat.specs.Extending.{fault_as_told}
use Rattle.wl_host_client.specs.Tables.{ClientGrows}
use Rattle.wl_host.proofs.laws.whole_rows_are_there.Goals as goal

pub returns-clause-server : goal.returns-clause-server
returns-clause-server c rows before after (inl h) =
    (h.0, h.1, rows_are_there (IsGrowth world) (λ (s : CoreState). s.server.offer.table) (λ s more u. server_grows s more (Ok u)) h.0 before after h.2)
returns-clause-server c rows before after (inr h) = no_fault (fault_as_told h.0) h.2

pub returns-clause-client : goal.returns-clause-client
returns-clause-client c rows before after (inl h) =
    (h.0, h.1, rows_are_there ClientGrows (λ (s : ClientCore). s.session.table) (λ s more u. client_grows s more (Ok u)) h.0 before after h.2)
returns-clause-client c rows before after (inr h) = no_fault (fault_as_told h.0) h.2
