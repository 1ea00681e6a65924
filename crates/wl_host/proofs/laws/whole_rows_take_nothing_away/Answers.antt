use Rattle.std.proofs.Common.{inl, inr, subst, sym}
use Rattle.wl_server_model.specs.Backend.{IsGrowth}
use Rattle.wl_flat.proofs.NothingTakenAway.{keeps-same, nothing_taken_away}
use Rattle.wl_host.proofs.TablesGrow.{client_grows, server_grows}
use Rattle.wl_host.specs.Calls.{CoreState, world}
use Rattle.wl_host_client.specs.Client.{ClientCore}
use Rattle.wl_flat.specs.Extending.{KeepsInterfaces}
use Rattle.wl_host_client.specs.Tables.{ClientGrows}
use Rattle.wl_host.proofs.laws.whole_rows_take_nothing_away.Goals as goal

pub returns-clause-server : goal.returns-clause-server
returns-clause-server c rows before after result (inl h) =
    nothing_taken_away (IsGrowth world) (λ (s : CoreState). s.server.offer.table) server_grows h.0 before after result h.2
returns-clause-server c rows before after result (inr h) =
    subst (λ (s : CoreState). KeepsInterfaces before.server.offer.table s.server.offer.table) (sym h.3) (keeps-same before.server.offer.table)

pub returns-clause-client : goal.returns-clause-client
returns-clause-client c rows before after result (inl h) =
    nothing_taken_away ClientGrows (λ (s : ClientCore). s.session.table) client_grows h.0 before after result h.2
returns-clause-client c rows before after result (inr h) =
    subst (λ (s : ClientCore). KeepsInterfaces before.session.table s.session.table) (sym h.3) (keeps-same before.session.table)
