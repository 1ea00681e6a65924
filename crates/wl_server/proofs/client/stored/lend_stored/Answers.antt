use Rattle.std.proofs.Common.{◌∙◌, ℕ, Some, is_some, ap, sym}
use Rattle.std.specs.Vec.{with_item}
use Rattle.wl_server_model.proofs.CallSteps.Lent.{read_same}
use Rattle.wl_server_model.proofs.CallSteps.Slots.{slot_reads}
use Rattle.wl_server.proofs.client.stored.lend_stored.Goals as goal

pub returns-then-is_stored : goal.returns-then-is_stored
returns-then-is_stored g c =
    let stored = sym c.is_stored.ensures.stored ∙ c.if-is_stored.true in
    let reads = slot_reads c.args.clients.now.items c.args.id.now c.slot.result c.index_mut.result.now stored c.slot.ensures c.index_mut.ensures.value in (
      read_same c.as_mut.result _ _ _ _ (c.as_mut.ensures.variant ∙ (ap is_some reads ∙ stored))
          (λ z. ap (λ (n : ℕ). with_item c.args.clients.now n (Some z)) c.slot.ensures),
      record { lends = tt; value = c.as_mut.ensures.value ∙ reads },
    )
