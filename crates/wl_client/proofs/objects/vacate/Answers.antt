use Rattle.std.proofs.Common.{◌∙◌, ap, sym, true≢false, refl}
use Rattle.wl_link.specs.Store.{is_free}
use Rattle.wl_client.proofs.Vacating.{free_again}
use Rattle.wl_client.proofs.objects.vacate.Goals as goal

pub returns-then-object-clause-kept : goal.returns-then-object-clause-kept
returns-then-object-clause-kept g c taken =
    let free = free_again c.args.objects.now.store c.args.number (c.in-Some.ensures.nonzero refl) (c.in-Some.ensures.used refl) in
    absurd (true≢false (sym free ∙ ap (λ store. is_free store c.args.number) (sym c.remove.ensures.removed) ∙ taken))
