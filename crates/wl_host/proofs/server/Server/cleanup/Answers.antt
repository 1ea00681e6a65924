use Rattle.std.proofs.Common.{◌≡◌, ◌∙◌, false, true, ap, sym}
use Rattle.wl_host.specs.Server.{ServerState}
use Rattle.wl_host.proofs.Cleaning.{cleans_dropping, cleans_keeping, cleans_not}
use Rattle.wl_host.proofs.Conserving.{conserves_cleaned}
use Rattle.wl_host.proofs.server.Server.cleanup.Goals as goal

pub returns-in-Err-clause-call : goal.returns-in-Err-clause-call
returns-in-Err-clause-call c = cleans_not _ _ _ c.in-Err.ensures

pub returns-in-Err-clause-descriptors : goal.returns-in-Err-clause-descriptors
returns-in-Err-clause-descriptors c = conserves_cleaned _ _ _ (returns-in-Err-clause-call c)

pub returns-then-not-self-clause-call : goal.returns-then-not-self-clause-call
returns-then-not-self-clause-call c =
    let off : c.self.inside.keeps_notes ≡ false = cc in
    cleans_dropping c.args.self.now c.take_out_killed.new.self c.drop_notes.new.self c.in_default.ensures
    (sym (ap (λ (s : ServerState). s.keeps_notes) c.self.view_is) ∙ off)
    c.drop_notes.ensures

pub returns-then-not-self-clause-descriptors : goal.returns-then-not-self-clause-descriptors
returns-then-not-self-clause-descriptors c = conserves_cleaned _ _ _ (returns-then-not-self-clause-call c)

pub returns-else-not-self-clause-call : goal.returns-else-not-self-clause-call
returns-else-not-self-clause-call c =
    let on : c.self.inside.keeps_notes ≡ true = cc in
    cleans_keeping c.args.self.now c.take_out_killed.new.self c.in_default.ensures (sym (ap (λ (s : ServerState). s.keeps_notes) c.self.view_is) ∙ on)

pub returns-else-not-self-clause-descriptors : goal.returns-else-not-self-clause-descriptors
returns-else-not-self-clause-descriptors c = conserves_cleaned _ _ _ (returns-else-not-self-clause-call c)
