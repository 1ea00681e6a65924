use Rattle.std.proofs.Common.{◌≡◌, List, ℕ, IfOk, ap, subst, ◌∙◌}
use Rattle.wl_link.specs.Script.{Script}
use Rattle.wl_bench.specs.Sync.{all_bytes}
use Rattle.wl_bench.proofs.sync.sync_bytes.Goals as goal

pub returns-clause-ok : goal.returns-clause-ok
returns-clause-ok c fresh =
    let bytes = ap (λ (s : Script). all_bytes s.sent) c.transport.ensures ∙ c.in_ok-send_sync.ensures.ok fresh in
    subst (λ (xs : List ℕ). IfOk c.sent_bytes.result (λ v. v.items ≡ xs)) bytes c.sent_bytes.ensures.ok
