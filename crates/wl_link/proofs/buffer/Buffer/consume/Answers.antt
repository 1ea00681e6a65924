use Rattle.std.proofs.Common.{ℕ, ◌≤◌, List, length, sym, ap, subst, vec_len}
use Rattle.wl_link.specs.Inside.WaitingBytes.{Waiting, waits}
use Rattle.wl_link.proofs.Ranges.{slice_range_later}
use Rattle.wl_link.proofs.buffer.Buffer.consume.Goals as goal

pub returns-else-count-self : goal.returns-else-count-self
returns-else-count-self c =
    let within = subst (λ (w : Waiting). c.args.count ≤ length w.bytes) (sym c.self.view_is) c.requires in
    rw (← c.self.view_is) (ap (λ (bytes : List ℕ). waits bytes (vec_len c.self.inside.storage)) (slice_range_later _ _ _ _ c.self.invariant.0 within))
