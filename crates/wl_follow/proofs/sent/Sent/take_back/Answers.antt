-- That what is left is the front of what was there.
use Rattle.std.proofs.Common.{◌≡◌, ◌-◌, arith, drop, length, length-drop, rules, true}
use Rattle.std.specs.Prelude.{max}
use Rattle.wl_follow.specs.contracts.sent.Sent.{the_view}
use Rattle.wl_follow.proofs.Backlogs.{less_bytes, less_is, sent_is}
use Rattle.wl_follow.proofs.sent.Sent.take_back.Goals as goal

pub returns : goal.returns
returns c =
    let s = c.self.inside in
    let left = length-drop s.start s.bytes.items in
    let whole = s.bytes.ok in
    let on : s.is_followed ≡ true = search rules in
    let kept : c.max-kept.result ≡ max (s.released - s.start) (length (drop s.start s.bytes.items) - c.args.bytes)
    = omega (arith, left, whole, c.len.ensures, c.saturating_sub.ensures, c.max-kept.ensures) in
    rw (← c.self.view_is)
    (less_is c.args.bytes c.args.tokens (the_view s) _ on
    (sent_is _ _ _ _ _ _ _ (less_bytes s.bytes.items c.truncate.new.self.items s.start c.max-kept.result _ (search rules) kept) (search rules)))
