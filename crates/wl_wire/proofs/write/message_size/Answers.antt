use Rattle.std.proofs.Common.{◌≡◌, ◌<◌, MatchOption, subst}
use Rattle.wl_wire.specs.Message.{WireMessage, size}
use Rattle.wl_wire.proofs.Pieces.{own_numbers}
use Rattle.wl_wire.proofs.write.message_size.Goals as goal

pub returns : goal.returns
returns c =
    subst (λ (m : WireMessage). MatchOption c.numbered_size.result (65535 < size m) (λ n. n ≡ size m)) (own_numbers c.args.message.now) c.numbered_size.ensures
