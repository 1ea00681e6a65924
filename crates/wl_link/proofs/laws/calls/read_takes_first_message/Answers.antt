use Rattle.std.proofs.Common.{◌≡◌}
use Rattle.wl_link.proofs.Streams.StreamLaws.{read_takes}
use Rattle.wl_link.proofs.laws.calls.read_takes_first_message.Goals as goal

pub returns : goal.returns
returns g c = λ look_up before after answer read. read_takes (λ sender opcode found. found ≡ look_up sender opcode) before after answer read
