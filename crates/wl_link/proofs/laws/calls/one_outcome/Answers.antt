use Rattle.std.proofs.Common.{◌≡◌, sym, ◌∙◌}
use Rattle.wl_link.proofs.Calls.OneLaws.{one_flush_lem, one_write_lem}
use Rattle.wl_link.proofs.Calls.ReadLaws.{one_read_lem}
use Rattle.wl_link.proofs.laws.calls.one_outcome.Goals as goal

pub returns-clause-flush : goal.returns-clause-flush
returns-clause-flush g c = λ function before x y es fs a b f h ok ok'. one_flush_lem g.T.Transport.sends function before x y es fs a b f h ok ok'

pub returns-clause-write : goal.returns-clause-write
returns-clause-write g c = λ function before x y m es fs a b w v ok ok'. one_write_lem g.T.Transport.sends function m x y es fs a b ok ok' before w v

pub returns-clause-read : goal.returns-clause-read
returns-clause-read g c = λ look_up before x y a b r s ok ok'.
    one_read_lem before x y (λ sender opcode found. found ≡ look_up sender opcode) (λ sender opcode f h p q. p ∙ sym q) a b r s ok ok'
