use Rattle.std.proofs.lemmas.Bool.{leb-true}
use Rattle.wl_link.proofs.Numbers.{numbers_put}
use Rattle.wl_link.proofs.buffered_socket.BufferedSocket.write_numbers.Goals as goal

pub returns-clause-puts : goal.returns-clause-puts
returns-clause-puts g c = λ said is.
    rw (← c.self.view_is, c.append_numbers.ensures)
    (numbers_put g.T.Transport.sends c.args.messages.now said _ is (leb-true _ _ (rw (← c.self.view_is) at c.requires.room)))
