use Rattle.std.proofs.Common.{◌≡◌, ◌∙◌, true, Err, ap, sym}
use Rattle.wl_host.proofs.Notes.{empty_deque, fetched, not_fetched}
use Rattle.wl_host.proofs.server.Server.fetch_notes.Goals as goal

pub returns-in-Ok : goal.returns-in-Ok
returns-in-Ok c =
    let is : c.is_empty.result ≡ true = cc in
    let none = empty_deque c.self.inside.notes (sym c.is_empty.ensures ∙ is) in
    let may : c.self.inside.may_have_notes ≡ true = cc in
    rw (← c.self.view_is) (fetched _ c.take_notes.new.self c.in-Ok.notes c.from_vec.result.items c.in-Ok.ensures.call c.from_vec.ensures.items none may)

pub returns-in-Err : goal.returns-in-Err
returns-in-Err c =
    let is : c.is_empty.result ≡ true = cc in
    let none = empty_deque c.self.inside.notes (sym c.is_empty.ensures ∙ is) in
    let may : c.self.inside.may_have_notes ≡ true = cc in
    rw (← c.self.view_is) (not_fetched _ c.take_notes.new.self c.in-Err.error _ c.in-Err.ensures.call (ap Err c.from.ensures) none may)
