use Rattle.std.proofs.Common.{◌≡◌, ◌≤◌, take, ◌-◌, ◌+◌, ◌∙◌, List, ℕ, arith, refl, sym, ap, subst, drop, length, slice_range, vec_len, Ok}
use Rattle.std.proofs.lemmas.List.{length-take, length-drop}
use Rattle.wl_wire.specs.MapIds.{numbered}
use Rattle.wl_link.specs.Inside.WaitingBytes.{Appended, Waiting, waits}
use Rattle.wl_link.proofs.Writing.{appended_as, appended_once, rewritten, same_buffer}
use Rattle.wl_link.proofs.buffer.Buffer.write.Goals as goal

pub returns-in-Some-clause-appended : goal.returns-in-Some-clause-appended
returns-in-Some-clause-appended g c =
    let m = numbered (g.N.Numbering.object_number c.args.numbers.now) (g.N.Numbering.new_number c.args.numbers.now) c.args.message.now in
    let storage = c.deref_mut.result.now in
    let start = c.self.inside.start in
    let end = c.self.inside.end in
    let room : length (take (length storage - end) (drop end storage)) ≡ length storage - end = omega (arith, length-take (length storage - end) (drop end storage), length-drop end storage) in
    let ordered : start ≤ end = omega (arith, c.self.invariant) in
    let within : end ≤ length storage = omega (arith, c.self.invariant, c.deref_mut.ensures.len) in
    let before : waits (slice_range storage start end) (length storage) ≡ c.args.self.now
    = ap (λ (ys : List ℕ). waits (slice_range ys start end) (length storage)) c.deref_mut.ensures.value ∙ ap (waits (slice_range c.self.inside.storage.items start end)) c.deref_mut.ensures.len ∙ c.self.view_is in
    appended_as m c.args.fds.now c.args.fds.now (Ok (tt {0})) _ _ _ _ (sym before)
    (rewritten m storage c.write_once.new.payload start end c.args.fds.now c.args.fds.now ordered within _ c.self.inside.storage.items (vec_len c.self.inside.storage) (end + c.in-Some.count) c.write_once.auto.payload room c.deref_mut.ensures.value c.deref_mut.ensures.len)
    (appended_once m storage c.write_once.new.payload start end c.args.fds.now c.args.fds.now ordered within (tt {0}) c.in-Some.count _ c.write_once.auto.payload room
    c.in-Some.ensures.room.0 c.in-Some.ensures.room.1 c.in-Some.ensures.written.0 c.in-Some.ensures.written.1 c.in-Some.ensures.tokens refl)

pub returns-clause-appended : goal.returns-clause-appended
returns-clause-appended g c =
    let m = numbered (g.N.Numbering.object_number c.args.numbers.now) (g.N.Numbering.new_number c.args.numbers.now) c.args.message.now in
    let storage = c.deref_mut.result.now in
    let start = c.self.inside.start in
    let end = c.self.inside.end in
    let room : length (take (length storage - end) (drop end storage)) ≡ length storage - end = omega (arith, length-take (length storage - end) (drop end storage), length-drop end storage) in
    let ordered : start ≤ end = omega (arith, c.self.invariant) in
    let within : end ≤ length storage = omega (arith, c.self.invariant, c.deref_mut.ensures.len) in
    let before : _ ≡ c.args.self.now
    = rewritten m storage c.write_once.new.payload start end c.args.fds.now c.args.fds.now ordered within _ c.self.inside.storage.items (vec_len c.self.inside.storage) end c.write_once.auto.payload room c.deref_mut.ensures.value c.deref_mut.ensures.len
    ∙ same_buffer m storage c.write_once.new.payload start end c.args.fds.now c.args.fds.now ordered within _ c.write_once.auto.payload room
    ∙ ap (λ (ys : List ℕ). waits (slice_range ys start end) (length storage)) c.deref_mut.ensures.value ∙ ap (waits (slice_range c.self.inside.storage.items start end)) c.deref_mut.ensures.len ∙ c.self.view_is in
    subst (λ (b : Waiting). Appended b c.args.fds.now m c.write_counted.result c.write_counted.new.self c.write_counted.new.fds) before c.write_counted.ensures.appended
