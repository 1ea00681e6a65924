-- What a transport by script does follows from its value.
use Rattle.std.specs.Prelude.{◌≡◌, ◌≢◌, ℕ, Result, Err}
use Rattle.std.proofs.Common.{sym, ◌∙◌, inl, inr}
use Rattle.wl_wire.specs.declared.error.IoFault.{IoFault}
use Rattle.wl_link.specs.Exchange.{Queue, IsFunction, IsReceiveFunction}
use Rattle.wl_link.specs.Script.{Script, ScriptSends, ScriptReceives, send_answer, script_after_send, script_gives, script_after_receive}
use Rattle.wl_wire.specs.declared.error.IoFault.TheVariants as fault

script_send_answered : (before after : Script) (offer : Queue) (answer : Result ℕ IoFault) → ScriptSends before offer answer after → answer ≢ Err fault.OutOfMemory
    → (answer ≡ send_answer before offer) × (after ≡ script_after_send before offer)
script_send_answered before after offer answer (inl s) ok = s
script_send_answered before after offer answer (inr s) ok = absurd (ok s.0)

pub script_sends_function : IsFunction ScriptSends
script_sends_function before offer one two after after' s t ok ok' =
    let a = script_send_answered before after offer one s ok in
    let b = script_send_answered before after' offer two t ok' in
    (a.0 ∙ sym b.0, a.1 ∙ sym b.1)

script_receive_answered : (before after : Script) (room : ℕ) (answer : Result Queue IoFault) → ScriptReceives before room answer after → answer ≢ Err fault.OutOfMemory
    → (answer ≡ script_gives before room) × (after ≡ script_after_receive before room)
script_receive_answered before after room answer (inl s) ok = (s.1, s.2)
script_receive_answered before after room answer (inr s) ok = absurd (ok s.0)

pub script_receives_function : IsReceiveFunction ScriptReceives
script_receives_function before room one two after after' s t ok ok' =
    let a = script_receive_answered before after room one s ok in
    let b = script_receive_answered before after' room two t ok' in
    (a.0 ∙ sym b.0, a.1 ∙ sym b.1)
