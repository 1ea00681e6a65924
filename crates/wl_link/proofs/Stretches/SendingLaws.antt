-- What a link sends over the transport by script: sends leave the arrivals.
use Rattle.std.proofs.Common.{◌≡◌, ℕ, Bool, List, [], ◌∷◌, ◌++◌, Result, Ok, Err, sym, ap, subst, ◌∙◌}
use Rattle.std.specs.Prelude.{nat_le}
use mathlib.Core.Logic.{inl, inr}
use Rattle.wl_wire.specs.declared.error.IoFault.{IoFault}
use Rattle.wl_wire.specs.Message.{WireMessage, size}
use Rattle.wl_link.specs.Exchange.{Chain, Queue, Sending}
use Rattle.wl_link.specs.Link.{FlushedBy, LinkState, PlacedBy, Put, WroteBy, has_room, ignoring}
use Rattle.wl_link.specs.Puts.{FlushesOut, PutBy, PutsOut, Said}
use Rattle.wl_link.specs.Reader.{CarriesOut, Given, ReaderState, Reader, Verdict}
use Rattle.wl_link.specs.Script.{Script, ScriptSends}
use Rattle.wl_link.specs.Stretch.{sending_side}
use Rattle.wl_link.proofs.Calls.Branches.{either_bool, either_result}
use Rattle.wl_link.proofs.Calls.QueueLaws.{chain_joins}

send_keeps : (before after : Script) (offer : Queue) (answer : Result ℕ IoFault) → ScriptSends before offer answer after
    → (after.arrivals ≡ before.arrivals) × ScriptSends (sending_side before) offer answer (sending_side after)
send_keeps before after offer answer (inl (is, same)) = (ap (λ (s : Script). s.arrivals) same, inl (is, ap sending_side same))
send_keeps before after offer answer (inr (is, same, some)) = (ap (λ (s : Script). s.arrivals) same, inr (is, ap sending_side same, some))

-- these sends lead from one link to another, and no arrival is taken
pub record Sends (before : LinkState Script) (es : List Sending) (after : LinkState Script) : Type 0 where
  pub arrivals : after.transport.arrivals ≡ before.transport.arrivals
  pub chain : Chain ScriptSends (sending_side before.transport) es (sending_side after.transport)

chain_keeps : (t u : Script) (es : List Sending) → Chain ScriptSends t es u
    → (u.arrivals ≡ t.arrivals) × Chain ScriptSends (sending_side t) es (sending_side u)
chain_keeps t u [] same = (ap (λ (s : Script). s.arrivals) same, ap sending_side same)
chain_keeps t u (e ∷ es) (mid, one, chain) =
    let k = send_keeps t mid e.offer e.answer one in
    let r = chain_keeps mid u es chain in
    (r.0 ∙ k.0, (sending_side mid, k.1, r.1))

sends_none : (before after : LinkState Script) (es : List Sending) → es ≡ [] → after.transport ≡ before.transport → Sends before es after
sends_none before after es none same = record {
  arrivals = ap (λ (s : Script). s.arrivals) same;
  chain = subst (λ (fs : List Sending). Chain ScriptSends (sending_side before.transport) fs (sending_side after.transport)) (sym none) (ap sending_side same);
}

flush_sends : (before after : LinkState Script) (es : List Sending) (answer : Result (Unit {0}) IoFault) → FlushedBy ScriptSends before es answer after → Sends before es after
flush_sends before after es answer h =
    let k = chain_keeps before.transport after.transport es h.0 in
    record { arrivals = k.0; chain = k.1 }

put_same : (before after : LinkState Script) (m : WireMessage) (answer : Result (Unit {0}) IoFault) → Put before m answer after → after.transport ≡ before.transport
put_same before after m answer (inl (is, same)) = ap (λ (l : LinkState Script). l.transport) same
put_same before after m answer (inr (is, same, some)) = ap (λ (l : LinkState Script). l.transport) same

-- the link after it has the transport of another
sends_to : (before mid after : LinkState Script) (es : List Sending) → Sends before es mid → after.transport ≡ mid.transport → Sends before es after
sends_to before mid after es sent same = record {
  arrivals = ap (λ (s : Script). s.arrivals) same ∙ sent.arrivals;
  chain = subst (λ (s : Script). Chain ScriptSends (sending_side before.transport) es (sending_side s)) (sym same) sent.chain;
}

place_sends : (before after : LinkState Script) (m : WireMessage) (es : List Sending) (answer : Result (Unit {0}) IoFault) → PlacedBy ScriptSends before m es answer after → Sends before es after
place_sends before after m es answer h =
    elim (either_bool (has_room before (size m)) h) [
      | inl (none, put) ↦ sends_none before after es none (put_same before after m answer put)
      | inr (mid, flushed, flush, then') ↦
          let sent = flush_sends before mid es flushed flush in
          elim (either_result (ignoring flushed) then') [
            | inl (u, h') ↦
                elim (either_bool (has_room mid (size m)) h') [
                  | inl put ↦ sends_to before mid after es sent (put_same mid after m answer put)
                  | inr (is, same) ↦ sends_to before mid after es sent (ap (λ (l : LinkState Script). l.transport) same)
                ]
            | inr (f, (is, same)) ↦ sends_to before mid after es sent (ap (λ (l : LinkState Script). l.transport) same)
          ]
    ]

write_sends : (before after : LinkState Script) (m : WireMessage) (es : List Sending) (answer : Result (Unit {0}) IoFault) → WroteBy ScriptSends before m es answer after → Sends before es after
write_sends before after m es answer h =
    elim (either_bool (nat_le (size m) 65535) h) [
      | inl (inl (none, is, same, wants)) ↦ sends_none before after es none (ap (λ (l : LinkState Script). l.transport) same)
      | inl (inr (grown, (grows, same), placed)) ↦
          let sent = place_sends grown after m es answer placed in
          let from : grown.transport ≡ before.transport = ap (λ (l : LinkState Script). l.transport) same in
          record {
            arrivals = sent.arrivals ∙ ap (λ (s : Script). s.arrivals) from;
            chain = subst (λ (s : Script). Chain ScriptSends (sending_side s) es (sending_side after.transport)) from sent.chain;
          }
      | inr (none, is, same) ↦ sends_none before after es none (ap (λ (l : LinkState Script). l.transport) same)
    ]

sends_both : (before mid after : LinkState Script) (es fs all : List Sending) → all ≡ es ++ fs → Sends before es mid → Sends mid fs after → Sends before all after
sends_both before mid after es fs all is one two = record {
  arrivals = two.arrivals ∙ one.arrivals;
  chain = subst (λ (gs : List Sending). Chain ScriptSends (sending_side before.transport) gs (sending_side after.transport)) (sym is)
      (chain_joins ScriptSends (sending_side before.transport) (sending_side mid.transport) (sending_side after.transport) es fs one.chain two.chain);
}

put_by_sends : (before after : LinkState Script) (m : Said) (es : List Sending) (answer : Result (Unit {0}) IoFault) → PutBy ScriptSends before m es answer after → Sends before es after
put_by_sends before after m es answer (inl wrote) = write_sends before after m.message es answer wrote
put_by_sends before after m es answer (inr (none, is, same, text)) = sends_none before after es none (ap (λ (l : LinkState Script). l.transport) same)

puts_send : (ms : List Said) (before after : LinkState Script) (es : List Sending) (put : List Said) (answer : Result (Unit {0}) IoFault)
    → PutsOut ScriptSends before ms es put answer after → Sends before es after
puts_send [] before after es put answer (none, nothing', is, same) = sends_none before after es none (ap (λ (l : LinkState Script). l.transport) same)
puts_send (m ∷ ms) before after es put answer (first, Ok u, mid, one, (others, rest, split, is, puts)) =
    sends_both before mid after first others es split (put_by_sends before mid m first (Ok u) one) (puts_send ms mid after others rest answer puts)
puts_send (m ∷ ms) before after es put answer (first, Err f, mid, one, (split, none, is, same)) =
    let sent = sends_to before mid after first (put_by_sends before mid m first (Err f) one) (ap (λ (l : LinkState Script). l.transport) same) in
    subst (λ (fs : List Sending). Sends before fs after) (sym split) sent

flushes_send : (flushes lacked : Bool) (before after : LinkState Script) (es : List Sending) → FlushesOut ScriptSends flushes before es lacked after → Sends before es after
flushes_send flushes lacked before after es h =
    elim (either_bool flushes h) [
      | inl (answer, flush, is) ↦ flush_sends before after es answer flush
      | inr (none, same, is) ↦ sends_none before after es none (ap (λ (l : LinkState Script). l.transport) same)
    ]

module _ {Core Event Finish : Type 0} (reader : Reader Core Event Finish) where
  -- a verdict that is carried out
  pub carries_send : (v : Verdict Core Event) (before : LinkState Script) (after : ReaderState Script Core) (es : List Sending) (gave : List (Given Event)) (refused : Bool)
      → CarriesOut ScriptSends reader v before es gave refused after → Sends before es after.link
  carries_send v before after es gave refused (inl (first, others, put, wrote, mid, lacked, puts, flushes, split, end, is, was)) =
      sends_both before mid after.link first others es split (puts_send v.puts before mid first put wrote puts) (flushes_send v.flushes lacked mid after.link others flushes)
  carries_send v before after es gave refused (inr (asks, was, none, is, same)) =
      sends_none before after.link es none (ap (λ (x : ReaderState Script Core). x.link.transport) same)
