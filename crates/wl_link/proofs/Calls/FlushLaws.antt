-- A flush, send by send.
use Rattle.std.specs.Prelude.{◌≡◌, ◌≢◌, ℕ, ◌<◌, List, [], ◌∷◌, length, take, nat_le, Result, Ok, Err, if◌then◌else◌}
use Rattle.std.proofs.Common.{refl, ap, arith}
use Rattle.std.proofs.lemmas.Bool.{ne_eqb}
use Rattle.wl_wire.specs.declared.argument.Token.{Token}
use Rattle.wl_wire.specs.declared.error.IoFault.{IoFault}
use Rattle.wl_link.specs.Exchange.{Queue}
use Rattle.wl_link.specs.Link.{LinkState, with_outgoing, offer_of, left_of, Flushed}

pub some_bytes : (bytes : List ℕ) (n : ℕ) → n ≡ length bytes → 0 < n → bytes ≢ []
some_bytes bytes n e lt none = absurd (omega (arith, ap length none))

-- what is offered, as it is computed
pub offered : (q : Queue) (bytes held : List ℕ) (waiting : ℕ) (fds : List Token)
    → bytes ≡ take (if nat_le waiting 28 then 4096 else 1) held → held ≡ q.bytes → waiting ≡ length q.tokens → fds ≡ take 28 q.tokens
    → ◌≡◌ {A = Queue} (record { bytes = bytes; tokens = fds }) (offer_of q)
offered q bytes held waiting fds b h w f = rw (b, h, w, f) refl

-- where a flush of what is left may lead, the whole flush may
pub record FlushLeads {T : Type 0} (sends : T → Queue → Result ℕ IoFault → T → Type 0) (start now : LinkState T) : Type 0 where
  pub on : (answer : Result (Unit {0}) IoFault) (after : LinkState T) → Flushed sends now answer after → Flushed sends start answer after

module _ {T : Type 0} (sends : T → Queue → Result ℕ IoFault → T → Type 0) (start now : LinkState T) where
  pub flush_done : FlushLeads sends start now → now.outgoing.bytes ≡ [] → Flushed sends start (Ok tt) now
  flush_done leads none = leads.on (Ok tt) now ([], (refl, (none, refl, refl), refl))

  pub flush_fails : (fault : IoFault) (t : T) → FlushLeads sends start now → now.outgoing.bytes ≢ []
      → sends now.transport (offer_of now.outgoing) (Err fault) t
      → Flushed sends start (Err fault) (with_outgoing now t now.outgoing)
  flush_fails fault t leads some send =
      leads.on (Err fault) (with_outgoing now t now.outgoing)
      (record { offer = offer_of now.outgoing; answer = Err fault } ∷ [], ((t, send, refl), (some, refl, (refl, refl, refl)), refl))

  pub flush_stops : (t : T) → FlushLeads sends start now → now.outgoing.bytes ≢ []
      → sends now.transport (offer_of now.outgoing) (Ok 0) t
      → Flushed sends start (Ok tt) (with_outgoing now t (left_of 0 now.outgoing))
  flush_stops t leads some send =
      leads.on (Ok tt) (with_outgoing now t (left_of 0 now.outgoing))
      (record { offer = offer_of now.outgoing; answer = Ok 0 } ∷ [], ((t, send, refl), (some, refl, (refl, refl, refl)), refl))

  pub flush_goes_on : (n : ℕ) (t : T) → FlushLeads sends start now → now.outgoing.bytes ≢ [] → n ≢ 0
      → sends now.transport (offer_of now.outgoing) (Ok n) t
      → FlushLeads sends start (with_outgoing now t (left_of n now.outgoing))
  flush_goes_on n t leads some more send =
      record {
        on = λ answer after f.
            leads.on answer after (
              record { offer = offer_of now.outgoing; answer = Ok n } ∷ f.0,
              ((t, send, f.1.0), (some, refl, rw (ne_eqb n 0 more) f.1.1), f.1.2),
            );
      }
