-- That a storage for what is sent which holds a byte holds one from then on.
use Rattle.std.proofs.Common.{◌≡◌, ℕ, ◌<◌, List, [], ◌∷◌, Option, Result, Ok, Err, refl, sym, ap, subst, ◌∙◌}
use Rattle.std.proofs.lemmas.Nat.{pow_pos}
use Rattle.std.proofs.Math.Nat.{mul-pos}
use Rattle.std.specs.Prelude.{nat_le}
use mathlib.Core.Logic.{inl, inr}
use Rattle.wl_wire.specs.declared.argument.ArgumentType.{ArgumentType}
use Rattle.wl_wire.specs.declared.error.IoFault.{IoFault}
use Rattle.wl_wire.specs.Message.{WireMessage, size}
use Rattle.wl_link.proofs.Calls.Branches.{either_bool, either_result}
use Rattle.wl_link.specs.Exchange.{Queue, Sending, nothing}
use Rattle.wl_link.proofs.Calls.LaterLaws.{other_reads}
use Rattle.wl_link.specs.Link.{Grows, LinkState, PlacedBy, Put, ReadOne, WroteBy, has_room, ignoring}
use Rattle.wl_link.specs.Puts.{PutBy, PutsOut, Said}
use Rattle.wl_link.specs.Served.{link_as}

abbrev storage_of : {T : Type 0} → LinkState T → ℕ
storage_of l = l.outgoing_capacity

-- a storage of this size holds a byte, as the other of the same size does
holds_as : (size size' : ℕ) → size' ≡ size → 0 < size → 0 < size'
holds_as size size' same holds = subst (λ (n : ℕ). 0 < n) (sym same) holds

grows_hold : (limit : Option ℕ) (needed size size' : ℕ) → Grows limit needed size size' → 0 < size → 0 < size'
grows_hold limit needed size size' grows holds = subst (λ (n : ℕ). 0 < n) (sym grows.grown) (mul-pos holds (pow_pos grows.times))

module _ {T : Type 0} (sends : T → Queue → Result ℕ IoFault → T → Type 0) where
  put_stays : (m : WireMessage) (before after : LinkState T) (answer : Result (Unit {0}) IoFault) → Put before m answer after → after.outgoing_capacity ≡ before.outgoing_capacity
  put_stays m before after answer (inl (is, same)) = ap storage_of same
  put_stays m before after answer (inr (is, same, some)) = ap storage_of same

  placed_stays : (m : WireMessage) (before after : LinkState T) (es : List Sending) (answer : Result (Unit {0}) IoFault) → PlacedBy sends before m es answer after
      → after.outgoing_capacity ≡ before.outgoing_capacity
  placed_stays m before after es answer h =
      elim (either_bool (has_room before (size m)) h) [
        | inl (none, put) ↦ put_stays m before after answer put
        | inr (mid, flushed, flush, rest) ↦
            elim (either_result (ignoring flushed) rest) [
              | inl (u, room) ↦
                  elim (either_bool (has_room mid (size m)) room) [
                    | inl put ↦ put_stays m mid after answer put ∙ ap storage_of flush.2
                    | inr (is, same) ↦ ap storage_of same ∙ ap storage_of flush.2
                  ]
              | inr (f, (is, same)) ↦ ap storage_of same ∙ ap storage_of flush.2
            ]
      ]

  wrote_holds : (m : WireMessage) (before after : LinkState T) (es : List Sending) (answer : Result (Unit {0}) IoFault) → WroteBy sends before m es answer after
      → 0 < before.outgoing_capacity → 0 < after.outgoing_capacity
  wrote_holds m before after es answer h holds =
      elim (either_bool (nat_le (size m) 65535) h) [
        | inl (inl (none, is, same, wants)) ↦ holds_as before.outgoing_capacity after.outgoing_capacity (ap storage_of same) holds
        | inl (inr (grown, (grows, same), placed)) ↦
            holds_as grown.outgoing_capacity after.outgoing_capacity (placed_stays m grown after es answer placed) (grows_hold before.limit _ before.outgoing_capacity grown.outgoing_capacity grows holds)
        | inr (none, is, same) ↦ holds_as before.outgoing_capacity after.outgoing_capacity (ap storage_of same) holds
      ]

  put_by_holds : (m : Said) (before after : LinkState T) (es : List Sending) (answer : Result (Unit {0}) IoFault) → PutBy sends before m es answer after
      → 0 < before.outgoing_capacity → 0 < after.outgoing_capacity
  put_by_holds m before after es answer (inl wrote) holds = wrote_holds m.message before after es answer wrote holds
  put_by_holds m before after es answer (inr (none, is, same, text)) holds = holds_as before.outgoing_capacity after.outgoing_capacity (ap storage_of same) holds

  pub puts_hold : (ms : List Said) (before after : LinkState T) (es : List Sending) (put : List Said) (answer : Result (Unit {0}) IoFault)
      → PutsOut sends before ms es put answer after → 0 < before.outgoing_capacity → 0 < after.outgoing_capacity
  puts_hold [] before after es put answer (none, nothing', is, same) holds = holds_as before.outgoing_capacity after.outgoing_capacity (ap storage_of same) holds
  puts_hold (m ∷ ms) before after es put answer (first, Ok u, mid, one, (next, rest, split, is, puts)) holds =
      puts_hold ms mid after next rest answer puts (put_by_holds m before mid first (Ok u) one holds)
  puts_hold (m ∷ ms) before after es put answer (first, Err f, mid, one, (split, none, is, same)) holds =
      holds_as mid.outgoing_capacity after.outgoing_capacity (ap storage_of same) (put_by_holds m before mid first (Err f) one holds)

-- a read leaves it as it is
pub read_stays : {T : Type 0} (looks_up : ℕ → ℕ → Option (List ArgumentType) → Type 0) (before after : LinkState T) (m : WireMessage) → ReadOne looks_up before (Ok m) after
    → after.outgoing_capacity ≡ before.outgoing_capacity
read_stays looks_up before after m read =
    ap storage_of (other_reads looks_up before (link_as before nothing before.transport) nothing refl m after read).0
