-- What a session makes of the answer of its link's flush.
use Rattle.std.proofs.Common.{◌≡◌, ℕ, Option, None, Some, Result, Err, MatchOption, refl, is_some, false}
use Rattle.wl_wire.specs.declared.error.IoFault.{IoFault}
use Rattle.wl_wire.specs.declared.error.IoFault.TheVariants as fault
use Rattle.wl_link.specs.Exchange.{Queue}
use Rattle.wl_link.specs.Link.{LinkState, Flushed}
use Rattle.wl_client.specs.declared.error.FlushError.{FlushError}
use Rattle.wl_client.specs.declared.error.FlushError.TheVariants as flush
use Rattle.wl_client.specs.declared.error.WaylandError.{WaylandError}
use Rattle.wl_client.specs.declared.error.WaylandError.TheVariants.{Io}
use Rattle.wl_client.specs.Session.{SessionState}
use Rattle.wl_client.specs.Finish.{FlushEnds, SessionFlushed}

-- a session without an error flushes its link
pub session_flushed : {T U : Type 0} (sends : T → Queue → Result ℕ IoFault → T → Type 0) (s : SessionState T U)
    (flushed : Result (Unit {0}) IoFault) (link : LinkState T) (answer : Result (Unit {0}) FlushError) (after : SessionState T U)
    → is_some s.error ≡ false → Flushed sends s.link flushed link → FlushEnds (record s { link = link }) flushed answer after
    → SessionFlushed sends s answer after
session_flushed {T} {U} sends s flushed link answer after none made ends =
    let P : Option WaylandError → Type 0 =
    λ o. MatchOption o
    ((flushed : Result (Unit {0}) IoFault) × (link : LinkState T) × Flushed sends s.link flushed link
    × FlushEnds (record s { link = link }) flushed answer after)
    (λ _. (answer ≡ Err flush.Failed) × (after ≡ s))
    in
    let Q : Option WaylandError → Type 0 = λ o. is_some o ≡ false → P o in
    elim s.error as Q [
      | None ↦ λ _. (flushed, link, made, ends)
      | Some e ↦ λ h. absurd (cc)
    ] none

-- a fault after which no more may be sent is stored
pub fault_stored : {T U : Type 0} (s after : SessionState T U) (f : IoFault) → (f ≡ fault.WouldBlock → ⊥) → (f ≡ fault.OutOfMemory → ⊥)
    → after ≡ record s { error = Some (Io f) } → FlushEnds s (Err f) (Err flush.Failed) after
fault_stored s after fault.WouldBlock blocks memory e = absurd (blocks refl)
fault_stored s after fault.OutOfMemory blocks memory e = absurd (memory refl)
fault_stored s after _ blocks memory e = (refl, e)
