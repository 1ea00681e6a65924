-- What the functions that write messages say to their callers.
use Rattle.std.specs.Prelude.{ℕ, List, Result}
use Rattle.wl_wire.specs.declared.error.IoFault.{IoFault}
use Rattle.wl_link.specs.Exchange.{Queue, Sending}
use Rattle.wl_link.specs.Link.{LinkState}
use Rattle.wl_link.specs.Puts.{PutsOut, Said}

-- the messages were put one after another, up to the first that failed
abbrev pub Puts : {T : Type 0} → (T → Queue → Result ℕ IoFault → T → Type 0) → LinkState T → List Said → Result (Unit {0}) IoFault → LinkState T → Type 0
Puts sends before messages answer after = (es : List Sending) × (put : List Said) × PutsOut sends before messages es put answer after
