-- The front of what was received, handed on to another link.
use Rattle.std.specs.Prelude.{◌≡◌, ℕ, ◌⊎◌, false, drop, take, Result, Ok, Err}
use Rattle.wl_link.specs.declared.buffered_socket.hand_on.HandOnError.{HandOnError}
use Rattle.wl_link.specs.declared.buffered_socket.hand_on.HandOnError.TheVariants as hand
use Rattle.wl_link.specs.Exchange.{Queue, joined}
use Rattle.wl_link.specs.HandOn.{NoMemoryForTokens, NoMemoryToGrow}
use Rattle.wl_link.specs.Link.{Grown, LinkState, has_room, with_incoming, with_outgoing}

-- so many bytes and tokens from the front of a queue, and what follows them
abbrev pub first_part : ℕ → ℕ → Queue → Queue
first_part len count q = record { bytes = take len q.bytes; tokens = take count q.tokens }

abbrev pub after_part : ℕ → ℕ → Queue → Queue
after_part len count q = record { bytes = drop len q.bytes; tokens = drop count q.tokens }

module _ {S R : Type 0} where
  -- They leave one link, and stand behind what waits to be sent on the other. If the other link may not have so much, or there is
  -- no memory, they stay.
  abbrev pub HandsFront : ℕ → ℕ → LinkState R → LinkState S → Result (Unit {0}) HandOnError → LinkState R → LinkState S → Type 0
  HandsFront len count from to (Ok _) from' to' =
      (from' ≡ with_incoming from from.transport (after_part len count from.incoming))
      × ((grown : LinkState S) × Grown to len grown
      × (to' ≡ with_outgoing grown grown.transport (joined grown.outgoing (first_part len count from.incoming))))
  HandsFront len count from to (Err hand.NoRoom) from' to' = (from' ≡ from) × Grown to len to' × (has_room to' len ≡ false)
  HandsFront len count from to (Err hand.OutOfMemory) from' to' =
      (from' ≡ from) × (NoMemoryToGrow to len to' ⊎ NoMemoryForTokens to len count to')
  HandsFront len count from to (Err _) from' to' = ⊥
