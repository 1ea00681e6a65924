-- Handing on what was received, as it is, to another link.
use Rattle.std.specs.Prelude.{◌≡◌, ℕ, ◌+◌, ◌<◌, ◌≤◌, ◌⊎◌, false, true, List, length, take, Result, Ok, Err}
use Rattle.wl_wire.specs.declared.argument.ArgumentType.{ArgumentType}
use Rattle.wl_wire.specs.declared.error.MessageParseError.TheVariants as errors
use Rattle.wl_wire.specs.Parse.{IsThere, length_of, fd_count, RefusesMessage}
use Rattle.wl_link.specs.declared.buffered_socket.hand_on.HandOnError.{HandOnError}
use Rattle.wl_link.specs.declared.buffered_socket.hand_on.HandOnError.TheVariants as hand
use Rattle.wl_link.specs.Exchange.{Queue, joined, nothing}
use Rattle.wl_link.specs.Link.{LinkState, Grown, Wants, after_first, has_room, needed, with_incoming, with_outgoing}

-- The buffer has to grow for so many more bytes, and may, but there is no memory: nothing changes.
abbrev pub NoMemoryToGrow : {S : Type 0} → LinkState S → ℕ → LinkState S → Type 0
NoMemoryToGrow to more to' = (to' ≡ to) × Wants to.limit (needed to more) to.outgoing_capacity

-- The buffer has grown as far as it may, and has room for so many more bytes; but there is no memory for the tokens. There are
-- some, and with those that wait they would be more than 28.
abbrev pub NoMemoryForTokens : {S : Type 0} → LinkState S → ℕ → ℕ → LinkState S → Type 0
NoMemoryForTokens to more count to' =
    Grown to more to' × (has_room to' more ≡ true) × (0 < count) × (28 < length to.outgoing.tokens + count)

-- the message at the front, under this signature: its bytes and its tokens
abbrev pub first_of : List ArgumentType → Queue → Queue
first_of signature q = record { bytes = take (length_of q.bytes) q.bytes; tokens = take (fd_count signature) q.tokens }

module _ {S R : Type 0} where
  -- the buffer of the other link has grown, as far as it may, to have room for the message
  abbrev pub RoomMade : LinkState R → LinkState S → LinkState S → Type 0
  RoomMade from to grown = Grown to (length_of from.incoming.bytes) grown

  -- Each reason comes on its own condition, in this order. Nothing is handed on; the buffer of the other link may have grown.
  -- Memory is wanted only to double that buffer, and for the tokens of a message that has some, if more than 28 would wait.
  abbrev pub RefusesHandOn : List ArgumentType → LinkState R → LinkState S → HandOnError → LinkState S → Type 0
  RefusesHandOn signature from to hand.MissingData to' =
      RefusesMessage from.incoming.bytes signature from.incoming.tokens errors.MissingData × (to' ≡ to)
  RefusesHandOn signature from to hand.Malformed to' = (8 ≤ length from.incoming.bytes) × (length_of from.incoming.bytes < 8) × (to' ≡ to)
  RefusesHandOn signature from to hand.MissingFD to' =
      RefusesMessage from.incoming.bytes signature from.incoming.tokens errors.MissingFD × (to' ≡ to)
  RefusesHandOn signature from to hand.NoRoom to' =
      IsThere from.incoming.bytes signature from.incoming.tokens × RoomMade from to to' × (has_room to' (length_of from.incoming.bytes) ≡ false)
  RefusesHandOn signature from to hand.OutOfMemory to' =
      IsThere from.incoming.bytes signature from.incoming.tokens
      × (NoMemoryToGrow to (length_of from.incoming.bytes) to'
      ⊎ NoMemoryForTokens to (length_of from.incoming.bytes) (fd_count signature) to')

  -- The message at the front leaves one link, and stands after what waits to be sent on the other, byte for byte.
  abbrev pub HandsOn : List ArgumentType → LinkState R → LinkState S → Result (Unit {0}) HandOnError → LinkState R → LinkState S → Type 0
  HandsOn signature from to (Ok _) from' to' =
      IsThere from.incoming.bytes signature from.incoming.tokens
      × (from' ≡ with_incoming from from.transport (after_first signature from.incoming))
      × ((grown : LinkState S) × RoomMade from to grown
      × (to' ≡ with_outgoing grown grown.transport (joined grown.outgoing (first_of signature from.incoming))))
  HandsOn signature from to (Err e) from' to' = (from' ≡ from) × RefusesHandOn signature from to e to'

  -- All that was received leaves one link, and stands after what waits to be sent on the other; or it stays, if the other link may
  -- not have so much, or for want of memory: to double its buffer, or for tokens, if some were received and more than 28 would wait.
  abbrev pub HandsOnRest : LinkState R → LinkState S → Result (Unit {0}) HandOnError → LinkState R → LinkState S → Type 0
  HandsOnRest from to (Ok _) from' to' =
      (from' ≡ with_incoming from from.transport nothing)
      × ((grown : LinkState S) × Grown to (length from.incoming.bytes) grown
      × (to' ≡ with_outgoing grown grown.transport (joined grown.outgoing from.incoming)))
  HandsOnRest from to (Err hand.NoRoom) from' to' =
      (from' ≡ from) × Grown to (length from.incoming.bytes) to' × (has_room to' (length from.incoming.bytes) ≡ false)
  HandsOnRest from to (Err hand.OutOfMemory) from' to' =
      (from' ≡ from)
      × (NoMemoryToGrow to (length from.incoming.bytes) to'
      ⊎ NoMemoryForTokens to (length from.incoming.bytes) (length from.incoming.tokens) to')
  HandsOnRest from to (Err _) from' to' = ⊥

  -- What waits to be sent on one link, followed by what was received on the other, stays as it was.
  abbrev pub Carries : LinkState R → LinkState S → LinkState R → LinkState S → Type 0
  Carries from to from' to' = joined to'.outgoing from'.incoming ≡ joined to.outgoing from.incoming

  -- Nothing is received on the one link and nothing sent on the other, and what goes the other way is not touched.
  abbrev pub LeavesOtherWay : LinkState R → LinkState S → LinkState R → LinkState S → Type 0
  LeavesOtherWay from to from' to' =
      (from'.transport ≡ from.transport) × (from'.outgoing ≡ from.outgoing)
      × (to'.transport ≡ to.transport) × (to'.incoming ≡ to.incoming)
