-- That a call, a read, or a reading has one outcome: two of them answer the same and leave the same.
use Rattle.std.proofs.Common.{◌≡◌, List, Result}
use Rattle.wl_wire.specs.declared.error.IoFault.{IoFault}
use Rattle.wl_link.specs.Exchange.{Queue, Sending}
use Rattle.wl_link.specs.Link.{LinkState}
use Rattle.wl_wire.specs.declared.error.MessageParseError.{MessageParseError}
use Rattle.wl_wire.specs.Message.{WireMessage}
use Rattle.wl_link.specs.Puts.{Said}
use Rattle.wl_link.specs.Reader.{Gives, ReaderState}

-- the sends of one call, its answer, and what it leaves, are those of another
pub record SameCall {T : Type 0} (es fs : List Sending) (a b : Result (Unit {0}) IoFault) (x y : LinkState T) : Type 0 where
  pub sends : es ≡ fs
  pub answer : a ≡ b
  pub after : x ≡ y

-- what one fill received, its answer, and what it leaves, are those of another
pub record SameFill {T : Type 0} (r s : Result Queue IoFault) (a b : Result (Unit {0}) IoFault) (x y : LinkState T) : Type 0 where
  pub received : r ≡ s
  pub answer : a ≡ b
  pub after : x ≡ y

-- the answer of one read, and what it leaves, are those of another
pub record SameRead {T : Type 0} (a b : Result WireMessage MessageParseError) (x y : LinkState T) : Type 0 where
  pub answer : a ≡ b
  pub after : x ≡ y

-- what was put of one list of messages, the answer, and what it leaves, are those of another
pub record SamePut {T : Type 0} (p q : List Said) (a b : Result (Unit {0}) IoFault) (x y : LinkState T) : Type 0 where
  pub put : p ≡ q
  pub answer : a ≡ b
  pub after : x ≡ y

-- what one reading gives, and what it leaves, are those of another
pub record SameReading {T Core Event : Type 0} (o o' : Gives Event) (x y : ReaderState T Core) : Type 0 where
  pub out : o ≡ o'
  pub after : x ≡ y
