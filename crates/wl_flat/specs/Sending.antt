-- What is copied to lent memory of what is to be sent, and what is left once it was sent.
use Rattle.std.specs.Prelude.{ℕ, ℤ, negsuc, ◌==◌, List, [], ◌∷◌, length, map, take, min, nat_lt, Option, None, Some, if◌then◌else◌}
use Rattle.wl_link.specs.Exchange.{Queue, nothing}
use Rattle.wl_link.specs.Mailbox.{MailboxState, behind}
use Rattle.wl_wire.specs.declared.argument.Token.{Token}
use Rattle.wl_flat.specs.Descriptors.{Descriptors, descriptor_of, without}
use Rattle.wl_flat.specs.Flat.{count_number, over_front}
use Rattle.wl_flat.specs.declared.flat.Counts.{Counts}
use Rattle.wl_flat.specs.declared.status.Status.{Status}
use Rattle.wl_flat.specs.declared.status.Status.TheVariants as status
use Rattle.wl_link.specs.declared.mailbox.Ending.TheVariants as ending

-- ---- descriptors

-- the descriptors of the tokens, in order; none for a token that the queue does not hold behind those before it
abbrev pub descriptors_of : Descriptors → List Token → List (Option ℤ)
descriptors_of q [] = []
descriptors_of q (t ∷ ts) = descriptor_of q t ∷ descriptors_of (without q t) ts

-- and what is kept without them
abbrev pub all_taken_out : Descriptors → List Token → Descriptors
all_taken_out q [] = q
all_taken_out q (t ∷ ts) = all_taken_out (without q t) ts

-- those that there are
abbrev pub some_of : List (Option ℤ) → List ℤ
some_of [] = []
some_of (None ∷ xs) = some_of xs
some_of (Some x ∷ xs) = x ∷ some_of xs

-- the number that stands for none
abbrev pub shown : Option ℤ → ℤ
shown None = negsuc 0
shown (Some x) = x

-- ---- lent memory

abbrev pub counts_of : ℕ → ℕ → Counts
counts_of bytes descriptors = record { bytes = count_number bytes; descriptors = count_number descriptors }

-- what a call that copies answered, and what is in the lent memory and in the counts after it
pub record Copied : Type 0 where
  pub status : Status
  pub bytes : List ℕ
  pub descriptors : List ℤ
  pub counts : Counts

-- so many of the bytes that wait, and all descriptors
abbrev pub copied_so_many : ℕ → Queue → Descriptors → List ℕ → List ℤ → Copied
copied_so_many n waiting q bytes descriptors =
    if nat_lt (length descriptors) (length waiting.tokens)
    then (record { status = status.TooSmall; bytes = bytes; descriptors = descriptors; counts = counts_of n (length waiting.tokens) })
    else (record {
      status = status.Ok;
      bytes = over_front (take n waiting.bytes) bytes;
      descriptors = over_front (map shown (descriptors_of q waiting.tokens)) descriptors;
      counts = counts_of n (length waiting.tokens);
    })

-- As many of the bytes as fit, and all descriptors, which go with the first byte. If no byte is copied, nothing is.
abbrev pub copied : Queue → Descriptors → List ℕ → List ℤ → Copied
copied waiting q bytes descriptors =
    if min (length waiting.bytes) (length bytes) == 0
    then (record { status = status.Ok; bytes = bytes; descriptors = descriptors; counts = counts_of 0 0 })
    else copied_so_many (min (length waiting.bytes) (length bytes)) waiting q bytes descriptors

-- ---- what was sent

-- so many of the bytes were sent, or all if there are fewer
abbrev pub sent_of : ℕ → MailboxState → ℕ
sent_of count m = min count (length m.waiting.bytes)

abbrev pub mailbox_after : ℕ → MailboxState → MailboxState
mailbox_after count m = record m { waiting = behind (sent_of count m) m.waiting }

-- and if that is a byte at least, the descriptors were sent too
abbrev pub queue_after : ℕ → MailboxState → Descriptors → Descriptors
queue_after count m q = if sent_of count m == 0 then q else all_taken_out q m.waiting.tokens

-- those descriptors
abbrev pub came_out : ℕ → MailboxState → Descriptors → List ℤ
came_out count m q = if sent_of count m == 0 then [] else some_of (descriptors_of q m.waiting.tokens)

-- the mailbox of a client to which nothing is to be sent
abbrev pub empty_mailbox : MailboxState
empty_mailbox = record { arrived = nothing; ending = ending.Open; waiting = nothing; room = 18446744073709551615; send_fault = None }
