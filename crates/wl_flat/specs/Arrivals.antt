-- What arrives, with its descriptors.
use Rattle.std.specs.Prelude.{◌≡◌, ◌⊎◌, ◌<◌, ◌≤◌, ◌+◌, ◌∷◌, [], Bool, true, false, ℕ, ℤ, List, length}
use Rattle.wl_link.specs.Exchange.{joined}
use Rattle.wl_link.specs.Mailbox.{MailboxState}
use Rattle.wl_flat.specs.Descriptors.{Descriptors, next_tokens, put_in}
use Rattle.wl_flat.specs.declared.status.Status.{Status}
use Rattle.wl_flat.specs.declared.status.Status.TheVariants as status

-- the bytes arrived with tokens for the descriptors
abbrev pub mailbox_with : MailboxState → Descriptors → List ℕ → List ℤ → MailboxState
mailbox_with m q bytes descriptors = record m { arrived = joined m.arrived (record { bytes = bytes; tokens = next_tokens q (length descriptors) }) }

-- descriptors without a byte, as no receive of a socket gives them
abbrev pub come_alone : List ℕ → List ℤ → Bool
come_alone [] (d ∷ ds) = true
come_alone bytes descriptors = false

-- these may arrive: no more than 28 descriptors wait then
abbrev pub MayArrive : MailboxState → List ℕ → List ℤ → Type 0
MayArrive m bytes descriptors = (come_alone bytes descriptors ≡ false) × (length m.arrived.tokens + length descriptors ≤ 28)

-- why these do not arrive: descriptors come alone; or too many would wait, or there was no memory
abbrev pub RefusesArrival : MailboxState → List ℕ → List ℤ → Status → Type 0
RefusesArrival m bytes descriptors s =
    ((s ≡ status.InvalidInput) × (come_alone bytes descriptors ≡ true))
    ⊎ ((come_alone bytes descriptors ≡ false)
    × (((s ≡ status.TooManyDescriptors) × (28 < length m.arrived.tokens + length descriptors)) ⊎ (s ≡ status.OutOfMemory)))

-- bytes and descriptors arrived; or they are refused, and nothing is changed
abbrev pub Arrives : MailboxState → Descriptors → List ℕ → List ℤ → Status → MailboxState → Descriptors → Type 0
Arrives m q bytes descriptors s m' q' =
    ((s ≡ status.Ok) × (m' ≡ mailbox_with m q bytes descriptors) × (q' ≡ put_in q descriptors) × MayArrive m bytes descriptors)
    ⊎ (RefusesArrival m bytes descriptors s × (m' ≡ m) × (q' ≡ q))
