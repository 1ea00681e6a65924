-- What the post of an error does to the client's link, if the client is told of the error: one write and one flush, or
-- nothing.
use Rattle.std.specs.Prelude.{◌≡◌, ◌⊎◌, ℕ, List, Bool, true, false, ◌||◌, IsSome, Result}
use Rattle.wl_wire.specs.declared.error.IoFault.{IoFault}
use Rattle.wl_link.specs.Exchange.{Queue, Sending}
use Rattle.wl_link.specs.Link.{LinkState, Wrote}
use Rattle.wl_link.specs.Puts.{FlushesOut, lacks_memory}
use Rattle.wl_server_client.specs.Ids.{IdParts}
use Rattle.wl_server_client.specs.Part.{Part, named}
use Rattle.wl_server_client.specs.Telling.{error_message}

module _ {T : Type 0} (sends : T → Queue → Result ℕ IoFault → T → Type 0) where
  -- The error is written, then what waits is flushed, even if the write failed. The message's text is there already, so the
  -- write needs memory only to double the buffer.
  abbrev pub TellsError : LinkState T → ℕ → ℕ → List ℕ → Bool → LinkState T → Type 0
  TellsError before n code text refused after =
      (wrote : Result (Unit {0}) IoFault) × (mid : LinkState T) × (es : List Sending) × (lacked : Bool)
      × Wrote sends before (error_message n code text).message wrote mid × FlushesOut sends true mid es lacked after
      × (refused ≡ lacks_memory wrote || lacked)

  -- or memory is refused for the texts of the note, and nothing is written or flushed
  abbrev pub TellsOrLacks : LinkState T → ℕ → ℕ → List ℕ → Bool → LinkState T → Type 0
  TellsOrLacks before n code text refused after = TellsError before n code text refused after ⊎ ((refused ≡ true) × (after ≡ before))

  -- so it is if the client is live and the object is kept
  abbrev pub PostsOn : {U C : Type 0} → Part T U C → IdParts → ℕ → List ℕ → Bool → Part T U C → Type 0
  PostsOn p id code text refused q = p.is_killed ≡ false → IsSome (named p.store id) → TellsOrLacks p.link id.number code text refused q.link
