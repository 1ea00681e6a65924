-- Which clients were touched: for the others nothing waits.
use Rattle.std.specs.Prelude.{◌≡◌, ℕ, List, [], false, Option, None, Some}
use Rattle.wl_server.specs.declared.client.touched.Touched.{Touched}
use Rattle.wl_sets.specs.SlotSets.{IsOut}
use Rattle.wl_server_client.specs.Stored.{Stored, no_times}
use Rattle.wl_server_model.specs.Server.{stored_at}

module _ {T U C : Type 0} where
  -- no bytes wait to be sent to the client of a slot, if there is one
  abbrev pub HasSent : Option (Stored T U C) → Type 0
  HasSent None = Unit {0}
  HasSent (Some s) = s.part.link.outgoing.bytes ≡ []

  -- it is live, and has no notes
  pub record IsCalm (s : Stored T U C) : Type 0 where
    pub live : s.part.is_killed ≡ false
    pub made : s.made ≡ []
    pub waiting : s.part.waiting ≡ []
    pub times : s.times ≡ no_times

  abbrev pub IsQuiet : Option (Stored T U C) → Type 0
  IsQuiet None = Unit {0}
  IsQuiet (Some s) = IsCalm s

  abbrev pub IsLive : Option (Stored T U C) → Type 0
  IsLive None = Unit {0}
  IsLive (Some s) = s.part.is_killed ≡ false

  -- it is so of the client of each slot that is not in the set
  unfoldable pub AllOut : (Option (Stored T U C) → Type 0) → List ℕ → List (Option (Stored T U C)) → Type 0
  AllOut P words clients = (k : ℕ) → IsOut words k → P (stored_at k clients)

  abbrev pub AllSent : List ℕ → List (Option (Stored T U C)) → Type 0
  AllSent words clients = AllOut HasSent words clients

  abbrev pub AllQuiet : List ℕ → List (Option (Stored T U C)) → Type 0
  AllQuiet words clients = AllOut IsQuiet words clients

  abbrev pub AllLive : List ℕ → List (Option (Stored T U C)) → Type 0
  AllLive words clients = AllOut IsLive words clients

  -- each client for which something waits was touched
  pub record AreTouched (touched : Touched) (clients : List (Option (Stored T U C))) : Type 0 where
    pub sent : AllSent touched.to_send.words.items clients
    pub quiet : AllQuiet touched.to_note.words.items clients

-- no slot was taken out
pub record StayTouched (before after : Touched) : Type 0 where
  pub to_send : (k : ℕ) → IsOut after.to_send.words.items k → IsOut before.to_send.words.items k
  pub to_note : (k : ℕ) → IsOut after.to_note.words.items k → IsOut before.to_note.words.items k
