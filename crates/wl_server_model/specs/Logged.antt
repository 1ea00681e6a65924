-- What a client's transport took, and what waits for it: the spelling of what was put.
use Rattle.std.specs.Prelude.{◌≡◌, List, ◌∷◌, ◌++◌, Ok, MatchOption}
use Rattle.wl_link.specs.Exchange.{Queue}
use Rattle.wl_link.specs.NothingLost.{NoZero, taken}
use Rattle.wl_link.specs.Puts.{messages_of}
use Rattle.wl_link.specs.Sides.{spelled_all}
use Rattle.wl_server_model.specs.declared.step.Reply.TheVariants as reply
use Rattle.wl_server_model.specs.declared.step.Step.TheVariants as step
use Rattle.wl_server_client.specs.Deeds.{Deed, log_of, sends_of}
use Rattle.wl_server_client.specs.Ids.{ClientParts}
use Rattle.wl_server_model.specs.PartStep.{Asked}
use Rattle.wl_server_model.specs.Runs.{history, mine}
use Rattle.wl_server_model.specs.Server.{Seen, ServerState, seen}
use Rattle.wl_server_model.specs.Steps.{Entry}

-- What the transport took, and then what waits, is the spelling of the messages that were put. So are the tokens, if no
-- send answered 0; one that does drops the tokens that it was offered.
pub record LogIsSpelled {U : Type 0} (did : List (Deed U)) (waits : Queue) : Type 0 where
  pub bytes : (taken (sends_of did)).bytes ++ waits.bytes ≡ (spelled_all (messages_of (log_of did))).bytes
  pub tokens : NoZero (sends_of did) → (taken (sends_of did)).tokens ++ waits.tokens ≡ (spelled_all (messages_of (log_of did))).tokens

-- this waits to be sent to the client, if it is stored
abbrev pub WaitsFor : {T U C : Type 0} → Seen T U C → Queue → Type 0
WaitsFor s waits = MatchOption s.part (Unit {0}) (λ p. waits ≡ p.link.outgoing)

module _ {T U G C : Type 0} where
  -- For each client that was inserted in the run: what its transport took since then, and then what waits, is the spelling
  -- of what was put. For a client that was taken out, what waits is what was left at its end.
  abbrev pub EachLogIsSpelled : List (Entry T U G C) → ServerState T U G C → Type 0
  EachLogIsSpelled run after =
      (id : ClientParts) (transport : T) (client_data : C) (earlier later : List (Entry T U G C)) (e : Entry T U G C) →
      run ≡ earlier ++ e ∷ later → e.call ≡ Asked (step.InsertClient transport client_data) (reply.InsertClient (Ok id)) →
      (waits : Queue) × WaitsFor (seen id after) waits × LogIsSpelled (history (mine id later)) waits
