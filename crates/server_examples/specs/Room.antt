-- What a function that is lent a server has done to it.
use Rattle.std.specs.Prelude.{true}
use Rattle.wl_link.specs.Script.{Script, ScriptReceives, ScriptSends}
use Rattle.wl_server_client.specs.Ids.{ClientParts}
use Rattle.wl_server_model.specs.PartStep.{over}
use Rattle.wl_server_model.specs.Reached.{Reached}
use Rattle.wl_server_model.specs.Server.{ServerState}

-- it made calls of the server, and none that reads a client or ends an action
abbrev pub OnlyCalls : {U G C : Type 0} → ServerState Script U G C → ServerState Script U G C → Type 0
OnlyCalls before after = (client : ClientParts) → Reached (over ScriptSends ScriptReceives (λ _ _ _ _. true)) client before after
