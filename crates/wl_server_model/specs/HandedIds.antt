-- The ids that calls hand out.
use Rattle.std.specs.Prelude.{List, [], ◌∷◌, ◌++◌, Option, None, Some, Result, Ok, Err}
use Rattle.wl_server_client.specs.Deeds.{Bind, Handed, Registry, Request}
use Rattle.wl_server_client.specs.Ids.{IdParts}
use Rattle.wl_link.specs.Identity.{HandedId, Found, New, argument_ids}

abbrev pub created_ids : Option IdParts → List (HandedId IdParts)
created_ids None = []
created_ids (Some id) = New id ∷ []

-- the ids of an action: its sender's and those among its arguments, or that of the object that is bound, or of the new registry
abbrev pub action_ids : Handed → List (HandedId IdParts)
action_ids (Request sender opcode args is_destructor created) = Found sender ∷ (argument_ids args ++ created_ids created)
action_ids (Bind global object) = New object ∷ []
action_ids (Registry object) = New object ∷ []

-- the id of an object that the program made
abbrev pub made_ids : {E : Type 0} → Result IdParts E → List (HandedId IdParts)
made_ids (Ok id) = New id ∷ []
made_ids (Err e) = []
