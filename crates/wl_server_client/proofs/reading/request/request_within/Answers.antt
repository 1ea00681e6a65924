use Rattle.std.proofs.Common.{◌≡◌, ◌∙◌, List, [], ◌∷◌, refl, arith}
use Rattle.std.specs.List.{list_any}
use Rattle.wl_wire.specs.declared.argument.ArgumentType.{ArgumentType}
use Rattle.wl_wire.specs.Argument.{Matches, WireArgument, type_of}
use Rattle.wl_wire.specs.Table.{is_new_id}
use Rattle.wl_server_client.proofs.reading.request.request_within.Goals as goal

-- a signature that a new id matches has one
new_matches : (kinds : List ArgumentType) (args : List WireArgument) → Matches kinds args
    → list_any is_new_id kinds ≡ list_any (λ a. is_new_id (type_of a)) args
new_matches [] [] same = refl
new_matches (k ∷ kinds) (a ∷ args) same = grind (arith, list_any, is_new_id, new_matches kinds args (grind (arith, k ∷ kinds)))
new_matches _ _ same = cc

pub display_request-requires-clause-can_make : goal.display_request-requires-clause-can_make
display_request-requires-clause-can_make g c asks = c.requires.can_make (new_matches _ _ c.requires.kinds ∙ asks)

pub display_request-requires-clause-can_register : goal.display_request-requires-clause-can_register
display_request-requires-clause-can_register g c asks = c.requires.can_register (new_matches _ _ c.requires.kinds ∙ asks)

pub registry_request-requires : goal.registry_request-requires
registry_request-requires g c asks = c.requires.can_make (new_matches _ _ c.requires.kinds ∙ asks)
