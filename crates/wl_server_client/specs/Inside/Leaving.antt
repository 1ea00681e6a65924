-- What is noted of the objects of a client that leaves.
use Rattle.std.specs.Prelude.{ℕ, List, is_some}
use Rattle.std.specs.List.{filter, flat_map}
use Rattle.wl_link.specs.declared.object.Object.{Object}
use Rattle.wl_server_client.specs.declared.objects.Kept.{Kept}
use Rattle.wl_server_client.specs.declared.notes.Happening.{Happening}
use Rattle.wl_server_client.specs.Ids.{ClientParts}
use Rattle.wl_server_client.specs.Part.{note_of_end}

module _ {U : Type 0} where
  -- the objects that have user data
  abbrev pub with_data : List (ℕ × Object (Kept U)) → List (ℕ × Object (Kept U))
  with_data entries = filter (λ e. is_some e.1.value.user_data) entries

  -- what is noted of objects that leave
  abbrev pub ends_of : ClientParts → List (ℕ × Object (Kept U)) → List (Happening U)
  ends_of client entries = flat_map (λ e. note_of_end client e.0 e.1) entries
