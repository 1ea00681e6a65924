-- The objects of a client that leaves are noted, one after another.
use Rattle.std.proofs.Common.{◌≡◌, ℕ, ◌+◌, ◌≤◌, List, [], ◌∷◌, ◌++◌, length, map, is_some, refl, arith}
use Rattle.wl_link.specs.declared.object.Object.{Object}
use Rattle.wl_server_client.specs.declared.objects.Kept.{Kept}
use Rattle.wl_server_client.specs.declared.notes.Note.{Note}
use Rattle.wl_server_client.specs.Ids.{ClientParts}
use Rattle.wl_server_client.specs.Inside.Leaving.{with_data, ends_of}
use Rattle.wl_server_client.specs.Stored.{note_of}

module _ {U : Type 0} where
  pub ending_length : (client : ClientParts) (objects : List (ℕ × Object (Kept U))) → length (ends_of client objects) ≡ length (with_data objects)
  ending_length client [] = refl
  ending_length client (e ∷ objects) = grind (arith, ends_of, with_data, is_some, ending_length client objects)

  -- what is known before these objects leave: what is noted in all, and that there is room for it
  pub record Ending (client : ClientParts) (notes : List (Note U)) (objects : List (ℕ × Object (Kept U))) (total : List (Note U))
      (room : ℕ) : Type 0 where
    pub noted : notes ++ map (note_of client) (ends_of client objects) ≡ total
    pub fits : length notes + length (ends_of client objects) ≤ room

  pub ending_begins : (client : ClientParts) (notes : List (Note U)) (objects : List (ℕ × Object (Kept U))) (n room : ℕ) → n ≡ length notes
      → n + length (with_data objects) ≤ room
      → Ending client notes objects (notes ++ map (note_of client) (ends_of client objects)) room
  ending_begins client notes objects n room is fits = grind (arith, ending_length)
