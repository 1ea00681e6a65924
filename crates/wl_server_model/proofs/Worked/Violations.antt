-- Worked malformed messages, computed from the definition: they say what was meant.
use Rattle.std.proofs.Common.{◌≡◌, ℕ, [], ◌∷◌, Some, None, refl}
use Rattle.wl_wire.specs.Pieces.{counted_at, text_of, word_at}
use Rattle.wl_server_client.specs.declared.reading.violation.MessageFault.TheVariants as fault
use Rattle.wl_server_client.specs.Violations.{misread, unread_fault}
use Rattle.wl_server_model.proofs.Worked.Messages.{give_row, link_row, quad}

-- no object; an object without the request, whatever its length; a length of 7; and of 8, which is enough for a header
bad_headers : (unread_fault {U = ℕ} None None 8 [] ≡ fault.UnknownSender) × (unread_fault (Some quad) None 7 [] ≡ fault.UnknownOpcode)
    × (unread_fault (Some quad) (Some link_row) 7 [] ≡ fault.ShortHeader)
    × (unread_fault (Some quad) (Some link_row) 8 [] ≡ fault.MissingBytes 0)
unfolding word_at
bad_headers = (refl, refl, refl, refl)

-- two objects: one word, or not even one
short_words : (misread 0 link_row.signature (5 ∷ 0 ∷ 0 ∷ 0 ∷ []) ≡ fault.MissingBytes 1)
    × (misread 0 link_row.signature (5 ∷ 0 ∷ 0 ∷ []) ≡ fault.MissingBytes 0)
unfolding word_at
short_words = (refl, refl)

-- A string, an array and a descriptor. `ab` without a zero; `a`, a zero and another one; a string that is longer than the
-- message; `a` with its zero, and no array; and null, and an array that is longer than the message.
bad_texts : (misread 0 give_row.signature (2 ∷ 0 ∷ 0 ∷ 0 ∷ 97 ∷ 98 ∷ 0 ∷ 0 ∷ []) ≡ fault.UnendedString 0)
    × (misread 0 give_row.signature (3 ∷ 0 ∷ 0 ∷ 0 ∷ 97 ∷ 0 ∷ 0 ∷ 0 ∷ []) ≡ fault.UnendedString 0)
    × (misread 0 give_row.signature (9 ∷ 0 ∷ 0 ∷ 0 ∷ 97 ∷ 0 ∷ 0 ∷ 0 ∷ []) ≡ fault.MissingBytes 0)
    × (misread 0 give_row.signature (2 ∷ 0 ∷ 0 ∷ 0 ∷ 97 ∷ 0 ∷ 0 ∷ 0 ∷ []) ≡ fault.MissingBytes 1)
    × (misread 0 give_row.signature (0 ∷ 0 ∷ 0 ∷ 0 ∷ 5 ∷ 0 ∷ 0 ∷ 0 ∷ 1 ∷ 2 ∷ 3 ∷ 4 ∷ []) ≡ fault.MissingBytes 1)
unfolding counted_at text_of word_at
bad_texts = (refl, refl, refl, refl, refl)
