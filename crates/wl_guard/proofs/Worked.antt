-- Rows that were worked out by hand: what is remembered, what becomes of announcements, requests and removals, and what goes out in one
-- send.
use Rattle.std.specs.Prelude.{◌≡◌, true, false, [], ◌∷◌, codes, None, Some, pos}
use Rattle.std.proofs.Common.{refl}
use Rattle.wl_wire.specs.declared.argument.Argument.TheVariants as arg
use Rattle.wl_follow.specs.declared.side.Side.TheVariants.{Client, Server}
use Rattle.wl_guard.specs.Events.{fate_of_removal, lowered}
use Rattle.wl_guard.specs.Known.{has_place, is_beyond, told_of, with_told, without}
use Rattle.wl_guard.specs.Policy.{PolicyState, allowed_version, new_policy}
use Rattle.wl_guard.specs.Queues.{left_after, one_send, part_sent}
use Rattle.wl_guard.specs.Requests.{bind_of, fate_of_request}
use Rattle.wl_guard.specs.declared.policy.Limits.{Limits}
use Rattle.wl_guard.specs.declared.session.Fate.TheVariants as fate
use Rattle.wl_guard.specs.declared.session.Told.{Told}

abbrev limits : Limits
limits = record { objects = 6; globals = 2; waiting = 4096 }

-- `wl_compositor` as the global 3, version 4, of which the client was told; and a global 5 that it was not told of
abbrev shown : Told
shown = record { number = 3; interface = record { 0 = 4 }; version = 4; is_shown = true }

abbrev hidden : Told
hidden = record { number = 5; interface = record { 0 = 0 }; version = 0; is_shown = false }

-- the number 3 again, of another interface that is hidden
abbrev hidden_again : Told
hidden_again = record { number = 3; interface = record { 0 = 0 }; version = 0; is_shown = false }

-- ---- what is remembered

last_counts : told_of (with_told (shown ∷ hidden ∷ []) hidden_again) 3 ≡ Some hidden_again
last_counts = refl

others_stay : with_told (shown ∷ hidden ∷ []) hidden_again ≡ hidden_again ∷ hidden ∷ []
others_stay = refl

not_remembered : told_of (shown ∷ hidden ∷ []) 4 ≡ None
not_remembered = refl

-- two are remembered, and no more: an old number has its place, and a new one has none
places : (has_place limits (shown ∷ hidden ∷ []) 5 ≡ true) × (has_place limits (shown ∷ hidden ∷ []) 4 ≡ false) × (has_place limits (shown ∷ []) 4 ≡ true)
places = (refl, refl, refl)

-- the client may have the numbers below 6, and the compositor six of its own; the other side's numbers are another rule's
numbers : (is_beyond limits Client (Some 5) ≡ false) × (is_beyond limits Client (Some 6) ≡ true) × (is_beyond limits Server (Some 0xFF000005) ≡ false)
    × (is_beyond limits Server (Some 0xFF000006) ≡ true) × (is_beyond limits Client (Some 0xFF000006) ≡ false) × (is_beyond limits Server None ≡ false)
numbers = (refl, refl, refl, refl, refl, refl)

-- a number that is made again is no longer one that the client has ended
renewed_number : without (Some 7) (9 ∷ 7 ∷ 8 ∷ []) ≡ 9 ∷ 8 ∷ []
renewed_number = refl

-- ---- what becomes of messages

removals : (fate_of_removal (shown ∷ hidden ∷ []) (arg.Uint 3 ∷ []) ≡ fate.HandOn) × (fate_of_removal (shown ∷ hidden ∷ []) (arg.Uint 5 ∷ []) ≡ fate.Drop)
    × (fate_of_removal (shown ∷ hidden ∷ []) (arg.Uint 4 ∷ []) ≡ fate.Drop)
removals = (refl, refl, refl)

-- only the version of an announcement is another
lowered_version : (lowered (record { sender = 2; opcode = 0; args = arg.Uint 3 ∷ arg.Str (Some (codes "wl_seat")) ∷ arg.Uint 9 ∷ [] }) 7).args
    ≡ arg.Uint 3 ∷ arg.Str (Some (codes "wl_seat")) ∷ arg.Uint 7 ∷ []
lowered_version = refl

binds : (bind_of (arg.Uint 3 ∷ arg.Str (Some (codes "wl_seat")) ∷ arg.Uint 7 ∷ arg.NewId 4 ∷ []) ≡ Some (3, (codes "wl_seat", 7)))
    × (bind_of (arg.Uint 3 ∷ arg.Uint 7 ∷ arg.NewId 4 ∷ []) ≡ None)
binds = (refl, refl)

-- a policy of a table of five interfaces: the last is allowed up to version 4; its request 2 is ignored
abbrev policy : PolicyState
policy = record (new_policy [] limits) { versions = 0 ∷ 0 ∷ 0 ∷ 0 ∷ 4 ∷ []; ignored = record { interface = record { 0 = 4 }; opcode = 2 } ∷ [] }

allowed : (allowed_version policy (record { 0 = 4 }) ≡ 4) × (allowed_version policy (record { 0 = 3 }) ≡ 0) × (allowed_version policy (record { 0 = 5 }) ≡ 0)
allowed = (refl, refl, refl)

ignored : (fate_of_request policy (record { 0 = 4 }) 2 ≡ fate.Drop) × (fate_of_request policy (record { 0 = 4 }) 3 ≡ fate.HandOn)
    × (fate_of_request policy (record { 0 = 3 }) 2 ≡ fate.HandOn)
ignored = (refl, refl, refl)

-- ---- what goes out

one : one_send (record { bytes = 1 ∷ 2 ∷ 3 ∷ []; tokens = record { 0 = pos 8 } ∷ [] }) ≡ record { bytes = 1 ∷ 2 ∷ 3 ∷ []; tokens = record { 0 = pos 8 } ∷ [] }
one = refl

-- two of three bytes were sent, and so the token; no byte, and so no token
parts : (part_sent 2 (record { bytes = 1 ∷ 2 ∷ 3 ∷ []; tokens = record { 0 = pos 8 } ∷ [] }) ≡ record { bytes = 1 ∷ 2 ∷ []; tokens = record { 0 = pos 8 } ∷ [] })
    × (left_after 2 (record { bytes = 1 ∷ 2 ∷ 3 ∷ []; tokens = record { 0 = pos 8 } ∷ [] }) ≡ record { bytes = 3 ∷ []; tokens = [] })
    × (left_after 0 (record { bytes = 1 ∷ []; tokens = record { 0 = pos 8 } ∷ [] }) ≡ record { bytes = 1 ∷ []; tokens = record { 0 = pos 8 } ∷ [] })
parts = (refl, refl, refl)
