-- What one send takes of what is to be sent, and what is left of it.
use Rattle.std.specs.Prelude.{ℕ, ◌==◌, if◌then◌else◌, drop, length, min, nat_le, take}
use Rattle.wl_link.specs.Exchange.{Queue, nothing}

-- how many bytes one send takes: all, if at most 28 tokens wait with them; else one
abbrev pub offered : Queue → ℕ
offered q = if nat_le (length q.tokens) 28 then length q.bytes else 1

-- so many bytes, with the first 28 tokens
abbrev pub one_send : Queue → Queue
one_send q = record { bytes = take (offered q) q.bytes; tokens = take 28 q.tokens }

-- what goes out if so many of the bytes of one send are sent: its tokens go with the first of them
abbrev pub part_sent : ℕ → Queue → Queue
part_sent count q = if count == 0 then nothing else (record { bytes = take (min count (offered q)) q.bytes; tokens = take 28 q.tokens })

-- what is left without it
abbrev pub left_after : ℕ → Queue → Queue
left_after count q = if count == 0 then q else (record { bytes = drop (min count (offered q)) q.bytes; tokens = drop 28 q.tokens })
