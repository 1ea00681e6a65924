-- Worked calls, computed from the definitions: they say what was meant.
use Rattle.std.proofs.Common.{◌≡◌, ℕ, zero, suc, ◌+◌, ◌-◌, ◌*◌, ◌^◌, ◌<◌, ◌≤◌, Bool, true, false, List, [], ◌∷◌, ◌++◌, length, replicate, is_some, Option, Some, None, Result, Ok, Err, cond, eqb, refl, ap, ◌∙◌, inl, lit<, lit≤, inr, arith}
use Rattle.std.specs.Int.Count.{count_trailing_zeros}
use Rattle.std.specs.Prelude.{if◌then◌else◌, nat_le, nat_lt, not, ◌&&◌, ◌==◌, pos}
use Rattle.wl_wire.specs.declared.argument.Argument.TheVariants as arg
use Rattle.wl_wire.specs.declared.argument.ArgumentType.{ArgumentType}
use Rattle.wl_wire.specs.declared.argument.ArgumentType.TheVariants as kind
use Rattle.wl_wire.specs.declared.argument.Token.{Token}
use Rattle.wl_wire.specs.declared.error.IoFault.{IoFault}
use Rattle.wl_wire.specs.declared.error.IoFault.TheVariants as fault
use Rattle.wl_wire.specs.declared.error.MessageParseError.{MessageParseError}
use Rattle.wl_wire.specs.declared.error.MessageParseError.TheVariants as errors
use Rattle.wl_wire.specs.Message.{WireMessage, word, piece, size}
use Rattle.wl_wire.specs.Inside.Cursor.{arguments_at}
use Rattle.wl_wire.specs.Pieces.{word_at, argument_at}
use Rattle.wl_wire.proofs.Spelling.CursorLaws.{arguments_read}
use Rattle.wl_wire.specs.Parse.{sender_of, second_word}
use Rattle.wl_link.specs.declared.object.Object.{Object}
use Rattle.wl_link.specs.declared.object_map.InsertError.TheVariants as insert
use Rattle.wl_link.specs.declared.object_map.NewError.TheVariants as new
use Rattle.wl_link.specs.Exchange.{Queue, Sending, nothing}
use Rattle.wl_link.proofs.Calls.FlushLaws.{some_bytes}
use Rattle.wl_sets.specs.FreeTree.{IsHeight, lowest_bit, reads_of}
use Rattle.wl_link.specs.Identity.{named_in, names}
use Rattle.wl_link.specs.Link.{AreLimits, FilledBy, Flushes, Grows, IsLimit, LinkState, ReadOne, Wants, WroteBy, grown_capacity, ignoring, incoming_limit, left_of, offer_of, offer_size, spelled, with_incoming_capacity}
use Rattle.wl_link.specs.Mailbox.{MailboxState, behind, front, mailbox_after_receive, mailbox_after_send, mailbox_answer, mailbox_gives}
use Rattle.wl_link.specs.declared.mailbox.Ending.{Ending}
use Rattle.wl_link.specs.declared.mailbox.Ending.TheVariants as ending
use Rattle.wl_link.specs.ObjectMap.{InsertsAt, InsertsNew, NextNew, WordsRead}
use Rattle.wl_link.specs.Script.{Script, ScriptReceives, ScriptSends, script_after_receive, script_after_send, script_gives, send_answer}
use Rattle.wl_link.specs.Store.{Store, client_range, empty_store, first_unused, held, is_free, removed, server_range, stored}
use Rattle.wl_link.proofs.Ids.StoreLaws.{held_empty, held_removed, held_stored}
use Rattle.wl_link.proofs.Limits.{rounded_is_limit}

abbrev token : ℕ → Token
token n = record { 0 = pos n }

abbrev queue : List ℕ → List Token → Queue
queue bytes tokens = record { bytes = bytes; tokens = tokens }

-- ---- what a flush offers

-- with few tokens all that waits
few_are_offered : offer_of (queue (1 ∷ 2 ∷ 3 ∷ []) (token 4 ∷ [])) ≡ queue (1 ∷ 2 ∷ 3 ∷ []) (token 4 ∷ [])
few_are_offered = refl

-- with 28 tokens up to 4096 bytes
bytes_beside_28_tokens : offer_size (replicate 28 (token 7)) ≡ 4096
bytes_beside_28_tokens = refl

-- with 29 one byte
byte_beside_29_tokens : offer_size (replicate 29 (token 7)) ≡ 1
byte_beside_29_tokens = refl

-- of 5000 bytes the first 4096
most_bytes : length (offer_of (queue (replicate 5000 1) [])).bytes ≡ 4096
most_bytes = refl

-- ---- what a flush comes to

abbrev sending : Queue → Result ℕ IoFault → Sending
sending offer answer = record { offer = offer; answer = answer }

-- a sync of 12 bytes
abbrev sync : List ℕ
sync = 1 ∷ 0 ∷ 0 ∷ 0 ∷ 0 ∷ 0 ∷ 12 ∷ 0 ∷ 2 ∷ 0 ∷ 0 ∷ 0 ∷ []

-- without bytes nothing is sent, also where tokens wait
tokens_alone_wait : Flushes (queue [] (token 4 ∷ [])) [] (Ok tt) (queue [] (token 4 ∷ []))
tokens_alone_wait = (refl, refl, refl)

-- an answer takes the first bytes and all tokens that were offered
what_is_left : left_of 5 (queue sync (token 4 ∷ [])) ≡ queue (0 ∷ 12 ∷ 0 ∷ 2 ∷ 0 ∷ 0 ∷ 0 ∷ []) []
what_is_left = refl

-- 5 of 12 bytes are taken, and then a fault comes: 7 wait
five_and_a_fault : Flushes (queue sync []) (sending (queue sync []) (Ok 5) ∷ sending (queue (0 ∷ 12 ∷ 0 ∷ 2 ∷ 0 ∷ 0 ∷ 0 ∷ []) []) (Err (fault.Other (pos 5))) ∷ [])
    (Err (fault.Other (pos 5))) (queue (0 ∷ 12 ∷ 0 ∷ 2 ∷ 0 ∷ 0 ∷ 0 ∷ []) [])
five_and_a_fault = (some_bytes _ 12 refl (lit< tt), refl, (some_bytes _ 7 refl (lit< tt), refl, (refl, refl, refl)))

-- the answer 0 ends the flush well: the bytes wait, and the token is gone
an_answer_0 : Flushes (queue sync (token 4 ∷ [])) (sending (queue sync (token 4 ∷ [])) (Ok 0) ∷ []) (Ok tt) (queue sync [])
an_answer_0 = (some_bytes _ 12 refl (lit< tt), refl, (refl, refl, refl))

-- 60 tokens and 8 bytes leave in three sends
sixty_tokens : Flushes (queue (replicate 8 1) (replicate 60 (token 7)))
    (sending (queue (1 ∷ []) (replicate 28 (token 7))) (Ok 1) ∷ sending (queue (1 ∷ []) (replicate 28 (token 7))) (Ok 1)
    ∷ sending (queue (replicate 6 1) (replicate 4 (token 7))) (Ok 6) ∷ []) (Ok tt) nothing
sixty_tokens = (some_bytes _ 8 refl (lit< tt), refl, (some_bytes _ 7 refl (lit< tt), refl, (some_bytes _ 6 refl (lit< tt), refl, (refl, refl, refl))))

abbrev after_bytes : ℕ → Queue → Queue
after_bytes zero q = q
after_bytes (suc n) q = after_bytes n (left_of 1 q)

-- 8 bytes take 28 tokens each with them, so that of 300 tokens 76 wait
three_hundred_tokens : after_bytes 8 (queue (replicate 8 1) (replicate 300 (token 7))) ≡ queue [] (replicate 76 (token 7))
three_hundred_tokens = refl

-- ---- limits and storage

-- 0 becomes 4096
limit_0 : IsLimit 0 4096
limit_0 = ((λ _. ((12, refl), lit≤ tt, lit≤ tt, λ p power le least. least)), λ lt. absurd (omega arith))

-- 4096 stays
limit_4096 : IsLimit 4096 4096
limit_4096 = rounded_is_limit 4096 4096 4096 (lit≤ tt) refl ((12, refl), lit≤ tt, lit< tt)

-- 5000 becomes 8192
limit_5000 : IsLimit 5000 8192
limit_5000 = rounded_is_limit 5000 5000 8192 (lit≤ tt) refl ((13, refl), lit≤ tt, lit< tt)

-- the greatest power of two stays
limit_greatest_power : IsLimit (2 ^ 63) (2 ^ 63)
limit_greatest_power = rounded_is_limit (2 ^ 63) (2 ^ 63) (2 ^ 63) (lit≤ tt) refl ((63, refl), lit≤ tt, lit< tt)

-- above it all becomes the greatest number
limit_above : IsLimit (2 ^ 63 + 1) (2 ^ 64 - 1)
limit_above = ((λ le. absurd (omega arith)), λ _. refl)

-- no limit stays none
no_limit : AreLimits None None
no_limit = refl

-- for 4100 bytes the storage is doubled once
growth_to_8192 : Grows None 4100 4096 8192
growth_to_8192 = record { times = 1; grown = refl; wanted = wants; enough = λ lt. absurd (omega arith) }
  where
    wants : (k : ℕ) → k < 1 → Wants None 4100 (4096 * 2 ^ k)
    wants zero lt = lit< tt
    wants (suc k) lt = absurd (omega arith)

-- for 4096 it stays
no_growth : Grows (Some 4096) 4096 4096 4096
no_growth = record { times = 0; grown = refl; wanted = λ k lt. absurd (omega arith); enough = λ wants. absurd (omega arith) }

-- so it does where the limit does not allow a doubling
growth_at_the_limit : {needed : ℕ} → Grows (Some 4096) needed 4096 4096
growth_at_the_limit = record { times = 0; grown = refl; wanted = λ k lt. absurd (omega arith); enough = λ wants. absurd (omega arith) }

-- ---- a script

abbrev scripted : List (Result Queue IoFault) → List (Result ℕ IoFault) → Script
scripted arrivals answers = record { arrivals = arrivals; answers = answers; sent = [] }

abbrev chunk : Queue
chunk = queue (1 ∷ 2 ∷ 3 ∷ []) (token 8 ∷ token 9 ∷ [])

-- a chunk gives the bytes that fit with all its tokens, and its other bytes stay first
chunk_in_two : (script_gives (scripted (Ok chunk ∷ []) []) 2 ≡ Ok (queue (1 ∷ 2 ∷ []) chunk.tokens))
    × (script_after_receive (scripted (Ok chunk ∷ []) []) 2 ≡ scripted (Ok (queue (3 ∷ []) []) ∷ []) [])
chunk_in_two = (refl, refl)

-- these come next, without tokens
rest_of_the_chunk : (script_gives (scripted (Ok (queue (3 ∷ []) []) ∷ []) []) 5 ≡ Ok (queue (3 ∷ []) []))
    × (script_after_receive (scripted (Ok (queue (3 ∷ []) []) ∷ []) []) 5 ≡ scripted [] [])
rest_of_the_chunk = (refl, refl)

-- a receive into no room answers 0 and leaves the script
no_room : (script_gives (scripted (Ok chunk ∷ []) []) 0 ≡ Ok nothing)
    × (script_after_receive (scripted (Ok chunk ∷ []) []) 0 ≡ scripted (Ok chunk ∷ []) [])
no_room = (refl, refl)

-- a chunk without bytes answers 0 with its tokens
chunk_of_tokens : (script_gives (scripted (Ok (queue [] (token 8 ∷ [])) ∷ []) []) 5 ≡ Ok (queue [] (token 8 ∷ [])))
    × (script_after_receive (scripted (Ok (queue [] (token 8 ∷ [])) ∷ []) []) 5 ≡ scripted [] [])
chunk_of_tokens = (refl, refl)

-- a fault that arrives is answered once
fault_arrives : (script_gives (scripted (Err fault.Pipe ∷ Ok chunk ∷ []) []) 5 ≡ Err fault.Pipe)
    × (script_after_receive (scripted (Err fault.Pipe ∷ Ok chunk ∷ []) []) 5 ≡ scripted (Ok chunk ∷ []) [])
fault_arrives = (refl, refl)

-- without an arrival the receive would block
no_arrival : script_gives (scripted [] []) 5 ≡ Err fault.WouldBlock
no_arrival = refl

abbrev answering : List (Result ℕ IoFault) → Script
answering answers = scripted [] answers

abbrev recording : List (Result ℕ IoFault) → List Queue → Script
recording answers sent = record { arrivals = []; answers = answers; sent = sent }

-- a count takes that many bytes with all tokens, and is used up
count_below_the_offer : (send_answer (answering (Ok 2 ∷ Ok 9 ∷ [])) chunk ≡ Ok 2)
    × (script_after_send (answering (Ok 2 ∷ Ok 9 ∷ [])) chunk ≡ recording (Ok 9 ∷ []) (queue (1 ∷ 2 ∷ []) chunk.tokens ∷ []))
count_below_the_offer = (refl, refl)

-- a count above the offer takes all of it
count_above_the_offer : (send_answer (answering (Ok 9 ∷ [])) chunk ≡ Ok 3)
    × (script_after_send (answering (Ok 9 ∷ [])) chunk ≡ recording [] (chunk ∷ []))
count_above_the_offer = (refl, refl)

-- a count 0 is answered, and records nothing
count_0 : (send_answer (answering (Ok 0 ∷ [])) chunk ≡ Ok 0) × (script_after_send (answering (Ok 0 ∷ [])) chunk ≡ recording [] [])
count_0 = (refl, refl)

-- so is a fault
fault_of_a_send : (send_answer (answering (Err (fault.Other (pos 5)) ∷ [])) chunk ≡ Err (fault.Other (pos 5)))
    × (script_after_send (answering (Err (fault.Other (pos 5)) ∷ [])) chunk ≡ recording [] [])
fault_of_a_send = (refl, refl)

-- where no answer is left all is taken
no_answer_left : (send_answer (answering []) chunk ≡ Ok 3) × (script_after_send (answering []) chunk ≡ recording [] (chunk ∷ []))
no_answer_left = (refl, refl)

-- ---- a mailbox

abbrev holding : Queue → Ending → MailboxState
holding arrived end = record { arrived = arrived; ending = end; waiting = nothing; room = 3; send_fault = None }

-- what arrived gives the bytes that fit with all tokens, and its other bytes stay
mailbox_in_two : (mailbox_gives (holding chunk ending.Ended) 2 ≡ Ok (queue (1 ∷ 2 ∷ []) chunk.tokens))
    × (mailbox_after_receive (holding chunk ending.Ended) 2 ≡ holding (queue (3 ∷ []) []) ending.Ended)
mailbox_in_two = (refl, refl)

-- then comes the end, which stays
end_stays : (mailbox_gives (holding nothing ending.Ended) 5 ≡ Ok nothing)
    × (mailbox_after_receive (holding nothing ending.Ended) 5 ≡ holding nothing ending.Ended)
end_stays = (refl, refl)

-- so does a fault
fault_stays : (mailbox_gives (holding nothing (ending.Failed fault.Pipe)) 5 ≡ Err fault.Pipe)
    × (mailbox_after_receive (holding nothing (ending.Failed fault.Pipe)) 5 ≡ holding nothing (ending.Failed fault.Pipe))
fault_stays = (refl, refl)

-- tokens alone wait for a byte
tokens_alone_stay : (mailbox_gives (holding (queue [] (token 8 ∷ [])) ending.Open) 5 ≡ Err fault.WouldBlock)
    × (mailbox_after_receive (holding (queue [] (token 8 ∷ [])) ending.Open) 5 ≡ holding (queue [] (token 8 ∷ [])) ending.Open)
tokens_alone_stay = (refl, refl)

-- a receive into no room answers 0 and leaves the mailbox
mailbox_no_room : (mailbox_gives (holding chunk ending.Open) 0 ≡ Ok nothing)
    × (mailbox_after_receive (holding chunk ending.Open) 0 ≡ holding chunk ending.Open)
mailbox_no_room = (refl, refl)

abbrev keeping : Queue → Option IoFault → MailboxState
keeping waiting send_fault = record { arrived = nothing; ending = ending.Open; waiting = waiting; room = 3; send_fault = send_fault }

-- a send takes all if fewer bytes wait than there is room for, however many it is offered
send_takes_all : (mailbox_answer (keeping (queue (7 ∷ 7 ∷ []) (token 6 ∷ [])) None) chunk ≡ Ok 3)
    × (mailbox_after_send (keeping (queue (7 ∷ 7 ∷ []) (token 6 ∷ [])) None) chunk
    ≡ keeping (queue (7 ∷ 7 ∷ 1 ∷ 2 ∷ 3 ∷ []) (token 6 ∷ token 8 ∷ token 9 ∷ [])) None)
send_takes_all = (refl, refl)

-- and else nothing
no_room_left : (mailbox_answer (keeping (queue (7 ∷ 7 ∷ 7 ∷ []) []) None) chunk ≡ Err fault.WouldBlock)
    × (mailbox_after_send (keeping (queue (7 ∷ 7 ∷ 7 ∷ []) []) None) chunk ≡ keeping (queue (7 ∷ 7 ∷ 7 ∷ []) []) None)
no_room_left = (refl, refl)

-- two tokens find room beside 26, and not beside 27
tokens_find_room : (mailbox_answer (keeping (queue [] (replicate 26 (token 7))) None) chunk ≡ Ok 3)
    × (mailbox_answer (keeping (queue [] (replicate 27 (token 7))) None) chunk ≡ Err fault.WouldBlock)
tokens_find_room = (refl, refl)

-- if sends fail they take nothing
sends_fail : (mailbox_answer (keeping nothing (Some fault.Pipe)) chunk ≡ Err fault.Pipe)
    × (mailbox_after_send (keeping nothing (Some fault.Pipe)) chunk ≡ keeping nothing (Some fault.Pipe))
sends_fail = (refl, refl)

-- a send of no bytes keeps its tokens
tokens_are_kept : (mailbox_answer (keeping nothing None) (queue [] (token 8 ∷ [])) ≡ Ok 0)
    × (mailbox_after_send (keeping nothing None) (queue [] (token 8 ∷ [])) ≡ keeping (queue [] (token 8 ∷ [])) None)
tokens_are_kept = (refl, refl)

-- the host sends a part with all tokens, nothing, or all
part_is_sent : (front 2 chunk ≡ queue (1 ∷ 2 ∷ []) chunk.tokens) × (behind 2 chunk ≡ queue (3 ∷ []) [])
part_is_sent = (refl, refl)

nothing_is_sent : (front 0 chunk ≡ nothing) × (behind 0 chunk ≡ chunk)
nothing_is_sent = (refl, refl)

all_is_sent : (front 9 chunk ≡ chunk) × (behind 9 chunk ≡ nothing)
all_is_sent = (refl, refl)

-- ---- a write

-- a link over a script, with such a storage for what is written
abbrev link_over : Script → Queue → Queue → ℕ → Option ℕ → LinkState Script
link_over script incoming outgoing storage limit = record {
  transport = script;
  incoming = incoming;
  incoming_capacity = 4096;
  outgoing = outgoing;
  outgoing_capacity = storage;
  limit = limit;
}

abbrev sending_link : Queue → ℕ → Option ℕ → LinkState Script
sending_link outgoing storage limit = link_over (scripted [] []) nothing outgoing storage limit

abbrev array_message : ℕ → WireMessage
array_message n = record { sender = 42; opcode = 0; args = arg.Array (replicate n 1) ∷ [] }

-- with arrays of 4084 and 4088 bytes the messages have 4096 and 4100
array_messages : (size (array_message 4084) ≡ 4096) × (size (array_message 4088) ≡ 4100)
unfolding word piece
array_messages = (refl, refl)

-- a message of as many bytes as the storage has is put without a send
storage_is_filled : WroteBy ScriptSends (sending_link nothing 4096 (Some 4096)) (array_message 4084) [] (Ok tt)
    (sending_link (spelled (array_message 4084)) 4096 (Some 4096))
unfolding word piece
storage_is_filled = inr (sending_link nothing 4096 (Some 4096), (no_growth, refl), (refl, inl (refl, refl)))

-- 4 bytes more are put into a storage that is twice as large
storage_is_doubled : WroteBy ScriptSends (sending_link nothing 4096 None) (array_message 4088) [] (Ok tt)
    (sending_link (spelled (array_message 4088)) 8192 None)
unfolding word piece
storage_is_doubled = inr (sending_link nothing 8192 None, (growth_to_8192, refl), (refl, inl (refl, refl)))

-- under a limit of 4096 they are too big, where nothing waits that a flush could send
limit_is_passed : WroteBy ScriptSends (sending_link nothing 4096 (Some 4096)) (array_message 4088) [] (Err fault.TooBig)
    (sending_link nothing 4096 (Some 4096))
unfolding word piece
limit_is_passed = inr (
  sending_link nothing 4096 (Some 4096),
  (growth_at_the_limit, refl),
  (sending_link nothing 4096 (Some 4096), Ok tt, (refl, (refl, refl, refl), refl), (refl, refl)),
)

abbrev sync_message : WireMessage
sync_message = record { sender = 1; opcode = 0; args = arg.NewId 2 ∷ [] }

-- where bytes wait that leave too little room, a flush sends them first
flush_makes_room : WroteBy ScriptSends (sending_link (queue (replicate 4090 1) []) 4096 (Some 4096)) sync_message
    (sending (queue (replicate 4090 1) []) (Ok 4090) ∷ []) (Ok tt)
    (link_over (recording [] (queue (replicate 4090 1) [] ∷ [])) nothing (queue sync []) 4096 (Some 4096))
unfolding word piece
flush_makes_room = inr (
  sending_link (queue (replicate 4090 1) []) 4096 (Some 4096),
  (growth_at_the_limit, refl),
  (
    link_over (recording [] (queue (replicate 4090 1) [] ∷ [])) nothing nothing 4096 (Some 4096),
    Ok tt,
    ((recording [] (queue (replicate 4090 1) [] ∷ []), inl (refl, refl), refl), (some_bytes _ 4090 refl (lit< tt), refl, (refl, refl, refl)), refl),
    inl (refl, refl),
  ),
)

-- a flush that would block counts as one that was done, and no other fault does
ignored_faults : (ignoring (Err fault.WouldBlock) ≡ Ok tt) × (ignoring (Err fault.Pipe) ≡ Err fault.Pipe)
ignored_faults = (refl, refl)

-- ---- a fill

-- how far the incoming storage may grow
incoming_limits : (incoming_limit None ≡ 65536) × (incoming_limit (Some 8192) ≡ 8192) × (incoming_limit (Some (2 ^ 64 - 1)) ≡ 65536)
incoming_limits = (refl, refl, refl)

abbrev receiving_link : List (Result Queue IoFault) → Queue → LinkState Script
receiving_link arrivals incoming = link_over (scripted arrivals []) incoming nothing 4096 None

abbrev limited_link : List (Result Queue IoFault) → Queue → LinkState Script
limited_link arrivals incoming = link_over (scripted arrivals []) incoming nothing 4096 (Some 4096)

-- what came stands behind what waits
chunk_is_appended : FilledBy ScriptReceives (receiving_link (Ok chunk ∷ []) (queue (7 ∷ []) (token 6 ∷ []))) (Ok chunk) (Ok tt)
    (receiving_link [] (queue (7 ∷ 1 ∷ 2 ∷ 3 ∷ []) (token 6 ∷ token 8 ∷ token 9 ∷ [])))
chunk_is_appended = (inl (lit≤ tt, refl, refl), refl, refl)

-- no bytes are the end of the stream, and the tokens that came with none wait
tokens_without_bytes : FilledBy ScriptReceives (receiving_link (Ok (queue [] (token 8 ∷ [])) ∷ []) nothing) (Ok (queue [] (token 8 ∷ []))) (Err fault.Pipe)
    (receiving_link [] (queue [] (token 8 ∷ [])))
tokens_without_bytes = (inl (lit≤ tt, refl, refl), refl, refl)

-- so it is where the storage is full and may not grow, whatever would come
full_storage : FilledBy ScriptReceives (limited_link (Ok chunk ∷ []) (queue (replicate 4096 1) [])) (Ok nothing) (Err fault.Pipe)
    (limited_link (Ok chunk ∷ []) (queue (replicate 4096 1) []))
full_storage = (inl (lit≤ tt, refl, refl), refl, refl)

-- where it may, it is doubled, and the chunk comes
grown_storage : FilledBy ScriptReceives (receiving_link (Ok chunk ∷ []) (queue (replicate 4096 1) [])) (Ok chunk) (Ok tt)
    (with_incoming_capacity (receiving_link [] (queue (replicate 4096 1 ++ 1 ∷ 2 ∷ 3 ∷ []) chunk.tokens)) 8192)
grown_storage = (inl (lit≤ tt, refl, refl), refl, refl)

-- a storage of 65536 bytes is not doubled
greatest_storage : grown_capacity (with_incoming_capacity (receiving_link [] (queue (replicate 65536 1) [])) 65536) ≡ 65536
greatest_storage = refl

-- a storage that is larger than a limit that was lowered stays
lowered_limit : grown_capacity (with_incoming_capacity (limited_link [] (queue (replicate 8192 1) [])) 8192) ≡ 8192
lowered_limit = refl

-- a fault is answered, and changes nothing that waits
fault_of_a_fill : FilledBy ScriptReceives (receiving_link [] (queue (7 ∷ []) [])) (Err fault.WouldBlock) (Err fault.WouldBlock) (receiving_link [] (queue (7 ∷ []) []))
fault_of_a_fill = (inl (tt, refl, refl), refl, refl)

-- ---- a read

abbrev signature_of : ℕ → ℕ → Option (List ArgumentType)
signature_of sender zero = Some (kind.NewId ∷ [])
signature_of sender (suc opcode) = None

abbrev ReadsOne : LinkState Script → Result WireMessage MessageParseError → LinkState Script → Type 0
ReadsOne = ReadOne (λ sender opcode found. found ≡ signature_of sender opcode)

-- less than a header lacks data, whatever the look-up has
part_of_a_header : ReadsOne (receiving_link [] (queue (1 ∷ 0 ∷ 0 ∷ 0 ∷ 9 ∷ 0 ∷ 12 ∷ []) [])) (Err errors.MissingData)
    (receiving_link [] (queue (1 ∷ 0 ∷ 0 ∷ 0 ∷ 9 ∷ 0 ∷ 12 ∷ []) []))
part_of_a_header = (refl, refl)

-- without a signature it is malformed, before the length is looked at
no_signature : ReadsOne (receiving_link [] (queue (1 ∷ 0 ∷ 0 ∷ 0 ∷ 9 ∷ 0 ∷ 12 ∷ 0 ∷ []) [])) (Err errors.Malformed)
    (receiving_link [] (queue (1 ∷ 0 ∷ 0 ∷ 0 ∷ 9 ∷ 0 ∷ 12 ∷ 0 ∷ []) []))
unfolding sender_of second_word
no_signature = (None, refl, (refl, refl))

-- a message is taken, and what follows it stays
sync_is_read : ReadsOne (receiving_link [] (queue (sync ++ 1 ∷ 0 ∷ []) [])) (Ok sync_message)
    (receiving_link [] (queue (1 ∷ 0 ∷ []) []))
unfolding sender_of second_word word_at argument_at arguments_at
sync_is_read = (
  Some (kind.NewId ∷ []),
  refl,
  (
    record {
      whole = record { header = lit≤ tt; counts_header = lit≤ tt; there = lit≤ tt };
      sender = refl;
      opcode = refl;
      args = (arguments_read (kind.NewId ∷ []) (2 ∷ 0 ∷ 0 ∷ 0 ∷ []) [] (arg.NewId 2 ∷ []) [] refl).0;
    },
    refl,
  ),
)

-- ---- objects by number

-- an object of which a session keeps its serial
abbrev object : ℕ → Object ℕ
object serial = record { interface = record { 0 = 3 }; version = 1; value = serial }

-- changes, of which the last stands first: the object of this serial is put at the number, or that of the number is removed
abbrev Edits : Type 0
Edits = List (ℕ × Option ℕ)

abbrev store_after : Edits → Store ℕ
store_after [] = empty_store
store_after ((n, Some serial) ∷ edits) = stored (store_after edits) n (object serial)
store_after ((n, None) ∷ edits) = removed (store_after edits) n

abbrev found : Edits → ℕ → Option (Object ℕ)
found [] m = None
found ((n, Some serial) ∷ edits) m = cond (eqb m n) (Some (object serial)) (found edits m)
found ((n, None) ∷ edits) m = cond (eqb m n) None (found edits m)

holds : (edits : Edits) (m : ℕ) → held (store_after edits) m ≡ found edits m
holds [] m = held_empty m
holds ((n, Some serial) ∷ edits) m =
    held_stored (store_after edits) n (object serial) m ∙ ap (λ o. cond (eqb m n) (Some (object serial)) o) (holds edits m)
holds ((n, None) ∷ edits) m = held_removed (store_after edits) n m ∙ ap (λ o. cond (eqb m n) None o) (holds edits m)

abbrev IsFree : Edits → ℕ → Bool → Type 0
IsFree edits n answer = is_free (store_after edits) n ≡ answer

free_as : (edits : Edits) (n : ℕ) {answer : Bool}
    → not (is_some (found edits n)) && (nat_lt 0 n && nat_le n (first_unused (store_after edits) n)) ≡ answer → IsFree edits n answer
free_as edits n e = ap (λ o. not (is_some o) && (nat_lt 0 n && nat_le n (first_unused (store_after edits) n))) (holds edits n) ∙ e

abbrev three : Edits
three = (3, Some 13) ∷ (2, Some 12) ∷ (1, Some 11) ∷ []

abbrev without_2 : Edits
without_2 = (2, None) ∷ three

abbrev with_another_2 : Edits
with_another_2 = (2, Some 14) ∷ without_2

-- the first new object gets 1
first_number : NextNew client_range (store_after []) (Some 1)
first_number = record { within = lit≤ tt; below = lit< tt; absent = holds [] 1; least = λ k le lt. absurd (omega arith) }

-- that of a server 0xFF000000, whatever numbers of the client's range are in use
first_number_of_the_server : NextNew server_range (store_after three) (Some 0xFF000000)
first_number_of_the_server = record { within = lit≤ tt; below = lit< tt; absent = holds three 0xFF000000; least = λ k le lt. absurd (omega arith) }

each_of_three : (k : ℕ) → 1 ≤ k → k < 4 → is_some (held (store_after three) k) ≡ true
each_of_three zero le lt = absurd (omega arith)
each_of_three (suc zero) le lt = ap is_some (holds three 1)
each_of_three (suc (suc zero)) le lt = ap is_some (holds three 2)
each_of_three (suc (suc (suc zero))) le lt = ap is_some (holds three 3)
each_of_three (suc (suc (suc (suc k)))) le lt = absurd (omega arith)

-- behind 1, 2 and 3 the least number without an object is 4
least_behind_three : NextNew client_range (store_after three) (Some 4)
least_behind_three = record { within = lit≤ tt; below = lit< tt; absent = holds three 4; least = each_of_three }

-- once the object of 2 is removed it is 2
least_after_removal : NextNew client_range (store_after without_2) (Some 2)
least_after_removal = record { within = lit≤ tt; below = lit< tt; absent = holds without_2 2; least = each_held }
  where
    each_held : (k : ℕ) → 1 ≤ k → k < 2 → is_some (held (store_after without_2) k) ≡ true
    each_held zero le lt = absurd (omega arith)
    each_held (suc zero) le lt = ap is_some (holds without_2 1)
    each_held (suc (suc k)) le lt = absurd (omega arith)

-- a range of which each number holds an object is full: a new object is refused, and nothing is changed
full_range : InsertsNew (record { first = 1; end = 4 }) (store_after three) (object 14) (Err new.IdsExhausted) (store_after three)
full_range = (record { each = each_of_three }, refl)

-- the first unused number is free, and no number above it
first_unused_number : IsFree three 4 true × IsFree three 5 false
first_unused_number = (free_as three 4 refl, free_as three 5 refl)

-- each range has one of its own
first_unused_number_of_the_server : IsFree three 0xFF000000 true × IsFree three 0xFF000001 false
first_unused_number_of_the_server = (free_as three 0xFF000000 refl, free_as three 0xFF000001 refl)

-- 0 is never free, and no number that holds an object
numbers_not_free : IsFree three 0 false × IsFree three 3 false
numbers_not_free = (free_as three 0 refl, free_as three 3 refl)

-- the number of an object that was removed is free, and the first unused one stays
number_of_the_removed : IsFree without_2 2 true × IsFree without_2 4 true × IsFree without_2 5 false
number_of_the_removed = (free_as without_2 2 refl, free_as without_2 4 refl, free_as without_2 5 refl)

-- so an object is put there
put_where_free : InsertsAt (store_after without_2) 2 (object 14) (Ok tt) (store_after with_another_2)
put_where_free = (free_as without_2 2 refl, refl)

-- and no second one
not_put_where_held : InsertsAt (store_after with_another_2) 2 (object 15) (Err insert.NotFree) (store_after with_another_2)
not_put_where_held = (free_as with_another_2 2 refl, refl)

-- ---- what an id names

abbrev Names : Edits → ℕ → ℕ → Option (Object ℕ) → Type 0
Names edits number serial answer = names (λ serial. serial) (record { number = number; serial = serial }) (store_after edits) ≡ answer

names_as : (edits : Edits) (number serial : ℕ) {answer : Option (Object ℕ)}
    → (if number == 0 then None else named_in (λ serial. serial) (record { number = number; serial = serial }) (found edits number)) ≡ answer
    → Names edits number serial answer
names_as edits number serial e =
    ap (λ o. if number == 0 then None else named_in (λ serial. serial) (record { number = number; serial = serial }) o) (holds edits number) ∙ e

-- an id names the object of its number that has its serial
id_that_names : Names three 2 12 (Some (object 12))
id_that_names = names_as three 2 12 refl

-- none of another serial, none at a number without an object, and none at 0
ids_that_name_none : Names three 2 11 None × Names three 4 12 None × Names three 0 12 None
ids_that_name_none = (names_as three 2 11 refl, names_as three 4 12 refl, names_as three 0 12 refl)

-- once its object is removed it names none, also where another has the number
id_that_names_no_more : Names without_2 2 12 None × Names with_another_2 2 12 None × Names with_another_2 2 14 (Some (object 14))
id_that_names_no_more = (names_as without_2 2 12 refl, names_as with_another_2 2 12 refl, names_as with_another_2 2 14 refl)

-- ---- the search for a number

-- no word is read where no number was in use
no_words : WordsRead client_range (store_after []) 0
no_words = record { none = λ e. refl; full = λ lt. absurd (omega arith); some = λ n le lt. absurd (omega arith) }

-- one word shows 64 places
height_of_64 : IsHeight 64 1
height_of_64 = record { none = λ e. absurd (omega arith); some = λ lt. lit< tt; enough = λ lt. lit≤ tt; wanted = λ lt. absurd (omega arith) }

-- two levels show 65 to 4096
height_of_65 : IsHeight 65 2
height_of_65 = record { none = λ e. absurd (omega arith); some = λ lt. lit< tt; enough = λ lt. lit≤ tt; wanted = λ lt. lit< tt }

height_of_4096 : IsHeight 4096 2
height_of_4096 = record { none = λ e. absurd (omega arith); some = λ lt. lit< tt; enough = λ lt. lit≤ tt; wanted = λ lt. lit< tt }

-- three show one more
height_of_4097 : IsHeight 4097 3
height_of_4097 = record { none = λ e. absurd (omega arith); some = λ lt. lit< tt; enough = λ lt. lit≤ tt; wanted = λ lt. lit< tt }

-- six show the client's range, and four the server's
height_of_the_ranges : IsHeight (client_range.end - client_range.first) 6 × IsHeight (server_range.end - server_range.first) 4
height_of_the_ranges = (
  record { none = λ e. absurd (omega arith); some = λ lt. lit< tt; enough = λ lt. lit≤ tt; wanted = λ lt. lit< tt },
  record { none = λ e. absurd (omega arith); some = λ lt. lit< tt; enough = λ lt. lit≤ tt; wanted = λ lt. lit< tt },
)

-- Of 200 places 2, 69 and 130 are free: words 0, 1 and 2. The lowest bit of the word above leads to word 0, and its
-- lowest bit to place 2.
place_2 : (lowest_bit 0 7 ≡ Some 0) × (lowest_bit 0 4 ≡ Some 2)
unfolding count_trailing_zeros
place_2 = (refl, refl)

-- once 2 is taken, word 0 is 0, and the search comes to word 1 and place 69
place_69 : (lowest_bit 0 6 ≡ Some 1) × (lowest_bit 1 32 ≡ Some 69)
unfolding count_trailing_zeros
place_69 = (refl, refl)

-- then to word 2 and place 130
place_130 : (lowest_bit 0 4 ≡ Some 2) × (lowest_bit 2 4 ≡ Some 130)
unfolding count_trailing_zeros
place_130 = (refl, refl)

-- and then to none: the word above is 0
no_place : lowest_bit 0 0 ≡ None
no_place = refl

-- a search reads one word on each level, and where no place is free the highest alone
words_of_a_search : (reads_of (Some 2) ((4 ∷ 32 ∷ 4 ∷ 0 ∷ []) ∷ (7 ∷ []) ∷ []) ≡ 2)
    × (reads_of None ((0 ∷ 0 ∷ 0 ∷ 0 ∷ []) ∷ (0 ∷ []) ∷ []) ≡ 1)
words_of_a_search = (refl, refl)
