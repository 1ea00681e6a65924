use Rattle.std.proofs.Common.{◌≡◌, ◌≢◌, ◌↔◌, ◌+◌, ◌<◌, ◌≤◌, ◌++◌, [], Err, length, drop, IfOk, OnOk, vec_len, vec_capacity, subst}
use Rattle.wl_wire.specs.declared.error.MessageWriteError.TheVariants.{TooLong, BufferTooSmall, OutOfMemory}
use Rattle.wl_wire.specs.Message.{WireMessage, IsMessage, size, spelling, tokens}
use Rattle.wl_wire.proofs.Pieces.{own_numbers}
use Rattle.wl_wire.proofs.write.write_to_buffers.Goals as goal

pub returns-clause-written : goal.returns-clause-written
returns-clause-written c =
    subst (λ (m : WireMessage). IfOk c.write_numbered.result (λ n. (n ≡ size m) × (c.write_numbered.new.payload ≡ spelling m ++ drop n c.args.payload.now))) (own_numbers c.args.message.now) c.write_numbered.ensures.written

pub returns-clause-tokens : goal.returns-clause-tokens
returns-clause-tokens c =
    subst (λ (m : WireMessage). OnOk c.write_numbered.result (c.write_numbered.new.fds.items ≡ c.args.fds.now.items ++ tokens m.args)) (own_numbers c.args.message.now) c.write_numbered.ensures.tokens

pub returns-clause-message : goal.returns-clause-message
returns-clause-message c =
    subst (λ (m : WireMessage). OnOk c.write_numbered.result (IsMessage m)) (own_numbers c.args.message.now) c.write_numbered.ensures.message

pub returns-clause-too_long : goal.returns-clause-too_long
returns-clause-too_long c =
    subst (λ (m : WireMessage). (c.write_numbered.result ≡ Err TooLong) ↔ (65535 < size m)) (own_numbers c.args.message.now) c.write_numbered.ensures.too_long

pub returns-clause-too_small : goal.returns-clause-too_small
returns-clause-too_small c =
    subst (λ (m : WireMessage). (c.write_numbered.result ≡ Err BufferTooSmall) ↔ ((size m ≤ 65535) × (length c.args.payload.now < size m))) (own_numbers c.args.message.now) c.write_numbered.ensures.too_small

pub returns-clause-memory : goal.returns-clause-memory
returns-clause-memory c =
    subst (λ (m : WireMessage). (c.write_numbered.result ≡ Err OutOfMemory) → (vec_capacity c.args.fds.now < vec_len c.args.fds.now + length (tokens m.args))) (own_numbers c.args.message.now) c.write_numbered.ensures.memory

pub returns-clause-no_tokens : goal.returns-clause-no_tokens
returns-clause-no_tokens c =
    subst (λ (m : WireMessage). tokens m.args ≡ [] → c.write_numbered.result ≢ Err OutOfMemory) (own_numbers c.args.message.now) c.write_numbered.ensures.no_tokens

pub returns-clause-room : goal.returns-clause-room
returns-clause-room c =
    subst (λ (m : WireMessage). vec_len c.args.fds.now + length (tokens m.args) ≤ vec_capacity c.args.fds.now → vec_capacity c.write_numbered.new.fds ≡ vec_capacity c.args.fds.now) (own_numbers c.args.message.now) c.write_numbered.ensures.room
