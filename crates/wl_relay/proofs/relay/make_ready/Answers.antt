-- That what is ready after a flush into an empty mailbox is what leaves with one send, and that nothing was to be sent if nothing is.
use Rattle.std.proofs.Common.{Err, [], rules, ◌≡◌, ◌≢◌, ◌<◌, length}
use Rattle.wl_wire.specs.declared.error.IoFault.TheVariants as fault
use Rattle.std.proofs.lemmas.List.{nil_from_length}
use Rattle.wl_relay.proofs.Flows.{flush_had_bytes, flushed_gives_nothing, nothing_changed, nothing_to_send, ready_had_bytes}
use Rattle.wl_relay.proofs.OneSend.{leaves_whole}
use Rattle.wl_relay.proofs.Settings.{flush_settings}
use Rattle.wl_relay.proofs.relay.make_ready.Goals as goal

pub returns-then-eq-clause-kept : goal.returns-then-eq-clause-kept
returns-then-eq-clause-kept c = flushed_gives_nothing c.args.link.now c.flush-flushed.new.self c.flush-flushed.result c.flush-flushed.ensures.flushed

pub returns-then-eq-clause-memory : goal.returns-then-eq-clause-memory
returns-then-eq-clause-memory c =
    flush_had_bytes c.args.link.now c.flush-flushed.new.self c.flush-flushed.result c.flush-flushed.ensures.flushed (search rules)

pub returns-then-eq-clause-settings : goal.returns-then-eq-clause-settings
returns-then-eq-clause-settings c = flush_settings c.args.link.now c.flush-flushed.new.self c.flush-flushed.result c.flush-flushed.ensures.flushed

pub returns-in-Ok-clause-kept : goal.returns-in-Ok-clause-kept
returns-in-Ok-clause-kept c = flushed_gives_nothing c.args.link.now c.flush-flushed.new.self c.flush-flushed.result c.flush-flushed.ensures.flushed

pub returns-in-Ok-clause-none : goal.returns-in-Ok-clause-none
returns-in-Ok-clause-none c none =
    let len : length c.flush-flushed.new.self.transport.waiting.bytes ≡ 0 = search rules in
    nothing_changed c.args.link.now c.flush-flushed.new.self c.flush-flushed.result c.flush-flushed.ensures.flushed c.in-Ok.is (nil_from_length _ len)

pub returns-in-Ok-clause-some : goal.returns-in-Ok-clause-some
returns-in-Ok-clause-some c empty =
    nothing_to_send c.args.link.now c.flush-flushed.new.self c.flush-flushed.result c.flush-flushed.ensures.flushed c.in-Ok.is empty

pub returns-in-Ok-clause-whole : goal.returns-in-Ok-clause-whole
returns-in-Ok-clause-whole c empty some =
    let len : length c.flush-flushed.new.self.transport.waiting.bytes ≡ 0 = search rules in
    absurd
    (some (nothing_to_send c.args.link.now c.flush-flushed.new.self c.flush-flushed.result c.flush-flushed.ensures.flushed c.in-Ok.is (nil_from_length _ len)))

pub returns-in-Ok-clause-settings : goal.returns-in-Ok-clause-settings
returns-in-Ok-clause-settings c = flush_settings c.args.link.now c.flush-flushed.new.self c.flush-flushed.result c.flush-flushed.ensures.flushed

pub returns-in-Err-clause-kept : goal.returns-in-Err-clause-kept
returns-in-Err-clause-kept c = flushed_gives_nothing c.args.link.now c.flush-flushed.new.self c.flush-flushed.result c.flush-flushed.ensures.flushed

pub returns-in-Err-clause-memory : goal.returns-in-Err-clause-memory
returns-in-Err-clause-memory c =
    flush_had_bytes c.args.link.now c.flush-flushed.new.self c.flush-flushed.result c.flush-flushed.ensures.flushed (search rules)

pub returns-in-Err-clause-settings : goal.returns-in-Err-clause-settings
returns-in-Err-clause-settings c = flush_settings c.args.link.now c.flush-flushed.new.self c.flush-flushed.result c.flush-flushed.ensures.flushed

pub returns-clause-kept : goal.returns-clause-kept
returns-clause-kept c = flushed_gives_nothing c.args.link.now c.flush-flushed.new.self c.flush-flushed.result c.flush-flushed.ensures.flushed

pub returns-clause-none : goal.returns-clause-none
returns-clause-none c none =
    let some : 0 < length c.flush-flushed.new.self.transport.waiting.bytes = search rules in
    absurd (ready_had_bytes c.args.link.now c.flush-flushed.new.self c.flush-flushed.result c.flush-flushed.ensures.flushed some none)

pub returns-clause-whole : goal.returns-clause-whole
returns-clause-whole c empty some_before =
    let after = c.flush-flushed.new.self in
    let some : 0 < length after.transport.waiting.bytes = search rules in
    let small : length after.transport.waiting.bytes < 18446744073709551615 = search rules in
    let spared : c.flush-flushed.result ≢ Err fault.OutOfMemory = search rules in
    leaves_whole c.args.link.now after c.flush-flushed.result c.requires.is_open c.flush-flushed.ensures.flushed spared some small empty

pub returns-clause-settings : goal.returns-clause-settings
returns-clause-settings c = flush_settings c.args.link.now c.flush-flushed.new.self c.flush-flushed.result c.flush-flushed.ensures.flushed
