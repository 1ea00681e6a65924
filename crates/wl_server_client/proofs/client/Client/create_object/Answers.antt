use Rattle.std.proofs.Common.{◌∙◌, ap, not, rules, Err, refl}
use Rattle.std.specs.Prelude.{slice_get}
use Rattle.wl_server_client.specs.Stored.{no_times}
use Rattle.wl_server_client.specs.declared.error.CreateError.TheVariants as create
use Rattle.wl_server_client.proofs.CallSteps.Doing.{does_quietly}
use Rattle.wl_server_client.proofs.ObjectCalls.Creation.{lacks_serial, created, exhausted, no_memory, row_found, Created, unknown}
use Rattle.wl_server_client.proofs.client.Client.create_object.Goals as goal

pub returns-then-is_none-clause-does : goal.returns-then-is_none-clause-does
returns-then-is_none-clause-does g c =
    does_quietly c.args.self.now (Created c.args.protocol.now c.args.id.now c.args.self.now c.args.interface c.args.version c.args.user_data
    (Err create.UnknownInterface)) c.args.self.now.part
    (refl, unknown (slice_get c.args.protocol.now c.args.interface.0) _ _ (row_found _ _ _ _ c.get.ensures.interface c.is_none.ensures ∙ ap not c.if-is_none.true) (refl, refl))

pub returns-in_default-clause-does : goal.returns-in_default-clause-does
returns-in_default-clause-does g c = rw (← c.self.view_is)
    (lacks_serial _ _ (record { serial = _; part = _; made = _; times = no_times }) c.args.interface _ _ (row_found _ _ _ _ c.get.ensures.interface
    c.is_none.ensures ∙ ap not c.if-is_none.false) (search rules) c.in_default.ensures _ c.without_serial.ensures)

pub returns-in-Ok-clause-does : goal.returns-in-Ok-clause-does
returns-in-Ok-clause-does g c = rw (← c.self.view_is, c.from_parts.ensures)
    (created _ _ (record { serial = _; part = _; made = _; times = no_times }) c.args.interface _ _ (row_found _ _ _ _ c.get.ensures.interface
    c.is_none.ensures ∙ ap not c.if-is_none.false) c.in-Some.ensures.0 c.in-Ok.number c.in-Some.serial _ _ c.in-Some.ensures.1
    c.fresh_object-object.ensures c.in-Ok.ensures.inserts)

pub returns-in-Err-IdsExhausted-clause-does : goal.returns-in-Err-IdsExhausted-clause-does
returns-in-Err-IdsExhausted-clause-does g c = rw (← c.self.view_is)
    (exhausted _ _ (record { serial = _; part = _; made = _; times = no_times }) c.args.interface _ _ (row_found _ _ _ _ c.get.ensures.interface
    c.is_none.ensures ∙ ap not c.if-is_none.false) c.in-Some.ensures.0 _ c.fresh_object-object.result _ c.in-Err-IdsExhausted.field-0-is
    c.in-Err-IdsExhausted.ensures.inserts)

pub returns-in-Err-OutOfMemory-clause-does : goal.returns-in-Err-OutOfMemory-clause-does
returns-in-Err-OutOfMemory-clause-does g c = rw (← c.self.view_is)
    (no_memory _ _ (record { serial = _; part = _; made = _; times = no_times }) c.args.interface _ _ (row_found _ _ _ _ c.get.ensures.interface
    c.is_none.ensures ∙ ap not c.if-is_none.false) c.in-Some.ensures.0 _ c.fresh_object-object.result _ c.in-Err-OutOfMemory.field-0-is
    c.in-Err-OutOfMemory.ensures.inserts)
