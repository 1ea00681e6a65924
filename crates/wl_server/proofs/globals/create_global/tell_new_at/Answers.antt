use Rattle.std.proofs.Common.{◌∙◌, ap, refl, sym}
use Rattle.wl_server_client.specs.Globals.{Shown}
use Rattle.wl_server_client.specs.Inside.News.{HearsNew}
use Rattle.wl_server_client.specs.Stored.{Stored, no_times}
use Rattle.wl_server_model.proofs.CallSteps.Feeling.{place_felt}
use Rattle.wl_server_client.proofs.Readings.Notes.{killed_hears, seen_hears, unseen_hears}
use Rattle.wl_server.proofs.globals.create_global.tell_new_at.Goals as goal

pub returns-then-not-can_view-clause-felt : goal.returns-then-not-can_view-clause-felt
returns-then-not-can_view-clause-felt g c =
    let table = c.args.announcement.now.table in
    let told : Shown = record { name = c.args.id.now.name; interface = c.args.global.now.interface; version = c.args.global.now.version } in
    place_felt (HearsNew g.T.Transport.sends g.G.GlobalHandler.views table c.args.id.now c.args.global.now) c.args.slot _ c.from_parts-client_id.result c.in-Some.client
    c.in-Some.client c.args.client.now _ c.in-Some.is c.from_parts-client_id.ensures (ap (λ (s : Stored _ _ _). s.serial) c.client.view_is)
    (rw (← c.client.view_is) (unseen_hears g.T.Transport.sends table _ told
    (record { serial = _; part = _; made = _; times = no_times }) c.if-not-client.true (sym c.can_view.ensures ∙ c.if-not-can_view.true)))

pub returns-else-not-can_view-clause-felt : goal.returns-else-not-can_view-clause-felt
returns-else-not-can_view-clause-felt g c =
    let table = c.args.announcement.now.table in
    let told : Shown = record { name = c.args.id.now.name; interface = c.args.global.now.interface; version = c.args.global.now.version } in
    place_felt (HearsNew g.T.Transport.sends g.G.GlobalHandler.views table c.args.id.now c.args.global.now) c.args.slot _
    c.from_parts-client_id.result c.in-Some.client c.kill_unless_written.new.self c.args.client.now c.kill_unless_written.result c.in-Some.is
    c.from_parts-client_id.ensures (ap (λ (s : Stored _ _ _). s.serial) c.client.view_is)
    (rw (← c.client.view_is) (seen_hears g.T.Transport.sends table _ told _ _ _ _ _ c.if-not-client.true (sym c.can_view.ensures
    ∙ c.if-not-can_view.false) (rw c.requires at (rw c.deref.ensures.value at c.tell-answer.ensures.puts)) c.kill_unless_written.ensures.refused
    c.kill_unless_written.ensures.closed))

pub returns-in_default-clause-felt : goal.returns-in_default-clause-felt
returns-in_default-clause-felt g c = rw c.in-Some.is
    (c.in-Some.client, rw (← c.client.view_is) (killed_hears _ (record { serial = _; part = _; made = _; times = no_times }) _ c.if-not-client.false), refl)
