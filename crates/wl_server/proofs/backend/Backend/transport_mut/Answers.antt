use Rattle.std.proofs.Common.{◌≡◌, ◌∙◌, Option, Some, option_map, sym, ap, inl, refl, arith}
use Rattle.std.proofs.Math.Path.{fun_ext}
use Rattle.std.specs.Prelude.{slice_set}
use Rattle.std.specs.Option.{option_map_or}
use Rattle.wl_server_model.proofs.CallSteps.Numbering.{numbered_at, numbers_stay}
use Rattle.wl_server_model.proofs.OverRuns.Alone.AccountLaws.{is_change}
use Rattle.wl_server_model.specs.Backend.{BackendState, IsChange}
use Rattle.wl_server_client.specs.Ids.{ClientParts}
use Rattle.wl_server_client.specs.Lending.{over_transport}
use Rattle.wl_server.specs.Lending.{server_over, state_over}
use Rattle.wl_server_model.specs.NoteOrder.{AllNumbered}
use Rattle.wl_server_model.specs.PartStep.{World, over}
use Rattle.wl_server_model.specs.Server.{ServerState, client_at}
use Rattle.wl_server_client.specs.Stored.{Stored}
use Rattle.wl_server.proofs.CallSteps.OneClient.{changed}
use Rattle.wl_server_model.proofs.CallSteps.Slots.{slot_of_client}
use Rattle.wl_server_model.proofs.CleanupSteps.Taken.{slots_set}
use Rattle.wl_server.proofs.CallSteps.Transport.{leaves_transport}
use Rattle.wl_server.specs.Inside.Touched.{HasSent, IsQuiet}
use Rattle.wl_server.proofs.Touched.Kept.{out_set}
use Rattle.wl_server.proofs.backend.Backend.transport_mut.Goals as goal

-- the transport of a stored client, if there is one
abbrev transport_in : {T U C : Type 0} → Option (Stored T U C) → Option T
transport_in o = option_map (λ p. p.link.transport) (option_map (λ s. s.part) o)

-- what is left in the transport is the server over it
lent_over : {T U G C : Type 0} (b : BackendState T U G C) (id : ClientParts) (s : Stored T U C) (t : T) → Some s ≡ client_at id b.server.clients
    → record b { server = record b.server { clients = slice_set b.server.clients id.slot (Some (over_transport s t)) } } ≡ state_over b id t
lent_over b id s t is = grind (arith, slice_set, option_map, over_transport, option_map_or, slot_of_client)

lent_step : {T U G C : Type 0} (w : World T G C) (before : ServerState T U G C) (id : ClientParts) (s : Stored T U C) (t : T)
    → Some s ≡ client_at id before.clients
    → AllNumbered before.clients → IsChange w before id t (server_over before id t)
lent_step w before id s t is all =
    let has = slot_of_client before.clients id s is in
    is_change w before id t (server_over before id t) (changed w before id t s has.0 has.1 all)

pub returns-in_default : goal.returns-in_default
returns-in_default g c = grind (arith, transport_in)

pub returns : goal.returns
returns g c = (
  ap (λ f. inl (c.transport_mut.result.ghost_name, f))
      (fun_ext (λ w. rw (← c.self.view_is) (lent_over _ c.args.id.now c.in-Some.client.now w c.in-Some.ensures.value))),
  record {
    call = λ t. rw (← c.self.view_is) (lent_step _ _ c.args.id.now c.in-Some.client.now t c.in-Some.ensures.value c.self.invariant.2);
    plain = λ t. rw (← c.self.view_is) (leaves_transport (over g.T.Transport.sends g.T.Transport.receives g.G.GlobalHandler.views) _ c.args.id.now t
        (lent_step _ _ c.args.id.now c.in-Some.client.now t c.in-Some.ensures.value c.self.invariant.2)
        c.in-Some.client.now c.in-Some.ensures.value);
    lends = tt;
    value = rw (← c.self.view_is) (ap transport_in (sym c.in-Some.ensures.value) ∙ ap Some (sym c.transport_mut.ensures.value));
  },
)

pub invariant_of-self-lent : goal.invariant_of-self-lent
invariant_of-self-lent g c = λ w.
    let here = (slot_of_client c.self.inside.clients.items c.args.id.now c.in-Some.client.now c.in-Some.ensures.value).0 in (
      slots_set _ _ _ _ _ c.self.invariant.0,
      numbers_stay _ _ _ _ _ c.in-Some.ensures.value refl c.self.invariant.1,
      numbered_at _ _ _ _ c.in-Some.ensures.value (λ is. is) c.self.invariant.2,
      record {
        sent = out_set HasSent _ _ _ _ _ here (λ sent. sent) c.self.invariant.3.sent;
        quiet = out_set IsQuiet _ _ _ _ _ here (λ calm. record { live = calm.live; made = calm.made; waiting = calm.waiting; times = calm.times })
            c.self.invariant.3.quiet;
      },
    )
