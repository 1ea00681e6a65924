use Rattle.std.proofs.Common.{◌≡◌, ℕ, Some, false, refl}
use Rattle.wl_link.specs.Link.{LimitSet, LinkState}
use Rattle.wl_server_client.specs.Part.{with_link}
use Rattle.wl_server_model.specs.PartStep.{Quietly}
use Rattle.wl_server_client.specs.Ids.{ClientParts}
use Rattle.wl_server_client.specs.Inside.Client.{Does}
use Rattle.wl_server_client.specs.Stored.{Stored, no_times}
use Rattle.wl_server_client.proofs.CallSteps.Doing.{does_quietly}
use Rattle.wl_server.proofs.CallSteps.Kept.{kept_written, with_plain}
use Rattle.wl_server_client.proofs.CallSteps.Numbers.{in_time_none}
use Rattle.wl_server.proofs.CallSteps.OneClient.{done_to, none_stored}
use Rattle.wl_server_model.proofs.CallSteps.Slots.{Kind}
use Rattle.wl_server_model.proofs.Plain.Clients.{sets_limit}
use Rattle.wl_server.proofs.backend.Backend.set_client_max_buffer_size.Goals as goal

abbrev limits : {T U C : Type 0} → ℕ → Kind T U C
limits {T} limit id p lacked did q = Quietly lacked did ((link : LinkState T) × LimitSet p.link (Some limit) link × (q ≡ with_link p link))

limit_set : {T U C : Type 0} (id : ClientParts) (s : Stored T U C) (limit : ℕ) (before link : LinkState T) → s.part.link ≡ before → LimitSet before
    (Some limit) link
    → Does s (λ p did q. limits limit id p false did q) (record { serial = s.serial; part = with_link s.part link; made = s.made; times = no_times })
limit_set id s limit before link is set = does_quietly s (λ p did q. limits limit id p false did q) (with_link s.part link)
    (refl, refl, (link, rw is set, refl))

pub returns-in_default : goal.returns-in_default
returns-in_default g c = with_plain (sets_limit _ _) (rw (← c.self.view_is)
    (none_stored _ _ _ _ refl c.args.client.now _ _ (λ i l d b a h. (refl, h)) _ refl c.in_default.ensures.value tt c.self.invariant.2))

pub returns : goal.returns
returns g c = with_plain (sets_limit _ _) (rw (← c.self.view_is)
    (done_to _ _ _ _ refl c.args.client.now (limits c.args.max_buffer_size) _ (λ i l d b a h. (refl, h)) _ _ _ false refl
    (rw (← c.stored.view_is) at c.in-Some.ensures.value) (limit_set c.args.client.now (record { serial = _; part = _; made = _; times = no_times })
    c.args.max_buffer_size c.stored.inside.socket c.set_max_buffer_size.new.self refl c.set_max_buffer_size.ensures) _ (in_time_none _ _)
    (λ is. is) c.self.invariant.2))

pub invariant_of-self : goal.invariant_of-self
invariant_of-self g c = (c.self.invariant.0, c.self.invariant.1, c.self.invariant.2, c.in_default.ensures.touched c.self.invariant.3)

pub invariant_of-self-2 : goal.invariant_of-self-2
invariant_of-self-2 g c =
    kept_written _ _ _ _ _ _ _ _ _ _ (rw (← c.stored.view_is) at c.in-Some.ensures.value) (in_time_none _ _) (λ is. is) c.in-Some.ensures.touched
    c.self.invariant
