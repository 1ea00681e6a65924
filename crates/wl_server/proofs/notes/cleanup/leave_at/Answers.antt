use Rattle.std.proofs.Common.{◌≡◌, ◌∙◌, true, ◌++◌, length, map, arith, ap, sym}
use Rattle.std.specs.FinMap.{entries}
use Rattle.std.proofs.lemmas.Option.{same_Some}
use Rattle.wl_server_client.specs.Ids.{ClientParts}
use Rattle.wl_server_client.specs.Inside.Leaving.{with_data, ends_of}
use Rattle.wl_server_model.specs.Inside.Leaving.{ends_at}
use Rattle.wl_server_client.specs.Stored.{Stored, note_of}
use Rattle.wl_server_model.proofs.CleanupSteps.Outgoing.{ends_killed, ends_length}
use Rattle.wl_server.proofs.notes.cleanup.leave_at.Goals as goal

pub end_objects-requires : goal.end_objects-requires
end_objects-requires g c =
    let long : length (ends_at c.args.slot c.args.place.now) ≡ length (with_data (entries c.client-in-Some-take.inside.objects.map.store.objects)) =
    ends_length c.args.slot c.args.place.now c.in-Some.client c.in-Some.is
    (ap (λ (s : Stored _ _ _). s.part.is_killed) (sym c.client.view_is) ∙ c.if-not-client.false)
    ∙ (ap (λ (s : Stored _ _ _). length (with_data (entries s.part.store.objects))) (sym (same_Some _ _ (sym c.in-Some-take.is ∙ c.take.ensures.value)))
    ∙ ap (λ (s : Stored _ _ _). length (with_data (entries s.part.store.objects))) (sym c.client-in-Some-take.view_is))
    in
    omega (arith, long, c.requires.notes)

pub returns-in-Some-take-clause-noted : goal.returns-in-Some-take-clause-noted
returns-in-Some-take-clause-noted g c =
    let killed : c.in-Some.client.part.is_killed ≡ true = ap (λ (s : Stored _ _ _). s.part.is_killed) (sym c.client.view_is)
    ∙ c.if-not-client.false in
    let same : c.in-Some-take.client ≡ c.in-Some.client = same_Some _ _ (sym c.in-Some-take.is ∙ c.take.ensures.value) in
    c.end_objects.ensures.noted
    ∙ (ap (λ (i : ClientParts). c.args.notes.now.items ++ map (note_of i) (ends_of i (entries c.client-in-Some-take.inside.objects.map.store.objects))) c.from_parts-id.ensures
    ∙ (ap (λ (s : Stored _ _ _). c.args.notes.now.items ++ map (note_of (record { slot = c.args.slot; serial = s.serial }))
    (ends_of (record { slot = c.args.slot; serial = s.serial }) (entries c.client-in-Some-take.inside.objects.map.store.objects))) c.client.view_is
    ∙ (ap (λ (s : Stored _ _ _). c.args.notes.now.items ++ map (note_of (record { slot = c.args.slot; serial = c.in-Some.client.serial }))
    (ends_of (record { slot = c.args.slot; serial = c.in-Some.client.serial }) (entries s.part.store.objects))) (c.client-in-Some-take.view_is ∙ same)
    ∙ ap (λ l. c.args.notes.now.items ++ l) (sym (ends_killed c.args.slot c.args.place.now c.in-Some.client c.in-Some.is killed)))))
