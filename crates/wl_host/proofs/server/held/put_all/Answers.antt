use Rattle.std.proofs.Common.{◌≡◌, ◌∙◌, ◌++◌, ◌∷◌, ℕ, List, Option, [], ap, append-nil, append_assoc, arith, length, length-append, map, min, refl, rules, sym}
use Rattle.std.proofs.lemmas.List.{length-map, map-append}
use Rattle.std.specs.Prelude.{option_copied}
use Rattle.wl_server_client.specs.Ids.{IdParts}
use Rattle.wl_host.proofs.Filling.{count-next, filled-next, filled_none}
use Rattle.wl_host.specs.Held.{flat_held}
use Rattle.wl_host.specs.Lists.{filled}
use Rattle.wl_host.proofs.server.held.put_all.Goals as goal
use Rattle.wl_host.proofs.server.held.put_all.Goals.{In_default}

pub loop-id-init : goal.loop-id-init
loop-id-init c = ([], refl, filled_none _, refl)

pub loop-id-preserved : goal.loop-id-preserved
loop-id-preserved c =
    let inv = c.loop-id.invariant in
    let first : IdParts × Option ℕ = (c.in-Some.id, option_copied c.in-Some.user_data) in
    let put : c.held.result ≡ flat_held first = search rules in (
      inv.0 ++ first ∷ [],
      inv.1 ∙ (ap (λ rest. inv.0 ++ rest) c.in-Some.ensures.steps ∙ sym (append_assoc inv.0 (first ∷ []) c.next.new.self)),
      rw (c.put_next.ensures.list, inv.2, put, map-append)
          (filled-next (map flat_held inv.0) c.args.objects.now c.loop-id.found (flat_held first) (rw (inv.3, length-map) refl) (omega arith)),
      rw (c.put_next.ensures.found, inv.3, length-append) (count-next (length inv.0)),
    )

-- all were taken
whole : (c : In_default) → c.args.all ≡ c.loop-id.invariant.0
whole c =
    let inv = c.loop-id.invariant in
    inv.1 ∙ (ap (λ rest. inv.0 ++ rest) c.in_default.ensures.steps.0 ∙ append-nil inv.0)

pub returns-clause-found : goal.returns-clause-found
returns-clause-found c = c.loop-id.invariant.3 ∙ ap (λ (xs : List (IdParts × Option ℕ)). min (length xs) 18446744073709551615) (sym (whole c))

pub returns-clause-list : goal.returns-clause-list
returns-clause-list c = c.loop-id.invariant.2 ∙ ap (λ (xs : List (IdParts × Option ℕ)). filled (map flat_held xs) c.args.objects.now) (sym (whole c))
