-- `pack` keeps the pointer, and owns what the parts owned.
use Rattle.wl_c.proofs.Steps.{◌≡◌, [], ◌∷◌, refl, proved, leaves, Some, emp, ftrue, fact, fact_i, ‵, raw, ◌⊛◌, ◌$◌, ◌∵◌, !, qed, by, keep, drop, use0, split, fsplit, fjoin, enter, of_opd, fld, stop, and_then, no_more, returns, alloc_all, pass_all, free_all, look_at, get, get_in, sets, agg, sub, whole, yes, RattleType, owns, plain, types_at, nothing, walk_of, Stays, stay_dropped, Goes-dropped}
use Rattle.wl_c.proofs.Machine.{ptr_fits, Alone, alone, alone_fits, alone_made, Parted, pair, pair_fits, pair_told}
use Rattle.wl_host_relay.specs.contracts.relay.Relay as relay
use Rattle.wl_c.specs.contracts.relay.kept.RelayKept as kept
use Rattle.wl_c.specs.contracts.relay.kept.RelayKept.pack as f
use Rattle.wl_c.proofs.relay.kept.RelayKept.pack.Statement.{statement}
use Rattle.wl_c.proofs.relay.kept.RelayKept.pack.Code as code

abbrev R : RattleType
R = relay.the_row

abbrev stayed : Stays f.ended.signature.params f.ended.kept
stayed = (stay_dropped (plain (λ _. Parted R)) yes, tt)

pub pack_spec : {M : Type 1} → statement M
pack_spec 𝓤 𝓛 𝓜 𝓡 wired =
    let c = f.clauses 𝓛 𝓜.mem 𝓡.returns in let name = kept.the_type.name in
    proved 𝓛 f.ended stayed c 𝓜 𝓡 (Goes-dropped 𝓛 0 (plain (λ _. Parted R)) yes (λ κs x w. refl), tt)
    f.Key.name code.function (code.unfolded 𝓤 𝓛.H 𝓜 𝓡 wired)
    (λ κs. ((λ d. pair R d.at ∷ []), tt)) (λ κs. ((λ d vs is. pair_told R d vs is.0), tt)) (λ κs qs bounds a ghosts are.
    let d = a.0 in let p = d.at in
    let z : (walk_of 𝓛 f.ended stayed c).Ghost = ((κs, qs, bounds, a, (pair R p ∷ [], tt)), ghosts) in
    let made : kept.the_row.Denot = record { at = p; held = Some d.value } in
    qed 𝓛 ((‵ ftrue ⊛ ‵ (owns (types_at f.signature.params κs) a z.0.4)) ∷ ‵ ftrue ∷ []) ∵
    split ! $ drop ! $ fsplit ! $ fsplit ! $ keep ! (1 ∷ []) $
    -- [what the box owned]
    enter ! _ _ _ _ _ $ alloc_all ! (λ l. pass_all ! refl (pair_fits R p, tt) $
    sets ! (of_opd ! (get_in ! (fld ! refl (stop !)) (sub ! 0 refl (whole !)))) refl (ptr_fits p) $
    sets ! (of_opd ! (get ! refl)) refl (ptr_fits p) $
    sets ! (agg ! (and_then ! (get ! refl) (no_more !))) refl (alone_fits name p) $
    returns ! (look_at ! 0 refl) $ free_all ! refl $
    use0 𝓛 (‵ ((Alone name).own_val (p, tt) (alone name p ∷ []))) (alone_made name 𝓛 p) $ fjoin ! $
    use0 𝓛 (raw (fact 𝓤 (made.held ≡ Some d.value))) (fact_i 𝓤 (made.held ≡ Some d.value) (emp 𝓤) refl) $
    nothing ! $ nothing ! $ fjoin ! $ nothing ! $ keep ! (0 ∷ 1 ∷ 3 ∷ 2 ∷ []) $
    by ! (leaves 𝓛 f.ended stayed c z (alone name p) made (tt, tt) (tt, tt))))
