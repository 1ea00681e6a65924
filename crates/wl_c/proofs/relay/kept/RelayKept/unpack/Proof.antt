-- `unpack` finds the pointer again, and what it owns.
use Rattle.wl_c.proofs.Steps.{◌≡◌, List, [], ◌∷◌, refl, heap_val, heap_Tells, proved, leaves, Option, Some, IsSome, ghosts, Val, emp, ftrue, fact, fact_i, ‵, raw, ◌⊛◌, ◌$◌, ◌∵◌, !, qed, by, move, keep, drop, use0, split, fsplit, fjoin, fpack, feq_i, rewrite, enter, of_opd, fld, stop, and_then, no_more, returns, alloc_all, pass_all, free_all, look_at, get, get_in, sets, agg, sub, whole, RawPtr, yes, RattleType, Valss, owns, Ptr, ptr_val, plain, types_at, nothing, heard, shape, within, walk_of, Stays, stay_dropped, Goes-dropped}
use Rattle.wl_c.proofs.Machine.{inside, is_inside, ptr_fits, alone, alone_fits, alone_told, Parted, pair, pair_fits}
use Rattle.std.specs.contracts.alloc.Global as heap
use Rattle.wl_c.specs.Held.{owns_held}
use Rattle.wl_c.specs.contracts.parts.Parts as parts
use Rattle.wl_host_relay.specs.contracts.relay.Relay as relay
use Rattle.wl_c.specs.contracts.relay.kept.RelayKept as kept
use Rattle.wl_c.specs.contracts.relay.kept.RelayKept.unpack as f
use Rattle.wl_c.proofs.relay.kept.RelayKept.unpack.Statement.{statement}
use Rattle.wl_c.proofs.relay.kept.RelayKept.unpack.Code as code

abbrev R : RattleType
R = relay.the_row

abbrev Heap : RattleType
Heap = heap.the_row

abbrev stayed : Stays f.ended.signature.params f.ended.kept
stayed = (stay_dropped (plain (λ _. kept.the_row)) yes, (stay_dropped (plain (λ _. Heap)) yes, tt))

pub unpack_spec : {M : Type 1} → statement M
unpack_spec 𝓤 𝓛 𝓜 𝓡 wired =
    let c = f.clauses 𝓛 𝓜.mem 𝓡.returns in let name = kept.the_type.name in
    proved 𝓛 f.ended stayed c 𝓜 𝓡 (Goes-dropped 𝓛 0 (plain (λ _. kept.the_row)) yes (λ κs x w. refl), (Goes-dropped 𝓛 0 (plain (λ _. Heap)) yes (λ κs x w. refl), tt))
    f.Key.name code.function (code.unfolded 𝓤 𝓛.H 𝓜 𝓡 wired)
    (λ κs. ((λ k. alone name k.at ∷ []), ((λ h. heap_val ∷ []), tt))) (λ κs. ((λ k vs is. alone_told name k.at vs is.0), (heap_Tells, tt))) (λ κs qs bounds a none are.
    let k = a.0 in let p : Ptr = k.at in let h = a.1.0 in
    let z : (walk_of 𝓛 f.ended stayed c).Ghost = ((κs, qs, bounds, a, (alone name p ∷ [], (heap_val ∷ [], tt))), none) in
    qed 𝓛 ((‵ ftrue ⊛ ‵ (owns (types_at f.signature.params κs) a z.0.4)) ∷ raw (fact 𝓤 (IsSome k.held)) ∷ []) ∵
    move ! (1 ∷ []) $ heard ! (IsSome k.held) (λ is.
    let x : R.Denot = inside k.held is in let made : (Parted R).Denot = record { at = p; handle = h; value = x } in
    split ! $ drop ! $ fsplit ! $ fsplit ! $ keep ! (1 ∷ 2 ∷ []) $ move ! (1 ∷ []) $ fsplit ! $ keep ! (0 ∷ 2 ∷ []) $ move ! (1 ∷ []) $
    rewrite ! 0 (λ (held : Option R.Denot). ‵ (owns_held R p held)) (is_inside k.held is) refl $
    -- [what the box owns; the handle]
    enter ! _ _ _ _ _ $ alloc_all ! (λ l. pass_all ! refl (alone_fits name p, ((tt, (((tt, tt), tt))), tt)) $
    sets ! (of_opd ! (get_in ! (fld ! refl (stop !)) (sub ! 0 refl (whole !)))) refl (ptr_fits p) $
    sets ! (of_opd ! (get ! refl)) refl (ptr_fits p) $
    sets ! (agg ! (and_then ! (get ! refl) (and_then ! (get ! refl) (no_more !)))) refl (pair_fits R p) $
    returns ! (look_at ! 0 refl) $ free_all ! refl $
    nothing ! $ move ! (2 ∷ 0 ∷ []) $ fjoin ! $ feq_i ! (List Val) (ptr_val p ∷ []) (ptr_val p ∷ []) refl $ fjoin ! $
    feq_i ! (List Val) (pair R p ∷ []) (pair R p ∷ []) refl $ fjoin ! $
    fpack ! (Valss (RawPtr ∷ Heap ∷ [])) (within (shape (parts.the_type R Heap ghosts)) (p, (h, tt)) (pair R p ∷ [])) (ptr_val p ∷ [], (heap_val ∷ [], tt)) $ fjoin ! $
    use0 𝓛 (raw (fact 𝓤 (k.held ≡ Some x))) (fact_i 𝓤 (k.held ≡ Some x) (emp 𝓤) (is_inside k.held is)) $
    nothing ! $ nothing ! $ fjoin ! $ nothing ! $ fjoin ! $ nothing ! $ keep ! (0 ∷ 1 ∷ 3 ∷ 2 ∷ []) $
    by ! (leaves 𝓛 f.ended stayed c z (pair R p) made (tt, (tt, tt)) (tt, (tt, tt))))))
