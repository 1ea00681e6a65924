-- `nothing` makes a pointer to nothing, which owns nothing.
use Rattle.wl_c.proofs.Steps.{◌≡◌, [], ◌∷◌, refl, proved, leaves, None, emp, fact, fact_i, ‵, raw, ◌$◌, ◌∵◌, !, qed, by, keep, drop, use0, fjoin, enter, lit, and_then, no_more, returns, alloc_all, pass_all, free_all, look_at, sets, agg, null_ptr, nothing, on_entry, walk_of}
use Rattle.wl_c.proofs.Machine.{Alone, alone, alone_fits, alone_made}
use Rattle.wl_c.specs.contracts.relay.kept.RelayKept as kept
use Rattle.wl_c.specs.contracts.relay.kept.RelayKept.nothing as f
use Rattle.wl_c.proofs.relay.kept.RelayKept.nothing.Statement.{statement}
use Rattle.wl_c.proofs.relay.kept.RelayKept.nothing.Code as code

pub nothing_spec : {M : Type 1} → statement M
nothing_spec 𝓤 𝓛 𝓜 𝓡 wired =
    let c = f.clauses 𝓛 𝓜.mem 𝓡.returns in let name = kept.the_type.name in
    proved 𝓛 f.ended tt c 𝓜 𝓡 tt f.Key.name code.function (code.unfolded 𝓤 𝓛.H 𝓜 𝓡 wired)
    (λ κs. tt) (λ κs. tt) (λ κs qs bounds a ghosts are.
    let z : (walk_of 𝓛 f.ended tt c).Ghost = ((κs, qs, bounds, a, tt), ghosts) in
    qed 𝓛 (raw (on_entry 𝓛 f.signature κs qs a tt) ∷ raw ((c κs a).requires ghosts) ∷ []) ∵ drop ! $ drop ! $
    enter ! _ _ _ _ _ $ alloc_all ! (λ l. pass_all ! refl tt $
    sets ! (agg ! (and_then ! (lit ! tt) (no_more !))) refl (alone_fits name null_ptr) $
    returns ! (look_at ! 0 refl) $ free_all ! refl $
    nothing ! $ use0 𝓛 (‵ ((Alone name).own_val (null_ptr, tt) (alone name null_ptr ∷ []))) (alone_made name 𝓛 null_ptr) $ fjoin ! $
    use0 𝓛 (raw (fact 𝓤 (None ≡ None))) (fact_i 𝓤 (None ≡ None) (emp 𝓤) refl) $ nothing ! $ nothing ! $ keep ! (0 ∷ 1 ∷ 3 ∷ 2 ∷ []) $
    by ! (leaves 𝓛 f.ended tt c z (alone name null_ptr) (record { at = null_ptr; held = None }) tt tt)))
