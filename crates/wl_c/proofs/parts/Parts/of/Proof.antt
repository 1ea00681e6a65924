-- `of` calls `into_raw_with_allocator`, and the parts own what that call hands out.
use mathlib.Core.Path.{◌≡◌, refl, sym, subst, ap, ◌∙◌}
use mathlib.Core.List.{List, [], ◌∷◌, ◌++◌}
use seplogic.Ra.Ura.{Ura}
use mir.Syntax.{Fn, Args, Dict, a_type, dcons, dnil}
use mir.MapTy.{inst_fn}
use mir.Raw.{raw as bare}
use mir.Val.{Val, vstruct, of_list}
use base.Logic.{SProp, ent, id⊢, never, fst∗}
use base.Fml.{ftrue, fsep, flft}
use contract.BorrowLft.{◌⊑◌}
use contract.Monad.{Fun, fact}
use contract.Running.{tables, tables_of}
use prog.Memory.{Memory}
use prog.Routine.{Routine}
use prog.Wp.{WpFn, Tables}
use sound.WpLaws.{fm_of, WpFn-mono}
use types.Logic.{Logic, sem}
use types.Kit.{Item, ‵, raw, ◌⊛◌, some, later, ◌$◌, ◌∵◌, !, qed, by, move, drop, use1, join, split, split3, pick, rewrite, fsplit, fjoin, fpick, feq_l, suffices, await, done}
use types.Part.{whole, sub, agg}
use types.Run.{stop, fld, no_more, and_then, of_opd, returns, enter}
use types.ByLocal.{alloc_all, pass_all, free_all, look_at, get, get_in, sets, lands_as}
use denote.Exit.{no}
use denote.Param.{bounded}
use denote.RattleType.{RattleType}
use denote.RawPtr.{Ptr, RawPtr, block_ptr, null_ptr, ptr_val, in_a_block}
use denote.Signature.{plain}
use denote.Steps.{heard, nothing, only}
use denote.Struct.Tuple.{Tuple}
use denote.Triple.Call.{calls_at}
use denote.Triple.Clauses.{Ended, Clauses}
use denote.Triple.Spec.{triple_of}
use denote.Triple.Statement.{Triple, Contract}
use denote.Triple.Table.{entered}
use denote.Triple.Walked.{says, Stays, stay_dropped, walk_of, ends_at, walk_Meets}
use Rattle.std.specs.Box.Ownership.{box_owns}
use Rattle.std.proofs.alloc.Calls.{token, handle_tells, Goes-blank}
use Rattle.std.proofs.BoxSteps.Form.{Bx, τ, R, P, B, word, box_typed}
use Rattle.std.proofs.BoxSteps.Steps.{box_out, box_in}
use Rattle.std.specs.contracts.boxed.Box.into_raw_with_allocator as unbox
use Rattle.std.proofs.boxed.Box.into_raw_with_allocator.Symbol as unbox_symbol
use Rattle.std.proofs.boxed.Box.into_raw_with_allocator.Met as unbox_met
use Rattle.wl_c.specs.contracts.parts.Parts as parts
use Rattle.wl_c.specs.contracts.parts.Parts.of as f
use Rattle.wl_c.specs.contracts.parts.Parts.of.Key as key
use Rattle.wl_c.proofs.parts.Parts.of.Statement as stated
use Rattle.wl_c.proofs.parts.Parts.of.Code as code

module _ (E : Bx) (droppable : Dict) where
  abbrev passed : Args
  passed = bounded (a_type ∷ a_type ∷ []) (E.row, (E.al.row, tt)) (dcons E.al.d (dcons E.al.drops (dcons droppable dnil)))

  abbrev body : Fn
  body = inst_fn passed code.function

  abbrev ended : Ended
  ended = f.ended E.row E.al.row E.al.g E.al.d E.al.drops droppable

  abbrev stayed : Stays ended.signature.params ended.kept
  stayed = (stay_dropped (plain (λ _. B E)) no, tt)

  abbrev Made : RattleType
  Made = parts.the_row (R E) (P E) E.al.g

  module _ {M : Type 1} {𝓤 : Ura M} (𝓛 : Logic 𝓤) (at_mem : Memory → SProp 𝓤) (run : Routine → Fun 𝓤) (𝓣 : Tables 𝓤 𝓛.H) where
    open 𝓛 use {H}

    abbrev clauses : Clauses 𝓤 ended
    clauses = f.clauses E.row E.al.row E.al.g E.al.d E.al.drops droppable 𝓛 at_mem run

    abbrev Unbox : Contract 𝓤
    Unbox = triple_of 𝓛 (unbox.signature E.row E.al.row E.al.g E.al.d E.al.drops droppable) (unbox.spec E.row E.al.row E.al.g E.al.d E.al.drops droppable 𝓛 at_mem run)

    walk : Triple 𝓤 (𝓣.C (unbox_symbol.name passed)) Unbox → (z : (walk_of 𝓛 ended stayed clauses).Ghost)
        → ent 𝓤 ((walk_of 𝓛 ended stayed clauses).pre z) (WpFn 𝓤 H 𝓣.C 𝓣.Λ body (z.0.4.0 ++ []) ((walk_of 𝓛 ended stayed clauses).post z))
    walk unboxes z =
        let κs = z.0.0 in let qs = z.0.1 in let given = z.0.3.0 in let h = given.alloc in
        let After = (walk_of 𝓛 ended stayed clauses).post z in
        let alive : Item 𝓤 = ‵ (flft κs.0 qs.0) ⊛ ‵ (flft κs.1.0 qs.1.0) ⊛ ‵ ftrue in
        let within : Item 𝓤 = raw (fact 𝓤 (κs.0 ⊑ E.row.lives)) ⊛ raw (fact 𝓤 (κs.1.0 ⊑ E.al.row.lives)) ⊛ ‵ ftrue in
        -- what the call answers and hands out
        let handed : Val → Item 𝓤 = λ v. later (some (λ (r : Ptr × E.al.row.Denot). (alive ⊛ ‵ ((Tuple (RawPtr ∷ P E ∷ [])).own_val r (v ∷ [])))
        ⊛ some (λ (_ : (Unit {0} × (Unit {0} × Unit {0})) × Unit {0}). ‵ (fsep (fsep ftrue (fsep ftrue ftrue)) ftrue) ⊛ (raw (fact 𝓤 (r.1 ≡ h)) ⊛ ‵ (box_owns (token E.al h) (R E) r.0 given.value))))) in
        qed 𝓛 ((alive ⊛ ‵ (fsep ((B E).own_val given z.0.4.0) ftrue)) ∷ within ∷ []) ∵ split ! $ move ! (1 ∷ []) $ fsplit ! $
        box_out E ! given z.0.4.0 (λ b o hv at is fits. box_in E ! given b o given.value at refl $
        let boxed = word E hv b o in
        let call : Unbox.Ghost = ((κs, qs, tt, (given, tt), (boxed ∷ [], tt)), tt) in
        let Γ : List (Item 𝓤) = ‵ ((B E).own_val given (boxed ∷ [])) ∷ ‵ ftrue ∷ alive ∷ within ∷ [] in
        by ! (subst (λ (vs : List Val). ent 𝓤 (types.Kit.⋆ 𝓛 Γ) (WpFn 𝓤 H 𝓣.C 𝓣.Λ body (vs ++ []) After)) (sym is)
        (qed 𝓛 Γ ∵ enter ! 𝓣.C 𝓣.Λ body (boxed ∷ []) _ $ alloc_all ! (λ l. pass_all ! refl (box_typed E hv b o fits, tt) $
        sets ! (of_opd ! (get ! refl)) refl (box_typed E hv b o fits) $
        fjoin ! $ move ! (1 ∷ 0 ∷ []) $ join ! $ join ! $ use1 𝓛 (raw (Unbox.pre call)) (id⊢ 𝓤 _) $
        calls_at ! (fm_of 𝓤 H 𝓛.laws 𝓣) Unbox unboxes call (and_then ! (get ! refl) (no_more !)) (λ v. use1 𝓛 (handed v) (id⊢ 𝓤 _) $
        await ! tt $ pick ! (λ r. split ! $ move ! (1 ∷ []) $ pick ! (λ _. split3 ! $ drop ! $ heard ! (r.1 ≡ h) (λ same.
        -- [what the box owned; the tokens with the pair]
        in_a_block ! r.0 (λ p. box_owns (token E.al h) (R E) p given.value) (fst∗ 𝓤 (never 𝓤) (sem 𝓛 (token E.al h (bare (τ E)) null_ptr))) (λ b' o' at'.
        move ! (1 ∷ []) $ split ! $ move ! (1 ∷ []) $ fpick ! (λ vss. fsplit ! $ feq_l ! (λ is_pair. fsplit ! $ feq_l ! (λ is_ptr. fsplit ! $
        rewrite ! 0 (λ (x : E.al.row.Denot). ‵ (E.al.row.own_val x vss.1.0)) same refl $ handle_tells E.al ! h vss.1.0 (λ hv' is_handle fits'.
        let made : Made.Denot = record { at = block_ptr b' o'; handle = h; value = given.value } in
        let pair : v ∷ [] ≡ word E hv' b' o' ∷ [] = is_pair
        ∙ (λ j. vstruct (of_list ((is_ptr ∙ ap (λ (p : Ptr). ptr_val p ∷ []) at') j ++ (is_handle j ++ []))) ∷ []) in
        lands_as ! (ap only pair) refl (box_typed E hv' b' o' fits') $
        sets ! (of_opd ! (get_in ! (fld ! refl (stop !)) (sub ! 0 refl (whole !)))) refl (tt, tt) $
        sets ! (of_opd ! (get_in ! (fld ! refl (stop !)) (sub ! 1 refl (whole !)))) refl fits' $
        sets ! (of_opd ! (get ! refl)) refl fits' $
        sets ! (agg ! (and_then ! (get ! refl) (and_then ! (get ! refl) (no_more !)))) refl (box_typed E hv' b' o' fits') $
        returns ! (look_at ! 0 refl) $ free_all ! refl $
        -- [the handle; nothing; the tokens; what the box owned]
        move ! (3 ∷ []) $ fsplit ! $ box_in E ! (record { ptr = block_ptr b' o'; alloc = h; value = given.value }) b' o' given.value refl refl $
        use1 𝓛 (‵ (Made.own_val made (word E hv' b' o' ∷ []))) (id⊢ 𝓤 _) $ move ! (1 ∷ []) $ drop ! $
        suffices ! _ (ends_at 𝓛 ended stayed clauses z (word E hv' b' o') made ((tt, (tt, tt)), tt) (tt, tt)) $ says ! refl $
        nothing ! $ nothing ! $ fjoin ! $ join ! $ move ! (1 ∷ 0 ∷ []) $ join ! $ done !)))))))))))))

pub of_spec : {M : Type 1} → stated.statement M
unfolding tables_of
of_spec 𝓤 𝓛 𝓜 𝓡 wired X A LX LA g d dd dx allocator drops glue =
    let E : Bx = record { row = X; laws = LX; al = record { row = A; laws = LA; g = g; d = d; drops = dd } } in
    let 𝓣 : Tables 𝓤 𝓛.H = tables_of 𝓤 𝓛.H 𝓜 (tables 𝓤 𝓛.H 𝓜 𝓡 𝓡.env) in
    let unboxes = unbox_met.met 𝓤 𝓛 𝓜 𝓡 (code.calls-std_alloc::boxed::Box::into_raw_with_allocator 𝓡.env wired) X A LX LA g d dd dx allocator drops glue in
    entered 𝓤 𝓛.H (triple_of 𝓛 (ended E dx).signature (f.spec X A g d dd dx 𝓛 𝓜.mem 𝓡.returns)) 𝓣.C 𝓣.Λ (key.name (passed E dx)) (body E dx) (code.unfolded 𝓤 𝓛.H 𝓜 𝓡 wired (X, (A, tt)) d dd dx)
    (walk_Meets 𝓛 (ended E dx) (stayed E dx) (Goes-blank 𝓛 2 (plain (λ _. B E)) no (λ κs x w. tt), tt) (clauses E dx 𝓛 𝓜.mem 𝓡.returns 𝓣) (WpFn 𝓤 𝓛.H 𝓣.C 𝓣.Λ (body E dx)) (WpFn-mono 𝓤 𝓛.H 𝓛.laws 𝓣 (body E dx))
    (walk E dx 𝓛 𝓜.mem 𝓡.returns 𝓣 unboxes))
