-- `whole` hands what the parts own to `from_raw`.
use mathlib.Core.Path.{◌≡◌, refl, sym, subst, ap}
use mathlib.Core.List.{List, [], ◌∷◌, ◌++◌}
use lib.Dec.{T}
use seplogic.Ra.Ura.{Ura}
use mir.Syntax.{Fn, Body, place, copy, assign, rv_opd, seq, return}
use mir.MapTy.{inst_fn}
use mir.Val.{Val, vptr, has_ty, WT}
use base.Logic.{SProp, ent, id⊢}
use base.Fml.{ftrue, fsep, flft}
use contract.BorrowLft.{◌⊑◌}
use contract.Monad.{Fun, fact}
use contract.Running.{tables, tables_of}
use prog.Memory.{Memory}
use prog.Routine.{Routine}
use prog.Wp.{WpFn, Tables}
use sound.WpLaws.{fm_of, WpFn-mono}
use types.Logic.{Logic}
use types.Kit.{Item, at_ret, ‵, raw, ◌⊛◌, some, later, ◌$◌, ◌∵◌, !, qed, by, move, drop, use1, join, split, split3, pick, rewrite, fsplit, fjoin, feq_i, suffices, await, done}
use types.Part.{whole, sub}
use types.Run.{stop, fld, no_more, and_then, of_opd, returns, enter, first, blocks, exec}
use types.ByLocal.{alloc_all, pass_all, free_all, look_at, get, get_in, sets, lands_last, env}
use denote.Exit.{no}
use denote.RawPtr.{block_ptr}
use denote.Signature.{plain}
use denote.Steps.{heard, nothing, only}
use denote.Triple.Call.{calls_at_last}
use denote.Triple.Clauses.{Ended, Clauses}
use denote.Triple.Spec.{triple_of}
use denote.Triple.Statement.{Triple, Contract}
use denote.Triple.Table.{entered}
use denote.Triple.Walked.{says, Stays, stay_dropped, walk_of, ends_at, walk_Meets}
use Rattle.std.specs.Box.Ownership.{box_owns}
use Rattle.std.proofs.alloc.Calls.{token, Goes-blank}
use Rattle.std.proofs.BoxSteps.Form.{Bx, D, R, P, B, args, box_ty, word, box_typed}
use Rattle.std.proofs.BoxSteps.Steps.{box_out, box_in}
use Rattle.std.specs.contracts.boxed.Box.from_raw as rebox
use Rattle.std.proofs.boxed.Box.from_raw.Symbol as rebox_symbol
use Rattle.std.proofs.boxed.Box.from_raw.Met as rebox_met
use Rattle.wl_c.specs.contracts.parts.Parts as parts
use Rattle.wl_c.specs.contracts.parts.Parts.whole as f
use Rattle.wl_c.specs.contracts.parts.Parts.whole.Key as key
use Rattle.wl_c.proofs.parts.Parts.whole.Statement as stated
use Rattle.wl_c.proofs.parts.Parts.whole.Code as code

-- what runs after the block
abbrev last : Body
last = seq (assign (place 0 []) (rv_opd (copy (place 4 [])))) return

module _ (E : Bx) where
  abbrev body : Fn
  body = inst_fn (args E) code.function

  abbrev ended : Ended
  ended = f.ended E.row E.al.row E.al.g E.al.d E.al.drops

  abbrev stayed : Stays ended.signature.params ended.kept
  stayed = (stay_dropped (plain (λ _. parts.the_row (R E) (P E) E.al.g)) no, tt)

  module _ {M : Type 1} {𝓤 : Ura M} (𝓛 : Logic 𝓤) (at_mem : Memory → SProp 𝓤) (run : Routine → Fun 𝓤) (𝓣 : Tables 𝓤 𝓛.H) where
    open 𝓛 use {H}

    abbrev clauses : Clauses 𝓤 ended
    clauses = f.clauses E.row E.al.row E.al.g E.al.d E.al.drops 𝓛 at_mem run

    abbrev Rebox : Contract 𝓤
    Rebox = triple_of 𝓛 (rebox.signature E.row E.al.row E.al.g E.al.d E.al.drops) (rebox.spec E.row E.al.row E.al.g E.al.d E.al.drops 𝓛 at_mem run)

    walk : Triple 𝓤 (𝓣.C (rebox_symbol.name (args E))) Rebox → (z : (walk_of 𝓛 ended stayed clauses).Ghost)
        → ent 𝓤 ((walk_of 𝓛 ended stayed clauses).pre z) (WpFn 𝓤 H 𝓣.C 𝓣.Λ body (z.0.4.0 ++ []) ((walk_of 𝓛 ended stayed clauses).post z))
    walk reboxes z =
        let κs = z.0.0 in let qs = z.0.1 in let h = z.0.3.0.handle in let x = z.0.3.0.value in
        let After = (walk_of 𝓛 ended stayed clauses).post z in
        -- a box of the same parts
        let same : D E = record { ptr = z.0.3.0.at; alloc = h; value = x } in
        let alive : Item 𝓤 = ‵ (flft κs.0 qs.0) ⊛ ‵ (flft κs.1.0 qs.1.0) ⊛ ‵ ftrue in
        let in_value : Item 𝓤 = raw (fact 𝓤 (κs.0 ⊑ E.row.lives)) in let in_handle : Item 𝓤 = raw (fact 𝓤 (κs.1.0 ⊑ E.al.row.lives)) in
        let answered : Val → Item 𝓤 = λ v. later (some (λ (r : D E). (alive ⊛ ‵ ((B E).own_val r (v ∷ [])))
        ⊛ some (λ (_ : Unit {0} × (Unit {0} × Unit {0})). ‵ (fsep ftrue (fsep ftrue ftrue)) ⊛ (raw (fact 𝓤 (r.value ≡ x)) ⊛ raw (fact 𝓤 (r.alloc ≡ h)))))) in
        qed 𝓛 ((alive ⊛ ‵ (fsep ((B E).own_val same z.0.4.0) ftrue)) ∷ (in_value ⊛ in_handle ⊛ ‵ ftrue) ∷ []) ∵ split ! $ move ! (1 ∷ []) $ fsplit ! $
        box_out E ! same z.0.4.0 (λ b o hv at is fits. fjoin ! $
        let parted = word E hv b o in
        let call : Rebox.Ghost = ((κs, qs, tt, (h, (block_ptr b o, tt)), (hv ∷ [], (vptr b o ∷ [], tt))), x) in
        let Γ : List (Item 𝓤) = ‵ (box_owns (token E.al h) (R E) (block_ptr b o) x) ∷ ‵ ((P E).own_val h (hv ∷ [])) ∷ ‵ ftrue ∷ alive ∷ (in_value ⊛ in_handle ⊛ ‵ ftrue) ∷ [] in
        by ! (subst (λ (vs : List Val). ent 𝓤 (types.Kit.⋆ 𝓛 Γ) (WpFn 𝓤 H 𝓣.C 𝓣.Λ body (vs ++ []) After)) (sym is)
        (qed 𝓛 Γ ∵ enter ! 𝓣.C 𝓣.Λ body (parted ∷ []) _ $ alloc_all ! (λ l. pass_all ! refl (box_typed E hv b o fits, tt) $
        sets ! (of_opd ! (get_in ! (fld ! refl (stop !)) (sub ! 0 refl (whole !)))) refl (tt, tt) $
        sets ! (of_opd ! (get_in ! (fld ! refl (stop !)) (sub ! 1 refl (whole !)))) refl fits $
        first ! $ blocks ! $ sets ! (of_opd ! (get ! refl)) refl fits $
        -- [what is owned; the handle; nothing; the tokens; what lies within]
        move ! (4 ∷ []) $ split3 ! $ move ! (2 ∷ []) $ drop ! $ move ! (1 ∷ 2 ∷ []) $ join ! $ move ! (1 ∷ 0 ∷ []) $ join ! $
        -- [what the call requires; the handle; nothing; the tokens]
        move ! (2 ∷ []) $ feq_i ! (List Val) (vptr b o ∷ []) (vptr b o ∷ []) refl $ fjoin ! $ move ! (2 ∷ 0 ∷ []) $ fjoin ! $
        move ! (2 ∷ 0 ∷ []) $ join ! $ join ! $ use1 𝓛 (raw (Rebox.pre call)) (id⊢ 𝓤 _) $
        calls_at_last ! (fm_of 𝓤 H 𝓛.laws 𝓣) Rebox reboxes call (and_then ! (get ! refl) (and_then ! (get ! refl) (no_more !))) (λ v. use1 𝓛 (answered v) (id⊢ 𝓤 _) $
        await ! tt $ pick ! (λ r. split ! $ move ! (1 ∷ []) $ pick ! (λ _. split3 ! $ drop ! $ heard ! (r.value ≡ x) (λ kept. drop ! $
        split ! $ move ! (1 ∷ []) $
        box_out E ! r (v ∷ []) (λ b' o' hv' at' is' fits'. box_in E ! r b' o' r.value at' refl $
        rewrite ! 0 (λ (vs : List Val). ‵ ((B E).own_val r vs)) (sym is') refl $
        let typed : T (has_ty (box_ty E) v) × WT v = subst (λ (u : Val). T (has_ty (box_ty E) u) × WT u) (sym (ap only is')) (box_typed E hv' b' o' fits') in
        lands_last ! refl typed $ exec ! 𝓣.C 𝓣.Λ (env body.locals l) last (at_ret (env body.locals l) After) $
        sets ! (of_opd ! (get ! refl)) refl typed $ returns ! (look_at ! 0 refl) $ free_all ! refl $
        suffices ! _ (ends_at 𝓛 ended stayed clauses z v r ((tt, (tt, tt)), tt) (tt, tt)) $ says ! kept $
        nothing ! $ nothing ! $ fjoin ! $ join ! $ move ! (1 ∷ 0 ∷ []) $ join ! $ done !)))))))))

pub whole_spec : {M : Type 1} → stated.statement M
unfolding tables_of
whole_spec 𝓤 𝓛 𝓜 𝓡 wired X A LX LA g d dd allocator drops =
    let E : Bx = record { row = X; laws = LX; al = record { row = A; laws = LA; g = g; d = d; drops = dd } } in
    let 𝓣 : Tables 𝓤 𝓛.H = tables_of 𝓤 𝓛.H 𝓜 (tables 𝓤 𝓛.H 𝓜 𝓡 𝓡.env) in
    let reboxes = rebox_met.met 𝓤 𝓛 𝓜 𝓡 (code.calls-std_alloc::boxed::Box::from_raw 𝓡.env wired) X A LX LA g d dd allocator drops in
    entered 𝓤 𝓛.H (triple_of 𝓛 (ended E).signature (f.spec X A g d dd 𝓛 𝓜.mem 𝓡.returns)) 𝓣.C 𝓣.Λ (key.name (args E)) (body E) (code.unfolded 𝓤 𝓛.H 𝓜 𝓡 wired (X, (A, tt)) d dd)
    (walk_Meets 𝓛 (ended E) (stayed E) (Goes-blank 𝓛 2 (plain (λ _. parts.the_row (R E) (P E) g)) no (λ κs x w. tt), tt) (clauses E 𝓛 𝓜.mem 𝓡.returns 𝓣) (WpFn 𝓤 𝓛.H 𝓣.C 𝓣.Λ (body E)) (WpFn-mono 𝓤 𝓛.H 𝓛.laws 𝓣 (body E))
    (walk E 𝓛 𝓜.mem 𝓡.returns 𝓣 reboxes))
