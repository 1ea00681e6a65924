use Rattle.std.proofs.Common.{◌≡◌, ◌↔◌, IsTrue, true, false, length, refl, sym, ap, ◌∙◌, arith}
use Rattle.std.proofs.lemmas.Bool.{false≢true}
use Rattle.std.proofs.lemmas.List.{length_push, length-map}
use Rattle.std.proofs.lemmas.Slice.Zip.{zip_turn, zip_end}
use Rattle.wl_wire.specs.Argument.{kind_of, type_of, Matches}
use Rattle.wl_wire.proofs.Spelling.MatchingLaws.{matches_is}
use Rattle.wl_wire.proofs.Signature.{fits_more, differs, all_fit}
use Rattle.wl_wire.proofs.protocol.check_for_signature.Goals as goal

pub returns-then-signature-args-clause-word : goal.returns-then-signature-args-clause-word
returns-then-signature-args-clause-word g c =
    let unlike : ¬ (Matches c.args.signature.now c.args.args.now) = λ m.
    omega (arith, ap length m, length-map c.args.signature.now kind_of, length-map c.args.args.now type_of, c.if-signature-args.true) in
    matches_is c.args.signature.now c.args.args.now false (λ e. absurd (false≢true e), λ m. absurd (unlike m))

pub returns-then-not-same_type : goal.returns-then-not-same_type
returns-then-not-same_type g c =
    let t = zip_turn c.args.signature.now c.args.args.now c.loop-kind.yielded c.into_iter-kind-iterator.result c.loop-kind.kind-iterator c.next.new.self c.next.result (cc) (cc) c.loop-kind.yielded_by _ c.in-Some.is c.next.ensures.steps in
    let unlike : ¬ (kind_of c.in-Some.kind.now ≡ kind_of (type_of c.in-Some.arg.now)) = λ same. false≢true (sym c.if-not-same_type.true ∙ c.same_type.ensures.1 (same ∙ ap kind_of (sym c.get_type.ensures))) in
    let none : ¬ (Matches c.args.signature.now c.args.args.now) = λ m. differs c.args.signature.now c.args.args.now _ _ _ t.0 t.1 (t.2 _) (t.3 _) unlike m in
    let fits : IsTrue false ↔ Matches c.args.signature.now c.args.args.now = (λ e. absurd (false≢true e), λ m. absurd (none m)) in
    record { fits = fits; word = matches_is c.args.signature.now c.args.args.now false fits }

pub loop-kind-preserved : goal.loop-kind-preserved
loop-kind-preserved g c =
    let t = zip_turn c.args.signature.now c.args.args.now c.loop-kind.yielded c.into_iter-kind-iterator.result c.loop-kind.kind-iterator c.next.new.self c.next.result (cc) (cc) c.loop-kind.yielded_by _ c.in-Some.is c.next.ensures.steps in
    rw (length_push c.loop-kind.yielded (c.in-Some.kind, c.in-Some.arg))
    (fits_more c.args.signature.now c.args.args.now _ c.in-Some.kind.now c.in-Some.arg.now t.0 t.1 (t.2 _) (t.3 _) (c.same_type.ensures.0 c.if-not-same_type.false ∙ ap kind_of c.get_type.ensures) c.loop-kind.invariant)

pub returns : goal.returns
returns g c =
    let t = zip_end c.args.signature.now c.args.args.now c.loop-kind.yielded c.into_iter-kind-iterator.result c.loop-kind.kind-iterator c.next.new.self c.next.result (cc) (cc) c.loop-kind.yielded_by c.in-None.is c.next.ensures.steps in
    let whole : Matches c.args.signature.now c.args.args.now = all_fit c.args.signature.now c.args.args.now _ (omega arith) (omega arith) c.loop-kind.invariant in
    let fits : IsTrue true ↔ Matches c.args.signature.now c.args.args.now = (λ _. whole, λ _. refl) in
    record { fits = fits; word = matches_is c.args.signature.now c.args.args.now true fits }
