-- That arguments fit a signature, as a relation and as a truth value.
use Rattle.std.proofs.Common.{◌≡◌, ℕ, ◌∷◌, [], List, map, Bool, true, false, ◌&&◌, eqb, zero, suc, refl, sym, ap, ◌∙◌, IsTrue, ◌↔◌}
use Rattle.std.proofs.lemmas.Bool.{eqb-true, eq-eqb, false≢true}
use Rattle.std.proofs.lemmas.Bool.Decides.{same_from_decides}
use Rattle.wl_wire.specs.declared.argument.AllowNull.TheVariants.{Yes}
use Rattle.wl_wire.specs.declared.argument.Argument.{Argument}
use Rattle.wl_wire.specs.declared.argument.Argument.TheVariants as arg
use Rattle.wl_wire.specs.declared.argument.ArgumentType.{ArgumentType}
use Rattle.wl_wire.specs.declared.argument.ArgumentType.TheVariants as kind
use Rattle.wl_wire.specs.Argument.{kind_of, type_of, Matches}
use Rattle.wl_wire.specs.MessageRows.{matches, type_number}

-- the type of an argument says nothing of null
pub kind_of-type_of : {Id Fd : Type 0} (a : Argument Id Fd) → kind_of (type_of a) ≡ type_of a
kind_of-type_of (arg.Fd _) = refl
kind_of-type_of _ = refl

-- the type of a number
kind_at : ℕ → ArgumentType
kind_at zero = kind.Int
kind_at (suc zero) = kind.Uint
kind_at (suc (suc zero)) = kind.Fixed
kind_at (suc (suc (suc zero))) = kind.Str Yes
kind_at (suc (suc (suc (suc zero)))) = kind.Object Yes
kind_at (suc (suc (suc (suc (suc zero))))) = kind.NewId
kind_at (suc (suc (suc (suc (suc (suc zero)))))) = kind.Array
kind_at (suc (suc (suc (suc (suc (suc (suc n))))))) = kind.Fd

kind_at-type_number : (k : ArgumentType) → kind_at (type_number k) ≡ kind_of k
unfolding kind_at
kind_at-type_number kind.Fd = refl
kind_at-type_number _ = refl

type_number-kind_of : (k : ArgumentType) → type_number (kind_of k) ≡ type_number k
type_number-kind_of kind.Fd = refl
type_number-kind_of _ = refl

same_type-true : {Id Fd : Type 0} (k : ArgumentType) (a : Argument Id Fd) → eqb (type_number k) (type_number (type_of a)) ≡ true → kind_of k ≡ type_of a
same_type-true k a same =
    sym (kind_at-type_number k) ∙ ap kind_at (eqb-true (type_number k) (type_number (type_of a)) same) ∙ kind_at-type_number (type_of a) ∙ kind_of-type_of a

true-same_type : {Id Fd : Type 0} (k : ArgumentType) (a : Argument Id Fd) → kind_of k ≡ type_of a → eqb (type_number k) (type_number (type_of a)) ≡ true
true-same_type k a same = eq-eqb (type_number k) (type_number (type_of a)) (sym (type_number-kind_of k) ∙ ap type_number same)

both_true : (p q : Bool) → (p && q) ≡ true → (p ≡ true) × (q ≡ true)
both_true true true e = (refl, refl)
both_true true false e = absurd (false≢true e)
both_true false q e = absurd (false≢true e)

matches-true : {Id Fd : Type 0} (kinds : List ArgumentType) (args : List (Argument Id Fd)) → matches kinds args ≡ true → Matches kinds args
matches-true [] [] e = refl
matches-true (k ∷ kinds) [] e = absurd (false≢true e)
matches-true [] (a ∷ args) e = absurd (false≢true e)
matches-true (k ∷ kinds) (a ∷ args) e =
    let both = both_true (eqb (type_number k) (type_number (type_of a))) (matches kinds args) e in
    let first : kind_of k ≡ type_of a = same_type-true k a both.0 in
    let others : map kind_of kinds ≡ map type_of args = matches-true kinds args both.1 in
    cc

true-matches : {Id Fd : Type 0} (kinds : List ArgumentType) (args : List (Argument Id Fd)) → Matches kinds args → matches kinds args ≡ true
true-matches [] [] e = refl
true-matches (k ∷ kinds) [] e = absurd cc
true-matches [] (a ∷ args) e = absurd cc
true-matches (k ∷ kinds) (a ∷ args) e =
    let first : kind_of k ≡ type_of a = cc in
    let others : map kind_of kinds ≡ map type_of args = cc in
    rw (true-same_type k a first) (true-matches kinds args others)

-- the truth value says what the relation says
pub matches_is : {Id Fd : Type 0} (kinds : List ArgumentType) (args : List (Argument Id Fd)) (answer : Bool) → (IsTrue answer ↔ Matches kinds args)
    → answer ≡ matches kinds args
matches_is kinds args answer is = same_from_decides answer (matches kinds args) is (matches-true kinds args, true-matches kinds args)
