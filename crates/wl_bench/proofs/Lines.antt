-- Which lines are commands.
use Rattle.std.proofs.Common.{◌≡◌, ◌∙◌, ℕ, ◌<◌, ◌≤◌, nat_lt, Bool, true, false, List, length, take, take_all, Option, Some, None, Result, Ok, Err, refl, sym, ap, subst, arith}
use Rattle.std.proofs.lemmas.Bool.{ltb-false, ltb-true}
use Rattle.std.proofs.lemmas.List.{length-take-le}
use Rattle.std.specs.Prelude.{IfOk}
use Rattle.std.specs.Str.{IsUtf8}
use Rattle.wl_bench.specs.Commands.{Finds, IsClientCommand, IsCommand, IsLine, words}
use Rattle.wl_bench.specs.declared.command.ClientCommand.{ClientCommand}
use Rattle.wl_bench.specs.declared.command.ClientCommand.TheVariants.{Arrive, Read, Finish, Kill, Accept, FailIn, FailOut}
use Rattle.wl_bench.specs.declared.command.Command.{Command}
use Rattle.wl_bench.specs.declared.command.Command.TheVariants.{Client, Dispatch, Create, Disable, Remove}

-- a command has one word at least, and four at most
abbrev IsFewWords : List (List ℕ) → Type 0
IsFewWords ws = (0 < length ws) × (length ws < 5)

few_of_client : (ws : List (List ℕ)) (slot : ℕ) (c : ClientCommand) → IsClientCommand slot c ws → IsFewWords ws
few_of_client ws slot (Arrive bytes tokens) h = let n = ap length h.2 in (omega arith, omega arith)
few_of_client ws slot Read h = let n = ap length h in (omega arith, omega arith)
few_of_client ws slot Finish h = let n = ap length h in (omega arith, omega arith)
few_of_client ws slot Kill h = let n = ap length h in (omega arith, omega arith)
few_of_client ws slot (Accept counts) h = let n = ap length h.1 in (omega arith, omega arith)
few_of_client ws slot (FailIn fault) h = let n = ap length h.1 in (omega arith, omega arith)
few_of_client ws slot (FailOut fault) h = let n = ap length h.1 in (omega arith, omega arith)

few_words : (ws : List (List ℕ)) (c : Command) → IsCommand c ws → IsFewWords ws
few_words ws (Client slot c) h = few_of_client ws slot c h.1
few_words ws (Dispatch slots) h = let n = ap length h.1 in (omega arith, omega arith)
few_words ws (Create name version) h = let n = ap length h.2 in (omega arith, omega arith)
few_words ws (Disable name) h = let n = ap length h.1 in (omega arith, omega arith)
few_words ws (Remove name) h = let n = ap length h.1 in (omega arith, omega arith)
few_words ws _ h = let n = ap length h in (omega arith, omega arith)

pub no_words : (ws : List (List ℕ)) → length ws < 1 → (c : Command) → ¬ (IsCommand c ws)
no_words ws short c h = let few = few_words ws c h in omega arith

pub many_words : (ws : List (List ℕ)) → 4 < length ws → (c : Command) → ¬ (IsCommand c ws)
many_words ws long c h = let few = few_words ws c h in omega arith

-- what is found of the words is found of the line
pub line_found : {E : Type 0} (line : List ℕ) (ws : List (List ℕ)) (r : Result (Option Command) E) → IsUtf8 line → ws ≡ words line
    → IfOk r (Finds IsCommand ws) → IfOk r (Finds IsLine line)
line_found line ws (Ok (Some c)) text same h = (text, subst (λ (vs : List (List ℕ)). IsCommand c vs) same h)
line_found line ws (Ok None) text same h =
    λ (c : Command) (is : IsLine c line). h c (subst (λ (vs : List (List ℕ)). IsCommand c vs) (sym same) is.1)
line_found line ws (Err e) text same h = tt

-- five words are enough to see which command it is
pub first_words : {E : Type 0} (all ws : List (List ℕ)) (r : Result (Option Command) E) → ws ≡ take 5 all → IfOk r (Finds IsCommand ws)
    → IfOk r (Finds IsCommand all)
first_words {E} all ws r same h = at (nat_lt 4 (length all)) refl
  where
    few : length all ≤ 4 → IfOk r (Finds IsCommand all)
    few least = subst (λ (vs : List (List ℕ)). IfOk r (Finds IsCommand vs)) (same ∙ take_all 5 all (omega (arith, least))) h

    many : 4 < length all → (q : Result (Option Command) E) → IfOk q (Finds IsCommand ws) → IfOk q (Finds IsCommand all)
    many more (Ok (Some c)) k =
        let size = ap length same ∙ length-take-le 5 all (omega (arith, more)) in
        absurd (many_words ws (omega (arith, size)) c k)
    many more (Ok None) k = many_words all more
    many more (Err e) k = tt

    at : (b : Bool) → nat_lt 4 (length all) ≡ b → IfOk r (Finds IsCommand all)
    at false e = few (ltb-false 4 (length all) e)
    at true e = many (ltb-true 4 (length all) e) r h
