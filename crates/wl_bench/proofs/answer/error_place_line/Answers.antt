use Rattle.std.proofs.Common.{◌≡◌, ◌∙◌, List, ℕ, ◌++◌, append_assoc, codes, sym}
use Rattle.std.specs.Fmt.{decimal}
use Rattle.wl_bench.proofs.answer.error_place_line.Goals as goal

six : (a d e f g h : List ℕ) → ((((a ++ d) ++ e) ++ f) ++ g) ++ h ≡ a ++ (d ++ (e ++ (f ++ (g ++ h))))
six a d e f g h =
    append_assoc (((a ++ d) ++ e) ++ f) g h ∙ append_assoc ((a ++ d) ++ e) f (g ++ h) ∙ append_assoc (a ++ d) e (f ++ (g ++ h))
    ∙ append_assoc a d (e ++ (f ++ (g ++ h)))

pub returns : goal.returns
returns c =
    c.in_ok-line.ensures.ok
    ∙ sym (six (codes "disconnected ") (decimal c.args.slot) (codes " error ") (decimal c.args.code) (codes " ") (decimal c.args.object))
