-- That the two parts of a fixed-point number are its text.
use Rattle.std.proofs.Common.{rules, ◌≡◌, ◌∙◌, ap, ℕ, List, ◌++◌, unsigned_abs}
use Rattle.std.proofs.lemmas.List.{append_assoc}
use Rattle.std.proofs.lemmas.Result.{on_ok_weaker}
use Rattle.std.specs.String.{string_bytes}
use Rattle.wl_wire.specs.LogText.{fraction_text, whole_text}
use Rattle.wl_wire.proofs.log_text.push_fixed.Goals as goal

pub returns : goal.returns
returns c =
    let size : c.unsigned_abs.result ≡ unsigned_abs c.args.value = search rules in
    let begun : string_bytes c.push_whole.new.text ≡ string_bytes c.args.text.now ++ whole_text c.args.value = search rules in
    on_ok_weaker c.push_fraction.result
    (λ appended. appended
    ∙ ap (λ (n : ℕ). string_bytes c.push_whole.new.text ++ fraction_text n) size
    ∙ ap (λ (bs : List ℕ). bs ++ fraction_text (unsigned_abs c.args.value)) begun
    ∙ append_assoc (string_bytes c.args.text.now) (whole_text c.args.value) (fraction_text (unsigned_abs c.args.value)))
    c.push_fraction.ensures
