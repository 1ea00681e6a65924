use Rattle.std.proofs.Common.{◌≡◌, ◌≢◌, ◌∙◌, [], List, ℕ, rules, refl, sym, ap, subst, map}
use Rattle.std.specs.Io.KnownBytes.{Appends}
use Rattle.std.specs.String.{string_bytes}
use Rattle.wl_bench.specs.Bench.{BenchState, Does, NamesNone}
use Rattle.wl_bench.specs.Commands.{IsLine}
use Rattle.wl_bench.specs.Record.{IsBad, text_of, written_of}
use Rattle.wl_bench.proofs.RunLines.{answered, bad_slot, keeps_same}
use Rattle.wl_bench.proofs.commands.answer_line.Goals as goal

pub returns-in_default-2-clause-stops : goal.returns-in_default-2-clause-stops
returns-in_default-2-clause-stops g c =
    let filled : c.args.line.now ≢ [] = search rules in
    let is : IsLine c.in-Some.command c.args.line.now = search rules in
    let none : NamesNone c.args.bench.now c.in-Some.command × (c.carry_out.new.self ≡ c.args.bench.now) = search rules in
    let bad = bad_slot c.args.bench.now c.args.line.now c.in-Some.command filled is none.0 c.parse_line.ensures.one in
    (refl, subst (λ (b : BenchState). IsBad b c.args.line.now) (sym none.1) bad, keeps_same _)

pub returns-clause-answers : goal.returns-clause-answers
returns-clause-answers g c =
    let filled : c.args.line.now ≢ [] = search rules in
    let is : IsLine c.in-Some.command c.args.line.now = search rules in
    let does : Does c.args.bench.now c.args.number c.in-Some.command (map string_bytes c.in-Some-2.answer.items) c.carry_out.new.self = search rules in
    let same = c.in_ok-text.ensures
    ∙ ap (λ xs. text_of (written_of c.args.form (record { number = c.args.number; line = c.args.line.now; answer = map string_bytes xs }))) c.as_slice.ensures.value in
    answered c.args.form c.args.number c.args.bench.now c.carry_out.new.self c.args.line.now c.in-Some.command (map string_bytes c.in-Some-2.answer.items)
    c.in_ok-text.text.items (g.W.Write.contents c.args.writer.now) (g.W.Write.contents c.write_all.new.self) (g.W.Write.contents c.flush.new.self)
    filled is does same
    (subst (λ (l : List ℕ). Appends (g.W.Write.contents c.args.writer.now) (g.W.Write.contents c.write_all.new.self) l) c.as_slice-2.ensures.value c.in_ok-write_all.ensures.bytes)
    c.in_ok-flush.ensures.bytes
