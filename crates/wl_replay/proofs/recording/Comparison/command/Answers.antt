use Rattle.std.proofs.Common.{◌≡◌, subst, ℕ, rules, refl, Option, map}
use Rattle.std.specs.String.{string_bytes}
use Rattle.wl_bench.specs.Bench.{Does, NamesNone}
use Rattle.wl_bench.specs.Commands.{Finds}
use Rattle.wl_replay.specs.Inside.Comparing.{IsNumbered}
use Rattle.wl_bench.specs.declared.command.Command.{Command}
use Rattle.wl_replay.proofs.Recordings.{low_number, no_slot, none_numbered}
use Rattle.wl_replay.proofs.recording.Comparison.command.Goals as goal

pub returns-in_default-clause-carries : goal.returns-in_default-clause-carries
returns-in_default-clause-carries c =
    let none = subst (λ (found : Option (ℕ × Command)). Finds IsNumbered c.args.line.now found) c.in_default.is c.in_ok-number.ensures in
    none_numbered c.args.self.now.last c.args.self.now.bench c.args.line.now none

pub returns-then-number-self-clause-carries : goal.returns-then-number-self-clause-carries
returns-then-number-self-clause-carries c =
    let is = subst (λ (found : Option (ℕ × Command)). Finds IsNumbered c.args.line.now found) c.in-Some.is c.in_ok-number.ensures in
    low_number c.args.self.now.last c.args.self.now.bench c.args.line.now (c.in-Some.number, c.in-Some.command) is c.if-number-self.true

pub returns-in_default-2-clause-carries : goal.returns-in_default-2-clause-carries
returns-in_default-2-clause-carries c =
    let is = subst (λ (found : Option (ℕ × Command)). Finds IsNumbered c.args.line.now found) c.in-Some.is c.in_ok-number.ensures in
    let none : NamesNone c.args.self.now.bench c.in-Some.command × (c.carry_out.new.self ≡ c.args.self.now.bench) = search rules in
    no_slot c.args.self.now.last c.args.self.now.bench c.args.line.now (c.in-Some.number, c.in-Some.command) is none.0

pub returns-clause-carries : goal.returns-clause-carries
returns-clause-carries c =
    let is = subst (λ (found : Option (ℕ × Command)). Finds IsNumbered c.args.line.now found) c.in-Some.is c.in_ok-number.ensures in
    let does : Does c.args.self.now.bench c.in-Some.number c.in-Some.command (map string_bytes c.in-Some-2.lines.items) c.carry_out.new.self = search rules in (
      record { number = c.in-Some.number; line = is.0; answer = map string_bytes c.in-Some-2.lines.items },
      (is.1, c.if-number-self.false, is.2, (c.in-Some.command, is.3, c.carry_out.new.self, does, refl), refl, c.in-Some-checked_add.ensures.1, refl),
    )
