use Rattle.std.proofs.Common.{arith, length, Some}
use Rattle.std.proofs.lemmas.Grind.{common_steps}
use Rattle.wl_sets.specs.FreeTree.{words_of}
use Rattle.wl_link.specs.Inside.PlaceList.{free_flag}
use Rattle.wl_sets.proofs.Trees.{height_within, few_reads}
use Rattle.wl_link.proofs.object_range.ObjectRange.insert_new.Goals as goal

pub take_least-requires-clause-few : goal.take_least-requires-clause-few
take_least-requires-clause-few g c =
    let small = c.requires.free.small in
    omega (arith, height_within (words_of c.args.self.now.free.levels.items) (free_flag c.args.self.now.slots.items) (length c.args.self.now.slots.items) c.requires.free.tree)

pub returns-then-at-end-clause-few_words : goal.returns-then-at-end-clause-few_words
returns-then-at-end-clause-few_words g c = λ most some fits.
    let places = c.args.self.now.slots.items in
    few_reads (length places) (words_of c.args.self.now.free.levels.items) (Some c.in-Some.at) most _
    (c.take_least.ensures.height (free_flag places) (length places) c.requires.free.tree) some fits c.in-Some.ensures.reads

pub returns-in-Some-clause-few_words : goal.returns-in-Some-clause-few_words
returns-in-Some-clause-few_words g c = λ most some fits.
    let places = c.args.self.now.slots.items in
    few_reads (length places) (words_of c.args.self.now.free.levels.items) (Some c.in-Some.at) most _
    (c.take_least.ensures.height (free_flag places) (length places) c.requires.free.tree) some fits c.in-Some.ensures.reads

pub returns-then-at-end-2-clause-places : goal.returns-then-at-end-2-clause-places
returns-then-at-end-2-clause-places g c = grind (arith, common_steps)

pub returns-in-Ok-clause-places : goal.returns-in-Ok-clause-places
returns-in-Ok-clause-places g c = grind (arith, common_steps)

pub returns-in-Err-clause-places : goal.returns-in-Err-clause-places
returns-in-Err-clause-places g c = grind (arith, common_steps)
