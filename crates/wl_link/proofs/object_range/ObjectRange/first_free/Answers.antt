use Rattle.std.proofs.Common.{◌≡◌, arith, length, Some, None}
use Rattle.wl_sets.specs.FreeTree.{words_of}
use Rattle.wl_link.specs.Inside.PlaceList.{free_flag}
use Rattle.wl_sets.proofs.Trees.{height_within, few_reads}
use Rattle.wl_link.proofs.FreePlaces.{first_is, none_is, reads_places}
use Rattle.wl_link.proofs.object_range.ObjectRange.first_free.Goals as goal

pub least-requires-clause-few : goal.least-requires-clause-few
least-requires-clause-few g c =
    let small = c.requires.small in
    omega (arith, height_within (words_of c.args.self.now.free.levels.items) (free_flag c.args.self.now.slots.items) (length c.args.self.now.slots.items) c.requires.tree)

pub returns-in-Some-clause-words_read : goal.returns-in-Some-clause-words_read
returns-in-Some-clause-words_read g c =
    let places = c.args.self.now.slots.items in
    let levels = words_of c.args.self.now.free.levels.items in
    reads_places places levels (Some c.in-Some.at) _ (c.in-Some.ensures.least (free_flag places) (length places) c.requires.tree)
    (c.least.ensures.height (free_flag places) (length places) c.requires.tree) c.in-Some.ensures.reads

pub returns-in-None-clause-words_read : goal.returns-in-None-clause-words_read
returns-in-None-clause-words_read g c =
    let places = c.args.self.now.slots.items in
    let levels = words_of c.args.self.now.free.levels.items in
    reads_places places levels None _ (c.in-None.ensures.least (free_flag places) (length places) c.requires.tree)
    (c.least.ensures.height (free_flag places) (length places) c.requires.tree) c.in-None.ensures.reads

pub returns-in-Some-clause-few_words : goal.returns-in-Some-clause-few_words
returns-in-Some-clause-few_words g c = λ most some fits.
    let places = c.args.self.now.slots.items in
    few_reads (length places) (words_of c.args.self.now.free.levels.items) (Some c.in-Some.at) most _
    (c.least.ensures.height (free_flag places) (length places) c.requires.tree) some fits c.in-Some.ensures.reads

pub returns-in-None-clause-few_words : goal.returns-in-None-clause-few_words
returns-in-None-clause-few_words g c = λ most some fits.
    let places = c.args.self.now.slots.items in
    few_reads (length places) (words_of c.args.self.now.free.levels.items) None most _
    (c.least.ensures.height (free_flag places) (length places) c.requires.tree) some fits c.in-None.ensures.reads

pub returns-in-Some-clause-first : goal.returns-in-Some-clause-first
returns-in-Some-clause-first g c =
    let places = c.args.self.now.slots.items in
    first_is places c.in-Some.at (c.in-Some.ensures.least (free_flag places) (length places) c.requires.tree)

pub returns-in-None-clause-first : goal.returns-in-None-clause-first
returns-in-None-clause-first g c =
    let places = c.args.self.now.slots.items in
    let len : c.len.result ≡ length places = omega (arith, c.len.ensures) in
    rw len (none_is places (c.in-None.ensures.least (free_flag places) (length places) c.requires.tree))
