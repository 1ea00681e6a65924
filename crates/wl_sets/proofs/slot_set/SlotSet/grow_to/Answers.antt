use Rattle.wl_sets.proofs.SlotSets.{one_word_more}
use Rattle.wl_sets.proofs.slot_set.SlotSet.grow_to.Goals as goal

pub returns-in_ok-reserve : goal.returns-in_ok-reserve
returns-in_ok-reserve c = one_word_more c.args.self.now.words.items c.reserve.new.self.items c.push_reserved.new.self.items c.reserve.ensures.items c.push_reserved.ensures.items
