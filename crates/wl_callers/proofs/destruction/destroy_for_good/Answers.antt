use Rattle.wl_callers.proofs.Destroyed.{destroyed_for_good}
use Rattle.wl_callers.proofs.destruction.destroy_for_good.Goals as goal

pub returns : goal.returns
returns g c =
    destroyed_for_good _ _ _ _ _ c.destroy_object.ensures.call c.destroy_object.ensures.plain c.each_client_is_alone.ensures.run c.each_id_that_names_an_object_keeps_it.ensures.none
