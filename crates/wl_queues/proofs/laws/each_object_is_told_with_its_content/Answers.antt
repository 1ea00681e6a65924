use Rattle.wl_queues.proofs.Contents.{tells_each_content}
use Rattle.wl_queues.proofs.laws.each_object_is_told_with_its_content.Goals as goal

pub returns : goal.returns
returns g c = record { every = tells_each_content _ }
