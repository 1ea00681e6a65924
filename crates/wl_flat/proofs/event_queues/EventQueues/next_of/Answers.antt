use Rattle.wl_flat.proofs.TakingEvents.{coming, takes_dropped, takes_handed}
use Rattle.wl_flat.proofs.event_queues.EventQueues.next_of.Goals as goal

pub returns-in-Ok-Handed : goal.returns-in-Ok-Handed
returns-in-Ok-Handed c = record {
  call = takes_handed c.args.self.now (record { core = c.next_of.new.self }) _ _ _
      (coming _ _ _ _ _ _ c.in-Ok-Handed.is c.in-Ok-Handed.field-0-is c.next_of.ensures.next) c.event.ensures;
}

pub returns-in-Ok-Dropped : goal.returns-in-Ok-Dropped
returns-in-Ok-Dropped c = record {
  call = takes_dropped c.args.self.now (record { core = c.next_of.new.self }) _ _ _ _
      (coming _ _ _ _ _ _ c.in-Ok-Dropped.is c.in-Ok-Dropped.field-0-is c.next_of.ensures.next) c.dropped.ensures;
}
