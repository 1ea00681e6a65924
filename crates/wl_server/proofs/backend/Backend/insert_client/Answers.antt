use Rattle.wl_server.proofs.CallSteps.Kept.{with_plain}
use Rattle.wl_server_model.proofs.ObjectCalls.Inserting.{inserted, insertion_starved, least_within, not_inserted}
use Rattle.wl_server_model.proofs.CleanupSteps.Taken.{taken_put}
use Rattle.wl_server_model.proofs.Plain.Clients.{inserts_client}
use Rattle.wl_server.proofs.backend.Backend.insert_client.Goals as goal

pub returns-in_default : goal.returns-in_default
returns-in_default g c = with_plain (inserts_client _ _ _) (rw (← c.self.view_is) (not_inserted _ _ _ _ c.in_default.ensures.next c.self.invariant.2))

pub put_new-requires : goal.put_new-requires
put_new-requires g c = least_within c.self.inside.clients.items c.in-Some.id.slot c.in-Some.ensures.next.0

pub returns-in-Ok : goal.returns-in-Ok
returns-in-Ok g c =
    let (s, is, put) = c.in-Ok.ensures.put in
    let (free, left, next) = c.in-Some.ensures.next in
    with_plain (inserts_client _ _ _) (rw (← c.self.view_is)
    (inserted _ _ c.args.transport c.args.client_data c.in-Some.id s c.put_new.new.clients.items free left next is put c.put_new.new.numbers
    (c.put_new.ensures.in_time free.free) (c.put_new.ensures.numbered c.self.invariant.2)))

pub returns-in-Err : goal.returns-in-Err
returns-in-Err g c =
    let (free, left, next) = c.in-Some.ensures.next in
    with_plain (inserts_client _ _ _) (rw (← c.self.view_is)
    (insertion_starved _ _ _ _ c.in-Some.id c.put_new.new.clients.items free left next c.in-Err.ensures.unchanged
    c.put_new.new.numbers (c.put_new.ensures.in_time free.free) c.self.invariant.2))

pub invariant_of-self-in-Ok : goal.invariant_of-self-in-Ok
invariant_of-self-in-Ok g c =
    let (s, is, put) = c.in-Ok.ensures.put in (
      record {
        within = c.put_new.ensures.slots c.self.invariant.0.within;
        taken = rw c.slot.ensures (taken_put _ _ _ s
            c.in-Some.ensures.next.0 put);
      },
      (c.put_new.ensures.in_time c.in-Some.ensures.next.0.free).1.keeps c.self.invariant.1,
      c.put_new.ensures.numbered c.self.invariant.2,
      c.put_new.ensures.touched c.self.invariant.3,
    )

pub invariant_of-self-in-Err : goal.invariant_of-self-in-Err
invariant_of-self-in-Err g c = (
  record { within = c.put_new.ensures.slots c.self.invariant.0.within; taken = rw c.in-Err.ensures.unchanged c.self.invariant.0.taken },
  (c.put_new.ensures.in_time c.in-Some.ensures.next.0.free).1.keeps c.self.invariant.1,
  c.put_new.ensures.numbered c.self.invariant.2,
  c.put_new.ensures.touched c.self.invariant.3,
)
