use Rattle.std.proofs.lemmas.Grind.{common_steps}
use Rattle.std.proofs.Common.{◌≡◌, Option, List, Some, refl, subst, sym, arith, map}
use Rattle.wl_server_model.specs.Inside.Inserting.{IsPut}
use Rattle.wl_server_client.specs.Stored.{Stored, NoteTimes, no_times}
use Rattle.wl_server_model.proofs.CallSteps.Numbering.{numbered_put, all_but, times_same, times_stored, times_there}
use Rattle.wl_server.proofs.Touched.Kept.{put_touched, stay_touched}
use Rattle.wl_server.proofs.client.insert.put_new.Goals as goal
use Rattle.wl_server_client.specs.NoteTimes.{NotesInTime, times_of}
use Rattle.wl_server_model.specs.NoteOrder.{times_at}

moved : {T U C : Type 0} (xs ys after : List (Option (Stored T U C))) (n m : _) (s : Stored T U C) → xs ≡ ys → n ≡ m → IsPut xs n s after
    → IsPut ys m s after
moved xs ys after n m s lists slots put =
    subst (λ (k : _). IsPut ys k s after) slots (subst (λ (l : List (Option (Stored _ _ _))). IsPut l n s after) lists put)

pub returns : goal.returns
returns g c =
    let put = moved _ _ _ _ _ _ c.in_ok-reserve_slot.ensures.items c.slot-slot.ensures c.put_at.ensures.put in
    record {
      put = (c.in_ok-client.client, rw c.serial-serial.ensures at c.in_ok-client.ensures.inserted, put);
      unchanged = tt;
      slots = grind (arith, common_steps);
      numbers = c.in_ok-client.ensures.numbers;
      numbered = numbered_put _ _ c.args.id.now.slot c.in_ok-client.client put c.in_ok-client.ensures.numbered;
      touched = λ are. put_touched _ _ _ _ _ c.in_ok-client.client c.insert.ensures.to_send c.insert.ensures.to_note
          (moved _ _ _ _ _ _ c.in_ok-reserve_slot.ensures.items refl c.put_at.ensures.put) (stay_touched _ _ _ c.reserve_slot.ensures.touched are);
      in_time = λ none. all_but (map times_of c.args.clients.now.items) (map times_of c.put_at.new.clients.items) c.args.id.now.slot _ _
          (λ k differ. times_same c.args.clients.now.items c.put_at.new.clients.items k (put.1 k differ))
          (subst (λ (t : NoteTimes). NotesInTime t c.args.numbers.now (times_at c.args.id.now.slot
          (map times_of c.put_at.new.clients.items)) c.new.new.numbers) (sym (grind (arith, times_stored c.args.clients.now.items c.args.id.now.slot)))
          (subst (λ (t : NoteTimes). NotesInTime no_times c.args.numbers.now t c.new.new.numbers)
          (sym (times_there c.put_at.new.clients.items c.args.id.now.slot (Some c.in_ok-client.client) put.0)) c.in_ok-client.ensures.in_time));
    }

pub returns-in_err-reserve_slot-clause-touched : goal.returns-in_err-reserve_slot-clause-touched
returns-in_err-reserve_slot-clause-touched g c are = rw c.reserve_slot.ensures.items (stay_touched _ _ _ c.reserve_slot.ensures.touched are)

pub returns-in_err-client-clause-touched : goal.returns-in_err-client-clause-touched
returns-in_err-client-clause-touched g c are = rw c.reserve_slot.ensures.items (stay_touched _ _ _ c.reserve_slot.ensures.touched are)
