-- That each call of a server has one outcome, where memory is not refused, and so each run of calls.
use Rattle.std.proofs.Common.{◌≡◌, Bool, true, false, List, [], ◌∷◌, Ok, Vec, sym, subst, true≢false, arith}
use Rattle.std.specs.Global.{Global}
use Rattle.std.specs.Prelude.{IsTrue}
use Rattle.wl_server_client.specs.declared.notes.Note.{Note}
use Rattle.wl_server_model.specs.declared.step.Reply.{Reply}
use Rattle.wl_server_model.specs.declared.step.Reply.TheVariants as reply
use Rattle.wl_server_model.specs.declared.step.Step.{Step}
use Rattle.wl_server_model.specs.declared.step.Step.TheVariants as step
use Rattle.wl_server_client.specs.Deeds.{Deed}
use Rattle.wl_server_client.specs.Globals.{Offer, with_table}
use Rattle.wl_server_client.specs.Ids.{ClientParts}
use Rattle.wl_server_model.proofs.OverRuns.Outcome.NumberLaws.{inserts_next_one}
use Rattle.wl_server_model.proofs.OverRuns.Outcome.MoveLaws.{IsDetermined}
use Rattle.wl_server_model.specs.Outcome.{SameAnswer, SameCall, SameOutcome, SharedAnswer, SharedSame}
use Rattle.wl_server_model.proofs.OverRuns.Outcome.PartOutcome.{Ample, call_one, part_as}
use Rattle.wl_server_model.specs.PartStep.{Asked, Call, Changed, Grown, PartCall, PartStep, World}
use Rattle.wl_server_model.proofs.OverRuns.Outcome.OfferLaws.{growth_same, offer_one, shared_same}
use Rattle.wl_server_model.specs.Runs.{concerns}
use Rattle.wl_server_model.specs.Server.{Seen, ServerState, seen}
use Rattle.wl_server_model.specs.Steps.{Entry, NumbersClient, AnswersShared, OneStep, RisesBySlot, inserted_by, lacks_growth, offer_after}
use Rattle.wl_server_model.proofs.OverRuns.Outcome.SameNotes.{notes_one, out_one}
use Rattle.wl_server_model.proofs.OverRuns.Outcome.WholeLaws.{ample_by, inserts_there, slots_same, whole_one}
use Rattle.wl_server_model.specs.Outcome.Whole.{HoldsSame, PerformancesHaveOneOutcome, RunsHaveOneOutcome, SameServer, WholeAnswer}
use Rattle.wl_server_model.proofs.OverRuns.Noted.NotesInOrder.{takes_of}
use Rattle.wl_wire.specs.Table.{table_after}

module _ {T U G C : Type 0} where
  -- how many clients a call inserts
  call_inserted : (call call' : Call T U G C) → SameCall call call' → SharedAnswer call call' → inserted_by call ≡ inserted_by call'
  call_inserted call call' h1 h2 = grind (arith, inserted_by)

  -- ---- a call

  module _ (w : World T G C) (known : IsDetermined w) (ordered : Bool) (s t : ServerState T U G C) (same_server : HoldsSame s t)
      (any : ClientParts) (d e : List (Deed U)) (x y : Seen T U C) where
    -- what is shared determines the answers that tell it
    whole_shared : (k : Step T U G C) (p q : Reply T U) → Ample k p → Ample k q → NumbersClient s (Asked k p) → NumbersClient t (Asked k q)
        → AnswersShared s.offer (Asked k p) → AnswersShared s.offer (Asked k q) → PartStep w any s.offer k p (seen any s) false d x
        → PartStep w any s.offer k q (seen any s) false e y → SharedSame k p q
    whole_shared (step.InsertClient transport client_data) p q ample ample' c c' n n' (r, is, h) (r', is', g) =
        grind (arith, true≢false, inserts_next_one s.last_client s.clients r r', inserts_there s.last_client t.clients s.clients, slots_same s t same_server)
    whole_shared (step.CreateGlobal i version handler) p q ample ample' c c' n n' h g = grind (arith, shared_same)
    whole_shared k p q ample ample' c c' n n' h g = tt

    call_whole : (call call' : Call T U G C) → SameCall call call' → lacks_growth call ≡ false → lacks_growth call' ≡ false → NumbersClient s call
        → NumbersClient t call' → AnswersShared s.offer call → AnswersShared s.offer call' → RisesBySlot call → RisesBySlot call'
        → ((out out' : Vec (Note U) Global) → call ≡ Asked step.TakeNotes (reply.TakeNotes (Ok out))
        → call' ≡ Asked step.TakeNotes (reply.TakeNotes (Ok out')) → IsTrue ordered → out.items ≡ out'.items)
        → (SharedAnswer call call' → (id : ClientParts) → concerns id call ≡ true → SameAnswer id call call')
        → PartCall w any s.offer call (seen any s) false d x → PartCall w any s.offer call' (seen any s) false e y
        → WholeAnswer ordered call call' × SharedAnswer call call'
    call_whole (Asked k p) (Asked k' q) same ample ample' c c' n n' rises rises' took each h g =
        let there = part_as w known any s.offer (seen any s) d e x y k k' q same g in
        let shared = whole_shared k p q ample ample' c (grind (arith)) n (grind (arith, s.offer)) h there in (
          whole_one ordered w any s.offer (seen any s) d e x y k p q (each shared) shared ample ample' rises (grind (arith))
              (λ out out' taking is is'. took out out' (cc) (grind (arith, taking))) h there,
          shared,
        )
    call_whole (Changed target v) (Changed target' v') same ample ample' c c' n n' rises rises' took each h g = (tt, tt)
    call_whole (Grown rows p) (Grown rows' q) same ample ample' c c' n n' rises rises' took each h g =
        let answers = growth_same T U G C s.offer rows rows' p q same ample ample' n n' in (answers, answers)
    call_whole _ _ same ample ample' c c' n n' rises rises' took each h g = absurd same

  -- each call has one outcome
  pub entry_one : (w : World T G C) → IsDetermined w → (s t x y : ServerState T U G C) (e f : Entry T U G C) (ordered : Bool) → SameServer ordered s t
      → SameCall e.call f.call
      → e.refused ≡ false → f.refused ≡ false → OneStep w s e x → OneStep w t f y
      → WholeAnswer ordered e.call f.call × ((id : ClientParts) → e.did id ≡ f.did id) × SameServer ordered x y
  entry_one w known s t x y e f ordered whole same_call none none' by by' =
      let same = whole.held in
      let ample = ample_by e by.refused none in
      let ample' = ample_by f by'.refused none' in
      let here : (id : ClientParts) → PartCall w id s.offer e.call (seen id s) false (e.did id) (seen id x)
      = λ id. subst (λ (b : Bool). PartCall w id s.offer e.call (seen id s) b (e.did id) (seen id x)) (ample.1 id) (by.each id) in
      let there : (id : ClientParts) → PartCall w id s.offer f.call (seen id s) false (f.did id) (seen id y)
      = grind (arith, seen) in
      let numbers = subst (λ (o : Offer G). AnswersShared o f.call) (sym same.offer) by'.global in
      let any : ClientParts = record { slot = 0; serial = 0 } in
      let each : SharedAnswer e.call f.call → (id : ClientParts) → SameOutcome id e.call f.call (e.did id) (f.did id) (seen id x) (seen id y)
      = λ shared id. call_one w known id s.offer (seen id s) (e.did id) (f.did id) (seen id x) (seen id y) e.call f.call same_call ample.0 ample'.0
      shared (here id) (there id) in
      let one = call_whole w known ordered s t same any (e.did any) (f.did any) (seen any x) (seen any y) e.call f.call same_call ample.0 ample'.0
      by.client by'.client by.global numbers by.order by'.order
      (λ out out' is is' counts. out_one s t (whole.order counts) same.each out.items out'.items (takes_of w s e x out is by)
      (takes_of w t f y out' is' by'))
      (λ shared id own. (each shared id).reply own) (here any) (there any) in (
        one.0,
        λ id. (each one.1 id).deeds,
        record {
          held = grind (arith, offer_one, offer_after, with_table, table_after, call_inserted, inserted_by, each one.1);
          order = λ counts. notes_one w s t x y e f (whole.order counts) (λ id. (each one.1 id).held) same_call ample.0 ample'.0 by by';
        },
      )

  -- ---- runs

  pub run_one : (w : World T G C) → IsDetermined w → RunsHaveOneOutcome U w
  run_one w known ordered s t x y [] [] same calls h g = grind (arith)
  run_one w known ordered s t x y (e ∷ run) (f ∷ run') same (call, none, none', calls) (mid, by, leads) (mid', by', leads') =
      let one = entry_one w known s t mid mid' e f ordered same call none none' by by' in
      let rest = run_one w known ordered mid mid' x y run run' one.2 calls leads leads' in
      ((one.0, one.1, rest.0), rest.1)
  run_one w known ordered s t x y _ _ same calls h g = absurd calls

  -- ---- steps with their replies

  pub performance_one : (w : World T G C) → IsDetermined w → PerformancesHaveOneOutcome U w
  performance_one w known ordered s t x y [] [] [] n n' same h g = grind (arith)
  performance_one w known ordered s t x y (k ∷ steps) (p ∷ replies) (q ∷ replies') n n' same (mid, (e, call, none, by), leads)
      (mid', (f, call', none', by'), leads') =
      let one = entry_one w known s t mid mid' e f ordered same (grind (arith, e.call, f.call)) none none' by by' in
      let rest = performance_one w known ordered mid mid' x y steps replies replies' (omega (arith, n)) (omega (arith, n')) one.2 leads leads' in
      (((grind (arith, e.call, f.call, one.0)), rest.0), rest.1)
  performance_one w known ordered s t x y _ _ _ n n' same h g = absurd (omega (arith, n, n'))
