-- That the offer after a run has one outcome: the shared calls determine it.
use Rattle.std.proofs.Common.{◌≡◌, Bool, true, false, List, [], ◌∷◌, Result, refl, ap, ◌∙◌, true≢false, arith}
use Rattle.std.specs.Prelude.{if◌then◌else◌}
use Rattle.wl_wire.specs.declared.protocol.TableError.{TableError}
use Rattle.wl_wire.specs.Table.{AnswersTo, Growth, table_after}
use Rattle.wl_wire.proofs.Extension.{AnswersTo-unique}
use Rattle.wl_server_client.specs.declared.error.GlobalError.{GlobalError}
use Rattle.wl_server_model.specs.declared.step.Reply.{Reply}
use Rattle.wl_server_model.specs.declared.step.Reply.TheVariants as reply
use Rattle.wl_server_model.specs.declared.step.Step.{Step}
use Rattle.wl_server_model.specs.declared.step.Step.TheVariants as step
use Rattle.wl_server_client.specs.Globals.{Offer, with_table}
use Rattle.wl_server_client.specs.Ids.{ClientParts, GlobalParts}
use Rattle.wl_server_model.proofs.OverRuns.Alone.IsolationLaw.{offer_run}
use Rattle.wl_server_model.proofs.OverRuns.Outcome.PartOutcome.{Ample}
use Rattle.wl_server_model.proofs.OverRuns.Alone.OwnRuns.{are_mine}
use Rattle.wl_server_model.specs.Outcome.{AreAmple, AreNumbered, AreOwn, OffersHaveOneOutcome, SameCall, SameSteps, SharedAnswer, SharedSame}
use Rattle.wl_server_model.specs.PartStep.{Asked, Call, Changed, Grown, World}
use Rattle.wl_server_model.specs.Runs.{Leads, Own, concerns, is_about, mine, offer_over, own_of}
use Rattle.wl_server_model.specs.Server.{ServerState, new_server}
use Rattle.wl_server_model.specs.Steps.{Entry, AnswersShared, lacks_growth, offer_after}
use Rattle.wl_server_model.proofs.GlobalCalls.AtName.{creates_one}

-- ---- a table that was to grow

-- what is shared determines the answer
pub growth_same : (T U G C : Type 0) (offer : Offer G) (rows rows' : Growth) (p q : Result (Unit {0}) TableError) → rows ≡ rows'
    → lacks_growth {T = T} {U = U} {G = G} {C = C} (Grown rows p) ≡ false → lacks_growth {T = T} {U = U} {G = G} {C = C} (Grown rows' q) ≡ false
    → AnswersTo offer.table rows p → AnswersTo offer.table rows' q → p ≡ q
growth_same T U G C offer rows rows' p q same ample ample' n n' = grind (arith, true≢false, AnswersTo-unique)

module _ {T U G C : Type 0} where
  -- ---- a call

  -- the offer after two calls of one step, where they are answered alike
  pub offer_one : (offer : Offer G) (s : Step T U G C) (p q : Reply T U) → SharedSame s p q
      → offer_after offer (Asked s p) ≡ offer_after offer (Asked s q)
  offer_one offer s p q shared = grind (arith, offer_after)

  -- the creation of a global is answered as one
  abbrev pub Answered : Call T U G C → Type 0
  Answered (Asked (step.CreateGlobal _ _ _) answer) = (r : Result GlobalParts GlobalError) × (answer ≡ reply.CreateGlobal r)
  Answered _ = Unit {0}

  module _ (id : ClientParts) (offer : Offer G) where
    -- a client's own calls and the shared ones are answered alike, where their answers tell what all clients share
    pub shared_same : (s : Step T U G C) (p q : Reply T U) → is_about id s ≡ true → Ample s p → Ample s q → AnswersShared offer (Asked s p)
        → AnswersShared offer (Asked s q)
        → Answered (Asked s p) → Answered (Asked s q) → SharedSame s p q
    shared_same s p q h1 h2 h3 h4 h5 h6 h7 = grind (arith, true≢false, creates_one)

    -- so it is of calls: they are answered alike, and leave one offer
    pub shared_call : (call call' : Call T U G C) → SameCall call call' → concerns id call ≡ true → lacks_growth call ≡ false
        → lacks_growth call' ≡ false
        → AnswersShared offer call → AnswersShared offer call' → Answered call → Answered call'
        → SharedAnswer call call' × (offer_after offer call ≡ offer_after offer call')
    shared_call (Asked s p) (Asked s' q) same own ample ample' n n' h g = grind (arith, shared_same, offer_one, offer_after)
    shared_call (Changed target t) (Changed target' t') same own ample ample' n n' h g = (tt, refl)
    shared_call (Grown rows p) (Grown rows' q) same own ample ample' n n' h g =
        let answers = growth_same T U G C offer rows rows' p q same ample ample' n n' in (answers, (grind (arith, with_table, table_after)))
    shared_call _ _ same own ample ample' n n' h g = absurd same

  -- ---- a run

  -- the offer after the calls that one client's run has
  abbrev own_offer : Offer G → List (Own T U G C) → Offer G
  own_offer offer [] = offer
  own_offer offer (e ∷ run) = own_offer (offer_after offer e.call) run

  abbrev AreAnswered : List (Own T U G C) → Type 0
  AreAnswered [] = Unit {0}
  AreAnswered (e ∷ run) = Answered e.call × AreAnswered run

  own_offer_one : (id : ClientParts) (offer : Offer G) (run run' : List (Own T U G C)) → AreOwn id run → SameSteps run run' → AreAmple run
      → AreAmple run'
      → AreNumbered offer run → AreNumbered offer run' → AreAnswered run → AreAnswered run' → own_offer offer run ≡ own_offer offer run'
  own_offer_one id offer [] [] own same ample ample' n n' h g = refl
  own_offer_one id offer (e ∷ run) (f ∷ run') (own, owns) (same, others) (ample, rest) (ample', rest') (n, more) (n', more') (h, answered)
      (g, answered') =
      let shared = shared_call id offer e.call f.call same own ample ample' n n' h g in
      own_offer_one id (offer_after offer e.call) run run' owns others rest rest' more (rw (← shared.1) at more') answered answered'
      ∙ ap (λ (o : Offer G). own_offer o run') shared.1
  own_offer_one id offer _ _ own same ample ample' n n' h g = absurd same

  pub mine_numbered : (w : World T G C) (id : ClientParts) (before after : ServerState T U G C) (run : List (Entry T U G C))
      → Leads w before run after
      → AreNumbered before.offer (mine id run)
  mine_numbered w id before after [] same = tt
  mine_numbered w id before after (e ∷ run) (mid, by, leads) = grind (arith, true≢false, concerns, mine, mine_numbered w id mid after run leads)

  mine_answered : (w : World T G C) (id : ClientParts) (before after : ServerState T U G C) (run : List (Entry T U G C)) → Leads w before run after
      → AreAnswered (mine id run)
  mine_answered w id before after [] same = tt
  mine_answered w id before after (e ∷ run) (mid, by, leads) = grind (arith, concerns, mine_answered w id mid after run leads)

  -- the calls of others leave the offer
  offer_more : (id : ClientParts) (offer : Offer G) (e : Entry T U G C) (run : List (Entry T U G C)) (b : Bool) → concerns id e.call ≡ b
      → own_offer (offer_after offer e.call) (mine id run) ≡ offer_over (offer_after offer e.call) run
      → own_offer offer (if b then (own_of id e ∷ mine id run) else mine id run) ≡ offer_over (offer_after offer e.call) run
  offer_more id offer e run h5 is more = grind (arith, own_offer, mine, true≢false)

  mine_offer : (id : ClientParts) (offer : Offer G) (run : List (Entry T U G C)) → own_offer offer (mine id run) ≡ offer_over offer run
  mine_offer id offer [] = refl
  mine_offer id offer (e ∷ run) = offer_more id offer e run (concerns id e.call) refl (mine_offer id (offer_after offer e.call) run)

  pub offers_one : (w : World T G C) → OffersHaveOneOutcome U w
  offers_one w table id run run' after after' leads leads' same ample ample' =
      grind (arith, offer_run, new_server, mine_offer, own_offer_one, mine, are_mine, mine_numbered, mine_answered)
