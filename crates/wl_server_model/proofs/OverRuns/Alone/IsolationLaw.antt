-- That what is held of each client is what its own calls and the shared ones lead to alone: over every run.
use Rattle.std.proofs.Common.{◌≡◌, ◌+◌, ◌<◌, ◌≤◌, Bool, true, false, List, [], ◌∷◌, ◌++◌, Some, is_some, Result, Ok, Err, refl, sym, ap, subst, ◌∙◌, arith, true≢false}
use Rattle.std.specs.Prelude.{if◌then◌else◌}
use Rattle.std.proofs.lemmas.Bool.{cases_lt, eqb-true, eq-eqb, false≢true}
use Rattle.wl_wire.specs.Table.{InterfaceRow}
use Rattle.wl_link.specs.Link.{IsFresh}
use Rattle.wl_link.specs.Runs.{RunEntry}
use Rattle.wl_server_client.specs.declared.error.InsertClientError.{InsertClientError}
use Rattle.wl_server_client.specs.declared.error.InsertClientError.TheVariants as insert
use Rattle.wl_server_client.specs.declared.notes.Happening.TheVariants.{Initialized}
use Rattle.wl_server_model.specs.declared.step.Reply.{Reply}
use Rattle.wl_server_model.specs.declared.step.Reply.TheVariants as reply
use Rattle.wl_server_model.specs.declared.step.Step.{Step}
use Rattle.wl_server_client.specs.Deeds.{Deed}
use Rattle.wl_server_client.specs.Globals.{Offer}
use Rattle.wl_server_client.specs.Ids.{ClientParts, same_client}
use Rattle.wl_server_client.specs.Part.{Part, fresh_part}
use Rattle.wl_server_model.specs.PartStep.{Call, InsertedAs, PartCall, Unfelt, World}
use Rattle.wl_server_model.specs.Runs.{Alone, AreOf, EachAlone, Inserts, IsIsolated, IsNeverInserted, IsNotInserted, Leads, Performs, SharedAlone, just_inserted, concerns, mine, offer_over, own_of}
use Rattle.wl_server_model.specs.Server.{Seen, ServerState, new_server, nothing_seen, seen}
use Rattle.wl_server_model.specs.Steps.{Entry, InsertsNext, NumbersClient, inserted_by, offer_after}

-- ---- ids

pub same_self : (id : ClientParts) → same_client id id ≡ true
same_self id = rw (eq-eqb id.slot id.slot refl) (eq-eqb id.serial id.serial refl)

pub later_differs : (new id : ClientParts) → id.serial < new.serial → same_client new id ≡ false
later_differs new id later = grind (arith, eqb-true, false≢true)

-- ---- one step, of a client that is not there or is not meant

module _ {T U G C : Type 0} (w : World T G C) (id : ClientParts) (offer : Offer G) where
  nothing_call : (call : Call T U G C) (lacked : Bool) (did : List (Deed U)) (after : Seen T U C)
      → IsNotInserted id call → PartCall w id offer call nothing_seen lacked did after → Unfelt nothing_seen lacked did after
  nothing_call call lacked did after h1 h2 = grind (arith, true≢false, nothing_seen)

  pub other_call : (call : Call T U G C) (before : Seen T U C) (lacked : Bool) (did : List (Deed U)) (after : Seen T U C)
      → IsNotInserted id call → concerns id call ≡ false → PartCall w id offer call before lacked did after → Unfelt before lacked did after
  other_call call before lacked did after h1 h2 h3 = grind (arith, true≢false)

module _ {T U : Type 0} where
  -- what an insertion answers
  abbrev inserted_in : Reply T U → Result ClientParts InsertClientError
  inserted_in (reply.InsertClient r) = r
  inserted_in _ = Err insert.Full

module _ {T U G C : Type 0} where
  -- ---- clients that were not inserted yet

  pub numbered : (before : ServerState T U G C) (call : Call T U G C) (new : ClientParts) → NumbersClient before call → Inserts new call
      → InsertsNext before.last_client before.clients (Ok new)
  numbered before call new by (transport, client_data, is) = subst (λ (c : Call T U G C). NumbersClient before c) is by

  pub one_more : (call : Call T U G C) (new : ClientParts) → Inserts new call → inserted_by call ≡ 1
  one_more call new (transport, client_data, is) = ap inserted_by is

  -- of an id with a later serial nothing is held
  record Unborn (s : ServerState T U G C) : Type 0 where
    each : (id : ClientParts) → s.last_client < id.serial → seen id s ≡ nothing_seen

  -- ---- runs

  unborn_run : (w : World T G C) (before after : ServerState T U G C) (run : List (Entry T U G C)) → Unborn before → Leads w before run after
      → Unborn after
  unborn_run w before after [] born same = rw same born
  unborn_run w before after (e ∷ run) born (mid, by, leads) = unborn_run w mid after run
      (grind (arith, nothing_call, seen, eqb-true, false≢true, numbered, one_more)) leads

  pub offer_run : (w : World T G C) (before after : ServerState T U G C) (run : List (Entry T U G C)) → Leads w before run after
      → after.offer ≡ offer_over before.offer run
  offer_run w before after [] same = ap (λ (s : ServerState T U G C). s.offer) same
  offer_run w before after (e ∷ run) (mid, by, leads) = grind (arith, offer_over, offer_run w mid after run leads)

  pub offer_over_one : (offer : Offer G) (run : List (Entry T U G C)) (e : Entry T U G C)
      → offer_over offer (run ++ e ∷ []) ≡ offer_after (offer_over offer run) e.call
  offer_over_one offer [] e = refl
  offer_over_one offer (f ∷ run) e = offer_over_one (offer_after offer f.call) run e

  -- a run in two parts leads by way of some value
  pub split_run : (w : World T G C) (before after : ServerState T U G C) (run more : List (Entry T U G C)) → Leads w before (run ++ more) after
      → (mid : ServerState T U G C) × Leads w before run mid × Leads w mid more after
  split_run w before after [] more leads = (before, refl, leads)
  split_run w before after (e ∷ run) more (next, by, leads) =
      let (mid, first, rest) = split_run w next after run more leads in (mid, (next, by, first), rest)

  pub join_runs : (w : World T G C) (before mid after : ServerState T U G C) (run more : List (Entry T U G C)) → Leads w before run mid
      → Leads w mid more after → Leads w before (run ++ more) after
  join_runs w before mid after [] more same leads = subst (λ (s : ServerState T U G C). Leads w s more after) same leads
  join_runs w before mid after (e ∷ run) more (next, by, first) leads = (next, by, join_runs w next mid after run more first leads)

  -- one more entry of a client's own run, or of another's
  alone_more : (w : World T G C) (id : ClientParts) (before mid after : Seen T U C) (offer : Offer G) (e : Entry T U G C) (run : List (Entry T U G C))
      (b : Bool)
      → concerns id e.call ≡ b → IsNotInserted id e.call
      → PartCall w id offer e.call before (e.lacks id) (e.did id) mid
      → Alone w id (offer_after offer e.call) mid (mine id run) after
      → Alone w id offer before (if b then (own_of id e ∷ mine id run) else mine id run) after
  alone_more w id before mid after offer e run b h1 h2 h3 h4 = grind (arith, mine, other_call, true≢false)

  -- what is held of a client that was inserted before is what its own calls and the shared ones lead to
  pub alone_run : (w : World T G C) (id : ClientParts) (before after : ServerState T U G C) (run : List (Entry T U G C))
      → id.serial ≤ before.last_client
      → Leads w before run after → Alone w id before.offer (seen id before) (mine id run) (seen id after)
  alone_run w id before after [] born same = ap (λ (s : ServerState T U G C). seen id s) same
  alone_run w id before after (e ∷ run) born (mid, by, leads) =
      grind (arith, alone_more w id (seen id before) (seen id mid) (seen id after) before.offer e run, later_differs, numbered, alone_run w id mid after run)

  -- ---- the insertion

  new_unborn : (table : List InterfaceRow) → Unborn (new_server {T = T} {U = U} {G = G} {C = C} table)
  new_unborn table = record { each = λ id late. refl }

  -- a client that is stored was given its serial before
  pub known_before : (w : World T G C) (table : List InterfaceRow) (run : List (Entry T U G C)) (after : ServerState T U G C)
      → Leads w (new_server table) run after
      → (id : ClientParts) (p : Part T U C) → (seen id after).part ≡ Some p → id.serial ≤ after.last_client
  known_before w table run after leads id p there = grind (arith, cases_lt, unborn_run, new_server, new_unborn, true≢false, is_some)

  pub each_alone : (w : World T G C) (table : List InterfaceRow) (run : List (Entry T U G C)) (after : ServerState T U G C)
      → Leads w (new_server table) run after → EachAlone w table run after
  each_alone w table run after leads id transport client_data earlier later e is inserts =
      let (mid, first, (next, by, rest)) = split_run w (new_server table) after earlier (e ∷ later) (rw is at leads) in
      let offered = offer_run w (new_server table) mid earlier first in
      let born = unborn_run w (new_server table) mid earlier (new_unborn table) first in
      let number : id.serial ≡ mid.last_client + 1 = (numbered mid e.call id by.client (transport, client_data, inserts)).2 in
      let (r, answered, h) =
      subst (λ (c : Call T U G C). PartCall w id mid.offer c (seen id mid) (e.lacks id) (e.did id) (seen id next)) inserts (by.each id) in
      let inserted =
      subst (λ r. InsertedAs w id mid.offer transport client_data r (seen id mid) (e.lacks id) (e.did id) (seen id next))
      (sym (ap inserted_in answered)) h in
      let (link, fresh, unlacked, did, same) = rw (same_self id) at inserted in
      let begun_so : seen id next ≡ just_inserted link client_data
      = same ∙ ap (λ (s : Seen T U C). record { part = Some (fresh_part link client_data); made = s.made ++ Initialized ∷ [] })
      (born.each id (omega (arith, number))) in (
        link,
        subst (λ (o : Offer G). IsFresh transport (Some o.default_limit) link) offered fresh,
        grind (arith, just_inserted, mine, seen, offer_after, offer_over_one, new_server, alone_run, one_more e.call id (transport, client_data, inserts)),
      )

  -- ---- clients that are not inserted

  unseen_run : (w : World T G C) (id : ClientParts) (before after : ServerState T U G C) (run : List (Entry T U G C)) → seen id before ≡ nothing_seen
      → IsNeverInserted id run → Leads w before run after
      → (seen id after ≡ nothing_seen) × Alone w id before.offer (nothing_seen {T = T} {U = U} {C = C}) (mine id run) nothing_seen
  unseen_run w id before after [] nothing none same = (ap (λ (s : ServerState T U G C). seen id s) same ∙ nothing, refl)
  unseen_run w id before after (e ∷ run) nothing (far, none) (mid, by, leads) =
      grind (arith, nothing_seen, seen, nothing_call, alone_more, concerns, mine, unseen_run w id mid after run)

  -- ---- what all clients share, with its replies

  pub shared_run : (w : World T G C) (before after : ServerState T U G C) (run : List (Entry T U G C)) → Leads w before run after
      → SharedAlone before.offer before.last_client run after.offer after.last_client
  shared_run w before after [] same = (ap (λ (s : ServerState T U G C). s.offer) same, ap (λ (s : ServerState T U G C). s.last_client) same)
  shared_run w before after (e ∷ run) (mid, by, leads) = grind (arith, numbered, offer_after, shared_run w mid after run leads)

  -- over every run of a new server
  pub is_isolated : (w : World T G C) (table : List InterfaceRow) (run : List (Entry T U G C)) (after : ServerState T U G C)
      → Leads w (new_server table) run after → IsIsolated w table run after
  is_isolated w table run after leads = record {
    each = each_alone w table run after leads;
    unseen = λ id none. unseen_run w id (new_server table) after run refl none leads;
    shared = shared_run w (new_server table) after run leads;
  }

  -- steps with their replies have deeds, of each client
  pub performed : (w : World T G C) (before after : ServerState T U G C) (steps : List (RunEntry (Step T U G C) (Reply T U)))
      → Performs w before steps after
      → (run : List (Entry T U G C)) × AreOf steps run × Leads w before run after
  performed w before after [] same = ([], tt, same)
  performed w before after (r ∷ steps) (mid, (e, call, refused, by), leads) =
      let (run, are, rest) = performed w mid after steps leads in (e ∷ run, (call, refused, are), (mid, by, rest))
