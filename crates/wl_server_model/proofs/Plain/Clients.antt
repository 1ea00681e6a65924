-- The calls on clients: one is inserted, gets a limit, is killed, or is told of an error; what waits is flushed, and killed clients leave.
use Rattle.wl_server_client.proofs.Readings.Finishing.{where_none, where_some, wanted_memory}
use Rattle.std.proofs.Common.{◌≡◌, ℕ, Bool, List, None, Some, Result, Ok, Err, MatchOption, refl, ap, ◌∙◌, arith, sym, false, append-nil, true, cond, [], ◌∷◌, is_some, true≢false, Option, ◌++◌, map, subst}
use Rattle.wl_link.specs.Link.{LimitSet, LinkState, Flushed}
use Rattle.wl_server_client.specs.declared.error.InsertClientError.{InsertClientError}
use Rattle.wl_server_model.specs.Backend.{BackendState, Calls}
use Rattle.wl_server_client.specs.Deeds.{Deed, notes_in, Noted}
use Rattle.wl_server_client.specs.Ids.{ClientParts, same_client, IdParts}
use Rattle.wl_server_client.specs.Part.{Part, named, with_link}
use Rattle.wl_server_model.specs.PartStep.{InsertedAs, Quietly, World, FlushedFor, Call, CleanedAs, share_of, Asked, OnPart}
use Rattle.wl_server_model.specs.Plain.Calls.{InsertsClient, NewClientAs, SetsLimit}
use Rattle.wl_server_model.specs.Server.{Seen, seen}
use Rattle.wl_server_model.proofs.CallSteps.Slots.{same_self}
use Rattle.wl_server_model.proofs.Plain.Base.{IsOfOne, OnOne, became, not_stored, by_growth, calm, made_stay, names_stay, of_each, of_one, offer_of, when_false, when_true, nothing_changes, nothing_new, split_bool, some_lacks, none_and_some, one_value, unchanged, part_of_call}
use Rattle.std.specs.Prelude.{option_map, ◌==◌, MatchBool, ◌⊎◌, Vec}
use Rattle.wl_server_client.specs.declared.notes.DisconnectReason.{DisconnectReason}
use Rattle.wl_server_model.specs.Plain.{KillsClient, as_killed, end_note_of, IsUnchanged, FlushMemory, FlushedAs, FlushesClients, CleansUpClients, HandsOut, TakesNotes, OtherClientsStay}
use Rattle.wl_server_client.specs.Telling.{Kills, Core, Tells, core_of, end_deeds, killed, part_of}
use mathlib.Core.Logic.{inl, inr}
use Rattle.wl_wire.specs.declared.error.IoFault.{IoFault}
use Rattle.wl_wire.specs.Table.{InterfaceRow}
use Rattle.wl_link.specs.Exchange.{Queue}
use Rattle.wl_server_client.specs.declared.notes.DisconnectReason.TheVariants.{ConnectionClosed, ProtocolError as BrokeProtocol}
use Rattle.wl_server_client.specs.declared.notes.Happening.TheVariants.{Disconnected}
use Rattle.wl_server_client.specs.Errors.{PostsError, error_of, posts}
use Rattle.wl_server_model.specs.Plain.Events.{ErrorPostedAs, IsReasonOfError, KillsForError}
use Rattle.wl_server_model.proofs.Plain.Verdicts.{IsTold, not_put, no_memory, told, put_all}
use Rattle.wl_link.proofs.Calls.Branches.{either_bool, either_option}
use Rattle.wl_link.specs.Puts.{lacks_memory}
use Rattle.wl_server_client.specs.Felt.{FlushedTo, Cleaned}
use Rattle.wl_server_client.specs.Globals.{Offer}
use Rattle.wl_server_model.specs.Lookups.{client_of}
use Rattle.wl_server_client.proofs.Readings.Notes.{notes_of_sends}
use Rattle.std.specs.Global.{Global}
use Rattle.wl_wire.specs.declared.error.OutOfMemory.{OutOfMemory}
use Rattle.wl_server_client.specs.declared.notes.Happening.{Happening}
use Rattle.wl_server_client.specs.declared.notes.Note.{Note}
use Rattle.wl_server_model.specs.Steps.{RisesBySlot, lacks_growth, Makes, offer_after}
use Rattle.wl_server_model.specs.declared.step.Reply.TheVariants as reply
use Rattle.wl_server_model.specs.declared.step.Step.TheVariants as step
use Rattle.wl_wire.specs.declared.error.IoFault.TheVariants as fault

-- ---- a client that is inserted, and limits

module _ {T U G C : Type 0} {w : World T G C} {before after : BackendState T U G C} (transport : T) (client_data : C) where
  insert_each : (answer : Result ClientParts InsertClientError)
      → Calls w before (step.InsertClient transport client_data) (reply.InsertClient answer) after → (id : ClientParts)
      → (lacked : Bool) × (did : List (Deed U))
      × InsertedAs w id before.server.offer transport client_data answer (seen id before.server) lacked did (seen id after.server)
  insert_each answer call id =
      let (lacked, did, (r, is, h)) = of_each call id in grind (arith, seen)

  inserted_as : (answer : Result ClientParts InsertClientError)
      → Calls w before (step.InsertClient transport client_data) (reply.InsertClient answer) after
      → NewClientAs before transport client_data answer after
  inserted_as (Ok id) call =
      let (lacked, did, h) = insert_each (Ok id) call id in
      let (link, fresh, calm', noted, is) = when_true _ (same_client id id) (same_self id) h in
      let others : OtherClientsStay before id after = λ other differ. let (lacked, did, h) = insert_each
      (Ok id) call other in (when_false _ (same_client id other) differ h).2 in
      (link, fresh, ap (λ (x : Seen T U C). x.part) is, ap (λ (x : Seen T U C). x.made) is, others)
  inserted_as (Err e) call = λ id. let (lacked, did, h) = insert_each (Err e) call id in h.2

  pub inserts_client : (answer : Result ClientParts InsertClientError)
      → Calls w before (step.InsertClient transport client_data) (reply.InsertClient answer) after
      → InsertsClient before transport client_data answer after
  inserts_client answer call = grind (arith, inserted_as, offer_of, by_growth, same_client)

-- the buffers of a client get a limit
abbrev Limits : {T U C : Type 0} → ℕ → ClientParts → Bool → List (Deed U) → Part T U C → Part T U C → Type 0
Limits limit id lacked did p q = Quietly lacked did ((link : LinkState _) × LimitSet p.link (Some limit) link × (q ≡ with_link p link))

module _ {T U G C : Type 0} {w : World T G C} {before after : BackendState T U G C} where
  pub sets_limit : (id : ClientParts) (limit : ℕ) → Calls w before (step.SetClientMaxBufferSize id limit) reply.SetClientMaxBufferSize after
      → SetsLimit before id limit after
  sets_limit id limit call = record {
    client = limited _ _ after.refused one.own;
    clients = one.clients;
    objects = λ o. names_stay one o (λ about did p q there (calm, none, (link, set, is)). ap (λ (x : Part T U C). named x.store o) is);
    notes = made_stay one (λ did p q r. ap notes_in r.1);
    offer = one.globals;
    memory = elim one.own [ not_stored none u calm same ↦ calm | became p q did there r same ↦ r.0 ];
  }
    where
      one : IsOfOne before after id (Limits limit id) (Unit {0})
      one = of_one call.step id (Limits limit) (Unit {0}) (λ id s t lacked did (is, h). h) refl refl refl

      limited : (s t : Seen T U C) (lacked : Bool) → OnOne (Limits limit id) (Unit {0}) s lacked t
          → MatchOption s.part (t.part ≡ None) (λ p. (link : LinkState T) × LimitSet p.link (Some limit) link × (t.part ≡ Some (with_link p link)))
      limited s t lacked h =
          elim h [
            | not_stored none u none_lacked same ↦ where_none s.part (sym none) _ _ (ap (λ (x : Seen T U C). x.part) same ∙ none)
            | became p q did there (none_lacked, nothing, (link, set, is)) same ↦ where_some s.part p (sym there) _ _
                (link, set, ap (λ (x : Seen T U C). x.part) same ∙ ap Some is)
          ]

-- ---- a client that is killed

-- what the call does to the client
abbrev KillsFor : {T U C : Type 0} → DisconnectReason → ClientParts → Bool → List (Deed U) → Part T U C → Part T U C → Type 0
KillsFor reason client lacked did p q = (lacked ≡ false) × Kills p reason did q

module _ {T U G C : Type 0} {w : World T G C} {before after : BackendState T U G C} where
  pub kills_client : (id : ClientParts) (reason : DisconnectReason) → Calls w before (step.KillClient id reason) reply.KillClient after
      → KillsClient before id reason after
  kills_client id reason call = grind (arith, one, names_stay one, append-nil, end_note_of, option_map, as_killed, named)
    where
      one : IsOfOne before after id (KillsFor reason id) (Unit {0})
      one = of_one call.step id (KillsFor reason) (Unit {0}) (λ id s t lacked did (is, h). h) refl refl refl

-- ---- an error that the program posts

module _ {T U C : Type 0} (sends : T → Queue → Result ℕ IoFault → T → Type 0) (table : List InterfaceRow) (id : IdParts) (code : ℕ)
    (text : List ℕ) where
  -- the client is killed for this reason, and otherwise as it was but for its link
  record IsEnded (p : Part T U C) (did : List (Deed U)) (q : Part T U C) : Type 0 where
    reason : DisconnectReason
    is_reason : IsReasonOfError table id code text reason
    core_is : core_of q ≡ core_of (as_killed p)
    noted : notes_in did ≡ cond p.is_killed [] (Disconnected reason ∷ [])

  ends : (p q : Part T U C) (lacked : Bool) (did : List (Deed U)) → Tells sends (posts table (core_of p) id code text) p.link lacked did q
      → IsEnded p did q
  ends p q lacked did h =
      elim t.came [
        | put_all is calm ↦ so (BrokeProtocol (error_of table id code text)) (inl refl) is
        | not_put unput is calm ↦ so ConnectionClosed (inr refl) is
        | no_memory asks is lacks ↦ so ConnectionClosed (inr refl) is
      ]
    where
      t : IsTold (posts table (core_of p) id code text) lacked did q
      t = told sends (posts table (core_of p) id code text) p.link lacked did q h

      so : (reason : DisconnectReason) → IsReasonOfError table id code text reason → t.core ≡ killed (core_of p) reason → IsEnded p did q
      so reason right is = record {
        reason = reason;
        is_reason = right;
        core_is = ap core_of t.part_is ∙ ap (λ (c : Core U C). core_of (part_of (record { core = c; link = t.link }))) is;
        noted = t.notes_are ∙ ap (λ (c : Core U C). notes_in {U = U} (end_deeds c.ended)) is ∙ (grind (arith, p.is_killed, reason));
      }

-- what the call does to its client
abbrev PostsFor : {T U C : Type 0} → (T → Queue → Result ℕ IoFault → T → Type 0) → List InterfaceRow → IdParts → ℕ → List ℕ → ClientParts → Bool
    → List (Deed U) → Part T U C → Part T U C → Type 0
PostsFor sends table id code text client lacked did p q = PostsError sends table p id code text lacked did q

null_same : {T U C : Type 0} (sends : T → Queue → Result ℕ IoFault → T → Type 0) (table : List InterfaceRow) (id : IdParts) (code : ℕ) (text : List ℕ)
    (s t : Seen T U C) (lacked : Bool)
    → (id.number == 0) ≡ true → OnOne (PostsFor sends table id code text id.client) (Unit {0}) s lacked t → t ≡ s
null_same sends table id code text s t lacked null h = grind (arith, when_true, nothing_new, notes_in, append-nil)

module _ {T U G C : Type 0} {w : World T G C} {before after : BackendState T U G C} where
  pub kills_for_error : (id : IdParts) (code : ℕ) (text : List ℕ) → Calls w before (step.PostError id code text) reply.PostError after
      → KillsForError before id code text after
  kills_for_error id code text call = record {
    client = by_number (id.number == 0) refl;
    objects = λ o. names_stay one o (λ about did p q there r. (grind (arith, split_bool, ends, named)));
    clients = one.clients;
    globals = one.globals;
    memory = λ known. (grind (arith, one, true≢false, when_true, is_some));
  }
    where
      one : IsOfOne before after id.client (PostsFor w.sends before.server.offer.table id code text id.client) (Unit {0})
      one = of_one call.step id.client (PostsFor w.sends before.server.offer.table id code text) (Unit {0})
          (λ client s t lacked did (is, h). h) refl refl refl

      posted : (id.number == 0) ≡ false → ErrorPostedAs before id code text after
      posted some =
          elim one.own [
            | not_stored none is calm same ↦ (ConnectionClosed, inr refl, (grind (arith, option_map, core_of, as_killed)), (grind (arith, append-nil, end_note_of)))
            | became p q did there does same ↦
                let e = ends w.sends before.server.offer.table id code text p q after.refused did (when_false _ (id.number == 0) some does) in
                (e.reason, e.is_reason, (grind (arith, option_map, core_of, as_killed)), (grind (arith, end_note_of)))
          ]

      by_number : (b : Bool) → (id.number == 0) ≡ b → MatchBool b (IsUnchanged before after) (ErrorPostedAs before id code text after)
      by_number true null = nothing_changes one (null_same w.sends before.server.offer.table id code text _ _ after.refused null one.own)
      by_number false some = posted some

-- ---- what waits for clients is flushed

-- what the flush of one client does to it
abbrev FlushesFor : {T U C : Type 0} → (T → Queue → Result ℕ IoFault → T → Type 0) → Result (Unit {0}) IoFault → ClientParts → Bool → List (Deed U)
    → Part T U C → Part T U C → Type 0
FlushesFor sends answer id lacked did p q = FlushedTo sends p answer lacked did q

-- all of a client but its link is as before, and nothing is noted
abbrev Relinked : {T U C : Type 0} → Seen T U C → Seen T U C → Type 0
Relinked s t =
    (t ≡ s) ⊎ ((p : Part _ _ _) × (link : LinkState _) × (s.part ≡ Some p) × (t ≡ record { part = Some (with_link p link); made = s.made }))

module _ {T U G C : Type 0} (w : World T G C) (id : ClientParts) (offer : Offer G) (s t : Seen T U C) (lacked : Bool) (did : List (Deed U)) where
  relinked : {R : Part T U C → Part T U C → Type 0} (missing : Type 0) → OnPart s R missing lacked did t
      → ((p q : Part T U C) → R p q → (link : LinkState T) × (q ≡ with_link p link) × (notes_in did ≡ [])) → Relinked s t
  relinked missing h each =
      elim (either_option s.part h) [
        | inl (none, (m, (calm, nothing, same))) ↦ inl same
        | inr (p, there, (q, r, same)) ↦ let (link, is, none) = each p q r in inr (p, link, there, (grind (arith, append-nil, is, none, same)))
      ]

  relinks : (target : Option ClientParts) (answer : Result (Unit {0}) IoFault) → FlushedFor w id offer target answer s lacked did t → Relinked s t
  relinks None answer (ok, h) = relinked _ h (λ p q flushes. elim (either_bool p.is_killed flushes) [
    | inl (calm, none, same) ↦ (p.link, same, ap notes_in none)
    | inr (a, (es, link, by, memory, did_so, is)) ↦ (link, is, ap notes_in did_so ∙ notes_of_sends es)
  ])
  relinks (Some target) answer h = elim (either_bool (same_client target id) h) [
    | inl on ↦ relinked _ on (λ p q (es, link, by, memory, did_so, is). (link, is, ap notes_in did_so ∙ notes_of_sends es))
    | inr (calm, none, same) ↦ inl same
  ]

  -- a killed client is not flushed with all
  killed_stays : (answer : Result (Unit {0}) IoFault) (p : Part T U C) → s.part ≡ Some p → p.is_killed ≡ true
      → FlushedFor w id offer None answer s lacked did t → t ≡ s
  killed_stays answer p there killed (ok, h) = grind (arith, either_option, split_bool, nothing_new, notes_in, true≢false, append-nil)

module _ {T U G C : Type 0} {w : World T G C} {before after : BackendState T U G C} where
  flush_each : (target : Option ClientParts) (answer : Result (Unit {0}) IoFault) → Calls w before (step.Flush target) (reply.Flush answer) after
      → (id : ClientParts)
      → (lacked : Bool) × (did : List (Deed U))
      × FlushedFor w id before.server.offer target answer (seen id before.server) lacked did (seen id after.server)
  flush_each target answer call id =
      let (lacked, did, (r, is, h)) = of_each call id in let e : r ≡ answer = cc in (lacked, did, rw e at h)

  flush_one : (id : ClientParts) (answer : Result (Unit {0}) IoFault) → Calls w before (step.Flush (Some id)) (reply.Flush answer) after
      → IsOfOne before after id (FlushesFor w.sends answer id) (answer ≡ Ok tt)
  flush_one id answer call =
      of_one call.step id (FlushesFor w.sends answer) _ (λ client s t lacked did (r, is, h). let e : r ≡ answer = cc in rw e at h) refl refl refl

  flushed_as : (target : Option ClientParts) (answer : Result (Unit {0}) IoFault) → Calls w before (step.Flush target) (reply.Flush answer) after
      → FlushedAs w.sends before target answer after
  flushed_as None answer call = (
    (let (lacked, did, h) = flush_each None answer call (record { slot = 0; serial = 0 }) in h.0),
    λ id p there killed. let (lacked, did, h) =
        flush_each None answer call id in killed_stays w id before.server.offer _ _ lacked did answer p there killed h,
  )
  flushed_as (Some id) answer call =
      let one = flush_one id answer call in
      elim one.own [
        | not_stored none ok calm same ↦ (where_none _ (sym none) _ _ (ok, nothing_changes one same), one.clients)
        | became p q did there (es, link, by, memory, did_so, is) same ↦ (where_some _ p (sym there) _ _ (link, (es, by), ap (λ (x : Seen T U C). x.part) same ∙ ap Some is), one.clients)
      ]

  flush_memory : (target : Option ClientParts) (answer : Result (Unit {0}) IoFault) → Calls w before (step.Flush target) (reply.Flush answer) after
      → FlushMemory w.sends before target answer after
  flush_memory None answer call =
      λ known.
      let (id, did, (r, is, (ok, h))) = some_lacks call refl known in
      elim (either_option (client_of before.server id) h) [
        | inl (none, (u, (calm, nothing, stays))) ↦ absurd (true≢false calm)
        | inr (p, there, (q, flushes, same)) ↦
            elim (split_bool p.is_killed flushes) [
              | inl (dead, (calm, nothing, stays)) ↦ absurd (true≢false calm)
              | inr (live, (a, (es, link, by, memory, did_so, is))) ↦
                  (id, p, link, there, live, (es, rw (wanted_memory a (sym memory)) at by), ap (λ (x : Seen T U C). x.part) same ∙ ap Some is)
            ]
      ]
  flush_memory (Some id) answer call = let one = flush_one id answer call in grind (arith, one, lacks_memory)

  pub flushes_clients : (target : Option ClientParts) (answer : Result (Unit {0}) IoFault)
      → Calls w before (step.Flush target) (reply.Flush answer) after
      → FlushesClients w.sends before target answer after
  flushes_clients target answer call =
      let each : (id : ClientParts) → Relinked (seen id before.server) (seen id after.server)
      = λ id. let (lacked, did, h) = flush_each target answer call id in relinks w id before.server.offer _ _ lacked did target answer h in
      record {
        answered = flushed_as target answer call;
        cores = λ id. (grind (arith, each id, option_map, core_of));
        notes = λ id. (grind (arith, each id));
        objects = λ o. (grind (arith, each o.client, named));
        globals = offer_of call;
        memory = flush_memory target answer call;
      }

-- ---- killed clients leave, and notes are handed out

all_noted : {U : Type 0} (notes : List (Happening U)) → notes_in (map Noted notes) ≡ notes
all_noted [] = refl
all_noted (n ∷ notes) = ap (λ (ns : List (Happening _)). n ∷ ns) (all_noted notes)

-- ---- a cleanup

module _ {T U G C : Type 0} (w : World T G C) (id : ClientParts) (offer : Offer G) (out : Vec (ClientParts × T) Global) (s t : Seen T U C)
    (lacked : Bool) (did : List (Deed U))
    (h : CleanedAs w id offer (Ok out) s lacked did t) where
  -- a stored client
  cleaned : (p : Part T U C) → s.part ≡ Some p
      → (q : Option (Part T U C)) × Cleaned w.sends id p lacked did (share_of id out.items) q
      × (t ≡ record { part = q; made = s.made ++ notes_in did })
  cleaned p there = grind (arith, either_option, none_and_some, share_of, one_value)

  cleaned_killed : (p : Part T U C) → s.part ≡ Some p → p.is_killed ≡ true → HandsOut w.sends p (share_of id out.items) t.part
  cleaned_killed p there killed =
      let (q, cleans, same) = cleaned p there in
      let (sent, answer, end, (es, link, by, memory, did_so, is), did_all, handed, gone) = when_true _ p.is_killed killed cleans in
      (answer, link, (es, by), handed ∙ ap (λ (x : Part T U C). x.link.transport ∷ []) is, ap (λ (x : Seen T U C). x.part) same ∙ gone)

  cleaned_live : (p : Part T U C) → s.part ≡ Some p → p.is_killed ≡ false
      → (share_of id out.items ≡ []) × (t.part ≡ Some (record p { waiting = [] })) × (t.made ≡ s.made ++ p.waiting)
  cleaned_live p there live = grind (arith, cleaned, when_false, all_noted)

  -- the last flush of a killed client lacked memory
  cleaned_lacks : lacked ≡ true → (p : Part T U C) × (link : LinkState T) × (s.part ≡ Some p) × (p.is_killed ≡ true)
      × Flushed w.sends p.link (Err fault.OutOfMemory) link × (share_of id out.items ≡ link.transport ∷ [])
  cleaned_lacks lacks =
      elim (either_option s.part h) [
        | inl (none, (nobody, (calm, nothing, stays))) ↦ absurd (true≢false (sym lacks ∙ calm))
        | inr (p, there, (q, cleans, same)) ↦
            elim (split_bool p.is_killed cleans) [
              | inl (dead, (flushed, answer, end, (es, link, by, memory, did_so, ends), did_all, handed, gone)) ↦
                  (p, link, there, dead, (es, rw (wanted_memory answer (sym memory ∙ lacks)) at by), handed ∙ ap (λ (x : Part T U C). x.link.transport ∷ []) ends)
              | inr (live, (calm, did_so, handed, stays)) ↦ absurd (true≢false (sym lacks ∙ calm))
            ]
      ]

module _ {T U G C : Type 0} (w : World T G C) (before after : BackendState T U G C) where
  cleanup_each : (answer : Result (Vec (ClientParts × T) Global) OutOfMemory)
      (made : Makes w before.server (Asked step.Cleanup (reply.Cleanup answer)) after.refused after.server) (id : ClientParts)
      → CleanedAs w id before.server.offer answer (seen id before.server) (made.0.lacks id) (made.0.did id) (seen id after.server)
  cleanup_each answer made id = let (r, is, h) = part_of_call made.3 made.1 id in let e : r ≡ answer = cc in rw e at h

  pub cleanup_leaves : (answer : Result (Vec (ClientParts × T) Global) OutOfMemory)
      → Makes w before.server (Asked step.Cleanup (reply.Cleanup answer)) after.refused after.server
      → CleansUpClients w.sends before answer after
  cleanup_leaves (Ok out) made = record {
    killed = λ id. cleaned_killed w id before.server.offer out _ _ _ _ (cleanup_each (Ok out) made id);
    live = λ id. cleaned_live w id before.server.offer out _ _ _ _ (cleanup_each (Ok out) made id);
    unknown = λ id none. let h = cleanup_each (Ok out) made id in grind (arith, either_option, none_and_some, before.server.offer);
    by_slot = subst (λ (c : Call T U G C). RisesBySlot c) made.1 made.3.order;
    globals = made.3.offer ∙ ap (offer_after before.server.offer) made.1;
    memory = λ known.
        elim (made.3.refused.0 (made.2 ∙ known)) [
          | inl grows ↦ absurd (true≢false (sym grows ∙ ap lacks_growth made.1))
          | inr (id, lacks) ↦
              let (p, link, there, dead, flushed, handed) = cleaned_lacks w id before.server.offer out _ _ _ _
              (cleanup_each (Ok out) made id) lacks in (id, p, link, there, dead, flushed, handed)
        ];
  }
  cleanup_leaves (Err l) made = (
    record { offer = made.3.offer ∙ ap (offer_after before.server.offer) made.1; last = made.3.last ∙ (grind (arith, made.1)); each = λ id. (cleanup_each (Err l) made id).2 },
    sym made.2 ∙ made.3.refused.1 (inl (ap lacks_growth made.1)),
  )

module _ {T U G C : Type 0} {w : World T G C} {before after : BackendState T U G C} where
  pub cleans_up : (answer : Result (Vec (ClientParts × T) Global) OutOfMemory) → Calls w before step.Cleanup (reply.Cleanup answer) after
      → CleansUpClients w.sends before answer after
  cleans_up answer call = cleanup_leaves w before after answer call.step

  -- ---- notes

  pub takes_notes : (answer : Result (Vec (Note U) Global) OutOfMemory) → Calls w before step.TakeNotes (reply.TakeNotes answer) after
      → TakesNotes before answer after
  takes_notes answer h1 = grind (arith, offer_of, calm, unchanged, lacks_growth)
