-- Each call after which a cleanup would not look for killed clients kills nobody.
use Rattle.std.proofs.Common.{◌≡◌, ◌≢◌, ℕ, zero, suc, Bool, true, false, ◌==◌, inl, inr, List, [], ◌∷◌, ◌++◌, map, Option, None, Some, Result, Ok, Err, is_some, refl, ap, subst, sym, ◌∙◌, true≢false}
use Rattle.std.proofs.lemmas.Bool.{false≢true}
use Rattle.std.specs.FinMap as finmap
use Rattle.std.specs.Global.{Global}
use Rattle.std.specs.Option.{unwrap_or}
use Rattle.std.specs.Prelude.{MatchBool, Vec, if◌then◌else◌, option_map, slice_get, slice_set}
use Rattle.wl_link.proofs.Calls.Branches.{either_bool, either_option}
use Rattle.wl_link.specs.Mailbox.{MailboxReceives, MailboxSends, MailboxState}
use Rattle.wl_server_client.specs.declared.error.ActionError.{ActionError}
use Rattle.wl_server_client.specs.declared.error.CreateAtError.{CreateAtError}
use Rattle.wl_server_client.specs.declared.error.CreateError.{CreateError}
use Rattle.wl_server_client.specs.declared.error.FinishError.TheVariants as finish
use Rattle.wl_server_client.specs.declared.error.FinishRefused.{FinishRefused}
use Rattle.wl_server_client.specs.declared.error.GlobalError.{GlobalError}
use Rattle.wl_server_client.specs.declared.error.InsertClientError.{InsertClientError}
use Rattle.wl_server_client.specs.declared.error.InvalidId.{InvalidId}
use Rattle.wl_server_client.specs.declared.error.VersionError.{VersionError}
use Rattle.wl_server_client.specs.declared.notes.Note.{Note}
use Rattle.wl_server_client.specs.declared.reading.action.Action.{Action}
use Rattle.wl_server_client.specs.declared.reading.action.OpenAction.{OpenAction}
use Rattle.wl_server_client.specs.declared.reading.action.OpenAction.TheVariants as opened
use Rattle.wl_server_client.specs.declared.reading.action.Reading.{Reading}
use Rattle.wl_server_model.specs.declared.step.Reply.{Reply}
use Rattle.wl_server_model.specs.declared.step.Reply.TheVariants as reply
use Rattle.wl_server_model.specs.declared.step.Step.{Step}
use Rattle.wl_server_model.specs.declared.step.Step.TheVariants as step
use Rattle.wl_server_model.proofs.Plain.Base.{of_each, when_false, when_true}
use Rattle.wl_server_model.specs.Backend.{Calls, IsGrowth}
use Rattle.wl_server_client.specs.Chosen.{CreatesNumbered, VersionSet, has_version, is_free_own}
use Rattle.wl_server_client.specs.Deeds.{Deed, Handed, Noted}
use Rattle.wl_server_client.specs.Felt.{Cleaned, FlushedTo, objects_leave}
use Rattle.wl_server_client.specs.Finish.{FinishesBind, FinishesOpen, FinishesOpenBind, FinishesRequest, ends_request, finish_verdict, refusal}
use Rattle.wl_server_client.specs.Globals.{Offer}
use Rattle.wl_server_client.specs.Ids.{ClientParts, GlobalParts, IdParts, same_client}
use Rattle.wl_server_client.specs.Lending.{over_transport}
use Rattle.wl_server.specs.Lending.{state_over}
use Rattle.wl_server_model.specs.Lookups.{and_then}
use Rattle.wl_server_client.specs.Objects.{Creates, DataSet}
use Rattle.wl_server_client.specs.Part.{Part, last_possible_serial, named}
use Rattle.wl_server_model.specs.PartStep.{Call, CleanedAs, FeelsGlobal, InsertedAs, NotesTaken, OfClient, PartCall, PartStep, ReadsFor, Unfelt, around, share_of}
use Rattle.wl_server_model.specs.Plain.{action_in, killed_in}
use Rattle.wl_server_client.specs.Reading.{Around, NextAction, action_content, new_reading}
use Rattle.wl_server_model.specs.Server.{Seen, if_serial, seen, stored_at}
use Rattle.wl_server_client.specs.Stored.{Stored}
use Rattle.wl_server_client.specs.Telling.{Core, Tells, core_of, speaker}
use Rattle.wl_wire.specs.declared.error.IoFault.{IoFault}
use Rattle.wl_wire.specs.declared.error.OutOfMemory.{OutOfMemory}
use Rattle.wl_wire.specs.declared.interface.InterfaceId.{InterfaceId}
use Rattle.wl_wire.specs.declared.protocol.TableError.{TableError}
use Rattle.wl_wire.specs.Table.{Growth, InterfaceRow}
use Rattle.wl_host.proofs.Asking.{one_client}
use Rattle.wl_host.proofs.Killing.{came_to_last, next_action_says, says_killed}
use Rattle.wl_host.specs.Calls.{CoreState, world}
use Rattle.wl_host.specs.Killed.{NobodyIsKilled}
use Rattle.wl_host.specs.declared.server.HostClient.{HostClient}
use Rattle.wl_host.specs.declared.server.HostGlobal.{HostGlobal}

abbrev P : Type 0
P = Part MailboxState ℕ HostClient

abbrev killed_of : Option P → Option Bool
killed_of o = option_map (λ p. p.is_killed) o

some_true : (b : Bool) → Some b ≡ Some true → b ≡ true
some_true b e = ap (λ o. unwrap_or o true) e

none_true : {A : Type 0} → None ≡ Some true → A
none_true e = absurd (false≢true (ap is_some e))

-- ---- what is held of one client

module _ (before after : Seen MailboxState ℕ HostClient) (lacked : Bool) (did : List (Deed ℕ)) where
  unfelt : Unfelt before lacked did after → killed_of after.part ≡ Some true → killed_of before.part ≡ Some true
  unfelt (l, d, same) k = ap (λ (s : Seen MailboxState ℕ HostClient). killed_of s.part) (sym same) ∙ k

  of_client : (about : Bool) (R : P → P → Type 0) (missing : Type 0) → ((p q : P) → R p q → q.is_killed ≡ true → p.is_killed ≡ true)
      → OfClient about before R missing lacked did after → killed_of after.part ≡ Some true → killed_of before.part ≡ Some true
  of_client about R missing by h k =
      elim (either_bool about h) [
        | inr other ↦ unfelt other k
        | inl on ↦
            elim (either_option before.part on) [
              | inl (none, (m, u)) ↦ unfelt u k
              | inr (p, is, (q, r, same)) ↦
                  ap killed_of is ∙ ap (λ b. Some b) (by p q r (some_true q.is_killed (ap (λ (s : Seen MailboxState ℕ HostClient). killed_of s.part) (sym same) ∙ k)))
            ]
      ]

same_killed : (p q : P) → q ≡ p → q.is_killed ≡ true → p.is_killed ≡ true
same_killed p q e k = ap (λ (r : P). r.is_killed) (sym e) ∙ k

-- ---- what becomes of a client by one step

set_keeps : (o : IdParts) (u : ℕ) (r : Result (Unit {0}) InvalidId) (p q : P) → DataSet p o u r q → q.is_killed ≡ true → p.is_killed ≡ true
set_keeps o u r p q h k =
    elim (either_option (named p.store o) h) [
      | inl (none, (is, same)) ↦ same_killed p q same k
      | inr (x, found, (is, same)) ↦ ap (λ (t : P). t.is_killed) (sym same) ∙ k
    ]

creates_keeps : (table : List InterfaceRow) (id : ClientParts) (i : InterfaceId) (version u : ℕ) (r : Result IdParts CreateError) (p q : P)
    → Creates table id p i version u r q → q.is_killed ≡ true → p.is_killed ≡ true
creates_keeps table id i version u r p q h k =
    elim (either_option (slice_get table i.0) h) [
      | inl (none, (is, same)) ↦ same_killed p q same k
      | inr (row, found, g) ↦
          elim g [
            | inl full ↦ same_killed p q full.2 k
            | inr least ↦
                elim (either_bool (p.last_serial == last_possible_serial) least.2) [
                  | inl last ↦ same_killed p q last.1 k
                  | inr made ↦
                      elim made [
                        | inl new ↦ ap (λ (t : P). t.is_killed) (sym new.1) ∙ k
                        | inr memory ↦ same_killed p q memory.2 k
                      ]
                ]
          ]
    ]

version_keeps : (table : List InterfaceRow) (o : IdParts) (version : ℕ) (r : Result (Unit {0}) VersionError) (p q : P) → VersionSet table p o version r q
    → q.is_killed ≡ true → p.is_killed ≡ true
version_keeps table o version r p q h k =
    elim (either_option (named p.store o) h) [
      | inl (none, (is, same)) ↦ same_killed p q same k
      | inr (x, found, by) ↦
          elim (either_bool (has_version table x.interface version) by) [
            | inl (is, same) ↦ ap (λ (t : P). t.is_killed) (sym same) ∙ k
            | inr (is, same) ↦ same_killed p q same k
          ]
    ]

creates_at_keeps : (table : List InterfaceRow) (id : ClientParts) (i : InterfaceId) (version n u : ℕ) (r : Result IdParts CreateAtError) (p q : P)
    → CreatesNumbered table id p i version n u r q → q.is_killed ≡ true → p.is_killed ≡ true
creates_at_keeps table id i version n u r p q h k =
    elim (either_option (slice_get table i.0) h) [
      | inl (none, (is, same)) ↦ same_killed p q same k
      | inr (row, found, g) ↦
          elim (either_bool (p.last_serial == last_possible_serial) g) [
            | inl (is, same) ↦ same_killed p q same k
            | inr by ↦
                elim (either_bool (is_free_own p.store n) by) [
                  | inr (is, same) ↦ same_killed p q same k
                  | inl (inl (is, same)) ↦ ap (λ (t : P). t.is_killed) (sym same) ∙ k
                  | inl (inr (is, unused, same)) ↦ same_killed p q same k
                ]
          ]
    ]

bind_keeps : (u : ℕ) (r : Result (Unit {0}) (FinishRefused ℕ)) (lacked : Bool) (did : List (Deed ℕ)) (p q : P) → FinishesBind p u r lacked did q
    → q.is_killed ≡ true → p.is_killed ≡ true
bind_keeps u r lacked did p q h k =
    elim (either_option p.action h) [
      | inl (none, g) ↦ same_killed p q g.3 k
      | inr (action, is, g) ↦ by action g
    ]
  where
    by : (action : OpenAction) → FinishesOpenBind p action u r lacked did q → p.is_killed ≡ true
    by (opened.Request sender is_destructor created) g = same_killed p q g.3 k
    by (opened.Bind object) g = ap (λ (t : P). t.is_killed) (sym g.3) ∙ k

action_keeps : (around' : Around HostGlobal HostClient) (t : Reading) (r : Result Handed ActionError) (t' : Reading) (lacked : Bool) (did : List (Deed ℕ)) (p q : P)
    → says_killed r ≡ false → NextAction MailboxSends MailboxReceives around' t p r t' lacked did q → q.is_killed ≡ true → p.is_killed ≡ true
action_keeps around' t r t' lacked did p q says h k = by p.is_killed refl
  where
    by : (b : Bool) → p.is_killed ≡ b → p.is_killed ≡ true
    by true e = e
    by false e = absurd (true≢false (sym (next_action_says MailboxSends MailboxReceives around' t p r t' lacked did q h e k) ∙ says))

inserted_keeps : (id : ClientParts) (offer : Offer HostGlobal) (m : MailboxState) (client : HostClient) (r : Result ClientParts InsertClientError)
    (before after : Seen MailboxState ℕ HostClient) (lacked : Bool) (did : List (Deed ℕ)) → InsertedAs world id offer m client r before lacked did after
    → killed_of after.part ≡ Some true → killed_of before.part ≡ Some true
inserted_keeps id offer m client (Err e) before after lacked did h k = unfelt before after lacked did h k
inserted_keeps id offer m client (Ok new) before after lacked did h k =
    elim (either_bool (same_client new id) h) [
      | inl made ↦ absurd (true≢false (sym (some_true false (ap (λ (s : Seen MailboxState ℕ HostClient). killed_of s.part) (sym made.4) ∙ k))))
      | inr other ↦ unfelt before after lacked did other k
    ]

taken_keeps : (id : ClientParts) (offer : Offer HostGlobal) (r : Result (Vec (Note ℕ) Global) OutOfMemory) (before after : Seen MailboxState ℕ HostClient) (lacked : Bool)
    (did : List (Deed ℕ)) → NotesTaken world id offer r before lacked did after → killed_of after.part ≡ Some true → killed_of before.part ≡ Some true
taken_keeps id offer (Err e) before after lacked did h k = unfelt before after lacked did h k
taken_keeps id offer (Ok out) before after lacked did h k = ap (λ (s : Seen MailboxState ℕ HostClient). killed_of s.part) (sym h.3) ∙ k

-- a request that does not end its sender is ended, and the client lives on
request_keeps : (client : ClientParts) (u : Option ℕ) (r : Result (Unit {0}) (FinishRefused (Option ℕ))) (lacked : Bool) (did : List (Deed ℕ)) (p q : P)
    → ((sender : IdParts) (ends : Bool) (created : Option IdParts) → p.action ≡ Some (opened.Request sender ends created) → ends ≡ false)
    → FinishesRequest MailboxSends client p u r lacked did q → q.is_killed ≡ true → p.is_killed ≡ true
request_keeps client u r lacked did p q ends_none h k =
    elim (either_option p.action h) [
      | inl (none, g) ↦ same_killed p q g.3 k
      | inr (action, is, g) ↦ by action is g
    ]
  where
    told : (sender : IdParts) (ends : Bool) (created : Option IdParts) → ends ≡ false
        → Tells MailboxSends (ends_request client (core_of p) sender ends created u) p.link lacked did q → p.is_killed ≡ true
    told sender true created off g = absurd (true≢false off)
    told sender false created off (es, gave, end, carries, did_so, after) =
        let core = came_to_last MailboxSends speaker (finish_verdict (core_of p) created u) refl refl p.link es gave lacked end carries in
        ap (λ (d : Core ℕ HostClient). d.is_killed) (sym core) ∙ (ap (λ (t : P). t.is_killed) (sym after) ∙ k)

    by : (action : OpenAction) → p.action ≡ Some action → FinishesOpen MailboxSends client p action u r lacked did q → p.is_killed ≡ true
    by (opened.Bind object) is g = same_killed p q g.3 k
    by (opened.Request sender ends created) is g =
        elim (either_option (refusal p.is_killed created u) g) [
          | inl (fits, t) ↦ told sender ends created (ends_none sender ends created is) t.1
          | inr (e, why, t) ↦ same_killed p q t.3 k
        ]

-- after a cleanup nobody is killed
cleaned_none : (id : ClientParts) (offer : Offer HostGlobal) (out : Vec (ClientParts × MailboxState) Global) (before after : Seen MailboxState ℕ HostClient) (lacked : Bool)
    (did : List (Deed ℕ)) → CleanedAs world id offer (Ok out) before lacked did after → killed_of after.part ≢ Some true
cleaned_none id offer out before after lacked did h k =
    elim (either_option before.part h) [
      | inl (none, g) ↦ none_true (sym (ap killed_of none) ∙ unfelt before after lacked did g.1 k)
      | inr (p, is, g) ↦ by p g.0 g.1 p.is_killed refl g.1 (ap (λ (s : Seen MailboxState ℕ HostClient). killed_of s.part) (sym g.2) ∙ k)
    ]
  where
    by : (p : P) (q : Option P) → Cleaned MailboxSends id p lacked did (share_of id out.items) q → (b : Bool) → p.is_killed ≡ b
        → MatchBool b
        ((sent : List (Deed ℕ)) × (answer : Result (Unit {0}) IoFault) × (end : P) × FlushedTo MailboxSends p answer lacked sent end
        × (did ≡ map Noted p.waiting ++ (objects_leave id (finmap.entries p.store.objects) ++ sent))
        × (share_of id out.items ≡ end.link.transport ∷ []) × (q ≡ None))
        ((lacked ≡ false) × (did ≡ map Noted p.waiting) × (share_of id out.items ≡ []) × (q ≡ Some (record p { waiting = [] })))
        → killed_of q ≡ Some true → ⊥
    by p q c true e h k = none_true (sym (ap killed_of h.6) ∙ k)
    by p q c false e h k = true≢false (sym (some_true p.is_killed (sym (ap killed_of h.3) ∙ k)) ∙ e)

-- ---- a call of the core

-- whoever is killed after it was killed before
abbrev pub KillsNobody : CoreState → CoreState → Type 0
KillsNobody before after = (id : ClientParts) → killed_in after id ≡ Some true → killed_in before id ≡ Some true

module _ (b a : CoreState) where
  abbrev Stays : ClientParts → Type 0
  Stays id = killed_of (seen id a.server).part ≡ Some true → killed_of (seen id b.server).part ≡ Some true

  by_each : (s : Step MailboxState ℕ HostGlobal HostClient) (r : Reply MailboxState ℕ) (call : Calls world b s r a)
      → ((id : ClientParts) (lacked : Bool) (did : List (Deed ℕ)) → PartStep world id b.server.offer s r (seen id b.server) lacked did (seen id a.server) → Stays id)
      → KillsNobody b a
  by_each s r call by id k = let e = of_each call id in by id e.0 e.1 e.2 k

  pub set_data_kills : (o : IdParts) (u : ℕ) (answer : Result (Unit {0}) InvalidId) → Calls world b (step.SetObjectData o u) (reply.SetObjectData answer) a → KillsNobody b a
  set_data_kills o u answer call =
      by_each _ _ call (λ id lacked did h k. of_client (seen id b.server) (seen id a.server) lacked did (same_client o.client id) _ _ (λ p q r. set_keeps o u h.0 p q r.2) h.2 k)

  pub creates_kills : (client : ClientParts) (i : InterfaceId) (version u : ℕ) (answer : Result IdParts CreateError)
      → Calls world b (step.CreateObject client i version u) (reply.CreateObject answer) a → KillsNobody b a
  creates_kills client i version u answer call =
      by_each _ _ call (λ id lacked did h k. of_client (seen id b.server) (seen id a.server) lacked did (same_client client id) _ _
      (λ p q r. creates_keeps b.server.offer.table id i version u h.0 p q r.2) h.2 k)

  pub set_version_kills : (o : IdParts) (version : ℕ) (answer : Result (Unit {0}) VersionError)
      → Calls world b (step.SetObjectVersion o version) (reply.SetObjectVersion answer) a → KillsNobody b a
  set_version_kills o version answer call =
      by_each _ _ call (λ id lacked did h k. of_client (seen id b.server) (seen id a.server) lacked did (same_client o.client id) _ _
      (λ p q r. version_keeps b.server.offer.table o version h.0 p q r.2) h.2 k)

  pub creates_at_kills : (client : ClientParts) (i : InterfaceId) (version n u : ℕ) (answer : Result IdParts CreateAtError)
      → Calls world b (step.CreateObjectAt client i version n u) (reply.CreateObjectAt answer) a → KillsNobody b a
  creates_at_kills client i version n u answer call =
      by_each _ _ call (λ id lacked did h k. of_client (seen id b.server) (seen id a.server) lacked did (same_client client id) _ _
      (λ p q r. creates_at_keeps b.server.offer.table id i version n u h.0 p q r.2) h.2 k)

  pub keep_names_kills : (keep : Bool) → Calls world b (step.KeepGlobalNames keep) reply.KeepGlobalNames a → KillsNobody b a
  keep_names_kills keep call = by_each _ _ call (λ id lacked did h k. unfelt (seen id b.server) (seen id a.server) lacked did h.1 k)

  pub object_limit_kills : (limit : Option ℕ) → Calls world b (step.SetObjectLimit limit) reply.SetObjectLimit a → KillsNobody b a
  object_limit_kills limit call = by_each _ _ call (λ id lacked did h k. unfelt (seen id b.server) (seen id a.server) lacked did h.1 k)

  pub hand_out_registries_kills : (hand_out : Bool) → Calls world b (step.HandOutRegistries hand_out) reply.HandOutRegistries a → KillsNobody b a
  hand_out_registries_kills hand_out call = by_each _ _ call (λ id lacked did h k. unfelt (seen id b.server) (seen id a.server) lacked did h.1 k)

  pub finish_bind_kills : (client : ClientParts) (u : ℕ) (answer : Result (Unit {0}) (FinishRefused ℕ)) → Calls world b (step.FinishBind client u) (reply.FinishBind answer) a
      → KillsNobody b a
  finish_bind_kills client u answer call =
      by_each _ _ call (λ id lacked did h k. of_client (seen id b.server) (seen id a.server) lacked did (same_client client id) _ _
      (λ p q r. bind_keeps u h.0 lacked did p q r) h.2 k)

  pub finish_request_kills : (client : ClientParts) (u : Option ℕ) (answer : Result (Unit {0}) (FinishRefused (Option ℕ)))
      → ((sender : IdParts) (ends : Bool) (created : Option IdParts) → action_in b client ≡ Some (opened.Request sender ends created) → ends ≡ false)
      → Calls world b (step.FinishRequest client u) (reply.FinishRequest answer) a → KillsNobody b a
  finish_request_kills client u answer ends_none call = by_each _ _ call (λ id lacked did h k. by id lacked did h.0 h.2 k (same_client client id) refl)
    where
      by : (id : ClientParts) (lacked : Bool) (did : List (Deed ℕ)) (r : Result (Unit {0}) (FinishRefused (Option ℕ)))
          → OfClient (same_client client id) (seen id b.server) (λ p q. FinishesRequest MailboxSends id p u r lacked did q) (r ≡ Err (record { error = finish.InvalidId; user_data = u }))
          lacked did (seen id a.server)
          → killed_of (seen id a.server).part ≡ Some true → (about : Bool) → same_client client id ≡ about → killed_of (seen id b.server).part ≡ Some true
      by id lacked did r h k false other =
          unfelt (seen id b.server) (seen id a.server) lacked did (when_false _ (same_client client id) other h) k
      by id lacked did r h k true is =
          elim (either_option (seen id b.server).part (when_true _ (same_client client id) is h)) [
            | inl (none, (m, u)) ↦ unfelt (seen id b.server) (seen id a.server) lacked did u k
            | inr (p, at, (q, step, same)) ↦
                ap killed_of at ∙ ap (λ t. Some t) (request_keeps id u r lacked did p q (known id p at (one_client client id is)) step
                (some_true q.is_killed (ap (λ (s : Seen MailboxState ℕ HostClient). killed_of s.part) (sym same) ∙ k)))
          ]
        where
          known : (id : ClientParts) (p : P) → (seen id b.server).part ≡ Some p → client ≡ id
              → (sender : IdParts) (ends : Bool) (created : Option IdParts) → p.action ≡ Some (opened.Request sender ends created) → ends ≡ false
          known id p at same sender ends created opened_so =
              ends_none sender ends created
              (ap (λ (i : ClientParts). and_then (seen i b.server).part (λ p. p.action)) same ∙ (ap (λ (o : Option P). and_then o (λ p. p.action)) at ∙ opened_so))

  pub flush_kills : (client : ClientParts) (answer : Result (Unit {0}) IoFault) → Calls world b (step.Flush (Some client)) (reply.Flush answer) a → KillsNobody b a
  flush_kills client answer call =
      by_each _ _ call (λ id lacked did h k. of_client (seen id b.server) (seen id a.server) lacked did (same_client client id) _ _
      (λ p q r e. ap (λ (t : P). t.is_killed) (sym r.5) ∙ e) h.2 k)

  pub limit_kills : (client : ClientParts) (limit : ℕ) → Calls world b (step.SetClientMaxBufferSize client limit) reply.SetClientMaxBufferSize a → KillsNobody b a
  limit_kills client limit call =
      by_each _ _ call (λ id lacked did h k. of_client (seen id b.server) (seen id a.server) lacked did (same_client client id) _ _
      (λ p q r e. ap (λ (t : P). t.is_killed) (sym r.2.2) ∙ e) h.1 k)

  pub default_kills : (limit : ℕ) → Calls world b (step.SetDefaultMaxBufferSize limit) reply.SetDefaultMaxBufferSize a → KillsNobody b a
  default_kills limit call = by_each _ _ call (λ id lacked did h k. unfelt (seen id b.server) (seen id a.server) lacked did h.1 k)

  pub growth_kills : (more : Growth) (answer : Result (Unit {0}) TableError) → IsGrowth world b more answer a → KillsNobody b a
  growth_kills more answer growth id k =
      let (e, is, refused, one) = growth.step in
      let none = subst (λ (c : Call MailboxState ℕ HostGlobal HostClient).
      PartCall world id b.server.offer c (seen id b.server) (e.lacks id) (e.did id) (seen id a.server)) is (one.each id) in
      unfelt (seen id b.server) (seen id a.server) (e.lacks id) (e.did id) none k

  pub insert_kills : (m : MailboxState) (client : HostClient) (answer : Result ClientParts InsertClientError)
      → Calls world b (step.InsertClient m client) (reply.InsertClient answer) a → KillsNobody b a
  insert_kills m client answer call =
      by_each _ _ call (λ id lacked did h k. inserted_keeps id b.server.offer m client h.0 (seen id b.server) (seen id a.server) lacked did h.2 k)

  pub notes_kill : (answer : Result (Vec (Note ℕ) Global) OutOfMemory) → Calls world b step.TakeNotes (reply.TakeNotes answer) a → KillsNobody b a
  notes_kill answer call = by_each _ _ call (λ id lacked did h k. taken_keeps id b.server.offer h.0 (seen id b.server) (seen id a.server) lacked did h.2 k)

  pub refused_global_kills : (i : InterfaceId) (version : ℕ) (g : HostGlobal) (e : GlobalError) → Calls world b (step.CreateGlobal i version g) (reply.CreateGlobal (Err e)) a
      → KillsNobody b a
  refused_global_kills i version g e call = by_each _ _ call (λ id lacked did h k. by id lacked did h.0 h.1 h.2 k)
    where
      by : (id : ClientParts) (lacked : Bool) (did : List (Deed ℕ)) (r : Result GlobalParts GlobalError) → ◌≡◌ {A = Reply MailboxState ℕ} (reply.CreateGlobal (Err e)) (reply.CreateGlobal r)
          → FeelsGlobal world id b.server.offer i version g r (seen id b.server) lacked did (seen id a.server) → Stays id
      by id lacked did (Err f) is h k = unfelt (seen id b.server) (seen id a.server) lacked did h k
      by id lacked did (Ok x) is h k = absurd cc

  pub action_kills : (client : ClientParts) (answer : Result Action ActionError) → says_killed (action_content answer) ≡ false
      → Calls world b (step.NextAction client) (reply.NextAction answer) a → KillsNobody b a
  action_kills client answer says call = by_each _ _ call (λ id lacked did h k. by id lacked did h.0 h.1 h.2 h.3 k)
    where
      by : (id : ClientParts) (lacked : Bool) (did : List (Deed ℕ)) (r : Result Action ActionError) (left : Reading) → ◌≡◌ {A = Reply MailboxState ℕ} (reply.NextAction answer) (reply.NextAction r)
          → ReadsFor world id b.server.offer client new_reading (action_content r) left (seen id b.server) lacked did (seen id a.server) → Stays id
      by id lacked did r left is h k =
          let e : answer ≡ r = cc in
          of_client (seen id b.server) (seen id a.server) lacked did (same_client client id) _ _
          (λ p q. action_keeps (around world id b.server.offer) new_reading (action_content r) left lacked did p q (ap (λ t. says_killed (action_content t)) (sym e) ∙ says)) h k

  pub cleanup_leaves_none : (out : Vec (ClientParts × MailboxState) Global) → Calls world b step.Cleanup (reply.Cleanup (Ok out)) a → NobodyIsKilled a
  cleanup_leaves_none out call id k = let e = of_each call id in by e.0 e.1 e.2.0 e.2.1 e.2.2
    where
      by : (lacked : Bool) (did : List (Deed ℕ)) (r : Result (Vec (ClientParts × MailboxState) Global) OutOfMemory) → ◌≡◌ {A = Reply MailboxState ℕ} (reply.Cleanup (Ok out)) (reply.Cleanup r)
          → CleanedAs world id b.server.offer r (seen id b.server) lacked did (seen id a.server) → ⊥
      by lacked did (Ok o) is h = cleaned_none id b.server.offer o (seen id b.server) (seen id a.server) lacked did h k
      by lacked did (Err e) is h = absurd cc

-- ---- the transport of a client

over_stored : (g : Option (Stored MailboxState ℕ HostClient) → Option Bool) (m : MailboxState)
    → ((o : Option (Stored MailboxState ℕ HostClient)) → g (option_map (λ c. over_transport c m) o) ≡ g o)
    → (clients : List (Option (Stored MailboxState ℕ HostClient))) (slot k : ℕ)
    → g (stored_at k (slice_set clients slot (option_map (λ c. over_transport c m) (stored_at slot clients)))) ≡ g (stored_at k clients)
over_stored g m same [] slot k = refl
over_stored g m same (c ∷ clients) zero zero = same c
over_stored g m same (c ∷ clients) zero (suc k) = refl
over_stored g m same (c ∷ clients) (suc slot) zero = refl
over_stored g m same (c ∷ clients) (suc slot) (suc k) = over_stored g m same clients slot k

-- another mailbox kills nobody
pub mailbox_kills : (b : CoreState) (id : ClientParts) (m : MailboxState) → KillsNobody b (state_over b id m)
mailbox_kills b id m other k = sym (over_stored killed m same b.server.clients id.slot other.slot) ∙ k
  where
    killed : Option (Stored MailboxState ℕ HostClient) → Option Bool
    killed o = killed_of (option_map (λ s. s.part) (if_serial other.serial o))

    same : (o : Option (Stored MailboxState ℕ HostClient)) → killed (option_map (λ c. over_transport c m) o) ≡ killed o
    same None = refl
    same (Some c) = by (c.serial == other.serial)
      where
        by : (is : Bool) → killed_of (option_map (λ s. s.part) (if is then Some (over_transport c m) else None)) ≡ killed_of (option_map (λ s. s.part) (if is then Some c else None))
        by true = refl
        by false = refl
