-- What a call is of each client, and what a step leaves of one as it was.
use Rattle.std.proofs.Common.{◌≡◌, Bool, true, false, List, [], ◌++◌, append-nil, Option, None, Some, is_some, refl, sym, ap, subst, ◌∙◌, arith, true≢false}
use mathlib.Core.Logic.{inl, inr}
use Rattle.std.specs.Prelude.{◌⊎◌, MatchBool}
use Rattle.wl_link.proofs.Calls.Branches.{either_option}
use Rattle.wl_server_model.specs.declared.step.Reply.{Reply}
use Rattle.wl_server_model.specs.declared.step.Step.{Step}
use Rattle.wl_server_model.specs.Backend.{BackendState, Calls}
use Rattle.wl_server_client.specs.Deeds.{Deed, notes_in}
use Rattle.wl_server_client.specs.Ids.{ClientParts, same_client, IdParts}
use Rattle.wl_server_client.specs.Part.{Part, named}
use Rattle.wl_server_model.specs.Lookups.{and_then}
use Rattle.wl_server_model.specs.PartStep.{Asked, Call, OfClient, OnPart, PartCall, PartStep, Unfelt, World}
use Rattle.wl_server_model.specs.Plain.{GlobalsStay, IsUnchanged, OtherClientsStay, client_in, notes_made_in, object_in}
use Rattle.wl_server_model.specs.Server.{Seen, seen, ServerState}
use Rattle.wl_server_model.specs.Steps.{Entry, IsRefused, Makes, inserted_by, lacks_growth, offer_after, OneStep}
use Rattle.wl_server_model.proofs.CallSteps.Slots.{same_self}
pub use Rattle.wl_server_model.proofs.CallSteps.Slots.{same_is}

-- ---- a choice that is known

pub when_true : {P : Type 0} (Q : Type 0) (b : Bool) → b ≡ true → MatchBool b P Q → P
when_true h1 h2 is h = grind (arith, true≢false)

pub when_false : {Q : Type 0} (P : Type 0) (b : Bool) → b ≡ false → MatchBool b P Q → Q
when_false h1 h2 is h = grind (arith, true≢false)

pub split_bool : {P Q : Type 0} (b : Bool) → MatchBool b P Q → ((b ≡ true) × P) ⊎ ((b ≡ false) × Q)
split_bool true p = inl (refl, p)
split_bool false q = inr (refl, q)

pub option_cases : {A : Type 0} (o : Option A) → (o ≡ None) ⊎ ((x : A) × (o ≡ Some x))
option_cases None = inl refl
option_cases (Some x) = inr (x, refl)

pub one_value : {A : Type 0} {a b : A} (o : Option A) → o ≡ Some a → o ≡ Some b → a ≡ b
one_value o is other = cc

pub none_and_some : {A : Type 0} {a : A} (o : Option A) → o ≡ None → o ≡ Some a → ⊥
none_and_some o none is = absurd cc

-- two answers of which each is true if the other is
as_true : (a b : Bool) → (a ≡ true → b ≡ true) → (b ≡ true → a ≡ true) → a ≡ b
as_true a b h1 h2 = grind (arith)

-- ---- a call

module _ {T U G C : Type 0} (id : ClientParts) (e : Entry T U G C) (by : IsRefused e) (growth : lacks_growth e.call ≡ false)
    (others : (other : ClientParts) → same_client id other ≡ false → e.lacks other ≡ false) where
  -- memory was refused in a call about this client exactly if it was refused to the client
  pub lacks_as : e.refused ≡ e.lacks id
  lacks_as = grind (arith, as_true, true≢false, same_is)

-- so it was exactly to the call itself, if it was to no client
grown : {T U G C : Type 0} (e : Entry T U G C) → IsRefused e → ((id : ClientParts) → e.lacks id ≡ false) → e.refused ≡ lacks_growth e.call
grown e by all = grind (arith, as_true, true≢false)

module _ {T U G C : Type 0} {w : World T G C} {before after : BackendState T U G C} {s : Step T U G C} {answer : Reply T U}
    (call : Calls w before s answer after) where
  abbrev Each : ClientParts → Type 0
  Each id =
      (lacked : Bool) × (did : List (Deed U)) × PartStep w id before.server.offer s answer (seen id before.server) lacked did (seen id after.server)

  -- what all clients share after the call
  pub offer_of : after.server.offer ≡ offer_after before.server.offer (Asked s answer)
  offer_of = let (e, is, refused, by) = call.step in subst (λ (c : Call T U G C). after.server.offer ≡ offer_after before.server.offer c) is by.offer

  -- what the call is of one client
  pub of_each : (id : ClientParts) → Each id
  of_each id = let (e, is, refused, by) = call.step in (e.lacks id, e.did id, (grind (arith, seen)))

  -- nothing has changed
  pub unchanged : offer_after before.server.offer (Asked s answer) ≡ before.server.offer → inserted_by (Asked s answer) ≡ 0
      → ((id : ClientParts) → seen id after.server ≡ seen id before.server) → IsUnchanged before after
  unchanged offer none each = grind (arith, inserted_by, offer_of)

  -- ---- whether memory was refused

  abbrev NeverLacks : Type 0
  NeverLacks =
      (id : ClientParts) (lacked : Bool) (did : List (Deed U))
      → PartStep w id before.server.offer s answer (seen id before.server) lacked did (seen id after.server) → lacked ≡ false

  -- for what the call makes of its own alone, if it never is to a client
  pub by_growth : NeverLacks → after.refused ≡ lacks_growth (Asked s answer)
  by_growth never =
      let (e, is, refused, by) = call.step in
      let all : (id : ClientParts) → e.lacks id ≡ false = λ id. never id (e.lacks id) (e.did id) (grind (arith, seen)) in
      sym refused ∙ grown e by.refused all ∙ ap lacks_growth is

  -- to nobody
  pub calm : lacks_growth (Asked s answer) ≡ false → NeverLacks → after.refused ≡ false
  calm growth never = by_growth never ∙ growth

  -- to some client, if not for what the call makes of its own
  pub some_lacks : lacks_growth (Asked s answer) ≡ false → after.refused ≡ true
      → (id : ClientParts) × (did : List (Deed U))
      × PartStep w id before.server.offer s answer (seen id before.server) true did (seen id after.server)
  some_lacks growth known = grind (arith, true≢false, lacks_growth, seen)

-- ---- what is held of one client

module _ {T U C : Type 0} where
  -- the part stays, and nothing is noted
  pub nothing_new : (s t : Seen T U C) (p q : Part T U C) (did : List (Deed U)) → s.part ≡ Some p → q ≡ p → notes_in did ≡ []
      → t ≡ record { part = Some q; made = s.made ++ notes_in did } → t ≡ s
  nothing_new s t p q did there same none is = grind (arith, append-nil)

-- a step about this very client
pub own : {T U C : Type 0} (id : ClientParts) (s : Seen T U C) (R : Part T U C → Part T U C → Type 0) (missing : Type 0) (lacked : Bool)
    (did : List (Deed U)) (t : Seen T U C)
    → OfClient (same_client id id) s R missing lacked did t → OnPart s R missing lacked did t
own id s R missing lacked did t h = grind (arith, true≢false, same_client id id, same_self id)

-- ---- a call about one client

-- what a call may do to a client: whether memory was refused, the deeds, and the part before and after
abbrev pub Change : (T U C : Type 0) → Type 1
Change T U C = Bool → List (Deed U) → Part T U C → Part T U C → Type 0

-- what it comes to for that client, whether memory was refused to it or not: it is not stored, or its part changes so
pub data OnOne {T U C : Type 0} (R : Change T U C) (missing : Type 0) (s : Seen T U C) (lacked : Bool) (t : Seen T U C) : Type 0 where
  not_stored : s.part ≡ None → missing → lacked ≡ false → t ≡ s → OnOne R missing s lacked t
  became : (p q : Part T U C) (did : List (Deed U)) → s.part ≡ Some p → R lacked did p q → t ≡ record { part = Some q; made = s.made ++ notes_in did }
      → OnOne R missing s lacked t

pub one_of : {T U C : Type 0} (id : ClientParts) (R : Change T U C) (missing : Type 0) (s : Seen T U C) (lacked : Bool) (did : List (Deed U))
    (t : Seen T U C)
    → OfClient (same_client id id) s (R lacked did) missing lacked did t → OnOne R missing s lacked t
one_of id R missing s lacked did t h =
    elim (either_option s.part (own id s (R lacked did) missing lacked did t h)) [
      | inl (none, (m, (calm, nothing, same))) ↦ not_stored none m calm same
      | inr (p, there, (q, r, same)) ↦ became p q did there r same
    ]

-- what was noted stays where nothing is noted
made_own : {T U C : Type 0} {R : Change T U C} {missing : Type 0} {s t : Seen T U C} {lacked : Bool} → OnOne R missing s lacked t
    → ((did : List (Deed U)) (p q : Part T U C) → R lacked did p q → notes_in did ≡ []) → t.made ≡ s.made
made_own h silent = grind (arith, append-nil)

-- So it does to the client, and nothing else has changed. Memory was refused in it exactly if it was to the client.
pub record IsOfOne {T U G C : Type 0} (before after : BackendState T U G C) (target : ClientParts) (R : Change T U C)
    (missing : Type 0) : Type 0 where
  pub own : OnOne R missing (seen target before.server) after.refused (seen target after.server)
  pub clients : OtherClientsStay before target after
  pub globals : GlobalsStay before after
  pub last : after.server.last_client ≡ before.server.last_client

-- what a call is of a client
pub part_of_call : {T U G C : Type 0} {w : World T G C} {before after : ServerState T U G C} {e : Entry T U G C} {call : Call T U G C}
    → OneStep w before e after → e.call ≡ call → (id : ClientParts)
    → PartCall w id before.offer call (seen id before) (e.lacks id) (e.did id) (seen id after)
part_of_call by is id = rw is at (by.each id)

module _ {T U G C : Type 0} {w : World T G C} {before after : BackendState T U G C} {call : Call T U G C}
    (made : Makes w before.server call after.refused after.server) where
  -- a call is so if this is what it is of its client, and it is nothing of the others
  pub of_own : (target : ClientParts) (R : Change T U C) (missing : Type 0)
      → OnOne R missing (seen target before.server) (made.0.lacks target) (seen target after.server)
      → ((id : ClientParts) → same_client target id ≡ false → Unfelt (seen id before.server) (made.0.lacks id) (made.0.did id) (seen id after.server))
      → lacks_growth call ≡ false → offer_after before.server.offer call ≡ before.server.offer → inserted_by call ≡ 0
      → IsOfOne before after target R missing
  of_own target R missing own others growth offer none =
      let (e, is, refused, step) = made in
      let lacks : after.refused ≡ e.lacks target = sym refused
      ∙ lacks_as target e step.refused (ap lacks_growth is ∙ growth) (λ other differ. (others other differ).0) in
      record {
        own = rw lacks own;
        clients = λ other differ. (others other differ).2;
        globals = step.offer ∙ (ap (offer_after before.server.offer) is ∙ offer);
        last = grind (arith, step.last);
      }

  -- so it is if this is what it is of each client
  pub of_one : (target : ClientParts) (R : ClientParts → Change T U C) (missing : Type 0)
      → ((id : ClientParts) (s t : Seen T U C) (lacked : Bool) (did : List (Deed U)) → PartCall w id before.server.offer call s lacked did t
      → OfClient (same_client target id) s (R id lacked did) missing lacked did t)
      → lacks_growth call ≡ false → offer_after before.server.offer call ≡ before.server.offer → inserted_by call ≡ 0
      → IsOfOne before after target (R target) missing
  of_one target R missing by =
      of_own target (R target) missing (one_of target (R target) missing _ _ _ _ (by target _ _ _ _ (part_of_call made.3 made.1 target)))
      (λ id differ. when_false _ (same_client target id) differ (by id _ _ _ _ (part_of_call made.3 made.1 id)))

module _ {T U G C : Type 0} {before after : BackendState T U G C} {target : ClientParts} {R : Change T U C}
    {missing : Type 0} (one : IsOfOne before after target R missing) where
  -- so it is of what follows for the client
  pub refine : {R' : Change T U C} → ((lacked : Bool) (did : List (Deed U)) (p q : Part T U C) → R lacked did p q → R' lacked did p q)
      → IsOfOne before after target R' missing
  refine each = record {
    own = elim one.own [ not_stored none m calm same ↦ not_stored none m calm same | became p q did there r same ↦ became p q did there (each after.refused did p q r) same ];
    clients = one.clients;
    globals = one.globals;
    last = one.last;
  }

  -- what such a step leaves of the part stays of each client
  pub stays : {A : Type 0} (f : Option (Part T U C) → A) (id : ClientParts)
      → (same_client target id ≡ true → (did : List (Deed U)) (p q : Part T U C) → (seen target before.server).part ≡ Some p → R after.refused did p q
      → f (Some q) ≡ f (Some p))
      → f (seen id after.server).part ≡ f (seen id before.server).part
  stays f id each = grind (arith, one.own, one.clients, same_is, same_client target id)

  pub names_stay : (o : IdParts)
      → (same_client target o.client ≡ true → (did : List (Deed U)) (p q : Part T U C) → (seen target before.server).part ≡ Some p
      → R after.refused did p q → named q.store o ≡ named p.store o)
      → object_in after o ≡ object_in before o
  names_stay o each = stays (λ x. and_then x (λ p. named p.store o)) o.client each

  pub stored_stay : (id : ClientParts) → is_some (client_in after id) ≡ is_some (client_in before id)
  stored_stay id = stays (λ x. is_some x) id (λ about did p q there r. refl)

  pub made_stay : ((did : List (Deed U)) (p q : Part T U C) → R after.refused did p q → notes_in did ≡ []) → (id : ClientParts)
      → notes_made_in after id ≡ notes_made_in before id
  made_stay silent id = grind (arith, made_own one.own silent, one.clients, same_is, same_client target id)

  -- a call that changes nothing of its client changes nothing
  pub nothing_changes : seen target after.server ≡ seen target before.server → IsUnchanged before after
  nothing_changes same = record { offer = one.globals; last = one.last; each = λ id. grind (arith, one.clients, same_is, same_client target id) }
