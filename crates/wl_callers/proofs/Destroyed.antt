-- Why an object that was destroyed is found no more.
use Rattle.std.proofs.Common.{◌≡◌, Bool, true, false, List, [], ◌∷◌, ◌++◌, Option, None, Some, is_some, Result, Ok, Err, refl, sym, ap, subst, ◌∙◌, true≢false}
use mathlib.Core.Logic.{inl, inr}
use Rattle.std.specs.Prelude.{◌⊎◌, IsSome, OnOk}
use Rattle.wl_wire.specs.Table.{InterfaceRow}
use Rattle.wl_link.specs.declared.object.Object.{Object}
use Rattle.wl_server_client.specs.declared.error.DestroyError.{DestroyError}
use Rattle.wl_server_client.specs.declared.objects.Kept.{Kept}
use Rattle.wl_server_model.specs.declared.step.Reply.TheVariants as reply
use Rattle.wl_server_model.specs.declared.step.Step.TheVariants as step
use Rattle.wl_server_model.specs.Backend.{BackendState, Calls}
use Rattle.wl_server_model.specs.Identified.{named_of}
use Rattle.wl_server_client.specs.Ids.{ClientParts, IdParts, same_client}
use Rattle.wl_server_model.specs.Named.{EachNamesNoneAgain}
use Rattle.wl_server_model.specs.PartStep.{Asked, Call, World}
use Rattle.wl_server_model.specs.Plain.{DestroysObject}
use Rattle.wl_server_model.specs.Runs.{Inserts, IsIsolated, IsNeverInserted, IsNotInserted, Leads}
use Rattle.wl_server_model.specs.Server.{Seen, ServerState, new_server, seen}
use Rattle.wl_server_model.specs.Steps.{Entry}
use Rattle.wl_server_model.proofs.Plain.Base.{same_is}
use Rattle.wl_callers.specs.Destruction.{IsGoneForGood}

-- ---- a client that is stored was inserted

module _ {T U G C : Type 0} (id : ClientParts) where
  inserts_if : (b : Bool) (call : Call T U G C) (transport : T) (client_data : C) (new : ClientParts)
      → call ≡ Asked (step.InsertClient transport client_data) (reply.InsertClient (Ok new)) → same_client new id ≡ b → Inserts id call ⊎ IsNotInserted id call
  inserts_if true call transport client_data new is same =
      inl (transport, client_data, is ∙ ap (λ (n : ClientParts). Asked (step.InsertClient transport client_data) (reply.InsertClient (Ok n))) (same_is new id same))
  inserts_if false call transport client_data new is differ =
      inr (λ other (t, i, inserts). subst (λ (n : ClientParts). same_client n id ≡ false) (inside other t i inserts) differ)
    where
      inside : (other : ClientParts) (t : T) (i : C) → call ≡ Asked (step.InsertClient t i) (reply.InsertClient (Ok other)) → new ≡ other
      inside other t i inserts = cc

  -- a call inserts the client, or not
  inserts_or_not : (call : Call T U G C) → Inserts id call ⊎ IsNotInserted id call
  inserts_or_not (Asked (step.InsertClient transport client_data) (reply.InsertClient (Ok new))) =
      inserts_if (same_client new id) (Asked (step.InsertClient transport client_data) (reply.InsertClient (Ok new))) transport client_data new refl refl
  inserts_or_not call = inr (λ other (t, i, same). absurd cc)

  -- where in a run it was inserted
  record WasInserted (run : List (Entry T U G C)) : Type 0 where
    earlier : List (Entry T U G C)
    since : List (Entry T U G C)
    entry : Entry T U G C
    split : run ≡ earlier ++ entry ∷ since
    inserts : Inserts id entry.call

  inserted_or_never : (run : List (Entry T U G C)) → WasInserted run ⊎ IsNeverInserted id run
  inserted_or_never [] = inr tt
  inserted_or_never (e ∷ run) =
      elim (inserts_or_not e.call) [
        | inl inserts ↦ inl (record { earlier = []; since = run; entry = e; split = refl; inserts = inserts })
        | inr not ↦
            elim (inserted_or_never run) [
              | inl was ↦
                  inl (record { earlier = e ∷ was.earlier; since = was.since; entry = was.entry; split = ap (λ (r : List (Entry T U G C)). e ∷ r) was.split; inserts = was.inserts })
              | inr never ↦ inr (not, never)
            ]
      ]

-- ---- the object

nothing : {A : Type 0} (o : Option A) → (IsSome o → ⊥) → o ≡ None
nothing None not = refl
nothing (Some x) not = absurd (not refl)

module _ {T G C : Type 0} (U : Type 0) (w : World T G C) where
  -- the laws of runs that it follows from
  abbrev pub Alone : Type 0
  Alone = (table : List InterfaceRow) (run : List (Entry T U G C)) (after : ServerState T U G C) → Leads w (new_server table) run after → IsIsolated w table run after

  abbrev pub NoneAgain : Type 0
  NoneAgain =
      (table : List InterfaceRow) (done between later : List (Entry T U G C)) (point mid after : ServerState T U G C) → Leads w (new_server table) done point
      → Leads w point between mid → Leads w mid later after → EachNamesNoneAgain done point mid after

module _ {T U G C : Type 0} (w : World T G C) (before after : BackendState T U G C) (o : IdParts) where
  pub destroyed_for_good : (answer : Result (Unit {0}) DestroyError) → Calls w before (step.DestroyObject o) (reply.DestroyObject answer) after
      → DestroysObject before o answer after → Alone U w → NoneAgain U w → OnOk answer (IsGoneForGood w before.server o after.server)
  destroyed_for_good (Err e) call plain alone again = tt
  destroyed_for_good (Ok ok) call plain alone again = λ table earlier later end led leads.
      let (x, was, gone, rest) = found plain in
      elim (inserted_or_never o.client earlier) [
        | inl inserted ↦ behind table earlier later end led leads x was gone inserted
        | inr never ↦ absurd (unseen x was (ap (λ (s : Seen T U C). named_of s o) ((alone table earlier before.server led).unseen o.client never).0))
      ]
    where
      found : DestroysObject before o (Ok ok) after → (x : Object (Kept U)) × (named_of (seen o.client before.server) o ≡ Some x) × (named_of (seen o.client after.server) o ≡ None) × Unit {0}
      found plain = let (x, was, gone, notes, memory) = plain.object in (x, was, gone, tt)

      unseen : (x : Object (Kept U)) {n : Option (Object (Kept U))} → n ≡ Some x → n ≡ None → ⊥
      unseen x some none = absurd cc

      behind : (table : List InterfaceRow) (earlier later : List (Entry T U G C)) (end : ServerState T U G C) → Leads w (new_server table) earlier before.server
          → Leads w after.server later end → (x : Object (Kept U)) → named_of (seen o.client before.server) o ≡ Some x → named_of (seen o.client after.server) o ≡ None
          → WasInserted o.client earlier → named_of (seen o.client end) o ≡ None
      behind table earlier later end led leads x was gone inserted =
          let (e, is, refused, by) = call.step in
          let (transport, client_data, inserts) = inserted.inserts in
          nothing (named_of (seen o.client end) o)
          (again table earlier (e ∷ []) later before.server after.server end led (after.server, by, refl) leads o.client transport client_data inserted.earlier inserted.since inserted.entry inserted.split
          inserts o (ap is_some was) (λ some. true≢false (sym some ∙ ap is_some gone)))
