-- What is the same to each client is the same to the program: the slots that are free, whether memory was refused, replies,
-- and what look-ups answer.
use Rattle.std.proofs.Common.{arith, ◌≡◌, ℕ, Bool, true, false, List, Option, None, Some, is_some, Result, Ok, Err, Vec, refl, sym, ap, subst, ◌∙◌, true≢false, suc, ◌+◌, ◌<◌, ◌≤◌, [], ◌∷◌, length}
use Rattle.std.specs.Global.{Global}
use Rattle.std.specs.Prelude.{IsTrue, option_map, slice_index_or}
use Rattle.std.proofs.lemmas.Bool.{eq-eqb, eqb-true, false≢true}
use Rattle.wl_server_client.specs.declared.error.InsertClientError.{InsertClientError}
use Rattle.wl_server_client.specs.declared.notes.Note.{Note}
use Rattle.wl_server_model.specs.declared.step.Reply.{Reply}
use Rattle.wl_server_model.specs.declared.step.Reply.TheVariants as reply
use Rattle.wl_server_model.specs.declared.step.Step.{Step}
use Rattle.wl_server_model.specs.declared.step.Step.TheVariants as step
use Rattle.wl_server_client.specs.Deeds.{Deed}
use Rattle.wl_server_client.specs.Globals.{Offer}
use Rattle.wl_server_client.specs.Ids.{ClientParts, same_client, IdParts}
use Rattle.wl_server_model.proofs.OverRuns.Alone.IsolationLaw.{same_self}
use Rattle.wl_server_model.specs.Outcome.{SameReply, SharedSame}
use Rattle.wl_server_model.proofs.OverRuns.Outcome.PartOutcome.{Ample, same_reply}
use Rattle.wl_server_model.specs.PartStep.{Asked, PartStep, World, share_of}
use Rattle.wl_server_model.specs.Runs.{is_about}
use Rattle.wl_server_client.specs.Part.{Part, named}
use Rattle.wl_server_model.specs.Server.{Seen, ServerState, if_serial, seen, stored_at}
use Rattle.wl_server_client.specs.Stored.{Stored}
use Rattle.wl_server_model.specs.Steps.{Entry, InsertsNext, IsLeastFree, IsRefused, RisesBySlot, lacks_growth, RiseBySlot}
use Rattle.wl_server_model.specs.Outcome.Whole.{HoldsSame, WholeReply}
use Rattle.wl_server_model.proofs.CallSteps.Slots.{same_parts}
use Rattle.wl_server_model.specs.Lookups.{and_then, client_of, id_if_stored, live_from, object_of}

-- ---- what a cleanup hands out, by the share that each client has in it

pub same_client_is : (a b : ClientParts) → same_client a b ≡ true → a ≡ b
same_client_is a b same = same_parts a b (grind (arith, eqb-true, true≢false)) (grind (arith, eqb-true, false≢true))

-- the slots rise, from this one on
abbrev RiseFrom : {T : Type 0} → ℕ → List (ClientParts × T) → Type 0
RiseFrom low [] = Unit {0}
RiseFrom low (e ∷ rest) = (low ≤ e.0.slot) × RiseFrom (e.0.slot + 1) rest

module _ {T : Type 0} where
  rise_from : (low : ℕ) (out : List (ClientParts × T)) → RiseBySlot out
      → ((j : ℕ) (d : ClientParts × T) → j < length out → low ≤ (slice_index_or out j d).0.slot) → RiseFrom low out
  rise_from low [] rises above = tt
  rise_from low (e ∷ rest) rises above = (
    above 0 e (omega arith),
    rise_from (e.0.slot + 1) rest (λ i j d less within. rises (suc i) (suc j) d (omega (arith, less)) (omega (arith, within)))
        (λ j d within. let up = rises 0 (suc j) d (omega arith) (omega (arith, within)) in omega (arith, up)),
  )

  -- a client that has a share stands no lower
  shared_above : (low : ℕ) (id : ClientParts) (out : List (ClientParts × T)) (t : T) (ts : List T) → RiseFrom low out → share_of id out ≡ t ∷ ts
      → low ≤ id.slot
  shared_above low id [] t ts rises is = absurd cc
  shared_above low id (e ∷ rest) t ts (first, rises) is = grind (arith, eqb-true, shared_above (e.0.slot + 1) id rest t ts rises)

  own_share : (e : ClientParts × T) (rest : List (ClientParts × T)) → share_of e.0 (e ∷ rest) ≡ e.1 ∷ share_of e.0 rest
  own_share e rest = rw (same_self e.0) refl

  one_from : (low low' : ℕ) (out out' : List (ClientParts × T)) → RiseFrom low out → RiseFrom low' out'
      → ((id : ClientParts) → share_of id out ≡ share_of id out')
      → out ≡ out'
  one_from low low' [] [] up up' shares = refl
  one_from low low' [] (f ∷ rest') up up' shares = absurd (grind (arith, shares f.0, own_share f rest'))
  one_from low low' (e ∷ rest) [] up up' shares = absurd (grind (arith, shares e.0, own_share e rest))
  one_from low low' (e ∷ rest) (f ∷ rest') (first, up) (first', up') shares =
      grind (arith, own_share, same, one_from (e.0.slot + 1) (f.0.slot + 1) rest rest' up up' later)
    where
      e_there : share_of e.0 (f ∷ rest') ≡ e.1 ∷ share_of e.0 rest
      e_there = sym (shares e.0) ∙ own_share e rest

      f_there : share_of f.0 (e ∷ rest) ≡ f.1 ∷ share_of f.0 rest'
      f_there = shares f.0 ∙ own_share f rest'

      ids : f.0 ≡ e.0
      ids =
          let up_e = shared_above f.0.slot e.0 (f ∷ rest') e.1 (share_of e.0 rest) (omega arith, up') e_there in
          let up_f = shared_above e.0.slot f.0 (e ∷ rest) f.1 (share_of f.0 rest') (omega arith, up) f_there in
          grind (arith, same_client_is, shared_above (f.0.slot + 1) e.0 rest' e.1 (share_of e.0 rest) up', e_there)

      same : e ≡ f
      same = grind (arith, ids, e_there, own_share f rest')

      later : (id : ClientParts) → share_of id rest ≡ share_of id rest'
      later id = grind (arith, same, shares id)

  -- the shares determine the list
  pub shares_one : (out out' : List (ClientParts × T)) → RiseBySlot out → RiseBySlot out' → ((id : ClientParts) → share_of id out ≡ share_of id out')
      → out ≡ out'
  shares_one out out' rises rises' shares =
      one_from 0 0 out out' (rise_from 0 out rises (λ j d within. omega arith)) (rise_from 0 out' rises' (λ j d within. omega arith)) shares

-- ---- slots

module _ {T U C : Type 0} where
  -- the serial and the part of the client of a slot
  abbrev pub told_at : Option (Stored T U C) → Option (ℕ × Part T U C)
  told_at c = option_map (λ z. (z.serial, z.part)) c

  -- they are the same in each slot
  abbrev pub SameSlots : List (Option (Stored T U C)) → List (Option (Stored T U C)) → Type 0
  SameSlots clients others = (k : ℕ) → told_at (stored_at k clients) ≡ told_at (stored_at k others)

  free_there : (clients others : List (Option (Stored T U C))) → SameSlots clients others → (n : ℕ) → IsLeastFree clients n → IsLeastFree others n
  free_there clients others same n least = grind (arith, true≢false, stored_at, is_some, told_at)

  pub inserts_there : (last : ℕ) (clients others : List (Option (Stored T U C))) → SameSlots clients others
      → (r : Result ClientParts InsertClientError)
      → InsertsNext last clients r → InsertsNext last others r
  inserts_there last clients others h1 r h2 = grind (arith, free_there)

  pub found : (st : Stored T U C) (o : Option (Stored T U C)) → o ≡ Some st → if_serial st.serial o ≡ Some st
  found st o is = ap (λ (z : Option (Stored T U C)). if_serial st.serial z) is ∙ (rw (eq-eqb st.serial st.serial refl) refl)

  -- a client of the slot with the serial of this one and its part
  one_slot : (x : Stored T U C) (b : Option (Stored T U C)) → Some x.part ≡ option_map (λ z. z.part) (if_serial x.serial b)
      → told_at (Some x) ≡ told_at b
  one_slot x b is = grind (arith, eqb-true)

module _ {T U G C : Type 0} where
  pub slot_same : (s t : ServerState T U G C) → ((id : ClientParts) → seen id s ≡ seen id t) → (k : ℕ) (a b : Option (Stored T U C))
      → stored_at k s.clients ≡ a
      → stored_at k t.clients ≡ b → told_at a ≡ told_at b
  slot_same s t each k None None is is' = refl
  slot_same s t each k (Some x) b is is' =
      one_slot x b (grind (arith, found x (stored_at k s.clients) is, each (record { slot = k; serial = x.serial }), is'))
  slot_same s t each k None (Some y) is is' =
      sym (one_slot y None (grind (arith, found y (stored_at k t.clients) is', each (record { slot = k; serial = y.serial }), is)))

  -- servers of which the same is held have the same clients in their slots
  pub slots_same : (s t : ServerState T U G C) → HoldsSame s t → SameSlots s.clients t.clients
  slots_same s t same k = slot_same s t same.each k (stored_at k s.clients) (stored_at k t.clients) refl refl

  -- ---- memory

  -- where memory was not refused, it was refused neither for what a call makes of its own nor to any client
  pub ample_by : (e : Entry T U G C) → IsRefused e → e.refused ≡ false → (lacks_growth e.call ≡ false) × ((id : ClientParts) → e.lacks id ≡ false)
  ample_by e tells none = grind (arith, lacks_growth, true≢false)

-- ---- replies

module _ {T U : Type 0} where
  -- two replies are the same where what they are is
  same_whole : (ordered : Bool) (p q p' q' : Reply T U) → p ≡ p' → q ≡ q' → WholeReply ordered p' q' → WholeReply ordered p q
  same_whole ordered p q p' q' is is' same = subst (λ r. WholeReply ordered r q) (sym is) (subst (λ r. WholeReply ordered p' r) (sym is') same)

module _ {T U G C : Type 0} (ordered : Bool) (w : World T G C) (any : ClientParts) (offer : Offer G) (before : Seen T U C) (d e : List (Deed U))
    (x y : Seen T U C) where
  abbrev Rises : Step T U G C → Reply T U → Type 0
  Rises s answer = RisesBySlot (Asked s answer)

  cleanup_one : (r r' : _) → Ample {T = T} {U = U} {G = G} {C = C} step.Cleanup (reply.Cleanup r)
      → Ample {T = T} {U = U} {G = G} {C = C} step.Cleanup (reply.Cleanup r')
      → Rises step.Cleanup (reply.Cleanup r) → Rises step.Cleanup (reply.Cleanup r')
      → ((id : ClientParts) → SameReply {T = T} {U = U} id (reply.Cleanup r) (reply.Cleanup r'))
      → WholeReply {T = T} {U = U} ordered (reply.Cleanup r) (reply.Cleanup r')
  cleanup_one (Err f) r' ample ample' rises rises' same = absurd (true≢false ample)
  cleanup_one (Ok out) (Err f) ample ample' rises rises' same = absurd (true≢false ample')
  cleanup_one (Ok out) (Ok out') ample ample' rises rises' same = shares_one out.items out'.items rises rises' same

  -- Replies that are the same to each client whose step it is are the same to the program, if they hand out the same notes where
  -- the order counts.
  pub whole_one : (s : Step T U G C) (p q : Reply T U) → ((id : ClientParts) → is_about id s ≡ true → SameReply id p q) → SharedSame s p q
      → Ample s p → Ample s q → Rises s p → Rises s q
      → ((out out' : Vec (Note U) Global) → s ≡ step.TakeNotes → p ≡ reply.TakeNotes (Ok out) → q ≡ reply.TakeNotes (Ok out')
      → IsTrue ordered → out.items ≡ out'.items) → PartStep w any offer s p before false d x → PartStep w any offer s q before false e y → WholeReply ordered p q
  whole_one step.Cleanup p q one shared ample ample' rises rises' took (r, is, h) (r', is', g) = grind (arith, same_whole, cleanup_one, same_reply)
  whole_one step.TakeNotes p q one shared ample ample' rises rises' took (Ok out, is, h) (Ok out', is', g) =
      same_whole ordered p q _ _ is is' (λ id. same_reply id (reply.TakeNotes (Ok out)) (reply.TakeNotes (Ok out')) p q (sym is) (sym is') (one id refl), took out out' refl is is')
  whole_one step.TakeNotes p q _ _ ample ample' _ _ _ (r, is, _) (r', is', _) = absurd (grind (arith, true≢false, r, r'))
  whole_one (step.SetObjectData o u) p q one _ _ _ _ _ _ h g = grind (arith, same_whole, same_reply, one o.client (same_self o.client))
  whole_one (step.SetObjectVersion o version) p q one _ _ _ _ _ _ h g = grind (arith, same_whole, same_reply, one o.client (same_self o.client))
  whole_one (step.CreateObjectAt target i version n u) p q one _ _ _ _ _ _ h g = grind (arith, same_whole, same_reply, one target (same_self target))
  whole_one (step.CreateObject target i version u) p q one _ _ _ _ _ _ h g = grind (arith, same_whole, same_reply, one target (same_self target))
  whole_one (step.DestroyObject o) p q one _ _ _ _ _ _ h g = grind (arith, same_whole, same_reply, one o.client (same_self o.client))
  whole_one (step.SendEvent m) p q one _ _ _ _ _ _ h g = grind (arith, same_whole, same_reply, one m.sender_id.client (same_self m.sender_id.client))
  whole_one (step.Flush (Some target)) p q one _ _ _ _ _ _ h g = grind (arith, same_whole, same_reply, one target (same_self target))
  whole_one (step.NextAction target) p q one _ _ _ _ _ _ h g = grind (arith, same_whole, same_reply, one target (same_self target))
  whole_one (step.NextActionWithin target reading) p q one _ _ _ _ _ _ h g = grind (arith, same_whole, same_reply, one target (same_self target))
  whole_one (step.FinishRequest target u) p q one _ _ _ _ _ _ h g = grind (arith, same_whole, same_reply, one target (same_self target))
  whole_one (step.FinishBind target u) p q one _ _ _ _ _ _ h g = grind (arith, same_whole, same_reply, one target (same_self target))
  whole_one (step.Arrive target bytes tokens) p q one _ _ _ _ _ _ h g = grind (arith, same_whole, same_reply, one target (same_self target))
  whole_one (step.ArriveFault target f) p q one _ _ _ _ _ _ h g = grind (arith, same_whole, same_reply, one target (same_self target))
  whole_one (step.Accept target n) p q one _ _ _ _ _ _ h g = grind (arith, same_whole, same_reply, one target (same_self target))
  whole_one (step.AcceptFault target f) p q one _ _ _ _ _ _ h g = grind (arith, same_whole, same_reply, one target (same_self target))
  whole_one (step.TakeSent target) p q one _ _ _ _ _ _ h g = grind (arith, same_whole, same_reply, one target (same_self target))
  whole_one s p q one shared _ _ _ _ _ h g = grind (arith, same_whole, same_reply)

-- ---- look-ups

-- the live clients by slot, of lists that tell the same in each slot
pub live_one : {T U C : Type 0} (slot : ℕ) (xs ys : List (Option (Stored T U C))) → SameSlots xs ys → live_from slot xs ≡ live_from slot ys
live_one slot [] [] same = refl
live_one slot [] (y ∷ ys) same = grind (arith, same 0, id_if_stored, live_one (slot + 1) [] ys (λ k. same (suc k)))
live_one slot (x ∷ xs) [] same = grind (arith, same 0, id_if_stored, live_one (slot + 1) xs [] (λ k. same (suc k)))
live_one slot (x ∷ xs) (y ∷ ys) same = grind (arith, same 0, id_if_stored, live_one (slot + 1) xs ys (λ k. same (suc k)))

module _ {T U G C : Type 0} (s t : ServerState T U G C) (same : HoldsSame s t) where
  pub client_one : (id : ClientParts) → client_of s id ≡ client_of t id
  client_one id = ap (λ (z : Seen T U C). z.part) (same.each id)

  pub object_one : (id : IdParts) → object_of s id ≡ object_of t id
  object_one id = ap (λ (c : Option (Part T U C)). and_then c (λ p. named p.store id)) (client_one id.client)
