-- How the end of an action is a verdict that was carried out.
use Rattle.std.proofs.Common.{arith, append-nil, append_assoc, not, is_none, is_some, MatchResult, inl, inr, ◌≡◌, ◌∙◌, ℕ, Bool, true, false, eqb, List, [], ◌++◌, Option, None, Some, Result, Ok, Err, MatchOption, refl, sym, ap, subst}
use Rattle.std.proofs.lemmas.Option.{none-some}
use Rattle.std.proofs.lemmas.Bool.{false≢true}
use Rattle.wl_wire.specs.declared.error.IoFault.{IoFault}
use Rattle.wl_wire.specs.declared.error.IoFault.TheVariants as fault
use Rattle.wl_wire.specs.declared.error.OutOfMemory.{OutOfMemory}
use Rattle.wl_link.specs.declared.object.Object.{Object}
use Rattle.wl_link.specs.Exchange.{Queue}
use Rattle.wl_link.specs.Identity.{Id}
use Rattle.wl_link.specs.Link.{LinkState}
use Rattle.wl_link.specs.Puts.{lacks_memory}
use Rattle.wl_link.specs.Reader.{came_to}
use Rattle.wl_link.specs.Store.{Store, held, removed}
use Rattle.wl_link.proofs.Ids.StoreLaws.{removed_here, rewritten_other}
use Rattle.wl_server_client.specs.declared.reading.action.OpenAction.TheVariants as opened
use Rattle.wl_server_client.specs.declared.error.FinishError.{FinishError}
use Rattle.wl_server_client.specs.declared.error.FinishError.TheVariants as finish
use Rattle.wl_server_client.specs.declared.error.FinishRefused.{FinishRefused}
use Rattle.wl_server_client.specs.declared.objects.Kept.{Kept}
use Rattle.wl_server_client.specs.declared.notes.DisconnectReason.TheVariants.{ConnectionClosed}
use Rattle.wl_server_client.specs.declared.notes.Happening.{Happening}
use Rattle.wl_server_client.specs.Inside.Carried.{IsCarried}
use Rattle.wl_server_client.specs.Inside.Client.{Does}
use Rattle.wl_server_client.specs.Deeds.{Deed}
use Rattle.wl_server_client.specs.Finish.{FinishesOpen, Refuses, core_finished, data_given, ended_by, ends, ends_request, refusal, store_with_data}
use Rattle.wl_server_client.specs.Inside.Finishing.{EndsObject, EndsSender, is_out_of_memory, part_finished}
use Rattle.wl_server_client.specs.Objects.{unless_refused}
use Rattle.wl_server_client.specs.Ids.{ClientParts, IdParts}
use Rattle.wl_server_client.specs.Part.{id_of, named, note_of_end, registries_without, serial_of, with_link, with_user_data, Part}
use Rattle.wl_server_client.specs.Inside.Puts.{Puts}
use Rattle.wl_server_client.specs.Stored.{NoteTimes, Stored, no_times, untimed}
use Rattle.wl_server_client.specs.Telling.{Kills, closed_down, core_of, deletions, speaker}
use Rattle.wl_server_client.proofs.CallSteps.Doing.{does_quietly}
use Rattle.wl_server_client.proofs.Readings.Notes.{tells_carried, made_end}
use Rattle.wl_server_client.proofs.GlobalCalls.Putting.{puts_none}
use Rattle.wl_server_client.proofs.ObjectCalls.Destroying.{named_is_held}
use Rattle.wl_server_client.specs.declared.reading.action.OpenAction.{OpenAction}
use Rattle.wl_link.proofs.Calls.Branches.{either_option}
use Rattle.std.proofs.Math.Bool.{or-false}

-- ---- its end

module _ {U : Type 0} where
  -- an object that is ended is the one that the id names
  pub ended_named : (store : Store (Kept U)) (sender : IdParts) (x : Object (Kept U)) (is_destructor : Bool)
      → ended_by store sender is_destructor ≡ Some x
      → named store sender ≡ Some x
  ended_named store sender x h4 is = grind (arith, none-some)

module _ {T U C : Type 0} (sends : T → Queue → Result ℕ IoFault → T → Type 0) (client : ClientParts) (s : Stored T U C) (sender : IdParts)
    (is_destructor : Bool) where
  -- it was taken out at its number, and noted
  pub ends_taken : (x : Object (Kept U)) (n : ℕ) (wrote : Result (Unit {0}) IoFault) (link : LinkState T) (store : Store (Kept U))
      (registries : List Id)
      (made same_made : List (Happening U)) (times : NoteTimes) → Some x ≡ ended_by s.part.store sender is_destructor → n ≡ sender.number
      → Puts sends s.part.link (deletions n) wrote link
      → false ≡ lacks_memory wrote → store ≡ removed s.part.store n
      → ((y : Object (Kept U)) → held s.part.store n ≡ Some y
      → (registries ≡ registries_without s.part.registries n y) × (made ≡ same_made ++ note_of_end client n y))
      → same_made ≡ s.made → EndsSender sends client s sender is_destructor (Ok wrote)
      (record { serial = s.serial; part = record s.part { link = link; store = store; registries = registries }; made = made; times = times })
  ends_taken x n wrote link store registries made same_made times ended-is n-is puts lacks store-is left same-is =
      grind (arith, named_is_held, ended_named, deletions, no_times, registries_without, note_of_end)

-- ---- what it leaves

module _ {U : Type 0} where
  -- data that an object is given make none at a number that holds none
  pub still_gone : (store : Store (Kept U)) (n : ℕ) (created : Option IdParts) (u : Option U) → held store n ≡ None
      → held (store_with_data store created u) n ≡ None
  still_gone store n created u h1 = grind (arith, named, data_given, rewritten_other, with_user_data, named_is_held)

  -- an object that left is named no more, whatever data the new one was given
  pub not_named : (store : Store (Kept U)) (sender : IdParts) (created : Option IdParts) (u : Option U)
      → named (store_with_data (removed store sender.number) created u) sender ≡ None
  not_named store sender created u = grind (arith, eqb, serial_of, id_of, store_with_data, still_gone, removed_here)

-- ---- a write's answer

pub wanted_memory : (wrote : Result (Unit {0}) IoFault) → lacks_memory wrote ≡ true → wrote ≡ Err fault.OutOfMemory
wanted_memory h1 is = grind (arith, false≢true)

-- ---- the end of a request

pub where_none : {X : Type 0} (o : Option X) → None ≡ o → (A : Type 0) (B : X → Type 0) → A → MatchOption o A B
where_none h1 is h3 h4 h = grind (arith, none-some)

pub where_some : {X : Type 0} (o : Option X) (x : X) → Some x ≡ o → (A : Type 0) (B : X → Type 0) → B x → MatchOption o A B
where_some {X} o x is A B h = subst (λ (o : Option X). MatchOption o A B) is h

module _ {T U C : Type 0} (sends : T → Queue → Result ℕ IoFault → T → Type 0) (client : ClientParts) (s : Stored T U C) (sender : IdParts)
    (is_destructor : Bool)
    (created : Option IdParts) (u : Option U) where
  -- the action is finished
  abbrev finished : Stored T U C → Stored T U C
  finished mid = record (untimed mid) { part = part_finished mid.part created u }

  abbrev ReachedBy : Option (Object (Kept U)) → Bool → Stored T U C → Type 0
  ReachedBy o refused after = IsCarried sends (ends client (core_of s.part) sender o created u) s refused after

  -- the object stays where there was no memory
  stays : (x : Object (Kept U)) (e : OutOfMemory) (after : Stored T U C) → named s.part.store sender ≡ Some x
      → EndsObject sends client s sender x (Err e) after
      → ReachedBy (Some x) true after
  stays x e after kept (inl (asks, same)) =
      (core_of s.part, s.part.link, inr (asks, refl, refl, refl), ap untimed same ∙ rw kept (made_end s.serial s.part s.made))
  stays x e after kept (inr (wrote, lacks, puts, is)) = (
    core_of s.part,
    after.part.link,
    inl (wrote, after.part.link, [], false, puts, (refl, refl, refl), rw (wanted_memory wrote lacks) refl, sym (or-false _ ∙ lacks)),
    ap untimed is ∙ rw kept (made_end s.serial (with_link s.part after.part.link) s.made),
  )

  -- it leaves
  leaves : (x : Object (Kept U)) (wrote : Result (Unit {0}) IoFault) (mid after : Stored T U C) → EndsObject sends client s sender x (Ok wrote) mid
      → MatchResult wrote (λ _. untimed after ≡ finished mid) (λ _. Does (finished mid) (λ p did q. Kills p ConnectionClosed did q) after)
      → ReachedBy (Some x) false after
  leaves x wrote mid after (puts, lacks, is) tells = (
    came_to speaker (ends client (core_of s.part) sender (Some x) created u) wrote,
    mid.part.link,
    inl (wrote, mid.part.link, [], false, puts, (refl, refl, refl), refl, sym (or-false _ ∙ lacks)),
    grind (arith, is, x, created, append-nil, append_assoc, came_to, speaker, closed_down, false≢true, named, not_named),
  )

  -- of the sender, where it is ended and kept, and else of none
  pub ends_starved : (e : OutOfMemory) (after : Stored T U C) → EndsSender sends client s sender is_destructor (Err e) after
      → ReachedBy (ended_by s.part.store sender is_destructor) true after
  ends_starved e after h =
      elim (either_option (ended_by s.part.store sender is_destructor) h) [
        | inl (none, (is, same)) ↦ absurd cc
        | inr (x, is, h) ↦ rw is (stays x e after (ended_named s.part.store sender x is_destructor is) h)
      ]

  pub ends_done : (wrote : Result (Unit {0}) IoFault) (mid after : Stored T U C) → EndsSender sends client s sender is_destructor (Ok wrote) mid
      → MatchResult wrote (λ _. untimed after ≡ finished mid) (λ _. Does (finished mid) (λ p did q. Kills p ConnectionClosed did q) after)
      → ReachedBy (ended_by s.part.store sender is_destructor) false after
  ends_done wrote mid after h tells =
      elim (either_option (ended_by s.part.store sender is_destructor) h) [
        | inl (none, (is, same)) ↦
            let all_put : wrote ≡ Ok tt = cc in
            rw none (
              core_finished (core_of s.part) created u,
              s.part.link,
              inl (Ok tt, s.part.link, [], false, puts_none sends s.part.link, (refl, refl, refl), refl, refl),
              (rw all_put at tells) ∙ ap finished same ∙ made_end s.serial (part_finished s.part created u) s.made,
            )
        | inr (x, is, h) ↦ rw is (leaves x wrote mid after h tells)
      ]

  -- ---- a request that is finished with these data, or refused

  abbrev RequestDoes : Result (Unit {0}) (FinishRefused (Option U)) → Bool → Stored T U C → Type 0
  RequestDoes answer refused after =
      Does s (λ p did q. FinishesOpen sends client p (opened.Request sender is_destructor created) u answer refused did q) after

  pub request_ends : (answer : Result (Unit {0}) (FinishRefused (Option U))) (refused : Bool) (after : Stored T U C)
      → None ≡ refusal s.part.is_killed created u
      → answer ≡ unless_refused (record { error = finish.OutOfMemory; user_data = u }) refused
      → ReachedBy (ended_by s.part.store sender is_destructor) refused after
      → RequestDoes answer refused after
  request_ends answer refused after none is reached =
      let t = tells_carried sends (ends_request client (core_of s.part) sender is_destructor created u) s after refused reached in
      (t.0, t.1, where_none (refusal s.part.is_killed created u) none _ (λ e. Refuses s.part u e answer refused t.0 t.1) (is, t.2), t.3)

  pub request_refused : (e : FinishError) → Some e ≡ refusal s.part.is_killed created u
      → RequestDoes (Err (record { error = e; user_data = u })) (is_out_of_memory e) s
  request_refused e some =
      does_quietly s (λ p did q. FinishesOpen sends client p (opened.Request sender is_destructor created) u
      (Err (record { error = e; user_data = u })) (is_out_of_memory e) did q)
      s.part
      (grind (arith, where_some, refusal, is_out_of_memory, is_some, is_none, not))

-- ---- the end of what is open, a request or a bind

module _ {T U C D : Type 0} (s : Stored T U C) (d : D)
    (Ends : OpenAction → Part T U C → Result (Unit {0}) (FinishRefused D) → Bool → List (Deed U) → Part T U C → Type 0) where
  abbrev ByAction : Result (Unit {0}) (FinishRefused D) → Bool → Stored T U C → Type 0
  ByAction answer refused after =
      Does s (λ p did q. MatchOption p.action (Refuses p d finish.NoOpenAction answer refused did q) (λ a. Ends a p answer refused did q)) after

  pub none_open : s.part.action ≡ None → ByAction (Err (record { error = finish.NoOpenAction; user_data = d })) false s
  none_open none =
      does_quietly s (λ p did q. MatchOption p.action
      (Refuses p d finish.NoOpenAction (Err (record { error = finish.NoOpenAction; user_data = d })) false did q)
      (λ a. Ends a p (Err (record { error = finish.NoOpenAction; user_data = d })) false did q)) s.part
      (where_none s.part.action (sym none) _ _ (refl, refl, refl, refl))

  pub is_open : (a : OpenAction) (answer : Result (Unit {0}) (FinishRefused D)) (refused : Bool) (after : Stored T U C) → s.part.action ≡ Some a
      → Does s (λ p did q. Ends a p answer refused did q) after → ByAction answer refused after
  is_open a answer refused after is (did, q, does, same) = (did, q, where_some s.part.action a (sym is) _ _ does, same)

  -- what is open is not ended so, for this reason
  pub is_refused : (a : OpenAction) (e : FinishError) → s.part.action ≡ Some a
      → Ends a s.part (Err (record { error = e; user_data = d })) false [] s.part
      → ByAction (Err (record { error = e; user_data = d })) false s
  is_refused a e is ends =
      is_open a (Err (record { error = e; user_data = d })) false s is
      (does_quietly s (λ p did q. Ends a p (Err (record { error = e; user_data = d })) false did q) s.part ends)
