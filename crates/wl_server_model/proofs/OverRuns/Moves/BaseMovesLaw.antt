-- That each call is a chain of base moves, of whatever client.
use Rattle.std.proofs.Common.{◌≡◌, ◌⊎◌, ℕ, zero, suc, ◌<◌, Bool, true, false, List, [], ◌∷◌, ◌++◌, map, Option, None, Some, Result, Ok, Err, refl, sym, ap, subst, ◌∙◌, true≢false, arith}
use Rattle.std.proofs.lemmas.Option.{none-some}
use mathlib.Core.Logic.{inl, inr}
use Rattle.std.specs.Prelude.{Contains, AllPairs, Vec}
use Rattle.std.specs.Global.{Global}
use Rattle.std.specs.FinMap as finmap
use Rattle.std.proofs.lemmas.Bool.{cases_eq, MatchBool-at_false, MatchBool-at_true, cases_Bool}
use Rattle.wl_wire.specs.declared.error.IoFault.{IoFault}
use Rattle.wl_wire.specs.declared.error.OutOfMemory.{OutOfMemory}
use Rattle.wl_wire.specs.declared.interface.InterfaceId.{InterfaceId}
use Rattle.wl_link.specs.declared.object.Object.{Object}
use Rattle.wl_link.proofs.Calls.Branches.{either_bool, either_option}
use Rattle.wl_link.specs.Exchange.{Queue, Sending}
use Rattle.wl_link.specs.Link.{LinkState, with_transport}
use Rattle.wl_link.specs.Puts.{Said}
use Rattle.wl_link.specs.Store.{held, IsWalk}
use Rattle.wl_link.proofs.Ids.StoreLaws.{removed_here, removed_other, walk_of_entries}
use Rattle.wl_server_client.specs.declared.error.GlobalError.{GlobalError}
use Rattle.wl_server_client.specs.declared.objects.Kept.{Kept}
use Rattle.wl_server_client.specs.declared.notes.Happening.{Happening}
use Rattle.wl_server_client.specs.declared.notes.Happening.TheVariants.{Initialized}
use Rattle.wl_server_client.specs.declared.notes.Note.{Note}
use Rattle.wl_server_model.specs.declared.step.Reply.{Reply}
use Rattle.wl_server_model.specs.declared.step.Reply.TheVariants as reply
use Rattle.wl_server_model.specs.declared.step.Step.{Step}
use Rattle.wl_server_model.specs.declared.step.Step.TheVariants as step
use Rattle.wl_server_model.specs.Broken.{reads_of}
use Rattle.wl_server_model.specs.HandedIds.{made_ids}
use Rattle.wl_server_model.proofs.OverRuns.Moves.BaseMoves.{Doings, Goes, Kind, MayRead, cleaned, doings_of, flushed, followed, handed_by, joined, left_by, left_id, moved, nothing_done, notes_taken, noting, relinked, stayed, taken_out, unfelt, went, within, any, sending}
use Rattle.wl_server_client.specs.Deeds.{Deed, Noted, NoteTaken, left_if, notes_in, Sent}
use Rattle.wl_server_model.proofs.OverRuns.Alone.IsolationLaw.{other_call}
use Rattle.wl_server_model.proofs.OverRuns.Moves.DoingsLaws.{doings_in, doings_in_both, doings_sends}
use Rattle.wl_server_client.specs.Felt.{Cleaned, FlushedTo, FlushesLive, Hears, objects_leave}
use Rattle.wl_wire.specs.declared.error.ProtocolError.{ProtocolError}
use Rattle.wl_server_client.specs.declared.notes.DisconnectReason.{DisconnectReason}
use Rattle.wl_server_client.specs.declared.notes.DisconnectReason.TheVariants.{ProtocolError as BrokeProtocol}
use Rattle.wl_server_client.specs.Globals.{Offer}
use Rattle.wl_server_client.specs.Ids.{ClientParts, GlobalParts, IdParts, same_client}
use Rattle.wl_server_model.specs.Moves.{Move, Moved}
use Rattle.wl_server_model.specs.NotedEnds.Errors.{MayKillFor}
use Rattle.wl_server_model.proofs.OverRuns.Moves.MovesOfCalls.{creates_moves, destroys_moves, finishes_bind_moves, finishes_moves, kills_moves, numbered_moves, posts_moves, sends_moves, sets_version, tells_comes, writes}
use Rattle.wl_server_model.proofs.OverRuns.Moves.MovesOfReadings.{next_action_moves}
use Rattle.wl_server_model.proofs.OverRuns.Moves.MovesOfVerdicts.{Go, same_doings, tells_moves}
use Rattle.wl_server_client.specs.Part.{Part, end_note, fresh_part, id_at, id_of, with_link, named}
use Rattle.wl_server_model.specs.PartStep.{Asked, Call, Changed, CleanedAs, FeelsGlobal, FeelsLoss, FlushedFor, Grown, MovedFor, NotesTaken, OfClient, OnPart, PartCall, PartStep, ReadsFor, Unfelt, World, around}
use Rattle.wl_server_model.specs.Runs.{concerns, is_about}
use Rattle.wl_server_model.specs.Server.{Seen}
use Rattle.wl_server_client.specs.Telling.{core_of, tells}
use Rattle.wl_link.specs.Identity.{HandedId}
use Rattle.wl_server_client.proofs.ObjectCalls.Destroying.{named_is_held}

-- ---- the objects of a client that is taken out

module _ {A : Type 0} where
  pairs_first : (e : ℕ × A) (es : List (ℕ × A)) (x : ℕ × A) → AllPairs (λ a b. a.0 < b.0) (e ∷ es) → Contains es x → e.0 < x.0
  pairs_first e es x pairs (k, lt, is) = subst (λ (y : ℕ × A). e.0 < y.0) is (pairs zero (suc k) x (omega arith) (omega (arith, lt)))

module _ {U : Type 0} where
  pub doings_noted : (notes : List (Happening U)) → doings_in (map Noted notes) ≡ noting notes
  doings_noted [] = refl
  doings_noted (h ∷ notes) = ap (λ (d : Doings U). record d { notes = h ∷ d.notes }) (doings_noted notes)

  pub doings_taken : (notes : List (Happening U)) → doings_in (map NoteTaken notes) ≡ record nothing_done { taken = notes }
  doings_taken [] = refl
  doings_taken (h ∷ notes) = ap (λ (d : Doings U). record d { taken = h ∷ d.taken }) (doings_taken notes)

  -- of a client that is taken out the notes that waited are made, its objects leave, and what waits is flushed
  doings_cleaned : (notes : List (Happening U)) (leave : List (Deed U)) (es : List Sending)
      → doings_in (map Noted notes ++ (leave ++ map Sent es)) ≡ joined (noting notes) (joined (doings_in leave) (sending es))
  doings_cleaned notes leave es = grind (arith, doings_in_both, doings_noted, doings_sends, joined, sending, noting)

module _ {T U C : Type 0} (kind : Kind) (sends : T → Queue → Result ℕ IoFault → T → Type 0) (receives : T → ℕ → Result Queue IoFault → T → Type 0)
    (client : ClientParts) where
  abbrev Leads : Part T U C → Doings U → Part T U C → Type 0
  Leads p d q = Go kind sends receives client p d q

  record Emptied (p : Part T U C) (entries : List (ℕ × Object (Kept U))) : Type 0 where
    after : Part T U C
    moves : Leads p (doings_in (objects_leave client entries)) after
    none : (n : ℕ) → held after.store n ≡ None
    waiting : after.waiting ≡ p.waiting
    link : after.link ≡ p.link

  empties : (p : Part T U C) (entries : List (ℕ × Object (Kept U))) → IsWalk p.store entries → Emptied p entries
  empties p [] is =
      let all : (n : ℕ) (x : Object (Kept U)) → held p.store n ≡ Some x → Contains [] (n, x) = λ n x. (is.each n x).1 in
      record { after = p; moves = stayed refl refl; none = λ n. (grind (arith, held p.store n, all n)); waiting = refl; link = refl }
  empties p (e ∷ entries) is =
      let mid : Part T U C = left_by client false p e.0 e.1 in
      let rest = empties mid entries (record {
        ascending = λ i j d less lt. is.ascending (suc i) (suc j) d (omega (arith, less)) (omega (arith, lt));
        each = λ n x. (
          λ among. removed_other p.store e.0 n (λ same. (let less : e.0 < n = pairs_first e entries
              (n, x) is.ascending among in omega (arith, less, same))) ∙ (is.each n x).0 ((suc among.0, omega (arith, among.1), among.2)),
          grind (arith, cases_eq, none-some, removed_here, removed_other, is.each n x),
        );
      }) in
      record {
        after = rest.after;
        moves = followed (moved {q = mid} (went e.0 e.1 false ((is.each e.0 e.1).0 (zero, omega arith, refl)) refl refl)) rest.moves
            (grind (arith, doings_in, end_note, id_at, left_if, id_of, joined, nothing_done, left_id, e.0, e.1, objects_leave client entries));
        none = rest.none;
        waiting = rest.waiting;
        link = rest.link;
      }

  -- ---- what each client feels

  hears_moves : (p : Part T U C) (messages : List Said) (lacked : Bool) (did : List (Deed U)) (q : Part T U C) → Hears sends p messages lacked did q
      → Leads p (doings_in did) q
  hears_moves p messages lacked did q h =
      elim (either_bool p.is_killed h) [
        | inl s ↦ stayed (ap doings_in s.1) s.2
        | inr tells' ↦
            tells_moves kind sends receives client p (tells (core_of p) messages) lacked did q
            (tells_comes kind sends receives client (core_of p) messages refl) tells'
      ]

  flushed_moves : (p : Part T U C) (answer : Result (Unit {0}) IoFault) (lacked : Bool) (did : List (Deed U)) (q : Part T U C)
      → FlushedTo sends p answer lacked did q
      → Leads p (doings_in did) q
  flushed_moves p answer lacked did q (es, link, by, no_memory, did_so, same) =
      moved (flushed es answer link by (ap doings_in did_so ∙ doings_sends es) same)

  flushes_moves : (p : Part T U C) (lacked : Bool) (did : List (Deed U)) (q : Part T U C) → FlushesLive sends p lacked did q
      → Leads p (doings_in did) q
  flushes_moves p lacked did q h =
      elim (either_bool p.is_killed h) [
        | inl s ↦ stayed (ap doings_in s.1) s.2
        | inr (answer, f) ↦ flushed_moves p answer lacked did q f
      ]

  -- ---- what is held of a client

  abbrev Run : Seen T U C → Doings U → Seen T U C → Type 0
  Run s d t = Goes kind sends receives client s d t

  -- a step that is about this client, or about another, or that each client feels
  on_part : (s : Seen T U C) (R : Part T U C → Part T U C → Type 0) (missing : Type 0) (lacked : Bool) (did : List (Deed U)) (t : Seen T U C)
      (d : Doings U)
      → d.notes ≡ notes_in did → (did ≡ [] → missing → d ≡ nothing_done) → ((p q : Part T U C) → R p q → Leads p d q)
      → OnPart s R missing lacked did t → Run s d t
  on_part s R missing lacked did t d notes nothing moves h = grind (arith, notes_in, unfelt, within)

  unfelt_goes : (s : Seen T U C) (lacked : Bool) (did : List (Deed U)) (t : Seen T U C) → Unfelt s lacked did t → Run s (doings_in did) t
  unfelt_goes s lacked did t (no_memory, none, same) = unfelt (ap doings_in none) same

  of_client : (b : Bool) (s : Seen T U C) (R : Part T U C → Part T U C → Type 0) (missing : Type 0) (lacked : Bool) (did : List (Deed U))
      (t : Seen T U C)
      → (b ≡ true → (p q : Part T U C) → R p q → Leads p (doings_in did) q) → OfClient b s R missing lacked did t → Run s (doings_in did) t
  of_client true s R missing lacked did t moves h = on_part s R missing lacked did t (doings_in did) refl (λ none m. ap doings_in none) (moves refl) h
  of_client false s R missing lacked did t moves h = unfelt_goes s lacked did t h

for_reason : (kind : Kind) (reason : DisconnectReason) → ((e : ProtocolError) → reason ≡ BrokeProtocol e → kind.kills (BrokeProtocol e))
    → kind.kills reason
for_reason kind h2 may = grind (arith)

-- the call is a cleanup that succeeds, so notes that wait are made
abbrev pub gathers_in : {T U G C : Type 0} → Call T U G C → Bool
gathers_in (Asked step.Cleanup (reply.Cleanup (Ok out))) = true
gathers_in _ = false

-- the call hands out notes
abbrev pub hands_in : {T U G C : Type 0} → Call T U G C → Bool
hands_in (Asked step.TakeNotes (reply.TakeNotes (Ok out))) = true
hands_in _ = false

-- the call ends the action of this client
abbrev pub finishes_of : {T U G C : Type 0} → ClientParts → Call T U G C → Bool
finishes_of id (Asked (step.FinishRequest target u) answer) = same_client target id
finishes_of id (Asked (step.FinishBind target u) answer) = same_client target id
finishes_of id _ = false

module _ {T U G C : Type 0} (kind : Kind) (w : World T G C) (id : ClientParts) (offer : Offer G) where
  abbrev To : Seen T U C → List (Deed U) → Seen T U C → Type 0
  To s did t = Goes kind w.sends w.receives id s (doings_in did) t

  global_goes : (i : InterfaceId) (version : ℕ) (handler : G) (r : Result GlobalParts GlobalError) (s : Seen T U C) (lacked : Bool)
      (did : List (Deed U)) (t : Seen T U C)
      → FeelsGlobal w id offer i version handler r s lacked did t → To s did t
  global_goes i version handler r s lacked did t h1 = grind (arith, on_part, doings_in, hears_moves, unfelt_goes)

  loss_goes : (g : GlobalParts) (s : Seen T U C) (lacked : Bool) (did : List (Deed U)) (t : Seen T U C) → FeelsLoss w id offer g s lacked did t
      → To s did t
  loss_goes g s lacked did t h = grind (arith, either_bool, on_part, doings_in, hears_moves, unfelt_goes)

  flushed_goes : (target : Option ClientParts) (answer : Result (Unit {0}) IoFault) (s : Seen T U C) (lacked : Bool) (did : List (Deed U))
      (t : Seen T U C)
      → FlushedFor w id offer target answer s lacked did t → To s did t
  flushed_goes None answer s lacked did t (is, h) = grind (arith, on_part, doings_in, flushes_moves)
  flushed_goes (Some target) answer s lacked did t h =
      of_client kind w.sends w.receives id (same_client target id) s _ _ lacked did t
      (λ mine p q f. flushed_moves kind w.sends w.receives id p answer lacked did q f) h

  -- a killed client is taken out: its notes are made, its objects leave, and what waits is flushed
  cleaned_goes : (s : Seen T U C) (p : Part T U C) → kind.gathers ≡ true → s.part ≡ Some p
      → (lacked : Bool) (did : List (Deed U)) (out : List T) (q : Option (Part T U C)) (t : Seen T U C)
      → Cleaned w.sends id p lacked did out q → t ≡ record { part = q; made = s.made ++ notes_in did } → To s did t
  cleaned_goes s p on there lacked did out q t h same =
      elim (cases_Bool p.is_killed) [
        | inr live ↦
            let (no_memory, did_so, nobody, is) = MatchBool-at_false _ _ live h in
            within p (record p { waiting = [] }) there (moved (cleaned on (ap doings_in did_so ∙ doings_noted p.waiting) refl))
            (same ∙ ap (λ (o : Option (Part T U C)). record { part = o; made = s.made ++ notes_in did }) is)
        | inl killed ↦
            let (sent, answer, end, (es, link, by, no_memory, sent_so, end_so), did_so, handed, is) = MatchBool-at_true _ _ killed h in
            let gone = empties kind w.sends w.receives id (record p { waiting = [] }) (finmap.entries p.store.objects) (walk_of_entries p.store) in
            taken_out p (with_link gone.after link) on there killed
            (followed (moved (cleaned on refl refl))
            (followed gone.moves (moved (flushed es answer link (rw gone.link by) refl refl)) refl)
            (ap doings_in (did_so
            ∙ ap (λ (l : List (Deed U)). map Noted p.waiting ++ (objects_leave id (finmap.entries p.store.objects) ++ l)) sent_so)
            ∙ doings_cleaned p.waiting (objects_leave id (finmap.entries p.store.objects)) es))
            gone.none gone.waiting (same ∙ ap (λ (o : Option (Part T U C)). record { part = o; made = s.made ++ notes_in did }) is)
      ]

  cleanup_goes : (answer : Result (Vec (ClientParts × T) Global) OutOfMemory) (s : Seen T U C) (lacked : Bool) (did : List (Deed U)) (t : Seen T U C)
      → (gathers_in {T = T} {U = U} {G = G} {C = C} (Asked step.Cleanup (reply.Cleanup answer)) ≡ true → kind.gathers ≡ true)
      → CleanedAs w id offer answer s lacked did t → To s did t
  cleanup_goes answer s lacked did t h1 h2 = grind (arith, unfelt_goes, either_option, cleaned_goes)

  taken_goes : (answer : Result (Vec (Note U) Global) OutOfMemory) (s : Seen T U C) (lacked : Bool) (did : List (Deed U)) (t : Seen T U C)
      → (hands_in {T = T} {U = U} {G = G} {C = C} (Asked step.TakeNotes (reply.TakeNotes answer)) ≡ true → kind.hands ≡ true)
      → NotesTaken w id offer answer s lacked did t → To s did t
  taken_goes h1 s lacked did t on h = grind (arith, unfelt_goes, notes_taken, doings_in, doings_taken)

  moved_goes : (target : ClientParts) (m : Move) (answer : Moved) (s : Seen T U C) (lacked : Bool) (did : List (Deed U)) (t : Seen T U C)
      → MovedFor w id offer target m answer s lacked did t → To s did t
  moved_goes target m answer s lacked did t h =
      of_client kind w.sends w.receives id (same_client target id) s _ _ lacked did t
      (λ mine p q (no_memory, none, with'). (moved (relinked (with_transport p.link with'.0) refl refl (λ unread. refl)
      (ap doings_in none) with'.2))) h

  reads_goes : (target : ClientParts) → (same_client target id ≡ true → MayRead kind offer.table id)
      → (r : _) (answer : _) (r' : _) (s : Seen T U C) (lacked : Bool) (did : List (Deed U)) (t : Seen T U C)
      → ReadsFor w id offer target r answer r' s lacked did t → To s did t
  reads_goes target may r answer r' s lacked did t h =
      of_client kind w.sends w.receives id (same_client target id) s _ _ lacked did t
      (λ mine p q read. next_action_moves kind w.sends w.receives (around w id offer) (may mine) r p answer r' lacked did q read) h

  -- the moves that the call makes are among these
  pub record Permits (call : Call T U G C) : Type 0 where
    pub kills : (e : ProtocolError) → MayKillFor offer.table id call e → kind.kills (BrokeProtocol e)
    pub gathers : gathers_in call ≡ true → kind.gathers ≡ true
    pub hands : hands_in call ≡ true → kind.hands ≡ true
    pub reads : reads_of id call ≡ true → kind.reads ≡ true
    pub finishes : finishes_of id call ≡ true → kind.finishes ≡ true

  abbrev Handed : Call T U G C → Seen T U C → List (Deed U) → Seen T U C → Type 0
  Handed call s did t = Goes kind w.sends w.receives id s (doings_of (handed_by id call did) did) t

  step_goes : (call : Step T U G C) (answer : Reply T U) (s : Seen T U C) (lacked : Bool) (did : List (Deed U)) (t : Seen T U C)
      → is_about id call ≡ true → Permits (Asked call answer) → PartStep w id offer call answer s lacked did t
      → Handed (Asked call answer) s did t
  step_goes (step.InsertClient transport client_data) answer s lacked did t about may h = absurd (true≢false (sym about))
  step_goes (step.SetObjectData o u) answer s lacked did t about may (r, is, h) =
      grind (arith, of_client, same_doings, nothing_done, doings_in, named, stayed, writes, named_is_held)
  step_goes (step.CreateObject target i version u) answer s lacked did t about may (r, is, h) =
      grind (arith, made_ids, doings_of, on_part, creates_moves, unfelt)
  step_goes (step.SetObjectVersion o version) answer s lacked did t about may (r, is, h) =
      of_client kind w.sends w.receives id (same_client o.client id) s _ _ lacked did t
      (λ mine p q (no_memory, none, set). sets_version kind w.sends w.receives id offer.table p o version r did q none set) h
  step_goes (step.CreateObjectAt target i version n u) answer s lacked did t about may (r, is, h) =
      grind (arith, made_ids, doings_of, on_part, numbered_moves, unfelt)
  step_goes (step.DestroyObject o) answer s lacked did t about may (r, is, h) = grind (arith, of_client, same_client, destroys_moves)
  step_goes (step.SendEvent m) answer s lacked did t about may (r, is, h) =
      of_client kind w.sends w.receives id (same_client m.sender_id.client id) s _ _ lacked did t
      (λ mine p q d. sends_moves kind w.sends w.receives id offer.table p _ r lacked did q d) h
  step_goes (step.PostError o code text) answer s lacked did t about may (is, h) =
      of_client kind w.sends w.receives id (same_client o.client id) s _ _ lacked did t
      (λ mine p q d. posts_moves kind w.sends w.receives id offer.table p o _ _ lacked did q (may.kills _ (mine, refl)) d) h
  step_goes (step.KillClient target reason) answer s lacked did t about may (is, h) =
      of_client kind w.sends w.receives id (same_client target id) s _ _ lacked did t
      (λ mine p q (no_memory, k). kills_moves kind w.sends w.receives id p reason did q
      (for_reason kind reason (λ e is. may.kills e (mine, is))) k) h
  step_goes (step.CreateGlobal i version handler) answer s lacked did t about may (r, is, h) = global_goes i _ handler r s lacked did t h
  step_goes (step.DisableGlobal g) answer s lacked did t about may (is, h) = loss_goes g s lacked did t h
  step_goes (step.RemoveGlobal g) answer s lacked did t about may (is, h) = loss_goes g s lacked did t h
  step_goes (step.Flush target) answer s lacked did t about may (r, is, h) = flushed_goes target r s lacked did t h
  step_goes (step.SetClientMaxBufferSize target limit) answer s lacked did t about may (is, h) =
      of_client kind w.sends w.receives id (same_client target id) s _ _ lacked did t
      (λ mine p q (no_memory, none, (link, (l, limits, set), same)). moved (relinked link (ap (λ (k : LinkState T). k.outgoing) set) (ap (λ (k : LinkState T). k.outgoing_capacity) set)
      (λ unread. ap (λ (k : LinkState T). k.incoming) set) (ap doings_in none) same)) h
  step_goes (step.NextAction target) answer s lacked did t about may (r, left, is, h) = reads_goes target
      (λ mine. record { displays = λ code text. may.kills _ (mine, (code, text, refl)); reads = may.reads mine }) _ _ left s lacked did t h
  step_goes (step.NextActionWithin target reading) answer s lacked did t about may (r, left, is, h) = reads_goes target
      (λ mine. record { displays = λ code text. may.kills _ (mine, (code, text, refl)); reads = may.reads mine }) reading _ left s lacked did t h
  step_goes (step.FinishRequest target u) answer s lacked did t about may (r, is, h) = grind (arith, of_client, same_client, finishes_moves)
  step_goes (step.FinishBind target u) answer s lacked did t about may (r, is, h) = grind (arith, of_client, same_client, finishes_bind_moves)
  step_goes step.Cleanup answer s lacked did t about may (r, is, h) = grind (arith, cleanup_goes, gathers_in)
  step_goes step.TakeNotes answer s lacked did t about may (r, is, h) = grind (arith, taken_goes, hands_in)
  step_goes call answer s lacked did t about may h = grind (arith, doings_of, doings_in, unfelt, moved_goes)

  -- Over a call that is about a client, or about none, what is held of the client goes over base moves, which make the
  -- deeds of the call and hand out its ids.
  pub call_moves : (call : Call T U G C) (s : Seen T U C) (lacked : Bool) (did : List (Deed U)) (t : Seen T U C)
      → concerns id call ≡ true → Permits call → PartCall w id offer call s lacked did t
      → Handed call s did t
  call_moves (Asked call answer) s lacked did t about may h = step_goes call answer s lacked did t about may h
  call_moves (Changed target t') s lacked did t about may h =
      of_client kind w.sends w.receives id (same_client target id) s _ _ lacked did t
      (λ mine p q (no_memory, none, with'). (moved (relinked (with_transport p.link with'.0) refl refl (λ unread. refl)
      (ap doings_in none) with'.2))) h
  call_moves (Grown rows answer) s lacked did t about may h = unfelt_goes kind w.sends w.receives id s lacked did t h

  -- what any call does: it inserts the client, of which nothing waits then, or what is held of the client goes over base moves
  abbrev pub AnyGoes : Seen T U C → List (Deed U) → Seen T U C → Type 0
  AnyGoes s did t =
      ((ids : List (HandedId IdParts)) × Goes kind w.sends w.receives id s (doings_of ids did) t)
      ⊎ ((p : Part T U C) × (p.waiting ≡ []) × (p.link.incoming.bytes ≡ []) × (did ≡ Noted Initialized ∷ [])
      × (t ≡ record { part = Some p; made = s.made ++ Initialized ∷ [] }))

  unfelt_any : (s : Seen T U C) (lacked : Bool) (did : List (Deed U)) (t : Seen T U C) → Unfelt s lacked did t → AnyGoes s did t
  unfelt_any s lacked did t (no_memory, none, same) = inl ([], unfelt (ap (doings_of []) none) same)

  pub any_moves : (call : Call T U G C) (s : Seen T U C) (lacked : Bool) (did : List (Deed U)) (t : Seen T U C)
      → Permits call → PartCall w id offer call s lacked did t → AnyGoes s did t
  any_moves (Asked (step.InsertClient transport client_data) answer) s lacked did t may (Err e, is, h) = unfelt_any s lacked did t h
  any_moves (Asked (step.InsertClient transport client_data) answer) s lacked did t may (Ok new, is, h) =
      elim (either_bool (same_client new id) h) [
        | inl (link, (limit, limits, fresh), no_memory, did_so, same) ↦
            inr (fresh_part link client_data, refl, ap (λ (l : LinkState T). l.incoming.bytes) fresh, did_so, same)
        | inr other ↦ unfelt_any s lacked did t other
      ]
  any_moves call s lacked did t may h =
      elim (cases_Bool (concerns id call)) [
        | inl about ↦ inl (handed_by id call did, call_moves call s lacked did t about may h)
        | inr far ↦ unfelt_any s lacked did t (other_call w id offer call s lacked did t (λ new inserts. absurd cc) far h)
      ]

-- the same for whatever reason
pub call_goes : {T U G C : Type 0} (gathers : Bool) (w : World T G C) (id : ClientParts) (offer : Offer G) (call : Call T U G C) (s : Seen T U C)
    (lacked : Bool) (did : List (Deed U))
    (t : Seen T U C) → concerns id call ≡ true → PartCall w id offer call s lacked did t → (gathers_in call ≡ true → gathers ≡ true)
    → Handed (any gathers) w id offer call s did t
call_goes gathers w id offer call s lacked did t about h on =
    call_moves (any gathers) w id offer call s lacked did t about
    (record { kills = λ e may. tt; gathers = on; hands = λ is. refl; reads = λ is. refl; finishes = λ is. refl }) h
