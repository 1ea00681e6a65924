-- Actions that are handed out or ended, and events that are sent, with the ledgers of their clients.
use Rattle.std.proofs.Common.{◌≡◌, ℕ, ℤ, Bool, true, false, List, [], ◌∷◌, Option, None, Some, Result, Ok, Err, refl, ap, sym, ◌∙◌, arith, inl, inr, subst}
use Rattle.std.proofs.Math.ListN.{set}
use Rattle.std.proofs.lemmas.List.{set-get_or}
use Rattle.std.proofs.lemmas.Option.{get_or_from_slice_get}
use Rattle.std.specs.Prelude.{MatchBool, MatchOption, if◌then◌else◌, option_to_list}
use Rattle.wl_wire.specs.declared.argument.Argument.{Argument}
use Rattle.wl_wire.specs.declared.argument.Argument.TheVariants as arg
use Rattle.wl_wire.specs.declared.argument.Token.{Token}
use Rattle.wl_server_client.specs.Deeds.{handed}
use Rattle.wl_server_client.specs.Ids.{ClientParts}
use Rattle.wl_server_client.specs.declared.error.ActionError.{ActionError}
use Rattle.wl_server_client.specs.declared.error.EventError.{EventError}
use Rattle.wl_server_client.specs.declared.error.EventError.TheVariants as event_error
use Rattle.wl_server_client.specs.declared.reading.action.Action.{Action}
use Rattle.wl_host.proofs.Ledgers.{conserves_ledger, slot_of_client}
use Rattle.wl_flat.proofs.Queues.{conserves_nothing, conserves_out, conserves_put_in, conserves_without}
use Rattle.wl_host.specs.Actions.{EndsBind, HandsFrom, HandsNothing, HandsOut, HandsWhole, KeepsAction, Lent, NextAction, NextActionOf, args_of, descriptors_with, fits, is_killed_by, marked_if, with_kept}
use Rattle.wl_flat.specs.Arguments.{descriptors_given, descriptors_out, queue_after, queue_after_all, descriptor_in}
use Rattle.wl_host.specs.Calls.{CoreState, status_by}
use Rattle.wl_flat.specs.Descriptors.{Conserves, Descriptors, kept_in}
use Rattle.wl_host.specs.Events.{Passed, SendsEvent, SendsEventOf, SendsFrom, queue_with}
use Rattle.wl_flat.specs.Flat.{client_of, no_action}
use Rattle.wl_host.specs.Inside.Actions.{AnswersNext, NextOf, is_killed_in, status_of_next}
use Rattle.wl_host.specs.Seats.{SeatsState, kept_by_ledger, kept_by_seats, ledger_of, listed, with_ledger}
use Rattle.wl_host.specs.Server.{ServerState, kept_by_server, went_in}
use Rattle.wl_flat.specs.Status.{of_event}
use Rattle.wl_flat.specs.declared.flat.FlatAction.{FlatAction}
use Rattle.wl_flat.specs.declared.flat.FlatArgument.{FlatArgument}
use Rattle.wl_host.specs.declared.server.ledger.Ledger.{Ledger}
use Rattle.wl_flat.specs.declared.status.Status.{Status}
use Rattle.wl_flat.specs.declared.status.Status.TheVariants as status

-- ---- ledgers

-- the ledger that is there already
pub same_ledger : (s : SeatsState) (id : ClientParts) (l : Ledger) → ledger_of id s.ledgers ≡ Some l → with_ledger s id l ≡ s
same_ledger s id l e =
    let g = get_or_from_slice_get s.ledgers id.slot (Some l) None (slot_of_client id s.ledgers l e) in
    let h = set-get_or s.ledgers id.slot None in
    let k : set s.ledgers id.slot (Some l) ≡ s.ledgers = ap (λ (o : Option Ledger). set s.ledgers id.slot o) (sym g) ∙ h in
    ap (λ (xs : List (Option Ledger)). record s { ledgers = xs }) k

-- ---- descriptors

-- what the seats keep is what the server keeps
pub conserves_server : (s t : ServerState) (u : SeatsState) (i o : List ℤ) → t.seats ≡ u → Conserves kept_by_seats s.seats i o u → Conserves kept_by_server s i o t
conserves_server s t u i o e c = record { each = λ d. rw e (c.each d) }

module _ {Id : Type 0} where
  conserves_argument : (q : Descriptors) (a : Argument Id Token) → Conserves kept_in q [] (option_to_list (descriptor_in q a)) (queue_after q a)
  conserves_argument q (arg.Fd t) = conserves_without q t
  conserves_argument q _ = conserves_nothing q

  -- the descriptors of arguments come out
  pub conserves_arguments : (q : Descriptors) (args : List (Argument Id Token)) → Conserves kept_in q [] (descriptors_out q args) (queue_after_all q args)
  conserves_arguments q [] = conserves_nothing q
  conserves_arguments q (a ∷ args) = conserves_out (conserves_argument q a) (conserves_arguments (queue_after q a) args)

-- ---- cases

in_some : {A : Type 0} (o : Option A) (x : A) (P : Type 0) (Q : A → Type 0) → o ≡ Some x → Q x → MatchOption o P Q
in_some o x P Q e q = subst (λ (o : Option _). MatchOption o P Q) (sym e) q

in_bool : (b : Bool) (A B : Type 0) (C : Bool → Type 0) → (A → C true) → (B → C false) → MatchBool b A B → C b
in_bool true A B C f g h = f h
in_bool false A B C f g h = g h

-- ---- the next action

-- nothing was handed out
abbrev lent_none : List FlatArgument → List ℕ → Lent
lent_none arguments bytes = record { out = no_action; arguments = arguments; bytes = bytes }

conserves_handed : (core : CoreState) (l l' : Ledger) (action : Action) (arguments : List FlatArgument) (bytes : List ℕ) (s : Status) (lent : Lent)
    → HandsFrom core l action arguments bytes s lent l' → Conserves kept_by_ledger l [] (descriptors_with l action arguments bytes) l'
conserves_handed core l l' action arguments bytes s lent h =
    let args = args_of (handed action) in
    let q = conserves_arguments l.received args in
    in_bool (fits args arguments bytes) (HandsWhole core l action arguments bytes s lent l') (KeepsAction l action arguments bytes s lent l')
    (λ (room : Bool). Conserves kept_by_ledger l [] (if room then descriptors_out l.received args else []) l')
    (λ h. rw h.2 (record { each = λ d. let c = q.each d in omega arith }))
    (λ h. rw h.2 (record { each = λ d. refl })) h

hands_out : (core : CoreState) (l l' : Ledger) (read : Result Action ActionError) (arguments : List FlatArgument) (bytes : List ℕ) (result : Result Status ActionError) (lent : Lent)
    → AnswersNext core l read (lent_none arguments bytes) result lent l'
    → (out : List ℤ) × HandsOut core l read arguments bytes (status_of_next result) lent out l' × Conserves kept_by_ledger l [] out l' × (is_killed_in result ≡ is_killed_by read)
hands_out core l l' (Ok action) arguments bytes result lent h =
    rw h.1 (descriptors_with l action arguments bytes, (h.2, refl), conserves_handed core l l' action arguments bytes h.0 lent h.2, refl)
hands_out core l l' (Err e) arguments bytes result lent h =
    rw (h.0, h.1, h.2) ([], ((refl, refl), refl, refl), record { each = λ d. refl }, refl)

seats_marked : (b : Bool) (s : ServerState) → (marked_if b s).seats ≡ s.seats
seats_marked true s = refl
seats_marked false s = refl

next_from : (before after : ServerState) (id : ClientParts) (arguments : List FlatArgument) (bytes : List ℕ) (result : Result Status ActionError) (s : Status) (lent : Lent) (core : CoreState) (l l' : Ledger)
    → ledger_of id before.seats.ledgers ≡ Some l → NextOf before.refuses_nulls before.core id l (lent_none arguments bytes) result lent core l' → s ≡ status_of_next result
    → after ≡ marked_if (is_killed_in result) (record before { core = core; seats = listed (with_ledger before.seats id l') id.slot })
    → (out : List ℤ) × NextAction before id arguments bytes s lent out after × Conserves kept_by_server before [] out after
next_from before after id arguments bytes result s lent core l l' e h f g =
    let x : ServerState = record before { core = core; seats = listed (with_ledger before.seats id l') id.slot } in
    let a = hands_out core (with_kept l h.1) l' h.0 arguments bytes result lent h.3 in
    let k : after ≡ marked_if (is_killed_by h.0) x = g ∙ ap (λ b. marked_if b x) a.3 in
    let m : after.seats ≡ listed (with_ledger before.seats id l') id.slot = ap (λ (t : ServerState). t.seats) g ∙ seats_marked (is_killed_in result) x in
    let c = conserves_ledger before.seats id l l' [] a.0 e (record { each = λ d. a.2.each d }) in (
      a.0,
      in_some (ledger_of id before.seats.ledgers) l (HandsNothing status.InvalidId arguments bytes s lent × (a.0 ≡ []) × (after ≡ before)) (NextActionOf before id arguments bytes s lent a.0 after) e
          (h.0, h.1, core, l', h.2, rw f a.1, k),
      conserves_server before after (listed (with_ledger before.seats id l') id.slot) [] a.0 m (record { each = λ d. c.each d }),
    )

pub next_handed : (before after : ServerState) (id id' : ClientParts) (refuses : Bool) (old : CoreState) (out : FlatAction) (arguments : List FlatArgument) (bytes : List ℕ) (result : Result Status ActionError) (s : Status) (lent : Lent) (core : CoreState) (l l' : Ledger)
    → id' ≡ id → refuses ≡ before.refuses_nulls → old ≡ before.core → out ≡ no_action → ledger_of id before.seats.ledgers ≡ Some l
    → NextOf refuses old id' l (record { out = out; arguments = arguments; bytes = bytes }) result lent core l' → s ≡ status_of_next result
    → after ≡ marked_if (is_killed_in result) (record before { core = core; seats = listed (with_ledger before.seats id l') id.slot })
    → (out : List ℤ) × NextAction before id arguments bytes s lent out after × Conserves kept_by_server before [] out after
next_handed before after id id' refuses old out arguments bytes result s lent core l l' i r o n e h f g =
    next_from before after id arguments bytes result s lent core l l' e (rw (i, r, o, n) at h) f g

-- ---- the end of an action

-- whether the action ends its sender, as an answer
abbrev pub ends : Bool → Result Bool Status
ends b = Ok b

kept_open : (before after : ServerState) (result : Result Bool Status) (E : Type 0) (r b : Bool) (k : Option Action)
    → MatchOption k (ends r ≡ ends b) (λ _. ends r ≡ Err status.NotOpen) → (r ≡ b → E)
    → MatchOption k E (λ kept. (result ≡ Err status.NotOpen) × (after ≡ before))
kept_open before after result E r b None h f = f (cc)
kept_open before after result E r b (Some kept) h f = absurd (cc)

-- an action that may be ended is ended so
pub ends_open : (before after : ServerState) (result : Result Bool Status) (Ends : Ledger → Result Bool Status → ServerState → Type 0) (r : Bool) (o : Option Ledger)
    → MatchOption o (ends r ≡ Err status.InvalidId) (λ l. MatchOption l.kept (ends r ≡ ends l.ends_sender) (λ _. ends r ≡ Err status.NotOpen))
    → ((l : Ledger) → r ≡ l.ends_sender → Ends l result after)
    → MatchOption o ((result ≡ Err status.InvalidId) × (after ≡ before)) (λ l. MatchOption l.kept (Ends l result after) (λ kept. (result ≡ Err status.NotOpen) × (after ≡ before)))
ends_open before after result Ends r None h f = absurd (cc)
ends_open before after result Ends r (Some l) h f = kept_open before after result (Ends l result after) r l.ends_sender l.kept h (f l)

-- a bind of the same client is ended so
pub bind_ends : (before after : ServerState) (id id' : ClientParts) (u : ℕ) (result : Result Bool Status) → id ≡ id' → EndsBind before id u result after → EndsBind before id' u result after
bind_ends before after id id' u result same h = subst (λ (x : ClientParts). EndsBind before x u result after) same h

-- ---- events

refused_takes_none : (e : EventError) (xs : List ℤ) → went_in (of_event e) xs ≡ []
refused_takes_none event_error.InvalidId xs = refl
refused_takes_none _ xs = refl

answer_conserves : (q : Descriptors) (p : Passed) (answer : Result (Unit {0}) EventError) → Conserves kept_in q (went_in (status_by of_event answer) (descriptors_given p.arguments)) [] (queue_with q p answer)
answer_conserves q p (Ok u) = conserves_put_in q (descriptors_given p.arguments)
answer_conserves q p (Err e) = rw (refused_takes_none e (descriptors_given p.arguments)) (conserves_nothing q)

-- the core was asked to send the event
pub sent_conserves : (before after : ServerState) (p : Passed) (s : Status) (old core : CoreState) (q : Descriptors) (l : Ledger)
    → ledger_of (client_of p.sender.client) before.seats.ledgers ≡ Some l → SendsFrom old l.sending p (Ok s) core q
    → after.seats ≡ listed (with_ledger before.seats (client_of p.sender.client) (record l { sending = q })) p.sender.client.slot
    → Conserves kept_by_server before (went_in s (descriptors_given p.arguments)) [] after
sent_conserves before after p s old core q l e h f =
    let i = went_in s (descriptors_given p.arguments) in
    let a : Conserves kept_in l.sending i [] q = rw (h.4, h.5) (answer_conserves l.sending p h.1) in
    let b : Conserves kept_by_ledger l i [] (record l { sending = q }) = record { each = λ d. let k = a.each d in omega arith } in
    let c = conserves_ledger before.seats (client_of p.sender.client) l (record l { sending = q }) i [] e b in
    conserves_server before after _ i [] f (record { each = λ d. c.each d })

-- the event was not read: nothing is changed
pub not_sent : (before after : ServerState) (p : Passed) (s : Status) (old core : CoreState) (q : Descriptors) (l : Ledger)
    → old ≡ before.core → ledger_of (client_of p.sender.client) before.seats.ledgers ≡ Some l → SendsFrom old l.sending p (Err s) core q
    → after ≡ record before { core = core; seats = with_ledger before.seats (client_of p.sender.client) (record l { sending = q }) }
    → SendsEvent before p s after × Conserves kept_by_server before (went_in s (descriptors_given p.arguments)) [] after
not_sent before after p s old core q l o e h f =
    let id = client_of p.sender.client in
    let same : after ≡ before = f ∙ (rw (h.1, h.2, same_ledger before.seats id l e, o) refl) in
    let none : went_in s (descriptors_given p.arguments) ≡ [] = elim h.0 [ inl k ↦ rw k.0 refl | inr k ↦ rw k refl ] in (
      in_some (ledger_of id before.seats.ledgers) l ((s ≡ status.InvalidId) × (after ≡ before)) (SendsEventOf before p s after) e
          (l.sending, inr ((h.0, ap (λ (t : ServerState). t.core) same, refl), same)),
      rw (none, same) (conserves_nothing before),
    )
