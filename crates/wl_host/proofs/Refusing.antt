-- What a session hands out while it refuses nulls that the table forbids has none.
use Rattle.std.proofs.Common.{◌≡◌, ◌∙◌, ℕ, ℤ, Bool, true, false, List, Option, None, Result, Ok, Err, inl, inr, refl, ap, subst, sym}
use Rattle.std.proofs.lemmas.Bool.{false≢true}
use Rattle.std.specs.Prelude.{MatchBool}
use Rattle.wl_wire.specs.MessageRows.{request_row}
use Rattle.wl_wire.specs.declared.error.IoFault.TheVariants as fault
use Rattle.wl_link.proofs.Calls.Branches.{either_bool, either_option}
use Rattle.wl_server_client.specs.Deeds.{Handed, handed}
use Rattle.wl_server_client.specs.Deeds as deeds
use Rattle.wl_server_client.specs.Ids.{ClientParts}
use Rattle.wl_server_client.specs.declared.error.ActionError.{ActionError}
use Rattle.wl_server_client.specs.declared.error.ActionError.TheVariants as action_error
use Rattle.wl_server_client.specs.declared.reading.action.Action.{Action}
use Rattle.wl_flat.proofs.TellingNulls.{tells_null, none_if_allowed, is_not_kept}
use Rattle.wl_host.specs.Actions.{HandsOut, Lent, NextAction, ReadsAllowed, ReadsIfAllowed, ReadsNext, Refuses, args_of, fits, is_killed_by, marked_if, null_in, with_kept}
use Rattle.wl_host.specs.Allowed.{IsAllowedAction, LendsAllowedAction}
use Rattle.wl_host.specs.Calls.{CoreState}
use Rattle.wl_flat.specs.Flat.{flat_resource}
use Rattle.wl_flat.specs.Nulls.{is_refused, signature_of}
use Rattle.wl_host.specs.Seats.{ledger_of}
use Rattle.wl_host.specs.Server.{ServerState}
use Rattle.wl_flat.specs.Status.{of_action}
use Rattle.wl_flat.specs.declared.flat.FlatArgument.{FlatArgument}
use Rattle.wl_host.specs.declared.server.ledger.Ledger.{Ledger}
use Rattle.wl_flat.specs.declared.status.Status.TheVariants as status

-- ---- what is read

-- nothing was
pub nothing_allowed : (refuses : Bool) (before after : CoreState) (id : ClientParts) (kept left : Option Action) (e : ActionError) → left ≡ None
    → ReadsNext before id kept (Err e) after → ReadsAllowed refuses before id kept (Err e) left after
nothing_allowed false before after id kept left e none h = (h, none)
nothing_allowed true before after id kept left e none h = (Err e, after, h, (refl, none, refl))

module _ (before mid : CoreState) (id : ClientParts) (kept : Option Action) (action : Action) (place : ℕ) where
  -- an action that is refused
  pub refused_read : (refuses : Bool) (left : Option Action) (after : CoreState) → ReadsNext before id kept (Ok action) mid → place ≡ null_in mid (handed action)
      → is_refused refuses place ≡ true → Refuses mid id action left after → ReadsAllowed refuses before id kept (Err (action_error.Io fault.Pipe)) left after
  refused_read false left after h null is r = absurd (false≢true is)
  refused_read true left after h null is r =
      let e : is_refused true (null_in mid (handed action)) ≡ true = ap (is_refused true) (sym null) ∙ is in
      (Ok action, mid, h, rw e (refl, r))

  -- one that is not
  pub allowed_read : (refuses : Bool) (left : Option Action) → left ≡ None → ReadsNext before id kept (Ok action) mid → place ≡ null_in mid (handed action)
      → is_refused refuses place ≡ false → ReadsAllowed refuses before id kept (Ok action) left mid
  allowed_read false left none h null is = (h, none)
  allowed_read true left none h null is =
      let e : is_refused true (null_in mid (handed action)) ≡ false = ap (is_refused true) (sym null) ∙ is in
      (Ok action, mid, h, rw e (refl, none, refl))

-- ---- actions

allowed_action : (core : CoreState) (h : Handed) → null_in core h ≡ 0 → IsAllowedAction core h
allowed_action core (deeds.Request sender opcode args is_destructor created) none =
    (tells_null flat_resource (signature_of (request_row core.server.offer.table sender.interface opcode)) args).none.0 none
allowed_action core (deeds.Bind global object) none = tt
allowed_action core (deeds.Registry object) none = tt

-- the null of what was read; 0 if nothing was
abbrev null_read : CoreState → Result Action ActionError → ℕ
null_read core (Ok action) = null_in core (handed action)
null_read core (Err e) = 0

if_allowed : (mid core : CoreState) (id : ClientParts) (action : Action) (read : Result Action ActionError) (left : Option Action) (b : Bool)
    → is_refused true (null_in mid (handed action)) ≡ b
    → MatchBool b ((read ≡ Err (action_error.Io fault.Pipe)) × Refuses mid id action left core) ((read ≡ Ok action) × (left ≡ None) × (core ≡ mid))
    → null_read core read ≡ 0
if_allowed mid core id action read left true is (same, refused) = ap (null_read core) same
if_allowed mid core id action read left false is (same, none, now) =
    ap (null_read core) same ∙ (ap (λ (c : CoreState). null_in c (handed action)) now ∙ none_if_allowed (null_in mid (handed action)) is)

reads_none : (before core : CoreState) (id : ClientParts) (kept : Option Action) (read : Result Action ActionError) (left : Option Action)
    → ReadsAllowed true before id kept read left core → null_read core read ≡ 0
reads_none before core id kept read left (found, mid, reads, allowed) = by found allowed
  where
    by : (found : Result Action ActionError) → ReadsIfAllowed mid id found read left core → null_read core read ≡ 0
    by (Err e) (same, none, now) = ap (null_read core) same
    by (Ok action) h = if_allowed mid core id action read left (is_refused true (null_in mid (handed action))) refl h

-- nothing was read
is_no_action : (e : ActionError) → status.Ok ≡ of_action e → ⊥
is_no_action (action_error.Io fault.WouldBlock) is = cc
is_no_action (action_error.Io fault.Pipe) is = cc
is_no_action (action_error.Io fault.TooBig) is = cc
is_no_action (action_error.Io fault.Proto) is = cc
is_no_action (action_error.Io fault.InvalidInput) is = cc
is_no_action (action_error.Io fault.OutOfMemory) is = cc
is_no_action (action_error.Io (fault.Other n)) is = cc
is_no_action action_error.ActionOpen is = cc

-- the client is not stored
is_no_client : status.Ok ≡ status.InvalidId → ⊥
is_no_client is = cc

abbrev HasNone : CoreState → List FlatArgument → List ℕ → Lent → Type 0
HasNone core arguments bytes lent = LendsAllowedAction core arguments bytes lent × (lent.out.forbidden_null ≡ 0)

hands_none : (core : CoreState) (l l' : Ledger) (read : Result Action ActionError) (arguments : List FlatArgument) (bytes : List ℕ) (lent : Lent) (out : List ℤ)
    → null_read core read ≡ 0 → HandsOut core l read arguments bytes status.Ok lent out l' → HasNone core arguments bytes lent
hands_none core l l' (Ok action) arguments bytes lent out none h =
    elim (either_bool (fits (args_of (handed action)) arguments bytes) h.0) [
      | inl whole ↦
          ((l, handed action, whole.1, allowed_action core (handed action) none), ap (λ (t : Lent). t.out.forbidden_null) whole.1 ∙ none)
      | inr kept ↦ absurd (is_not_kept kept.0)
    ]
hands_none core l l' (Err e) arguments bytes lent out none h = absurd (is_no_action e h.0.0)

same_core : (b : Bool) (s : ServerState) → (marked_if b s).core ≡ s.core
same_core true s = refl
same_core false s = refl

pub action_allowed : (before after : ServerState) (id : ClientParts) (arguments : List FlatArgument) (bytes : List ℕ) (lent : Lent) (out : List ℤ)
    → before.refuses_nulls ≡ true → NextAction before id arguments bytes status.Ok lent out after → HasNone after.core arguments bytes lent
action_allowed before after id arguments bytes lent out on h =
    elim (either_option (ledger_of id before.seats.ledgers) h) [
      | inl (none, g) ↦ absurd (is_no_client g.0.0)
      | inr (l, is, (read, left, core, l', reads, hands, now)) ↦
          let found = reads_none before.core core id l.kept read left (subst (λ r. ReadsAllowed r before.core id l.kept read left core) on reads) in
          let same : after.core ≡ core = ap (λ (s : ServerState). s.core) now ∙ same_core (is_killed_by read) _ in
          subst (λ (c : CoreState). HasNone c arguments bytes lent) (sym same) (hands_none core (with_kept l left) l' read arguments bytes lent out found hands)
    ]
