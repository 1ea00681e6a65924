-- That no event with a null that the table forbids is handed out while they are refused.
use Rattle.std.proofs.Common.{◌≡◌, ◌∙◌, ℤ, Bool, true, false, List, [], Option, None, Some, inl, inr, refl, ap, subst, sym}
use Rattle.std.specs.Prelude.{MatchBool, MatchOption}
use Rattle.wl_wire.specs.MessageRows.{event_row}
use Rattle.wl_link.proofs.Calls.Branches.{either_bool}
use Rattle.wl_client.specs.Requests.{SessionMessage}
use Rattle.wl_host_client.proofs.ClientReading.{something_read}
use Rattle.wl_flat.proofs.TellingNulls.{tells_null, none_if_allowed, is_not_kept}
use Rattle.wl_host_client.specs.Allowed.{IsAllowedEvent, LendsAllowedEvent}
use Rattle.wl_host_client.specs.Client.{ClientCore, HandsAllowed, HandsEvent, HandsNext, HostedClient, LentForEvent, ReadsUnlessKept, RefusesEvent, fits as fits_event, null_in as null_of_event}
use Rattle.wl_flat.specs.Flat.{flat_proxy}
use Rattle.wl_flat.specs.Nulls.{is_refused, signature_of}
use Rattle.wl_flat.specs.declared.status.Status.{Status}
use Rattle.wl_flat.specs.declared.status.Status.TheVariants as status

-- the session has failed
has_not_failed : status.Ok ≡ status.Failed → ⊥
has_not_failed is = cc

allowed_event : (core : ClientCore) (event : SessionMessage) → null_of_event core event ≡ 0 → IsAllowedEvent core event
allowed_event core event none =
    (tells_null flat_proxy (signature_of (event_row core.session.table event.sender.interface event.opcode)) event.args).none.0 none

abbrev HasNoneFor : HostedClient → ClientCore → LentForEvent → LentForEvent → Type 0
HasNoneFor before core lent lent' = LendsAllowedEvent before core lent lent' × (lent'.out.forbidden_null ≡ 0)

module _ (before after : HostedClient) (core : ClientCore) (event : SessionMessage) (lent lent' : LentForEvent) (out : List ℤ) where
  abbrev s : HostedClient
  s = record before { core = core }

  whole : is_refused true (null_of_event core event) ≡ false → HandsEvent s event lent status.Ok out after lent' → HasNoneFor before after.core lent lent'
  whole is h =
      elim (either_bool (fits_event event.args lent.arguments lent.bytes) h) [
        | inl given ↦
            let none = none_if_allowed (null_of_event core event) is in
            let same : after.core ≡ core = ap (λ (t : HostedClient). t.core) given.3 in
            subst (λ (c : ClientCore). HasNoneFor before c lent lent') (sym same)
            ((event, given.2, allowed_event core event none), ap (λ (t : LentForEvent). t.out.forbidden_null) given.2 ∙ none)
        | inr kept ↦ absurd (is_not_kept kept.0)
      ]

  if_whole : (b : Bool) → is_refused true (null_of_event core event) ≡ b
      → MatchBool b (RefusesEvent s event lent status.Ok out after lent') (HandsEvent s event lent status.Ok out after lent')
      → HasNoneFor before after.core lent lent'
  if_whole true is h = absurd (has_not_failed h.0)
  if_whole false is h = whole is h

some_event : (event : SessionMessage) → None ≡ Some event → ⊥
some_event event is = cc

pub event_allowed : (before after : HostedClient) (lent lent' : LentForEvent) (out : List ℤ) → before.refuses_nulls ≡ true → HandsNext before lent status.Ok out after lent'
    → HasNoneFor before after.core lent lent'
event_allowed before after lent lent' out on (s, kept, core, reads, hands) = by kept reads hands
  where
    by : (kept : Option SessionMessage) → ReadsUnlessKept before.kept before.core s kept core
        → MatchOption kept ((status.Ok ≡ s) × (out ≡ []) × (lent' ≡ lent) × (after ≡ record before { core = core }))
        (λ event. HandsAllowed before.refuses_nulls (record before { core = core }) event lent status.Ok out after lent')
        → HasNoneFor before after.core lent lent'
    by None reads h =
        let read = something_read before.core core before.kept None (subst (λ (t : Status). ReadsUnlessKept before.kept before.core t None core) (sym h.0) reads) in
        absurd (some_event read.0 read.1)
    by (Some event) reads h =
        if_whole before after core event lent lent' out (is_refused true (null_of_event core event)) refl
        (subst (λ r. HandsAllowed r (record before { core = core }) event lent status.Ok out after lent') on h)
