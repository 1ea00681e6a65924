-- The events that a proxy read so far.
use Rattle.std.proofs.Common.{◌≡◌, ◌<◌, ◌+◌, ℕ, List, [], ◌∷◌, ◌++◌, length, length-append, append-nil, append_assoc, Result, Ok, Err, refl, sym, ap, subst, ◌∙◌}
use mathlib.Core.Logic.{inl, inr}
use Rattle.wl_wire.specs.declared.error.IoFault.{IoFault}
use Rattle.wl_link.specs.Exchange.{Queue}
use Rattle.wl_client.specs.declared.error.EventError.{EventError}
use Rattle.wl_client.specs.declared.error.EventError.TheVariants.{EventOpen, OutOfMemory}
use Rattle.wl_client.specs.declared.error.FinishRefused.{FinishRefused}
use Rattle.wl_client.specs.Session.{SessionState}
use Rattle.wl_callers.specs.Proxy.{Event, HandsOn, ended, ReadsEvent, ReadsEach, ReadsOne}

module _ {T U : Type 0} (sends : T → Queue → Result ℕ IoFault → T → Type 0) (receives : T → ℕ → Result Queue IoFault → T → Type 0) where
  -- so many were read and finished, and stand after the list
  pub record SoFar (before : SessionState T U) (listed now_listed : List Event) (count : ℕ) (after : SessionState T U) : Type 0 where
    pub events : List Event
    pub reads : ReadsEach sends receives before events after
    pub many : length events ≡ count
    pub are : now_listed ≡ listed ++ events

  one_more : (before mid after : SessionState T U) (events : List Event) (event : Event) → ReadsEach sends receives before events mid
      → ReadsOne sends receives mid event (Ok tt) after → ReadsEach sends receives before (events ++ event ∷ []) after
  one_more before mid after [] event same one = (after, subst (λ (s : SessionState T U). ReadsOne sends receives s event (Ok tt) after) same one, refl)
  one_more before mid after (e ∷ events) event (first, read, rest) one = (first, read, one_more first mid after events event rest one)

  pub none_yet : (before : SessionState T U) (listed : List Event) → SoFar before listed listed 0 before
  none_yet before listed = record { events = []; reads = refl; many = refl; are = sym (append-nil listed) }

  pub then_one : (before mid after : SessionState T U) (listed now_listed reserved all : List Event) (count : ℕ) (event : Event) → SoFar before listed now_listed count mid
      → reserved ≡ now_listed → all ≡ reserved ++ event ∷ [] → ReadsOne sends receives mid event (Ok tt) after → SoFar before listed all (count + 1) after
  then_one before mid after listed now_listed reserved all count event so same all_is one = record {
    events = so.events ++ event ∷ [];
    reads = one_more before mid after so.events event so.reads one;
    many = length-append so.events (event ∷ []) ∙ ap (λ n. n + 1) so.many;
    are = all_is ∙ ap (λ (l : List Event). l ++ event ∷ []) (same ∙ so.are) ∙ append_assoc listed so.events (event ∷ []);
  }

  pub as_many : (before after : SessionState T U) (listed now_listed : List Event) (count most : ℕ) → SoFar before listed now_listed count after → count ≡ most
      → HandsOn sends receives before most listed (Ok tt) now_listed after
  as_many before after listed now_listed count most so all =
      (so.events, [], after, so.reads, so.are ∙ ap (λ (l : List Event). listed ++ l) (sym (append-nil so.events)), inl (refl, so.many ∙ all, refl, refl))

  -- nothing more was read: a reading would block, memory was refused, or a reading failed
  module _ (before mid after : SessionState T U) (listed now_listed reserved : List Event) (count most : ℕ) (so : SoFar before listed now_listed count mid)
      (same : reserved ≡ now_listed) (fewer : count < most) where
    listed_are : reserved ≡ listed ++ (so.events ++ [])
    listed_are = same ∙ so.are ∙ ap (λ (l : List Event). listed ++ l) (sym (append-nil so.events))

    still : length so.events < most
    still = subst (λ (n : ℕ). n < most) (sym so.many) fewer

    pub starved : after ≡ mid → HandsOn sends receives before most listed (Err OutOfMemory) reserved after
    starved kept = (so.events, [], mid, so.reads, listed_are, inr (still, inl (refl, refl, kept)))

    pub no_event : (error : EventError) (answer : Result (Unit {0}) EventError) → answer ≡ ended error → ReadsEvent sends receives mid (Err error) after
        → HandsOn sends receives before most listed answer reserved after
    no_event error answer is ends = (so.events, [], mid, so.reads, listed_are, inr (still, inr (inl (error, is, refl, ends))))

    pub left_open : (event : Event) (refused : FinishRefused U) (all : List Event) → all ≡ reserved ++ event ∷ [] → ReadsOne sends receives mid event (Err refused) after
        → HandsOn sends receives before most listed (Err EventOpen) all after
    left_open event refused all all_is one = (
      so.events,
      event ∷ [],
      mid,
      so.reads,
      all_is ∙ ap (λ (l : List Event). l ++ event ∷ []) (same ∙ so.are) ∙ append_assoc listed so.events (event ∷ []),
      inr (still, inr (inr (refl, event, refused, refl, one))),
    )
