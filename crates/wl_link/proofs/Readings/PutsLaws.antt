-- Messages that are put: over another transport, and with one outcome.
use Rattle.std.proofs.Common.{◌≡◌, ◌≢◌, ℕ, Bool, false, List, [], ◌∷◌, ◌++◌, Result, Ok, Err, is_ok, MatchResult, sym, ap, subst, ◌∙◌, true≢false}
use Rattle.std.specs.Prelude.{nat_le}
use mathlib.Core.Logic.{inl, inr}
use Rattle.wl_wire.specs.declared.error.IoFault.{IoFault}
use Rattle.wl_wire.specs.declared.error.IoFault.TheVariants as fault
use Rattle.wl_wire.specs.Message.{WireMessage, size}
use Rattle.wl_link.specs.Exchange.{Chain, Queue, Sending, IsFunction}
use Rattle.wl_link.specs.Link.{FlushedBy, LinkState, PlacedBy, Put, WroteBy, has_room, ignoring}
use Rattle.wl_link.specs.Puts.{FlushesOut, PutBy, PutsOut, Said, lacks_memory}
use Rattle.wl_link.specs.Served.{link_as}
use Rattle.wl_link.proofs.Calls.OneLaws.{one_flush_lem, one_write_lem}
use Rattle.wl_link.proofs.Calls.Branches.{both_bool, both_result, map_bool, map_result}
use Rattle.wl_link.proofs.Calls.QueueLaws.{chain_parts}
use Rattle.wl_link.specs.Outcome.{SamePut}

-- What a call does to a link, it does over any transport that allows its sends, and where more waits.
module _ {T S : Type 0} (sends : T → Queue → Result ℕ IoFault → T → Type 0) (others : S → Queue → Result ℕ IoFault → S → Type 0) (more : Queue) where
  pub flushed_there : (before after : LinkState T) (es : List Sending) (answer : Result (Unit {0}) IoFault) (t u : S) → Chain others t es u
      → FlushedBy sends before es answer after → FlushedBy others (link_as before more t) es answer (link_as after more u)
  flushed_there before after es answer t u chain h = (chain, h.1, ap (λ (l : LinkState T). link_as l more u) h.2)

  put_there : (before after : LinkState T) (m : WireMessage) (answer : Result (Unit {0}) IoFault) (t : S) → Put before m answer after
      → Put (link_as before more t) m answer (link_as after more t)
  put_there before after m answer t (inl (is, same)) = inl (is, ap (λ (l : LinkState T). link_as l more t) same)
  put_there before after m answer t (inr (is, same, some)) = inr (is, ap (λ (l : LinkState T). link_as l more t) same, some)

  none_sent : (es : List Sending) (t u : S) → Chain others t es u → es ≡ [] → u ≡ t
  none_sent es t u chain none = subst (λ (fs : List Sending). Chain others t fs u) none chain

  -- what is as it was, with no sends
  stays : (es : List Sending) (before after : LinkState T) (t u : S) → Chain others t es u → es ≡ [] → after ≡ before → link_as after more u ≡ link_as before more t
  stays es before after t u chain none same =
      ap (λ (l : LinkState T). link_as l more u) same ∙ ap (λ (v : S). link_as before more v) (none_sent es t u chain none)

  module _ (m : WireMessage) (es : List Sending) (answer : Result (Unit {0}) IoFault) (after : LinkState T) (t u : S) (chain : Chain others t es u) where
    placed_there : (before : LinkState T) → PlacedBy sends before m es answer after → PlacedBy others (link_as before more t) m es answer (link_as after more u)
    placed_there before h =
        map_bool (has_room before (size m))
        (λ here. (
          here.0,
          subst (λ (v : S). Put (link_as before more t) m answer (link_as after more v)) (sym (none_sent es t u chain here.0)) (put_there before after m answer t here.1),
        ))
        (λ there. (
          link_as there.0 more u,
          there.1,
          flushed_there before there.0 es there.1 t u chain there.2,
          map_result (ignoring there.1)
              (λ _ p. map_bool (has_room there.0 (size m)) (λ put. put_there there.0 after m answer u put)
              (λ full. (full.0, ap (λ (l : LinkState T). link_as l more u) full.1)) p)
              (λ f q. (q.0, ap (λ (l : LinkState T). link_as l more u) q.1)) there.3,
        ))
        h

    pub wrote_there : (before : LinkState T) → WroteBy sends before m es answer after → WroteBy others (link_as before more t) m es answer (link_as after more u)
    wrote_there before h =
        map_bool (nat_le (size m) 65535)
        (λ small. elim small [
          | inl (none, is, same, wants) ↦ inl (none, is, stays es before after t u chain none same, wants)
          | inr (grown, (grows, same), placed) ↦
              inr (link_as grown more t, (grows, ap (λ (l : LinkState T). link_as l more t) same), placed_there grown placed)
        ])
        (λ large. (large.0, large.1, stays es before after t u chain large.0 large.2))
        h

  -- so does a put
  pub put_by_there : (m : Said) (es : List Sending) (answer : Result (Unit {0}) IoFault) (after : LinkState T) (t u : S) → Chain others t es u
      → (before : LinkState T) → PutBy sends before m es answer after → PutBy others (link_as before more t) m es answer (link_as after more u)
  put_by_there m es answer after t u chain before (inl wrote) = inl (wrote_there m.message es answer after t u chain before wrote)
  put_by_there m es answer after t u chain before (inr (none, is, same, text)) = inr (none, is, stays es before after t u chain none same, text)

  pub puts_there : (ms : List Said) (before after : LinkState T) (es : List Sending) (put : List Said) (answer : Result (Unit {0}) IoFault) (t u : S)
      → Chain others t es u → PutsOut sends before ms es put answer after → PutsOut others (link_as before more t) ms es put answer (link_as after more u)
  puts_there [] before after es put answer t u chain (none, nothing', is, same) = (none, nothing', is, stays es before after t u chain none same)
  puts_there (m ∷ ms) before after es put answer t u chain (first, Ok _, mid, one, (next, rest, split, is, puts)) =
      let parts = chain_parts others first next t u (subst (λ (fs : List Sending). Chain others t fs u) split chain) in
      let here = put_by_there m first (Ok tt) mid t parts.0 parts.1 before one in
      (first, Ok tt, link_as mid more parts.0, here, (next, rest, split, is, puts_there ms mid after next rest answer parts.0 u parts.2 puts))
  puts_there (m ∷ ms) before after es put answer t u chain (first, Err f, mid, one, (split, none, is, same)) =
      let chain' = subst (λ (fs : List Sending). Chain others t fs u) split chain in
      let here = put_by_there m first (Err f) mid t u chain' before one in
      (first, Err f, link_as mid more u, here, (split, none, is, ap (λ (l : LinkState T). link_as l more u) same))

  pub flushes_there : (flushes lacked : Bool) (before after : LinkState T) (es : List Sending) (t u : S) → Chain others t es u
      → FlushesOut sends flushes before es lacked after → FlushesOut others flushes (link_as before more t) es lacked (link_as after more u)
  flushes_there flushes lacked before after es t u chain h =
      map_bool flushes (λ f. (f.0, flushed_there before after es f.0 t u chain f.1, f.2)) (λ none. (none.0, stays es before after t u chain none.0 none.1, none.2)) h

-- ---- one outcome

pub not_lacked : (r : Result (Unit {0}) IoFault) → lacks_memory r ≡ false → r ≢ Err fault.OutOfMemory
not_lacked r none is = true≢false (sym (ap lacks_memory is) ∙ none)

module _ {S : Type 0} (sends : S → Queue → Result ℕ IoFault → S → Type 0) (function : IsFunction sends) where
  pub put_by_one : (m : Said) (before x y : LinkState S) (es fs : List Sending) (a b : Result (Unit {0}) IoFault) → PutBy sends before m es a x → PutBy sends before m fs b y
      → a ≢ Err fault.OutOfMemory → b ≢ Err fault.OutOfMemory → (a ≡ b) × (x ≡ y)
  put_by_one m before x y es fs a b (inl wrote) (inl wrote') ok ok' =
      let one = one_write_lem sends function m.message x y es fs a b ok ok' before wrote wrote' in (one.answer, one.after)
  put_by_one m before x y es fs a b (inr (none, is, same, text)) other ok ok' = absurd (ok is)
  put_by_one m before x y es fs a b (inl wrote) (inr (none, is, same, text)) ok ok' = absurd (ok' is)

  -- what is done after a put
  abbrev PutThen : Said → List Said → List Sending → List Sending → List Said → Result (Unit {0}) IoFault → LinkState S → LinkState S → Result (Unit {0}) IoFault → Type 0
  PutThen m ms first es put answer after mid one =
      MatchResult one
      (λ _. (others : List Sending) × (more : List Said) × (es ≡ first ++ others) × (put ≡ m ∷ more) × PutsOut sends mid ms others more answer after)
      (λ f. (es ≡ first) × (put ≡ []) × (answer ≡ Err f) × (after ≡ mid))

  put_allowed : (m : Said) (ms : List Said) (first es : List Sending) (put : List Said) (answer : Result (Unit {0}) IoFault) (after mid : LinkState S)
      (one : Result (Unit {0}) IoFault) → answer ≢ Err fault.OutOfMemory → PutThen m ms first es put answer after mid one → one ≢ Err fault.OutOfMemory
  put_allowed m ms first es put answer after mid (Ok u) ok h is = true≢false (ap is_ok is)
  put_allowed m ms first es put answer after mid (Err f) ok h is = ok (h.2 ∙ is)

  pub puts_one : (ms : List Said) (before x y : LinkState S) (es fs : List Sending) (p q : List Said) (a b : Result (Unit {0}) IoFault)
      → a ≢ Err fault.OutOfMemory → b ≢ Err fault.OutOfMemory → PutsOut sends before ms es p a x → PutsOut sends before ms fs q b y → SamePut p q a b x y
  puts_one [] before x y es fs p q a b ok ok' (none, put, is, same) (none', put', is', same') =
      record { put = put ∙ sym put'; answer = is ∙ sym is'; after = same ∙ sym same' }
  puts_one (m ∷ ms) before x y es fs p q a b ok ok' (first, o, mid, wrote, end) (first', o', mid', wrote', end') =
      let one = put_by_one m before mid mid' first first' o o' wrote wrote' (put_allowed m ms first es p a x mid o ok end) (put_allowed m ms first' fs q b y mid' o' ok' end') in
      let answered = subst (λ (r : Result (Unit {0}) IoFault). PutThen m ms first' fs q b y mid' r) (sym one.0) end' in
      let linked = subst (λ (l : LinkState S). PutThen m ms first' fs q b y l o) (sym one.1) answered in
      elim (both_result o end linked) [
        | inl (u, (others, rest, split, is, puts), (others', rest', split', is', puts')) ↦
            let s = puts_one ms mid x y others others' rest rest' a b ok ok' puts puts' in
            record { put = is ∙ ap (λ (z : List Said). m ∷ z) s.put ∙ sym is'; answer = s.answer; after = s.after }
        | inr (f, (split, none, is, same), (split', none', is', same')) ↦
            record { put = none ∙ sym none'; answer = is ∙ sym is'; after = same ∙ sym same' }
      ]

  pub flushes_one : (flushes : Bool) (before x y : LinkState S) (es fs : List Sending) → FlushesOut sends flushes before es false x → FlushesOut sends flushes before fs false y → x ≡ y
  flushes_one flushes before x y es fs h g =
      elim (both_bool flushes h g) [
        | inl ((a, f, is), (b, f', is')) ↦ (one_flush_lem sends function before x y es fs a b f f' (not_lacked a (sym is)) (not_lacked b (sym is'))).after
        | inr ((none, same, is), (none', same', is')) ↦ same ∙ sym same'
      ]

module _ {T : Type 0} (sends : T → Queue → Result ℕ IoFault → T → Type 0) where
  -- the messages that were put are a front of those that were to be put
  pub puts_front : (ms : List Said) (before after : LinkState T) (es : List Sending) (put : List Said) (a : Result (Unit {0}) IoFault)
      → PutsOut sends before ms es put a after → (others : List Said) × (ms ≡ put ++ others)
  puts_front [] before after es put a (none, nothing', is, same) = ([], ap (λ (z : List Said). z ++ []) (sym nothing'))
  puts_front (m ∷ ms) before after es put a (first, Ok u, mid, one, (next, more, split, is, puts)) =
      let rest = puts_front ms mid after next more a puts in
      (rest.0, ap (λ (z : List Said). m ∷ z) rest.1 ∙ ap (λ (z : List Said). z ++ rest.0) (sym is))
  puts_front (m ∷ ms) before after es put a (first, Err f, mid, one, (split, none, is, same)) =
      (m ∷ ms, ap (λ (z : List Said). z ++ m ∷ ms) (sym none))
