-- What becomes of the ledgers of clients: no descriptor is lost, and none comes out twice.
use Rattle.std.proofs.Common.{◌≡◌, ℕ, ℤ, ◌+◌, ◌++◌, List, [], ◌∷◌, Option, None, Some, refl, ap, arith, inl, inr}
use Rattle.std.proofs.lemmas.List.Sums.{sum_by-cons, sum_by_push}
use Rattle.std.specs.List.{slice_get, sum_by}
use Rattle.std.specs.Prelude.{option_to_list}
use Rattle.wl_link.specs.Mailbox.{MailboxState}
use Rattle.wl_server_client.specs.Ids.{ClientParts}
use Rattle.wl_flat.proofs.Queues.{conserves_taken_out, conserves_given_up, conserves_nothing, conserves_out}
use Rattle.wl_host.proofs.Ledgers.{slot_of_client, slot_of_ledger, sum_replaced}
use Rattle.wl_flat.specs.Descriptors.{Conserves, Descriptors, given_up, kept_in, occurrences}
use Rattle.wl_host.specs.Seats.{AllEmpty, LeftPassesOut, LedgerPassesOut, PassesNext, SeatsState, departed, gone_all, gone_from, gone_with, kept_by_departed, kept_by_ledger, kept_by_seat, kept_by_seats, ledger_of, left_by_first, left_of, without_first}
use Rattle.wl_host.specs.Server.{sent_to_first}
use Rattle.wl_flat.specs.Sending.{all_taken_out, descriptors_of, some_of}
use Rattle.wl_host.specs.declared.server.ledger.Departed.{Departed}
use Rattle.wl_host.specs.declared.server.ledger.Ledger.{Ledger}

-- ---- clients that are gone

gone_at : (s : SeatsState) (slot : ℕ) (l : Ledger) (m : MailboxState) → slice_get s.ledgers slot ≡ Some (Some l)
    → Conserves kept_by_seats s [] [] (gone_from s slot (Some l) m)
gone_at s slot l m e = record {
  each = λ d.
      let a = sum_replaced (kept_by_seat d) s.ledgers slot (Some l) None e in
      let b = sum_by_push (kept_by_departed d) s.gone (departed l m) in
      let c = sum_by_push (kept_in d) s.left (given_up l.received) in
      let g = (conserves_given_up l.received).each d in omega (arith, a, b, c, g);
}

pub conserves_gone : (s : SeatsState) (id : ClientParts) (m : MailboxState) → Conserves kept_by_seats s [] [] (gone_with s id m)
conserves_gone s id m = by (ledger_of id s.ledgers) refl
  where
    by : (o : Option Ledger) → ledger_of id s.ledgers ≡ o → Conserves kept_by_seats s [] [] (gone_from s id.slot o m)
    by None e = conserves_nothing s
    by (Some l) e = gone_at s id.slot l m (slot_of_client id s.ledgers l e)

pub conserves_gone_all : (s : SeatsState) (es : List (ClientParts × MailboxState)) → Conserves kept_by_seats s [] [] (gone_all s es)
conserves_gone_all s [] = conserves_nothing s
conserves_gone_all s (e ∷ es) = conserves_out (conserves_gone s e.0 e.1) (conserves_gone_all (gone_with s e.0 e.1) es)

-- one client more
pub gone_all_push : (s : SeatsState) (es : List (ClientParts × MailboxState)) (e : ClientParts × MailboxState) → gone_all s (es ++ e ∷ []) ≡ gone_with (gone_all s es) e.0 e.1
gone_all_push s [] e = refl
gone_all_push s (x ∷ es) e = gone_all_push (gone_with s x.0 x.1) es e

-- the first client that is gone was handed out
conserves_left_of : (g : Departed) → Conserves kept_in g.sending [] (some_of (descriptors_of g.sending g.mailbox.waiting.tokens) ++ []) (left_of g)
conserves_left_of g = conserves_out (conserves_taken_out g.sending g.mailbox.waiting.tokens) (conserves_given_up (all_taken_out g.sending g.mailbox.waiting.tokens))

pub conserves_handed_out : (s : SeatsState) → Conserves kept_by_seats s [] (sent_to_first s.gone) (left_by_first s)
conserves_handed_out s = by s.gone refl
  where
    by : (gone : List Departed) → s.gone ≡ gone → Conserves kept_by_seats s [] (sent_to_first gone) (without_first s gone)
    by [] e = conserves_nothing s
    by (g ∷ gs) e = record {
      each = λ d.
          let a = ap (sum_by (kept_by_departed d)) e in
          let b = sum_by-cons (kept_by_departed d) g gs in
          let c = sum_by_push (kept_in d) s.left (left_of g) in
          let h = (conserves_left_of g).each d in
          let n = nothing_more d (some_of (descriptors_of g.sending g.mailbox.waiting.tokens)) in omega (arith, a, b, c, h, n);
    }
      where
        nothing_more : (d : ℤ) (xs : List ℤ) → occurrences d (xs ++ []) ≡ occurrences d xs
        nothing_more d [] = refl
        nothing_more d (x ∷ xs) = let h = nothing_more d xs in omega (arith, h)

-- ---- descriptors that were passed over

none_kept : (d : ℤ) (qs : List Descriptors) → AllEmpty qs → sum_by (kept_in d) qs ≡ 0
none_kept d [] empty = refl
none_kept d (q ∷ qs) empty =
    let h = none_kept d qs empty.1 in
    let a = sum_by-cons (kept_in d) q qs in
    let p = ap (occurrences d) empty.0.0 in
    let k = ap (occurrences d) empty.0.1 in omega (arith, h, a, p, k)

left_passed : (d : ℤ) (x : ℤ) (qs rs : List Descriptors) → LeftPassesOut qs x rs → sum_by (kept_in d) qs ≡ sum_by (kept_in d) rs + occurrences d (x ∷ [])
left_passed d x [] rs h = absurd h
left_passed d x (q ∷ qs) rs h = elim h [
  | inl a ↦
      let g = (conserves_given_up q).each d in
      let p = ap (kept_in d) a.1 in
      let n = sum_by-cons (kept_in d) q qs in
      let m = sum_by-cons (kept_in d) a.0 qs in
      let r = ap (sum_by (kept_in d)) a.2 in omega (arith, g, p, n, m, r)
  | inr b ↦
      let i = left_passed d x qs rs b.1 in
      let n = sum_by-cons (kept_in d) q qs in
      let p = ap (occurrences d) b.0.0 in
      let k = ap (occurrences d) b.0.1 in omega (arith, i, n, p, k)
]

ledger_passed : (d : ℤ) (x : ℤ) (l k : Ledger) → LedgerPassesOut l x k → kept_by_ledger d l ≡ kept_by_ledger d k + occurrences d (x ∷ [])
ledger_passed d x l k h = elim h [
  | inl a ↦ let p = ap (kept_in d) a.1 in let e = ap (kept_by_ledger d) a.2 in omega (arith, p, e)
  | inr a ↦ let p = ap (kept_in d) a.1 in let e = ap (kept_by_ledger d) a.2 in omega (arith, p, e)
]

pub conserves_passed_next : (s t : SeatsState) (found : Option ℤ) → PassesNext s found t → Conserves kept_by_seats s [] (option_to_list found) t
conserves_passed_next s t None h = record {
  each = λ d. let n = none_kept d s.left h.1 in let e = ap (kept_by_seats d) h.2 in omega (arith, n, e);
}
conserves_passed_next s t (Some x) h = record { each = λ d. by d h }
  where
    by : (d : ℤ) → PassesNext s (Some x) t → kept_by_seats d s + 0 ≡ kept_by_seats d t + occurrences d (x ∷ [])
    by d h = elim h [
      | inl a ↦ let n = left_passed d x s.left t.left a.0 in let e = ap (kept_by_seats d) a.1 in omega (arith, n, e)
      | inr b ↦
          let n = none_kept d s.left b.0 in
          let at = b.1.1 in
          let r = sum_replaced (kept_by_seat d) s.ledgers b.1.0 (Some at.0) (Some at.1) (slot_of_ledger b.1.0 s.ledgers at.0 at.2) in
          let p = ledger_passed d x at.0 at.1 at.3 in
          let w = ap (sum_by (kept_by_seat d)) at.4 in
          let e = ap (kept_by_seats d) b.2 in omega (arith, n, r, p, w, e)
    ]
