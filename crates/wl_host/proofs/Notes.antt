-- How notes are taken from the core.
use Rattle.std.proofs.Common.{◌≡◌, ◌<◌, ℕ, ◌==◌, Bool, true, false, not, List, [], ◌∷◌, length, drop, get_or, Result, Ok, Err, refl, ap, sym, ◌∙◌, inl, inr, arith}
use Rattle.std.proofs.lemmas.Bool.{eqb-true, false≢true}
use Rattle.std.specs.Prelude.{Vec, if◌then◌else◌, nat_lt}
use Rattle.std.specs.VecDeque.{deque_len}
use Rattle.std.specs.declared.collections.VecDeque.{VecDeque}
use Rattle.std.specs.Global.{Global}
use Rattle.wl_wire.specs.declared.error.OutOfMemory.{OutOfMemory}
use Rattle.wl_server_model.specs.Backend.{Calls}
use Rattle.wl_server_client.specs.declared.notes.Note.{Note}
use Rattle.wl_server_model.specs.declared.step.Reply.TheVariants as reply
use Rattle.wl_server_model.specs.declared.step.Step.TheVariants as step
use Rattle.wl_host.specs.Calls.{CoreState, world}
use Rattle.wl_flat.specs.Flat.{over_front}
use Rattle.wl_host.specs.Notes.{Fetches, NextNote, Noted, flat_note, noted, noted_if, text_of, with_text}
use Rattle.wl_host.specs.Server.{ServerState}
use Rattle.wl_flat.specs.declared.flat.FlatNote.{FlatNote}
use Rattle.wl_flat.specs.declared.status.Status.{Status}
use Rattle.wl_flat.specs.declared.status.Status.TheVariants as status

none_of : {X : Type 0} (xs : List X) → length xs ≡ 0 → xs ≡ []
none_of [] e = refl
none_of (x ∷ xs) e = absurd (omega (arith, e))

-- an empty queue has no items
pub empty_deque : {X : Type 0} (q : VecDeque X Global) → (deque_len q == 0) ≡ true → q.items ≡ []
empty_deque q e = let n = eqb-true (deque_len q) 0 e in let o = q.ok in none_of q.items (omega (arith, n, o))

pub fetched : (b : ServerState) (core : CoreState) (taken : Vec (Note ℕ) Global) (notes : List (Note ℕ)) → Calls world b.core step.TakeNotes (reply.TakeNotes (Ok taken)) core
    → notes ≡ taken.items → b.notes ≡ [] → b.may_have_notes ≡ true → Fetches b (Ok tt) (record b { core = core; notes = notes; may_have_notes = false })
fetched b core taken notes call e none may =
    inr (rw (none, may) refl, (Ok taken, call, (refl, ap (λ (ns : List (Note ℕ)). let t : ServerState = record b { core = core; notes = ns; may_have_notes = false } in t) e)))

pub not_fetched : (b : ServerState) (core : CoreState) (e : OutOfMemory) (result : Result (Unit {0}) Status) → Calls world b.core step.TakeNotes (reply.TakeNotes (Err e)) core
    → result ≡ Err status.OutOfMemory → b.notes ≡ [] → b.may_have_notes ≡ true → Fetches b result (record b { core = core })
not_fetched b core e result call is none may = inr (rw (none, may) refl, (Err e, call, (is, refl)))

-- ---- the first note

-- there is none
pub none_in_front : {X : Type 0} (q : VecDeque X Global) → (0 < deque_len q → false ≡ true) → q.items ≡ []
none_in_front q h = by q.items refl
  where
    by : (xs : List _) → q.items ≡ xs → q.items ≡ []
    by [] e = e
    by (x ∷ xs) e = let n = ap length e in let o = q.ok in absurd (false≢true (h (omega (arith, n, o))))

-- it is followed by the others
pub one_in_front : {X : Type 0} (q : VecDeque X Global) (x : X) → 0 < deque_len q → x ≡ get_or q.items 0 x → q.items ≡ x ∷ drop 1 q.items
one_in_front q x h g = by q.items refl
  where
    by : (xs : List _) → q.items ≡ xs → q.items ≡ x ∷ drop 1 q.items
    by [] e = let n = ap length e in let o = q.ok in absurd (omega (arith, h, n, o))
    by (y ∷ ys) e =
        let same : x ≡ y = g ∙ ap (λ zs. get_or zs 0 x) e in
        e ∙ (ap (λ z. z ∷ ys) (sym same) ∙ ap (λ zs. x ∷ zs) (sym (ap (drop 1) e)))

pub none_noted : (b m : ServerState) (out : FlatNote) (text : List ℕ) → Fetches b (Ok tt) m → m.notes ≡ [] → NextNote b out text status.WouldBlock out text m
none_noted b m out text h e =
    let n = ap (λ ns. noted m ns out text) e in
    (m, Ok tt, h, inl (refl, sym (ap (λ (x : Noted). x.status) n), sym (ap (λ (x : Noted). x.out) n), sym (ap (λ (x : Noted). x.text) n), sym (ap (λ (x : Noted). x.after) n)))

pub refused_to_note : (b m : ServerState) (s : Status) (out : FlatNote) (text : List ℕ) → Fetches b (Err s) m → NextNote b out text s out text m
refused_to_note b m s out text h = (m, Err s, h, inr (refl, refl, refl, refl))

noted_as : (m : ServerState) (n : Note ℕ) (rest : List (Note ℕ)) (out : FlatNote) (text : List ℕ) (t : Bool) → m.notes ≡ n ∷ rest → nat_lt (length text) (length (text_of n)) ≡ t
    → noted m m.notes out text ≡ noted_if t m n rest text
noted_as m n rest out text t e f = ap (λ ns. noted m ns out text) e ∙ ap (λ u. noted_if u m n rest text) f

-- whether there is room for its text
is_small : (room small : Bool) → room ≡ not small → room ≡ false → small ≡ true
is_small room true e f = refl
is_small room false e f = absurd (false≢true (sym f ∙ e))

is_enough : (room small : Bool) → room ≡ not small → room ≡ true → small ≡ false
is_enough room true e f = absurd (false≢true (sym e ∙ f))
is_enough room false e f = refl

pub small_noted : (b m : ServerState) (n : Note ℕ) (rest : List (Note ℕ)) (out out' : FlatNote) (text text' : List ℕ) (room : Bool) → Fetches b (Ok tt) m → m.notes ≡ n ∷ rest
    → out' ≡ flat_note n → room ≡ not (nat_lt (length text) (length (text_of n))) → text' ≡ with_text (text_of n) text → room ≡ false
    → NextNote b out text status.TooSmall out' text' m
small_noted b m n rest out out' text text' room h e o r t f =
    let small = is_small room _ r f in
    let a = noted_as m n rest out text true e small in (
      m,
      Ok tt,
      h,
      inl (
        refl,
        sym (ap (λ (x : Noted). x.status) a),
        o ∙ sym (ap (λ (x : Noted). x.out) a),
        (t ∙ ap (λ u. if u then text else over_front (text_of n) text) small) ∙ sym (ap (λ (x : Noted). x.text) a),
        sym (ap (λ (x : Noted). x.after) a),
      ),
    )

pub first_noted : (b m : ServerState) (n : Note ℕ) (rest rest' : List (Note ℕ)) (out out' : FlatNote) (text text' : List ℕ) (room : Bool) → Fetches b (Ok tt) m → m.notes ≡ n ∷ rest
    → out' ≡ flat_note n → room ≡ not (nat_lt (length text) (length (text_of n))) → text' ≡ with_text (text_of n) text → room ≡ true → rest' ≡ rest
    → NextNote b out text status.Ok out' text' (record m { notes = rest' })
first_noted b m n rest rest' out out' text text' room h e o r t f g =
    let small = is_enough room _ r f in
    let a = noted_as m n rest out text false e small in (
      m,
      Ok tt,
      h,
      inl (
        refl,
        sym (ap (λ (x : Noted). x.status) a),
        o ∙ sym (ap (λ (x : Noted). x.out) a),
        (t ∙ ap (λ u. if u then text else over_front (text_of n) text) small) ∙ sym (ap (λ (x : Noted). x.text) a),
        ap (λ (ns : List (Note ℕ)). let v : ServerState = record m { notes = ns } in v) g ∙ sym (ap (λ (x : Noted). x.after) a),
      ),
    )
