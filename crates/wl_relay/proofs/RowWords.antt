-- Which words are rows, by the first one.
use Rattle.std.proofs.Common.{◌≡◌, ◌≢◌, ◌<◌, ◌∙◌, ℕ, ◌-◌, List, [], ◌∷◌, ◌++◌, length, get_or, drop, take, codes, sym, ap, subst, arith, Bor}
use mathlib.Core.Logic.{inl, inr}
use Rattle.std.proofs.Math.Seq.{take-length}
use Rattle.std.proofs.lemmas.List.{map-append}
use Rattle.wl_wire.specs.declared.interface.Interface.{Interface}
use Rattle.wl_wire.specs.Table.{InterfaceRow, interface_row, interface_rows}
use Rattle.wl_relay.specs.Rows.{AddsEvent, AddsRequest, AddsRow, IsInterface}
use Rattle.wl_relay.specs.Words.{Word, spoken}

-- the words after the first one, as the program lends them
abbrev pub others_of : List (Bor Word) → List (Bor Word)
others_of ws = take (length ws - 1) (drop 1 ws)

-- the words, by the first one
pub first_is : (ws : List (Bor Word)) (d : Bor Word) (first : Word) → 0 < length ws → (get_or ws 0 d).now ≡ first
    → spoken ws ≡ first ∷ spoken (others_of ws)
first_is [] d first some is = absurd (omega arith)
first_is (w ∷ ws) d first some is =
    let size : length (w ∷ ws) - 1 ≡ length ws = omega arith in
    let all : others_of (w ∷ ws) ≡ ws = ap (λ (n : ℕ). take n ws) size ∙ take-length ws in
    ap (λ (v : Word). v ∷ spoken ws) is ∙ ap (λ (vs : List (Bor Word)). first ∷ spoken vs) (sym all)

-- two first words that differ in their first letter
other_word : (v w : Word) (others rest : List Word) → v ∷ others ≡ w ∷ rest → get_or v 0 0 ≢ get_or w 0 0 → ⊥
other_word v w others rest same differ = differ (ap (λ (ws : List Word). get_or (get_or ws 0 []) 0 0) same)

pub no_interface : (rows : List InterfaceRow) (rest : List Word) → ((row : InterfaceRow) → ¬ (IsInterface row rest)) → (rows' : List InterfaceRow)
    → ¬ (AddsRow rows (codes "interface" ∷ rest) rows')
no_interface rows rest none rows' (others, inl (same, (row, is, adds))) =
    none row (subst (λ (ws : List Word). IsInterface row ws) (sym (ap (λ (ws : List Word). drop 1 ws) same)) is)
no_interface rows rest none rows' (others, inr (inl (same, adds))) = other_word (codes "interface") (codes "request") rest others same (λ e. omega (arith, e))
no_interface rows rest none rows' (others, inr (inr (same, adds))) = other_word (codes "interface") (codes "event") rest others same (λ e. omega (arith, e))

pub no_request : (rows : List InterfaceRow) (rest : List Word) → ((rows' : List InterfaceRow) → ¬ (AddsRequest rows rest rows')) → (rows' : List InterfaceRow)
    → ¬ (AddsRow rows (codes "request" ∷ rest) rows')
no_request rows rest none rows' (others, inl (same, adds)) = other_word (codes "request") (codes "interface") rest others same (λ e. omega (arith, e))
no_request rows rest none rows' (others, inr (inl (same, adds))) =
    none rows' (subst (λ (ws : List Word). AddsRequest rows ws rows') (sym (ap (λ (ws : List Word). drop 1 ws) same)) adds)
no_request rows rest none rows' (others, inr (inr (same, adds))) = other_word (codes "request") (codes "event") rest others same (λ e. omega (arith, e))

pub no_event : (rows : List InterfaceRow) (rest : List Word) → ((rows' : List InterfaceRow) → ¬ (AddsEvent rows rest rows')) → (rows' : List InterfaceRow)
    → ¬ (AddsRow rows (codes "event" ∷ rest) rows')
no_event rows rest none rows' (others, inl (same, adds)) = other_word (codes "event") (codes "interface") rest others same (λ e. omega (arith, e))
no_event rows rest none rows' (others, inr (inl (same, adds))) = other_word (codes "event") (codes "request") rest others same (λ e. omega (arith, e))
no_event rows rest none rows' (others, inr (inr (same, adds))) =
    none rows' (subst (λ (ws : List Word). AddsEvent rows ws rows') (sym (ap (λ (ws : List Word). drop 1 ws) same)) adds)

-- one interface more
pub rows_pushed : (before after : List Interface) (i : Interface) → after ≡ before ++ i ∷ [] → interface_rows after ≡ interface_rows before ++ interface_row i ∷ []
rows_pushed before after i same = ap interface_rows same ∙ map-append interface_row before (i ∷ [])
