-- What stays of a client's session whose table is extended.
use Rattle.std.proofs.Common.{◌≡◌, ◌∙◌, ap, ℕ, List, [], ◌∷◌, inl, inr, Result, Ok, Err}
use Rattle.std.specs.Prelude.{MatchResult}
use Rattle.wl_wire.specs.Table.{Extension, InterfaceRow}
use Rattle.wl_host_client.specs.Client.{ClientCore}
use Rattle.wl_flat.specs.Extending.{Extends, Lengthens, Parts, Takes, parts_of, told_at, told_of_new}
use Rattle.wl_flat.specs.Rows.{fault_of}
use Rattle.wl_host_client.specs.Tables.{ClientGrows}
use Rattle.wl_flat.specs.declared.extending.ExtensionFault.{ExtensionFault}

-- the notes are the same
abbrev KeepsNotes : ClientCore → ClientCore → Type 0
KeepsNotes b a = a.session.notes ≡ b.session.notes

keeps_same : (b a : ClientCore) → a ≡ b → KeepsNotes b a
keeps_same b a same = ap (λ (s : ClientCore). s.session.notes) same

lengthens_keep : (longer : List (ℕ × Extension)) (b a : ClientCore) (result : Result (Unit {0}) ExtensionFault) → Lengthens ClientGrows b longer result a → KeepsNotes b a
lengthens_keep [] b a result done = keeps_same b a done.1
lengthens_keep (more ∷ others) b a result did =
    let (mid, answer, grows, rest) = did in
    ((elim answer as (λ r. MatchResult r (λ _. Lengthens ClientGrows mid others result a) (λ e. (result ≡ Err (told_at more.0 (fault_of e))) × (a ≡ mid)) → KeepsNotes mid a) [
      | Ok u ↦ λ h. lengthens_keep others mid a result h
      | Err e ↦ λ h. keeps_same mid a h.1
    ]) rest)
    ∙ ap (λ (s : ClientCore). s.session.notes) grows.1

takes_keep : (parts : Parts) (b a : ClientCore) (result : Result (Unit {0}) ExtensionFault) → Takes ClientGrows b parts result a → KeepsNotes b a
takes_keep parts b a result did =
    let (mid, answer, grows, rest) = did in
    ((elim answer as (λ r. MatchResult r (λ _. Lengthens ClientGrows mid parts.longer result a) (λ e. (result ≡ Err (told_of_new parts.new_at (fault_of e))) × (a ≡ mid)) → KeepsNotes mid a) [
      | Ok u ↦ λ h. lengthens_keep parts.longer mid a result h
      | Err e ↦ λ h. keeps_same mid a h.1
    ]) rest)
    ∙ ap (λ (s : ClientCore). s.session.notes) grows.1

pub extends_keep : (table rows : List InterfaceRow) (b a : ClientCore) (result : Result (Unit {0}) ExtensionFault) → Extends ClientGrows table rows b result a
    → a.session.notes ≡ b.session.notes
extends_keep table rows b a result extends = elim extends [
  | inl faulty ↦ keeps_same b a faulty.3
  | inr agrees ↦ elim agrees [
    | inl refused ↦ keeps_same b a refused.2
    | inr takes ↦ takes_keep (parts_of table rows) b a result takes.1
  ]
]
