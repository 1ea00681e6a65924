-- An interface that joins a table lets it grow once at most.
use Rattle.std.proofs.Common.{◌≡◌, ◌⊎◌, ◌∷◌, [], List, Option, Some, None, Result, Ok, Err, ℕ, ap, inl, inr, subst, sym}
use Rattle.std.specs.Prelude.{MatchOption, length}
use Rattle.wl_server_model.specs.Backend.{IsGrowth}
use Rattle.wl_wire.specs.declared.protocol.TableError.{TableError}
use Rattle.wl_wire.specs.Table.{Extension, Growth, InterfaceRow, LongerRow, NewRows, table_after}
use Rattle.wl_flat.proofs.NothingTakenAway.{keeps-growth, keeps-same}
use Rattle.wl_host.proofs.TablesGrow.{client_grows, server_grows}
use Rattle.wl_flat.specs.declared.extending.ExtensionFault.{ExtensionFault}
use Rattle.wl_flat.specs.declared.joining.Fit.{Fit}
use Rattle.wl_flat.specs.declared.joining.Fit.TheVariants.{Nothing, Other, Row}
use Rattle.wl_flat.specs.declared.rows.Rows.{Rows}
use Rattle.wl_host.specs.Calls.{CoreState, world}
use Rattle.wl_host_client.specs.Client.{ClientCore}
use Rattle.wl_flat.specs.Extending.{KeepsInterfaces}
use Rattle.wl_flat.specs.Flat.{count_number}
use Rattle.wl_flat.specs.Joining.{Joins, JoinsBy, JoinsOthers, JoinsRows, fit, lacks, numbered}
use Rattle.wl_host_client.specs.Tables.{ClientGrows, JoinsClient}
use Rattle.wl_host.specs.Tables.{JoinsServer}

module _ {S : Type 0} (Grows : S → Growth → Result (Unit {0}) TableError → S → Type 0) where
  -- nothing is changed, or it is one growth
  abbrev pub GrowsOnce : S → S → Type 0
  GrowsOnce b a = (a ≡ b) ⊎ ((more : Growth) × (answer : Result (Unit {0}) TableError) × Grows b more answer a)

  rest_once : (o : Option Extension) (place : ℕ) (b a : S) (result : Result ℕ ExtensionFault)
      → MatchOption o ((result ≡ Ok (count_number place)) × (a ≡ b)) (λ more. (answer : Result (Unit {0}) TableError) × Grows b (LongerRow more) answer a × (result ≡ numbered place answer))
      → GrowsOnce b a
  rest_once None place b a result h = inl h.1
  rest_once (Some more) place b a result h = inr (LongerRow more, h.0, h.1)

  by_once : (f : Fit) (table : List InterfaceRow) (said : InterfaceRow) (b a : S) (result : Result ℕ ExtensionFault) → JoinsBy Grows f table said b result a → GrowsOnce b a
  by_once Nothing table said b a result (inl h) = inr (NewRows (said ∷ []), h.0, h.1)
  by_once Nothing table said b a result (inr h) = inl h.1
  by_once (Row id) table said b a result h = rest_once (lacks table id.0 said) id.0 b a result h
  by_once (Other fault) table said b a result h = inl h.1

  joins_once : (table : List InterfaceRow) (said : InterfaceRow) (b a : S) (result : Result ℕ ExtensionFault) → Joins Grows table said b result a → GrowsOnce b a
  joins_once table said b a result h = by_once (fit table said) table said b a result h

  others_once : (table : List InterfaceRow) (said : InterfaceRow) (b a : S) (result : Result ℕ ExtensionFault) → JoinsOthers Grows table said b result a → GrowsOnce b a
  others_once table said b a result (inl h) = joins_once table h.0 b a result h.2
  others_once table said b a result (inr h) = inl h.1

  pub rows_once : (table : List InterfaceRow) (rows : Rows) (b a : S) (result : Result ℕ ExtensionFault) → JoinsRows (Joins Grows table) rows b result a → GrowsOnce b a
  rows_once table rows b a result (inl h) = joins_once table h.0 b a result h.2
  rows_once table rows b a result (inr (inl h)) = inl h.3.1
  rows_once table rows b a result (inr (inr h)) = inl h.2.1

  pub other_rows_once : (table : List InterfaceRow) (rows : Rows) (b a : S) (result : Result ℕ ExtensionFault) → JoinsRows (JoinsOthers Grows table) rows b result a → GrowsOnce b a
  other_rows_once table rows b a result (inl h) = others_once table h.0 b a result h.2
  other_rows_once table rows b a result (inr (inl h)) = inl h.3.1
  other_rows_once table rows b a result (inr (inr h)) = inl h.2.1

-- ---- what follows of it

module _ {S : Type 0} (Grows : S → Growth → Result (Unit {0}) TableError → S → Type 0) (table_of : S → List InterfaceRow)
    (follows : (s : S) (more : Growth) (answer : Result (Unit {0}) TableError) (t : S) → Grows s more answer t → table_of t ≡ table_after (table_of s) more answer) where
  keeps : (b a : S) → GrowsOnce Grows b a → KeepsInterfaces (table_of b) (table_of a)
  keeps b a (inl same) = subst (λ (s : S). KeepsInterfaces (table_of b) (table_of s)) (sym same) (keeps-same (table_of b))
  keeps b a (inr h) =
      subst (λ (t : List InterfaceRow). KeepsInterfaces (table_of b) t) (sym (follows b h.0 h.1 a h.2)) (keeps-growth (table_of b) h.0 h.1)

  -- ---- a refusal

  numbered_refused : (more : Growth) (place : ℕ) (fault : ExtensionFault) (answer : Result (Unit {0}) TableError) (b a : S) → Grows b more answer a → Err fault ≡ numbered place answer
      → table_of a ≡ table_of b
  numbered_refused more place fault (Ok u) b a grown is = absurd (cc)
  numbered_refused (NewRows rows) place fault (Err e) b a grown is = follows b (NewRows rows) (Err e) a grown
  numbered_refused (LongerRow more) place fault (Err e) b a grown is = follows b (LongerRow more) (Err e) a grown

  same_table : (b a : S) → a ≡ b → table_of a ≡ table_of b
  same_table b a same = ap table_of same

  rest_refused : (o : Option Extension) (place : ℕ) (fault : ExtensionFault) (b a : S)
      → MatchOption o ((Err fault ≡ Ok (count_number place)) × (a ≡ b)) (λ more. (answer : Result (Unit {0}) TableError) × Grows b (LongerRow more) answer a × (Err fault ≡ numbered place answer))
      → table_of a ≡ table_of b
  rest_refused None place fault b a h = same_table b a h.1
  rest_refused (Some more) place fault b a h = numbered_refused (LongerRow more) place fault h.0 b a h.1 h.2

  by_refused : (f : Fit) (table : List InterfaceRow) (said : InterfaceRow) (fault : ExtensionFault) (b a : S) → JoinsBy Grows f table said b (Err fault) a → table_of a ≡ table_of b
  by_refused Nothing table said fault b a (inl h) = numbered_refused (NewRows (said ∷ [])) (length table) fault h.0 b a h.1 h.2
  by_refused Nothing table said fault b a (inr h) = same_table b a h.1
  by_refused (Row id) table said fault b a h = rest_refused (lacks table id.0 said) id.0 fault b a h
  by_refused (Other other) table said fault b a h = same_table b a h.1

  refused : (table : List InterfaceRow) (rows : Rows) (fault : ExtensionFault) (b a : S) → JoinsRows (Joins Grows table) rows b (Err fault) a → table_of a ≡ table_of b
  refused table rows fault b a (inl h) = by_refused (fit table h.0) table h.0 fault b a h.2
  refused table rows fault b a (inr (inl h)) = same_table b a h.3.1
  refused table rows fault b a (inr (inr h)) = same_table b a h.2.1

  others_refused : (table : List InterfaceRow) (said : InterfaceRow) (fault : ExtensionFault) (b a : S) → JoinsOthers Grows table said b (Err fault) a → table_of a ≡ table_of b
  others_refused table said fault b a (inl h) = by_refused (fit table h.0) table h.0 fault b a h.2
  others_refused table said fault b a (inr h) = same_table b a h.1

  refused_among : (table : List InterfaceRow) (rows : Rows) (fault : ExtensionFault) (b a : S) → JoinsRows (JoinsOthers Grows table) rows b (Err fault) a → table_of a ≡ table_of b
  refused_among table rows fault b a (inl h) = others_refused table h.0 fault b a h.2
  refused_among table rows fault b a (inr (inl h)) = same_table b a h.3.1
  refused_among table rows fault b a (inr (inr h)) = same_table b a h.2.1

pub server_keeps : (rows : Rows) (b a : CoreState) (result : Result ℕ ExtensionFault) → JoinsServer rows b result a → KeepsInterfaces b.server.offer.table a.server.offer.table
server_keeps rows b a result h =
    keeps (IsGrowth world) (λ (s : CoreState). s.server.offer.table) server_grows b a (rows_once (IsGrowth world) b.server.offer.table rows b a result h)

pub client_keeps : (rows : Rows) (b a : ClientCore) (result : Result ℕ ExtensionFault) → JoinsClient rows b result a → KeepsInterfaces b.session.table a.session.table
client_keeps rows b a result h =
    keeps ClientGrows (λ (s : ClientCore). s.session.table) client_grows b a (other_rows_once ClientGrows b.session.table rows b a result h)

pub server_refused : (rows : Rows) (b a : CoreState) (fault : ExtensionFault) → JoinsServer rows b (Err fault) a → a.server.offer.table ≡ b.server.offer.table
server_refused rows b a fault h = refused (IsGrowth world) (λ (s : CoreState). s.server.offer.table) server_grows b.server.offer.table rows fault b a h

pub client_refused : (rows : Rows) (b a : ClientCore) (fault : ExtensionFault) → JoinsClient rows b (Err fault) a → a.session.table ≡ b.session.table
client_refused rows b a fault h = refused_among ClientGrows (λ (s : ClientCore). s.session.table) client_grows b.session.table rows fault b a h

-- the notes of a client's session are the same
pub others_notes : (table : List InterfaceRow) (said : InterfaceRow) (b a : ClientCore) (result : Result ℕ ExtensionFault) → JoinsOthers ClientGrows table said b result a
    → a.session.notes ≡ b.session.notes
others_notes table said b a result h =
    elim (others_once ClientGrows table said b a result h) [
      | inl same ↦ ap (λ (s : ClientCore). s.session.notes) same
      | inr grown ↦ ap (λ (s : ClientCore). s.session.notes) grown.2.1
    ]
