-- How what is done adds up: over moves one behind another, and over deeds.
use Rattle.std.proofs.Common.{◌≡◌, List, [], ◌∷◌, ◌++◌, map, refl, sym, ap, ◌∙◌, append-nil, append_assoc, arith, ap₂}
use Rattle.wl_link.specs.Exchange.{Sending}
use Rattle.wl_link.specs.Puts.{Said}
use Rattle.wl_link.specs.Reader.{Given, HandedOut, Turn, put_and_gave}
use Rattle.wl_server_client.specs.Deeds.{came_in, Deed, Handed, Put, Sent, notes_in, sends_of}
use Rattle.wl_server_model.proofs.OverRuns.Moves.BaseMoves.{Doings, acted_in, all_action_ids, doings_of, joined, nothing_done, noting, putting, sending}
use Rattle.wl_server_client.specs.Reading.{exchanges_in, stops_if}
use Rattle.wl_server_client.specs.Telling.{Core, Told, deeds_in, deeds_of, end_deeds, Did}
use Rattle.wl_link.specs.Identity.{HandedId}
use Rattle.wl_server_client.specs.Ids.{IdParts}
use Rattle.wl_server_client.proofs.Readings.OneMessage.{deeds_append}

ids_both : (acted others : List Handed) → all_action_ids (acted ++ others) ≡ all_action_ids acted ++ all_action_ids others
ids_both [] others = refl
ids_both (h ∷ acted) others = grind (arith, append_assoc, all_action_ids, ids_both acted others)

module _ {U : Type 0} where
  -- ---- moves one behind another

  pub joined_assoc : (a b c : Doings U) → joined (joined a b) c ≡ joined a (joined b c)
  joined_assoc a b c = grind (arith, append_assoc)

  pub joined_none : (a : Doings U) → joined a nothing_done ≡ a
  joined_none a = grind (arith, append-nil)

  -- nothing that was sent or received is among it
  abbrev pub IsQuiet : List (Deed U) → Type 0
  IsQuiet did = (sends_of did ≡ []) × (came_in did ≡ [])

  -- ---- deeds

  -- what deeds come to: the ids that they hand out are those of actions
  abbrev pub doings_in : List (Deed U) → Doings U
  doings_in did = doings_of (all_action_ids (acted_in did)) did

  doings_both : (ids others : List (HandedId IdParts)) (a b : List (Deed U))
      → doings_of (ids ++ others) (a ++ b) ≡ joined (doings_of ids a) (doings_of others b)
  doings_both ids others [] b = refl
  doings_both ids others (d ∷ a) b = grind (arith, doings_both ids others a b, d)

  pub doings_in_both : (a b : List (Deed U)) → doings_in (a ++ b) ≡ joined (doings_in a) (doings_in b)
  doings_in_both a b = grind (arith, doings_of, all_action_ids, doings_both, ids_both, acted_in)

  pub doings_sends : (es : List Sending) → doings_in (map Sent es) ≡ sending es
  doings_sends [] = refl
  doings_sends (e ∷ es) = ap (λ (d : Doings U). record d { sends = e ∷ d.sends }) (doings_sends es)

  pub doings_puts : (put : List Said) → doings_in (map Put put) ≡ putting [] put
  doings_puts [] = refl
  doings_puts (m ∷ put) = ap (λ (d : Doings U). record d { put = m ∷ d.put }) (doings_puts put)

  -- the exchanges of a reading are sends and receives, which are of kinds of their own
  pub doings_turns : (turns : List Turn) → doings_in (exchanges_in {U = U} turns)
      ≡ record nothing_done { sends = sends_of (exchanges_in {U = U} turns); came = came_in (exchanges_in {U = U} turns) }
  doings_turns [] = refl
  doings_turns (turn ∷ turns) = grind (arith, doings_in_both, map, exchanges_in, joined, doings_in, doings_sends, sending, doings_turns turns, turn)

  -- exchanges pass by what is none
  passes_by : (S A X B E : Doings U) → (A.sends ≡ []) × (A.came ≡ []) → X ≡ record nothing_done { sends = X.sends; came = X.came }
      → joined (joined S A) (joined X (joined B E)) ≡ joined (joined S X) (joined (joined A B) E)
  passes_by S A X B E quiet is = grind (arith, append_assoc, append-nil)

  -- ---- what is given

  -- the deeds among what is handed out
  abbrev pub told_deeds : List (Told U) → List (Deed U)
  told_deeds events = deeds_in (map HandedOut events)

  pub told_stops : {C : Type 0} (c : Core U C) → told_deeds (stops_if c) ≡ []
  told_stops c = grind (arith, told_deeds)

  pub told_did : (did : List (Deed U)) (others : List (Told U)) → told_deeds others ≡ [] → told_deeds (map Did did ++ others) ≡ did
  told_did [] others none = none
  told_did (d ∷ did) others none = ap (λ (ds : List (Deed U)). d ∷ ds) (told_did did others none)

  pub deeds_given : (put : List Said) (events : List (Told U)) → deeds_in (put_and_gave put events) ≡ map Put put ++ told_deeds events
  deeds_given [] events = refl
  deeds_given (m ∷ put) events = ap (λ (did : List (Deed U)). Put m ∷ did) (deeds_given put events)

  -- ---- the deeds of a verdict, and of a reading

  module _ {C : Type 0} where
    abbrev pub end_of : Core U C → Doings U
    end_of c = noting (notes_in (end_deeds c.ended))

    pub deeds_done : (exchanges : List (Deed U)) (gave : List (Given (Told U))) (c : Core U C)
        → doings_in (deeds_of exchanges gave c) ≡ joined (doings_in exchanges) (joined (doings_in (deeds_in gave)) (end_of c))
    deeds_done exchanges gave c = grind (arith, doings_in_both, deeds_in, end_deeds, joined)

    -- a verdict's, with what it put and what it handed out
    pub verdict_done : (es : List Sending) (put : List Said) (events : List (Told U)) (c : Core U C)
        → doings_in (deeds_of (map Sent es) (put_and_gave put events) c) ≡ joined (putting es put) (joined (doings_in (told_deeds events)) (end_of c))
    verdict_done es put events c =
        grind (arith, deeds_done, deeds_given, joined, doings_sends, sending, doings_in_both, doings_puts, joined_assoc, putting, append-nil)

    -- what a turn sent and gave, where it killed nobody, and then what the turns behind it did
    pub turns_done : (es : List Sending) (turns : List Turn) (first others : List (Given (Told U))) (c : Core U C) → IsQuiet (deeds_in first)
        → joined (joined (sending es) (doings_in (deeds_in first))) (doings_in (deeds_of (exchanges_in turns) others c))
        ≡ doings_in (deeds_of (map Sent es ++ exchanges_in turns) (first ++ others) c)
    turns_done es turns first others c quiet =
        let X : Doings U = doings_in (exchanges_in turns) in
        ap (joined (joined (sending es) (doings_in (deeds_in first)))) (deeds_done (exchanges_in turns) others c)
        ∙ passes_by (sending es) (doings_in (deeds_in first)) X (doings_in (deeds_in others)) (end_of c) quiet (doings_turns turns)
        ∙ sym
        (deeds_done (map Sent es ++ exchanges_in turns) (first ++ others) c
        ∙ ap₂ (λ (x y : Doings U). joined x (joined y (end_of c)))
        (doings_in_both (map Sent es) (exchanges_in turns) ∙ ap (λ (d : Doings U). joined d X) (doings_sends es))
        (ap doings_in (deeds_append first others) ∙ doings_in_both (deeds_in first) (deeds_in others)))
