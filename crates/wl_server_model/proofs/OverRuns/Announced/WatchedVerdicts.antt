-- What a verdict that is carried out leaves of a client that lives on: all its messages were put, or nothing was done.
use Rattle.std.proofs.Common.{◌≡◌, ◌⊎◌, ℕ, Bool, true, false, List, [], ◌∷◌, ◌++◌, map, append-nil, Result, Ok, Err, refl, ap, ◌∙◌, true≢false, arith}
use mathlib.Core.Logic.{inr}
use Rattle.std.specs.Prelude.{◌||◌}
use Rattle.wl_wire.specs.declared.error.IoFault.{IoFault}
use Rattle.wl_wire.specs.declared.error.IoFault.TheVariants as fault
use Rattle.wl_link.proofs.Calls.Branches.{either_result}
use Rattle.wl_link.specs.Exchange.{Queue, Sending}
use Rattle.wl_link.specs.Identity.{Id}
use Rattle.wl_link.specs.Link.{LinkState}
use Rattle.wl_link.specs.Puts.{FlushesOut, PutsOut, Said, lacks_memory}
use Rattle.wl_link.specs.Reader.{CarriesOut, Given, Reader, Turn, Verdict, came_to, ReaderState}
use Rattle.wl_server_model.proofs.OverRuns.Moves.BaseMoves.{Doings, joined}
use Rattle.wl_server_client.specs.Deeds.{Deed, Put, Sent, log_of, registries_in}
use Rattle.wl_server_model.proofs.OverRuns.Moves.DoingsLaws.{deeds_done, deeds_given, doings_in, doings_in_both, doings_puts, doings_sends, doings_turns, told_deeds}
use Rattle.wl_server_client.specs.Globals.{Offer}
use Rattle.wl_server_client.specs.Ids.{ClientParts, GlobalParts}
use Rattle.wl_server_client.specs.Part.{Part}
use Rattle.wl_server_client.specs.Reading.{exchanges_in, stops_if}
use Rattle.wl_server_client.specs.Telling.{Core, Finish, Tells, Told, closed_down, core_of, deeds_in, deeds_of, speaker, Did}
use Rattle.wl_server_model.proofs.OverRuns.Announced.Watching.{Goes, part_scene, scene_of, steady_same, goes_not, goes_so}

-- one message at most
abbrev pub IsShort : List Said → Type 0
IsShort [] = Unit {0}
IsShort (m ∷ []) = Unit {0}
IsShort (m ∷ n ∷ messages) = ⊥

module _ {T : Type 0} (sends : T → Queue → Result ℕ IoFault → T → Type 0) where
  -- messages that could be put were put, all of them
  pub all_put : (before : LinkState T) (messages : List Said) (es : List Sending) (put : List Said) (after : LinkState T)
      → PutsOut sends before messages es put (Ok tt) after → put ≡ messages
  all_put before [] es put after (none, is, ok, same) = is
  all_put before (m ∷ messages) es put after (first, one, mid, by, h) = grind (arith, either_result, all_put mid messages)

module _ {U : Type 0} where
  -- ---- deeds of exchanges, and of what is given

  pub log_both : (a b : List (Deed U)) → log_of (a ++ b) ≡ log_of a ++ log_of b
  log_both a b = ap (λ (d : Doings U). d.put) (doings_in_both a b)

  pub registries_both : (a b : List (Deed U)) → registries_in (a ++ b) ≡ registries_in a ++ registries_in b
  registries_both a b = ap (λ (d : Doings U). d.registries) (doings_in_both a b)

  -- what is put, and the registries that are made, are the same in both
  abbrev pub Tell : List (Deed U) → List (Deed U) → Type 0
  Tell a b = (log_of a ≡ log_of b) × (registries_in a ≡ registries_in b)

  -- nothing is put, and no registry made
  abbrev pub IsSilent : List (Deed U) → Type 0
  IsSilent did = Tell did []

pub silent_sends : (U : Type 0) (es : List Sending) → IsSilent {U = U} (map Sent es)
silent_sends U es = (ap (λ (d : Doings U). d.put) (doings_sends es), ap (λ (d : Doings U). d.registries) (doings_sends es))

module _ {U : Type 0} where
  given_told : (put : List Said) (events : List (Told U)) (gave : List (Given (Told U))) → deeds_in gave ≡ map Put put ++ told_deeds events
      → log_of (told_deeds events) ≡ [] → (log_of (deeds_in gave) ≡ put) × (registries_in (deeds_in gave) ≡ registries_in (told_deeds events))
  given_told put events gave is none =
      let d = ap doings_in is ∙ doings_in_both (map Put put) (told_deeds events)
      ∙ ap (λ (x : Doings U). joined x (doings_in (told_deeds events))) (doings_puts put) in
      (ap (λ (x : Doings U). x.put) d ∙ ap (λ (l : List Said). put ++ l) none ∙ append-nil put, ap (λ (x : Doings U). x.registries) d)

  module _ {C : Type 0} where
    -- exchanges and the end of a client put nothing
    told_only : (did : List (Deed U)) (gave : List (Given (Told U))) (e : Core U C) → IsSilent did → Tell (deeds_of did gave e) (deeds_in gave)
    told_only did gave e silent = let all = deeds_done did gave e in grind (arith, log_of, deeds_in, append-nil, registries_in)

    pub exchanged : (es : List Sending) (gave : List (Given (Told U))) (e : Core U C) → Tell (deeds_of (map Sent es) gave e) (deeds_in gave)
    exchanged es gave e = told_only (map Sent es) gave e (silent_sends U es)

    pub turned : (turns : List Turn) (gave : List (Given (Told U))) (e : Core U C) → Tell (deeds_of (exchanges_in turns) gave e) (deeds_in gave)
    turned turns gave e =
        let is = doings_turns turns in told_only (exchanges_in turns) gave e (ap (λ (d : Doings U). d.put) is, ap (λ (d : Doings U). d.registries) is)

    pub told_replies : (did : List (Deed U)) (c : Core U C) → told_deeds (map Did did ++ stops_if c) ≡ did
    told_replies [] c = grind (arith, told_deeds)
    told_replies (d ∷ did) c = ap (λ (ds : List (Deed U)). d ∷ ds) (told_replies did c)

module _ {U C : Type 0} where
  -- The forms of a verdict: what follows a failed write leaves the client killed; without memory it is killed, or nothing is
  -- done; and what is handed out puts nothing.
  pub record Forms (c : Core U C) (v : Verdict (Core U C) (Told U)) : Type 0 where
    pub last : (d : Core U C) → d.is_killed ≡ true → (v.last d).is_killed ≡ true
    pub starved : (v.starved.is_killed ≡ true) ⊎ ((v.starved ≡ c) × (registries_in (told_deeds (v.events c)) ≡ []) × IsShort v.puts)
    pub silent : (e : Core U C) → log_of (told_deeds (v.events e)) ≡ []

  -- What it comes to: the client is killed; or there was no memory, and nothing is done; or all was put.
  abbrev pub CameTo : Core U C → Verdict (Core U C) (Told U) → List (Given (Told U)) → Bool → Core U C → Type 0
  CameTo c v gave refused e =
      (e.is_killed ≡ true)
      ⊎ (((v.starved ≡ c) × (e ≡ c) × (log_of (deeds_in gave) ≡ []) × (registries_in (deeds_in gave) ≡ []))
      ⊎ ((e ≡ v.last v.core) × (v.flushes ≡ false → refused ≡ false) × (log_of (deeds_in gave) ≡ v.puts)
      × (registries_in (deeds_in gave) ≡ registries_in (told_deeds (v.events (v.last v.core))))))

  module _ {T : Type 0} (sends : T → Queue → Result ℕ IoFault → T → Type 0) (reader : Reader (Core U C) (Told U) (Finish U))
      (breaks : (d : Core U C) (f : IoFault) → reader.broken d f ≡ closed_down d) (c : Core U C) (v : Verdict (Core U C) (Told U))
      (forms : Forms c v) where
    came : (link mid after : LinkState T) (first others : List Sending) (put : List Said) (wrote : Result (Unit {0}) IoFault) (lacked : Bool)
        (gave : List (Given (Told U)))
        (refused : Bool) (e : Core U C) → PutsOut sends link v.puts first put wrote mid → FlushesOut sends v.flushes mid others lacked after
        → e ≡ came_to reader v wrote → deeds_in gave ≡ map Put put ++ told_deeds (v.events (came_to reader v wrote))
        → refused ≡ lacks_memory wrote || lacked
        → CameTo c v gave refused e
    came link mid after first others put (Ok u) lacked gave refused e puts flushed core deeds is =
        let (said, regs) = given_told put (v.events (v.last v.core)) gave deeds (forms.silent (v.last v.core)) in
        inr (inr (core, λ off. is ∙ (grind (arith, true≢false, v.flushes)), said ∙ all_put sends link v.puts first put mid puts, regs))
    came link mid after first others put (Err fault.OutOfMemory) lacked gave refused e puts flushed core deeds is =
        grind (arith, either_result, given_told, registries_in, told_deeds)
    came link mid after first others put _ lacked gave refused e puts flushed core deeds is = grind (arith)

    pub carried_to : (link : LinkState T) (es : List Sending) (gave : List (Given (Told U))) (refused : Bool) (after : ReaderState T (Core U C))
        → CarriesOut sends reader v link es gave refused after → CameTo c v gave refused after.core
    carried_to link es gave refused after h6 = grind (arith, came, deeds_in, deeds_given, came_to, log_of, registries_in, told_deeds)

-- ---- clients that live on

module _ {G C : Type 0} (views : G → ClientParts → C → GlobalParts → Bool) (client : ClientParts) (r : Id) {U : Type 0} (offer : Offer G) where
  abbrev pub CoreLives : Core U C → List Said → List Id → Core U C → Type 0
  CoreLives c put regs e = Goes views client r offer offer (scene_of c) put regs (scene_of e)

  -- what a verdict comes to where all is put
  abbrev pub Leads : Core U C → Verdict (Core U C) (Told U) → Type 0
  Leads c v = CoreLives c v.puts (registries_in (told_deeds (v.events (v.last v.core)))) (v.last v.core)

  pub verdict_lives : (c : Core U C) (v : Verdict (Core U C) (Told U)) (gave : List (Given (Told U))) (refused : Bool) (e : Core U C)
      → ((v.flushes ≡ false → refused ≡ false) → Leads c v) → CameTo c v gave refused e
      → CoreLives c (log_of (deeds_in gave)) (registries_in (deeds_in gave)) e
  verdict_lives c v gave refused e leads h7 = grind (arith, goes_not, scene_of, log_of, deeds_in, registries_in, goes_so, steady_same, told_deeds)

  -- ---- a part

  abbrev pub PartLives : Offer G → {T : Type 0} → Part T U C → List (Deed U) → Part T U C → Type 0
  PartLives offer' p did q = Goes views client r offer offer' (part_scene p) (log_of did) (registries_in did) (part_scene q)

  -- a client to which a verdict is told
  pub tells_lives : {T : Type 0} (sends : T → Queue → Result ℕ IoFault → T → Type 0) (p : Part T U C) (v : Verdict (Core U C) (Told U))
      (link : LinkState T) (refused : Bool)
      (did : List (Deed U)) (after : Part T U C) → Forms (core_of p) v → ((v.flushes ≡ false → refused ≡ false) → Leads (core_of p) v)
      → Tells sends v link refused did after
      → PartLives offer p did after
  tells_lives sends p v link refused did after forms leads (es, gave, end, by, is, same) =
      let so = exchanged es gave end.core in
      let lives = verdict_lives (core_of p) v gave refused end.core leads
      (carried_to sends speaker (λ d f. refl) (core_of p) v forms link es gave refused end by) in
      grind (arith, goes_so, part_scene, scene_of, log_of, deeds_in, registries_in)
