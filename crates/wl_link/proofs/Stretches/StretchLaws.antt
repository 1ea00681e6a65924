-- That what a stretch gives is what is served of all that arrived, however it was cut.
use Rattle.std.proofs.Common.{◌≡◌, ◌⊎◌, ℕ, zero, suc, false, List, [], ◌∷◌, ◌++◌, append_assoc, append-nil, is_some, Result, refl, sym, ap, subst, ◌∙◌, true≢false}
use mathlib.Core.Logic.{inl, inr}
use Rattle.wl_wire.specs.declared.error.IoFault.{IoFault}
use Rattle.wl_wire.specs.declared.error.MessageParseError.TheVariants as parse
use Rattle.wl_link.specs.Exchange.{Queue, Sending, joined, nothing}
use Rattle.wl_link.specs.Link.{LinkState, with_transport}
use Rattle.wl_link.specs.Reader.{AllFed, Ends, Given, Gives, Handled, Lacks, ReaderState, Reader, Reads, Received, Turn, Unread, came_by, received_in}
use Rattle.wl_link.specs.Served.{NoneFits, Rests, ServedFrom, Serves, link_as, state_as}
use Rattle.wl_link.specs.Script.{Script, ScriptReceives, ScriptSends}
use Rattle.wl_link.specs.Stretch.{Act, AllPieces, Arrived, Does, DoesAll, EndsByPipe, EndsWaiting, HasByteFree, HasEnded, HasRead, IsOver, IsStretchServed, IsStretch, IsWaiting, MayCome, NotFull, arrivals_of, arrived, arrived_by, ended, ended_by, given_by, given_in, left_over, sending_side}
use Rattle.wl_link.proofs.Calls.OneScript.{script_sends_function}
use Rattle.wl_link.proofs.Readings.ServedLaws.{served_one}
use Rattle.wl_link.proofs.Readings.CuttingLaws.{carries_there, comes, serves_ending}
use Rattle.wl_link.proofs.Stretches.SendingLaws.{carries_send}
use Rattle.wl_link.proofs.Stretches.ArrivalLaws.{Waits, lacks_there, left_over_more, pieces_more, reading_waits}
use Rattle.wl_link.proofs.Calls.LaterLaws.{refused_there}
use Rattle.wl_link.proofs.Stretches.RanLaws.{ran}
use Rattle.wl_link.proofs.Calls.Branches.{at_false, at_true}
use Rattle.wl_link.proofs.Calls.QueueLaws.{joined_assoc, joined_nothing}

-- ---- one part of what is served after another

module _ {T Core Event Finish : Type 0} (sends : T → Queue → Result ℕ IoFault → T → Type 0) (reader : Reader Core Event Finish) where
  pub serves_both : (n m : ℕ) (p mid after : ReaderState T Core) (finishes between left : List Finish) (gave others : List (Given Event))
      → Serves sends reader n p finishes gave mid between → Serves sends reader m mid between others after left
      → (k : ℕ) × Serves sends reader k p finishes (gave ++ others) after left
  serves_both zero m p mid after finishes between left gave others (none, same, kept) more =
      let from = subst (λ (x : ReaderState T Core). Serves sends reader m x between others after left) same more in
      let with' = subst (λ (f : List Finish). Serves sends reader m p f others after left) kept from in
      (m, subst (λ (es : List (Given Event)). Serves sends reader m p finishes (es ++ others) after left) (sym none) with')
  serves_both (suc n) m p mid after finishes between left gave others (first, next, to, then', one, split, rest) more =
      let r = serves_both n m to mid after then' between left next others rest more in (
        suc r.0,
        (
          first,
          next ++ others,
          to,
          then',
          one,
          ap (λ (es : List (Given Event)). es ++ others) split ∙ append_assoc first next others,
          r.1,
        ),
      )

-- ---- acts behind one another

module _ {Event Finish : Type 0} where
  pub arrived-append : (acts others : List (Act Event Finish)) → arrived (acts ++ others) ≡ joined (arrived acts) (arrived others)
  arrived-append [] others = refl
  arrived-append (a ∷ acts) others = ap (joined (arrived_by a)) (arrived-append acts others) ∙ sym (joined_assoc (arrived_by a) (arrived acts) (arrived others))

  pub ended-append : (acts others : List (Act Event Finish)) → ended (acts ++ others) ≡ ended acts ++ ended others
  ended-append [] others = refl
  ended-append (a ∷ acts) others = ap (λ (us : List Finish). ended_by a ++ us) (ended-append acts others) ∙ sym (append_assoc (ended_by a) (ended acts) (ended others))

  pub given_in-append : (acts others : List (Act Event Finish)) → given_in (acts ++ others) ≡ given_in acts ++ given_in others
  given_in-append [] others = refl
  given_in-append (a ∷ acts) others =
      ap (λ (gs : List (Given Event)). given_by a ++ gs) (given_in-append acts others) ∙ sym (append_assoc (given_by a) (given_in acts) (given_in others))

  pub ends_waiting-append : (acts : List (Act Event Finish)) (a : Act Event Finish) → IsWaiting a → EndsWaiting (acts ++ a ∷ [])
  ends_waiting-append [] a waits = waits
  ends_waiting-append (b ∷ []) a waits = waits
  ends_waiting-append (b ∷ (c ∷ acts)) a waits = ends_waiting-append (c ∷ acts) a waits

  pub does_joins : {Core : Type 0} (reader : Reader Core Event Finish) (before mid after : ReaderState Script Core) (acts others : List (Act Event Finish))
      → DoesAll reader before acts mid → DoesAll reader mid others after → DoesAll reader before (acts ++ others) after
  does_joins reader before mid after [] others same does = subst (λ (p : ReaderState Script _). DoesAll reader p others after) same does
  does_joins reader before mid after (a ∷ acts) others (next, first, rest) does = (next, first, does_joins reader next mid after acts others rest does)

-- ---- an act

abbrev left_of : {Core : Type 0} → ReaderState Script Core → Queue
left_of p = left_over (arrivals_of p)

abbrev side_of : {Core : Type 0} → ReaderState Script Core → Script
side_of p = sending_side p.link.transport

-- the part where all that it left to come, and then this, has come
abbrev served_with : {Core : Type 0} → ReaderState Script Core → Queue → ReaderState Script Core
served_with p rest = state_as p (joined (left_of p) rest) (side_of p)

module _ {Core Event Finish : Type 0} (reader : Reader Core Event Finish) (ends_by : EndsByPipe reader) where
  -- ---- a reader that is over stays as it is

  record StaysOver (before after : ReaderState Script Core) : Type 0 where
    core : after.core ≡ before.core
    link : after.link ≡ with_transport before.link after.link.transport

  stays_same : (before after : ReaderState Script Core) → after ≡ before → StaysOver before after
  stays_same before after same = subst (λ (x : ReaderState Script Core). StaysOver before x) (sym same) (record { core = refl; link = refl })

  reads_nothing : (left : ℕ) (turns : List Turn) (out : Gives Event) (before after : ReaderState Script Core) → reader.reads_on before.core ≡ false
      → Reads ScriptSends reader ScriptReceives left before turns out after → after ≡ before
  reads_nothing left [] out before after off (same, ends) = same
  reads_nothing left (Received r ∷ turns) out before after off h = absurd (true≢false (sym h.0 ∙ off))
  reads_nothing left (Handled es ∷ turns) out before after off h = absurd (true≢false (sym h.0 ∙ off))
  reads_nothing left (Unread es ∷ turns) out before after off h = absurd (true≢false (sym h.0 ∙ off))

  act_over : (before after : ReaderState Script Core) (a : Act Event Finish) → IsOver reader before.core → Does reader before a after → StaysOver before after
  act_over before after (Arrived r) over (fed, same) =
      subst (λ (x : ReaderState Script Core). StaysOver before x) (sym same) (record { core = refl; link = refl })
  act_over before after (HasRead out) over (ample, (left, turns, reads)) = stays_same before after (reads_nothing left turns out before after over.0 reads)
  act_over before after (HasEnded u gave) over (off, (es, (v, is, carried))) = absurd (true≢false (sym (ap is_some is) ∙ ap is_some (over.1 u)))

  acts_over : (before after : ReaderState Script Core) (acts : List (Act Event Finish)) → IsOver reader before.core → DoesAll reader before acts after → StaysOver before after
  acts_over before after [] over same = stays_same before after same
  acts_over before after (a ∷ acts) over (mid, first, rest) =
      let one = act_over before mid a over first in
      let others = acts_over mid after acts (subst (IsOver reader) (sym one.core) over) rest in
      record { core = others.core ∙ one.core; link = others.link ∙ ap (λ (l : LinkState Script). with_transport l after.link.transport) one.link }

  -- so no receive found the storage full, if none is seen to have at the end
  pub roomy_before : (before after : ReaderState Script Core) (acts : List (Act Event Finish)) → DoesAll reader before acts after → NotFull reader after → NotFull reader before
  roomy_before before after acts does roomy core (is, lacks) =
      let over = acts_over before after acts (subst (IsOver reader) (sym is) (ends_by.over core)) does in
      let incoming : after.link.incoming ≡ before.link.incoming = ap (λ (l : LinkState Script). l.incoming) over.link in
      let there = lacks_there ScriptSends ScriptSends reader (record { core = core; link = before.link }) after.link incoming lacks in
      free core (subst (λ (l : LinkState Script). HasByteFree l ⊎ MayCome reader core l) over.link (roomy core (over.core ∙ is, there)))
    where
      free : (core : Core)
          → HasByteFree before.link ⊎ MayCome reader core (with_transport before.link after.link.transport)
          → HasByteFree before.link ⊎ MayCome reader core before.link
      free core (inl some) = inl some
      free core (inr (fits, in_time)) =
          inr (
            fits,
            λ late. in_time
                (refused_there (λ sender opcode found. found ≡ reader.signature core sender opcode) before.link (with_transport before.link after.link.transport) parse.MissingFD refl late),
          )

  -- ---- what an act is among what is served

  -- it is served over what it left to come, and then the rest
  record ActComes (before : ReaderState Script Core) (a : Act Event Finish) (after : ReaderState Script Core) : Type 0 where
    pieces : AllPieces (arrivals_of after)
    waits : IsWaiting a → Waits ScriptSends ScriptReceives reader ends_by.blocks after
    serves : (rest : Queue) (finishes : List Finish)
        → (n : ℕ) × Serves ScriptSends reader n (served_with before (joined (arrived_by a) rest)) (ended_by a ++ finishes) (given_by a) (served_with after rest) finishes

  act_comes : (before after : ReaderState Script Core) (a : Act Event Finish) → Does reader before a after → AllPieces (arrivals_of before) → NotFull reader after → ActComes before a after
  act_comes before after (Arrived r) (fed, same) all roomy = record {
    pieces = subst (λ (x : ReaderState Script Core). AllPieces (arrivals_of x)) (sym same) (pieces_more (arrivals_of before) r all fed);
    waits = λ none. absurd none;
    serves = λ rest finishes. (
      zero,
      (
        refl,
        ap (λ (x : ReaderState Script Core). served_with x rest) same
            ∙ ap (λ (q : Queue). state_as before (joined q rest) (side_of before)) (left_over_more (arrivals_of before) r)
            ∙ ap (λ (q : Queue). state_as before q (side_of before)) (joined_assoc (left_of before) (came_by r) rest),
        refl,
      ),
    );
  }
  act_comes before after (HasRead out) (ample, (left, turns, reads)) all roomy =
      let r = ran reader after roomy left before turns out ample reads all in record {
        pieces = r.pieces;
        waits = λ w. reading_waits ScriptSends ScriptReceives reader ends_by.blocks after left before turns out reads w;
        serves = λ rest finishes.
            let c = comes ScriptSends ScriptReceives ScriptSends reader ends_by.blocks after (joined (left_of after) rest) (side_of after) finishes left before turns out (side_of before) r.fed ample r.chain reads in
            let whole : joined (received_in turns) (joined (left_of after) rest) ≡ joined (left_of before) rest
            = sym (joined_assoc (received_in turns) (left_of after) rest) ∙ ap (λ (q : Queue). joined q rest) (sym r.came) in
            (c.0, subst (λ (q : Queue). Serves ScriptSends reader c.0 (state_as before q (side_of before)) finishes out.gave (served_with after rest) finishes) whole c.1);
      }
  act_comes before after (HasEnded u gave) (off, (es, (v, is, carried))) all roomy =
      let sent = carries_send reader v before.link after es gave false carried in record {
        pieces = subst AllPieces (sym sent.arrivals) all;
        waits = λ none. absurd none;
        serves = λ rest finishes.
            let q : Queue = joined (left_of after) rest in
            let there = carries_there ScriptSends ScriptSends q reader v before.link after es gave false (side_of before) (side_of after) sent.chain carried in
            let one = serves_ending ScriptSends reader (state_as before q (side_of before)) (served_with after rest) finishes gave u es off (v, is, there) in
            let serves : Serves ScriptSends reader 1 (state_as before q (side_of before)) (u ∷ finishes) gave (served_with after rest) finishes
            = (gave, [], served_with after rest, finishes, one, sym (append-nil gave), (refl, refl, refl)) in
            (1, subst (λ (l : List (Result Queue IoFault)). Serves ScriptSends reader 1 (state_as before (joined (left_over l) rest) (side_of before)) (u ∷ finishes) gave (served_with after rest) finishes) sent.arrivals serves);
      }

  -- so each arrival that is left over brings a byte, or says that the transport would block
  pub acts_pieces : (before after : ReaderState Script Core) (acts : List (Act Event Finish)) → DoesAll reader before acts after → AllPieces (arrivals_of before) → NotFull reader after
      → AllPieces (arrivals_of after)
  acts_pieces before after [] same all roomy = subst (λ (x : ReaderState Script Core). AllPieces (arrivals_of x)) (sym same) all
  acts_pieces before after (a ∷ acts) (mid, first, rest) all roomy =
      acts_pieces mid after acts rest (act_comes before mid a first all (roomy_before mid after acts rest roomy)).pieces roomy

  -- what each reading that was fed keeps, and each end, a stretch keeps
  module _ (P : Core → Type 0)
      (fed : (left : ℕ) (p mid : ReaderState Script Core) (turns : List Turn) (out : Gives Event) → Reads ScriptSends reader ScriptReceives left p turns out mid → AllFed turns
      → P p.core → P mid.core)
      (ends : (p mid : ReaderState Script Core) (u : Finish) (es : List Sending) (gave : List (Given Event)) → Ends ScriptSends reader p u es gave false mid → P p.core → P mid.core) where
    act_keeps : (before after : ReaderState Script Core) (a : Act Event Finish) → Does reader before a after → AllPieces (arrivals_of before) → NotFull reader after
        → P before.core → P after.core
    act_keeps before after (Arrived r) (arrives, same) all roomy holds = subst (λ (x : ReaderState Script Core). P x.core) (sym same) holds
    act_keeps before after (HasRead out) (ample, (left, turns, reads)) all roomy holds =
        fed left before after turns out reads (ran reader after roomy left before turns out ample reads all).fed holds
    act_keeps before after (HasEnded u gave) (off, (es, ended')) all roomy holds = ends before after u es gave ended' holds

    pub acts_keep : (before after : ReaderState Script Core) (acts : List (Act Event Finish)) → DoesAll reader before acts after → AllPieces (arrivals_of before) → NotFull reader after
        → P before.core → P after.core
    acts_keep before after [] same all roomy holds = subst (λ (x : ReaderState Script Core). P x.core) (sym same) holds
    acts_keep before after (a ∷ acts) (mid, first, rest) all roomy holds =
        let here = roomy_before mid after acts rest roomy in
        acts_keep mid after acts rest (act_comes before mid a first all here).pieces roomy (act_keeps before mid a first all here holds)

  -- ---- a stretch

  record ComesAll (before : ReaderState Script Core) (acts : List (Act Event Finish)) (after : ReaderState Script Core) : Type 0 where
    waits : EndsWaiting acts → Waits ScriptSends ScriptReceives reader ends_by.blocks after
    serves : (rest : Queue) (finishes : List Finish)
        → (n : ℕ) × Serves ScriptSends reader n (served_with before (joined (arrived acts) rest)) (ended acts ++ finishes) (given_in acts) (served_with after rest) finishes

  more_comes : (before mid after : ReaderState Script Core) (a : Act Event Finish) (acts : List (Act Event Finish)) → ActComes before a mid → ComesAll mid acts after
      → (EndsWaiting (a ∷ acts) → Waits ScriptSends ScriptReceives reader ends_by.blocks after) → ComesAll before (a ∷ acts) after
  more_comes before mid after a acts first others waits = record {
    waits = waits;
    serves = λ rest finishes.
        let one = first.serves (joined (arrived acts) rest) (ended acts ++ finishes) in
        let two = others.serves rest finishes in
        let both = serves_both ScriptSends reader one.0 two.0 _ _ _ _ _ _ _ _ one.1 two.1 in
        let bytes : joined (arrived_by a) (joined (arrived acts) rest) ≡ joined (arrived (a ∷ acts)) rest = sym (joined_assoc (arrived_by a) (arrived acts) rest) in
        let data' : ended_by a ++ (ended acts ++ finishes) ≡ ended (a ∷ acts) ++ finishes = sym (append_assoc (ended_by a) (ended acts) finishes) in
        let begun = subst (λ (q : Queue). Serves ScriptSends reader both.0 (served_with before q) (ended_by a ++ (ended acts ++ finishes)) (given_by a ++ given_in acts) (served_with after rest) finishes) bytes both.1 in
        (both.0, subst (λ (f : List Finish). Serves ScriptSends reader both.0 (served_with before (joined (arrived (a ∷ acts)) rest)) f (given_by a ++ given_in acts) (served_with after rest) finishes) data' begun);
  }

  acts_come : (before after : ReaderState Script Core) (acts : List (Act Event Finish)) → DoesAll reader before acts after → AllPieces (arrivals_of before) → NotFull reader after
      → ComesAll before acts after
  acts_come before after [] same all roomy = record {
    waits = λ none. absurd none;
    serves = λ rest finishes. (zero, (refl, ap (λ (x : ReaderState Script Core). served_with x rest) same, refl));
  }
  acts_come before after (a ∷ []) (mid, first, same) all roomy =
      let one = act_comes before mid a first all (roomy_before mid after [] same roomy) in
      more_comes before mid after a [] one (acts_come mid after [] same one.pieces roomy)
      (λ w. subst (λ (x : ReaderState Script Core). Waits ScriptSends ScriptReceives reader ends_by.blocks x) (sym same) (one.waits w))
  acts_come before after (a ∷ (b ∷ acts)) (mid, first, rest) all roomy =
      let one = act_comes before mid a first all (roomy_before mid after (b ∷ acts) rest roomy) in
      let others = acts_come mid after (b ∷ acts) rest one.pieces roomy in
      more_comes before mid after a (b ∷ acts) one others others.waits

  -- ---- the law

  rests_at_end : (before after : ReaderState Script Core) (acts : List (Act Event Finish)) → ComesAll before acts after
      → (reader.reads_on after.core ≡ false) ⊎ (EndsWaiting acts × (arrivals_of after ≡ [])) → Rests ScriptSends reader (state_as after (left_of after) (side_of after)) []
  rests_at_end before after acts c (inl off) = at_false (Lacks ScriptSends reader (state_as after (left_of after) (side_of after))) (reader.reads_on after.core) off tt
  rests_at_end before after acts c (inr (waiting, none)) =
      let w = c.waits waiting in
      let same : joined after.link.incoming (left_of after) ≡ after.link.incoming
      = ap (λ (l : List (Result Queue IoFault)). joined after.link.incoming (left_over l)) none ∙ joined_nothing after.link.incoming in
      at_true (NoneFits ScriptSends reader after.core []) (reader.reads_on after.core) w.0
      (lacks_there ScriptSends ScriptSends reader after (link_as after.link (left_of after) (side_of after)) same w.1)

  pub stretch_served : (before after : ReaderState Script Core) (acts : List (Act Event Finish)) → IsStretch reader before acts after → IsStretchServed reader before acts after
  stretch_served before after acts stretch =
      let c = acts_come before after acts stretch.spans.does stretch.spans.pieces stretch.roomy in
      let s = c.serves nothing [] in
      let bytes : joined (arrived acts) nothing ≡ arrived acts = joined_nothing (arrived acts) in
      let left : joined (left_of after) nothing ≡ left_of after = joined_nothing (left_of after) in
      let a = subst (λ (q : Queue). Serves ScriptSends reader s.0 (served_with before q) (ended acts ++ []) (given_in acts) (served_with after nothing) []) bytes s.1 in
      let b = subst (λ (q : Queue). Serves ScriptSends reader s.0 (served_with before (arrived acts)) (ended acts ++ []) (given_in acts) (state_as after q (side_of after)) []) left a in
      let d = subst (λ (f : List Finish). Serves ScriptSends reader s.0 (served_with before (arrived acts)) f (given_in acts) (state_as after (left_of after) (side_of after)) []) (append-nil (ended acts)) b in
      record { count = s.0; left = []; serves = d; rests = rests_at_end before after acts c stretch.spans.ends }

  -- So two stretches over which the same arrives and is ended give the same, and lead to the same, however it was cut.
  pub cut_otherwise : (before after after' : ReaderState Script Core) (acts acts' : List (Act Event Finish)) → IsStretch reader before acts after → IsStretch reader before acts' after'
      → arrived acts ≡ arrived acts' → ended acts ≡ ended acts'
      → (given_in acts ≡ given_in acts') × (state_as after (left_of after) (side_of after) ≡ state_as after' (left_of after') (side_of after'))
  cut_otherwise before after after' acts acts' stretch stretch' bytes finishes =
      let one = stretch_served before after acts stretch in
      let two = stretch_served before after' acts' stretch' in
      let end' : ReaderState Script Core = state_as after' (left_of after') (side_of after') in
      let b = subst (λ (q : Queue). ServedFrom ScriptSends reader (served_with before q) (ended acts') (given_in acts') end') (sym bytes) two in
      let f = subst (λ (l : List Finish). ServedFrom ScriptSends reader (served_with before (arrived acts)) l (given_in acts') end') (sym finishes) b in
      served_one ScriptSends script_sends_function reader (served_with before (arrived acts)) (state_as after (left_of after) (side_of after)) end' (ended acts) (given_in acts) (given_in acts') one f
