-- What is served has one outcome, and goes on behind what was served.
use Rattle.std.proofs.Common.{◌≡◌, ◌≢◌, ℕ, zero, suc, Bool, true, false, ◌||◌, List, [], ◌∷◌, ◌++◌, append_assoc, append-nil, Some, is_some, Result, Ok, Err, is_ok, refl, sym, ap, subst, ◌∙◌, true≢false}
use mathlib.Core.Logic.{inl, inr}
use Rattle.wl_wire.specs.declared.error.IoFault.{IoFault}
use Rattle.wl_wire.specs.declared.error.MessageParseError.{MessageParseError}
use Rattle.wl_wire.specs.declared.error.MessageParseError.TheVariants as parse
use Rattle.wl_wire.specs.Message.{WireMessage}
use Rattle.wl_link.specs.Exchange.{Chain, Queue, Sending, IsFunction}
use Rattle.wl_link.specs.Link.{LinkState}
use Rattle.wl_link.specs.Puts.{FlushesOut, Said, lacks_memory}
use Rattle.wl_link.specs.Reader.{CarriesOut, Given, Lacks, ReaderState, Reader, ReadsAs, Verdict, came_to, put_and_gave}
use Rattle.wl_link.specs.Served.{Answers, Finds, NoneFits, Rests, ServedFrom, Serves, ServesOne, TakesNext, AsTold}
use Rattle.wl_link.specs.Outcome.{SameRead}
use Rattle.wl_link.proofs.Calls.ReadLaws.{one_read_lem}
use Rattle.wl_link.proofs.Calls.Branches.{both_bool}
use Rattle.wl_link.proofs.Readings.PutsLaws.{flushes_one, not_lacked, puts_one}

abbrev pub answers_of : List Sending → Answers
answers_of [] = []
answers_of (e ∷ es) = e.answer ∷ answers_of es

-- the transport that answers as it is told: its sends are a function, and it allows each list of sends, where their
-- answers come first
pub told_function : IsFunction AsTold
told_function before offer one two after after' is is' ok ok' =
    let same : one ∷ after ≡ two ∷ after' = sym is ∙ is' in
    let first : one ≡ two = cc in
    let rest : after ≡ after' = cc in
    (first, rest)

-- it allows each list of sends, where their answers come first
pub chain_told : (es : List Sending) (later : Answers) → Chain AsTold (answers_of es ++ later) es later
chain_told [] later = refl
chain_told (e ∷ es) later = (answers_of es ++ later, refl, chain_told es later)

-- ---- one turn has one outcome

pub both_false : (a b : Bool) → false ≡ a || b → (a ≡ false) × (b ≡ false)
both_false true b is = absurd (true≢false (sym is))
both_false false b is = (refl, sym is)

pub record SameCarried {T Core Event : Type 0} (g h : List (Given Event)) (x y : ReaderState T Core) : Type 0 where
  pub gave : g ≡ h
  pub after : x ≡ y

pub record SameTurn {T Core Event Finish : Type 0} (g h : List (Given Event)) (x y : ReaderState T Core) (l k : List Finish) : Type 0 where
  pub gave : g ≡ h
  pub after : x ≡ y
  pub left : l ≡ k

part_is : {T Core : Type 0} (p q : ReaderState T Core) → p.core ≡ q.core → p.link ≡ q.link → p ≡ q
part_is {T = T} {Core = Core} p q cores links =
    let with_core : Core → ReaderState T Core = λ c. record { core = c; link = p.link } in
    let with_link' : LinkState T → ReaderState T Core = λ l. record { core = q.core; link = l } in
    ap with_core cores ∙ ap with_link' links

not_read : (m : WireMessage) (e : MessageParseError) → ◌≡◌ {A = Result WireMessage MessageParseError} (Ok m) (Err e) → ⊥
not_read m e same = true≢false (ap is_ok same)

same_message : (m n : WireMessage) → ◌≡◌ {A = Result WireMessage MessageParseError} (Ok m) (Ok n) → m ≡ n
same_message m n same = cc

module _ {S Core Event Finish : Type 0} (sends : S → Queue → Result ℕ IoFault → S → Type 0) (function : IsFunction sends) (reader : Reader Core Event Finish) where
  pub carries_one : (v : Verdict Core Event) (before : LinkState S) (x y : ReaderState S Core) (es fs : List Sending) (g h : List (Given Event))
      → CarriesOut sends reader v before es g false x → CarriesOut sends reader v before fs h false y → SameCarried g h x y
  carries_one v before x y es fs g h (inr (asks, was, none, is, same)) other = absurd (true≢false (sym was))
  carries_one v before x y es fs g h (inl carried) (inr (asks, was, none, is, same)) = absurd (true≢false (sym was))
  carries_one v before x y es fs g h (inl (first, others, put, a, mid, lacked, puts, flushes, split, end, is, was)) (inl (first', others', put', b, mid', lacked', puts', flushes', split', end', is', was')) =
      let ample = both_false (lacks_memory a) lacked was in
      let ample' = both_false (lacks_memory b) lacked' was' in
      let s = puts_one sends function v.puts before mid mid' first first' put put' a b (not_lacked a ample.0) (not_lacked b ample'.0) puts puts' in
      let known = subst (λ (l : Bool). FlushesOut sends v.flushes mid others l x.link) ample.1 flushes in
      let known' = subst (λ (l : Bool). FlushesOut sends v.flushes mid' others' l y.link) ample'.1 flushes' in
      let begun = subst (λ (l : LinkState S). FlushesOut sends v.flushes l others' false y.link) (sym s.after) known' in record {
        gave = is ∙ ap (λ (z : List Said). put_and_gave z (v.events (came_to reader v a))) s.put
            ∙ ap (λ (r : Result (Unit {0}) IoFault). put_and_gave put' (v.events (came_to reader v r))) s.answer ∙ sym is';
        after = part_is x y (end ∙ ap (came_to reader v) s.answer ∙ sym end') (flushes_one sends function v.flushes mid x.link y.link others others' known begun);
      }

  module _ (p : ReaderState S Core) where
    same_read : (a b : Result WireMessage MessageParseError) (l k : LinkState S) → ReadsAs sends reader p a l → ReadsAs sends reader p b k
        → a ≢ Err parse.OutOfMemory → b ≢ Err parse.OutOfMemory → SameRead a b l k
    same_read a b l k = one_read_lem p.link l k (λ sender opcode found. found ≡ reader.signature p.core sender opcode) (λ sender opcode f g is is'. is ∙ sym is') a b

    malformed_ok : ◌≡◌ {A = Result WireMessage MessageParseError} (Err parse.Malformed) (Err parse.OutOfMemory) → ⊥
    malformed_ok same = cc

    data_ok : ◌≡◌ {A = Result WireMessage MessageParseError} (Err parse.MissingData) (Err parse.OutOfMemory) → ⊥
    data_ok same = cc

    tokens_ok : ◌≡◌ {A = Result WireMessage MessageParseError} (Err parse.MissingFD) (Err parse.OutOfMemory) → ⊥
    tokens_ok same = cc

    data_not_malformed : ◌≡◌ {A = Result WireMessage MessageParseError} (Err parse.MissingData) (Err parse.Malformed) → ⊥
    data_not_malformed same = cc

    tokens_not_malformed : ◌≡◌ {A = Result WireMessage MessageParseError} (Err parse.MissingFD) (Err parse.Malformed) → ⊥
    tokens_not_malformed same = cc

    pub finds_one : (v w : Verdict Core Event) (l k : LinkState S) → Finds sends reader p v l → Finds sends reader p w k → (v ≡ w) × (l ≡ k)
    finds_one v w l k (inl (m, read, is)) (inl (n, read', is')) =
        let one = same_read (Ok m) (Ok n) l k read read' (not_read m _) (not_read n _) in
        (is ∙ ap (reader.handles p.core) (same_message m n one.answer) ∙ sym is', one.after)
    finds_one v w l k (inl (m, read, is)) (inr (malformed, same, is')) =
        absurd (not_read m _ (same_read (Ok m) (Err parse.Malformed) l p.link read malformed (not_read m _) malformed_ok).answer)
    finds_one v w l k (inr (malformed, same, is)) (inl (m, read, is')) =
        absurd (not_read m _ (same_read (Ok m) (Err parse.Malformed) k p.link read malformed (not_read m _) malformed_ok).answer)
    finds_one v w l k (inr (malformed, same, is)) (inr (malformed', same', is')) = (is ∙ sym is', same ∙ sym same')

    pub finds_not_lacks : (v : Verdict Core Event) (l : LinkState S) → Finds sends reader p v l → Lacks sends reader p → ⊥
    finds_not_lacks v l (inl (m, read, is)) (inl lacks) = not_read m _ (same_read (Ok m) (Err parse.MissingData) l p.link read lacks (not_read m _) data_ok).answer
    finds_not_lacks v l (inl (m, read, is)) (inr lacks) = not_read m _ (same_read (Ok m) (Err parse.MissingFD) l p.link read lacks (not_read m _) tokens_ok).answer
    finds_not_lacks v l (inr (malformed, same, is)) (inl lacks) =
        data_not_malformed (same_read (Err parse.MissingData) (Err parse.Malformed) p.link p.link lacks malformed data_ok malformed_ok).answer
    finds_not_lacks v l (inr (malformed, same, is)) (inr lacks) =
        tokens_not_malformed (same_read (Err parse.MissingFD) (Err parse.Malformed) p.link p.link lacks malformed tokens_ok malformed_ok).answer

    takes_one : (finishes l k : List Finish) (g h : List (Given Event)) (x y : ReaderState S Core) → TakesNext sends reader p finishes g x l → TakesNext sends reader p finishes h y k
        → SameTurn g h x y l k
    takes_one [] l k g h x y t t' = absurd t
    takes_one (u ∷ finishes) l k g h x y (es, (v, is, carried), left) (fs, (w, is', carried'), left') =
        let found : Some v ≡ Some w = sym is ∙ is' in
        let same : w ≡ v = cc in
        let one = carries_one v p.link x y es fs g h carried (subst (λ (z : Verdict Core Event). CarriesOut sends reader z p.link fs h false y) same carried') in
        record { gave = one.gave; after = one.after; left = left ∙ sym left' }

    serves_one : (finishes l k : List Finish) (g h : List (Given Event)) (x y : ReaderState S Core) → ServesOne sends reader p finishes g x l → ServesOne sends reader p finishes h y k
        → SameTurn g h x y l k
    serves_one finishes l k g h x y s t =
        elim (both_bool (reader.reads_on p.core) s t) [
          | inl (((v, link, es, finds, carried), left), ((w, link', fs, finds', carried'), left')) ↦
              let one = finds_one v w link link' finds finds' in
              let v' = subst (λ (z : Verdict Core Event). CarriesOut sends reader z link' fs h false y) (sym one.0) carried' in
              let l' = subst (λ (z : LinkState S). CarriesOut sends reader v z fs h false y) (sym one.1) v' in
              let same = carries_one v link x y es fs g h carried l' in
              record { gave = same.gave; after = same.after; left = left ∙ sym left' }
          | inr (takes, takes') ↦ takes_one finishes l k g h x y takes takes'
        ]

    rests_not_served : (finishes l : List Finish) (g : List (Given Event)) (x : ReaderState S Core) → Rests sends reader p finishes → ServesOne sends reader p finishes g x l → ⊥
    rests_not_served finishes l g x rests one =
        elim (both_bool (reader.reads_on p.core) rests one) [
          | inl (lacks, ((v, link, es, finds, carried), left)) ↦ finds_not_lacks v link finds lacks
          | inr (none, takes) ↦ fits finishes none takes
        ]
      where
        fits : (finishes : List Finish) → NoneFits sends reader p.core finishes → TakesNext sends reader p finishes g x l → ⊥
        fits [] none takes = absurd takes
        fits (u ∷ finishes) none (es, (v, is, carried), left) = true≢false (sym (ap is_some is) ∙ ap is_some none)

  -- ---- what is served goes on behind what was served

  abbrev Later : ReaderState S Core → List Finish → List (Given Event) → List (Given Event) → ReaderState S Core → Type 0
  Later p finishes gave all end = (others : List (Given Event)) × (all ≡ gave ++ others) × ServedFrom sends reader p finishes others end

  still_served : (p q : ReaderState S Core) (fs gs : List Finish) (g : List (Given Event)) (end : ReaderState S Core) → q ≡ p → gs ≡ fs
      → ServedFrom sends reader p fs g end → ServedFrom sends reader q gs g end
  still_served p q fs gs g end same left served =
      subst (λ (x : ReaderState S Core). ServedFrom sends reader x gs g end) (sym same) (subst (λ (f : List Finish). ServedFrom sends reader p f g end) (sym left) served)

  module _ (end : ReaderState S Core) where
    first_turn : (p mid : ReaderState S Core) (finishes between : List Finish) (first all : List (Given Event))
        → ServesOne sends reader p finishes first mid between → ServedFrom sends reader p finishes all end → Later mid between first all end
    first_turn p mid finishes between first all one served = go served.count served.serves served.rests
      where
        go : (n : ℕ) → Serves sends reader n p finishes all end served.left → Rests sends reader end served.left → Later mid between first all end
        go zero (none, same, left) rests =
            let rests' = subst (λ (x : ReaderState S Core). Rests sends reader x served.left) same rests in
            let rests'' = subst (λ (f : List Finish). Rests sends reader p f) left rests' in
            absurd (rests_not_served p finishes between first mid rests'' one)
        go (suc n) (first', others, mid', between', one', split, rest) rests =
            let same = serves_one p finishes between' between first' first mid' mid one' one in
            let from : ServedFrom sends reader mid' between' others end = record { count = n; left = served.left; serves = rest; rests = rests } in (
              others,
              split ∙ ap (λ (es : List (Given Event)). es ++ others) same.gave,
              still_served mid' mid between' between others end (sym same.after) (sym same.left) from,
            )

    pub served_later : (n : ℕ) (p after : ReaderState S Core) (finishes left : List Finish) (gave all : List (Given Event))
        → Serves sends reader n p finishes gave after left → ServedFrom sends reader p finishes all end → Later after left gave all end
    served_later zero p after finishes left gave all (none, same, kept) served =
        (all, ap (λ (es : List (Given Event)). es ++ all) (sym none), still_served p after finishes left all end same kept served)
    served_later (suc n) p after finishes left gave all (first, others, mid, between, one, split, rest) served =
        let turn = first_turn p mid finishes between first all one served in
        let r = served_later n mid after between left others turn.0 rest turn.2 in (
          r.0,
          turn.1 ∙ ap (λ (es : List (Given Event)). first ++ es) r.1 ∙ sym (append_assoc first others r.0)
              ∙ ap (λ (es : List (Given Event)). es ++ r.0) (sym split),
          r.2,
        )

    pub served_before : (n : ℕ) (p after : ReaderState S Core) (finishes left : List Finish) (gave all : List (Given Event))
        → Serves sends reader n p finishes gave after left → Later after left gave all end → ServedFrom sends reader p finishes all end
    served_before zero p after finishes left gave all (none, same, kept) (others, split, served) =
        let all_is : all ≡ others = split ∙ ap (λ (es : List (Given Event)). es ++ others) none in
        subst (λ (es : List (Given Event)). ServedFrom sends reader p finishes es end) (sym all_is) (still_served after p left finishes others end (sym same) (sym kept) served)
    served_before (suc n) p after finishes left gave all (first, others, mid, between, one, split, rest) (last, all_is, served) =
        let r = served_before n mid after between left others (others ++ last) rest (last, refl, served) in record {
          count = suc r.count;
          left = r.left;
          serves = (
            first,
            others ++ last,
            mid,
            between,
            one,
            all_is ∙ ap (λ (es : List (Given Event)). es ++ last) split ∙ append_assoc first others last,
            r.serves,
          );
          rests = r.rests;
        }

  -- what is served has one outcome
  pub served_one : (p x y : ReaderState S Core) (finishes : List Finish) (g h : List (Given Event)) → ServedFrom sends reader p finishes g x → ServedFrom sends reader p finishes h y
      → (g ≡ h) × (x ≡ y)
  served_one p x y finishes g h s t = go (served_later y s.count p x finishes s.left g h s.serves t)
    where
      at : (others : List (Given Event)) (n : ℕ) (left : List Finish) → h ≡ g ++ others → Serves sends reader n x s.left others y left → (g ≡ h) × (x ≡ y)
      at others zero left split (none, same, kept) =
          (sym (append-nil g) ∙ ap (λ (es : List (Given Event)). g ++ es) (sym none) ∙ sym split, sym same)
      at others (suc n) left split (first, rest, mid, between, one, is, after) = absurd (rests_not_served x s.left between first mid s.rests one)

      go : Later x s.left g h y → (g ≡ h) × (x ≡ y)
      go (others, split, from) = at others from.count from.left split from.serves
