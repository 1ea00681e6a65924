-- Something is always served: with the law of one outcome, exactly one outcome.
use Rattle.std.proofs.Common.{◌≡◌, ℕ, zero, suc, ◌+◌, ◌<◌, Bool, true, false, List, [], ◌∷◌, ◌++◌, Option, None, Some, Result, Ok, refl, sym, ap, subst, arith, length}
use mathlib.Core.Logic.{inl, inr}
use Rattle.wl_wire.specs.declared.error.IoFault.{IoFault}
use Rattle.wl_wire.specs.Message.{WireMessage}
use Rattle.wl_link.specs.Exchange.{Queue}
use Rattle.wl_link.specs.Link.{LinkState}
use Rattle.wl_link.specs.Puts.{FlushesOut, PutsOut, Said}
use Rattle.wl_link.specs.Reader.{Given, Lacks, ReaderState, Reader, ReadsAs, Unreadable, Verdict, put_and_gave, unreadable_front}
use Rattle.wl_link.specs.Served.{NoneFits, Rests, ServesOne}
use Rattle.wl_link.specs.Stretch.{IsOver}
use Rattle.wl_link.proofs.Calls.FoundLaws.{Fronts, front_of}
use Rattle.wl_link.proofs.Readings.CuttingLaws.{serves_ending, serves_hearing}
use Rattle.wl_link.proofs.Calls.Branches.{at_false, at_true}
use Rattle.wl_link.specs.Total.{Carried, AlwaysGoesOn, SomethingIsServed}

module _ {T Core Event Finish : Type 0} (sends : T → Queue → Result ℕ IoFault → T → Type 0) (reader : Reader Core Event Finish) where
  -- where nothing is put, over every transport
  abbrev pub carried_at_once : (v : Verdict Core Event) (link : LinkState T) → v.puts ≡ [] → v.flushes ≡ false → Carried sends reader v link
  carried_at_once v link none still = record {
    sent = [];
    gave = put_and_gave [] (v.events (v.last v.core));
    after = record { core = v.last v.core; link = link };
    carried = inl (
      [],
      [],
      [],
      Ok tt,
      link,
      false,
      subst (λ (ms : List Said). PutsOut sends link ms [] [] (Ok tt) link) (sym none) (refl, refl, refl, refl),
      subst (λ (b : Bool). FlushesOut sends b link [] false link) (sym still) (refl, refl, refl),
      refl,
      refl,
      refl,
      refl,
    );
    waits = refl;
  }

  -- the same over links of which this holds, and goes on to hold
  module _ (Holds : LinkState T → Type 0) where
    pub record CarriedSo (v : Verdict Core Event) (link : LinkState T) : Type 0 where
      pub carried : Carried sends reader v link
      pub holds : Holds carried.after.link

    pub record GoesOnSo : Type 0 where
      pub reads : (p : ReaderState T Core) (m : WireMessage) (link : LinkState T) → ReadsAs sends reader p (Ok m) link → Holds p.link → Holds link
      pub handles : (c : Core) (m : WireMessage) (link : LinkState T) → Holds link → CarriedSo (reader.handles c m) link
      pub malformed : (c : Core) (u : Unreadable) (link : LinkState T) → Holds link → CarriedSo (reader.malformed c u) link
      pub over : (c : Core) (u : Unreadable) (link : LinkState T) (holds : Holds link)
          → IsOver reader (malformed c u link holds).carried.after.core
      pub takes : (c : Core) (u : Finish) (v : Verdict Core Event) (link : LinkState T) → reader.takes c u ≡ Some v → Holds link → CarriedSo v link

  resting : (p : ReaderState T Core) (finishes : List Finish) → Rests sends reader p finishes → SomethingIsServed sends reader p finishes
  resting p finishes rests = ([], p, record { count = zero; left = finishes; serves = (refl, refl, refl); rests = rests })

  turn_more : (p mid : ReaderState T Core) (finishes between : List Finish) (gave : List (Given Event)) → ServesOne sends reader p finishes gave mid between → SomethingIsServed sends reader mid between
      → SomethingIsServed sends reader p finishes
  turn_more p mid finishes between gave one (others, after, served) = (
    gave ++ others,
    after,
    record { count = suc served.count; left = served.left; serves = (gave, others, mid, between, one, refl, served.serves); rests = served.rests },
  )

  none_fits : (p : ReaderState T Core) (finishes : List Finish) → ((u : Finish) → reader.takes p.core u ≡ None) → NoneFits sends reader p.core finishes
  none_fits p [] none = tt
  none_fits p (u ∷ finishes) none = none u

  resting_over : (p : ReaderState T Core) (finishes : List Finish) → IsOver reader p.core → SomethingIsServed sends reader p finishes
  resting_over p finishes over = resting p finishes (at_false (Lacks sends reader p) (reader.reads_on p.core) over.0 (none_fits p finishes over.1))

  -- one turn, where what has fewer bytes and finishes is served
  module _ (Holds : LinkState T → Type 0) (goes : GoesOnSo Holds) (n : ℕ) (p : ReaderState T Core) (finishes : List Finish) (holds : Holds p.link)
      (less : length p.link.incoming.bytes + length finishes < suc n)
      (on : (q : ReaderState T Core) (fs : List Finish) → Holds q.link → length q.link.incoming.bytes + length fs < n → SomethingIsServed sends reader q fs) where
    by_finishes : (fs : List Finish) → finishes ≡ fs → reader.reads_on p.core ≡ false → SomethingIsServed sends reader p fs
    by_finishes [] is off = resting p [] (at_false (Lacks sends reader p) (reader.reads_on p.core) off tt)
    by_finishes (u ∷ fs) is off = go (reader.takes p.core u) refl
      where
        go : (o : Option (Verdict Core Event)) → reader.takes p.core u ≡ o → SomethingIsServed sends reader p (u ∷ fs)
        go None none = resting p (u ∷ fs) (at_false (Lacks sends reader p) (reader.reads_on p.core) off none)
        go (Some v) some =
            let so = goes.takes p.core u v p.link some holds in
            let c = so.carried in
            turn_more p c.after (u ∷ fs) fs c.gave (serves_ending sends reader p c.after fs c.gave u c.sent off (v, some, c.carried))
            (on c.after fs so.holds (omega (arith, less, ap length is, ap (λ (q : Queue). length q.bytes) c.waits)))

    by_front : reader.reads_on p.core ≡ true → Fronts (reader.signature p.core) p.link → SomethingIsServed sends reader p finishes
    by_front reads (inl lacks) = resting p finishes (at_true (NoneFits sends reader p.core finishes) (reader.reads_on p.core) reads lacks)
    by_front reads (inr (inl malformed)) =
        let u = unreadable_front sends reader p in
        let c = (goes.malformed p.core u p.link holds).carried in
        turn_more p c.after finishes finishes c.gave
        (serves_hearing sends reader p c.after finishes c.gave reads (reader.malformed p.core u, p.link, c.sent, inr (malformed, refl, refl), c.carried))
        (resting_over c.after finishes (goes.over p.core u p.link holds))
    by_front reads (inr (inr (m, link, read, shorter))) =
        let so = goes.handles p.core m link (goes.reads p m link read holds) in
        let c = so.carried in
        turn_more p c.after finishes finishes c.gave
        (serves_hearing sends reader p c.after finishes c.gave reads (reader.handles p.core m, link, c.sent, inl (m, read, refl), c.carried))
        (on c.after finishes so.holds (omega (arith, less, shorter, ap (λ (q : Queue). length q.bytes) c.waits)))

    by_core : (b : Bool) → reader.reads_on p.core ≡ b → SomethingIsServed sends reader p finishes
    by_core true reads = by_front reads (front_of (reader.signature p.core) p.link)
    by_core false off = by_finishes finishes refl off

  module _ (Holds : LinkState T → Type 0) (goes : GoesOnSo Holds) where
    served_within : (n : ℕ) (p : ReaderState T Core) (finishes : List Finish) → Holds p.link → length p.link.incoming.bytes + length finishes < n → SomethingIsServed sends reader p finishes
    served_within zero p finishes holds less = absurd (omega (arith, less))
    served_within (suc n) p finishes holds less =
        by_core Holds goes n p finishes holds less (λ q fs holds' fewer. served_within n q fs holds' fewer) (reader.reads_on p.core) refl

    pub always_served_so : (p : ReaderState T Core) (finishes : List Finish) → Holds p.link → SomethingIsServed sends reader p finishes
    always_served_so p finishes holds = served_within (length p.link.incoming.bytes + length finishes + 1) p finishes holds (omega arith)

  pub always_served : AlwaysGoesOn sends reader → (p : ReaderState T Core) (finishes : List Finish) → SomethingIsServed sends reader p finishes
  always_served goes p finishes =
      always_served_so (λ (link : LinkState T). Unit {0}) (record {
        reads = λ p m link read holds. tt;
        handles = λ c m link holds. record { carried = goes.handles c m link; holds = tt };
        malformed = λ c u link holds. record { carried = goes.malformed c u link; holds = tt };
        over = λ c u link holds. goes.over c u link;
        takes = λ c u v link takes holds. record { carried = goes.takes c u v link takes; holds = tt };
      }) p finishes tt
