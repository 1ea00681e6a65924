-- That each number that the client has ended is that of an object, and stands among them once.
use Rattle.std.specs.Prelude.{◌≡◌, ◌≢◌, ℕ, ◌⊎◌, ◌==◌, ◌||◌, Bool, true, false, not, List, [], ◌∷◌, ◌++◌, filter, Option, None, Some, Ok, MatchBool, MatchOption, if◌then◌else◌}
use Rattle.std.proofs.Common.{ap, eq-eqb, inl, inr, refl, subst, sym, ◌∙◌}
use Rattle.std.proofs.lemmas.Bool.{eqb-true, or_parts, or_right}
use Rattle.wl_wire.specs.declared.argument.Argument.TheVariants as arg
use Rattle.wl_wire.specs.declared.interface.InterfaceId.{InterfaceId}
use Rattle.wl_wire.specs.Argument.{WireArgument}
use Rattle.wl_wire.specs.Message.{WireMessage}
use Rattle.wl_wire.specs.Parse.{length_of}
use Rattle.wl_wire.specs.Table.{InterfaceRow, MessageRow}
use Rattle.wl_link.specs.declared.object.Object.{Object}
use Rattle.wl_link.specs.Exchange.{Queue}
use Rattle.wl_link.specs.Store.{Store, held, removed, stored}
use Rattle.wl_link.proofs.Ids.StoreLaws.{removed_other, stored_here, stored_other}
use Rattle.wl_follow.specs.Objects.{Gives, IsBound, NotesBind, NotesChild, NotesObjects, Puts, PutsBound, bind_of, freed, is_bind, is_deletion, is_own, new_number, object_of, vacated, without_deleted}
use Rattle.wl_follow.specs.declared.objects.Deletions.TheVariants.{Seen}
use Rattle.wl_follow.specs.declared.objects.UnknownInterfaces.TheVariants.{Refused}
use Rattle.wl_follow.specs.declared.side.Fault.{Fault}
use Rattle.wl_follow.specs.declared.side.Fault.TheVariants as fault
use Rattle.wl_follow.specs.declared.side.Side.{Side}
use Rattle.wl_follow.specs.declared.side.Side.TheVariants.{Client, Server}
use Rattle.wl_guard.specs.Closure.{AreOnce}
use Rattle.wl_guard.specs.Known.{Known, is_one_of, without}
use Rattle.wl_guard.specs.Passages.{IsPassed, Judges, NotesUnder, Passage, deleted_number, ended_after, renewed}
use Rattle.wl_guard.specs.Policy.{PolicyState}
use Rattle.wl_guard.specs.declared.session.Fate.{Fate}
use Rattle.wl_guard.specs.declared.session.Fate.TheVariants as fate
use Rattle.wl_guard.proofs.Noted.{same_or_not, some_same}

-- ---- a number that stays an object's

-- it is an object's after, if it was before
abbrev pub HoldsStill : Store (Unit {0}) → Store (Unit {0}) → ℕ → Type 0
HoldsStill o o' n = (x : Object (Unit {0})) → held o n ≡ Some x → (y : Object (Unit {0})) × (held o' n ≡ Some y)

still_stored : (o : Store (Unit {0})) (k : ℕ) (y : Object (Unit {0})) (n : ℕ) → ((n ≢ k) → (x : Object (Unit {0})) × (held o n ≡ Some x)) → (z : Object (Unit {0})) × (held (stored o k y) n ≡ Some z)
still_stored o k y n before = go (same_or_not n k)
  where
    go : (n ≡ k) ⊎ (n ≢ k) → (z : Object (Unit {0})) × (held (stored o k y) n ≡ Some z)
    go (inl here) = (y, stored_here o k y n here)
    go (inr other) = let x = before other in (x.0, stored_other o k y n other ∙ x.1)

still_freed : (o : Store (Unit {0})) (k n : ℕ) → n ≢ k → HoldsStill o (freed o k) n
still_freed o k n other x is = go (k == 1)
  where
    go : (b : Bool) → (y : Object (Unit {0})) × (held (if b then o else removed o k) n ≡ Some y)
    go true = (x, is)
    go false = (x, removed_other o k n other ∙ is)

still_vacated : (side : Side) (o : Store (Unit {0})) (k n : ℕ) → n ≢ k → HoldsStill o (vacated side Seen o k) n
still_vacated Client o k n other x is = (x, is)
still_vacated Server o k n other x is = still_freed o k n other x is

still_put : (side : Side) (o o' : Store (Unit {0})) (k : ℕ) (i : InterfaceId) (version n : ℕ) → Puts side Seen o k i version None o' → HoldsStill o o' n
still_put side o o' k i version n puts x is = go (is_own side k) puts
  where
    go : (b : Bool) → MatchBool b (Gives (vacated side Seen o k) k i version None o') ((None ≡ Some fault.NewId) × (o' ≡ o)) → (y : Object (Unit {0})) × (held o' n ≡ Some y)
    go true gives =
        let z = still_stored (vacated side Seen o k) k (object_of i version) n (λ other. still_vacated side o k n other x is) in
        (z.0, ap (λ (s : Store (Unit {0})). held s n) gives.1 ∙ z.1)
    go false wrong = let e = wrong.0 in absurd cc

still_same : (o o' : Store (Unit {0})) (n : ℕ) → o' ≡ o → HoldsStill o o' n
still_same o o' n same x is = (x, ap (λ (s : Store (Unit {0})). held s n) same ∙ is)

still_child : (side : Side) (o o' : Store (Unit {0})) (child : InterfaceId) (version : ℕ) (args : List WireArgument) (n : ℕ) → NotesChild side Seen o child version args None o'
    → HoldsStill o o' n
still_child side o o' child version args n notes = go (new_number args) notes
  where
    go : (number : Option ℕ)
        → MatchOption number ((◌≡◌ {A = Option Fault} None None) × (o' ≡ o)) (λ number. Puts side Seen o number child version None o') → HoldsStill o o' n
    go None same = still_same o o' n same.1
    go (Some number) puts = still_put side o o' number child version n puts

still_bound : (table : List InterfaceRow) (o o' : Store (Unit {0})) (args : List WireArgument) (n : ℕ) → NotesBind table Refused Seen o args None o' → HoldsStill o o' n
still_bound table o o' args n notes = go (bind_of args) notes
  where
    bound : (b : List ℕ × (ℕ × ℕ)) (i : Option InterfaceId) → PutsBound Seen o b.1.1 i b.1.0 None o' → HoldsStill o o' n
    bound b None puts = let e = puts.0 in absurd cc
    bound b (Some i) puts = still_put Client o o' b.1.1 i b.1.0 n puts

    go : (x : Option (List ℕ × (ℕ × ℕ)))
        → MatchOption x ((None ≡ Some fault.Malformed) × (o' ≡ o)) (λ b. (i : Option InterfaceId) × IsBound table Refused b.0 i × PutsBound Seen o b.1.1 i b.1.0 None o')
        → HoldsStill o o' n
    go None wrong = let e = wrong.0 in absurd cc
    go (Some b) notes = bound b notes.0 notes.2

still_deleted : (o : Store (Unit {0})) (args : List WireArgument) (n : ℕ) → deleted_number args ≢ Some n → HoldsStill o (without_deleted o args) n
still_deleted o (arg.Uint number ∷ []) n other x is = still_freed o number n (λ same. other (ap (λ (i : ℕ). Some i) (sym same))) x is
still_deleted o _ n other x is = (x, is)

-- each number stays an object's but for the one that is deleted
still_noted : (table : List InterfaceRow) (side : Side) (object : Object (Unit {0})) (row : MessageRow) (m : WireMessage) (o o' : Store (Unit {0})) (n : ℕ)
    → (is_deletion side object.interface m.opcode ≡ true → deleted_number m.args ≢ Some n)
    → NotesObjects table Refused side Seen object row m o None o' → HoldsStill o o' n
still_noted table side object row m o o' n other notes = by_bind (is_bind side object.interface) notes
  where
    by_child : (c : Option InterfaceId)
        → MatchOption c ((◌≡◌ {A = Option Fault} None None) × (o' ≡ o)) (λ child. NotesChild side Seen o child object.version m.args None o') → HoldsStill o o' n
    by_child None same = still_same o o' n same.1
    by_child (Some child) notes = still_child side o o' child object.version m.args n notes

    by_deletion : (b : Bool) → is_deletion side object.interface m.opcode ≡ b
        → MatchBool b ((◌≡◌ {A = Option Fault} None None) × (o' ≡ without_deleted o m.args))
        (MatchOption row.child_interface ((◌≡◌ {A = Option Fault} None None) × (o' ≡ o)) (λ child. NotesChild side Seen o child object.version m.args None o')) → HoldsStill o o' n
    by_deletion true so_it_is deleted =
        λ x is. let y = still_deleted o m.args n (other so_it_is) x is in (y.0, ap (λ (s : Store (Unit {0})). held s n) deleted.1 ∙ y.1)
    by_deletion false not_so notes = by_child row.child_interface notes

    by_bind : (b : Bool)
        → MatchBool b (NotesBind table Refused Seen o m.args None o')
        (MatchBool (is_deletion side object.interface m.opcode) ((◌≡◌ {A = Option Fault} None None) × (o' ≡ without_deleted o m.args))
        (MatchOption row.child_interface ((◌≡◌ {A = Option Fault} None None) × (o' ≡ o)) (λ child. NotesChild side Seen o child object.version m.args None o'))) → HoldsStill o o' n
    by_bind true notes = still_bound table o o' m.args n notes
    by_bind false notes = by_deletion (is_deletion side object.interface m.opcode) refl notes

-- ---- the numbers that the client has ended

here : (n : ℕ) (ns : List ℕ) → is_one_of (n ∷ ns) n ≡ true
here n ns = ap (λ (b : Bool). b || is_one_of ns n) (eq-eqb n n refl)

ended_still : (o o' : Store (Unit {0})) (ns : List ℕ) → ((n : ℕ) → is_one_of ns n ≡ true → HoldsStill o o' n) → AreOnce o ns → AreOnce o' ns
ended_still o o' [] still ended = tt
ended_still o o' (n ∷ ns) still ended = (
  still n (here n ns) ended.0.0 ended.0.1,
  ended.1,
  ended_still o o' ns (λ i among. still i (or_right (n == i) (is_one_of ns i) among)) ended.2,
)

-- one more
none_behind : (ns : List ℕ) (m n : ℕ) → is_one_of ns m ≡ false → n ≢ m → is_one_of (ns ++ n ∷ []) m ≡ false
none_behind [] m n none other = go (n == m) refl
  where
    go : (b : Bool) → (n == m) ≡ b → (b || false) ≡ false
    go true is = absurd (other (eqb-true n m is))
    go false is = refl
none_behind (i ∷ ns) m n none other =
    let parts = or_parts (i == m) (is_one_of ns m) none in
    ap (λ (b : Bool). b || is_one_of (ns ++ n ∷ []) m) parts.0 ∙ none_behind ns m n parts.1 other

ended_more : (o : Store (Unit {0})) (ns : List ℕ) (n : ℕ) (x : Object (Unit {0})) → held o n ≡ Some x → is_one_of ns n ≡ false → AreOnce o ns → AreOnce o (ns ++ n ∷ [])
ended_more o [] n x is none ended = ((x, is), refl, tt)
ended_more o (m ∷ ns) n x is none ended =
    let parts = or_parts (m == n) (is_one_of ns n) none in (
      ended.0,
      none_behind ns m n ended.1 (λ same. let e : true ≡ false = sym (eq-eqb m n (sym same)) ∙ parts.0 in absurd cc),
      ended_more o ns n x is parts.1 ended.2,
    )

-- one fewer
none_kept : (f : ℕ → Bool) (ns : List ℕ) (m : ℕ) → is_one_of ns m ≡ false → is_one_of (filter f ns) m ≡ false
none_kept f [] m none = refl
none_kept f (n ∷ ns) m none =
    let parts = or_parts (n == m) (is_one_of ns m) none in go (f n) parts.0 (none_kept f ns m parts.1)
  where
    go : (b : Bool) → (n == m) ≡ false → is_one_of (filter f ns) m ≡ false → is_one_of (if b then n ∷ filter f ns else filter f ns) m ≡ false
    go true first rest = ap (λ (c : Bool). c || is_one_of (filter f ns) m) first ∙ rest
    go false first rest = rest

ended_fewer : (o : Store (Unit {0})) (f : ℕ → Bool) (ns : List ℕ) → AreOnce o ns → AreOnce o (filter f ns)
ended_fewer o f [] ended = tt
ended_fewer o f (n ∷ ns) ended = go (f n) (ended_fewer o f ns ended.2)
  where
    go : (b : Bool) → AreOnce o (filter f ns) → AreOnce o (if b then n ∷ filter f ns else filter f ns)
    go true rest = (ended.0, none_kept f ns n ended.1, rest)
    go false rest = rest

ended_without : (o : Store (Unit {0})) (number : Option ℕ) (ns : List ℕ) → AreOnce o ns → AreOnce o (without number ns)
ended_without o None ns ended = ended
ended_without o (Some number) ns ended = ended_fewer o (λ n. not (n == number)) ns ended

-- what is left is another number
left_other : (ns : List ℕ) (k n : ℕ) → is_one_of (filter (λ m. not (m == k)) ns) n ≡ true → n ≢ k
left_other [] k n among same = let e : false ≡ true = among in absurd cc
left_other (m ∷ ns) k n among same = go (m == k) refl among (λ more. left_other ns k n more same)
  where
    go : (b : Bool) → (m == k) ≡ b → is_one_of (if not b then m ∷ filter (λ i. not (i == k)) ns else filter (λ i. not (i == k)) ns) n ≡ true
        → (is_one_of (filter (λ i. not (i == k)) ns) n ≡ true → ⊥) → ⊥
    go true is among rest = rest among
    go false is among rest = first (m == n) refl among
      where
        first : (b : Bool) → (m == n) ≡ b → (b || is_one_of (filter (λ i. not (i == k)) ns) n) ≡ true → ⊥
        first true eq all = let e : false ≡ true = sym is ∙ eq-eqb m k (eqb-true m n eq ∙ same) in absurd cc
        first false eq all = rest all

without_other : (number : Option ℕ) (ns : List ℕ) (n : ℕ) → is_one_of (without number ns) n ≡ true → number ≢ Some n
without_other None ns n among same = let e = same in absurd cc
without_other (Some k) ns n among same = left_other ns k n among (sym (some_same k n same))

-- ---- a message

module _ (p : PolicyState) where
  pub passed_ended : (side : Side) (k k' : Known) (q rest : Queue) (x : Passage) → IsPassed p side k q x k' rest → AreOnce k.objects k.ended → AreOnce k'.objects k'.ended
  passed_ended side k k' q rest x passed ended =
      subst (λ (ns : List ℕ). AreOnce k'.objects ns) (sym passed.ended) (go side x.fate passed.reads.0.0 passed.judged passed.noted)
    where
      same : k'.objects ≡ k.objects → AreOnce k'.objects k.ended
      same is = subst (λ (o : Store (Unit {0})). AreOnce o k.ended) (sym is) ended

      go : (side : Side) (f : Fate) → held k.objects passed.message.sender ≡ Some passed.object
          → Judges p side k.told k.ended passed.object passed.row passed.message (length_of q.bytes) (Ok f) k'.told
          → NotesUnder p.table side passed.object passed.row passed.message f k.objects None k'.objects → AreOnce k'.objects (ended_after side passed.object.interface passed.row passed.message f k.ended)
      go Client fate.HandOn is judged notes = by_end passed.row.is_destructor
        where
          still : (n : ℕ) → HoldsStill k.objects k'.objects n
          still n = still_noted p.table Client passed.object passed.row passed.message k.objects k'.objects n (λ wrong. let e : false ≡ true = wrong in absurd cc) notes

          stays : AreOnce k'.objects k.ended
          stays = ended_still k.objects k'.objects k.ended (λ n among. still n) ended

          by_end : (b : Bool) → AreOnce k'.objects (if b then k.ended ++ passed.message.sender ∷ [] else k.ended)
          by_end true = let y = still passed.message.sender passed.object is in ended_more k'.objects k.ended passed.message.sender y.0 y.1 judged.0.0.alive stays
          by_end false = stays
      go Server fate.HandOn is judged notes =
          ended_still k.objects k'.objects (without (renewed passed.object.interface passed.message) k.ended)
          (λ n among. still_noted p.table Server passed.object passed.row passed.message k.objects k'.objects n (λ deleted. other n deleted among) notes)
          (ended_without k.objects (renewed passed.object.interface passed.message) k.ended ended)
        where
          other : (n : ℕ) → is_deletion Server passed.object.interface passed.message.opcode ≡ true → is_one_of (without (renewed passed.object.interface passed.message) k.ended) n ≡ true → deleted_number passed.message.args ≢ Some n
          other n deleted among =
              without_other (deleted_number passed.message.args) k.ended n
              (subst (λ (b : Bool). is_one_of (without (if b then deleted_number passed.message.args else new_number passed.message.args) k.ended) n ≡ true) deleted among)
      go Client fate.Drop is judged notes = same notes.1
      go Server fate.Drop is judged notes = same notes.1
      go Client (fate.Lower version) is judged notes = same notes.1
      go Server (fate.Lower version) is judged notes = same notes.1
