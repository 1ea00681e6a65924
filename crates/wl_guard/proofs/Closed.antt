-- That the objects stay within the policy's closure, and that nothing is kept beyond the limits.
use Rattle.std.specs.Prelude.{◌≡◌, ℕ, suc, ◌+◌, ◌-◌, ◌≤◌, ◌<◌, ◌⊎◌, ◌==◌, ◌&&◌, ◌||◌, Bool, true, false, nat_le, nat_lt, List, [], ◌∷◌, length, Option, None, Some, Result, Ok, Err, MatchBool, MatchOption, is_some, if◌then◌else◌}
use Rattle.std.proofs.Common.{ap, arith, inl, inr, refl, subst, sym, ◌∙◌}
use Rattle.std.proofs.lemmas.Bool.{eqb-true}
use Rattle.std.proofs.lemmas.Bool.Decides.{nat_tests}
use Rattle.wl_wire.specs.declared.argument.Argument.TheVariants as arg
use Rattle.wl_wire.specs.declared.interface.InterfaceId.{InterfaceId}
use Rattle.wl_wire.specs.Argument.{WireArgument}
use Rattle.wl_wire.specs.Message.{WireMessage}
use Rattle.wl_wire.specs.Parse.{length_of}
use Rattle.wl_wire.specs.Table.{MessageRow}
use Rattle.wl_link.specs.declared.object.Object.{Object}
use Rattle.wl_link.specs.Exchange.{Queue}
use Rattle.wl_link.specs.Store.{Store, client_range, empty_store, held, server_range}
use Rattle.wl_link.proofs.Ids.StoreLaws.{held_empty}
use Rattle.wl_follow.specs.Fronts.{row_at}
use Rattle.wl_follow.specs.Objects.{IsBound, first_objects, is_bind, is_own, new_number, object_of}
use Rattle.wl_follow.specs.Objects as noted
use Rattle.wl_follow.specs.declared.side.Side.{Side}
use Rattle.wl_follow.specs.declared.side.Side.TheVariants.{Client, Server}
use Rattle.wl_guard.specs.Closure.{AreBelow, AreWithin, IsBounded, IsClosed}
use Rattle.wl_guard.specs.Events.{Announces, JudgesEvent, Shows, TellsOf, announcement_of, fate_of_removal}
use Rattle.wl_guard.specs.Known.{Known, has_place, is_beyond, nothing_known, told_of, with_told}
use Rattle.wl_guard.specs.Passages.{IsPassed, Judges, NotesUnder, Passage, Passes}
use Rattle.wl_guard.specs.Policy.{PolicyState, lists}
use Rattle.wl_guard.specs.Requests.{BindIsAllowed, BindsTold, bind_of, fate_of_request}
use Rattle.wl_guard.specs.declared.session.Fate.{Fate}
use Rattle.wl_guard.specs.declared.session.Fate.TheVariants as fate
use Rattle.wl_guard.specs.declared.session.Rule.{Rule}
use Rattle.wl_guard.specs.declared.session.Rule.TheVariants as rule
use Rattle.wl_guard.specs.declared.session.Told.{Told}
use Rattle.wl_guard.proofs.Ended.{passed_ended}
use Rattle.wl_guard.proofs.Noted.{Makes, all_noted, all_stored, some_same}

none_held : (n : ℕ) (y : Object (Unit {0})) → held (empty_store {D = Unit {0}}) n ≡ Some y → ⊥
none_held n y is = let e : ◌≡◌ {A = Option (Object (Unit {0}))} None (Some y) = sym (held_empty {D = Unit {0}} n) ∙ is in absurd cc

-- ---- a bind's arguments, as they are noted and as they are judged

same_name : (args : List WireArgument) (x : ℕ × (List ℕ × ℕ)) (b : List ℕ × (ℕ × ℕ)) → bind_of args ≡ Some x → noted.bind_of args ≡ Some b → x.1.0 ≡ b.0
same_name (arg.Uint number ∷ arg.Str (Some name) ∷ arg.Uint version ∷ arg.NewId new ∷ []) x b one two =
    sym (ap (λ (y : ℕ × (List ℕ × ℕ)). y.1.0) (some_same {A = ℕ × (List ℕ × ℕ)} (number, (name, version)) x one))
    ∙ ap (λ (y : List ℕ × (ℕ × ℕ)). y.0) (some_same {A = List ℕ × (ℕ × ℕ)} (name, (version, new)) b two)
same_name _ x b one two = absurd cc

new_of : (args : List WireArgument) (x : ℕ × (List ℕ × ℕ)) (b : List ℕ × (ℕ × ℕ)) → bind_of args ≡ Some x → noted.bind_of args ≡ Some b → new_number args ≡ Some b.1.1
new_of (arg.Uint number ∷ arg.Str (Some name) ∷ arg.Uint version ∷ arg.NewId new ∷ []) x b one two =
    ap (λ (y : List ℕ × (ℕ × ℕ)). Some y.1.1) (some_same {A = List ℕ × (ℕ × ℕ)} (name, (version, new)) b two)
new_of _ x b one two = absurd cc

-- a bind that is allowed has the arguments of one
bind_is : (p : PolicyState) (told : List Told) (args : List WireArgument) → BindIsAllowed p told args
    → (x : ℕ × (List ℕ × ℕ)) × (bind_of args ≡ Some x) × BindsTold p told x.0 x.1.0 x.1.1
bind_is p told args allowed = go (bind_of args) refl allowed
  where
    go : (o : Option (ℕ × (List ℕ × ℕ))) → bind_of args ≡ o → MatchOption o ⊥ (λ b. BindsTold p told b.0 b.1.0 b.1.1)
        → (x : ℕ × (List ℕ × ℕ)) × (bind_of args ≡ Some x) × BindsTold p told x.0 x.1.0 x.1.1
    go None is wrong = absurd wrong
    go (Some x) is so = (x, is, so)

is_registry : (interface : InterfaceId) → is_bind Client interface ≡ true → interface.0 ≡ 2
is_registry interface so_it_is = eqb-true interface.0 2 so_it_is

-- one that is handed on is not ignored
not_ignored : (p : PolicyState) (interface : InterfaceId) (opcode : ℕ) → fate.HandOn ≡ fate_of_request p interface opcode → lists p.ignored interface opcode ≡ false
not_ignored p interface opcode is = go (lists p.ignored interface opcode) refl
  where
    go : (b : Bool) → lists p.ignored interface opcode ≡ b → lists p.ignored interface opcode ≡ false
    go true so_it_is = let e : fate.HandOn ≡ fate.Drop = is ∙ ap (λ (b : Bool). if b then fate.Drop else fate.HandOn) so_it_is in absurd cc
    go false not_so = not_so

-- an event that goes on makes no object beyond the limit
pub event_below : (p : PolicyState) (told told' : List Told) (object : Object (Unit {0})) (m : WireMessage) (f : Fate) → JudgesEvent p told object m (Ok f) told'
    → (is_beyond p.limits Server (new_number m.args) ≡ false) × TellsOf p told object.interface m (Ok f) told'
event_below p told told' object m f judged = go (is_beyond p.limits Server (new_number m.args)) refl judged
  where
    go : (b : Bool) → is_beyond p.limits Server (new_number m.args) ≡ b
        → MatchBool b ((◌≡◌ {A = Result Fate Rule} (Ok f) (Err rule.Objects)) × (told' ≡ told)) (TellsOf p told object.interface m (Ok f) told')
        → (is_beyond p.limits Server (new_number m.args) ≡ false) × TellsOf p told object.interface m (Ok f) told'
    go true is wrong = let e = wrong.0 in absurd cc
    go false is tells = (is, tells)

module _ (p : PolicyState) where
  -- ---- the closure

  module _ (set : InterfaceId → Bool) (closed : IsClosed p set) where
    made_within : (side : Side) (told told' : List Told) (ended : List ℕ) (object : Object (Unit {0})) (row : MessageRow) (m : WireMessage) (len number : ℕ) (i : InterfaceId)
        → set object.interface ≡ true → row_at p.table side object.interface m.opcode ≡ Some row → Judges p side told ended object row m len (Ok fate.HandOn) told'
        → Makes p.table side object row m number i → set i ≡ true
    made_within Client told told' ended object row m len number i here at judged (own, inl (so_it_is, (b, is, number_is, inl known))) =
        let bind = bind_is p told m.args (judged.0.0.bind (is_registry object.interface so_it_is)) in
        let so = bind.2 in
        closed.globals i so.last.interface (known.1 ∙ sym (same_name m.args bind.0 b bind.1 is) ∙ sym so.named)
        (let a = so.some in let w = so.within_policy in omega (arith, a, w))
    made_within Client told told' ended object row m len number i here at judged (own, inl (so_it_is, (b, is, number_is, inr lacks))) = let e = lacks.1 in absurd cc
    made_within Client told told' ended object row m len number i here at judged (own, inr (not_so, child, number_is)) =
        closed.requests object.interface i m.opcode row here at judged.0.0.unrefused (not_ignored p object.interface m.opcode judged.0.1) child
    made_within Server told told' ended object row m len number i here at judged (own, inl (so_it_is, bound)) = let e = so_it_is in absurd cc
    made_within Server told told' ended object row m len number i here at judged (own, inr (not_so, child, number_is)) =
        closed.events object.interface i m.opcode row here at child

    passed_within : (side : Side) (k k' : Known) (q rest : Queue) (x : Passage) → IsPassed p side k q x k' rest → AreWithin set k.objects → AreWithin set k'.objects
    passed_within side k k' q rest x passed all = go x.fate passed.judged passed.noted
      where
        go : (f : Fate) → Judges p side k.told k.ended passed.object passed.row passed.message (length_of q.bytes) (Ok f) k'.told
            → NotesUnder p.table side passed.object passed.row passed.message f k.objects None k'.objects → AreWithin set k'.objects
        go fate.HandOn judged notes =
            all_noted (λ n y. set y.interface ≡ true) p.table side passed.object passed.row passed.message k.objects k'.objects all
            (λ number i version makes. made_within side k.told k'.told k.ended passed.object passed.row passed.message (length_of q.bytes) number i
            (all passed.message.sender passed.object passed.reads.0.0) passed.reads.0.1 judged makes)
            notes
        go fate.Drop judged same = subst (λ (s : Store (Unit {0})). AreWithin set s) (sym same.1) all
        go (fate.Lower version) judged same = subst (λ (s : Store (Unit {0})). AreWithin set s) (sym same.1) all

    pub passes_within : (side : Side) (xs : List Passage) (k k' : Known) (q rest : Queue) → Passes p side k q xs k' rest → AreWithin set k.objects → AreWithin set k'.objects
    passes_within side [] k k' q rest none all = subst (λ (s : Known). AreWithin set s.objects) (sym none.0) all
    passes_within side (x ∷ xs) k k' q rest some all =
        passes_within side xs some.0 k' some.1 rest some.3 (passed_within side k some.0 q some.1 x some.2 all)

    pub first_within : AreWithin set nothing_known.objects
    first_within =
        all_stored (λ n y. set y.interface ≡ true) empty_store 1 (object_of (record { 0 = 1 }) 1) (λ n y is. absurd (none_held n y is)) closed.display

  -- ---- the limits

  below_of : (side : Side) (n : ℕ) → is_own side n ≡ true → is_beyond p.limits side (Some n) ≡ false
      → (n ≡ 1) ⊎ (n < p.limits.objects) ⊎ ((server_range.first ≤ n) × (n < server_range.first + p.limits.objects))
  below_of Client n own within = go (nat_lt n client_range.end) (nat_le p.limits.objects n) own refl within
    where
      go : (a b : Bool) → a ≡ true → nat_le p.limits.objects n ≡ b → (a && b) ≡ false
          → (n ≡ 1) ⊎ (n < p.limits.objects) ⊎ ((server_range.first ≤ n) × (n < server_range.first + p.limits.objects))
      go true true so_it_is is not_so = let e : true ≡ false = not_so in absurd cc
      go true false so_it_is is not_so = inr (inl (grind (arith, nat_tests, is)))
      go false b so_it_is is not_so = let e : false ≡ true = so_it_is in absurd cc
  below_of Server n own within = go (nat_le server_range.first n) (nat_le p.limits.objects (n - server_range.first)) refl refl own within
    where
      go : (a b : Bool) → nat_le server_range.first n ≡ a → nat_le p.limits.objects (n - server_range.first) ≡ b → a ≡ true → (a && b) ≡ false
          → (n ≡ 1) ⊎ (n < p.limits.objects) ⊎ ((server_range.first ≤ n) × (n < server_range.first + p.limits.objects))
      go true true one two so_it_is not_so = let e : true ≡ false = not_so in absurd cc
      go true false one two so_it_is not_so =
          let first : server_range.first ≤ n = grind (arith, nat_tests, one) in
          let few : n - server_range.first < p.limits.objects = grind (arith, nat_tests, two) in
          inr (inr (first, omega (arith, first, few)))
      go false b one two so_it_is not_so = let e : false ≡ true = so_it_is in absurd cc

  made_below : (side : Side) (told told' : List Told) (ended : List ℕ) (object : Object (Unit {0})) (row : MessageRow) (m : WireMessage) (len number : ℕ) (i : InterfaceId)
      → Judges p side told ended object row m len (Ok fate.HandOn) told' → Makes p.table side object row m number i
      → (number ≡ 1) ⊎ (number < p.limits.objects) ⊎ ((server_range.first ≤ number) × (number < server_range.first + p.limits.objects))
  made_below Client told told' ended object row m len number i judged (own, inl (so_it_is, (b, is, number_is, known))) =
      let bind = bind_is p told m.args (judged.0.0.bind (is_registry object.interface so_it_is)) in
      let new : new_number m.args ≡ Some number = new_of m.args bind.0 b bind.1 is ∙ ap (λ (n : ℕ). Some n) number_is in
      below_of Client number own (ap (λ (n : Option ℕ). is_beyond p.limits Client n) (sym new) ∙ judged.0.0.within)
  made_below Client told told' ended object row m len number i judged (own, inr (not_so, child, new)) =
      below_of Client number own (ap (λ (n : Option ℕ). is_beyond p.limits Client n) (sym new) ∙ judged.0.0.within)
  made_below Server told told' ended object row m len number i judged (own, inl (so_it_is, bound)) = let e = so_it_is in absurd cc
  made_below Server told told' ended object row m len number i judged (own, inr (not_so, child, new)) =
      below_of Server number own (ap (λ (n : Option ℕ). is_beyond p.limits Server n) (sym new) ∙ (event_below p told told' object m fate.HandOn judged).0)

  -- how many announcements are remembered with one more
  told_length : (told : List Told) (t : Told) → length (with_told told t) ≡ (if is_some (told_of told t.number) then length told else length told + 1)
  told_length [] t = refl
  told_length (s ∷ ts) t = go (s.number == t.number) (told_length ts t)
    where
      more : (b : Bool) → suc (if b then length ts else length ts + 1) ≡ (if b then suc (length ts) else suc (length ts) + 1)
      more true = refl
      more false = omega arith

      go : (b : Bool) → length (with_told ts t) ≡ (if is_some (told_of ts t.number) then length ts else length ts + 1)
          → length (if b then t ∷ ts else s ∷ with_told ts t) ≡ (if is_some (if b then Some s else told_of ts t.number) then suc (length ts) else suc (length ts) + 1)
      go true one = refl
      go false one = ap (λ (n : ℕ). suc n) one ∙ more (is_some (told_of ts t.number))

  told_bound : (told : List Told) (t : Told) → has_place p.limits told t.number ≡ true → length told ≤ p.limits.globals → length (with_told told t) ≤ p.limits.globals
  told_bound told t place few = go (is_some (told_of told t.number)) (nat_lt (length told) p.limits.globals) refl place (told_length told t)
    where
      go : (a b : Bool) → nat_lt (length told) p.limits.globals ≡ b → (a || b) ≡ true → length (with_told told t) ≡ (if a then length told else length told + 1)
          → length (with_told told t) ≤ p.limits.globals
      go true b is so_it_is same = let e : length (with_told told t) ≡ length told = same in omega (arith, e, few)
      go false true is so_it_is one =
          let room : length told < p.limits.globals = grind (arith, nat_tests, is) in
          let e : length (with_told told t) ≡ length told + 1 = one in omega (arith, e, room)
      go false false is so_it_is one = let e : false ≡ true = so_it_is in absurd cc

  shown_number : (number : ℕ) (name : List ℕ) (version : ℕ) (f : Fate) (t : Told) → Shows p number name version f t → t.number ≡ number
  shown_number number name version fate.HandOn t shows = ap (λ (x : Told). x.number) shows.4
  shown_number number name version fate.Drop t shows = ap (λ (x : Told). x.number) shows.1
  shown_number number name version (fate.Lower most) t shows = ap (λ (x : Told). x.number) shows.3

  announced_bound : (told told' : List Told) (number : ℕ) (name : List ℕ) (version : ℕ) (f : Fate) → Announces p told number name version (Ok f) told'
      → length told ≤ p.limits.globals → length told' ≤ p.limits.globals
  announced_bound told told' number name version f (place, (t, shows, is)) few =
      let same = shown_number number name version f t shows in
      subst (λ (ts : List Told). length ts ≤ p.limits.globals) (sym is)
      (told_bound told t (ap (λ (n : ℕ). has_place p.limits told n) same ∙ place) few)

  tells_bound : (told told' : List Told) (interface : InterfaceId) (m : WireMessage) (f : Fate) → TellsOf p told interface m (Ok f) told'
      → length told ≤ p.limits.globals → length told' ≤ p.limits.globals
  tells_bound told told' interface m f tells few = by_global (interface.0 == 2 && m.opcode == 0) tells
    where
      same : told' ≡ told → length told' ≤ p.limits.globals
      same is = subst (λ (ts : List Told). length ts ≤ p.limits.globals) (sym is) few

      by_args : (g : Option (ℕ × (List ℕ × ℕ)))
          → MatchOption g ((◌≡◌ {A = Result Fate Rule} (Ok f) (Ok fate.Drop)) × (told' ≡ told)) (λ g. Announces p told g.0 g.1.0 g.1.1 (Ok f) told') → length told' ≤ p.limits.globals
      by_args None none = same none.1
      by_args (Some g) announces = announced_bound told told' g.0 g.1.0 g.1.1 f announces few

      by_removal : (b : Bool)
          → MatchBool b ((◌≡◌ {A = Result Fate Rule} (Ok f) (Ok (fate_of_removal told m.args))) × (told' ≡ told)) ((◌≡◌ {A = Result Fate Rule} (Ok f) (Ok fate.HandOn)) × (told' ≡ told))
          → length told' ≤ p.limits.globals
      by_removal true is = same is.1
      by_removal false is = same is.1

      by_global : (b : Bool)
          → MatchBool b
          (MatchOption (announcement_of m.args) ((◌≡◌ {A = Result Fate Rule} (Ok f) (Ok fate.Drop)) × (told' ≡ told)) (λ g. Announces p told g.0 g.1.0 g.1.1 (Ok f) told'))
          (MatchBool (interface.0 == 2 && m.opcode == 1) ((◌≡◌ {A = Result Fate Rule} (Ok f) (Ok (fate_of_removal told m.args))) × (told' ≡ told))
          ((◌≡◌ {A = Result Fate Rule} (Ok f) (Ok fate.HandOn)) × (told' ≡ told)))
          → length told' ≤ p.limits.globals
      by_global true tells = by_args (announcement_of m.args) tells
      by_global false tells = by_removal (interface.0 == 2 && m.opcode == 1) tells

  judged_bound : (side : Side) (told told' : List Told) (ended : List ℕ) (object : Object (Unit {0})) (row : MessageRow) (m : WireMessage) (len : ℕ) (f : Fate)
      → Judges p side told ended object row m len (Ok f) told' → length told ≤ p.limits.globals → length told' ≤ p.limits.globals
  judged_bound Client told told' ended object row m len f judged few = subst (λ (ts : List Told). length ts ≤ p.limits.globals) (sym judged.1) few
  judged_bound Server told told' ended object row m len f judged few = tells_bound told told' object.interface m f (event_below p told told' object m f judged).1 few

  passed_bounded : (side : Side) (k k' : Known) (q rest : Queue) (x : Passage) → IsPassed p side k q x k' rest → IsBounded p k → IsBounded p k'
  passed_bounded side k k' q rest x passed bounded = record {
    objects = go x.fate passed.judged passed.noted;
    globals = judged_bound side k.told k'.told k.ended passed.object passed.row passed.message (length_of q.bytes) x.fate passed.judged bounded.globals;
    ended = passed_ended p side k k' q rest x passed bounded.ended;
  }
    where
      go : (f : Fate) → Judges p side k.told k.ended passed.object passed.row passed.message (length_of q.bytes) (Ok f) k'.told
          → NotesUnder p.table side passed.object passed.row passed.message f k.objects None k'.objects → AreBelow p k'.objects
      go fate.HandOn judged notes =
          all_noted (λ n y. (n ≡ 1) ⊎ (n < p.limits.objects) ⊎ ((server_range.first ≤ n) × (n < server_range.first + p.limits.objects)))
          p.table side passed.object passed.row passed.message k.objects k'.objects bounded.objects
          (λ number i version makes. made_below side k.told k'.told k.ended passed.object passed.row passed.message (length_of q.bytes) number i judged makes)
          notes
      go fate.Drop judged same = subst (λ (s : Store (Unit {0})). AreBelow p s) (sym same.1) bounded.objects
      go (fate.Lower version) judged same = subst (λ (s : Store (Unit {0})). AreBelow p s) (sym same.1) bounded.objects

  pub passes_bounded : (side : Side) (xs : List Passage) (k k' : Known) (q rest : Queue) → Passes p side k q xs k' rest → IsBounded p k → IsBounded p k'
  passes_bounded side [] k k' q rest none bounded = subst (λ (s : Known). IsBounded p s) (sym none.0) bounded
  passes_bounded side (x ∷ xs) k k' q rest some bounded =
      passes_bounded side xs some.0 k' some.1 rest some.3 (passed_bounded side k some.0 q some.1 x some.2 bounded)

  pub first_bounded : IsBounded p nothing_known
  first_bounded = record {
    objects = all_stored (λ n y. (n ≡ 1) ⊎ (n < p.limits.objects) ⊎ ((server_range.first ≤ n) × (n < server_range.first + p.limits.objects))) empty_store 1
        (object_of (record { 0 = 1 }) 1) (λ n y is. absurd (none_held n y is)) (inl refl);
    globals = omega arith;
    ended = tt;
  }
