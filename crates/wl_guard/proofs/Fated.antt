-- What goes on for each message that was passed.
use Rattle.std.specs.Prelude.{◌≡◌, ℕ, ◌≤◌, ◌⊎◌, Bool, true, false, ◌&&◌, ◌==◌, List, [], ◌∷◌, ◌++◌, drop, length, take, Option, None, Some, Result, Ok, MatchBool, MatchOption, if◌then◌else◌}
use Rattle.std.specs.List.{AllByRecursion}
use Rattle.std.proofs.Common.{ap, arith, inl, inr, refl, subst, sym, ◌∙◌}
use Rattle.std.proofs.lemmas.List.{length-take-le, take-append-drop}
use Rattle.wl_wire.specs.declared.argument.Argument.TheVariants as arg
use Rattle.wl_wire.specs.declared.argument.ArgumentType.{ArgumentType}
use Rattle.wl_wire.specs.declared.argument.Token.{Token}
use Rattle.wl_wire.specs.Argument.{WireArgument}
use Rattle.wl_wire.specs.Message.{WireMessage}
use Rattle.wl_wire.specs.Parse.{ReadsMessage, fd_count, length_of, opcode_of, payload_of, sender_of}
use Rattle.wl_wire.specs.Reading.{Reads}
use Rattle.wl_wire.proofs.Spelling.FrontLaws.{length_front, opcode_front, payload_front, reads_fewer, sender_front}
use Rattle.wl_link.specs.Exchange.{Queue, joined}
use Rattle.wl_link.specs.HandOn.{first_of}
use Rattle.wl_link.proofs.Calls.ReadLaws.{reads_enough}
use Rattle.wl_follow.specs.declared.side.Side.{Side}
use Rattle.wl_follow.specs.declared.side.Side.TheVariants.{Client, Server}
use Rattle.wl_guard.specs.Events.{Announces, Shows, announcement_of, fate_of_removal, is_shown}
use Rattle.wl_guard.specs.Fates.{GoesBack, GoesLowered, GoesOn, IsAnnounced, IsEvent, IsMessageOf, IsRequest}
use Rattle.wl_guard.specs.Guard.{GuardState}
use Rattle.wl_guard.specs.Known.{Known, told_of}
use Rattle.wl_guard.specs.Passages.{IsPassed, Passage, Passes, released_for, sent_for}
use Rattle.wl_guard.specs.Policy.{PolicyState, lists}
use Rattle.wl_guard.specs.Runs.{Call, Came, GaveBack, HungUp, Leads, WasSent, all_passed}
use Rattle.wl_guard.specs.declared.session.Fate.{Fate}
use Rattle.wl_guard.specs.declared.session.Fate.TheVariants as fate
use Rattle.wl_guard.specs.declared.session.Rule.{Rule}
use Rattle.wl_guard.specs.declared.session.Told.{Told}
use Rattle.wl_guard.proofs.Closed.{event_below}
use Rattle.wl_guard.proofs.Long.{ok_same}

both : {A : Type 0} (P : A → Type 0) (xs ys : List A) → AllByRecursion P xs → AllByRecursion P ys → AllByRecursion P (xs ++ ys)
both P [] ys none more = more
both P (x ∷ xs) ys all more = (all.0, both P xs ys all.1 more)

-- ---- a message alone

-- what is read of more is read of the message alone
alone : (q : Queue) (signature : List ArgumentType) (m : WireMessage) → ReadsMessage q.bytes signature q.tokens m
    → ReadsMessage (first_of signature q).bytes signature (first_of signature q).tokens m
alone q signature m reads = record {
  whole = record {
    header = header;
    counts_header = let a = reads.whole.counts_header in omega (arith, a, long);
    there = omega (arith, long, front_length);
  };
  sender = reads.sender ∙ sym (ap (λ (l : List ℕ). sender_of l) whole) ∙ sender_front (take (length_of q.bytes) q.bytes) (drop (length_of q.bytes) q.bytes) header;
  opcode = reads.opcode ∙ sym (ap (λ (l : List ℕ). opcode_of l) whole) ∙ opcode_front (take (length_of q.bytes) q.bytes) (drop (length_of q.bytes) q.bytes) header;
  args =
      reads_fewer signature m.args (payload_of (take (length_of q.bytes) q.bytes)) (take (fd_count signature) q.tokens) (drop (fd_count signature) q.tokens) (let a = few in omega (arith, a))
      (subst (λ (ts : List Token). Reads signature m.args (payload_of (take (length_of q.bytes) q.bytes)) ts) (sym (take-append-drop (fd_count signature) q.tokens))
      (subst (λ (l : List ℕ). Reads signature m.args l q.tokens) payload reads.args));
}
  where
    whole : (take (length_of q.bytes) q.bytes) ++ (drop (length_of q.bytes) q.bytes) ≡ q.bytes
    whole = take-append-drop (length_of q.bytes) q.bytes

    front_length : length (take (length_of q.bytes) q.bytes) ≡ length_of q.bytes
    front_length = length-take-le (length_of q.bytes) q.bytes reads.whole.there

    header : 8 ≤ length (take (length_of q.bytes) q.bytes)
    header = let a = reads.whole.counts_header in omega (arith, a, front_length)

    long : length_of (take (length_of q.bytes) q.bytes) ≡ length_of q.bytes
    long = sym (length_front (take (length_of q.bytes) q.bytes) (drop (length_of q.bytes) q.bytes) header) ∙ ap (λ (l : List ℕ). length_of l) whole

    payload : payload_of q.bytes ≡ payload_of (take (length_of q.bytes) q.bytes)
    payload = sym (ap (λ (l : List ℕ). payload_of l) whole) ∙ payload_front (take (length_of q.bytes) q.bytes) (drop (length_of q.bytes) q.bytes) header (omega (arith, long, front_length))

    few : length (take (fd_count signature) q.tokens) ≡ (fd_count signature)
    few = length-take-le (fd_count signature) q.tokens (reads_enough signature m.args (payload_of q.bytes) q.tokens reads.args)

-- ---- what becomes of it

-- a removal goes on, or is dropped
removal_goes : (told : List Told) (args : List WireArgument) (f : Fate) → f ≡ fate_of_removal told args → (f ≡ fate.HandOn) ⊎ (f ≡ fate.Drop)
removal_goes told (arg.Uint number ∷ []) f is = go (is_shown (told_of told number)) is
  where
    go : (b : Bool) → f ≡ (if b then fate.HandOn else fate.Drop) → (f ≡ fate.HandOn) ⊎ (f ≡ fate.Drop)
    go true on = inl on
    go false back = inr back
removal_goes told _ f is = inr is

module _ (p : PolicyState) where
  module _ (side : Side) (k k' : Known) (q rest : Queue) (x : Passage) (passed : IsPassed p side k q x k' rest) where
    is_message : IsMessageOf p side x passed.object passed.row passed.message
    is_message = record {
      known = passed.reads.0.1;
      reads = subst (λ (y : Queue). ReadsMessage y.bytes passed.row.signature y.tokens passed.message) (sym passed.piece) (alone q passed.row.signature passed.message passed.reads.1);
    }

    goes_on : x.fate ≡ fate.HandOn → GoesOn x
    goes_on is = (
      passed.sent ∙ ap (λ (f : Fate). sent_for f passed.row.signature q passed.message) is ∙ sym passed.piece,
      passed.released ∙ ap (λ (f : Fate). released_for f passed.row.signature q) is,
    )

    goes_back : x.fate ≡ fate.Drop → GoesBack x
    goes_back is = (
      passed.sent ∙ ap (λ (f : Fate). sent_for f passed.row.signature q passed.message) is,
      passed.released ∙ ap (λ (f : Fate). released_for f passed.row.signature q) is ∙ sym (ap (λ (y : Queue). y.tokens) passed.piece),
    )

    goes_lowered : (version : ℕ) → x.fate ≡ fate.Lower version → GoesLowered x passed.message version
    goes_lowered version is = (
      passed.sent ∙ ap (λ (f : Fate). sent_for f passed.row.signature q passed.message) is,
      passed.released ∙ ap (λ (f : Fate). released_for f passed.row.signature q) is ∙ sym (ap (λ (y : Queue). y.tokens) passed.piece),
    )

    -- as many bytes as the header says
    piece_length : length x.piece.bytes ≡ length_of q.bytes
    piece_length = ap (λ (y : Queue). length y.bytes) passed.piece ∙ length-take-le (length_of q.bytes) q.bytes passed.reads.1.whole.there

  is_request : (k k' : Known) (q rest : Queue) (x : Passage) → IsPassed p Client k q x k' rest → IsRequest p x
  is_request k k' q rest x passed =
      let allowed = passed.judged.0.0 in record {
        object = passed.object;
        row = passed.row;
        message = passed.message;
        is = is_message Client k k' q rest x passed;
        exact = piece_length Client k k' q rest x passed ∙ allowed.exact;
        since = allowed.since;
        unrefused = allowed.unrefused;
        goes = go (lists p.ignored passed.object.interface passed.message.opcode) passed.judged.0.1;
      }
    where
      go : (b : Bool) → x.fate ≡ (if b then fate.Drop else fate.HandOn) → MatchBool b (GoesBack x) (GoesOn x)
      go true is = goes_back Client k k' q rest x passed is
      go false is = goes_on Client k k' q rest x passed is

  is_event : (k k' : Known) (q rest : Queue) (x : Passage) → IsPassed p Server k q x k' rest → IsEvent p x
  is_event k k' q rest x passed = record {
    object = passed.object;
    row = passed.row;
    message = passed.message;
    is = is_message Server k k' q rest x passed;
    goes = by_global (passed.object.interface.0 == 2 && passed.message.opcode == 0) (event_below p k.told k'.told passed.object passed.message x.fate passed.judged).1;
  }
    where
      -- an announcement
      shown : (f : Fate) (number : ℕ) (name : List ℕ) (version : ℕ) (t : Told) → x.fate ≡ f → Shows p number name version f t → IsAnnounced p x passed.message name version
      shown fate.HandOn number name version t is shows =
          inr (shows.0, shows.1, shows.2, inl (shows.3, goes_on Server k k' q rest x passed is))
      shown fate.Drop number name version t is shows = inl (shows.0, goes_back Server k k' q rest x passed is)
      shown (fate.Lower most) number name version t is shows =
          inr (shows.0, most, shows.1, inr (shows.2, goes_lowered Server k k' q rest x passed most is))

      by_args : (o : Option (ℕ × (List ℕ × ℕ)))
          → MatchOption o ((◌≡◌ {A = Result Fate Rule} (Ok x.fate) (Ok fate.Drop)) × (k'.told ≡ k.told)) (λ g. Announces p k.told g.0 g.1.0 g.1.1 (Ok x.fate) k'.told)
          → MatchOption o (GoesBack x) (λ g. IsAnnounced p x passed.message g.1.0 g.1.1)
      by_args None none = goes_back Server k k' q rest x passed (ok_same x.fate fate.Drop none.0)
      by_args (Some g) (place, (t, shows, is)) = shown x.fate g.0 g.1.0 g.1.1 t refl shows

      -- a removal
      on_or_back : (x.fate ≡ fate.HandOn) ⊎ (x.fate ≡ fate.Drop) → GoesOn x ⊎ GoesBack x
      on_or_back (inl on) = inl (goes_on Server k k' q rest x passed on)
      on_or_back (inr back) = inr (goes_back Server k k' q rest x passed back)

      by_removal : (b : Bool)
          → MatchBool b ((◌≡◌ {A = Result Fate Rule} (Ok x.fate) (Ok (fate_of_removal k.told passed.message.args))) × (k'.told ≡ k.told))
          ((◌≡◌ {A = Result Fate Rule} (Ok x.fate) (Ok fate.HandOn)) × (k'.told ≡ k.told))
          → MatchBool b (GoesOn x ⊎ GoesBack x) (GoesOn x)
      by_removal true is = on_or_back (removal_goes k.told passed.message.args x.fate (ok_same x.fate (fate_of_removal k.told passed.message.args) is.0))
      by_removal false is = goes_on Server k k' q rest x passed (ok_same x.fate fate.HandOn is.0)

      by_global : (b : Bool)
          → MatchBool b
          (MatchOption (announcement_of passed.message.args) ((◌≡◌ {A = Result Fate Rule} (Ok x.fate) (Ok fate.Drop)) × (k'.told ≡ k.told)) (λ g. Announces p k.told g.0 g.1.0 g.1.1 (Ok x.fate) k'.told))
          (MatchBool (passed.object.interface.0 == 2 && passed.message.opcode == 1) ((◌≡◌ {A = Result Fate Rule} (Ok x.fate) (Ok (fate_of_removal k.told passed.message.args))) × (k'.told ≡ k.told))
          ((◌≡◌ {A = Result Fate Rule} (Ok x.fate) (Ok fate.HandOn)) × (k'.told ≡ k.told)))
          → MatchBool b (MatchOption (announcement_of passed.message.args) (GoesBack x) (λ g. IsAnnounced p x passed.message g.1.0 g.1.1))
          (MatchBool (passed.object.interface.0 == 2 && passed.message.opcode == 1) (GoesOn x ⊎ GoesBack x) (GoesOn x))
      by_global true tells = by_args (announcement_of passed.message.args) tells
      by_global false tells = by_removal (passed.object.interface.0 == 2 && passed.message.opcode == 1) tells

  -- ---- over calls

  requests : (xs : List Passage) (k k' : Known) (q rest : Queue) → Passes p Client k q xs k' rest → AllByRecursion (IsRequest p) xs
  requests [] k k' q rest none = tt
  requests (x ∷ xs) k k' q rest some = (is_request k some.0 q some.1 x some.2, requests xs some.0 k' some.1 rest some.3)

  events : (xs : List Passage) (k k' : Known) (q rest : Queue) → Passes p Server k q xs k' rest → AllByRecursion (IsEvent p) xs
  events [] k k' q rest none = tt
  events (x ∷ xs) k k' q rest some = (is_event k some.0 q some.1 x some.2, events xs some.0 k' some.1 rest some.3)

  pub all_requests : (calls : List Call) (before after : GuardState) → Leads p before calls after → AllByRecursion (IsRequest p) (all_passed Client calls)
  all_requests [] before after is = tt
  all_requests (Came Client came passages ∷ calls) before after (mid, (arrives, is), more) =
      both (IsRequest p) passages (all_passed Client calls)
      (subst (λ (xs : List Passage). AllByRecursion (IsRequest p) xs) is (requests arrives.at.passages before.known arrives.at.last (joined before.from_client came) mid.from_client arrives.at.passes))
      (all_requests calls mid after more)
  all_requests (Came Server came passages ∷ calls) before after (mid, one, more) = all_requests calls mid after more
  all_requests (WasSent side out ∷ calls) before after (mid, one, more) = all_requests calls mid after more
  all_requests (GaveBack t ∷ calls) before after (mid, one, more) = all_requests calls mid after more
  all_requests (HungUp ∷ calls) before after (mid, one, more) = all_requests calls mid after more

  pub all_events : (calls : List Call) (before after : GuardState) → Leads p before calls after → AllByRecursion (IsEvent p) (all_passed Server calls)
  all_events [] before after is = tt
  all_events (Came Server came passages ∷ calls) before after (mid, (arrives, is), more) =
      both (IsEvent p) passages (all_passed Server calls)
      (subst (λ (xs : List Passage). AllByRecursion (IsEvent p) xs) is (events arrives.at.passages before.known arrives.at.last (joined before.from_server came) mid.from_server arrives.at.passes))
      (all_events calls mid after more)
  all_events (Came Client came passages ∷ calls) before after (mid, one, more) = all_events calls mid after more
  all_events (WasSent side out ∷ calls) before after (mid, one, more) = all_events calls mid after more
  all_events (GaveBack t ∷ calls) before after (mid, one, more) = all_events calls mid after more
  all_events (HungUp ∷ calls) before after (mid, one, more) = all_events calls mid after more
