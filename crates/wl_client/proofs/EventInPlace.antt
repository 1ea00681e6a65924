-- A message that is handled in place is handled as any other.
use Rattle.std.proofs.Common.{◌≡◌, ◌≢◌, ◌≤◌, ◌∙◌, ◌+◌, ◌-◌, ◌++◌, ℕ, arith, ◌==◌, Bool, cond, false, List, [], ◌∷◌, append-nil, append_assoc, drop, take, length, Option, None, Some, is_some, option_map, Ok, MatchOption, refl, sym, ap, ap₂, subst, true≢false}
use Rattle.std.proofs.Math.Path.{subst₂}
use mathlib.Core.Logic.{inr}
use Rattle.std.proofs.lemmas.Bool.{eq-eqb, le-leb, ne_eqb}
use Rattle.std.proofs.lemmas.List.{length-drop, take-append-drop, take_all}
use Rattle.std.specs.Int.{w32, cast_signed}
use Rattle.std.specs.Prelude.{IfSome, fold}
use Rattle.wl_wire.specs.declared.argument.Argument.{Argument}
use Rattle.wl_wire.specs.declared.argument.Argument.TheVariants as arg
use Rattle.wl_wire.specs.declared.argument.ArgumentType.{ArgumentType}
use Rattle.wl_wire.specs.declared.argument.ArgumentType.TheVariants as kind
use Rattle.wl_wire.specs.declared.argument.Token.{Token}
use Rattle.wl_wire.specs.declared.message.Message.{Message}
use Rattle.wl_wire.specs.Argument.{WireArgument}
use Rattle.wl_wire.specs.Message.{WireMessage, token}
use Rattle.wl_wire.specs.Parse.{IsWhole, fd_count, is_fd, length_of, opcode_of, payload_of, sender_of}
use Rattle.wl_wire.specs.Reading.{IsPiece, IsWord, Reads}
use Rattle.wl_wire.specs.Table.{InterfaceRow, MessageRow}
use Rattle.wl_link.specs.Exchange.{Queue}
use Rattle.wl_link.specs.Link.{LinkState, after_first, with_incoming}
use Rattle.wl_link.specs.Store.{Store, held}
use Rattle.wl_client.specs.declared.event.OpenEvent.{OpenEvent}
use Rattle.wl_client.specs.declared.objects.Kept.{Kept}
use Rattle.wl_client.specs.Events.{Converted, Converting, Whole, convert, convert_one, going_on, start, deleted, display_event}
use Rattle.wl_client.specs.Freeing.{deleted_number, destroyed_at, destroyed_id, first_new_id, freed_as, freed_by, frees, with_freed}
use Rattle.wl_client.specs.Handling.{Handling, HandsOut, handling_by, is_passed_over, row_in, signature_in}
use Rattle.wl_client.specs.ObjectId.{IdParts}
use Rattle.wl_client.specs.Reading.{with_link}
use Rattle.wl_client.specs.Requests.{SessionMessage, session_content}
use Rattle.wl_client.specs.Session.{SessionState, id_at, objects_of}
use Rattle.wl_client.specs.Inside.EventInPlace.{DeleteWaits, NumbersAre, NumbersWait, number_argument}
use Rattle.wl_client.specs.Inside.ReadingLoop.{GaveEvent, HandledOf, HandledTo, HandlesMessage, ReadsIn, WentOn}
use Rattle.wl_client.proofs.Handling.{known_freed, known_handled, known_signature}

abbrev one_uint : List ArgumentType
one_uint = kind.Uint ∷ []

one_word : (raw : List ℕ) (fds : List Token) (n : ℕ) → IsWord n (payload_of raw) → Reads one_uint (arg.Uint n ∷ []) (payload_of raw) fds
unfolding Reads IsPiece
one_word raw fds n word = (payload_of raw, [], fds, sym (append-nil (payload_of raw)), refl, word, tt)

-- the link without the message at its front
abbrev pub taken : {T : Type 0} → LinkState T → LinkState T
taken l = with_incoming l l.transport (after_first [] l.incoming)

module _ {T U : Type 0} (table : List InterfaceRow) (store : Store (Kept U)) (link : LinkState T) where
  abbrev bytes : List ℕ
  bytes = link.incoming.bytes

  -- what the word after the header shows
  pub waits_if : (row : MessageRow) → Some row ≡ row_in table (held store (sender_of bytes)) (opcode_of bytes)
      → row.signature ≡ one_uint → opcode_of bytes ≡ 1 → (o : Option ℕ)
      → MatchOption o (¬ (IsWhole bytes × (length_of bytes ≡ 12))) (λ word. IsWhole bytes × (length_of bytes ≡ 12) × IsWord word (payload_of bytes))
      → IfSome o (λ n. DeleteWaits table store link n)
  waits_if row asked uint one None none = tt
  waits_if row asked uint one (Some n) (whole, twelve, word) =
      record {
        opcode = one;
        signature = ap (λ (o : Option MessageRow). option_map (λ r. r.signature) o) (sym asked) ∙ ap Some uint;
        whole = whole;
        twelve = twelve;
        word = word;
      }

  abbrev message : ℕ → WireMessage
  message n = record { sender = 1; opcode = 1; args = arg.Uint n ∷ [] }

  pub reads : (passes : Bool) (n : ℕ) → sender_of bytes ≡ 1 → DeleteWaits table store link n → ReadsIn passes table store link (Ok (message n)) (taken link)
  reads passes n display waits =
      rw (le-leb 8 (length bytes) waits.whole.header) (
        Some one_uint,
        sym (known_signature passes table store (sender_of bytes) (opcode_of bytes) one_uint waits.signature),
        (record { whole = waits.whole; sender = sym display; opcode = sym waits.opcode; args = one_word bytes link.incoming.tokens n waits.word }, refl),
      )

-- where there is a signature, there is a row
has_row : (r : Option MessageRow) (signature : List ArgumentType) → option_map (λ row. row.signature) r ≡ Some signature → (row : MessageRow) × (r ≡ Some row)
has_row None signature is = absurd (true≢false (ap is_some (sym is)))
has_row (Some row) signature is = (row, refl)

-- the message was taken, and the id was deleted
pub deleted_in_place : {T U : Type 0} (s : SessionState T U) (link : LinkState T) (store : Store (Kept U)) (kept keeps : Bool) (before freed : List IdParts) (n : ℕ)
    → sender_of s.link.incoming.bytes ≡ 1 → DeleteWaits s.table s.store s.link n → (kept ≡ s.keeps_freed) × (before ≡ s.freed) → link ≡ taken s.link
    → store ≡ deleted s.store n → keeps ≡ kept → freed ≡ with_freed kept before (destroyed_id n (held s.store n))
    → HandlesMessage s WentOn (record s { link = link; store = store; keeps_freed = keeps; freed = freed })
deleted_in_place {T} {U} s link store kept keeps before freed n display waits stays taken_is deleted_is keeps_is freed_is =
    let m : WireMessage = message s.table s.store s.link n in
    let after : SessionState T U = record s { link = link; store = store; keeps_freed = keeps; freed = freed } in
    let has : signature_in s.table s.store 1 1 ≡ Some one_uint
    = ap₂ (λ (k opcode : ℕ). signature_in s.table s.store k opcode) (sym display) (sym waits.opcode) ∙ waits.signature in
    let (row, is) = has_row (row_in s.table (held s.store 1) 1) one_uint has in
    inr (
      m,
      taken s.link,
      reads s.table s.store s.link s.passes_over n display waits,
      subst₂ (λ (id : Option IdParts) (h : Handling U). HandledTo (frees (with_link s (taken s.link)) id) h WentOn after)
          (sym (known_freed s.passes_over s.table (objects_of s) m row is)) (sym (known_handled s.passes_over s.table (objects_of s) m row is))
          (λ i. let now : SessionState T U = record s { link = taken_is i; store = deleted_is i; keeps_freed = kept_is i; freed = told i } in now),
    )
  where
    kept_is : keeps ≡ s.keeps_freed
    kept_is = keeps_is ∙ stays.0

    told : freed ≡ with_freed s.keeps_freed s.freed (destroyed_id n (held s.store n))
    told = freed_is ∙ ap₂ (λ (b : Bool) (ids : List IdParts). with_freed b ids (destroyed_id n (held s.store n))) stays.0 stays.1

-- ---- an event whose arguments are numbers

what_is : {A : Type 0} → A → Option A → A
what_is a None = a
what_is a (Some b) = b

no_number : {A : Type 0} (b : A) → ◌≡◌ {A = Option A} None (Some b) → ⊥
no_number b is = true≢false (ap is_some (sym is))

pub no_numbers : (kinds : List ArgumentType) (payload : List ℕ) → 0 ≡ length kinds → NumbersAre kinds payload []
unfolding NumbersAre
no_numbers [] payload none = tt
no_numbers (k ∷ kinds) payload none = absurd (omega arith)

pub numbers_more : (k : ArgumentType) (kinds : List ArgumentType) (payload : List ℕ) (n : ℕ) (b : Argument IdParts Token) (values : List (Argument IdParts Token))
    → 4 ≤ length payload → IsWord n (take 4 payload) → number_argument k n ≡ Some b → NumbersAre kinds (take (length payload - 4) (drop 4 payload)) values
    → NumbersAre (k ∷ kinds) payload (b ∷ values)
unfolding NumbersAre
numbers_more k kinds payload n b values four word is are =
    let all = take_all (length payload - 4) (drop 4 payload) (omega (arith, length-drop 4 payload)) in
    (n, four, word, is, subst (λ rest. NumbersAre kinds rest values) all are)

module _ (U : Type 0) where
  -- the word is this argument on the wire, which is handed out as that one, and takes no token
  record Becomes (k : ArgumentType) (b : Argument IdParts Token) (raw : List ℕ) (a : WireArgument) : Type 0 where
    piece : IsPiece k a raw
    tokens : token a ≡ []
    converts : (version : ℕ) (c : Converting U) → convert_one version false c a ≡ Ok (b, c)
    none : is_fd k ≡ false

  becomes : (k : ArgumentType) (b : Argument IdParts Token) (n : ℕ) (raw : List ℕ) → IsWord n raw → number_argument k n ≡ Some b
      → (a : WireArgument) × Becomes k b raw a
  unfolding IsPiece what_is
  becomes kind.Int b n raw word is = (
    arg.Int (cast_signed w32 n),
    record { piece = (n, word, refl); tokens = refl; converts = λ version c. ap (λ o. Ok (what_is b o, c)) is; none = refl },
  )
  becomes kind.Uint b n raw word is = (
    arg.Uint n,
    record { piece = word; tokens = refl; converts = λ version c. ap (λ o. Ok (what_is b o, c)) is; none = refl },
  )
  becomes kind.Fixed b n raw word is = (
    arg.Fixed (cast_signed w32 n),
    record { piece = (n, word, refl); tokens = refl; converts = λ version c. ap (λ o. Ok (what_is b o, c)) is; none = refl },
  )
  becomes _ b n raw word is = absurd (no_number b is)

  -- the same of all arguments
  record BecomeAll (kinds : List ArgumentType) (values : List (Argument IdParts Token)) (payload : List ℕ) (fds : List Token) (args : List WireArgument) : Type 0 where
    reads : Reads kinds args payload fds
    converts : (version : ℕ) (c : Converting U) (done : List (Argument IdParts Token)) → convert version false c done args ≡ Whole c (done ++ values)
    none : fd_count kinds ≡ 0

  become_all : (kinds : List ArgumentType) (payload : List ℕ) (fds : List Token) (values : List (Argument IdParts Token)) → NumbersAre kinds payload values
      → (args : List WireArgument) × BecomeAll kinds values payload fds args
  unfolding NumbersAre Reads
  become_all [] payload fds [] are = ([], record { reads = tt; converts = λ version c done. ap (Whole c) (sym (append-nil done)); none = refl })
  become_all [] payload fds (b ∷ values) are = absurd are
  become_all (k ∷ kinds) payload fds [] are = absurd are
  become_all (k ∷ kinds) payload fds (b ∷ values) (n, four, word, is, are) =
      let one = becomes k b n (take 4 payload) word is in
      let others = become_all kinds (drop 4 payload) fds values are in
      let first : ◌≡◌ {A = ℕ} (cond (is_fd k) 1 0) 0 = ap (λ (t : Bool). cond t 1 0) one.1.none in
      let counted : fd_count (k ∷ kinds) ≡ fd_count kinds
      = ap (λ (i : ℕ). fold (λ (n : ℕ) (x : ArgumentType). n + cond (is_fd x) 1 0) (0 + i) kinds) first in (
        one.0 ∷ others.0,
        record {
          reads = (take 4 payload, drop 4 payload, fds, sym (take-append-drop 4 payload), sym (ap (λ (ts : List Token). ts ++ fds) one.1.tokens), one.1.piece, others.1.reads);
          converts = λ version c done.
              ap (λ (o : Converted U). going_on o c.objects (λ x next. convert version false next (done ++ x ∷ []) others.0)) (one.1.converts version c)
              ∙ others.1.converts version c (done ++ b ∷ []) ∙ ap (Whole c) (append_assoc done (b ∷ []) values);
          none = counted ∙ others.1.none;
        },
      )

-- a message without descriptors takes no tokens
no_tokens : (kinds : List ArgumentType) (q : Queue) → fd_count kinds ≡ 0 → after_first [] q ≡ after_first kinds q
no_tokens kinds q none = ap (λ (n : ℕ). let rest : Queue = record { bytes = drop (length_of q.bytes) q.bytes; tokens = drop n q.tokens } in rest) (sym none)

module _ {T U : Type 0} (s : SessionState T U) (m : SessionMessage) (opened : OpenEvent) (waits : NumbersWait s.table s.store s.link m opened) where
  abbrev front : List ℕ
  front = s.link.incoming.bytes

  abbrev event_message : List WireArgument → WireMessage
  event_message args = record { sender = sender_of front; opcode = opcode_of front; args = args }

  abbrev given : SessionMessage
  given = record { sender = id_at (sender_of front) waits.receiver; opcode = opcode_of front; args = waits.values }

  abbrev opens : OpenEvent
  opens = record { sender = id_at (sender_of front) waits.receiver; is_destructor = waits.row.is_destructor; created = None }

  row_is : row_in s.table (held s.store (sender_of front)) (opcode_of front) ≡ Some waits.row
  row_is = ap (λ o. row_in s.table o (opcode_of front)) waits.holds ∙ waits.has

  numbers_read : (args : List WireArgument) → BecomeAll U waits.row.signature waits.values (payload_of front) s.link.incoming.tokens args
      → ReadsIn s.passes_over s.table s.store s.link (Ok (event_message args)) (taken s.link)
  numbers_read args all =
      rw (le-leb 8 (length front) waits.whole.header) (
        Some waits.row.signature,
        sym (known_signature s.passes_over s.table s.store (sender_of front) (opcode_of front) waits.row.signature (ap (option_map (λ r. r.signature)) row_is)),
        (
          record { whole = waits.whole; sender = refl; opcode = refl; args = all.reads },
          ap (with_incoming s.link s.link.transport) (no_tokens waits.row.signature s.link.incoming all.none),
        ),
      )

  is_handled : (args : List WireArgument) → (sender_of front == 1) ≡ false
      → convert waits.receiver.version false (start (objects_of s) waits.row) [] args ≡ Whole (start (objects_of s) waits.row) waits.values
      → handling_by s.passes_over s.table (objects_of s) (event_message args) ≡ HandsOut given opens (objects_of s)
  is_handled args other converts =
      known_handled s.passes_over s.table (objects_of s) (event_message args) waits.row row_is
      ∙ rw (other, waits.holds, waits.has, waits.live, converts) refl

  -- no object leaves its number
  none_freed : (args : List WireArgument) → sender_of front ≢ 1
      → freed_as s.passes_over s.table (objects_of s) (event_message args) (HandsOut given opens (objects_of s)) ≡ None
  none_freed args other =
      ap (λ (r : Option MessageRow). cond (is_passed_over s.passes_over (held s.store (sender_of front)) r) None
      (freed_by (objects_of s) (event_message args) (objects_of s))) row_is ∙
      ap (λ (b : Bool). cond b (destroyed_at s.store (deleted_number (display_event (opcode_of front) args)))
      (cond (s.last_serial == s.last_serial) None (destroyed_at s.store (first_new_id args)))) (ne_eqb (sender_of front) 1 other)
      ∙ ap (λ (b : Bool). cond b None (destroyed_at s.store (first_new_id args))) (eq-eqb s.last_serial s.last_serial refl)

  -- the message was taken, and the event was handed out
  pub numbers_handled : (event : Message IdParts Token) (link : LinkState T) → sender_of front ≢ 1 → session_content event ≡ m → link ≡ taken s.link
      → HandlesMessage s (GaveEvent event) (record s { link = link; open_event = Some opened })
  numbers_handled event link other content is =
      let all = become_all U waits.row.signature (payload_of front) s.link.incoming.tokens waits.values waits.are in
      let after : SessionState T U = record s { link = link; open_event = Some opened } in
      let over : LinkState T → OpenEvent → SessionState T U = λ l o. record s { link = l; open_event = Some o } in
      inr (
        event_message all.0,
        taken s.link,
        numbers_read all.0 all.1,
        subst (λ (h : Handling U). HandledOf (with_link s (taken s.link)) (event_message all.0) h (GaveEvent event) after)
            (sym (is_handled all.0 (ne_eqb (sender_of front) 1 other) (all.1.converts waits.receiver.version (start (objects_of s) waits.row) [])))
            (subst (λ (id : Option IdParts). HandledTo (frees (with_link s (taken s.link)) id) (HandsOut given opens (objects_of s)) (GaveEvent event) after)
            (sym (none_freed all.0 other)) (content ∙ waits.is, ap₂ over is waits.opens)),
      )
