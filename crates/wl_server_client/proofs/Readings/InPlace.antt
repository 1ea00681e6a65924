-- What is handled where it stands, a sync that is answered or a request that is handed out, is handled as any other.
use Rattle.std.proofs.Common.{◌≡◌, ◌∙◌, ℕ, ◌≤◌, length-append, Bool, true, List, [], ◌∷◌, ◌++◌, append-nil, drop, length, Option, None, Some, Result, Ok, Err, refl, sym, ap, ap₂, subst, arith, ◌+◌, false, if◌then◌else◌, not, option_map}
use Rattle.std.proofs.Math.Seq.{drop-append-add}
use Rattle.std.proofs.lemmas.List.Sums.{sum_by-cons}
use Rattle.std.proofs.lemmas.List.{length-drop}
use Rattle.std.proofs.lemmas.Bool.{and_parts, le-ltb, le-leb, not-true}
use Rattle.wl_wire.specs.declared.argument.Argument.{Argument}
use Rattle.wl_wire.specs.declared.argument.Argument.TheVariants as arg
use Rattle.wl_wire.specs.declared.argument.ArgumentType.{ArgumentType}
use Rattle.wl_wire.specs.declared.argument.Token.{Token}
use Rattle.wl_wire.specs.declared.error.IoFault.{IoFault}
use Rattle.wl_wire.specs.Argument.{WireArgument}
use Rattle.wl_wire.specs.Message.{token, WireMessage}
use Rattle.wl_wire.specs.MessageRows.{request_in}
use Rattle.wl_wire.specs.Parse.{fd_count, is_fd, payload_of, IsWhole, length_of}
use Rattle.wl_wire.specs.Reading.{IsPiece, Reads as ReadsArgs}
use Rattle.wl_wire.specs.Table.{MessageRow, message_row, display_row, callback_id}
use Rattle.wl_link.specs.declared.object.Object.{Object}
use Rattle.wl_link.specs.Exchange.{Queue}
use Rattle.wl_link.specs.Identity.{Objects}
use Rattle.wl_link.specs.Link.{LinkState, with_incoming, without_front}
use Rattle.wl_link.specs.Store.{Store, held, is_server_number}
use Rattle.wl_server_client.specs.declared.objects.Kept.{Kept}
use Rattle.wl_server_client.specs.declared.reading.action.OpenAction.{OpenAction}
use Rattle.wl_server_client.specs.declared.reading.action.OpenAction.TheVariants as opened
use Rattle.wl_server_client.specs.declared.reading.action.Reading.{Reading}
use Rattle.wl_server_client.specs.declared.reading.front_request.FrontRequest.{FrontRequest}
use Rattle.wl_server_client.specs.Deeds.{Handed, Request}
use Rattle.wl_server_client.specs.Ids.{ClientParts, IdParts}
use Rattle.wl_server_client.specs.Inside.ReadingLoop.{Acts, HandlesMessage, IsFront, IsSenderOf, Live, counted, IsHandled, WentOn, MessageResult}
use Rattle.wl_wire.specs.Pieces.{◌>>=◌, argument_at}
use Rattle.wl_wire.proofs.Spelling.CursorLaws.{IsRead, argument_reads}
use Rattle.wl_server_client.specs.Inside.InPlace.{HandsOut, IsPut, is_beyond, named, put_behind, with_next}
use Rattle.wl_server_client.specs.Part.{objects_of, Part, with_link}
use Rattle.wl_server_client.specs.Reading.{Around, hands_out, request_to, new_at, replies, request, row_in, syncs}
use Rattle.wl_server_client.specs.Requests.{Converted, Converting, Whole, convert, convert_one, going_on, made_object, start}
use Rattle.wl_server_client.specs.Stored.{Stored}
use Rattle.wl_server_client.specs.Telling.{core_of, with_objects, Core, deletions, done_message, objects_in, Told}
use Rattle.wl_server_client.proofs.Readings.Handling.{handed_out, replied_all}
use Rattle.wl_link.specs.Puts.{Said}
use Rattle.wl_server_client.specs.Inside.Puts.{Puts}
use Rattle.wl_server_client.specs.Inside.Syncing.{IsSyncOf, LeavesNoTrace}
use Rattle.wl_server_client.proofs.Readings.OneMessage.{message_handled}
use Rattle.wl_link.specs.Reader.{Verdict}
use Rattle.std.specs.Option.{option_map_or}
use Rattle.std.proofs.lemmas.Option.{same_Some}
use Rattle.wl_server_client.proofs.Readings.Limits.{none_beyond, nothing_passed, one_within}
use Rattle.wl_server_client.proofs.Readings.Texts.{fixed_first}
use Rattle.wl_server_client.specs.Limited.{is_above, limit_passed}

-- the link without the message at its front, and without so many tokens
abbrev pub taken : {T : Type 0} → ℕ → LinkState T → LinkState T
taken count l = with_incoming l l.transport (without_front count l.incoming)

-- what the table says of the request at the front
abbrev row_of : FrontRequest → MessageRow
row_of front = message_row front.desc.now

-- ---- a message that is handled where it stands

module _ {T U G C : Type 0} (sends : T → Queue → Result ℕ IoFault → T → Type 0) (receives : T → ℕ → Result Queue IoFault → T → Type 0)
    (a : Around G C)
    (s : Stored T U C) (live : Live s.part) (front : FrontRequest) (is_front : IsFront a.table s.part.store s.part.link front) where
  -- the object at which it is sent
  pub receiver : (x : Object (Kept U)) × (held s.part.store front.number ≡ Some x) × IsSenderOf front.sender x
      × (row_in a.table (Some x) front.opcode ≡ Some (row_of front))
  receiver = grind (arith, held s.part.store front.number, is_front)

  -- it has these arguments, which take so many tokens, and that verdict, which was carried out over the client without it
  pub front_handled : IsWhole s.part.link.incoming.bytes → (args : List WireArgument)
      → ReadsArgs (row_of front).signature args (payload_of s.part.link.incoming.bytes) s.part.link.incoming.tokens
      → (count : ℕ) → count ≡ fd_count (row_of front).signature → (v : Verdict (Core U C) (Told U))
      → ((x : Object (Kept U)) → IsSenderOf front.sender x
      → request_to a (core_of s.part) (record { sender = front.number; opcode = front.opcode; args = args }) x (row_of front) ≡ v)
      → (p : Part T U C) (to : MessageResult) (after : Stored T U C)
      → IsHandled sends v (record s { part = with_link p (taken count s.part.link) }) to after
      → (r r' : Reading) → r'.turns_left ≡ r.turns_left → r'.read ≡ counted r.read 1 → HandlesMessage sends receives a s r to after r'
  front_handled whole args reads count takes v is p to after handled r r' left read =
      let (x, holds, sender, has) = receiver in
      let m : WireMessage = record { sender = front.number; opcode = front.opcode; args = args } in
      let found : row_in a.table (held s.part.store front.number) front.opcode ≡ Some (row_of front) =
      ap (λ o. row_in a.table o front.opcode) holds ∙ has in
      message_handled sends receives a s r r' live v (with_link p (taken count s.part.link)) to after (
        m,
        rw (le-leb 8 (length s.part.link.incoming.bytes) whole.header) (
          Some (row_of front).signature,
          grind (arith, is_front.row, option_map),
          (record { whole = whole; sender = is_front.number; opcode = is_front.opcode; args = reads }, rw takes refl),
        ),
        sym (is x sender) ∙ sym (ap₂ (request a (core_of s.part) m) holds found),
      )
      handled
      (omega (arith, length-drop (length_of s.part.link.incoming.bytes) s.part.link.incoming.bytes, whole.counts_header, whole.there)) left read

-- ---- a sync

-- it is one of the client's own numbers
pub own : {U : Type 0} (objects : Objects (Kept U)) (n : ℕ) → LeavesNoTrace objects n → is_server_number n ≡ false
own objects n no_trace = not-true (is_server_number n) (and_parts (not (is_server_number n)) _ no_trace.valid).0

-- the part once the callback was made and removed
abbrev pub after_sync : {T U C : Type 0} → Part T U C → LinkState T → Part T U C
after_sync p link = record p { link = link; last_serial = p.last_serial + 1 }

module _ {T U G C : Type 0} (sends : T → Queue → Result ℕ IoFault → T → Type 0) (receives : T → ℕ → Result Queue IoFault → T → Type 0)
    (a : Around G C)
    (s : Stored T U C) (n : ℕ) (live : Live s.part) (front : FrontRequest) (is_front : IsFront a.table s.part.store s.part.link front)
    (sync : IsSyncOf s.part.link front n)
    (no_trace : LeavesNoTrace (objects_of s.part) n) (within : is_above a.object_limit n ≡ false) where
  abbrev core : Core U C
  core = core_of s.part

  row_is : Some (row_of front) ≡ request_in (Some display_row) 0
  row_is =
      let (x, holds, sender, has) = receiver sends receives a s live front is_front in
      sym has ∙ rw (sender.1, sync.display, sync.opcode, fixed_first a.table is_front.accepted) refl

  sync_word : ReadsArgs (row_of front).signature (arg.NewId n ∷ []) (payload_of s.part.link.incoming.bytes) s.part.link.incoming.tokens
  unfolding ReadsArgs IsPiece
  sync_word =
      let payload = payload_of s.part.link.incoming.bytes in
      subst (λ (row : MessageRow). ReadsArgs row.signature (arg.NewId n ∷ []) payload s.part.link.incoming.tokens) (sym (same_Some _ _ row_is))
      (payload, [], s.part.link.incoming.tokens, sym (append-nil payload), refl, sync.word, tt)

  to_display : (x : Object (Kept U)) → IsSenderOf front.sender x
      → request_to a core (record { sender = front.number; opcode = front.opcode; args = arg.NewId n ∷ [] }) x (row_of front) ≡ syncs a core n
  to_display x (serial, interface, version) =
      rw (one_within a.object_limit n within, interface, sync.display, sync.opcode, no_trace.valid) refl

  pub sync_answered : (reading reading' : Reading) (link : LinkState T) (after : Stored T U C)
      → Puts sends (taken 0 s.part.link) (done_message (new_at a core n) ∷ deletions n) (Ok tt) link
      → after ≡ record s { part = after_sync s.part link } → reading'.turns_left ≡ reading.turns_left → reading'.read ≡ counted reading.read 1
      → HandlesMessage sends receives a s reading WentOn after reading'
  sync_answered reading reading' link after puts is left read =
      let puts_all : List Said = done_message (new_at a core n) ∷ deletions n in
      let mid : Stored T U C = record s { part = after_sync s.part (taken 0 s.part.link) } in
      front_handled sends receives a s live front is_front sync.whole (arg.NewId n ∷ []) sync_word 0
      (sym (ap (λ (o : Option MessageRow). fd_count (option_map_or (λ row. row.signature) o [])) row_is))
      (syncs a core n) to_display mid.part WentOn after
      (subst (λ (c : Core U C). IsHandled sends (replies c puts_all []) mid WentOn after) (sym (ap (λ (store : Store (Kept U)). with_objects core
      (record { store = store; last_serial = s.part.last_serial + 1 })) (no_trace.stays (made_object (objects_in core) callback_id 1))))
      (replied_all sends mid after link puts_all [] (λ stops. (refl, λ rest. refl)) live puts is)) reading reading' left read

-- ---- arguments that are read and named in one pass

-- a step that may find nothing has found something
found_first : {A B : Type 0} (r : Option A) (f : A → Option B) (y : B) → (r >>= f) ≡ Some y → (x : A) × (r ≡ Some x) × (f x ≡ Some y)
found_first h1 f y e = grind (arith)

-- so many tokens of a list were taken off its front
abbrev Taken : List Token → List Token → ℕ → Type 0
Taken fds left n = (n ≤ length fds) × (left ≡ drop n fds)

-- an argument takes a token if it is a descriptor, and else none
one_token : (k : ArgumentType) (a : WireArgument) (piece : List ℕ) → IsPiece k a piece → length (token a) ≡ (if is_fd k then 1 else 0)
unfolding IsPiece
one_token k a piece is = grind (arith, k, a)

more_taken : (k : ArgumentType) (kinds : List ArgumentType) (bytes : List ℕ) (fds : List Token) (a : WireArgument) (rest : List ℕ) (others left : List Token)
    → IsRead k bytes fds (a, rest, others) → Taken others left (fd_count kinds) → Taken fds left (fd_count (k ∷ kinds))
more_taken k kinds bytes fds a rest others left read (there, is) =
    let one = one_token k a read.piece read.is_piece in
    let count : fd_count (k ∷ kinds) ≡ length (token a) + fd_count kinds = omega (arith, one, sum_by-cons (λ (x : ArgumentType). if is_fd x then 1 else 0) k kinds) in
    let long : length fds ≡ length (token a) + length others = ap length read.waiting ∙ length-append (token a) others in
    (omega (arith, count, long, there), rw (count, read.waiting) (is ∙ sym (drop-append-add (token a) others (fd_count kinds))))

module _ {U : Type 0} (client : ClientParts) (limit : Option ℕ) (version : ℕ) where
  -- an argument was read, and converted
  record IsNext (c : Converting U) (done : List (Argument IdParts Token)) (k : ArgumentType) (bytes : List ℕ) (fds : List Token)
      (x : Converting U × List (Argument IdParts Token) × List ℕ × List Token) : Type 0 where
    arg : WireArgument
    became : Argument IdParts Token
    read : IsRead k bytes fds (arg, x.2, x.3)
    within : is_beyond limit arg ≡ false
    converts : convert_one client version c arg ≡ Ok (became, x.0)
    behind : x.1 ≡ done ++ became ∷ []

  is_next : (c : Converting U) (done : List (Argument IdParts Token)) (k : ArgumentType) (bytes : List ℕ) (fds : List Token)
      (x : Converting U × List (Argument IdParts Token) × List ℕ × List Token)
      → with_next client limit version c done k bytes fds ≡ Some x → IsNext c done k bytes fds x
  is_next c done k bytes fds x found =
      let f = found_first (argument_at k bytes fds)
      (λ y. if is_beyond limit y.0 then None else put_behind client limit version done (convert_one client version c y.0) y.1 y.2) x found in
      at f.0 f.1 (is_beyond limit f.0.0) refl (convert_one client version c f.0.0) refl f.2
    where
      at : (y : WireArgument × List ℕ × List Token) → argument_at k bytes fds ≡ Some y → (b : Bool) → is_beyond limit y.0 ≡ b
          → (r : Converted U) → convert_one client version c y.0 ≡ r
          → (if b then None else put_behind client limit version done r y.1 y.2) ≡ Some x → IsNext c done k bytes fds x
      at y read true beyond r is e = absurd cc
      at y read false within (Err wrong) is e = absurd cc
      at y read false within (Ok z) is e =
          subst (IsNext c done k bytes fds) (same_Some (z.1, done ++ z.0 ∷ [], y.1, y.2) x e)
          (record { arg = y.0; became = z.0; read = argument_reads k bytes fds y read; within = within; converts = is; behind = refl })

  -- all were: they are arguments of these types, and are converted, behind `done`, to all that is handed out
  pub named_convert : (kinds : List ArgumentType) (c : Converting U) (bytes : List ℕ) (fds : List Token) (done handed : List (Argument IdParts Token))
      (c' : Converting U) (left : List Token)
      → named client limit version c done kinds bytes fds ≡ Some (c', handed, left)
      → (args : List WireArgument) × ReadsArgs kinds args bytes fds × Taken fds left (fd_count kinds) × (limit_passed limit args ≡ None)
      × (convert client version c done args ≡ Whole c' handed)
  unfolding ReadsArgs
  named_convert [] c bytes fds done handed c' left found =
      let same : ◌≡◌ {A = Converting U × List (Argument IdParts Token) × List Token} (c, done, fds) (c', handed, left) = same_Some _ _ found in (
        [],
        tt,
        (omega arith, sym (ap (λ (x : Converting U × List (Argument IdParts Token) × List Token). x.2) same)),
        nothing_passed limit,
        ap (λ (x : Converting U × List (Argument IdParts Token) × List Token). Whole x.0 x.1) same,
      )
  named_convert (k ∷ kinds) c bytes fds done handed c' left found =
      let f = found_first (with_next client limit version c done k bytes fds) (λ x. named client limit version x.0 x.1 kinds x.2 x.3) (c', handed, left) found in
      let next = is_next c done k bytes fds f.0 f.1 in
      let (args, reads, took, within, is) = named_convert kinds f.0.0 f.0.2 f.0.3 f.0.1 handed c' left f.2 in (
        next.arg ∷ args,
        (next.read.piece, f.0.2, f.0.3, next.read.bytes, next.read.waiting, next.read.is_piece, reads),
        more_taken k kinds bytes fds next.arg f.0.2 f.0.3 left next.read took,
        none_beyond limit next.arg args next.within within,
        ap (λ o. going_on o (length done) c.objects (λ b after. convert client version after (done ++ b ∷ []) args)) next.converts
            ∙ ap (λ (d : List (Argument IdParts Token)). convert client version f.0.0 d args) (sym next.behind) ∙ is,
      )

-- ---- what is handed out

module _ {U : Type 0} (client : ClientParts) (limit : Option ℕ) (version : ℕ) (objects : Objects (Kept U)) (row : MessageRow) (payload : List ℕ)
    (fds : List Token) where
  pub named_hand_out : (c c' : Converting U) (used : ℕ) (after : Objects (Kept U)) (handed : List (Argument IdParts Token)) → c ≡ start objects row
      → named client limit version c [] row.signature payload fds ≡ Some (c', handed, drop used fds) → used ≤ length fds → after ≡ c'.objects
      → HandsOut client limit version objects row payload fds c'.created used after handed
  named_hand_out c c' used after handed starts found there is =
      let (args, reads, took, within, converts) = named_convert client limit version row.signature (start objects row) payload fds [] handed c' (drop used fds)
      (rw starts at found) in
      record {
        args = args;
        reads = reads;
        takes = same_drop fds used (fd_count row.signature) there took.0 took.1;
        there = there;
        within = within;
        done = c';
        converts = converts;
        objects_are = sym is;
        created_is = refl;
      }
    where
      same_drop : (fds : List Token) (n m : ℕ) → n ≤ length fds → m ≤ length fds → drop n fds ≡ drop m fds → n ≡ m
      same_drop fds n m le le' same = omega (arith, length-drop n fds, length-drop m fds, ap length same)

-- ---- a request that is handed out

module _ {T U G C : Type 0} (sends : T → Queue → Result ℕ IoFault → T → Type 0) (receives : T → ℕ → Result Queue IoFault → T → Type 0)
    (a : Around G C)
    (s : Stored T U C) (live : Live s.part) (front : FrontRequest) (is_front : IsFront a.table s.part.store s.part.link front)
    (created : Option IdParts) (tokens : ℕ) (objects : Objects (Kept U)) (handed_args : List (Argument IdParts Token))
    (put : IsPut a.client a.object_limit (objects_of s.part) s.part.link front objects handed_args created tokens) where
  abbrev id : IdParts
  id = record { number = front.number; serial = front.sender.serial; client = a.client; interface = front.sender.interface }

  abbrev action : OpenAction
  action = opened.Request id (row_of front).is_destructor created

  abbrev handed : Handed
  handed = Request id front.opcode handed_args (row_of front).is_destructor created

  hands : HandsOut a.client a.object_limit front.sender.version (objects_of s.part) (row_of front)
      (payload_of s.part.link.incoming.bytes) s.part.link.incoming.tokens created tokens objects handed_args
  hands = put.hands

  to_sender : (x : Object (Kept U)) → IsSenderOf front.sender x
      → request_to a (core_of s.part) (record { sender = front.number; opcode = front.opcode; args = hands.args }) x (row_of front) ≡ hands_out
      (with_objects (core_of s.part) objects) action handed
  to_sender x (serial, interface, version) =
      let stands = put.stands in
      rw (hands.within, serial, interface, version, stands.no_display, stands.no_registry, le-ltb front.sender.version _ stands.since, hands.converts)
      (ap₂ (λ (made : Option IdParts) (kept : Objects (Kept U)). hands_out (with_objects (core_of s.part) kept)
      (opened.Request id (row_of front).is_destructor made)
      (Request id front.opcode handed_args (row_of front).is_destructor made)) hands.created_is hands.objects_are)

  -- the client once the objects are so, and the message is taken
  abbrev mid : LinkState T → Stored T U C
  mid link = record s { part = record s.part { link = link; store = objects.store; last_serial = objects.last_serial } }

  pub request_handed : (r r' : Reading) (link : LinkState T) (after : Stored T U C) → link ≡ taken tokens s.part.link
      → after ≡ record s { part = record (mid link).part { action = Some action } } → r'.turns_left ≡ r.turns_left → r'.read ≡ counted r.read 1
      → HandlesMessage sends receives a s r (Acts handed) after r'
  request_handed r r' link after link_is after_is left read =
      front_handled sends receives a s live front is_front put.whole hands.args hands.reads tokens hands.takes _ to_sender (mid (taken tokens s.part.link)).part
      (Acts handed) after
      (rw (after_is, link_is) (handed_out sends (mid (taken tokens s.part.link)) action handed)) r r' left read
