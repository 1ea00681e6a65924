-- That no more bytes go on for a message than came.
use Rattle.std.specs.Prelude.{◌≡◌, ℕ, ◌+◌, ◌-◌, ◌≤◌, ◌==◌, ◌&&◌, Bool, true, false, List, [], ◌∷◌, ◌++◌, length, replicate, take, Option, None, Some, Result, Ok, MatchBool, MatchOption, if◌then◌else◌}
use Rattle.std.specs.Int.{cast_unsigned, w32}
use Rattle.std.proofs.Common.{ap, arith, refl}
use Rattle.std.proofs.lemmas.List.{length-append, length-drop, length-replicate, length-take-le}
use Rattle.wl_wire.specs.declared.argument.Argument.TheVariants as arg
use Rattle.wl_wire.specs.declared.argument.ArgumentType.{ArgumentType}
use Rattle.wl_wire.specs.declared.argument.ArgumentType.TheVariants as kind
use Rattle.wl_wire.specs.declared.argument.Token.{Token}
use Rattle.wl_wire.specs.declared.interface.InterfaceId.{InterfaceId}
use Rattle.wl_wire.specs.Argument.{WireArgument}
use Rattle.wl_wire.specs.Message.{WireMessage, counted, pad_len, piece, pieces, size, word}
use Rattle.wl_wire.specs.Parse.{ReadsMessage, length_of, payload_of}
use Rattle.wl_wire.specs.Reading.{IsCounted, IsPiece, Reads}
use Rattle.wl_wire.specs.Table.{MessageRow}
use Rattle.wl_wire.proofs.Spelling.RoundTrip.{length-spelling, length-word}
use Rattle.wl_link.specs.declared.object.Object.{Object}
use Rattle.wl_link.specs.Exchange.{Queue}
use Rattle.wl_link.specs.HandOn.{first_of}
use Rattle.wl_follow.specs.declared.side.Side.{Side}
use Rattle.wl_follow.specs.declared.side.Side.TheVariants.{Client, Server}
use Rattle.wl_guard.specs.Events.{Announces, announcement_of, fate_of_removal, is_shown, lowered}
use Rattle.wl_guard.specs.Known.{Known, told_of}
use Rattle.wl_guard.specs.Passages.{IsPassed, Judges, Passage, Passes, all_pieces, all_sent, sent_for}
use Rattle.wl_guard.specs.Policy.{PolicyState, lists}
use Rattle.wl_guard.specs.Requests.{fate_of_request}
use Rattle.wl_guard.specs.declared.session.Fate.{Fate}
use Rattle.wl_guard.specs.declared.session.Fate.TheVariants as fate
use Rattle.wl_guard.specs.declared.session.Rule.{Rule}
use Rattle.wl_guard.specs.declared.session.Told.{Told}
use Rattle.wl_guard.proofs.Closed.{event_below}

-- ---- what is read is no shorter than it is spelled

length-counted : (content : List ℕ) → length (counted content) ≡ 4 + length content + pad_len (length content)
length-counted content =
    let padding : List ℕ = replicate (pad_len (length content)) 0 in
    omega (
      arith,
      length-append (word (length content)) (content ++ padding),
      length-append (word (length content) ++ content) padding,
      length-append (word (length content)) content,
      length-append content padding,
      length-word (length content),
      length-replicate {A = ℕ} (pad_len (length content)) 0,
    )

counted_long : (content bytes : List ℕ) → IsCounted content bytes → length (counted content) ≤ length bytes
counted_long content bytes is =
    let all = ap (λ (l : List ℕ). length l) is.whole in
    let a = length-append is.count (content ++ is.padding) in
    let b = length-append content is.padding in
    let four = is.is_word.four in
    let pad = is.pad in
    let spelled = length-counted content in
    omega (arith, all, a, b, four, pad, spelled)

piece_long : (k : ArgumentType) (a : WireArgument) (raw : List ℕ) → IsPiece k a raw → length (piece a) ≤ length raw
unfolding IsPiece piece
piece_long kind.Int (arg.Int z) raw is = let four = is.1.four in omega (arith, four, length-word (cast_unsigned w32 z))
piece_long kind.Uint (arg.Uint n) raw is = let four = is.four in omega (arith, four, length-word n)
piece_long kind.Fixed (arg.Fixed z) raw is = let four = is.1.four in omega (arith, four, length-word (cast_unsigned w32 z))
piece_long (kind.Str null) (arg.Str None) raw is =
    let long = counted_long [] raw is in
    let spelled = length-counted [] in
    omega (arith, long, spelled, length-word 0)
piece_long (kind.Str null) (arg.Str (Some text)) raw is = counted_long (text ++ 0 ∷ []) raw is.1
piece_long (kind.Object null) (arg.Object n) raw is = let four = is.four in omega (arith, four, length-word n)
piece_long kind.NewId (arg.NewId n) raw is = let four = is.four in omega (arith, four, length-word n)
piece_long kind.Array (arg.Array content) raw is = counted_long content raw is
piece_long kind.Fd (arg.Fd t) raw is = omega arith
piece_long _ _ raw is = absurd is

pieces_long : (signature : List ArgumentType) (args : List WireArgument) (payload : List ℕ) (fds : List Token) → Reads signature args payload fds
    → length (pieces args) ≤ length payload
unfolding Reads
pieces_long [] [] payload fds r = omega arith
pieces_long (k ∷ signature) (a ∷ args) payload fds r =
    let here = piece_long k a r.0 r.5 in
    let more = pieces_long signature args r.1 r.2 r.6 in
    let all = ap (λ (l : List ℕ). length l) r.3 in
    omega (arith, here, more, all, length-append r.0 r.1, length-append (piece a) (pieces args))
pieces_long [] (a ∷ args) payload fds r = absurd r
pieces_long (k ∷ signature) [] payload fds r = absurd r

size_long : (raw : List ℕ) (signature : List ArgumentType) (fds : List Token) (m : WireMessage) → ReadsMessage raw signature fds m → size m ≤ length_of raw
size_long raw signature fds m reads =
    let long = pieces_long signature m.args (payload_of raw) fds reads.args in
    let front = length-take-le (length_of raw) raw reads.whole.there in
    let rest = length-drop 8 (take (length_of raw) raw) in
    let header = reads.whole.counts_header in
    omega (arith, long, front, rest, header)

-- ---- a lowered announcement

lowered_pieces : (args : List WireArgument) (g : ℕ × (List ℕ × ℕ)) (version : ℕ) → announcement_of args ≡ Some g
    → length (pieces (take (length args - 1) args ++ arg.Uint version ∷ [])) ≡ length (pieces args)
unfolding piece
lowered_pieces (arg.Uint number ∷ arg.Str (Some name) ∷ arg.Uint old ∷ []) g version is =
    let one : List ℕ = piece (arg.Uint number) in
    let two : List ℕ = piece (arg.Str (Some name)) in
    omega (
      arith,
      length-append one (two ++ (word version ++ [])),
      length-append two (word version ++ []),
      length-append (word version) [],
      length-append one (two ++ (word old ++ [])),
      length-append two (word old ++ []),
      length-append (word old) [],
      length-word version,
      length-word old,
    )
lowered_pieces _ g version is = absurd cc

not_lowered : (told : List Told) (args : List WireArgument) (version : ℕ) → fate.Lower version ≡ fate_of_removal told args → ⊥
not_lowered told (arg.Uint number ∷ []) version is = go (is_shown (told_of told number)) is
  where
    go : (b : Bool) → fate.Lower version ≡ (if b then fate.HandOn else fate.Drop) → ⊥
    go true is = let e = is in absurd cc
    go false is = let e = is in absurd cc
not_lowered told _ version is = let e = is in absurd cc

-- a request is not lowered
request_lowered : (p : PolicyState) (interface : InterfaceId) (opcode version : ℕ) → fate.Lower version ≡ fate_of_request p interface opcode → ⊥
request_lowered p interface opcode version is = go (lists p.ignored interface opcode) is
  where
    go : (b : Bool) → fate.Lower version ≡ (if b then fate.Drop else fate.HandOn) → ⊥
    go true is = let e = is in absurd cc
    go false is = let e = is in absurd cc

pub ok_same : (f g : Fate) → ◌≡◌ {A = Result Fate Rule} (Ok f) (Ok g) → f ≡ g
ok_same f g is = cc

-- of the messages only announcements are
announced : (p : PolicyState) (side : Side) (told told' : List Told) (ended : List ℕ) (object : Object (Unit {0})) (row : MessageRow) (m : WireMessage) (len version : ℕ)
    → Judges p side told ended object row m len (Ok (fate.Lower version)) told' → (g : ℕ × (List ℕ × ℕ)) × (announcement_of m.args ≡ Some g)
announced p Client told told' ended object row m len version judged = absurd (request_lowered p object.interface m.opcode version judged.0.1)
announced p Server told told' ended object row m len version judged =
    by_global (object.interface.0 == 2 && m.opcode == 0) (event_below p told told' object m (fate.Lower version) judged).1
  where
    by_args : (o : Option (ℕ × (List ℕ × ℕ))) → announcement_of m.args ≡ o
        → MatchOption o ((◌≡◌ {A = Result Fate Rule} (Ok (fate.Lower version)) (Ok fate.Drop)) × (told' ≡ told)) (λ g. Announces p told g.0 g.1.0 g.1.1 (Ok (fate.Lower version)) told')
        → (g : ℕ × (List ℕ × ℕ)) × (announcement_of m.args ≡ Some g)
    by_args None is none = let e = ok_same (fate.Lower version) fate.Drop none.0 in absurd cc
    by_args (Some g) is announces = (g, is)

    by_removal : (b : Bool)
        → MatchBool b ((◌≡◌ {A = Result Fate Rule} (Ok (fate.Lower version)) (Ok (fate_of_removal told m.args))) × (told' ≡ told))
        ((◌≡◌ {A = Result Fate Rule} (Ok (fate.Lower version)) (Ok fate.HandOn)) × (told' ≡ told)) → ⊥
    by_removal true is = not_lowered told m.args version (ok_same (fate.Lower version) (fate_of_removal told m.args) is.0)
    by_removal false is = let e = ok_same (fate.Lower version) fate.HandOn is.0 in absurd cc

    by_global : (b : Bool)
        → MatchBool b
        (MatchOption (announcement_of m.args) ((◌≡◌ {A = Result Fate Rule} (Ok (fate.Lower version)) (Ok fate.Drop)) × (told' ≡ told))
        (λ g. Announces p told g.0 g.1.0 g.1.1 (Ok (fate.Lower version)) told'))
        (MatchBool (object.interface.0 == 2 && m.opcode == 1) ((◌≡◌ {A = Result Fate Rule} (Ok (fate.Lower version)) (Ok (fate_of_removal told m.args))) × (told' ≡ told))
        ((◌≡◌ {A = Result Fate Rule} (Ok (fate.Lower version)) (Ok fate.HandOn)) × (told' ≡ told)))
        → (g : ℕ × (List ℕ × ℕ)) × (announcement_of m.args ≡ Some g)
    by_global true tells = by_args (announcement_of m.args) refl tells
    by_global false tells = absurd (by_removal (object.interface.0 == 2 && m.opcode == 1) tells)

-- ---- messages

module _ (p : PolicyState) (side : Side) where
  one_long : (k k' : Known) (q rest : Queue) (x : Passage) → IsPassed p side k q x k' rest → length x.sent.bytes ≤ length x.piece.bytes
  one_long k k' q rest x passed =
      let long = go x.fate passed.judged in
      let a = ap (λ (y : Queue). length y.bytes) passed.sent in
      let b = ap (λ (y : Queue). length y.bytes) passed.piece in
      omega (arith, long, a, b)
    where
      go : (f : Fate) → Judges p side k.told k.ended passed.object passed.row passed.message (length_of q.bytes) (Ok f) k'.told
          → length (sent_for f passed.row.signature q passed.message).bytes ≤ length (first_of passed.row.signature q).bytes
      go fate.HandOn judged = omega arith
      go fate.Drop judged = omega arith
      go (fate.Lower version) judged =
          let m = passed.message in
          let g = announced p side k.told k'.told k.ended passed.object passed.row m (length_of q.bytes) version judged in
          let same = lowered_pieces m.args g.0 version g.1 in
          let spelled = length-spelling (lowered m version) in
          let long = size_long q.bytes passed.row.signature q.tokens m passed.reads.1 in
          let front = length-take-le (length_of q.bytes) q.bytes passed.reads.1.whole.there in
          omega (arith, same, spelled, long, front)

  pub all_long : (xs : List Passage) (k k' : Known) (q rest : Queue) → Passes p side k q xs k' rest → length (all_sent xs).bytes ≤ length (all_pieces xs).bytes
  all_long [] k k' q rest none = omega arith
  all_long (x ∷ xs) k k' q rest some =
      let here = one_long k some.0 q some.1 x some.2 in
      let more = all_long xs some.0 k' some.1 rest some.3 in
      omega (arith, here, more, length-append x.sent.bytes (all_sent xs).bytes, length-append x.piece.bytes (all_pieces xs).bytes)
