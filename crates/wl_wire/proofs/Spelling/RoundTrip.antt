-- What is written is read, and reads as one message only.
use Rattle.std.specs.Prelude.{◌≡◌, ℕ, ◌+◌, ◌*◌, ◌^◌, ◌<◌, ◌≤◌, List, [], ◌∷◌, ◌++◌, length, map, take, drop, replicate, Option, Some, None, refl}
use Rattle.std.proofs.Common.{sym, ◌∙◌, ap, subst, append_assoc, arith, length-append}
use Rattle.std.specs.List.{AllByRecursion}
use Rattle.std.specs.Int.{w32, from_le_bytes, cast_unsigned}
use Rattle.std.proofs.lemmas.List.{append-nil, take_at, drop_at, length-replicate}
use Rattle.std.proofs.lemmas.Nat.{from_le_bytes-to_le_bytes_4}
use Rattle.std.proofs.Math.Facts.{Fits-of_z, to_z-of_z}
use Rattle.wl_wire.specs.declared.argument.ArgumentType.{ArgumentType}
use Rattle.wl_wire.specs.declared.argument.ArgumentType.TheVariants as kind
use Rattle.wl_wire.specs.declared.argument.Argument.TheVariants as arg
use Rattle.wl_wire.specs.declared.argument.Token.{Token}
use Rattle.wl_wire.specs.Argument.{WireArgument, kind_of, type_of, Matches}
use Rattle.wl_wire.specs.Message.{WireMessage, word, pad_len, counted, piece, pieces, token, tokens, size, spelling, IsArgument, IsMessage}
use Rattle.wl_wire.specs.Reading.{IsWord, IsCounted, IsPiece, Reads}
use Rattle.wl_wire.specs.Parse.{sender_of, second_word, length_of, opcode_of, payload_of, IsWhole, ReadsMessage}
use Rattle.wl_wire.specs.Stream.{Stream}
use Rattle.wl_wire.proofs.Spelling.CursorLaws.{piece_fits, one_reading}

-- ---- words

pub length-word : (n : ℕ) → length (word n) ≡ 4
unfolding word
length-word n = refl

pub value-word : (n : ℕ) → n < 2 ^ 32 → from_le_bytes w32 (word n) ≡ n
unfolding word
value-word n lt = from_le_bytes-to_le_bytes_4 n lt

pub word_is_word : (n : ℕ) → n < 2 ^ 32 → IsWord n (word n)
word_is_word n lt = record { four = length-word n; value = sym (value-word n lt) }

-- ---- the spelling of arguments

counted_is_counted : (bytes : List ℕ) → length (counted bytes) ≤ 65535 → IsCounted bytes (counted bytes)
counted_is_counted bytes le =
    let padding : List ℕ = replicate (pad_len (length bytes)) 0 in
    let short : length bytes < 2 ^ 32 = omega (arith, length-append (word (length bytes) ++ bytes) padding, length-append (word (length bytes)) bytes) in
    record {
      count = word (length bytes);
      padding = padding;
      is_word = word_is_word (length bytes) short;
      pad = length-replicate {A = ℕ} (pad_len (length bytes)) 0;
      whole = append_assoc (word (length bytes)) bytes padding;
    }

null_is_counted : IsCounted [] (word 0)
null_is_counted = record { count = word 0; padding = []; is_word = word_is_word 0 (omega arith); pad = refl; whole = sym (append-nil (word 0)) }

-- what is written for an argument is a piece of each type that it is of
pub piece_is_piece : (k : ArgumentType) (a : WireArgument) → kind_of k ≡ type_of a → IsArgument a → length (piece a) ≤ 65535 → IsPiece k a (piece a)
unfolding piece IsPiece
piece_is_piece kind.Int (arg.Int z) same fits le = (cast_unsigned w32 z, word_is_word (cast_unsigned w32 z) (Fits-of_z fits).fits, sym (to_z-of_z fits))
piece_is_piece kind.Uint (arg.Uint n) same fits le = word_is_word n fits
piece_is_piece kind.Fixed (arg.Fixed z) same fits le = (cast_unsigned w32 z, word_is_word (cast_unsigned w32 z) (Fits-of_z fits).fits, sym (to_z-of_z fits))
piece_is_piece (kind.Str null) (arg.Str None) same fits le = null_is_counted
piece_is_piece (kind.Str null) (arg.Str (Some text)) same fits le = (fits, counted_is_counted (text ++ 0 ∷ []) le)
piece_is_piece (kind.Object null) (arg.Object n) same fits le = word_is_word n fits
piece_is_piece kind.NewId (arg.NewId n) same fits le = word_is_word n fits
piece_is_piece kind.Array (arg.Array bytes) same fits le = counted_is_counted bytes le
piece_is_piece kind.Fd (arg.Fd t) same fits le = refl
piece_is_piece k a same fits le = absurd cc

-- so are all arguments, whatever follows
pub pieces_read : (signature : List ArgumentType) (args : List WireArgument) (rest : List ℕ) (others : List Token)
    → Matches signature args → AllByRecursion IsArgument args → length (pieces args) ≤ 65535 → Reads signature args (pieces args ++ rest) (tokens args ++ others)
unfolding Reads
pieces_read [] [] rest others same fits le = tt
pieces_read (k ∷ signature) (a ∷ args) rest others same fits le =
    let head_same : kind_of k ≡ type_of a = cc in
    let tail_same : Matches signature args = cc in
    let parts = length-append (piece a) (pieces args) in (
      piece a,
      pieces args ++ rest,
      tokens args ++ others,
      append_assoc (piece a) (pieces args) rest,
      append_assoc (token a) (tokens args) others,
      piece_is_piece k a head_same fits.0 (omega (arith, parts)),
      pieces_read signature args rest others tail_same fits.1 (omega (arith, parts)),
    )
pieces_read [] (a ∷ args) rest others same fits le = absurd cc
pieces_read (k ∷ signature) [] rest others same fits le = absurd cc

-- ---- what was read

-- the arguments that are read fit the signature
pub reads_match : (signature : List ArgumentType) (args : List WireArgument) (payload : List ℕ) (fds : List Token) → Reads signature args payload fds → Matches signature args
unfolding Reads
reads_match [] [] payload fds r = refl
reads_match (k ∷ signature) (a ∷ args) payload fds r =
    ap (λ (t : ArgumentType). t ∷ map kind_of signature) (piece_fits k a r.0 r.5).0 ∙ ap (λ (ts : List ArgumentType). type_of a ∷ ts) (reads_match signature args r.1 r.2 r.6)
reads_match [] (a ∷ args) payload fds r = absurd r
reads_match (k ∷ signature) [] payload fds r = absurd r

-- ---- the spelling of a message

pub length-spelling : (m : WireMessage) → length (spelling m) ≡ size m
length-spelling m =
    let header : List ℕ = word (size m * 65536 + m.opcode) in
    omega (arith, length-append (word m.sender ++ header) (pieces m.args), length-append (word m.sender) header, length-word m.sender, length-word (size m * 65536 + m.opcode))

module _ (m : WireMessage) (rest : List ℕ) (ok : IsMessage m) where
  abbrev second : List ℕ
  second = word (size m * 65536 + m.opcode)

  regrouped : spelling m ++ rest ≡ word m.sender ++ (second ++ (pieces m.args ++ rest))
  regrouped = append_assoc (word m.sender ++ second) (pieces m.args) rest ∙ append_assoc (word m.sender) second (pieces m.args ++ rest)

  pub sender-spelling : sender_of (spelling m ++ rest) ≡ m.sender
  unfolding sender_of
  sender-spelling =
      ap (λ (bytes : List ℕ). from_le_bytes w32 (take 4 bytes)) regrouped
      ∙ ap (from_le_bytes w32) (take_at (word m.sender) (second ++ (pieces m.args ++ rest)) 4 (length-word m.sender))
      ∙ value-word m.sender ok.sender

  pub second_word-spelling : second_word (spelling m ++ rest) ≡ size m * 65536 + m.opcode
  unfolding second_word
  second_word-spelling =
      ap (λ (bytes : List ℕ). from_le_bytes w32 (take 4 (drop 4 bytes))) regrouped
      ∙ ap (λ (bytes : List ℕ). from_le_bytes w32 (take 4 bytes)) (drop_at (word m.sender) (second ++ (pieces m.args ++ rest)) 4 (length-word m.sender))
      ∙ ap (from_le_bytes w32) (take_at second (pieces m.args ++ rest) 4 (length-word (size m * 65536 + m.opcode)))
      ∙ value-word (size m * 65536 + m.opcode) (omega (arith, ok.size, ok.opcode))

  pub length_of-spelling : length_of (spelling m ++ rest) ≡ size m
  length_of-spelling = omega (arith, second_word-spelling, ok.opcode)

  pub opcode_of-spelling : opcode_of (spelling m ++ rest) ≡ m.opcode
  opcode_of-spelling = omega (arith, second_word-spelling, ok.opcode)

  pub payload_of-spelling : payload_of (spelling m ++ rest) ≡ pieces m.args
  payload_of-spelling =
      ap (λ (n : ℕ). drop 8 (take n (spelling m ++ rest))) length_of-spelling
      ∙ ap (drop 8) (take_at (spelling m) rest (size m) (length-spelling m))
      ∙ drop_at (word m.sender ++ second) (pieces m.args) 8 (omega (arith, length-append (word m.sender) second, length-word m.sender, length-word (size m * 65536 + m.opcode)))

  pub whole-spelling : IsWhole (spelling m ++ rest)
  whole-spelling = record {
    header = omega (arith, length-append (spelling m) rest, length-spelling m);
    counts_header = omega (arith, length_of-spelling);
    there = omega (arith, length_of-spelling, length-append (spelling m) rest, length-spelling m);
  }

  -- behind a message begins what follows it
  pub drop-spelling : drop (length_of (spelling m ++ rest)) (spelling m ++ rest) ≡ rest
  drop-spelling = ap (λ (n : ℕ). drop n (spelling m ++ rest)) length_of-spelling ∙ drop_at (spelling m) rest (size m) (length-spelling m)

-- what was written is read
pub written_is_read_lem : (m : WireMessage) (signature : List ArgumentType) (rest : List ℕ) (others : List Token)
    → IsMessage m → Matches signature m.args → ReadsMessage (spelling m ++ rest) signature (tokens m.args ++ others) m
written_is_read_lem m signature rest others ok same =
    let args = pieces_read signature m.args [] others same ok.args (omega (arith, ok.size)) in
    record {
      whole = whole-spelling m rest ok;
      sender = sym (sender-spelling m rest ok);
      opcode = sym (opcode_of-spelling m rest ok);
      args = subst (λ (p : List ℕ). Reads signature m.args p (tokens m.args ++ others)) (append-nil (pieces m.args) ∙ sym (payload_of-spelling m rest ok)) args;
    }

-- ---- at most one message

same_message : (m n : WireMessage) → m.sender ≡ n.sender → m.opcode ≡ n.opcode → m.args ≡ n.args → m ≡ n
same_message m n senders opcodes args =
    let with_sender : ℕ → WireMessage = λ s. record { sender = s; opcode = m.opcode; args = m.args } in
    let with_opcode : ℕ → WireMessage = λ o. record { sender = n.sender; opcode = o; args = m.args } in
    let with_args : List WireArgument → WireMessage = λ as'. record { sender = n.sender; opcode = n.opcode; args = as' } in
    ap with_sender senders ∙ ap with_opcode opcodes ∙ ap with_args args

pub one_message_lem : (m n : WireMessage) (raw : List ℕ) (signature : List ArgumentType) (fds : List Token)
    → ReadsMessage raw signature fds m → ReadsMessage raw signature fds n → m ≡ n
one_message_lem m n raw signature fds r s =
    same_message m n (r.sender ∙ sym s.sender) (r.opcode ∙ sym s.opcode) (one_reading signature m.args n.args (payload_of raw) fds r.args s.args)

pub one_spelling_lem : (m n : WireMessage) (signature : List ArgumentType) → IsMessage m → IsMessage n → Matches signature m.args → Matches signature n.args
    → spelling m ≡ spelling n → tokens m.args ≡ tokens n.args → m ≡ n
one_spelling_lem m n signature m_ok n_ok m_same n_same bytes fds =
    let read_m = written_is_read_lem m signature [] [] m_ok m_same in
    let read_n = written_is_read_lem n signature [] [] n_ok n_same in
    let bytes_read = subst (λ (b : List ℕ). ReadsMessage (b ++ []) signature (tokens n.args ++ []) n) (sym bytes) read_n in
    one_message_lem m n (spelling m ++ []) signature (tokens m.args ++ []) read_m
    (subst (λ (t : List Token). ReadsMessage (spelling m ++ []) signature (t ++ []) n) (sym fds) bytes_read)

-- ---- at most one stream

pub one_stream_lem : (look_up : ℕ → ℕ → Option (List ArgumentType)) (ms ns : List WireMessage) (bytes : List ℕ) (fds : List Token)
    → length ms ≡ length ns → Stream look_up ms bytes fds → Stream look_up ns bytes fds → ms ≡ ns
unfolding Stream
one_stream_lem look_up [] [] bytes fds len s t = refl
one_stream_lem look_up (m ∷ ms) (n ∷ ns) bytes fds len s t =
    let looked : look_up m.sender m.opcode ≡ look_up n.sender n.opcode
    = ap (λ (i : ℕ). look_up i m.opcode) (s.2.sender ∙ sym t.2.sender) ∙ ap (look_up n.sender) (s.2.opcode ∙ sym t.2.opcode) in
    let found : Some s.0 ≡ Some t.0 = sym s.1 ∙ looked ∙ t.1 in
    let signatures : t.0 ≡ s.0 = cc in
    let one : m ≡ n = one_message_lem m n bytes s.0 fds s.2 (subst (λ (k : List ArgumentType). ReadsMessage bytes k fds n) signatures t.2) in
    let behind = subst (λ (x : WireMessage). Stream look_up ns (drop (length_of bytes) bytes) (drop (length (tokens x.args)) fds)) (sym one) t.3 in
    let others : ms ≡ ns = one_stream_lem look_up ms ns (drop (length_of bytes) bytes) (drop (length (tokens m.args)) fds) (omega (arith, len)) s.3 behind in
    ap (λ (x : WireMessage). x ∷ ms) one ∙ ap (λ (xs : List WireMessage). n ∷ xs) others
one_stream_lem look_up [] (n ∷ ns) bytes fds len s t = absurd (omega (arith, len))
one_stream_lem look_up (m ∷ ms) [] bytes fds len s t = absurd (omega (arith, len))
