-- A message that was read whole: what the parser found is the message at the front.
use Rattle.std.proofs.Common.{◌≡◌, ℕ, ◌-◌, List, [], ◌++◌, length, take, drop, Option, Some, None, refl, sym, ap, subst, ◌∙◌, ◌≤◌, arith, length-append, inl, inr}
use Rattle.std.proofs.lemmas.List.{take_all, length-drop, drop_at}
use Rattle.wl_wire.specs.declared.argument.ArgumentType.{ArgumentType}
use Rattle.wl_wire.specs.declared.argument.Token.{Token}
use Rattle.wl_wire.specs.declared.error.MessageParseError.{MessageParseError}
use Rattle.wl_wire.specs.declared.error.MessageParseError.TheVariants as errors
use Rattle.wl_wire.specs.Argument.{Matches, WireArgument}
use Rattle.wl_wire.specs.Message.{WireMessage, IsMessage, spelling, tokens}
use Rattle.wl_wire.proofs.Spelling.RoundTrip.{whole-spelling, drop-spelling, one_message_lem, written_is_read_lem}
use Rattle.wl_wire.specs.Parse.{ReadsMessage, IsWhole, RefusesMessage, length_of, payload_of, fd_count}
use Rattle.wl_wire.specs.Inside.Cursor.{RefusesHeader, arguments_at, with_front, RefusesArguments}
use Rattle.wl_wire.proofs.Spelling.CursorLaws.{arguments_read, reads_tokens}

-- nothing was read before
pub with_no_front : (before : List WireArgument) (read : Option (List WireArgument × List Token)) (x : List WireArgument × List Token)
    → before ≡ [] → with_front before read ≡ Some x → read ≡ Some x
with_no_front before (Some y) x none e = let h : with_front [] (Some y) ≡ Some x = ap (λ (b : List WireArgument). with_front b (Some y)) (sym none) ∙ e in h
with_no_front before None x none e = absurd cc

-- the slice behind the header is the payload
pub payload-is : (raw front : List ℕ) (len : ℕ) → len ≡ length_of raw → front ≡ take len raw → take (length front - 8) (drop 8 front) ≡ payload_of raw
payload-is raw front len len-is front-is =
    take_all (length front - 8) (drop 8 front) (omega (arith, length-drop {A = ℕ} 8 front)) ∙ ap (drop 8) (front-is ∙ ap (λ (n : ℕ). take n raw) len-is)

-- what was found there
pub found_whole : (raw front : List ℕ) (len : ℕ) (signature : List ArgumentType) (fds : List Token) (before args : List WireArgument) (left : List Token)
    → len ≡ length_of raw → front ≡ take len raw → before ≡ []
    → with_front before (arguments_at signature (take (length front - 8) (drop 8 front)) fds) ≡ Some (args, left)
    → arguments_at signature (payload_of raw) fds ≡ Some (args, left)
found_whole raw front len signature fds before args left len-is front-is none found =
    sym (ap (λ (p : List ℕ). arguments_at signature p fds) (payload-is raw front len len-is front-is))
    ∙ with_no_front before (arguments_at signature (take (length front - 8) (drop 8 front)) fds) (args, left) none found

-- the tokens that are left are those behind the message's
pub left_is : (signature : List ArgumentType) (payload : List ℕ) (fds : List Token) (args : List WireArgument) (left : List Token)
    → arguments_at signature payload fds ≡ Some (args, left) → left ≡ drop (fd_count signature) fds
left_is signature payload fds args left found =
    let read = arguments_read signature payload fds args left found in
    sym (ap (drop (fd_count signature)) read.1 ∙ drop_at (tokens args) left (fd_count signature) (reads_tokens signature args payload fds read.0))

-- an error behind the header is one of the whole message
pub refuses : (raw : List ℕ) (signature : List ArgumentType) (fds : List Token) (e : MessageParseError)
    → IsWhole raw → RefusesArguments signature (payload_of raw) fds e → RefusesMessage raw signature fds e
refuses raw signature fds errors.MissingFD whole r = (whole, r)
refuses raw signature fds errors.Malformed whole r = inr ((whole, r.0), r.1)
refuses raw signature fds errors.OutOfMemory whole r = ((whole, r.0), r.1)
refuses raw signature fds errors.MissingData whole r = absurd r

-- ---- what was written

-- a message that is there is refused for want of memory alone
read_not_refused : (m : WireMessage) (raw : List ℕ) (signature : List ArgumentType) (fds : List Token) (e : MessageParseError)
    → ReadsMessage raw signature fds m → fd_count signature ≤ length fds → RefusesMessage raw signature fds e → e ≡ errors.OutOfMemory
read_not_refused m raw signature fds errors.MissingData read enough (inl short) = absurd (omega (arith, short, read.whole.header))
read_not_refused m raw signature fds errors.MissingData read enough (inr part) = absurd (omega (arith, part.2, read.whole.there))
read_not_refused m raw signature fds errors.MissingFD read enough few = absurd (omega (arith, few.1, enough))
read_not_refused m raw signature fds errors.Malformed read enough (inl low) = absurd (omega (arith, low.1, read.whole.counts_header))
read_not_refused m raw signature fds errors.Malformed read enough (inr none) = absurd (none.1 m.args read.args)
read_not_refused m raw signature fds errors.OutOfMemory read enough refused = refl

-- nor is its header
pub header_not_refused : {Y : Type 0} (m : WireMessage) (raw behind : List ℕ) (e : MessageParseError) → IsMessage m → raw ≡ spelling m ++ behind
    → RefusesHeader raw e → Y
header_not_refused m raw behind e ok bytes refused = not_whole raw e (subst IsWhole (sym bytes) (whole-spelling m behind ok)) refused
  where
    not_whole : {Y : Type 0} (raw : List ℕ) (e : MessageParseError) → IsWhole raw → RefusesHeader raw e → Y
    not_whole raw errors.MissingData whole (inl short) = absurd (omega (arith, short, whole.header))
    not_whole raw errors.MissingData whole (inr part) = absurd (omega (arith, part.2, whole.there))
    not_whole raw errors.Malformed whole low = absurd (omega (arith, low.1, whole.counts_header))
    not_whole raw e whole refused = absurd refused

-- where the message and its tokens stand at the front, only memory can be wanting
pub only_memory : (m : WireMessage) (raw behind : List ℕ) (signature : List ArgumentType) (fds others : List Token) (e : MessageParseError) → IsMessage m
    → Matches signature m.args → raw ≡ spelling m ++ behind → fds ≡ tokens m.args ++ others → RefusesMessage raw signature fds e → e ≡ errors.OutOfMemory
only_memory m raw behind signature fds others e ok same bytes tokens_are refused =
    let read = written_is_read_lem m signature behind others ok same in
    let here : ReadsMessage raw signature fds m = subst (λ (r : List ℕ). ReadsMessage r signature fds m) (sym bytes)
    (subst (λ (t : List Token). ReadsMessage (spelling m ++ behind) signature t m) (sym tokens_are) read) in
    let enough : fd_count signature ≤ length fds = omega (arith, ap length tokens_are, length-append (tokens m.args) others, reads_tokens signature m.args (payload_of raw) fds here.args) in
    read_not_refused m raw signature fds e here enough refused

-- what was read is the message, what follows it, and the other tokens
pub reads_back : (m n : WireMessage) (raw behind : List ℕ) (signature : List ArgumentType) (fds others : List Token) → IsMessage m → Matches signature m.args
    → raw ≡ spelling m ++ behind → fds ≡ tokens m.args ++ others → ReadsMessage raw signature fds n
    → (n ≡ m) × (drop (length_of raw) raw ≡ behind) × (drop (fd_count signature) fds ≡ others)
reads_back m n raw behind signature fds others ok same bytes tokens_are read =
    let written = written_is_read_lem m signature behind others ok same in
    let here : ReadsMessage raw signature fds m = subst (λ (r : List ℕ). ReadsMessage r signature fds m) (sym bytes)
    (subst (λ (t : List Token). ReadsMessage (spelling m ++ behind) signature t m) (sym tokens_are) written) in (
      one_message_lem n m raw signature fds read here,
      ap (λ (r : List ℕ). drop (length_of r) r) bytes ∙ drop-spelling m behind ok,
      ap (drop (fd_count signature)) tokens_are ∙ drop_at (tokens m.args) others (fd_count signature) (reads_tokens signature m.args (payload_of raw) fds here.args),
    )
