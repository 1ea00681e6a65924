-- That no line which a command prints has a line feed, so that a text of lines has these lines. Lines of notes are in `NoteLines`.
use Rattle.std.proofs.Common.{◌≡◌, ◌≢◌, ◌∙◌, ℕ, zero, suc, ◌+◌, ◌/◌, ◌%◌, ◌<◌, ◌==◌, nat_lt, Bool, true, false, List, [], ◌∷◌, ◌++◌, length, map, cond, Option, None, Some, Ok, Err, ℤ, pos, negsuc, refl, sym, ap, subst, append_assoc, arith, codes, true≢false}
use Rattle.std.specs.Prelude.{⊤, if◌then◌else◌}
use Rattle.std.specs.Fmt.{decimal, digit_glyph, digits, digits_onto, signed_decimal}
use Rattle.std.specs.List.{All, flat_map, onto_first}
use Rattle.std.proofs.lemmas.Bool.{ne_eqb}
use Rattle.std.proofs.lemmas.List.Elements.{All-head, All-tail}
use Rattle.wl_wire.specs.declared.argument.Argument.{Argument}
use Rattle.wl_wire.specs.declared.argument.Argument.TheVariants as arg
use Rattle.wl_wire.specs.declared.argument.Token.{Token}
use Rattle.wl_wire.specs.declared.error.IoFault.TheVariants as fault
use Rattle.wl_link.specs.Exchange.{Queue}
use Rattle.wl_link.specs.Script.{Script, parcel}
use Rattle.wl_server_client.specs.declared.error.ActionError.{ActionError}
use Rattle.wl_server_client.specs.declared.error.ActionError.TheVariants.{Io, ActionOpen}
use Rattle.wl_server_client.specs.declared.error.FinishError.{FinishError}
use Rattle.wl_server_client.specs.declared.error.FinishError.TheVariants as finish
use Rattle.wl_server_client.specs.declared.error.GlobalError.{GlobalError}
use Rattle.wl_server_client.specs.declared.error.GlobalError.TheVariants as global
use Rattle.wl_server_client.specs.declared.error.InsertClientError.{InsertClientError}
use Rattle.wl_server_client.specs.declared.error.InsertClientError.TheVariants as insert
use Rattle.wl_server_client.specs.declared.error.ScriptError.{ScriptError}
use Rattle.wl_server_client.specs.declared.error.ScriptError.TheVariants as script
use Rattle.wl_server_model.specs.declared.step.Reply.TheVariants as reply
use Rattle.wl_server_client.specs.Deeds.{Bind, Handed, Registry, Request, handed}
use Rattle.wl_server_client.specs.Ids.{ClientParts, IdParts}
use Rattle.wl_bench.specs.declared.command.Command.{Command}
use Rattle.wl_bench.specs.declared.command.Command.TheVariants.{Insert, Client, Dispatch, Create, Disable, Remove, Flush, Cleanup, Notes}
use Rattle.wl_bench.specs.Answers.{Line, action_text, after_byte, answer_lines, answer_text, argument_text, arguments_text, bytes_of, created_text, effect_text, fault_text, finish_name, flag_text, global_name, hex, insert_name, joined, record_lines, records_lines, refusal_text, script_name, sent_lines, share_lines, taken_out_lines, token_text, tokens_of, tokens_text}
use Rattle.wl_bench.specs.Bench.{BenchReply, BenchState, Does, DoesForAll, all_clients, client_calls, heard_by, printed, take_step}
use Rattle.wl_bench.specs.Commands.{parts}
use Rattle.wl_bench.specs.OneLine.{IsOneLine, PrintsLines}
use Rattle.wl_bench.specs.Record.{Recorded, lines, quoted, record_of, recording_of, text_of, whole_lines}
use Rattle.wl_bench.proofs.InputLines.{goes_on}
use Rattle.wl_bench.proofs.OneOutcome.{IsQuiet, first_told, quiet_tells, speaks_tells, tells}
use Rattle.wl_bench.proofs.Others.{calls_stay, last_speaks}

-- ---- texts without a line feed

abbrev pub unfed : List ℕ → Bool
unfed [] = true
unfed (b ∷ text) = cond (b == 10) false (unfed text)

abbrev pub Unfed : List ℕ → Type 0
Unfed text = unfed text ≡ true

byte_first : (b : ℕ) (text : List ℕ) → (b == 10) ≡ false → Unfed text → Unfed (b ∷ text)
byte_first b text other rest = ap (λ (c : Bool). cond c false (unfed text)) other ∙ rest

-- the first byte, and those behind it
pub byte_parts : (b : ℕ) (text : List ℕ) → Unfed (b ∷ text) → ((b == 10) ≡ false) × Unfed text
byte_parts b text all = at (b == 10) refl
  where
    at : (c : Bool) → (b == 10) ≡ c → ((b == 10) ≡ false) × Unfed text
    at true is = absurd (true≢false (sym all ∙ ap (λ (c : Bool). cond c false (unfed text)) is))
    at false is = (is, sym (ap (λ (c : Bool). cond c false (unfed text)) is) ∙ all)

pub both : (a b : List ℕ) → Unfed a → Unfed b → Unfed (a ++ b)
both [] b first rest = rest
both (x ∷ a) b first rest = let p = byte_parts x a first in byte_first x (a ++ b) p.0 (both a b p.1 rest)

-- ---- numbers

glyph : (d : ℕ) → (digit_glyph false d == 10) ≡ false
glyph d = at (nat_lt d 10)
  where
    at : (c : Bool) → ((if c then 48 + d else 87 + d) == 10) ≡ false
    at true = ne_eqb (48 + d) 10 (λ e. omega (arith, e))
    at false = ne_eqb (87 + d) 10 (λ e. omega (arith, e))

one_of : (c : Bool) (a b : List ℕ) → Unfed a → Unfed b → Unfed (if c then a else b)
one_of true a b first other = first
one_of false a b first other = other

digits_unfed : (k n : ℕ) (behind : List ℕ) → Unfed behind → Unfed (digits_onto k 10 false n behind)
digits_unfed zero n behind rest = rest
digits_unfed (suc k) n behind rest =
    let more = byte_first (digit_glyph false (n % 10)) behind (glyph (n % 10)) rest in
    one_of (n / 10 == 0) (digit_glyph false (n % 10) ∷ behind) (digits_onto k 10 false (n / 10) (digit_glyph false (n % 10) ∷ behind)) more
    (digits_unfed k (n / 10) (digit_glyph false (n % 10) ∷ behind) more)

pub number : (n : ℕ) → Unfed (decimal n)
unfolding digits
number n = digits_unfed 64 n [] refl

signed : (z : ℤ) → Unfed (signed_decimal z)
signed (pos n) = number n
signed (negsuc n) = byte_first 45 (decimal (suc n)) refl (number (suc n))

pub hex_unfed : (bytes : List ℕ) → Unfed (hex bytes)
hex_unfed [] = refl
hex_unfed (b ∷ bytes) =
    byte_first (digit_glyph false (b / 16)) (digit_glyph false (b % 16) ∷ hex bytes) (glyph (b / 16))
    (byte_first (digit_glyph false (b % 16)) (hex bytes) (glyph (b % 16)) (hex_unfed bytes))

-- ---- actions

argument_unfed : (a : Argument IdParts Token) → Unfed (argument_text a)
argument_unfed (arg.Int n) = both (codes "int:") (signed_decimal n) refl (signed n)
argument_unfed (arg.Uint n) = both (codes "uint:") (decimal n) refl (number n)
argument_unfed (arg.Fixed n) = both (codes "fixed:") (signed_decimal n) refl (signed n)
argument_unfed (arg.Str None) = refl
argument_unfed (arg.Str (Some bytes)) = both (codes "str:") (hex bytes) refl (hex_unfed bytes)
argument_unfed (arg.Object id) = both (codes "object:") (decimal id.number) refl (number id.number)
argument_unfed (arg.NewId id) = both (codes "new:") (decimal id.number) refl (number id.number)
argument_unfed (arg.Array bytes) = both (codes "array:") (hex bytes) refl (hex_unfed bytes)
argument_unfed (arg.Fd token) = both (codes "fd:") (signed_decimal token.0) refl (signed token.0)

module _ {X : Type 0} (byte : ℕ) (text : X → Line) (other : (byte == 10) ≡ false) (each : (x : X) → Unfed (text x)) where
  behind_unfed : (xs : List X) → Unfed (flat_map (after_byte byte text) xs)
  behind_unfed [] = refl
  behind_unfed (x ∷ xs) = both (byte ∷ text x) (flat_map (after_byte byte text) xs) (byte_first byte (text x) other (each x)) (behind_unfed xs)

  joined_unfed : (xs : List X) → Unfed (joined byte text xs)
  joined_unfed [] = refl
  joined_unfed (x ∷ xs) = both (text x) (flat_map (after_byte byte text) xs) (each x) (behind_unfed xs)

flag_unfed : (b : Bool) → Unfed (flag_text b)
flag_unfed true = refl
flag_unfed false = refl

created_unfed : (id : Option IdParts) → Unfed (created_text id)
created_unfed None = refl
created_unfed (Some id) = number id.number

effect_unfed : (is_destructor : Bool) (created : Option IdParts) → Unfed (effect_text is_destructor created)
effect_unfed is_destructor created =
    let front = both (codes " destructor=") (flag_text is_destructor) refl (flag_unfed is_destructor) in
    let named = both (codes " destructor=" ++ flag_text is_destructor) (codes " created=") front refl in
    both (codes " destructor=" ++ flag_text is_destructor ++ codes " created=") (created_text created) named (created_unfed created)

-- two numbers behind a text
pub two_numbers : (front : List ℕ) (m n : ℕ) → Unfed front → Unfed (front ++ decimal m ++ codes " " ++ decimal n)
two_numbers front m n plain =
    let one = both front (decimal m) plain (number m) in
    both (front ++ decimal m ++ codes " ") (decimal n) (both (front ++ decimal m) (codes " ") one refl) (number n)

action_unfed : (h : Handed) → Unfed (action_text h)
action_unfed (Request sender opcode args is_destructor created) =
    let named = codes "request " ++ decimal sender.number ++ codes " " ++ decimal opcode in
    let opens = both named (codes " [") (two_numbers (codes "request ") sender.number opcode refl) refl in
    let listed = both (named ++ codes " [") (arguments_text args) opens (joined_unfed 32 argument_text refl argument_unfed args) in
    let closes = both (named ++ codes " [" ++ arguments_text args) (codes "]") listed refl in
    both (named ++ codes " [" ++ arguments_text args ++ codes "]") (effect_text is_destructor created) closes (effect_unfed is_destructor created)
action_unfed (Bind global object) = two_numbers (codes "bind ") global.name object.number refl
action_unfed (Registry object) = both (codes "registry ") (decimal object.number) refl (number object.number)

fault_unfed : (e : ActionError) → Unfed (fault_text e)
fault_unfed ActionOpen = refl
fault_unfed (Io fault.WouldBlock) = refl
fault_unfed (Io fault.Pipe) = refl
fault_unfed (Io fault.TooBig) = refl
fault_unfed (Io fault.Proto) = refl
fault_unfed (Io fault.InvalidInput) = refl
fault_unfed (Io fault.OutOfMemory) = refl
fault_unfed (Io (fault.Other n)) = refl

-- ---- answers

insert_unfed : (e : InsertClientError) → Unfed (refusal_text (insert_name e))
insert_unfed insert.Full = refl
insert_unfed insert.OutOfMemory = refl

global_unfed : (e : GlobalError) → Unfed (refusal_text (global_name e))
global_unfed global.UnknownInterface = refl
global_unfed global.VersionTooHigh = refl
global_unfed global.Full = refl
global_unfed global.OutOfMemory = refl

script_unfed : (e : ScriptError) → Unfed (refusal_text (script_name e))
script_unfed script.InvalidId = refl
script_unfed script.TooManyTokens = refl
script_unfed script.OutOfMemory = refl

finish_unfed : (e : FinishError) → Unfed (refusal_text (finish_name e))
finish_unfed finish.InvalidId = refl
finish_unfed finish.NoOpenAction = refl
finish_unfed finish.WrongKind = refl
finish_unfed finish.MissingObjectData = refl
finish_unfed finish.UnexpectedData = refl
finish_unfed finish.OutOfMemory = refl

answer_unfed : (p : BenchReply) → Unfed (answer_text p)
answer_unfed (reply.InsertClient (Ok id)) = two_numbers (codes "client ") id.slot id.serial refl
answer_unfed (reply.InsertClient (Err e)) = insert_unfed e
answer_unfed (reply.CreateGlobal (Ok id)) = two_numbers (codes "global ") id.name id.serial refl
answer_unfed (reply.CreateGlobal (Err e)) = global_unfed e
answer_unfed (reply.NextAction (Ok action)) = action_unfed (handed action)
answer_unfed (reply.NextAction (Err e)) = fault_unfed e
answer_unfed (reply.FinishRequest (Err refused)) = finish_unfed refused.error
answer_unfed (reply.FinishBind (Err refused)) = finish_unfed refused.error
answer_unfed (reply.Arrive (Err e)) = script_unfed e
answer_unfed (reply.ArriveFault (Err e)) = script_unfed e
answer_unfed (reply.Accept (Err e)) = script_unfed e
answer_unfed (reply.AcceptFault (Err e)) = script_unfed e
answer_unfed _ = refl

-- ---- lines

abbrev pub AllUnfed : List Line → Type 0
AllUnfed [] = ⊤
AllUnfed (line ∷ all) = Unfed line × AllUnfed all

all_both : (a b : List Line) → AllUnfed a → AllUnfed b → AllUnfed (a ++ b)
all_both [] b first rest = rest
all_both (line ∷ a) b first rest = (first.0, all_both a b first.1 rest)

answers_unfed : (p : BenchReply) → tells p ≡ true → AllUnfed (answer_lines p)
answers_unfed (reply.TakeNotes r) some = absurd (true≢false (sym some))
answers_unfed p some = (answer_unfed p, tt)

token_unfed : (t : Token) → Unfed (token_text t)
token_unfed t = signed t.0

tokens_unfed : (tokens : List Token) → Unfed (tokens_text tokens)
tokens_unfed [] = refl
tokens_unfed (t ∷ tokens) = joined_unfed 44 token_text refl token_unfed (t ∷ tokens)

sent_unfed : (slot : ℕ) (sends : List Queue) → AllUnfed (sent_lines slot sends)
sent_unfed slot [] = tt
sent_unfed slot (q ∷ sends) =
    let bytes = flat_map bytes_of (q ∷ sends) in
    let tokens = flat_map tokens_of (q ∷ sends) in
    let place = both (codes "out ") (decimal slot) refl (number slot) in
    let space = both (codes "out " ++ decimal slot) (codes " ") place refl in
    let some = both (codes "out " ++ decimal slot ++ codes " ") (hex bytes) space (hex_unfed bytes) in
    let next = both (codes "out " ++ decimal slot ++ codes " " ++ hex bytes) (codes " ") some refl in
    (both (codes "out " ++ decimal slot ++ codes " " ++ hex bytes ++ codes " ") (tokens_text tokens) next (tokens_unfed tokens), tt)

shares_unfed : (shares : List (ClientParts × Script)) → AllUnfed (flat_map share_lines shares)
shares_unfed [] = tt
shares_unfed (s ∷ shares) = all_both (share_lines s) (flat_map share_lines shares) (sent_unfed s.0.slot s.1.sent) (shares_unfed shares)

taken_out_unfed : (p : BenchReply) → AllUnfed (taken_out_lines p)
taken_out_unfed (reply.Cleanup (Ok out)) = shares_unfed out.items
taken_out_unfed _ = tt

record_unfed : (c : ClientParts) (p : BenchReply) → AllUnfed (record_lines c p)
record_unfed c (reply.TakeSent (Ok sends)) = sent_unfed c.slot (map parcel sends.items)
record_unfed c _ = tt

records_unfed : (heard : List ClientParts) (taken : List BenchReply) → AllUnfed (records_lines heard taken)
records_unfed [] taken = tt
records_unfed (c ∷ heard) [] = tt
records_unfed (c ∷ heard) (p ∷ taken) = all_both (record_lines c p) (records_lines heard taken) (record_unfed c p) (records_unfed heard taken)

-- what is printed behind the answer
pub printed_behind : (heard : List ClientParts) (p : BenchReply) (taken : List BenchReply) → AllUnfed (answer_lines p) → AllUnfed (printed heard p taken)
printed_behind heard p taken answer =
    all_both (answer_lines p) (taken_out_lines p ++ records_lines heard taken) answer
    (all_both (taken_out_lines p) (records_lines heard taken) (taken_out_unfed p) (records_unfed heard taken))

printed_unfed : (heard : List ClientParts) (p : BenchReply) (taken : List BenchReply) → tells p ≡ true → AllUnfed (printed heard p taken)
printed_unfed heard p taken some = printed_behind heard p taken (answers_unfed p some)

-- ---- a command

quiet_unfed : (b x : BenchState) (command : Command) (out : List Line) → IsQuiet command → DoesForAll b command out x → AllUnfed out
quiet_unfed b x command out quiet (s, call, p, taken, makes, printed_is, clients, globals) =
    let some = quiet_tells command quiet b b.server s p call (first_told s (heard_by b command) p taken b.server x.server makes) in
    subst AllUnfed (sym printed_is) (printed_unfed (heard_by b command) p taken some)

pub does_unfed : (b x : BenchState) (n : ℕ) (command : Command) (out : List Line) → (DoesForAll b Notes out x → AllUnfed out) → Does b n command out x → AllUnfed out
does_unfed b x n (Client slot c) out notes (seat, here, p, taken, makes, printed_is, clients, globals) =
    let speaking = last_speaks seat.client (client_calls seat n c) (take_step seat.client ∷ []) makes.0 p taken b.server x.server (calls_stay seat n c) makes.1 makes.3 in
    subst AllUnfed (sym printed_is) (printed_unfed (seat.client ∷ []) p taken (speaks_tells p speaking))
does_unfed b x n (Dispatch slots) out notes (clients, are, count, mid, does, taken, takes, printed_is, kept, globals) =
    subst AllUnfed (sym printed_is) (both (codes "dispatched ") (decimal count) refl (number count), records_unfed (all_clients b) taken)
does_unfed b x n Insert out notes does = quiet_unfed b x Insert out tt does
does_unfed b x n (Create name version) out notes does = quiet_unfed b x (Create name version) out tt does
does_unfed b x n (Disable name) out notes does = quiet_unfed b x (Disable name) out tt does
does_unfed b x n (Remove name) out notes does = quiet_unfed b x (Remove name) out tt does
does_unfed b x n Flush out notes does = quiet_unfed b x Flush out tt does
does_unfed b x n Cleanup out notes does = quiet_unfed b x Cleanup out tt does
does_unfed b x n Notes out notes does = notes does

-- ---- records

-- the lines of the commands have none
abbrev pub LinesUnfed : List Recorded → Type 0
LinesUnfed [] = ⊤
LinesUnfed (t ∷ told) = Unfed t.line × LinesUnfed told

line_unfed : (line : Line) → IsOneLine line → Unfed line
line_unfed [] one = refl
line_unfed (b ∷ line) one = byte_first b line (ne_eqb b 10 (All-head (λ (c : ℕ). c ≢ 10) b line one)) (line_unfed line (All-tail (λ (c : ℕ). c ≢ 10) b line one))

quoted_unfed : (output : List Line) → All IsOneLine output → AllUnfed (map quoted output)
quoted_unfed [] all = tt
quoted_unfed (line ∷ output) all =
    let first = line_unfed line (All-head IsOneLine line output all) in
    (byte_first 62 (32 ∷ line) refl (byte_first 32 line refl first), quoted_unfed output (All-tail IsOneLine line output all))

pub recording_unfed : (told : List Recorded) → All PrintsLines told → LinesUnfed told → AllUnfed (recording_of told)
recording_unfed [] prints plain = tt
recording_unfed (t ∷ told) prints plain =
    all_both (record_of t) (recording_of told) (
      both (decimal t.number) (32 ∷ t.line) (number t.number) (byte_first 32 t.line refl plain.0),
      quoted_unfed t.answer (All-head PrintsLines t told prints),
    ) (recording_unfed told (All-tail PrintsLines t told prints) plain.1)

-- ---- a text of lines

parts_fed : (line rest : List ℕ) → Unfed line → parts 10 (line ++ 10 ∷ rest) ≡ line ∷ parts 10 rest
parts_fed [] rest plain = refl
parts_fed (b ∷ line) rest plain =
    let p = byte_parts b line plain in
    ap (λ (c : Bool). cond c ([] ∷ parts 10 (line ++ 10 ∷ rest)) (onto_first b (parts 10 (line ++ 10 ∷ rest)))) p.0 ∙ ap (onto_first b) (parts_fed line rest p.1)

parts_text : (all : List Line) → AllUnfed all → parts 10 (text_of all) ≡ all ++ [] ∷ []
parts_text [] plain = refl
parts_text (line ∷ all) plain =
    ap (parts 10) (append_assoc line (10 ∷ []) (text_of all)) ∙ (parts_fed line (text_of all) plain.0 ∙ ap (λ (l : List Line). line ∷ l) (parts_text all plain.1))

whole_text : (all : List Line) → whole_lines (all ++ [] ∷ []) ≡ all
whole_text [] = refl
whole_text (line ∷ all) =
    goes_on line (all ++ [] ∷ []) (let n = length_more all in omega (arith, n)) ∙ ap (λ (l : List Line). line ∷ l) (whole_text all)
  where
    length_more : (xs : List Line) → 0 < length (xs ++ [] ∷ [])
    length_more [] = omega arith
    length_more (x ∷ xs) = omega arith

-- the text of lines without line feeds has these lines
pub lines_text : (all : List Line) → AllUnfed all → lines (text_of all) ≡ all
lines_text all plain = ap whole_lines (parts_text all plain) ∙ whole_text all

-- ---- the lines of an input

onto_unfed : (b : ℕ) (ls : List Line) → (b == 10) ≡ false → AllUnfed ls → AllUnfed (onto_first b ls)
onto_unfed b [] other all = (byte_first b [] other refl, tt)
onto_unfed b (l ∷ ls) other all = (byte_first b l other all.0, all.1)

parts_unfed : (input : List ℕ) → AllUnfed (parts 10 input)
parts_unfed [] = (refl, tt)
parts_unfed (b ∷ input) = at (b == 10) refl (parts_unfed input)
  where
    at : (c : Bool) → (b == 10) ≡ c → AllUnfed (parts 10 input) → AllUnfed (cond c ([] ∷ parts 10 input) (onto_first b (parts 10 input)))
    at true is all = (refl, all)
    at false is all = onto_unfed b (parts 10 input) is all

whole_unfed : (ls : List Line) → AllUnfed ls → AllUnfed (whole_lines ls)
whole_unfed [] all = tt
whole_unfed ([] ∷ []) all = tt
whole_unfed ((b ∷ l) ∷ []) all = all
whole_unfed (l ∷ next ∷ rest) all = (all.0, whole_unfed (next ∷ rest) all.1)

pub lines_unfed : (input : List ℕ) → AllUnfed (lines input)
lines_unfed input = whole_unfed (parts 10 input) (parts_unfed input)
