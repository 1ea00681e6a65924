-- The program `wl-relay`: what it writes for the lines that it reads, how it ends, and its exit status.
use Rattle.std.specs.Prelude.{⊤, ◌≡◌, ◌≢◌, ℕ, suc, ◌+◌, ◌<◌, ◌⊎◌, List, [], ◌∷◌, ◌++◌, length, map, codes, Option, Result, Ok, Err}
use Rattle.std.specs.Fmt.{decimal, signed_decimal}
use Rattle.std.specs.Io.KnownBytes.{Appends, Keeps}
use Rattle.std.specs.List.{flat_map}
use Rattle.std.specs.Str.{IsUtf8}
use Rattle.wl_wire.specs.declared.argument.Token.{Token}
use Rattle.wl_wire.specs.declared.protocol.TableError.{TableError}
use Rattle.wl_wire.specs.declared.protocol.TableError.TheVariants as fault
use Rattle.wl_wire.specs.Table.{InterfaceRow, IsAcceptedTable, IsFirstFault, fixed_rows}
use Rattle.wl_link.specs.Exchange.{Queue, nothing}
use Rattle.wl_follow.specs.Sides.{side_name}
use Rattle.wl_follow.specs.declared.side.Side.{Side}
use Rattle.wl_follow.specs.declared.side.Side.TheVariants.{Client, Server}
use Rattle.wl_relay.specs.declared.mode.Mode.{Mode}
use Rattle.wl_relay.specs.declared.mode.Mode.TheVariants.{HandOn, Log}
use Rattle.wl_relay.specs.declared.stop.Stop.{Stop}
use Rattle.wl_relay.specs.declared.stop.Stop.TheVariants.{BadLine, BadTable, Failed}
use Rattle.wl_relay.specs.Flow.{AreOpen, Arrives, Begins, KeepsOtherWay, Logged, ReadsAll, RelayState, TakesLog, TakesOut, made_ready, not_received, to_send}
use Rattle.wl_relay.specs.Input.{Line, fed, text_of}
use Rattle.wl_relay.specs.Rows.{AddsRow}
use Rattle.wl_relay.specs.Words.{AreBytes, AreTokens, Word, hex, words}

-- ---- the table

-- the line ends the table, and says what is done
abbrev pub EndsTable : Mode → Line → Type 0
EndsTable HandOn line = line ≡ codes "relay"
EndsTable Log line = line ≡ codes "log"

-- the line, which is text, is a row
abbrev pub IsRow : List InterfaceRow → Line → List InterfaceRow → Type 0
IsRow rows line rows' = IsUtf8 line × AddsRow rows (words line) rows'

-- each line is a row, and these are the interfaces after the last one
abbrev pub AreRows : List InterfaceRow → List Line → List InterfaceRow → Type 0
AreRows rows [] rows' = rows' ≡ rows
AreRows rows (line ∷ rest) rows' = (mid : List InterfaceRow) × IsRow rows line mid × AreRows mid rest rows'

-- a line of the table is bad: it neither ends the table nor is a row
abbrev pub IsBadRow : List InterfaceRow → Line → Type 0
IsBadRow rows line = ((mode : Mode) → ¬ (EndsTable mode line)) × ((rows' : List InterfaceRow) → ¬ (IsRow rows line rows'))

-- ---- what came

-- the word names the side
abbrev pub NamesSide : Side → Word → Type 0
NamesSide side word = word ≡ side_name side

-- the words say that this came from that side
abbrev pub SayCame : Side → Queue → List Word → Type 0
SayCame side came ws =
    (name bytes tokens : Word) × (ws ≡ name ∷ bytes ∷ tokens ∷ []) × NamesSide side name × AreBytes came.bytes bytes
    × AreTokens came.tokens tokens

-- the line is text, and its words say so
abbrev pub IsArrival : Side → Queue → Line → Type 0
IsArrival side came line = IsUtf8 line × SayCame side came (words line)

-- more tokens came than may wait for their first byte
abbrev pub IsTooMany : RelayState → Side → Queue → Type 0
IsTooMany r side came = 28 < length (not_received side r).tokens + length came.tokens

-- the line is bad: it says nothing that came, or too many tokens
abbrev pub IsBad : RelayState → Line → Type 0
IsBad r line =
    ((side : Side) (came : Queue) → ¬ (IsArrival side came line))
    ⊎ ((side : Side) × (came : Queue) × IsArrival side came line × IsTooMany r side came)

-- ---- what is written

abbrev pub token_text : Token → Word
token_text token = signed_decimal token.0

abbrev pub after_comma : Token → Word
after_comma token = 44 ∷ token_text token

-- tokens with commas between, or `-` for none
abbrev pub tokens_text : List Token → Word
tokens_text [] = codes "-"
tokens_text (t ∷ tokens) = token_text t ++ flat_map after_comma tokens

-- the line of a send
abbrev pub sent_line : Side → Queue → Line
sent_line side q = codes "to " ++ side_name side ++ codes " " ++ hex q.bytes ++ codes " " ++ tokens_text q.tokens

-- the lines of sends to a side; a log has none
abbrev pub sent_lines : Mode → Side → List Queue → List Line
sent_lines HandOn side sends = map (sent_line side) sends
sent_lines Log side sends = []

-- the line of a line of the log
abbrev pub logged_line : List ℕ → Line
logged_line text = codes "log " ++ text

-- the whole answer: the lines of the log, what is sent to the server and to the client, and `ok`
abbrev pub answer : Mode → List (List ℕ) → List Queue → List Queue → List Line
answer mode log to_server to_client =
    map logged_line log ++ (sent_lines mode Server to_server ++ (sent_lines mode Client to_client ++ codes "ok" ∷ []))

-- these were taken out for the side, one after another
abbrev pub TakesEach : Side → List Queue → RelayState → RelayState → Type 0
TakesEach side [] before after = after ≡ before
TakesEach side (q ∷ sends) before after = (mid : RelayState) × TakesOut side q before mid × TakesEach side sends mid after

-- no byte is left to be sent to the side
abbrev pub SentAll : Side → RelayState → Type 0
SentAll side r = (to_send side r).bytes ≡ []

-- nothing was made ready by a call that then failed
abbrev pub HasNoneReady : RelayState → Type 0
HasNoneReady r = (made_ready Client r ≡ nothing) × (made_ready Server r ≡ nothing)

-- Nothing is left in the relay that waits to be taken out: no byte for either side, and no line of the log.
pub record IsEmptied (r : RelayState) : Type 0 where
  pub to_server : SentAll Server r
  pub to_client : SentAll Client r
  pub no_log : r.known.log ≡ []
  pub none_ready : HasNoneReady r

-- All that waited in the relay was taken out, and told by these lines; in a log, too, where sends are not written.
pub record Serves (mode : Mode) (before : RelayState) (out : List Line) (after : RelayState) : Type 0 where
  pub logged : RelayState
  pub served : RelayState
  pub log : List (List ℕ)
  pub to_server : List Queue
  pub to_client : List Queue
  pub takes_log : TakesLog log before logged
  pub serves_server : TakesEach Server to_server logged served
  pub serves_client : TakesEach Client to_client served after
  pub out_is : out ≡ answer mode log to_server to_client
  pub emptied : IsEmptied after

-- The relay took what came from the side, and read all that is whole.
pub record Takes (side : Side) (came : Queue) (before after : RelayState) : Type 0 where
  pub arrives : Arrives side came before after
  pub logged : Logged side came before after
  pub reads_all : ReadsAll side after
  pub other_way : KeepsOtherWay side before after

-- what came was taken, and answered by these lines
abbrev pub AnswersTo : Mode → Side → Queue → RelayState → List Line → RelayState → Type 0
AnswersTo mode side came before out after = (taken : RelayState) × Takes side came before taken × Serves mode taken out after

-- a line that says what came was answered so
abbrev pub Answered : Mode → RelayState → Line → List Line → RelayState → Type 0
Answered mode before line out after = (side : Side) × (came : Queue) × IsArrival side came line × AnswersTo mode side came before out after

-- the lines are answered one after another by this
abbrev pub Answer : Mode → RelayState → List Line → List Line → RelayState → Type 0
Answer mode before [] out after = (out ≡ []) × (after ≡ before)
Answer mode before (line ∷ rest) out after =
    (first others : List Line) × (mid : RelayState) × Answered mode before line first mid × Answer mode mid rest others after
    × (out ≡ first ++ others)

-- ---- a run

-- a relay of a session that begins
abbrev pub IsNewRelay : Mode → List InterfaceRow → RelayState → Type 0
IsNewRelay mode table r = Begins r × AreOpen r × (r.table ≡ table) × (r.known.mode ≡ mode)

-- How a run ends that has begun with this relay, and what it has written; `n` is the number of its first line. It ends with `Ok` if
-- each line says what came, and else at the first bad line, with its number. Nothing is said of a run that failed.
abbrev pub RunsLines : Mode → ℕ → RelayState → List Line → Result (Unit {0}) Stop → Option (List ℕ) → Option (List ℕ) → Type 0
RunsLines mode n begun all (Ok _) held held' =
    (out : List Line) × (after : RelayState) × Answer mode begun all out after × Appends held held' (text_of out)
RunsLines mode n begun all (Err (BadLine m)) held held' =
    (front rest : List Line) × (line : Line) × (out : List Line) × (after : RelayState)
    × (all ≡ front ++ line ∷ rest) × (m ≡ n + length front) × Answer mode begun front out after × IsBad after line
    × Appends held held' (text_of out)
RunsLines mode n begun all (Err (BadTable f)) held held' = ⊥
RunsLines mode n begun all (Err Failed) held held' = ⊤

-- the table that the rows say: the fixed interfaces, and these
abbrev pub table_with : List InterfaceRow → List InterfaceRow
table_with rows = fixed_rows ++ rows

-- the first lines are rows, and the next one ends the table
pub record HasTable (all : List Line) (mode : Mode) (rows : List InterfaceRow) (count : ℕ) (rest : List Line) : Type 0 where
  pub front : List Line
  pub last : Line
  pub lines_are : all ≡ front ++ last ∷ rest
  pub are_rows : AreRows [] front rows
  pub ends : EndsTable mode last
  pub count_is : count ≡ suc (length front)

-- The table has no end: this is the number of its first bad line, or of the line that the input lacks.
abbrev pub LacksTable : List Line → ℕ → Type 0
LacksTable all n =
    (front : List Line) × (rows : List InterfaceRow) × AreRows [] front rows × (n ≡ suc (length front))
    × ((all ≡ front) ⊎ ((line : Line) × (rest : List Line) × (all ≡ front ++ line ∷ rest) × IsBadRow rows line))

-- the table is read and taken, and a relay of it answers the lines after it
abbrev pub RunsOver : List Line → Result (Unit {0}) Stop → Option (List ℕ) → Option (List ℕ) → Type 0
RunsOver all end held held' =
    (mode : Mode) × (rows : List InterfaceRow) × (count : ℕ) × (rest : List Line) × (begun : RelayState)
    × HasTable all mode rows count rest × IsAcceptedTable (table_with rows) × IsNewRelay mode (table_with rows) begun
    × RunsLines mode (suc count) begun rest end held held'

-- the table is read, but has this fault, and none before it
abbrev pub HasBadTable : List Line → TableError → Type 0
HasBadTable all f =
    (mode : Mode) × (rows : List InterfaceRow) × (count : ℕ) × (rest : List Line)
    × HasTable all mode rows count rest × (f ≢ fault.OutOfMemory) × IsFirstFault (table_with rows) f

-- How the program ends over these lines, and what it has written after what the writer held, if that is known. Nothing is said of a
-- run that failed.
abbrev pub Runs : List Line → Result (Unit {0}) Stop → Option (List ℕ) → Option (List ℕ) → Type 0
Runs all (Ok done) held held' = RunsOver all (Ok done) held held'
Runs all (Err (BadLine n)) held held' = RunsOver all (Err (BadLine n)) held held' ⊎ (LacksTable all n × Keeps held held')
Runs all (Err (BadTable f)) held held' = HasBadTable all f × Keeps held held'
Runs all (Err Failed) held held' = ⊤

-- ---- how it ends

-- the end for a table that is not taken
abbrev pub stop_of : TableError → Stop
stop_of fault.OutOfMemory = Failed
stop_of f = BadTable f

-- What is told on standard error. The text of a table's fault is not stated.
abbrev pub Tells : Result (Unit {0}) Stop → Option (List ℕ) → Option (List ℕ) → Type 0
Tells (Ok done) held held' = Keeps held held'
Tells (Err (BadLine n)) held held' = Appends held held' (fed (codes "line " ++ decimal n ++ codes ": bad line"))
Tells (Err (BadTable f)) held held' = ⊤
Tells (Err Failed) held held' = Appends held held' (fed (codes "failed"))

-- the exit status
abbrev pub status_of : Result (Unit {0}) Stop → ℕ
status_of (Ok done) = 0
status_of (Err (BadLine n)) = 2
status_of (Err (BadTable f)) = 2
status_of (Err Failed) = 3
