-- While the next cleanup would not look for killed clients, nobody is killed: no call ends that.
use Rattle.std.proofs.Common.{◌≡◌, ℕ, ℤ, Bool, true, false, inl, inr, List, [], ◌∷◌, Option, None, Some, Result, Ok, Err, is_some, refl, ap, sym, subst, ◌∙◌, true≢false}
use Rattle.std.proofs.lemmas.Bool.{false≢true}
use Rattle.std.specs.Global.{Global}
use Rattle.std.specs.Prelude.{◌==◌, MatchOption, MatchResult, Vec, length, nat_lt}
use Rattle.wl_link.proofs.Calls.Branches.{either_bool, either_option}
use Rattle.wl_link.specs.Mailbox.{MailboxState}
use Rattle.wl_link.specs.declared.mailbox.Ending.{Ending}
use Rattle.wl_server_client.specs.declared.error.ActionError.{ActionError}
use Rattle.wl_server_client.specs.declared.error.GlobalError.{GlobalError}
use Rattle.wl_server_client.specs.declared.notes.Note.{Note}
use Rattle.wl_server_client.specs.declared.reading.action.Action.{Action}
use Rattle.wl_server_client.specs.declared.reading.action.OpenAction.TheVariants as opened
use Rattle.wl_server_model.specs.declared.step.Reply.TheVariants as reply
use Rattle.wl_server_model.specs.declared.step.Step.TheVariants as step
use Rattle.wl_server_model.specs.Backend.{Calls, IsGrowth}
use Rattle.wl_server_client.specs.Deeds.{handed}
use Rattle.wl_server_client.specs.Ids.{ClientParts, GlobalParts, IdParts}
use Rattle.wl_server.specs.Lending.{state_over}
use Rattle.wl_server_model.specs.Lookups.{transport_of}
use Rattle.wl_server_model.specs.Plain.{action_in, killed_in}
use Rattle.wl_server_client.specs.Reading.{action_content}
use Rattle.wl_wire.specs.Table.{Extension, LongerRow, NewRows}
use Rattle.wl_wire.specs.declared.error.OutOfMemory.{OutOfMemory}
use Rattle.wl_host.proofs.JoinsOnce.{rows_once}
use Rattle.wl_host.proofs.Killing.{says_killed}
use Rattle.wl_host.proofs.Marking.{KillsNobody, action_kills, cleanup_leaves_none, creates_at_kills, creates_kills, finish_bind_kills, finish_request_kills, flush_kills, insert_kills, growth_kills, mailbox_kills, notes_kill, refused_global_kills, set_data_kills, set_version_kills}
use Rattle.wl_host.specs.Actions.{EndsAsAction, EndsBind, EndsRequest, Lent, NextAction, ReadsAllowed, ReadsIfAllowed, ReadsNext, ended, is_killed_by, marked_if, null_in, zero_for}
use Rattle.wl_host.specs.Calls.{CoreState, CreatesGlobal, CreatesObject, InsertsClient, SetsObjectData, interface_of, world}
use Rattle.wl_flat.specs.Status.{flattened, is_done, of_global}
use Rattle.wl_host.specs.Chosen.{ClaimsObject, CreatesObjectAt, SetsObjectVersion, TakesObject, unclaimed}
use Rattle.wl_host.specs.Cleaning.{CleansUp, DropsNotes, DropsUnlessKept}
use Rattle.wl_host.specs.Clients.{SetsRoom, inserted}
use Rattle.wl_flat.specs.Extending.{Lengthens, Parts, Takes, parts_of, told_at, told_of_new}
use Rattle.wl_host.specs.Events.{Passed, PostsError, SendsEvent}
use Rattle.wl_flat.specs.Flat.{client_of, flat_global}
use Rattle.wl_host.specs.Flushing.{FlushesClient}
use Rattle.wl_host.specs.Killed.{IsSettled, KnowsEnd, StaysSettled}
use Rattle.wl_host.specs.Notes.{Fetches, NextNote, noted, noted_if, text_of}
use Rattle.wl_flat.specs.Nulls.{is_refused}
use Rattle.wl_flat.specs.Kinds as kinds
use Rattle.wl_flat.specs.Rows.{fault_of}
use Rattle.wl_host.specs.Seats.{SeatsState, added, gone_all, ledger_at, ledger_of}
use Rattle.wl_host.specs.Server.{Asks, AsksInTurn, Ends, NextWritable, Received, ReceivedBy, Sent, SentBy, ServerState, TakesOut}
use Rattle.wl_host.specs.Tables.{AddsInterfaces, ExtendsInterfaces, IsNewServer, JoinsServer}
use Rattle.wl_flat.specs.declared.flat.FlatAction.{FlatAction}
use Rattle.wl_flat.specs.declared.flat.FlatArgument.{FlatArgument}
use Rattle.wl_flat.specs.declared.flat.FlatClientId.{FlatClientId}
use Rattle.wl_flat.specs.declared.flat.FlatGlobalId.{FlatGlobalId}
use Rattle.wl_flat.specs.declared.flat.FlatNote.{FlatNote}
use Rattle.wl_flat.specs.declared.flat.FlatObjectId.{FlatObjectId}
use Rattle.wl_flat.specs.declared.extending.ExtensionFault.{ExtensionFault}
use Rattle.wl_flat.specs.declared.rows.Rows.{Rows}
use Rattle.wl_flat.specs.declared.rows.TableFault.{TableFault}
use Rattle.wl_host.specs.declared.server.ledger.Ledger.{Ledger}
use Rattle.wl_flat.specs.declared.status.Status.{Status}
use Rattle.wl_flat.specs.declared.status.Status.TheVariants as status

-- ---- what a call comes to

pub stays_by : (b a : ServerState) → KillsNobody b.core a.core → a.may_clean_up ≡ b.may_clean_up → StaysSettled b a
stays_by b a kills same settled off id k = settled (sym same ∙ off) id (kills id k)

pub stays_marked : (b a : ServerState) → a.may_clean_up ≡ true → StaysSettled b a
stays_marked b a on settled off = absurd (true≢false (sym on ∙ off))

pub stays_same : (b a : ServerState) → a ≡ b → StaysSettled b a
stays_same b a e settled = subst IsSettled (sym e) settled

pub kills_same : (b a : CoreState) → a ≡ b → KillsNobody b a
kills_same b a e id k = ap (λ (c : CoreState). killed_in c id) (sym e) ∙ k

kills_then : (b m a : CoreState) → KillsNobody b m → KillsNobody m a → KillsNobody b a
kills_then b m a f g id k = f id (g id k)

-- the core is so
stays_core : (b a : ServerState) (core : CoreState) → KillsNobody b.core core → a.core ≡ core → a.may_clean_up ≡ b.may_clean_up → StaysSettled b a
stays_core b a core kills is same = stays_by b a (subst (KillsNobody b.core) (sym is) kills) same

-- ---- clients

pub insert_settled : (b a : ServerState) (u groups : ℕ) (hidden : List FlatGlobalId) (result : Result FlatClientId Status) → InsertsClient b.core u groups hidden result a.core
    → a ≡ inserted b a.core result u → StaysSettled b a
insert_settled b a u groups hidden result h e =
    stays_by b a (elim h [
      | inl asked ↦ insert_kills b.core a.core _ asked.0 asked.1 asked.3
      | inr none ↦ kills_same b.core a.core none.1
    ])
    (ap (λ (s : ServerState). s.may_clean_up) e ∙ flag result)
  where
    flag : (r : Result FlatClientId Status) → (inserted b a.core r u).may_clean_up ≡ b.may_clean_up
    flag (Ok id) = refl
    flag (Err s) = refl

over_mailbox : (b a : ServerState) (id : ClientParts) (m : MailboxState) → a.core ≡ state_over b.core id m → a.may_clean_up ≡ b.may_clean_up → StaysSettled b a
over_mailbox b a id m is same = stays_core b a (state_over b.core id m) (mailbox_kills b.core id m) is same

pub room_settled : (b a : ServerState) (id : ClientParts) (room : ℕ) (s : Status) → SetsRoom b id room s a → StaysSettled b a
room_settled b a id room s h =
    elim (either_option (transport_of b.core.server id) h) [
      | inl (none, (is, same)) ↦ stays_same b a same
      | inr (m, at, (is, e)) ↦ over_mailbox b a id _ (ap (λ (s : ServerState). s.core) e) (ap (λ (s : ServerState). s.may_clean_up) e)
    ]

-- ---- what arrives and what is sent

pub received_settled : (b a : ServerState) (id : ClientParts) (bytes : List ℕ) (ds : List ℤ) (s : Status) → Received b id bytes ds s a → StaysSettled b a
received_settled b a id bytes ds s h = by (ledger_of id b.seats.ledgers) (transport_of b.core.server id) h
  where
    by : (o : Option Ledger) (t : Option MailboxState) → ReceivedBy o t b id bytes ds s a → StaysSettled b a
    by None t g = stays_same b a g.1
    by (Some l) None g = stays_same b a g.1
    by (Some l) (Some m) g =
        elim g [
          | inl y ↦ over_mailbox b a id _ (ap (λ (s : ServerState). s.core) y.1) (ap (λ (s : ServerState). s.may_clean_up) y.1)
          | inr n ↦ stays_same b a n.1
        ]

pub ends_settled : (b a : ServerState) (id : ClientParts) (ending : Ending) (s : Status) → Ends b id ending s a → StaysSettled b a
ends_settled b a id ending s h =
    elim (either_option (transport_of b.core.server id) h) [
      | inl (none, same) ↦ stays_same b a same.1
      | inr (m, at, (is, e)) ↦ over_mailbox b a id _ (ap (λ (s : ServerState). s.core) e) (ap (λ (s : ServerState). s.may_clean_up) e)
    ]

pub sent_settled : (b a : ServerState) (id : ClientParts) (count : ℕ) (s : Status) → Sent b id count s a → StaysSettled b a
sent_settled b a id count s h = by (ledger_of id b.seats.ledgers) (transport_of b.core.server id) h
  where
    by : (o : Option Ledger) (t : Option MailboxState) → SentBy o t b id count s a → StaysSettled b a
    by None t g = stays_same b a g.1
    by (Some l) None g = stays_same b a g.1
    by (Some l) (Some m) g = over_mailbox b a id _ (ap (λ (s : ServerState). s.core) g.1) (ap (λ (s : ServerState). s.may_clean_up) g.1)

asked_kills : (b m : CoreState) (o : Option Ledger) (one : Result (Option ClientParts) OutOfMemory) → Asks b o one m → KillsNobody b m
asked_kills b m None one h = kills_same b m h.1
asked_kills b m (Some l) one h = flush_kills b m l.id h.0 h.1

asked_all_kills : (ledgers : List (Option Ledger)) (slots : List ℕ) (b a : CoreState) (found : Result (Option ClientParts) OutOfMemory) (rest : List ℕ)
    → AsksInTurn ledgers b slots found rest a → KillsNobody b a
asked_all_kills ledgers [] b a found rest h = kills_same b a h.2
asked_all_kills ledgers (slot ∷ slots) b a found rest h =
    kills_then b h.1 a (asked_kills b h.1 (ledger_at slot ledgers) h.0 h.2) (by h.0 h.3 (λ on. asked_all_kills ledgers slots h.1 a found rest on))
  where
    by : (one : Result (Option ClientParts) OutOfMemory)
        → MatchResult one
        (λ o. MatchOption o (AsksInTurn ledgers h.1 slots found rest a) (λ id. (found ≡ one) × (rest ≡ slots) × (a ≡ h.1)))
        (λ e. (found ≡ one) × (rest ≡ added slot slots) × (a ≡ h.1))
        → (AsksInTurn ledgers h.1 slots found rest a → KillsNobody h.1 a) → KillsNobody h.1 a
    by (Ok None) on later = later on
    by (Ok (Some id)) on later = kills_same h.1 a on.2
    by (Err e) on later = kills_same h.1 a on.2

pub writable_settled : (b a : ServerState) (result : Result FlatClientId Status) → NextWritable b result a → StaysSettled b a
writable_settled b a result h =
    stays_by b a (asked_all_kills b.seats.ledgers b.seats.writable b.core a.core h.0 a.seats.writable h.1) (ap (λ (s : ServerState). s.may_clean_up) h.3)

-- ---- objects and globals

pub creates_settled : (b a : ServerState) (client : FlatClientId) (i version u : ℕ) (result : Result FlatObjectId Status) → CreatesObject b.core client i version u result a.core
    → a ≡ record b { core = a.core } → StaysSettled b a
creates_settled b a client i version u result h e = stays_by b a (creates_kills b.core a.core _ _ version u h.0 h.1) (ap (λ (s : ServerState). s.may_clean_up) e)

pub data_settled : (b a : ServerState) (o : FlatObjectId) (u : ℕ) (s : Status) → SetsObjectData b.core o u s a.core → a ≡ record b { core = a.core } → StaysSettled b a
data_settled b a o u s h e = stays_by b a (set_data_kills b.core a.core _ u h.0 h.1) (ap (λ (s : ServerState). s.may_clean_up) e)

pub creates_at_settled : (b a : ServerState) (client : FlatClientId) (i version n u : ℕ) (result : Result FlatObjectId Status)
    → CreatesObjectAt b.core client i version n u result a.core
    → a ≡ record b { core = a.core } → StaysSettled b a
creates_at_settled b a client i version n u result h e =
    stays_by b a (creates_at_kills b.core a.core _ _ version n u h.0 h.1) (ap (λ (s : ServerState). s.may_clean_up) e)

pub version_settled : (b a : ServerState) (o : FlatObjectId) (version : ℕ) (s : Status) → SetsObjectVersion b.core o version s a.core → a ≡ record b { core = a.core }
    → StaysSettled b a
version_settled b a o version s h e = stays_by b a (set_version_kills b.core a.core _ version h.0 h.1) (ap (λ (s : ServerState). s.may_clean_up) e)

take_kills : (b a : CoreState) (o : FlatObjectId) (version u : ℕ) (result : Result FlatObjectId Status) → TakesObject b o version u result a → KillsNobody b a
take_kills b a o version u result (s, mid, set, by) =
    kills_then b mid a (set_version_kills b mid _ version set.0 set.1)
    (elim (either_bool (is_done s) by) [
      | inl given ↦ set_data_kills mid a _ u given.1.0 given.1.1
      | inr refused ↦ kills_same mid a refused.1
    ])

pub claims_settled : (b a : ServerState) (client : FlatClientId) (i version n u : ℕ) (result : Result FlatObjectId Status)
    → ClaimsObject b.core client i version n u result a.core → a ≡ record b { core = a.core } → StaysSettled b a
claims_settled b a client i version n u result h e =
    elim (either_bool (n == 0) h) [
      | inl new ↦ creates_settled b a client i version u result new e
      | inr chosen ↦
          elim (either_option (unclaimed b.core client i n) chosen) [
            | inl (none, at) ↦ creates_at_settled b a client i version n u result at e
            | inr (o, is, takes) ↦ stays_by b a (take_kills b.core a.core o version u result takes) (ap (λ (s : ServerState). s.may_clean_up) e)
          ]
    ]

pub flushes_settled : (b a : ServerState) (id : ClientParts) (s : Status) → FlushesClient b id s a → StaysSettled b a
flushes_settled b a id s h =
    elim (either_option (transport_of b.core.server id) h) [
      | inl (none, same) ↦ stays_same b a same.1
      | inr (m, at, (one, asks, says, e)) ↦ stays_by b a (flush_kills b.core a.core id asks.0 asks.1) (ap (λ (s : ServerState). s.may_clean_up) e)
    ]

pub refused_global_settled : (b a : ServerState) (i version u groups : ℕ) (hidden : List FlatClientId) (s : Status) → CreatesGlobal b.core i version u groups hidden (Err s) a.core
    → a ≡ record b { core = a.core } → StaysSettled b a
refused_global_settled b a i version u groups hidden s h e = stays_by b a kills (ap (λ (s : ServerState). s.may_clean_up) e)
  where
    by : (answer : Result GlobalParts GlobalError) (g : _) → Calls world b.core (step.CreateGlobal (interface_of i) version g) (reply.CreateGlobal answer) a.core
        → Err s ≡ flattened flat_global of_global answer → KillsNobody b.core a.core
    by (Ok id) g call is = absurd cc
    by (Err f) g call is = refused_global_kills b.core a.core _ version g f call

    kills : KillsNobody b.core a.core
    kills = elim h [
      | inl asked ↦ by asked.1 asked.0 asked.3 asked.4
      | inr none ↦ kills_same b.core a.core none.1
    ]

pub interfaces_settled : (b a : ServerState) (rows : Rows) (result : Result (Unit {0}) TableFault) → AddsInterfaces rows b.core result a.core → a ≡ record b { core = a.core }
    → StaysSettled b a
interfaces_settled b a rows result h e =
    stays_by b a (elim h [
      | inl asked ↦ growth_kills b.core a.core (NewRows asked.0) asked.1 asked.3
      | inr refused ↦ kills_same b.core a.core refused.3
    ])
    (ap (λ (s : ServerState). s.may_clean_up) e)

lengthens_kill : (longer : List (ℕ × Extension)) (b a : CoreState) (result : Result (Unit {0}) ExtensionFault) → Lengthens (IsGrowth world) b longer result a → KillsNobody b a
lengthens_kill [] b a result done = kills_same b a done.1
lengthens_kill (more ∷ others) b a result did =
    let (mid, answer, grows, rest) = did in
    kills_then b mid a (growth_kills b mid (LongerRow more.1) answer grows)
    ((elim answer as (λ r. MatchResult r (λ _. Lengthens (IsGrowth world) mid others result a) (λ e. (result ≡ Err (told_at more.0 (fault_of e))) × (a ≡ mid)) → KillsNobody mid a) [
      | Ok u ↦ λ h. lengthens_kill others mid a result h
      | Err e ↦ λ h. kills_same mid a h.1
    ]) rest)

takes_kill : (parts : Parts) (b a : CoreState) (result : Result (Unit {0}) ExtensionFault) → Takes (IsGrowth world) b parts result a → KillsNobody b a
takes_kill parts b a result did =
    let (mid, answer, grows, rest) = did in
    kills_then b mid a (growth_kills b mid (NewRows parts.new_rows) answer grows)
    ((elim answer as (λ r. MatchResult r (λ _. Lengthens (IsGrowth world) mid parts.longer result a) (λ e. (result ≡ Err (told_of_new parts.new_at (fault_of e))) × (a ≡ mid)) → KillsNobody mid a) [
      | Ok u ↦ λ h. lengthens_kill parts.longer mid a result h
      | Err e ↦ λ h. kills_same mid a h.1
    ]) rest)

pub extends_settled : (b a : ServerState) (rows : Rows) (result : Result (Unit {0}) ExtensionFault) → ExtendsInterfaces rows b.core result a.core → a ≡ record b { core = a.core }
    → StaysSettled b a
extends_settled b a rows result h e =
    stays_by b a (elim h [
      | inl read ↦ elim read.2 [
        | inl faulty ↦ kills_same b.core a.core faulty.3
        | inr agrees ↦ elim agrees [
          | inl refused ↦ kills_same b.core a.core refused.2
          | inr takes ↦ takes_kill (parts_of b.core.server.offer.table read.0) b.core a.core result takes.1
        ]
      ]
      | inr refused ↦ kills_same b.core a.core refused.3
    ])
    (ap (λ (s : ServerState). s.may_clean_up) e)

pub joins_settled : (b a : ServerState) (rows : Rows) (result : Result ℕ ExtensionFault) → JoinsServer rows b.core result a.core → a ≡ record b { core = a.core }
    → StaysSettled b a
joins_settled b a rows result h e =
    stays_by b a (elim (rows_once (IsGrowth world) b.core.server.offer.table rows b.core a.core result h) [
      | inl same ↦ kills_same b.core a.core same
      | inr grown ↦ growth_kills b.core a.core grown.0 grown.1 grown.2
    ])
    (ap (λ (s : ServerState). s.may_clean_up) e)

-- ---- actions

says_same : (r : Result Action ActionError) → says_killed (action_content r) ≡ is_killed_by r
says_same (Ok a) = refl
says_same (Err e) = refl

read_kills : (b a : CoreState) (id : ClientParts) (kept : Option Action) (read : Result Action ActionError) → is_killed_by read ≡ false → ReadsNext b id kept read a
    → KillsNobody b a
read_kills b a id None read off h = action_kills b a id read (says_same read ∙ off) h
read_kills b a id (Some kept) read off h = kills_same b a h.1

-- while nulls are refused: a reading that killed nobody found an action without them, or none
allowed_same : (b a : CoreState) (id : ClientParts) (found read : Result Action ActionError) (left : Option Action) → is_killed_by read ≡ false
    → ReadsIfAllowed b id found read left a → (is_killed_by found ≡ false) × (a ≡ b)
allowed_same b a id (Err e) read left off (is, none, same) = (ap is_killed_by (sym is) ∙ off, same)
allowed_same b a id (Ok action) read left off h =
    elim (either_bool (is_refused true (null_in b (handed action))) h) [
      | inl (is, refused) ↦ absurd (true≢false (ap is_killed_by (sym is) ∙ off))
      | inr (is, none, same) ↦ (refl, same)
    ]

allowed_kills : (refuses : Bool) (b a : CoreState) (id : ClientParts) (kept : Option Action) (read : Result Action ActionError) (left : Option Action)
    → is_killed_by read ≡ false → ReadsAllowed refuses b id kept read left a → KillsNobody b a
allowed_kills false b a id kept read left off h = read_kills b a id kept read off h.0
allowed_kills true b a id kept read left off (found, core, reads, allowed) =
    let same = allowed_same core a id found read left off allowed in
    kills_then b core a (read_kills b core id kept found same.0 reads) (kills_same core a same.1)

pub action_settled : (b a : ServerState) (id : ClientParts) (arguments : List FlatArgument) (bytes : List ℕ) (s : Status) (lent : Lent) (out : List ℤ)
    → NextAction b id arguments bytes s lent out a → StaysSettled b a
action_settled b a id arguments bytes s lent out h =
    elim (either_option (ledger_of id b.seats.ledgers) h) [
      | inl (none, g) ↦ stays_same b a g.2
      | inr (l, is, (read, left, core, l', reads, hands, after)) ↦ by l read left core reads (is_killed_by read) refl _ after
    ]
  where
    by : (l : Ledger) (read : Result Action ActionError) (left : Option Action) (core : CoreState) → ReadsAllowed b.refuses_nulls b.core id l.kept read left core
        → (killed : Bool) → is_killed_by read ≡ killed
        → (seats : SeatsState) → a ≡ marked_if (is_killed_by read) (record b { core = core; seats = seats }) → StaysSettled b a
    by l read left core reads true on seats after =
        stays_marked b a (ap (λ (s : ServerState). s.may_clean_up) (after ∙ ap (λ k. marked_if k (record b { core = core; seats = seats })) on))
    by l read left core reads false off seats after =
        let e = after ∙ ap (λ k. marked_if k (record b { core = core; seats = seats })) off in
        stays_core b a core (allowed_kills b.refuses_nulls b.core core id l.kept read left off reads) (ap (λ (s : ServerState). s.core) e) (ap (λ (s : ServerState). s.may_clean_up) e)

pub bind_settled : (b a : ServerState) (id : ClientParts) (u : ℕ) (result : Result Bool Status) → EndsBind b id u result a → StaysSettled b a
bind_settled b a id u result h =
    elim (either_option (ledger_of id b.seats.ledgers) h) [
      | inl (none, g) ↦ stays_same b a g.1
      | inr (l, is, g) ↦
          elim (either_option l.kept g) [
            | inr (kept, at, f) ↦ stays_same b a f.1
            | inl (none, (answer, core, call, returns, told, after)) ↦
                stays_core b a core (finish_bind_kills b.core core id u _ call) (ap (λ (s : ServerState). s.core) after) (ap (λ (s : ServerState). s.may_clean_up) after)
          ]
    ]

pub request_settled : (b a : ServerState) (id : ClientParts) (u : Option ℕ) (result : Result Bool Status) → KnowsEnd b id → EndsRequest b id u result a → StaysSettled b a
request_settled b a id u result knows h =
    elim (either_option (ledger_of id b.seats.ledgers) h) [
      | inl (none, g) ↦ stays_same b a g.1
      | inr (l, is, g) ↦
          elim (either_option l.kept g) [
            | inr (kept, at, f) ↦ stays_same b a f.1
            | inl (none, (answer, core, call, returns, told, after)) ↦
                by l is none core (λ ends_none. finish_request_kills b.core core id u _ ends_none call) l.ends_sender refl after
          ]
    ]
  where
    by : (l : Ledger) → ledger_of id b.seats.ledgers ≡ Some l → l.kept ≡ None → (core : CoreState)
        → (((sender : IdParts) (ends : Bool) (created : Option IdParts) → action_in b.core id ≡ Some (opened.Request sender ends created) → ends ≡ false) → KillsNobody b.core core)
        → (ends : Bool) → l.ends_sender ≡ ends → a ≡ ended l.ends_sender id (record b { core = core }) → StaysSettled b a
    by l is none core kills true on after =
        stays_marked b a (ap (λ (s : ServerState). s.may_clean_up) (after ∙ ap (λ k. ended k id (record b { core = core })) on))
    by l is none core kills false off after =
        let e = after ∙ ap (λ k. ended k id (record b { core = core })) off in
        stays_core b a core (kills (λ sender ends created open'. sym (knows l sender ends created is none open') ∙ off))
        (ap (λ (s : ServerState). s.core) e) (ap (λ (s : ServerState). s.may_clean_up) e)

pub action_ends_settled : (b a : ServerState) (id : ClientParts) (action : FlatAction) (result : Result Bool Status) → KnowsEnd b id → EndsAsAction b id action result a
    → StaysSettled b a
action_ends_settled b a id action result knows h =
    elim (either_bool (action.kind == kinds.request) h) [
      | inl request ↦ request_settled b a id (zero_for action.created) result knows request
      | inr bind ↦ bind_settled b a id 0 result bind
    ]

-- ---- notes, and a cleanup

noted_beside : (s : ServerState) (ns : List (Note ℕ)) (out : FlatNote) (text : List ℕ)
    → ((noted s ns out text).after.core ≡ s.core) × ((noted s ns out text).after.may_clean_up ≡ s.may_clean_up)
noted_beside s [] out text = (refl, refl)
noted_beside s (n ∷ ns) out text = by (nat_lt (length text) (length (text_of n)))
  where
    by : (is_long : Bool) → ((noted_if is_long s n ns text).after.core ≡ s.core) × ((noted_if is_long s n ns text).after.may_clean_up ≡ s.may_clean_up)
    by true = (refl, refl)
    by false = (refl, refl)

fetch_settled : (b m : ServerState) (fetched : Result (Unit {0}) Status) → Fetches b fetched m → StaysSettled b m
fetch_settled b m fetched fetches = elim fetches [
  | inl none ↦ stays_same b m none.2
  | inr asked ↦ stays_by b m (notes_kill b.core m.core asked.1.0 asked.1.1) (by asked.1.0 asked.1.2)
]
  where
    by : (answer : Result (Vec (Note ℕ) Global) OutOfMemory)
        → MatchResult answer (λ taken. (fetched ≡ Ok tt) × (m ≡ record b { core = m.core; notes = taken.items; may_have_notes = false }))
        (λ _. (fetched ≡ Err status.OutOfMemory) × (m ≡ record b { core = m.core }))
        → m.may_clean_up ≡ b.may_clean_up
    by (Ok taken) h = ap (λ (s : ServerState). s.may_clean_up) h.1
    by (Err e) h = ap (λ (s : ServerState). s.may_clean_up) h.1

pub notes_settled : (b a : ServerState) (out out' : FlatNote) (text text' : List ℕ) (s : Status) → NextNote b out text s out' text' a → StaysSettled b a
notes_settled b a out out' text text' s (mid, fetched, fetches, told) settled =
    elim told [
      | inl y ↦
          let same = noted_beside mid mid.notes out text in
          stays_by mid a (kills_same mid.core a.core (ap (λ (s : ServerState). s.core) y.4 ∙ same.0)) (ap (λ (s : ServerState). s.may_clean_up) y.4 ∙ same.1) (fetch_settled b mid fetched fetches settled)
      | inr n ↦ stays_same mid a n.3 (fetch_settled b mid fetched fetches settled)
    ]

drop_settled : (m a : ServerState) → DropsNotes m a → StaysSettled m a
drop_settled m a (mid, fetched, fetches, is) settled =
    stays_by mid a (kills_same mid.core a.core (ap (λ (s : ServerState). s.core) is)) (ap (λ (s : ServerState). s.may_clean_up) is)
    (fetch_settled (record m { notes = [] }) mid fetched fetches settled)

taken_out_settled : (b m : ServerState) (result : Result (Unit {0}) Status) → TakesOut b result m → StaysSettled b m
taken_out_settled b m result h =
    elim h [
      | inl none ↦ stays_same b m none.2
      | inr looked ↦ by looked.0 looked.1.0 looked.1.1 looked.1.2
    ]
  where
    by : b.may_clean_up ≡ true → (answer : Result (Vec (ClientParts × MailboxState) Global) OutOfMemory) → Calls world b.core step.Cleanup (reply.Cleanup answer) m.core
        → MatchResult answer
        (λ out. (result ≡ Ok tt) × (m ≡ record b { core = m.core; seats = gone_all b.seats out.items; may_clean_up = false; may_have_notes = true }))
        (λ _. (result ≡ Err status.OutOfMemory) × (m ≡ record b { core = m.core }))
        → StaysSettled b m
    by on (Ok out) call h = λ settled off. cleanup_leaves_none b.core m.core out call
    by on (Err e) call h = stays_marked b m (ap (λ (s : ServerState). s.may_clean_up) h.1 ∙ on)

pub cleanup_settled : (b a : ServerState) (s : Status) → CleansUp b s a → StaysSettled b a
cleanup_settled b a s (m, result, taken, told) = λ settled. by result (taken_out_settled b m result taken settled) told
  where
    by : (result : Result (Unit {0}) Status) → IsSettled m → MatchResult result (λ _. (s ≡ status.Ok) × DropsUnlessKept m a) (λ e. (s ≡ e) × (a ≡ m)) → IsSettled a
    by (Ok u) settled told = elim told.1 [
      | inl kept ↦ stays_same m a kept.1 settled
      | inr dropped ↦ drop_settled m a dropped.1 settled
    ]
    by (Err e) settled told = stays_same m a told.1 settled

-- ---- events

pub event_settled : (b a : ServerState) (p : Passed) (s : Status) → SendsEvent b p s a → StaysSettled b a
event_settled b a p s h =
    elim (either_option (ledger_of (client_of p.sender.client) b.seats.ledgers) h) [
      | inl (none, g) ↦ stays_same b a g.1
      | inr (l, is, (q, g)) ↦
          elim g [
            | inl sent ↦ stays_marked b a (ap (λ (s : ServerState). s.may_clean_up) sent.1)
            | inr refused ↦ stays_same b a refused.1
          ]
    ]

pub error_settled : (b a : ServerState) (o : FlatObjectId) (code : ℕ) (message : List ℕ) (s : Status) → PostsError b o code message s a → StaysSettled b a
error_settled b a o code message s h =
    elim h [
      | inl posted ↦ stays_marked b a (ap (λ (s : ServerState). s.may_clean_up) posted.2)
      | inr refused ↦ stays_same b a refused.1
    ]

-- ---- a new session

pub new_settled : (rows : Rows) (s : ServerState) → IsNewServer rows s → IsSettled s
new_settled rows s (table, is, e) = subst IsSettled (sym e) (λ off id k. absurd (false≢true (ap is_some k)))
