-- What lasts over calls of a relay one after another.
use Rattle.std.specs.Prelude.{◌≡◌, ℕ, false, true, List, [], ◌∷◌, ◌++◌, ◌==◌, Bool, if◌then◌else◌}
use Rattle.std.proofs.Common.{ap, append_assoc, append-nil, refl, sym, ◌∙◌}
use Rattle.std.proofs.lemmas.List.{take-append-drop}
use Rattle.wl_wire.specs.declared.argument.Token.{Token}
use Rattle.wl_link.specs.Exchange.{Queue, joined, nothing}
use Rattle.wl_link.specs.Mailbox.{behind, front}
use Rattle.wl_link.proofs.Calls.QueueLaws.{joined_assoc, joined_nothing, queue_is}
use Rattle.wl_follow.specs.Sides.{other_side}
use Rattle.wl_follow.specs.declared.side.Side.{Side}
use Rattle.wl_follow.specs.declared.side.Side.TheVariants.{Client, Server}
use Rattle.wl_relay.specs.Flow.{Begins, KeepsAll, RelayState, flow_from, has_changed, made_ready, to_read, to_send}
use Rattle.wl_relay.specs.Log.{Known}
use Rattle.wl_relay.specs.Runs.{Call, Came, Does, Leads, SentOff, TookLine, TookLog, TookNothing, TookOut, all_came, all_out, came_in, lines_out, lines_read, out_in}

-- ---- what is on its way

-- nothing was dropped or lowered before
unchanged : (c : Call) (before after : RelayState) → Does before c after → has_changed after ≡ false → has_changed before ≡ false
unchanged (Came side q lines) before after does none = (does.0 none).0
unchanged (TookOut side q) before after does none = sym (ap (λ (k : Known). k.has_changed) does.known) ∙ none
unchanged (TookNothing side) before after does none = sym (ap (λ (k : Known). k.has_changed) does.4) ∙ none
unchanged (SentOff Client q) before after does none = sym (ap has_changed does.1) ∙ none
unchanged (SentOff Server q) before after does none = sym (ap has_changed does.1) ∙ none
unchanged (TookLog lines) before after does none = sym (ap has_changed does.1) ∙ none
unchanged (TookLine line) before after does none = ap has_changed does ∙ none

all_unchanged : (calls : List Call) (before after : RelayState) → Leads before calls after → has_changed after ≡ false → has_changed before ≡ false
all_unchanged [] before after leads none = sym (ap has_changed leads) ∙ none
all_unchanged (c ∷ calls) before after (mid, does, rest) none = unchanged c before mid does (all_unchanged calls mid after rest none)

-- what nobody took out is kept on both ways
kept : (side asked : Side) (before after : RelayState) → KeepsAll asked before after → flow_from side after ≡ flow_from side before
kept Client asked before after k = ap (λ (q : Queue). joined q (to_read Client after)) k.1 ∙ ap (joined (to_send Server before)) k.2
kept Server asked before after k = ap (λ (q : Queue). joined q (to_read Server after)) k.0 ∙ ap (joined (to_send Client before)) k.3

-- the first bytes of a queue, and then what is left of it
front_behind : (n : ℕ) (q : Queue) → joined (front n q) (behind n q) ≡ q
front_behind n q = queue_is _ _ (take-append-drop n q.bytes) (tokens (n == 0))
  where
    tokens : (b : Bool) → (if b then [] else q.tokens) ++ (if b then q.tokens else []) ≡ q.tokens
    tokens true = refl
    tokens false = append-nil q.tokens

-- what was sent of what was made ready, and then what is left on its way
sent_first : (n : ℕ) (ready rest unread out : Queue) → out ≡ front n ready
    → joined out (joined (joined (behind n ready) rest) unread) ≡ joined (joined ready rest) unread
sent_first n ready rest unread out is =
    ap (λ (q : Queue). joined q (joined (joined (behind n ready) rest) unread)) is
    ∙ sym (joined_assoc (front n ready) (joined (behind n ready) rest) unread)
    ∙ ap (λ (q : Queue). joined q unread) (sym (joined_assoc (front n ready) (behind n ready) rest))
    ∙ ap (λ (q : Queue). joined (joined q rest) unread) (front_behind n ready)

-- what a call leaves on its way, behind what it took out, is what was there and what came
one_call : (c : Call) (side : Side) (before after : RelayState) → Does before c after → has_changed after ≡ false
    → joined (out_in (other_side side) c) (flow_from side after) ≡ joined (flow_from side before) (came_in side c)
one_call (Came Client q lines) Client before after does none = (does.0 none).1
one_call (Came Client q lines) Server before after does none = (does.0 none).2 ∙ sym (joined_nothing (flow_from Server before))
one_call (Came Server q lines) Server before after does none = (does.0 none).1
one_call (Came Server q lines) Client before after does none = (does.0 none).2 ∙ sym (joined_nothing (flow_from Client before))
one_call (TookOut Client q) Server before after does none = does.flow ∙ sym (joined_nothing (flow_from Server before))
one_call (TookOut Client q) Client before after does none = does.other_flow ∙ sym (joined_nothing (flow_from Client before))
one_call (TookOut Server q) Client before after does none = does.flow ∙ sym (joined_nothing (flow_from Client before))
one_call (TookOut Server q) Server before after does none = does.other_flow ∙ sym (joined_nothing (flow_from Server before))
one_call (TookNothing asked) Client before after does none = kept Client asked before after does ∙ sym (joined_nothing (flow_from Client before))
one_call (TookNothing asked) Server before after does none = kept Server asked before after does ∙ sym (joined_nothing (flow_from Server before))
one_call (SentOff Client q) Server before after does none =
    ap (λ (r : RelayState). joined q (flow_from Server r)) does.1
    ∙ sent_first does.0 (made_ready Client before) before.client.outgoing (to_read Server before) q does.2
    ∙ sym (joined_nothing (flow_from Server before))
one_call (SentOff Client q) Client before after does none = ap (flow_from Client) does.1 ∙ sym (joined_nothing (flow_from Client before))
one_call (SentOff Server q) Client before after does none =
    ap (λ (r : RelayState). joined q (flow_from Client r)) does.1
    ∙ sent_first does.0 (made_ready Server before) before.server.outgoing (to_read Client before) q does.2
    ∙ sym (joined_nothing (flow_from Client before))
one_call (SentOff Server q) Server before after does none = ap (flow_from Server) does.1 ∙ sym (joined_nothing (flow_from Server before))
one_call (TookLine line) Client before after does none = sym (ap (flow_from Client) does) ∙ sym (joined_nothing (flow_from Client before))
one_call (TookLine line) Server before after does none = sym (ap (flow_from Server) does) ∙ sym (joined_nothing (flow_from Server before))
one_call (TookLog lines) Client before after does none = ap (flow_from Client) does.1 ∙ sym (joined_nothing (flow_from Client before))
one_call (TookLog lines) Server before after does none = ap (flow_from Server) does.1 ∙ sym (joined_nothing (flow_from Server before))

all_calls : (calls : List Call) (side : Side) (before after : RelayState) → Leads before calls after → has_changed after ≡ false
    → joined (all_out (other_side side) calls) (flow_from side after) ≡ joined (flow_from side before) (all_came side calls)
all_calls [] side before after leads none = ap (flow_from side) leads ∙ sym (joined_nothing (flow_from side before))
all_calls (c ∷ calls) side before after (mid, does, rest) none =
    let out : Queue = out_in (other_side side) c in
    joined_assoc out (all_out (other_side side) calls) (flow_from side after)
    ∙ ap (joined out) (all_calls calls side mid after rest none)
    ∙ sym (joined_assoc out (flow_from side mid) (all_came side calls))
    ∙ ap (λ (q : Queue). joined q (all_came side calls)) (one_call c side before mid does (all_unchanged calls mid after rest none))
    ∙ joined_assoc (flow_from side before) (came_in side c) (all_came side calls)

none_on_its_way : (side : Side) (r : RelayState) → Begins r → flow_from side r ≡ nothing
none_on_its_way Client r b = b.from_client
none_on_its_way Server r b = b.from_server

pub nothing_lost : (before after : RelayState) (calls : List Call) (side : Side) → Begins before → Leads before calls after → has_changed after ≡ false
    → joined (all_out (other_side side) calls) (flow_from side after) ≡ all_came side calls
nothing_lost before after calls side begins leads none =
    all_calls calls side before after leads none ∙ ap (λ (q : Queue). joined q (all_came side calls)) (none_on_its_way side before begins)

-- ---- the log

all_lines : (calls : List Call) (before after : RelayState) → Leads before calls after
    → lines_out calls ++ after.known.log ≡ before.known.log ++ lines_read calls
all_lines [] before after leads = ap (λ (r : RelayState). r.known.log) leads ∙ sym (append-nil before.known.log)
all_lines (Came side q lines ∷ calls) before after (mid, does, rest) =
    all_lines calls mid after rest
    ∙ ap (λ (l : List (List ℕ)). l ++ lines_read calls) (does.1.0.0.log ∙ ap (λ (l : List (List ℕ)). before.known.log ++ l) does.1.1)
    ∙ append_assoc before.known.log lines (lines_read calls)
all_lines (TookOut side q ∷ calls) before after (mid, does, rest) =
    all_lines calls mid after rest ∙ ap (λ (k : Known). k.log ++ lines_read calls) does.known
all_lines (TookNothing side ∷ calls) before after (mid, does, rest) =
    all_lines calls mid after rest ∙ ap (λ (k : Known). k.log ++ lines_read calls) does.4
all_lines (SentOff Client q ∷ calls) before after (mid, does, rest) =
    all_lines calls mid after rest ∙ ap (λ (r : RelayState). r.known.log ++ lines_read calls) does.1
all_lines (SentOff Server q ∷ calls) before after (mid, does, rest) =
    all_lines calls mid after rest ∙ ap (λ (r : RelayState). r.known.log ++ lines_read calls) does.1
all_lines (TookLine line ∷ calls) before after (mid, does, rest) =
    ap (λ (l : List (List ℕ)). line ∷ l) (all_lines calls mid after rest)
    ∙ sym (ap (λ (r : RelayState). r.known.log ++ lines_read calls) does)
all_lines (TookLog lines ∷ calls) before after (mid, does, rest) =
    append_assoc lines (lines_out calls) after.known.log
    ∙ ap (λ (l : List (List ℕ)). lines ++ l) (all_lines calls mid after rest ∙ ap (λ (r : RelayState). r.known.log ++ lines_read calls) does.1)
    ∙ ap (λ (l : List (List ℕ)). l ++ lines_read calls) does.0

pub lines_told : (before after : RelayState) (calls : List Call) → Begins before → Leads before calls after
    → lines_out calls ++ after.known.log ≡ lines_read calls
lines_told before after calls begins leads =
    all_lines calls before after leads ∙ ap (λ (l : List (List ℕ)). l ++ lines_read calls) begins.log
