-- No call of a client's session loses a descriptor or hands one out twice.
use Rattle.std.proofs.Common.{◌≡◌, ℕ, ℤ, ◌+◌, ◌-◌, ◌++◌, ◌<◌, ◌≤◌, ◌∙◌, drop, min, inl, inr, List, [], ◌∷◌, Bool, true, false, Option, None, Some, Result, refl, sym, ap, arith, length, take, if◌then◌else◌}
use Rattle.std.proofs.lemmas.Bool.{false≢true}
use Rattle.std.proofs.lemmas.List.{append-nil, length-append}
use Rattle.std.proofs.Math.Seq.{take-append_seam}
use Rattle.std.specs.Prelude.{◌==◌, ◌^◌, ◌%◌, IfErr, is_some, option_to_list}
use Rattle.wl_wire.specs.declared.argument.Argument.{Argument}
use Rattle.wl_wire.specs.declared.argument.Argument.TheVariants as arg
use Rattle.wl_wire.specs.declared.argument.Token.{Token}
use Rattle.wl_client.specs.ObjectId.{IdParts}
use Rattle.wl_client.specs.Requests.{SessionMessage}
use Rattle.wl_link.specs.Mailbox.{MailboxState}
use Rattle.wl_flat.specs.Arguments.{descriptor_in, descriptors_out, queue_after, queue_after_all}
use Rattle.wl_flat.specs.Arrivals.{Arrives}
use Rattle.wl_host_client.specs.Client.{ConservesClient, Drops, HandsDropped, HasNoneDropped, HoldsNone, HostedClient, Receives, all_passed, awaited, brought, has_failed, let_go, mailbox_of, sent, sent_descriptors, taken_in, told, with_mailbox, without_dropped}
use Rattle.wl_flat.specs.Descriptors.{Conserves, Descriptors, given_up, kept_in, last_held, put_in}
use Rattle.wl_flat.specs.declared.status.Status.{Status}
use Rattle.wl_flat.specs.Sending.{all_taken_out, came_out, descriptors_of, mailbox_after, queue_after as queue_after_send, sent_of, some_of}
use Rattle.wl_flat.proofs.Queues.{conserves_taken_out, conserves_given_up, conserves_last_held, conserves_nothing, conserves_out, conserves_passed, conserves_put_in, conserves_without, few_last_held}

-- what is true of one of the two queues is true of the session, if the other is as it was
pub conserves_by_arrivals : (before after : HostedClient) (i o : List ℤ) → Conserves kept_in before.arrivals i o after.arrivals
    → after.departures ≡ before.departures → ConservesClient before i o after
conserves_by_arrivals before after i o h e = record { each = λ d. rw e (let g = h.each d in omega (arith, g)) }

pub conserves_by_departures : (before after : HostedClient) (i o : List ℤ) → Conserves kept_in before.departures i o after.departures
    → after.arrivals ≡ before.arrivals → ConservesClient before i o after
conserves_by_departures before after i o h e = record { each = λ d. rw e (let g = h.each d in omega (arith, g)) }

-- ---- what arrived

conserves_arrived : (m : MailboxState) (q : Descriptors) (bytes : List ℕ) (descriptors : List ℤ) (s : Status) (m' : MailboxState) (q' : Descriptors)
    → Arrives m q bytes descriptors s m' q' → Conserves kept_in q (taken_in s descriptors) [] q'
conserves_arrived m q bytes descriptors s m' q' (inl (ok, now, put, may)) = rw (ok, put) (conserves_put_in q descriptors)
conserves_arrived m q bytes descriptors s m' q' (inr (inl (alone, are), now, same)) = rw (alone, same) (conserves_nothing q)
conserves_arrived m q bytes descriptors s m' q' (inr (inr (not, inl (many, over)), now, same)) = rw (many, same) (conserves_nothing q)
conserves_arrived m q bytes descriptors s m' q' (inr (inr (not, inr memory), now, same)) = rw (memory, same) (conserves_nothing q)

pub conserves_received : (before : HostedClient) (bytes : List ℕ) (descriptors : List ℤ) (s : Status) (after : HostedClient)
    → Receives before bytes descriptors s after → ConservesClient before (taken_in s descriptors) [] after
conserves_received before bytes descriptors s after (mailbox, arrivals, arrives, now) =
    rw now (conserves_by_arrivals before _ _ _ (conserves_arrived _ _ _ _ _ _ _ arrives) refl)

-- ---- what is dropped

conserves_let_go : (s : HostedClient) (kept : Option SessionMessage)
    → ConservesClient s [] [] (record s { arrivals = if is_some kept then s.arrivals else given_up s.arrivals; departures = given_up s.departures })
conserves_let_go s None = record { each = λ d. let a = (conserves_given_up s.arrivals).each d in let b = (conserves_given_up s.departures).each d in omega (arith, a, b) }
conserves_let_go s (Some event) = record { each = λ d. let b = (conserves_given_up s.departures).each d in omega (arith, b) }

-- the count of what is awaited stops at the greatest number, and far fewer are held
counted_awaited : (n a b d x y : ℕ) → n < 2 ^ 32 → x ≡ min (a + b) 18446744073709551615 → y ≡ min (x + d) 18446744073709551615 → n - y ≡ n - (a + (b + d))
counted_awaited n a b d x y few e f = omega (arith, few, e, f)

-- the last ones are held any more, so many as were counted
pub passed_dropped : (s : HostedClient) (q : Descriptors) (a b d x y : ℕ) → length s.arrivals.held < 2 ^ 32
    → a ≡ brought s.kept → b ≡ length s.core.session.link.incoming.tokens → d ≡ length (mailbox_of s).arrived.tokens
    → x ≡ min (a + b) 18446744073709551615 → y ≡ min (x + d) 18446744073709551615 → q ≡ last_held y s.arrivals → record s { arrivals = q } ≡ without_dropped s
passed_dropped s q a b d x y few ea eb ed ex ey is =
    let n = length s.arrivals.held in
    let same = counted_awaited n a b d x y few ex ey in
    let k : n - y ≡ n - awaited s = omega (arith, same, ea, eb, ed) in
    ap (λ (r : Descriptors). let t : HostedClient = record s { arrivals = r } in t) (is
    ∙ ap (λ (k : ℕ). let r : Descriptors = record { passed = s.arrivals.passed ++ take k s.arrivals.held; held = drop k s.arrivals.held; front = (s.arrivals.front + k) % 2 ^ 32 } in r) k)

conserves_without_dropped : (s : HostedClient) → ConservesClient s [] [] (without_dropped s)
conserves_without_dropped s = conserves_by_arrivals s (without_dropped s) [] [] (conserves_last_held s.arrivals (awaited s)) refl

conserves_if_failed : (s : HostedClient) (failed : Bool) → ConservesClient s [] [] (if failed then let_go s else s)
conserves_if_failed s true = conserves_let_go s s.kept
conserves_if_failed s false = conserves_nothing s

conserves_before_drop : (s : HostedClient) → ConservesClient s [] [] (all_passed s)
conserves_before_drop s = conserves_out (conserves_without_dropped s) (conserves_if_failed (without_dropped s) (has_failed s))

conserves_handed : (arrived departed : List ℤ) (s : HostedClient) (answer : Result ℤ Status) (after : HostedClient)
    → s.arrivals.passed ≡ arrived → s.departures.passed ≡ departed → HandsDropped arrived departed s answer after
    → ConservesClient s [] (told answer) after
conserves_handed (d ∷ arrived) departed s answer after e f (ok, now) =
    rw (ok, now) (conserves_by_arrivals s _ _ _ (conserves_passed s.arrivals _ (Some d) e refl) refl)
conserves_handed [] (d ∷ departed) s answer after e f (ok, now) =
    rw (ok, now) (conserves_by_departures s _ _ _ (conserves_passed s.departures _ (Some d) f refl) refl)
conserves_handed [] [] s answer after e f (none, same) = rw (none, same) (conserves_nothing s)

pub conserves_dropped : (before : HostedClient) (answer : Result ℤ Status) (after : HostedClient)
    → Drops before answer after → ConservesClient before [] (told answer) after
conserves_dropped before answer after h =
    let s = all_passed before in conserves_out (conserves_before_drop before) (conserves_handed s.arrivals.passed s.departures.passed s answer after refl refl h)

-- no more arrivals are held than an event may yet hand out
few_held : (s : HostedClient) (failed : Bool) → length (if failed then let_go (without_dropped s) else without_dropped s).arrivals.held ≤ awaited s
few_held s false = few_last_held s.arrivals (awaited s)
few_held s true = by s.kept
  where
    by : (kept : Option SessionMessage)
        → length (if is_some kept then last_held (awaited s) s.arrivals else given_up (last_held (awaited s) s.arrivals)).held ≤ awaited s
    by None = omega arith
    by (Some event) = few_last_held s.arrivals (awaited s)

awaited_still : (s : HostedClient) (failed : Bool) → awaited (if failed then let_go (without_dropped s) else without_dropped s) ≡ awaited s
awaited_still s true = refl
awaited_still s false = refl

none_left : (arrived departed : List ℤ) (s : HostedClient) (answer : Result ℤ Status) (after : HostedClient)
    → s.arrivals.passed ≡ arrived → s.departures.passed ≡ departed → length s.arrivals.held ≤ awaited s
    → HandsDropped arrived departed s answer after → IfErr answer (λ _. HasNoneDropped after)
none_left (d ∷ arrived) departed s answer after e f few h = rw h.0 tt
none_left [] (d ∷ departed) s answer after e f few h = rw h.0 tt
none_left [] [] s answer after e f few h = rw (h.0, h.1) (e, f, few)

pub none_dropped : (before : HostedClient) (answer : Result ℤ Status) (after : HostedClient)
    → Drops before answer after → IfErr answer (λ _. HasNoneDropped after)
none_dropped before answer after h =
    let s = all_passed before in
    let few = few_held before (has_failed before) in
    let still = awaited_still before (has_failed before) in
    none_left s.arrivals.passed s.departures.passed s answer after refl refl (omega (arith, few, still)) h

-- a session that has failed holds none, unless an event is kept
lets_all_go : (s : HostedClient) (failed : Bool) → failed ≡ true → (if failed then let_go s else s).kept ≡ None
    → ((if failed then let_go s else s).arrivals.held ≡ []) × ((if failed then let_go s else s).departures.held ≡ [])
lets_all_go s true f e = (ap (λ k. (if is_some k then s.arrivals else given_up s.arrivals).held) e, refl)
lets_all_go s false f e = absurd (false≢true f)

same_failure : (s : HostedClient) (failed : Bool) → has_failed (if failed then let_go s else s) ≡ has_failed s
same_failure s true = refl
same_failure s false = refl

all_passed_holds_none : (before : HostedClient) → HoldsNone (all_passed before)
all_passed_holds_none before f e =
    lets_all_go (without_dropped before) (has_failed before) (sym (same_failure (without_dropped before) (has_failed before)) ∙ f) e

nothing_held : (arrived departed : List ℤ) (s : HostedClient) (answer : Result ℤ Status) (after : HostedClient)
    → HoldsNone s → HandsDropped arrived departed s answer after → IfErr answer (λ _. HoldsNone after)
nothing_held (d ∷ arrived) departed s answer after none h = rw h.0 tt
nothing_held [] (d ∷ departed) s answer after none h = rw h.0 tt
nothing_held [] [] s answer after none h = rw (h.0, h.1) none

pub none_held : (before : HostedClient) (answer : Result ℤ Status) (after : HostedClient)
    → Drops before answer after → IfErr answer (λ _. HoldsNone after)
none_held before answer after h =
    let s = all_passed before in nothing_held s.arrivals.passed s.departures.passed s answer after (all_passed_holds_none before) h

-- ---- what is sent

-- these went in with a request
pub conserves_given : (before after : HostedClient) (descriptors : List ℤ) → after.departures ≡ put_in before.departures descriptors
    → after.arrivals ≡ before.arrivals → ConservesClient before descriptors [] after
conserves_given before after descriptors put same =
    conserves_by_departures before after descriptors [] (rw put (conserves_put_in before.departures descriptors)) same

-- what was put in was taken back
pub taken_back : (q : Descriptors) (descriptors : List ℤ) (count : ℕ) → count ≡ length descriptors
    → record (put_in q descriptors) { held = take (length (put_in q descriptors).held - count) (put_in q descriptors).held } ≡ put_in q []
taken_back q descriptors count e =
    let l : length (q.held ++ descriptors) - count ≡ length q.held = let a = length-append q.held descriptors in omega (arith, a, e) in
    let t = take-append_seam q.held descriptors in
    let n = append-nil q.held in
    let h : take (length (q.held ++ descriptors) - count) (q.held ++ descriptors) ≡ q.held ++ [] = rw (l, n) t in
    ap (λ held. record q { held = held }) h

-- ---- what is handed out

-- an argument comes out
conserves_argument : (q : Descriptors) (a : Argument IdParts Token) → Conserves kept_in q [] (option_to_list (descriptor_in q a)) (queue_after q a)
conserves_argument q (arg.Fd t) = conserves_without q t
conserves_argument q _ = conserves_nothing q

pub conserves_arguments : (q : Descriptors) (args : List (Argument IdParts Token)) → Conserves kept_in q [] (descriptors_out q args) (queue_after_all q args)
conserves_arguments q [] = conserves_nothing q
conserves_arguments q (a ∷ args) = conserves_out (conserves_argument q a) (conserves_arguments (queue_after q a) args)

-- an event comes out
pub conserves_event : (before after : HostedClient) (args : List (Argument IdParts Token)) → after.arrivals ≡ queue_after_all before.arrivals args
    → after.departures ≡ before.departures → ConservesClient before [] (descriptors_out before.arrivals args) after
conserves_event before after args out same =
    conserves_by_arrivals before after [] _ (rw out (conserves_arguments before.arrivals args)) same

-- ---- what was sent

conserves_off : (count : ℕ) (m : MailboxState) (q : Descriptors) → Conserves kept_in q [] (came_out count m q) (queue_after_send count m q)
conserves_off count m q = by (sent_of count m == 0)
  where
    by : (nothing_sent : Bool)
        → Conserves kept_in q [] (if nothing_sent then [] else some_of (descriptors_of q m.waiting.tokens))
        (if nothing_sent then q else all_taken_out q m.waiting.tokens)
    by true = conserves_nothing q
    by false = conserves_taken_out q m.waiting.tokens

pub conserves_sent : (before : HostedClient) (count : ℕ) (after : HostedClient) → after ≡ sent before count
    → ConservesClient before [] (sent_descriptors before count) after
conserves_sent before count after e = rw e (by (has_failed before))
  where
    by : (failed : Bool)
        → ConservesClient before [] (if failed then [] else came_out count (mailbox_of before) before.departures)
        (if failed then before else
        record (with_mailbox before (mailbox_after count (mailbox_of before)))
        { departures = queue_after_send count (mailbox_of before) before.departures })
    by true = conserves_nothing before
    by false = conserves_by_departures before _ _ _ (conserves_off count (mailbox_of before) before.departures) refl
