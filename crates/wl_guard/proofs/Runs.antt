-- What follows of calls one after another.
use Rattle.std.specs.Prelude.{◌≡◌, ℕ, ◌==◌, ◌⊎◌, Bool, true, false, List, [], ◌∷◌, ◌++◌, drop, min, take, Option, None, Some, IsSome, if◌then◌else◌}
use Rattle.std.proofs.Common.{ap, inl, inr, refl, subst, sym, ◌∙◌}
use Rattle.std.proofs.lemmas.List.{take-append-drop}
use Rattle.wl_wire.specs.declared.argument.Token.{Token}
use Rattle.wl_link.specs.Exchange.{Queue, joined, nothing}
use Rattle.wl_link.proofs.Calls.QueueLaws.{joined_assoc, joined_nothing, queue_is}
use Rattle.wl_follow.specs.declared.side.Side.{Side}
use Rattle.wl_follow.specs.declared.side.Side.TheVariants.{Client, Server}
use Rattle.wl_guard.specs.Ends.{StopsBy, told_end, told_for}
use Rattle.wl_guard.specs.Guard.{Arrives, GivesBack, GuardState, HangsUp, Sent, new_guard, to_send, unread}
use Rattle.wl_guard.specs.Known.{Known}
use Rattle.wl_guard.specs.Passages.{Passage, all_pieces, all_sent}
use Rattle.wl_guard.specs.Policy.{PolicyState}
use Rattle.wl_guard.specs.Queues.{left_after, offered, part_sent}
use Rattle.wl_guard.specs.Runs.{Call, Came, Does, GaveBack, HungUp, Leads, WasSent, all_came, all_out, all_passed, came_in, out_in, passed_in}
use Rattle.wl_guard.specs.declared.ending.Breach.{Breach}
use Rattle.wl_guard.specs.declared.ending.End.{End}
use Rattle.wl_guard.specs.declared.ending.End.TheVariants as end
use Rattle.wl_guard.proofs.Passing.{pieces_append, pieces_are, sent_append}

-- ---- what is sent

-- what is sent, and what is left of it
part_and_left : (count : ℕ) (q : Queue) → joined (part_sent count q) (left_after count q) ≡ q
part_and_left count q = go (count == 0)
  where
    go : (b : Bool)
        → joined (if b then nothing else (record { bytes = take (min count (offered q)) q.bytes; tokens = take 28 q.tokens }))
        (if b then q else (record { bytes = drop (min count (offered q)) q.bytes; tokens = drop 28 q.tokens })) ≡ q
    go true = refl
    go false = queue_is _ _ (take-append-drop (min count (offered q)) q.bytes) (take-append-drop 28 q.tokens)

pub sent_out : (count : ℕ) (q q' out : Queue) → q' ≡ left_after count q → out ≡ part_sent count q → joined out q' ≡ q
sent_out count q q' out left is =
    ap (λ (o : Queue). joined o q') is ∙ ap (λ (x : Queue). joined (part_sent count q) x) left ∙ part_and_left count q

-- ---- what is told of an end

pub told_none : (p : PolicyState) (k : Known) (e : Option End) (q : Queue) → e ≡ None → told_end p k e q ≡ q
told_none p k e q is = ap (λ (x : Option End). told_end p k x q) is

-- the compositor is told of none
pub told_server : (p : PolicyState) (last k : Known) (rest : Queue) (e : Option End) (q : Queue) → StopsBy p Server last rest e k → told_end p k e q ≡ q
told_server p last k rest None q stops = refl
told_server p last k rest (Some end.OutOfMemory) q stops = refl
told_server p last k rest (Some end.HungUp) q stops = absurd stops
told_server p last k rest (Some (end.Breach b)) q stops = ap (λ (s : Side). told_for p k b s q) stops.0

-- what was sent before comes before it
told_for_joined : (p : PolicyState) (k : Known) (b : Breach) (side : Side) (o q : Queue) → joined o (told_for p k b side q) ≡ told_for p k b side (joined o q)
told_for_joined p k b Client o q = sym (joined_assoc o q _)
told_for_joined p k b Server o q = refl

pub told_joined : (p : PolicyState) (k : Known) (e : Option End) (o q : Queue) → joined o (told_end p k e q) ≡ told_end p k e (joined o q)
told_joined p k None o q = refl
told_joined p k (Some end.OutOfMemory) o q = refl
told_joined p k (Some end.HungUp) o q = refl
told_joined p k (Some (end.Breach b)) o q = told_for_joined p k b b.side o q

-- ---- a call

-- what giving a token back leaves as it is
pub record Keeps (before after : GuardState) : Type 0 where
  pub known : after.known ≡ before.known
  pub to_client : after.to_client ≡ before.to_client
  pub to_server : after.to_server ≡ before.to_server
  pub end : after.end ≡ before.end

pub back_keeps : (before after : GuardState) (t : Token) → GivesBack before (Some t) after → Keeps before after
back_keeps before after t (inl is) = record {
  known = sym (ap (λ (g : GuardState). g.known) is);
  to_client = sym (ap (λ (g : GuardState). g.to_client) is);
  to_server = sym (ap (λ (g : GuardState). g.to_server) is);
  end = sym (ap (λ (g : GuardState). g.end) is);
}
back_keeps before after t (inr (inl some)) = record {
  known = sym (ap (λ (g : GuardState). g.known) some.2);
  to_client = sym (ap (λ (g : GuardState). g.to_client) some.2);
  to_server = sym (ap (λ (g : GuardState). g.to_server) some.2);
  end = sym (ap (λ (g : GuardState). g.end) some.2);
}
back_keeps before after t (inr (inr some)) = record {
  known = sym (ap (λ (g : GuardState). g.known) some.3);
  to_client = sym (ap (λ (g : GuardState). g.to_client) some.3);
  to_server = sym (ap (λ (g : GuardState). g.to_server) some.3);
  end = sym (ap (λ (g : GuardState). g.end) some.3);
}

-- a token that is given back before an end was not one of those to be read
pub back_reads : (side : Side) (before after : GuardState) (t : Token) → GivesBack before (Some t) after → (IsSome before.end) ⊎ (unread side after ≡ unread side before)
back_reads Client before after t (inl is) = inr (sym (ap (λ (g : GuardState). g.from_client) is))
back_reads Server before after t (inl is) = inr (sym (ap (λ (g : GuardState). g.from_server) is))
back_reads side before after t (inr (inl some)) = inl some.0
back_reads side before after t (inr (inr some)) = inl some.0

pub sent_keeps : (side : Side) (count : ℕ) (before after : GuardState) → Sent side count before after → (after.known ≡ before.known) × (after.end ≡ before.end)
sent_keeps Client count before after is = (ap (λ (g : GuardState). g.known) is, ap (λ (g : GuardState). g.end) is)
sent_keeps Server count before after is = (ap (λ (g : GuardState). g.known) is, ap (λ (g : GuardState). g.end) is)

pub sent_reads : (by side : Side) (count : ℕ) (before after : GuardState) → Sent by count before after → unread side after ≡ unread side before
sent_reads Client Client count before after is = ap (λ (g : GuardState). g.from_client) is
sent_reads Client Server count before after is = ap (λ (g : GuardState). g.from_server) is
sent_reads Server Client count before after is = ap (λ (g : GuardState). g.from_client) is
sent_reads Server Server count before after is = ap (λ (g : GuardState). g.from_server) is

-- what is sent to a side was to be sent to it first
sent_sends : (by side : Side) (count : ℕ) (out : Queue) (before after : GuardState) → Sent by count before after → out ≡ part_sent count (to_send by before)
    → joined (out_in side (WasSent by out)) (to_send side after) ≡ to_send side before
sent_sends Client Client count out before after is out_is = sent_out count before.to_client after.to_client out (ap (λ (g : GuardState). g.to_client) is) out_is
sent_sends Client Server count out before after is out_is = ap (λ (g : GuardState). g.to_server) is
sent_sends Server Client count out before after is out_is = ap (λ (g : GuardState). g.to_client) is
sent_sends Server Server count out before after is out_is = sent_out count before.to_server after.to_server out (ap (λ (g : GuardState). g.to_server) is) out_is

pub back_sends : (side : Side) (before after : GuardState) → Keeps before after → to_send side after ≡ to_send side before
back_sends Client before after keeps = keeps.to_client
back_sends Server before after keeps = keeps.to_server

-- what a program that hangs up leaves as it is
pub hang_reads : (side : Side) (before after : GuardState) → HangsUp before after → unread side after ≡ unread side before
hang_reads Client before after hangs = ap (λ (g : GuardState). g.from_client) hangs.1
hang_reads Server before after hangs = ap (λ (g : GuardState). g.from_server) hangs.1

pub hang_sends : (side : Side) (before after : GuardState) → HangsUp before after → to_send side after ≡ to_send side before
hang_sends Client before after hangs = ap (λ (g : GuardState). g.to_client) hangs.1
hang_sends Server before after hangs = ap (λ (g : GuardState). g.to_server) hangs.1

pub hang_knows : (before after : GuardState) → HangsUp before after → after.known ≡ before.known
hang_knows before after hangs = ap (λ (g : GuardState). g.known) hangs.1

pub hang_ends : (before after : GuardState) → HangsUp before after → IsSome after.end
hang_ends before after hangs = subst (λ (g : GuardState). IsSome g.end) (sym hangs.1) refl

pub not_some : (o : Option End) → o ≡ None → IsSome o → ⊥
not_some o none some = let e : IsSome {T = End} None = subst (λ (x : Option End). IsSome x) none some in absurd cc

module _ (p : PolicyState) where
  -- ---- after an end

  pub record Stays (side : Side) (out came : Queue) (passed : List Passage) (before after : GuardState) : Type 0 where
    pub none : passed ≡ []
    pub nothing_came : came ≡ nothing
    pub end : after.end ≡ before.end
    pub known : after.known ≡ before.known
    pub sends : joined out (to_send side after) ≡ to_send side before

  call_stays : (side : Side) (c : Call) (before after : GuardState) → IsSome before.end → Does p before c after
      → Stays side (out_in side c) (came_in side c) (passed_in side c) before after
  call_stays side (Came by came passages) before after some (arrives, is) = absurd (not_some before.end arrives.begun some)
  call_stays Client (WasSent Client out) before after some (count, is, out_is) = record {
    none = refl;
    nothing_came = refl;
    end = (sent_keeps Client count before after is).1;
    known = (sent_keeps Client count before after is).0;
    sends = sent_sends Client Client count out before after is out_is;
  }
  call_stays Client (WasSent Server out) before after some (count, is, out_is) = record {
    none = refl;
    nothing_came = refl;
    end = (sent_keeps Server count before after is).1;
    known = (sent_keeps Server count before after is).0;
    sends = sent_sends Server Client count out before after is out_is;
  }
  call_stays Server (WasSent Client out) before after some (count, is, out_is) = record {
    none = refl;
    nothing_came = refl;
    end = (sent_keeps Client count before after is).1;
    known = (sent_keeps Client count before after is).0;
    sends = sent_sends Client Server count out before after is out_is;
  }
  call_stays Server (WasSent Server out) before after some (count, is, out_is) = record {
    none = refl;
    nothing_came = refl;
    end = (sent_keeps Server count before after is).1;
    known = (sent_keeps Server count before after is).0;
    sends = sent_sends Server Server count out before after is out_is;
  }
  call_stays Client (GaveBack t) before after some back =
      let keeps = back_keeps before after t back in
      record { none = refl; nothing_came = refl; end = keeps.end; known = keeps.known; sends = keeps.to_client }
  call_stays Server (GaveBack t) before after some back =
      let keeps = back_keeps before after t back in
      record { none = refl; nothing_came = refl; end = keeps.end; known = keeps.known; sends = keeps.to_server }
  call_stays side HungUp before after some hangs = absurd (not_some before.end hangs.0 some)

  pub all_stays : (side : Side) (calls : List Call) (before after : GuardState) → IsSome before.end → Leads p before calls after
      → Stays side (all_out side calls) (all_came side calls) (all_passed side calls) before after
  all_stays side [] before after some is = record {
    none = refl;
    nothing_came = refl;
    end = ap (λ (g : GuardState). g.end) is;
    known = ap (λ (g : GuardState). g.known) is;
    sends = ap (λ (g : GuardState). to_send side g) is;
  }
  all_stays side (c ∷ calls) before after some (mid, one, more) =
      let first = call_stays side c before mid some one in
      let rest = all_stays side calls mid after (subst (λ (e : Option End). IsSome e) (sym first.end) some) more in record {
        none = ap (λ (xs : List Passage). xs ++ all_passed side calls) first.none ∙ rest.none;
        nothing_came = ap (λ (q : Queue). joined q (all_came side calls)) first.nothing_came ∙ rest.nothing_came;
        end = rest.end ∙ first.end;
        known = rest.known ∙ first.known;
        sends = joined_assoc (out_in side c) (all_out side calls) (to_send side after) ∙ ap (λ (q : Queue). joined (out_in side c) q) rest.sends ∙ first.sends;
      }

  pub nothing_follows : (calls : List Call) (before after : GuardState) (side : Side) → IsSome before.end → Leads p before calls after
      → (all_passed side calls ≡ []) × (after.end ≡ before.end)
  nothing_follows calls before after side some leads = let all = all_stays side calls before after some leads in (all.none, all.end)

  -- ---- to the compositor

  server_call : (c : Call) (before after : GuardState) → Does p before c after
      → joined (out_in Server c) after.to_server ≡ joined before.to_server (all_sent (passed_in Client c))
  server_call (Came Client came passages) before after (arrives, is) =
      arrives.at.sent ∙ ap (λ (xs : List Passage). joined before.to_server (all_sent xs)) is
  server_call (Came Server came passages) before after (arrives, is) =
      arrives.at.told ∙ told_server p arrives.at.last after.known after.from_server after.end before.to_server arrives.at.stops ∙ sym (joined_nothing before.to_server)
  server_call (WasSent Client out) before after (count, is, out_is) =
      sent_sends Client Server count out before after is out_is ∙ sym (joined_nothing before.to_server)
  server_call (WasSent Server out) before after (count, is, out_is) =
      sent_sends Server Server count out before after is out_is ∙ sym (joined_nothing before.to_server)
  server_call (GaveBack t) before after back = (back_keeps before after t back).to_server ∙ sym (joined_nothing before.to_server)
  server_call HungUp before after hangs = hang_sends Server before after hangs ∙ sym (joined_nothing before.to_server)

  server_all : (calls : List Call) (before after : GuardState) → Leads p before calls after
      → joined (all_out Server calls) after.to_server ≡ joined before.to_server (all_sent (all_passed Client calls))
  server_all [] before after is = ap (λ (g : GuardState). g.to_server) is ∙ sym (joined_nothing before.to_server)
  server_all (c ∷ calls) before after (mid, one, more) =
      joined_assoc (out_in Server c) (all_out Server calls) after.to_server
      ∙ ap (λ (q : Queue). joined (out_in Server c) q) (server_all calls mid after more)
      ∙ sym (joined_assoc (out_in Server c) mid.to_server (all_sent (all_passed Client calls)))
      ∙ ap (λ (q : Queue). joined q (all_sent (all_passed Client calls))) (server_call c before mid one)
      ∙ joined_assoc before.to_server (all_sent (passed_in Client c)) (all_sent (all_passed Client calls))
      ∙ ap (λ (q : Queue). joined before.to_server q) (sym (sent_append (passed_in Client c) (all_passed Client calls)))

  -- ---- to the client

  client_call : (c : Call) (before after : GuardState) → before.end ≡ None → Does p before c after
      → joined (out_in Client c) after.to_client ≡ told_end p after.known after.end (joined before.to_client (all_sent (passed_in Server c)))
  client_call (Came Client came passages) before after begun (arrives, is) =
      arrives.at.told ∙ ap (λ (q : Queue). told_end p after.known after.end q) (sym (joined_nothing before.to_client))
  client_call (Came Server came passages) before after begun (arrives, is) =
      arrives.at.sent ∙ ap (λ (xs : List Passage). joined before.to_client (all_sent xs)) is
      ∙ sym (told_server p arrives.at.last after.known after.from_server after.end (joined before.to_client (all_sent passages)) arrives.at.stops)
  client_call (WasSent Client out) before after begun (count, is, out_is) =
      sent_sends Client Client count out before after is out_is ∙ sym (joined_nothing before.to_client)
      ∙ sym (told_none p after.known after.end (joined before.to_client nothing) ((sent_keeps Client count before after is).1 ∙ begun))
  client_call (WasSent Server out) before after begun (count, is, out_is) =
      sent_sends Server Client count out before after is out_is ∙ sym (joined_nothing before.to_client)
      ∙ sym (told_none p after.known after.end (joined before.to_client nothing) ((sent_keeps Server count before after is).1 ∙ begun))
  client_call (GaveBack t) before after begun back =
      let keeps = back_keeps before after t back in
      keeps.to_client ∙ sym (joined_nothing before.to_client) ∙ sym (told_none p after.known after.end (joined before.to_client nothing) (keeps.end ∙ begun))
  client_call HungUp before after begun hangs =
      hang_sends Client before after hangs ∙ sym (joined_nothing before.to_client)
      ∙ sym (ap (λ (g : GuardState). told_end p after.known g.end (joined before.to_client nothing)) hangs.1)

  client_all : (calls : List Call) (before after : GuardState) → before.end ≡ None → Leads p before calls after
      → joined (all_out Client calls) after.to_client ≡ told_end p after.known after.end (joined before.to_client (all_sent (all_passed Server calls)))
  client_all [] before after begun is =
      ap (λ (g : GuardState). g.to_client) is ∙ sym (joined_nothing before.to_client)
      ∙ sym (told_none p after.known after.end (joined before.to_client nothing) (ap (λ (g : GuardState). g.end) is ∙ begun))
  client_all (c ∷ calls) before after begun (mid, one, more) = go mid.end refl (λ is. client_all calls mid after is more)
    where
      go : (e : Option End) → mid.end ≡ e
          → (mid.end ≡ None → joined (all_out Client calls) after.to_client ≡ told_end p after.known after.end (joined mid.to_client (all_sent (all_passed Server calls))))
          → joined (joined (out_in Client c) (all_out Client calls)) after.to_client
          ≡ told_end p after.known after.end (joined before.to_client (all_sent (passed_in Server c ++ all_passed Server calls)))
      go None is next =
          joined_assoc (out_in Client c) (all_out Client calls) after.to_client
          ∙ ap (λ (q : Queue). joined (out_in Client c) q) (next is)
          ∙ told_joined p after.known after.end (out_in Client c) (joined mid.to_client (all_sent (all_passed Server calls)))
          ∙ ap (λ (q : Queue). told_end p after.known after.end q) (
          sym (joined_assoc (out_in Client c) mid.to_client (all_sent (all_passed Server calls)))
          ∙ ap (λ (q : Queue). joined q (all_sent (all_passed Server calls)))
          (client_call c before mid begun one ∙ told_none p mid.known mid.end (joined before.to_client (all_sent (passed_in Server c))) is)
          ∙ joined_assoc before.to_client (all_sent (passed_in Server c)) (all_sent (all_passed Server calls))
          ∙ ap (λ (q : Queue). joined before.to_client q) (sym (sent_append (passed_in Server c) (all_passed Server calls)))
          )
      go (Some e) is next =
          let rest = all_stays Client calls mid after (subst (λ (x : Option End). IsSome x) (sym is) refl) more in
          let none = (all_stays Server calls mid after (subst (λ (x : Option End). IsSome x) (sym is) refl) more).none in
          joined_assoc (out_in Client c) (all_out Client calls) after.to_client
          ∙ ap (λ (q : Queue). joined (out_in Client c) q) rest.sends
          ∙ client_call c before mid begun one
          ∙ ap (λ (k : Known). told_end p k mid.end (joined before.to_client (all_sent (passed_in Server c)))) (sym rest.known)
          ∙ ap (λ (x : Option End). told_end p after.known x (joined before.to_client (all_sent (passed_in Server c)))) (sym rest.end)
          ∙ ap (λ (q : Queue). told_end p after.known after.end (joined before.to_client q)) (
          sym (joined_nothing (all_sent (passed_in Server c)))
          ∙ ap (λ (xs : List Passage). joined (all_sent (passed_in Server c)) (all_sent xs)) (sym none)
          ∙ sym (sent_append (passed_in Server c) (all_passed Server calls))
          )

  -- ---- what came

  came_call : (by : Side) (came : Queue) (before after : GuardState) → (arrives : Arrives p by came before after)
      → joined (all_pieces arrives.at.passages) (unread by after) ≡ joined (unread by before) came
  came_call by came before after arrives =
      pieces_are p by arrives.at.passages before.known arrives.at.last (joined (unread by before) came) (unread by after) arrives.at.passes

  -- the messages that were passed are the first of what was there and came
  abbrev AreFirst : Side → List Call → GuardState → Type 0
  AreFirst side calls before = (rest : Queue) × (joined (all_pieces (all_passed side calls)) rest ≡ joined (unread side before) (all_came side calls))

  -- those of this call are followed by those of the others
  came_more : (side : Side) (passages more : List Passage) (here next came coming rest : Queue) → joined (all_pieces passages) next ≡ joined here came
      → joined (all_pieces more) rest ≡ joined next coming → joined (all_pieces (passages ++ more)) rest ≡ joined here (joined came coming)
  came_more side passages more here next came coming rest one two =
      ap (λ (q : Queue). joined q rest) (pieces_append passages more) ∙ joined_assoc (all_pieces passages) (all_pieces more) rest
      ∙ ap (λ (q : Queue). joined (all_pieces passages) q) two ∙ sym (joined_assoc (all_pieces passages) next coming)
      ∙ ap (λ (q : Queue). joined q coming) one ∙ joined_assoc here came coming

  -- a call in which nothing came from the side, and which leaves what is to be read
  same_more : (side : Side) (calls : List Call) (before mid : GuardState) → unread side mid ≡ unread side before → AreFirst side calls mid → AreFirst side calls before
  same_more side calls before mid same more = (more.0, more.1 ∙ ap (λ (q : Queue). joined q (all_came side calls)) same)

  are_first : (side : Side) (calls : List Call) (before after : GuardState) → Leads p before calls after → AreFirst side calls before
  are_first side [] before after is = (unread side before, sym (joined_nothing (unread side before)))
  are_first Client (Came Client came passages ∷ calls) before after (mid, (arrives, is), more) =
      let next = are_first Client calls mid after more in (
        next.0,
        came_more Client passages (all_passed Client calls) before.from_client mid.from_client came (all_came Client calls) next.0
            (subst (λ (xs : List Passage). joined (all_pieces xs) mid.from_client ≡ joined before.from_client came) is (came_call Client came before mid arrives)) next.1,
      )
  are_first Server (Came Server came passages ∷ calls) before after (mid, (arrives, is), more) =
      let next = are_first Server calls mid after more in (
        next.0,
        came_more Server passages (all_passed Server calls) before.from_server mid.from_server came (all_came Server calls) next.0
            (subst (λ (xs : List Passage). joined (all_pieces xs) mid.from_server ≡ joined before.from_server came) is (came_call Server came before mid arrives)) next.1,
      )
  are_first Client (Came Server came passages ∷ calls) before after (mid, (arrives, is), more) =
      same_more Client calls before mid arrives.other (are_first Client calls mid after more)
  are_first Server (Came Client came passages ∷ calls) before after (mid, (arrives, is), more) =
      same_more Server calls before mid arrives.other (are_first Server calls mid after more)
  are_first Client (WasSent by out ∷ calls) before after (mid, (count, is, out_is), more) =
      same_more Client calls before mid (sent_reads by Client count before mid is) (are_first Client calls mid after more)
  are_first Server (WasSent by out ∷ calls) before after (mid, (count, is, out_is), more) =
      same_more Server calls before mid (sent_reads by Server count before mid is) (are_first Server calls mid after more)
  are_first Client (GaveBack t ∷ calls) before after (mid, back, more) = by_end Client (back_reads Client before mid t back) (are_first Client calls mid after more)
    where
      by_end : (side : Side) → (IsSome before.end) ⊎ (unread side mid ≡ unread side before) → AreFirst side calls mid → AreFirst side calls before
      by_end side (inr same) next = same_more side calls before mid same next
      by_end side (inl some) next =
          let keeps = back_keeps before mid t back in
          let rest = all_stays side calls mid after (subst (λ (e : Option End). IsSome e) (sym keeps.end) some) more in (
            unread side before,
            ap (λ (xs : List Passage). joined (all_pieces xs) (unread side before)) rest.none
                ∙ sym (joined_nothing (unread side before)) ∙ ap (λ (q : Queue). joined (unread side before) q) (sym rest.nothing_came),
          )
  are_first Server (GaveBack t ∷ calls) before after (mid, back, more) = by_end Server (back_reads Server before mid t back) (are_first Server calls mid after more)
    where
      by_end : (side : Side) → (IsSome before.end) ⊎ (unread side mid ≡ unread side before) → AreFirst side calls mid → AreFirst side calls before
      by_end side (inr same) next = same_more side calls before mid same next
      by_end side (inl some) next =
          let keeps = back_keeps before mid t back in
          let rest = all_stays side calls mid after (subst (λ (e : Option End). IsSome e) (sym keeps.end) some) more in (
            unread side before,
            ap (λ (xs : List Passage). joined (all_pieces xs) (unread side before)) rest.none
                ∙ sym (joined_nothing (unread side before)) ∙ ap (λ (q : Queue). joined (unread side before) q) (sym rest.nothing_came),
          )
  are_first Client (HungUp ∷ calls) before after (mid, hangs, more) =
      same_more Client calls before mid (hang_reads Client before mid hangs) (are_first Client calls mid after more)
  are_first Server (HungUp ∷ calls) before after (mid, hangs, more) =
      same_more Server calls before mid (hang_reads Server before mid hangs) (are_first Server calls mid after more)

  -- what is to be read stays if a token is given back, as long as there is no end
  still_read : (side : Side) (calls : List Call) (before mid after : GuardState) (t : Token) → after.end ≡ None → GivesBack before (Some t) mid → Leads p mid calls after
      → unread side mid ≡ unread side before
  still_read side calls before mid after t begun back more = go (back_reads side before mid t back)
    where
      go : (IsSome before.end) ⊎ (unread side mid ≡ unread side before) → unread side mid ≡ unread side before
      go (inr same) = same
      go (inl some) =
          let keeps = back_keeps before mid t back in
          let rest = all_stays side calls mid after (subst (λ (e : Option End). IsSome e) (sym keeps.end) some) more in
          absurd (not_some before.end (sym keeps.end ∙ sym rest.end ∙ begun) some)

  -- as long as there is no end, what follows them waits to be read
  all_read : (side : Side) (calls : List Call) (before after : GuardState) → after.end ≡ None → Leads p before calls after
      → joined (all_pieces (all_passed side calls)) (unread side after) ≡ joined (unread side before) (all_came side calls)
  all_read side [] before after begun is = ap (λ (g : GuardState). unread side g) is ∙ sym (joined_nothing (unread side before))
  all_read Client (Came Client came passages ∷ calls) before after begun (mid, (arrives, is), more) =
      came_more Client passages (all_passed Client calls) before.from_client mid.from_client came (all_came Client calls) after.from_client
      (subst (λ (xs : List Passage). joined (all_pieces xs) mid.from_client ≡ joined before.from_client came) is (came_call Client came before mid arrives))
      (all_read Client calls mid after begun more)
  all_read Server (Came Server came passages ∷ calls) before after begun (mid, (arrives, is), more) =
      came_more Server passages (all_passed Server calls) before.from_server mid.from_server came (all_came Server calls) after.from_server
      (subst (λ (xs : List Passage). joined (all_pieces xs) mid.from_server ≡ joined before.from_server came) is (came_call Server came before mid arrives))
      (all_read Server calls mid after begun more)
  all_read Client (Came Server came passages ∷ calls) before after begun (mid, (arrives, is), more) =
      all_read Client calls mid after begun more ∙ ap (λ (q : Queue). joined q (all_came Client calls)) arrives.other
  all_read Server (Came Client came passages ∷ calls) before after begun (mid, (arrives, is), more) =
      all_read Server calls mid after begun more ∙ ap (λ (q : Queue). joined q (all_came Server calls)) arrives.other
  all_read Client (WasSent by out ∷ calls) before after begun (mid, (count, is, out_is), more) =
      all_read Client calls mid after begun more ∙ ap (λ (q : Queue). joined q (all_came Client calls)) (sent_reads by Client count before mid is)
  all_read Server (WasSent by out ∷ calls) before after begun (mid, (count, is, out_is), more) =
      all_read Server calls mid after begun more ∙ ap (λ (q : Queue). joined q (all_came Server calls)) (sent_reads by Server count before mid is)
  all_read Client (GaveBack t ∷ calls) before after begun (mid, back, more) =
      all_read Client calls mid after begun more ∙ ap (λ (q : Queue). joined q (all_came Client calls)) (still_read Client calls before mid after t begun back more)
  all_read Server (GaveBack t ∷ calls) before after begun (mid, back, more) =
      all_read Server calls mid after begun more ∙ ap (λ (q : Queue). joined q (all_came Server calls)) (still_read Server calls before mid after t begun back more)
  all_read Client (HungUp ∷ calls) before after begun (mid, hangs, more) =
      all_read Client calls mid after begun more ∙ ap (λ (q : Queue). joined q (all_came Client calls)) (hang_reads Client before mid hangs)
  all_read Server (HungUp ∷ calls) before after begun (mid, hangs, more) =
      all_read Server calls mid after begun more ∙ ap (λ (q : Queue). joined q (all_came Server calls)) (hang_reads Server before mid hangs)

  nothing_read : (side : Side) → unread side new_guard ≡ nothing
  nothing_read Client = refl
  nothing_read Server = refl

  first_came : (side : Side) (calls : List Call) (after : GuardState) → Leads p new_guard calls after
      → (rest : Queue) × (joined (all_pieces (all_passed side calls)) rest ≡ all_came side calls) × (after.end ≡ None → rest ≡ unread side after)
  first_came side calls after leads = go after.end refl
    where
      none : joined (unread side new_guard) (all_came side calls) ≡ all_came side calls
      none = ap (λ (q : Queue). joined q (all_came side calls)) (nothing_read side)

      go : (e : Option End) → after.end ≡ e
          → (rest : Queue) × (joined (all_pieces (all_passed side calls)) rest ≡ all_came side calls) × (after.end ≡ None → rest ≡ unread side after)
      go None is = (unread side after, all_read side calls new_guard after is leads ∙ none, λ begun. refl)
      go (Some e) is =
          let some = are_first side calls new_guard after leads in
          (some.0, some.1 ∙ none, λ begun. let wrong : Some e ≡ None = sym is ∙ begun in absurd cc)

  -- ---- the laws

  pub goes_through : (calls : List Call) (after : GuardState) → Leads p new_guard calls after
      → (joined (all_out Server calls) (to_send Server after) ≡ all_sent (all_passed Client calls))
      × ((rest : Queue) × (joined (all_pieces (all_passed Client calls)) rest ≡ all_came Client calls) × (after.end ≡ None → rest ≡ unread Client after))
  goes_through calls after leads = (server_all calls new_guard after leads, first_came Client calls after leads)

  pub is_told : (calls : List Call) (after : GuardState) → Leads p new_guard calls after
      → (joined (all_out Client calls) (to_send Client after) ≡ told_end p after.known after.end (all_sent (all_passed Server calls)))
      × ((rest : Queue) × (joined (all_pieces (all_passed Server calls)) rest ≡ all_came Server calls) × (after.end ≡ None → rest ≡ unread Server after))
  is_told calls after leads = (client_all calls new_guard after refl leads, first_came Server calls after leads)
