-- That of the peer no more is told than the session had read.
use Rattle.std.specs.Prelude.{◌≡◌, ℕ, ◌+◌, ◌-◌, ◌≤◌, Bool, true, false, List, [], ◌∷◌, ◌++◌, None, Result, Ok, Err, if◌then◌else◌, length, max}
use Rattle.std.proofs.Common.{ap, arith, inl, inr, refl, subst, sym, ◌∙◌}
use Rattle.std.proofs.lemmas.List.{length-append, length-drop, length-take}
use Rattle.wl_wire.specs.declared.argument.ArgumentType.{ArgumentType}
use Rattle.wl_wire.specs.declared.error.OutOfMemory.{OutOfMemory}
use Rattle.wl_wire.specs.Message.{WireMessage, content}
use Rattle.wl_wire.specs.Parse.{IsWhole, length_of}
use Rattle.wl_wire.specs.Table.{InterfaceRow}
use Rattle.wl_link.specs.Exchange.{Queue, nothing}
use Rattle.wl_link.specs.Store.{Store}
use Rattle.wl_follow.specs.Following.{FollowState, Tells, TellsFront, Turns, came_from, sent, turned, with_sent}
use Rattle.wl_follow.specs.Runs.{from_side}
use Rattle.wl_follow.specs.Sent.{SentState, first_piece, more_sent, ready_more, ready_part, released_but, unfollowed, without_first}
use Rattle.wl_follow.specs.declared.follower.Stretch.{Stretch}
use Rattle.wl_follow.specs.declared.follower.Told.{Told}
use Rattle.wl_follow.specs.declared.follower.What.{What}
use Rattle.wl_follow.specs.declared.follower.What.TheVariants as what
use Rattle.wl_follow.specs.declared.side.Side.{Side}
use Rattle.wl_follow.specs.declared.side.Side.TheVariants.{Client, Server}
use Rattle.wl_flat.proofs.ToldRuns.{hands_follower}
use Rattle.wl_flat.specs.Told.{CatchesUp, as_tokens, caught_up, heard_to, with_said}
use Rattle.wl_flat.specs.ToldRuns.{CaughtUp, Deed, Does, Found, FoundAgain, FoundNone, Heard, LackedMemory, Leads, SentOff, Watched, Wrote, all_read, all_told, heard_in, new_watched, read_behind, read_in, told_in}
use Rattle.wl_flat.specs.declared.telling.Telling.{Telling}

-- So many bytes of a side were told, so many came, and so many were read. No more are ready than were released.
record IsRead (told heard read : ℕ) (s : SentState) : Type 0 where
  came : told + length s.bytes ≤ heard
  ready : s.ready ≤ s.released
  released : told + s.released ≤ read

module _ (peer : Side) (told heard read : ℕ) where
  -- ---- what comes, and what is released

  more_read : (q : Queue) (s : SentState) → IsRead told heard read s → IsRead told (heard + length q.bytes) read (more_sent q.bytes q.tokens s)
  more_read q s x = by s.is_followed
    where
      by : (b : Bool) → IsRead told (heard + length q.bytes) read (if b then (record s { bytes = s.bytes ++ q.bytes; tokens = s.tokens ++ q.tokens }) else s)
      by true = record { came = omega (arith, x.came, length-append s.bytes q.bytes); ready = x.ready; released = x.released }
      by false = record { came = omega (arith, x.came); ready = x.ready; released = x.released }

  released_read : (unread : ℕ) (s : SentState) → IsRead told heard read s → IsRead told heard (max read (heard - unread)) (released_but unread s)
  released_read unread s x = record { came = x.came; ready = omega (arith, x.ready); released = omega (arith, x.came, x.released) }

  later_read : (n : ℕ) (s : SentState) → IsRead told heard read s → IsRead told heard (max read n) s
  later_read n s x = record { came = x.came; ready = x.ready; released = omega (arith, x.released) }

  -- what is left of the peer as what is told catches up
  caught_sent : (unread : ℕ) (w : Queue) (t : Telling) → sent peer (caught_up peer unread w t).follower ≡ released_but unread (sent peer t.follower)
  caught_sent unread w t = by peer
    where
      by : (side : Side) → sent side (caught_up side unread w t).follower ≡ released_but unread (sent side t.follower)
      by Client = refl
      by Server = refl

  heard_sent : (unread : ℕ) (t : Telling) → sent peer (heard_to peer unread t).follower ≡ released_but unread (sent peer t.follower)
  heard_sent unread t = by peer
    where
      by : (side : Side) → sent side (heard_to side unread t).follower ≡ released_but unread (sent side t.follower)
      by Client = refl
      by Server = refl

  said_sent : (unread : ℕ) (w : Queue) (t : Telling)
      → sent peer (with_said peer w (heard_to peer unread t)).follower ≡ released_but unread (sent peer t.follower)
  said_sent unread w t = by peer
    where
      by : (side : Side) → sent side (with_said side w (heard_to side unread t)).follower ≡ released_but unread (sent side t.follower)
      by Client = refl
      by Server = refl

  came_sent : (q : Queue) (f : FollowState) → sent peer (came_from peer q f) ≡ more_sent q.bytes q.tokens (sent peer f)
  came_sent q f = by peer
    where
      by : (side : Side) → sent side (came_from side q f) ≡ more_sent q.bytes q.tokens (sent side f)
      by Client = refl
      by Server = refl

  caught_read : (unread : ℕ) (w : Queue) (t : Telling) (r : Result (Unit {0}) OutOfMemory) (t' : Telling) → CatchesUp peer unread w t r t'
      → IsRead told heard read (sent peer t.follower) → IsRead told heard (max read (heard - unread)) (sent peer t'.follower)
  caught_read unread w t (Ok done) t' is x =
      let same = ap (λ (y : Telling). sent peer y.follower) is ∙ caught_sent unread w t in
      subst (IsRead told heard (max read (heard - unread))) (sym same) (released_read unread (sent peer t.follower) x)
  caught_read unread w t (Err e) t' (inl is) x =
      let same = ap (λ (y : Telling). sent peer y.follower) is in
      subst (IsRead told heard (max read (heard - unread))) (sym same) (later_read (heard - unread) (sent peer t.follower) x)
  caught_read unread w t (Err e) t' (inr (inl is)) x =
      let same = ap (λ (y : Telling). sent peer y.follower) is ∙ heard_sent unread t in
      subst (IsRead told heard (max read (heard - unread))) (sym same) (released_read unread (sent peer t.follower) x)
  caught_read unread w t (Err e) t' (inr (inr is)) x =
      let same = ap (λ (y : Telling). sent peer y.follower) is ∙ said_sent unread w t in
      subst (IsRead told heard (max read (heard - unread))) (sym same) (released_read unread (sent peer t.follower) x)

  -- ---- turns

  turn_read : (turn : Side) (count : ℕ) (rest : List Stretch) (f : FollowState) → IsRead told heard read (sent peer f)
      → IsRead told heard read (sent peer (with_sent turn (ready_more count (sent turn f)) (record f { order = rest; side = turn })))
  turn_read turn count rest f x = by peer turn x
    where
      by : (side turn : Side) → IsRead told heard read (sent side f)
          → IsRead told heard read (sent side (with_sent turn (ready_more count (sent turn f)) (record f { order = rest; side = turn })))
      by Client Client x = record { came = x.came; ready = omega arith; released = x.released }
      by Client Server x = x
      by Server Client x = x
      by Server Server x = record { came = x.came; ready = omega arith; released = x.released }

  turns_read : (table : List InterfaceRow) (stretches : List Stretch) (f f' : FollowState) → Turns table f stretches f' → IsRead told heard read (sent peer f)
      → IsRead told heard read (sent peer f')
  turns_read table [] f f' same x = subst (λ (g : FollowState). IsRead told heard read (sent peer g)) (sym same) x
  turns_read table (stretch ∷ stretches) f f' (rest, is, none, more) x =
      turns_read table stretches (turned stretch rest f) f' more (turn_read stretch.side stretch.count rest f x)

  -- ---- what is told

  -- a whole message of what is ready
  first_read : (signature : List ArgumentType) (s s' : SentState) (piece : Queue) → IsWhole (ready_part s).bytes → piece ≡ first_piece signature s
      → s' ≡ without_first signature s → IsRead told heard read s → IsRead (told + length piece.bytes) heard read s'
  first_read signature s s' piece whole piece_is is x =
      let taken = ap (λ (q : Queue). length q.bytes) piece_is in
      let size = length-take (length_of (ready_part s).bytes) s.bytes in
      let ready_size = length-take s.ready s.bytes in
      let there = whole.there in
      let bytes = ap (λ (y : SentState). length y.bytes) is in
      let left = length-drop (length_of (ready_part s).bytes) s.bytes in
      let ready = ap (λ (y : SentState). y.ready) is in
      let released = ap (λ (y : SentState). y.released) is in record {
        came = omega (arith, taken, size, bytes, left, x.came);
        ready = omega (arith, ready, released, x.ready);
        released = omega (arith, taken, size, ready_size, there, released, x.ready, x.released);
      }

  -- no piece: the side is followed no further
  none_read : (s s' : SentState) (piece : Queue) → piece ≡ nothing → s' ≡ unfollowed s → IsRead told heard read s → IsRead (told + length piece.bytes) heard read s'
  none_read s s' piece piece_is is x =
      let taken = ap (λ (q : Queue). length q.bytes) piece_is in
      let bytes = ap (λ (y : SentState). length y.bytes) is in
      let ready = ap (λ (y : SentState). y.ready) is in
      let released = ap (λ (y : SentState). y.released) is in record {
        came = omega (arith, taken, bytes, x.came);
        ready = omega (arith, ready, released);
        released = omega (arith, taken, released, x.released);
      }

  front_read : (table : List InterfaceRow) (side : Side) (o : Store (Unit {0})) (s : SentState) (w : What) (m : WireMessage) (piece : Queue) (o' : Store (Unit {0})) (s' : SentState)
      → TellsFront table side o s w m piece o' s' → IsRead told heard read s → IsRead (told + length piece.bytes) heard read s'
  front_read table side o s (what.Message interface) m piece o' s' (object, row, reads, i, noted, piece_is, is) x =
      let message = reads.1 in first_read row.signature s s' piece message.whole piece_is is x
  front_read table side o s (what.Refused interface fault) m piece o' s' (object, row, reads, i, noted, piece_is, is) x = none_read s s' piece piece_is is x
  front_read table side o s (what.Unknown sender opcode) m piece o' s' (whole, a, b, unknown, same, piece_is, is) x = first_read [] s s' piece whole piece_is is x
  front_read table side o s what.Malformed m piece o' s' (no_message, same, piece_is, is) x = none_read s s' piece piece_is is x

  -- nothing of the peer is told
  same_read : (s : SentState) → IsRead told heard read s → IsRead (told + 0) heard read s
  same_read s x = record { came = omega (arith, x.came); ready = x.ready; released = omega (arith, x.released) }

  tell_read : (table : List InterfaceRow) (turn : Side) (mid : FollowState) (w : What) (m : WireMessage) (piece : Queue) (o' : Store (Unit {0})) (left : SentState)
      → TellsFront table turn mid.objects (sent turn mid) w m piece o' left → IsRead told heard read (sent peer mid)
      → IsRead (told + length (from_side peer turn piece).bytes) heard read (sent peer (with_sent turn left (record mid { objects = o' })))
  tell_read table turn mid w m piece o' left front x = by peer turn front x
    where
      by : (side turn : Side) → TellsFront table turn mid.objects (sent turn mid) w m piece o' left → IsRead told heard read (sent side mid)
          → IsRead (told + length (from_side side turn piece).bytes) heard read (sent side (with_sent turn left (record mid { objects = o' })))
      by Client Client front x = front_read table Client mid.objects mid.client w m piece o' left front x
      by Client Server front x = same_read mid.client x
      by Server Client front x = same_read mid.server x
      by Server Server front x = front_read table Server mid.objects mid.server w m piece o' left front x

  tells_read : (table : List InterfaceRow) (f f' : FollowState) (what : Told) (m : WireMessage) (piece : Queue) → Tells table f what m piece f'
      → IsRead told heard read (sent peer f) → IsRead (told + length (from_side peer what.side piece).bytes) heard read (sent peer f')
  tells_read table f f' what m piece tells x =
      let mid = turns_read table tells.stretches f tells.mid tells.turns x in
      let one = tell_read table tells.mid.side tells.mid what.what m piece tells.objects tells.left tells.front mid in
      subst (λ (side : Side). IsRead (told + length (from_side peer side piece).bytes) heard read (sent peer f')) (sym tells.side)
      (subst (λ (g : FollowState). IsRead (told + length (from_side peer tells.mid.side piece).bytes) heard read (sent peer g)) (sym tells.after_is) one)

-- ---- a deed

-- nothing was heard, and nothing of the peer is told
quiet_read : (told heard read : ℕ) (s s' : SentState) → s' ≡ s → IsRead told heard read s → IsRead (told + 0) (heard + 0) read s'
quiet_read told heard read s s' same x =
    subst (IsRead (told + 0) (heard + 0) read) (sym same) (record { came = omega (arith, x.came); ready = x.ready; released = omega (arith, x.released) })

heard_none : (told heard read : ℕ) (s : SentState) → IsRead told heard read s → IsRead told (heard + 0) read s
heard_none told heard read s x = record { came = omega (arith, x.came); ready = x.ready; released = x.released }

deed_read : (peer : Side) (told heard read : ℕ) (b a : Watched) (d : Deed) → Does peer b d a → IsRead told heard read (sent peer b.telling.follower)
    → IsRead (told + length (told_in peer d).bytes) (heard + length (heard_in d).bytes) (read_in heard read d) (sent peer a.telling.follower)
deed_read peer told heard read b a (Heard bytes ds) is x =
    let q : Queue = record { bytes = bytes; tokens = as_tokens ds } in
    let same = ap (λ (w : Watched). sent peer w.telling.follower) is ∙ came_sent peer told heard read q b.telling.follower in
    subst (IsRead (told + 0) (heard + length bytes) read) (sym same)
    (same_read peer told (heard + length bytes) read (more_sent bytes (as_tokens ds) (sent peer b.telling.follower))
    (more_read peer told heard read q (sent peer b.telling.follower) x))
deed_read peer told heard read b a (CaughtUp unread r) (t, caught, is) x =
    quiet_read told heard (max read (heard - unread)) (sent peer t.follower) (sent peer a.telling.follower) (ap (λ (w : Watched). sent peer w.telling.follower) is)
    (caught_read peer told heard read unread b.waiting b.telling r t caught x)
deed_read peer told heard read b a (Wrote more) is x =
    quiet_read told heard read (sent peer b.telling.follower) (sent peer a.telling.follower) (ap (λ (w : Watched). sent peer w.telling.follower) is) x
deed_read peer told heard read b a (SentOff unread n out) (t, caught, out_is, is) x =
    quiet_read told heard (max read (heard - unread)) (sent peer t.follower) (sent peer a.telling.follower) (ap (λ (w : Watched). sent peer w.telling.follower) is)
    (caught_read peer told heard read unread b.waiting b.telling (Ok tt) t caught x)
deed_read peer told heard read b a (Found table found piece lent s lent') (f, t, none, tells, hands, is) x =
    let same : a.telling.follower ≡ f = ap (λ (w : Watched). w.telling.follower) is ∙ hands_follower (record b.telling { follower = f }) found lent s lent' t hands in
    let more : ℕ = length (from_side peer found.0.side piece).bytes in
    heard_none (told + more) heard read (sent peer a.telling.follower)
    (subst (λ (g : FollowState). IsRead (told + more) heard read (sent peer g)) (sym same)
    (tells_read peer told heard read table b.telling.follower f found.0 (content found.1) piece tells x))
deed_read peer told heard read b a (FoundAgain found lent s lent') (t, kept, hands, is) x =
    quiet_read told heard read (sent peer b.telling.follower) (sent peer a.telling.follower)
    (ap (λ (w : Watched). sent peer w.telling.follower) is ∙ ap (sent peer) (hands_follower (record b.telling { kept = None }) found lent s lent' t hands)) x
deed_read peer told heard read b a (FoundNone table) (f, none, (stretches, turns, last, order), is) x =
    quiet_read told heard read (sent peer f) (sent peer a.telling.follower) (ap (λ (w : Watched). sent peer w.telling.follower) is)
    (turns_read peer told heard read table stretches b.telling.follower f turns x)
deed_read peer told heard read b a (LackedMemory table) (f, none, (stretches, turns), is) x =
    quiet_read told heard read (sent peer f) (sent peer a.telling.follower) (ap (λ (w : Watched). sent peer w.telling.follower) is)
    (turns_read peer told heard read table stretches b.telling.follower f turns x)

-- ---- deeds one after another

run_read : (peer : Side) (told heard read : ℕ) (run : List Deed) (b a : Watched) → Leads peer b run a → IsRead told heard read (sent peer b.telling.follower)
    → told + length (all_told peer run).bytes ≤ read_behind heard read run
run_read peer told heard read [] b a is x = omega (arith, x.released)
run_read peer told heard read (d ∷ run) b a (mid, does, leads) x =
    let rest = run_read peer (told + length (told_in peer d).bytes) (heard + length (heard_in d).bytes) (read_in heard read d) run mid a leads (deed_read peer told heard read b mid d does x) in
    omega (arith, rest, length-append (told_in peer d).bytes (all_told peer run).bytes)

none_read_yet : (peer : Side) → IsRead 0 0 0 (sent peer new_watched.telling.follower)
none_read_yet Client = record { came = omega arith; ready = omega arith; released = omega arith }
none_read_yet Server = record { came = omega arith; ready = omega arith; released = omega arith }

pub only_read : (peer : Side) (run : List Deed) (a : Watched) → Leads peer new_watched run a → length (all_told peer run).bytes ≤ all_read run
only_read peer run a leads = let most = run_read peer 0 0 0 run new_watched a leads (none_read_yet peer) in omega (arith, most)
