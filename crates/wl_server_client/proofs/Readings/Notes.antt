-- How a verdict that was carried out is told: what was put, the deeds, and the notes among them.
use Rattle.std.proofs.Common.{◌≡◌, ℕ, Bool, ◌||◌, List, [], ◌∷◌, ◌++◌, map, Result, refl, sym, ap, inl, inr, arith, Ok, Err, MatchResult, append-nil, false, ◌∙◌, true}
use Rattle.wl_wire.specs.declared.error.IoFault.{IoFault}
use Rattle.wl_link.specs.Exchange.{Queue, Sending}
use Rattle.wl_link.specs.Link.{LinkState}
use Rattle.wl_link.specs.Puts.{FlushesOut, Said, lacks_memory}
use Rattle.wl_link.specs.Reader.{Given, HandedOut, Queued, Verdict, came_to, put_and_gave, ReaderState, CarriesOut}
use Rattle.wl_server_client.specs.declared.notes.Happening.{Happening}
use Rattle.wl_server_client.specs.Inside.Carried.{IsCarried}
pub use Rattle.wl_server_client.specs.Inside.Carried.{told_notes}
use Rattle.wl_server_client.specs.Deeds.{Deed, Sent, notes_in}
use Rattle.wl_server_client.specs.Inside.Puts.{Puts}
use Rattle.wl_server_client.specs.Part.{Part, with_link}
use Rattle.wl_server_client.specs.Stored.{Stored, no_times, untimed}
use Rattle.wl_server_client.specs.Telling.{Core, Tells, Told, deeds_in, deeds_of, end_deeds, part_of, speaker, Kills, core_of, tells, closed_down}
use Rattle.wl_server_client.specs.declared.notes.DisconnectReason.TheVariants.{ConnectionClosed}
use Rattle.wl_server_client.specs.Inside.Client.{Does}
use Rattle.wl_server_client.specs.Inside.ReadingLoop.{linked}
use Rattle.wl_server_client.proofs.ObjectCalls.Posting.{kills_is}
use Rattle.std.proofs.Math.Bool.{or-false}
use Rattle.std.specs.Prelude.{MatchResult}
use Rattle.wl_wire.specs.Table.{InterfaceRow}
use Rattle.wl_link.proofs.Calls.Branches.{at_false, at_true}
use Rattle.wl_server_client.specs.Felt.{Hears, announcements, news}
use Rattle.wl_server_client.specs.Globals.{Shown}
use Rattle.wl_server_client.proofs.GlobalCalls.Putting.{puts_none}
use Rattle.wl_server_client.proofs.CallSteps.Doing.{does_quietly}

-- no note is made
pub made_end : {T U C : Type 0} (serial : ℕ) (p : Part T U C) (made : List (Happening U))
    → ◌≡◌ {A = Stored T U C} (record { serial = serial; part = p; made = made; times = no_times })
    (record { serial = serial; part = p; made = made ++ []; times = no_times })
made_end serial p made = rw (append-nil made) refl

-- ---- the notes among deeds

module _ {U : Type 0} where
  pub notes_append : (a b : List (Deed U)) → notes_in (a ++ b) ≡ notes_in a ++ notes_in b
  notes_append [] b = refl
  notes_append (d ∷ a) b = grind (arith, notes_append a b, d)

  pub notes_of_sends : (es : List Sending) → notes_in {U = U} (map Sent es) ≡ []
  notes_of_sends [] = refl
  notes_of_sends (e ∷ es) = notes_of_sends es

  pub notes_of_puts : (put : List Said) (gave : List (Given (Told U))) → notes_in (deeds_in (map Queued put ++ gave)) ≡ notes_in (deeds_in gave)
  notes_of_puts [] gave = refl
  notes_of_puts (m ∷ put) gave = notes_of_puts put gave

module _ {U C : Type 0} where
  -- what was put is no note
  pub notes_told : (es : List Sending) (put : List Said) (events : List (Told U)) (c : Core U C)
      → notes_in (deeds_of (map Sent es) (put_and_gave put events) c) ≡ told_notes events ++ notes_in (end_deeds c.ended)
  notes_told es put events c = grind (arith, notes_append, deeds_in, put_and_gave, end_deeds, notes_in, notes_of_sends, notes_of_puts)

  -- the messages of a verdict were put, and the core came to what that answered
  pub tells_put : {T : Type 0} (sends : T → Queue → Result ℕ IoFault → T → Type 0) (v : Verdict (Core U C) (Told U)) (before mid after : LinkState T)
      (wrote : Result (Unit {0}) IoFault) (others : List Sending) (lacked : Bool)
      → Puts sends before v.puts wrote mid → FlushesOut sends v.flushes mid others lacked after
      → (did : List (Deed U)) × Tells sends v before (lacks_memory wrote || lacked) did
      (part_of (record { core = came_to speaker v wrote; link = after }))
      × (notes_in did ≡ told_notes (v.events (came_to speaker v wrote)) ++ notes_in (end_deeds (came_to speaker v wrote).ended))
  tells_put sends v before mid after wrote others lacked (es, put, puts) flushed =
      let core : Core U C = came_to speaker v wrote in
      let end : ReaderState _ (Core U C) = record { core = core; link = after } in (
        deeds_of (map Sent (es ++ others)) (put_and_gave put (v.events core)) core,
        (es ++ others, put_and_gave put (v.events core), end, inl (es, others, put, wrote, mid, lacked, puts, flushed, refl, refl, refl, refl), refl, refl),
        notes_told (es ++ others) put (v.events core) core,
      )

  module _ {T : Type 0} (sends : T → Queue → Result ℕ IoFault → T → Type 0) where
    tells_so : (v : Verdict (Core U C) (Told U)) (s after : Stored T U C) (refused : Bool) (es : List Sending) (gave : List (Given (Told U)))
        (end : ReaderState T (Core U C)) → CarriesOut sends speaker v s.part.link es gave refused end
        → untimed after
        ≡ record { serial = s.serial; part = part_of end; made = s.made ++ notes_in (deeds_of (map Sent es) gave end.core); times = no_times }
        → Does s (λ p did q. Tells sends v p.link refused did q) after
    tells_so v s after refused es gave end by is = (deeds_of (map Sent es) gave end.core, part_of end, (es, gave, end, by, refl, refl), is)

    -- a verdict that was carried out over a client is told to it
    pub tells_carried : (v : Verdict (Core U C) (Told U)) (s after : Stored T U C) (refused : Bool) → IsCarried sends v s refused after
        → Does s (λ p did q. Tells sends v p.link refused did q) after
    tells_carried v s after refused (core, link, inl (wrote, mid, others, lacked, (es, put, puts), flushed, core_is, refused_is), is) =
        let given = ap (λ (c : Core U C). put_and_gave put (v.events c)) core_is in
        tells_so v s after refused (es ++ others) (put_and_gave put (v.events core)) (record { core = core; link = link })
        (inl (es, others, put, wrote, mid, lacked, puts, flushed, refl, core_is, given, refused_is))
        (is ∙ rw (notes_told (es ++ others) put (v.events core) core) refl)
    tells_carried v s after refused (core, link, inr (asks, refused_is, core_is, link_is), is) =
        tells_so v s after refused [] (map HandedOut (v.events core)) (record { core = core; link = link })
        (inr (asks, refused_is, refl, ap (λ (c : Core U C). map HandedOut (v.events c)) core_is, rw (core_is, link_is) refl))
        (is ∙ rw (notes_told [] [] (v.events core) core) refl)

    -- a client was told messages, which closes it down where one cannot be put, and nothing is noted beside its end
    abbrev pub told_carried : (s after : Stored T U C) (messages : List Said) (events : Core U C → List (Told U)) (wrote : Result (Unit {0}) IoFault)
        (link : LinkState T)
        → ((c : Core U C) → told_notes (events c) ≡ []) → Puts sends s.part.link messages wrote link
        → MatchResult wrote (λ _. after ≡ linked s link) (λ _. Does (linked s link) (λ p did q. Kills p ConnectionClosed did q) after)
        → IsCarried sends (record (tells (core_of s.part) messages) { events = events }) s (lacks_memory wrote) after
    told_carried s after messages events (Ok u) link none puts same = (
      core_of s.part,
      link,
      inl (Ok tt, link, [], false, puts, (refl, refl, refl), refl, refl),
      ap untimed same ∙ rw none (made_end s.serial (with_link s.part link) s.made),
    )
    told_carried s after messages events (Err f) link none puts kills = (
      closed_down (core_of s.part),
      link,
      inl (Err f, link, [], false, puts, (refl, refl, refl), grind (arith, came_to, f), sym (or-false _)),
      kills_is (linked s link) after ConnectionClosed kills ∙ rw none refl,
    )

-- ---- what it comes to that a client was told messages

module _ {T U C : Type 0} (sends : T → Queue → Result ℕ IoFault → T → Type 0) where
  -- a killed client is told nothing
  pub killed_hears : (s : Stored T U C) (messages : List Said) → s.part.is_killed ≡ true
      → Does s (λ p did q. Hears sends s.part messages false did q) s
  killed_hears s messages killed =
      does_quietly s (λ p did q. Hears sends s.part messages false did q) s.part (at_true _ s.part.is_killed killed (refl, refl, refl))

  pub live_hears : (s after : Stored T U C) (messages : List Said) (wrote : Result (Unit {0}) IoFault) (link : LinkState T) (lacked : Bool)
      → s.part.is_killed ≡ false → Puts sends s.part.link messages wrote link → lacked ≡ lacks_memory wrote
      → MatchResult wrote (λ _. after ≡ linked s link) (λ _. Does (linked s link) (λ p did q. Kills p ConnectionClosed did q) after)
      → Does s (λ p did q. Hears sends s.part messages lacked did q) after
  live_hears s after messages wrote link lacked live puts is told =
      let (did, q, tells', noted) = tells_carried sends (tells (core_of s.part) messages) s after _
      (told_carried sends s after messages (λ c. []) wrote link (λ c. refl) puts told) in
      (did, q, at_false _ s.part.is_killed live (rw is tells'), noted)

  -- a live client is told of a new global that it may see, and of no other
  abbrev HearsNew : List InterfaceRow → Bool → Shown → Stored T U C → Bool → Stored T U C → Type 0
  HearsNew table visible g s lacked after = Does s (λ p did q. Hears sends s.part (news table s.part visible g) lacked did q) after

  pub unseen_hears : (table : List InterfaceRow) (visible : Bool) (g : Shown) (s : Stored T U C) → s.part.is_killed ≡ false → visible ≡ false
      → HearsNew table visible g s false s
  unseen_hears table visible g s live unseen =
      rw unseen (live_hears s s [] (Ok tt) s.part.link false live (puts_none sends s.part.link) refl refl)

  pub seen_hears : (table : List InterfaceRow) (visible : Bool) (g : Shown) (s after : Stored T U C) (wrote : Result (Unit {0}) IoFault)
      (link : LinkState T) (lacked : Bool)
      → s.part.is_killed ≡ false → visible ≡ true → Puts sends s.part.link (announcements table s.part.registries g) wrote link
      → lacked ≡ lacks_memory wrote
      → MatchResult wrote (λ _. after ≡ linked s link) (λ _. Does (linked s link) (λ p did q. Kills p ConnectionClosed did q) after)
      → HearsNew table visible g s lacked after
  seen_hears table visible g s after wrote link lacked live seen puts is told =
      rw seen (live_hears s after (news table s.part true g) wrote link lacked live puts is told)
