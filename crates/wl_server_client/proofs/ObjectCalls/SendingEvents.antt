-- What an event that is sent does, from the steps of its sending.
use Rattle.std.proofs.Common.{◌≡◌, ◌∙◌, ℕ, Bool, true, false, List, [], ◌∷◌, ◌++◌, append-nil, map, Some, IfSome, Result, Ok, Err, refl, ap, inl, inr, arith, is_some}
use Rattle.std.proofs.lemmas.Bool.{false≢true}
use Rattle.wl_wire.specs.declared.error.IoFault.{IoFault}
use Rattle.wl_wire.specs.declared.argument.Argument.{Argument}
use Rattle.wl_wire.specs.declared.argument.Token.{Token}
use Rattle.wl_wire.specs.MapIds.{with_ids}
use Rattle.wl_wire.specs.Table.{InterfaceRow}
use Rattle.wl_link.specs.declared.object.Object.{Object}
use Rattle.wl_link.specs.Exchange.{Queue, Sending}
use Rattle.wl_link.specs.Link.{LinkState, Wrote, WroteBy}
use Rattle.wl_link.specs.Puts.{lacks_memory}
use Rattle.wl_link.specs.Store.{Store, held}
use Rattle.wl_server_client.specs.declared.error.EventError.{EventError}
use Rattle.wl_server_client.specs.declared.error.EventError.TheVariants as refused
use Rattle.wl_server_client.specs.declared.objects.Kept.{Kept}
use Rattle.wl_server_client.specs.Inside.Client.{Does}
use Rattle.wl_server_client.specs.Deeds.{Deed, Put, Sent, notes_in}
use Rattle.wl_server_client.specs.Inside.Ending.{notes_ending, registries_ending, store_ending, told_of_end, PutsEnd, TellsEnd}
use Rattle.wl_server_client.specs.Events.{AsksForMemory, SendsEvent, SendsGranted, SentAs, SessionMessage, ends_closed, ends_sender, event_check, said, wire_argument, wire_message}
use Rattle.wl_server_client.specs.Ids.{ClientParts, IdParts}
use Rattle.wl_server_client.specs.Objects.{told_of_removed}
use Rattle.wl_server_client.specs.Part.{Part, named, with_link, id_of}
use Rattle.wl_server_client.specs.Inside.Puts.{Puts}
use Rattle.wl_server_client.specs.Stored.{Stored, no_times, untimed}
use Rattle.wl_server_client.specs.Telling.{Core, Tells, closed_down, core_of, end_deeds, part_of, tells}
use Rattle.wl_link.proofs.Calls.Branches.{at_false}
use Rattle.wl_server_client.proofs.CallSteps.Doing.{does_quietly, told_untimed}
use Rattle.wl_server_client.proofs.ObjectCalls.Closing.{client_of, closing, told_by}
use Rattle.wl_server_client.proofs.ObjectCalls.Destroying.{named_is_held}
use Rattle.wl_server_client.proofs.Readings.Notes.{notes_append, notes_of_sends}
use Rattle.wl_server_client.proofs.GlobalCalls.Putting.{puts_none}

-- ---- the message that is written

argument_numbered : (a : Argument IdParts Token) → with_ids (λ id. id.number) (λ id. id.number) a ≡ wire_argument a
argument_numbered h1 = grind (arith)

pub arguments_numbered : (args : List (Argument IdParts Token)) → map (with_ids (λ id. id.number) (λ id. id.number)) args ≡ map wire_argument args
arguments_numbered [] = refl
arguments_numbered (a ∷ args) = rw (argument_numbered a, arguments_numbered args) refl

module _ {U : Type 0} where
  -- what is said of what the sender's number holds is said of the sender
  pub of_sender : (store : Store (Kept U)) (id : IdParts) (x : Object (Kept U)) (P : Object (Kept U) → Type 0) → named store id ≡ Some x
      → IfSome (held store id.number) P → P x
  of_sender store id x P is some = rw (named_is_held store id x is) at some

  -- what follows sends has all the notes
  notes_behind : (es : List Sending) (did : List (Deed U)) → notes_in (map Sent es ++ did) ≡ notes_in did
  notes_behind es did = grind (arith, notes_append, map, notes_in, notes_of_sends)

-- ---- the client after it

module _ {T U C : Type 0} (client : ClientParts) (m : SessionMessage) (sender : Object (Kept U)) where
  -- its sender is gone, where the event ends it, and this is its link
  abbrev after_end : Stored T U C → Bool → LinkState T → Stored T U C
  after_end s ends link = record (untimed s) {
    part = record s.part {
      link = link;
      store = store_ending ends s.part.store m.sender.number;
      registries = registries_ending ends s.part.registries m.sender.number sender;
      waiting = s.part.waiting ++ notes_ending ends client m.sender.number sender;
    };
  }

  after_end_is : (s : Stored T U C) (ends : Bool) (link : LinkState T)
      → after_end s ends link ≡ client_of s.serial (ends_sender client (core_of s.part) m sender ends).core link s.made
  after_end_is s ends link = grind (arith, untimed, append-nil)

  module _ (sends : T → Queue → Result ℕ IoFault → T → Type 0) where
    -- the verdicts of an event that was put, and of one that was not
    told_of : (p : Part T U C) (ends : Bool) (mid after : LinkState T) (told : Result (Unit {0}) IoFault)
        → Puts sends mid (told_of_end ends m.sender.number) told after
        → (did : List (Deed U))
        × Tells sends (ends_sender client (core_of p) m sender ends) mid (lacks_memory told) did
        (part_of (record { core = closing (ends_sender client (core_of p) m sender ends).core told; link = after }))
        × (notes_in did ≡ notes_in (end_deeds (closing (ends_sender client (core_of p) m sender ends).core told).ended))
    told_of p true mid after told puts =
        told_by sends (ends_sender client (core_of p) m sender true).core _ (told_of_removed m.sender sender.value.user_data) mid after told
        (λ c. grind (arith, is_some, named, id_of, m.sender, sender.value.user_data)) puts
    told_of p false mid after told puts = told_by sends (core_of p) [] (λ d. []) mid after told (λ d. refl) puts

    told_closed : (p : Part T U C) (ends : Bool) (mid : LinkState T) (f : IoFault)
        → (did : List (Deed U))
        × Tells sends (ends_closed client (core_of p) m sender ends) mid false did
        (part_of (record { core = closing (ends_sender client (core_of p) m sender ends).core (Err f); link = mid }))
        × (notes_in did ≡ notes_in (end_deeds (closing (ends_sender client (core_of p) m sender ends).core (Err f)).ended))
    told_closed p true mid f =
        told_by sends (ends_sender client (closed_down (core_of p)) m sender true).core [] (told_of_removed m.sender sender.value.user_data) mid mid
        (Ok tt) (λ c. grind (arith, is_some, named, id_of, m.sender, sender.value.user_data))
        (puts_none sends mid)
    told_closed p false mid f = told_by sends (closed_down (core_of p)) [] (λ d. []) mid mid (Ok tt) (λ d. refl) (puts_none sends mid)

    sent_failed : (before after : Part T U C) (ends : Bool) (f : IoFault) (mid : LinkState T) (did : List (Deed U)) → lacks_memory (Err f) ≡ false
        → Tells sends (ends_closed client (core_of before) m sender ends) mid false did after
        → SentAs sends client before m sender ends (Err f) mid (Ok tt) false did after
    sent_failed before after ends h4 mid did other tells = grind (arith, false≢true)

    -- the event was written, or its write failed and not for want of memory
    pub sent : (s s1 s2 : Stored T U C) (ends : Bool) (n : ℕ) (mid : LinkState T) (written : Result (Unit {0}) IoFault) (lacked : Bool)
        → Wrote sends s.part.link (wire_message m) written mid → lacks_memory written ≡ false
        → untimed s1 ≡ after_end s ends mid → n ≡ m.sender.number → TellsEnd sends s1 n ends written lacked s2
        → Does s (λ p did q. SendsGranted sends client p m sender ends (Ok tt) lacked did q) s2
    sent s s1 s2 ends n mid written lacked (es, wrote) went ended n-is (told, after, puts, lacked-is, closed) = grind (arith, by)
      where
        c : Core U C
        c = (ends_sender client (core_of s.part) m sender ends).core

        after-is : (did : List (Deed U)) → notes_in did ≡ notes_in (end_deeds (closing c told).ended)
            → untimed s2 ≡ record { serial = s.serial; part = part_of (record { core = closing c told; link = after }); made = s.made ++ notes_in did; times = no_times }
        after-is did notes =
            grind (arith, append-nil, closed_down, untimed, with_link, after_end_is, told_untimed, client_of, closing, c, ends_sender, core_of)

        by : (written : Result (Unit {0}) IoFault) → WroteBy sends s.part.link (wire_message m) es written mid → lacks_memory written ≡ false
            → PutsEnd sends mid m.sender.number ends written told after
            → Does s (λ p did q. SendsGranted sends client p m sender ends (Ok tt) lacked did q) s2
        by (Ok u) wrote went puts =
            let t = told_of s.part ends mid after told puts in
            let did : List (Deed U) = Put (said m) ∷ t.0 in (
              map Sent es ++ did,
              part_of (record { core = closing c told; link = after }),
              inr (es, did, Ok u, mid, wrote, (t.0, rw lacked-is t.1, refl, refl), refl),
              after-is (map Sent es ++ did) (notes_behind es did ∙ t.2),
            )
        by (Err f) wrote went (told-err, same) =
            let t = told_closed s.part ends mid f in
            let lacks : lacked ≡ false = lacked-is ∙ ap lacks_memory told-err ∙ went in
            let q : Part T U C = part_of (record { core = closing c told; link = after }) in (
              map Sent es ++ t.0,
              q,
              inr (es, t.0, Err f, mid, wrote, rw lacks (sent_failed s.part q ends f mid t.0 went (rw (told-err, same) t.1)), refl),
              after-is (map Sent es ++ t.0) (notes_behind es t.0 ∙ rw told-err t.2),
            )

    -- there was no room for the note of its sender's end
    pub no_room : (s s1 : Stored T U C) (ends : Bool) → AsksForMemory sender ends → untimed s1 ≡ untimed s
        → Does s (λ p did q. SendsGranted sends client p m sender ends (Err refused.OutOfMemory) true did q) s1
    no_room s s1 ends asks same = ([], s.part, inl (asks, refl, refl, refl, refl), grind (arith, append-nil, same))

    -- there was no memory for the write
    pub not_written : (s s1 : Stored T U C) (ends : Bool) (mid : LinkState T) (written : Result (Unit {0}) IoFault)
        → Wrote sends s.part.link (wire_message m) written mid → lacks_memory written ≡ true
        → untimed s1 ≡ record (untimed s) { part = with_link s.part mid }
        → Does s (λ p did q. SendsGranted sends client p m sender ends (Err refused.OutOfMemory) true did q) s1
    not_written s s1 ends mid written (es, wrote) lacked same = (
      map Sent es ++ [],
      with_link s.part mid,
      inr (es, [], written, mid, wrote, (grind (arith, false≢true)), refl),
      grind (arith, untimed, with_link, append-nil, notes_behind),
    )

-- ---- an event, refused or not

module _ {T U C : Type 0} (sends : T → Queue → Result ℕ IoFault → T → Type 0) (client : ClientParts) (table : List InterfaceRow) (s : Stored T U C)
    (m : SessionMessage) where
  -- to a killed client nothing is sent
  pub to_killed : s.part.is_killed ≡ true → Does s (λ p did q. SendsEvent sends client table p m (Ok tt) false did q) s
  to_killed killed = does_quietly s (λ p did q. SendsEvent sends client table p m (Ok tt) false did q) s.part (rw killed (refl, refl, refl, refl))

  pub was_refused : (e : EventError) → s.part.is_killed ≡ false → event_check client s.part.store table m ≡ Err e
      → Does s (λ p did q. SendsEvent sends client table p m (Err e) false did q) s
  was_refused e live is =
      does_quietly s (λ p did q. SendsEvent sends client table p m (Err e) false did q) s.part (rw (live, is) (refl, refl, refl, refl))

  pub was_granted : (sender : Object (Kept U)) (ends : Bool) (answer : Result (Unit {0}) EventError) (lacked : Bool) (after : Stored T U C)
      → s.part.is_killed ≡ false → event_check client s.part.store table m ≡ Ok (sender, ends)
      → Does s (λ p did q. SendsGranted sends client p m sender ends answer lacked did q) after
      → Does s (λ p did q. SendsEvent sends client table p m answer lacked did q) after
  was_granted sender ends answer lacked after live is (did, q, granted, same) = (did, q, at_false _ s.part.is_killed live (rw is granted), same)
