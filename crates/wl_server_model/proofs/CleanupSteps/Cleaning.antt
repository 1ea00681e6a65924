-- A cleanup, as a step of the server.
use Rattle.std.proofs.Common.{arith, ◌≡◌, ℕ, Bool, true, false, List, [], ◌∷◌, ◌++◌, map, Option, None, Some, Result, Ok, Vec, refl, ap, ◌∙◌, append_assoc, append-nil}
use Rattle.std.specs.FinMap.{entries}
use Rattle.std.specs.Global.{Global}
use Rattle.std.specs.Option.{option_map}
use Rattle.std.specs.Prelude.{MatchBool}
use Rattle.std.proofs.lemmas.Option.{same_Some, none-some}
use Rattle.wl_wire.specs.declared.error.IoFault.{IoFault}
use Rattle.wl_link.specs.declared.object.Object.{Object}
use Rattle.wl_link.specs.Link.{LinkState}
use Rattle.wl_server_client.specs.declared.objects.Kept.{Kept}
use Rattle.wl_server_client.specs.declared.notes.Happening.{Happening}
use Rattle.wl_server_client.specs.Deeds.{Deed, Noted, notes_in}
use Rattle.wl_server_client.specs.Felt.{FlushedTo, objects_leave}
use Rattle.wl_server_client.specs.Inside.Gathering.{emptied}
use Rattle.wl_server_client.specs.NoteTimes.{to_gather}
use Rattle.wl_server_client.specs.Globals.{Offer}
use Rattle.wl_server_client.specs.Ids.{ClientParts}
use Rattle.wl_server_model.specs.Inside.Leaving.{FlushesKilled, ends_in, given_in, staying}
use Rattle.wl_server_client.specs.Inside.Leaving.{ends_of}
use Rattle.wl_server_client.specs.Part.{id_at, id_of, note_of_end, with_link}
use Rattle.wl_server_model.specs.PartStep.{CleanedAs, Feels, World, share_of}
use Rattle.wl_server_model.specs.Server.{Seen, seen_as}
use Rattle.wl_server_client.specs.Stored.{Stored, untimed}
use Rattle.wl_server_client.proofs.Readings.Notes.{notes_append, notes_of_sends}
use Rattle.wl_server_model.proofs.CleanupSteps.Gathering.{both_none}
use Rattle.wl_link.proofs.Calls.Branches.{at_false, at_true}

-- ---- notes among deeds

module _ {U : Type 0} where
  pub noted_notes : (told : List (Happening U)) → notes_in (map Noted told) ≡ told
  noted_notes [] = refl
  noted_notes (h ∷ told) = ap (λ (l : List (Happening U)). h ∷ l) (noted_notes told)

  leave_notes : (client : ClientParts) (objects : List (ℕ × Object (Kept U))) → notes_in (objects_leave client objects) ≡ ends_of client objects
  leave_notes client [] = refl
  leave_notes client (e ∷ objects) = grind (arith, notes_append, note_of_end, id_of, id_at, noted_notes, leave_notes client objects)

module _ {T U G C : Type 0} (w : World T G C) (id : ClientParts) (offer : Offer G) (out : Vec (ClientParts × T) Global) where
  -- ---- one client

  abbrev pub CleanedBy : Option (Stored T U C) → List (Happening U) → Bool → Option (Stored T U C) → List (Happening U) → Type 0
  CleanedBy before n lacked after n' = (did : List (Deed U)) × CleanedAs w id offer (Ok out) (seen_as n before) lacked did (seen_as n' after)

  killed_cleaned : (s : Stored T U C) (link : LinkState T) (answer : Result (Unit {0}) IoFault) (lacked : Bool) (sent : List (Deed U))
      (n n2 n3 : List (Happening U)) → s.part.is_killed ≡ true
      → FlushedTo w.sends s.part answer lacked sent (with_link s.part link) → notes_in sent ≡ [] → n2 ≡ n ++ (s.made ++ s.part.waiting)
      → n3 ≡ n2 ++ ends_of id (entries s.part.store.objects) → share_of id out.items ≡ link.transport ∷ [] → CleanedBy (Some s) n lacked None n3
  killed_cleaned s link answer lacked sent n n2 n3 killed flushed quiet gathered noted given =
      let did : List (Deed U) = map Noted s.part.waiting ++ (objects_leave id (entries s.part.store.objects) ++ sent) in
      let told : notes_in did ≡ s.part.waiting ++ (ends_of id (entries s.part.store.objects)
      ++ notes_in sent) = grind (arith, notes_append, map, objects_leave, entries, notes_in, noted_notes, leave_notes)
      in (
        did,
        (
          None,
          at_true _ s.part.is_killed killed (sent, answer, with_link s.part link, flushed, refl, given, refl),
          grind (arith, append-nil, append_assoc, ends_of, entries, notes_in),
        ),
      )

  live_cleaned : (s s' : Stored T U C) (n n2 n3 : List (Happening U)) → s.part.is_killed ≡ false → s'.part ≡ record s.part { waiting = [] }
      → s'.made ≡ []
      → n2 ≡ n ++ (s.made ++ s.part.waiting) → n3 ≡ n2 ++ [] → share_of id out.items ≡ [] → CleanedBy (Some s) n false (Some s') n3
  live_cleaned s s' n n2 n3 live part made gathered noted given =
      let told : n3 ++ s'.made ≡ (n ++ s.made) ++ notes_in (map Noted s.part.waiting) = grind (arith, append-nil, append_assoc, noted_notes)
      in grind (arith, map, at_false)

  left_is : (x : Option (Stored T U C)) → to_gather true x ≡ [] → option_map untimed x ≡ option_map (emptied true) x
  left_is None none = refl
  left_is (Some s) none = grind (arith, both_none s.made s.part.waiting none)

  cleaned_from : (s s1 : Stored T U C) (lacked : Bool) (sent : List (Deed U)) (n n2 n3 : List (Happening U))
      → FlushesKilled w.sends s.part lacked sent s1.part → s1.made ≡ s.made ++ notes_in sent
      → n2 ++ [] ≡ n ++ (s1.made ++ s1.part.waiting) → n3 ≡ n2 ++ ends_in id (Some (emptied true s1))
      → share_of id out.items ≡ given_in (Some (emptied true s1))
      → CleanedBy (Some s) n lacked (staying (Some (emptied true s1))) n3
  cleaned_from s s1 lacked sent n n2 n3 flushes made gathered noted given = at s.part.is_killed refl flushes
    where
      at : (b : Bool) → s.part.is_killed ≡ b
          → MatchBool b ((answer : Result (Unit {0}) IoFault) × FlushedTo w.sends s.part answer lacked sent s1.part)
          ((lacked ≡ false) × (sent ≡ []) × (s1.part ≡ s.part))
          → CleanedBy (Some s) n lacked (staying (Some (emptied true s1))) n3
      at true killed (answer, (es, link, by, lack, sends, is)) =
          grind (arith, append-nil, notes_of_sends {U = U} es, killed_cleaned s link answer lacked sent n n2 n3 killed (es, link, by, lack, sends, refl))
      at false live (not, none, same) = grind (arith, append-nil, live_cleaned s (emptied true s1) n n2 n3 live)

  -- it felt the flush, its notes were gathered, and it left if it was killed
  pub cleaned_one : (x0 x1 x2 : Option (Stored T U C)) (lacked : Bool) (sent : List (Deed U)) (n n2 n3 : List (Happening U))
      → Feels (seen_as [] x0) (λ p q. FlushesKilled w.sends p lacked sent q) lacked sent (seen_as [] x1)
      → option_map (emptied true) x2 ≡ option_map (emptied true) x1 → to_gather true x2 ≡ [] → n2 ++ to_gather true x2 ≡ n ++ to_gather true x1
      → n3 ≡ n2 ++ ends_in id x2 → share_of id out.items ≡ given_in x2 → CleanedBy x0 n lacked (staying x2) n3
  cleaned_one x0 x1 x2 lacked sent n n2 n3 felt same none told noted given =
      grind (arith, seen_as, untimed, staying, is, at, none, told, noted1, given)
    where
      is : option_map untimed x2 ≡ option_map (emptied true) x1
      is = left_is x2 none ∙ same

      noted1 : n3 ≡ n2 ++ ends_in id (option_map (emptied true) x1)
      noted1 = noted ∙ ap (λ (l : List (Happening U)). n2 ++ l) (grind (arith)) ∙ ap (λ (x : Option (Stored T U C)). n2 ++ ends_in id x) is

      at : (x0 x1 : Option (Stored T U C)) → Feels (seen_as [] x0) (λ p q. FlushesKilled w.sends p lacked sent q) lacked sent (seen_as [] x1)
          → n2 ++ [] ≡ n ++ to_gather true x1 → n3 ≡ n2 ++ ends_in id (option_map (emptied true) x1)
          → share_of id out.items ≡ given_in (option_map (emptied true) x1)
          → CleanedBy x0 n lacked (staying (option_map (emptied true) x1)) n3
      at (Some s) (Some s1) (q, flushes, now) told noted given =
          cleaned_from s s1 lacked sent n n2 n3
          (rw (same_Some s1.part q (ap (λ (x : Seen T U C). x.part) now)) flushes)
          (ap (λ (x : Seen T U C). x.made) now) told noted given
      at _ _ felt told noted given = grind (arith, append-nil, none-some)
