-- What a verdict over the link leaves of a client beside it.
use Rattle.std.proofs.Common.{◌≡◌, ℕ, Bool, true, false, List, [], ◌++◌, map, Result, Ok, Err, refl, sym, ap, ◌∙◌, true≢false, arith}
use mathlib.Core.Logic.{inl, inr}
use Rattle.std.specs.Prelude.{◌||◌}
use Rattle.wl_wire.specs.declared.error.IoFault.{IoFault}
use Rattle.wl_wire.specs.declared.error.IoFault.TheVariants as fault
use Rattle.wl_link.specs.Exchange.{Queue, Sending}
use Rattle.wl_link.specs.Link.{LinkState}
use Rattle.wl_link.specs.Puts.{FlushesOut, Said, lacks_memory}
use Rattle.wl_link.specs.Reader.{CarriesOut, Given, HandedOut, Reader, ReaderState, Verdict, came_to, put_and_gave}
use Rattle.wl_server_client.specs.Deeds.{Deed, Sent, notes_in}
use Rattle.wl_server_client.specs.Inside.Carried.{told_notes}
use Rattle.wl_server_client.specs.Part.{Part}
use Rattle.wl_server_client.specs.Telling.{Core, Tells, Told, closed_down, deeds_of, end_deeds, part_of, speaker}
use Rattle.wl_server_client.proofs.Readings.Notes.{notes_told}

pub no_flush : {T : Type 0} (sends : T → Queue → Result ℕ IoFault → T → Type 0) (flushes : Bool) (mid : LinkState T) (es : List Sending)
    (lacked : Bool) (after : LinkState T)
    → flushes ≡ false → FlushesOut sends flushes mid es lacked after → lacked ≡ false
no_flush sends h2 mid es lacked after none h = grind (arith, true≢false)

failed : (f : IoFault) → ◌≡◌ {A = Result (Unit {0}) IoFault} (Err f) (Ok tt) → ⊥
failed f is = absurd cc

-- How a verdict came out: all was put; or a message could not be put, and the client is closed down; or memory was refused.
pub data Came {U C : Type 0} (v : Verdict (Core U C) (Told U)) (lacked : Bool) (c : Core U C) : Type 0 where
  put_all : c ≡ v.last v.core → (v.flushes ≡ false → lacked ≡ false) → Came v lacked c
  not_put : (v.puts ≡ [] → ⊥) → c ≡ v.last (closed_down v.core) → (v.flushes ≡ false → lacked ≡ false) → Came v lacked c
  no_memory : (v.puts ≡ [] → v.asks ≡ true) → c ≡ v.starved → lacked ≡ true → Came v lacked c

-- what it leaves of the client, and what was noted in that
pub record IsTold {T U C : Type 0} (v : Verdict (Core U C) (Told U)) (lacked : Bool) (did : List (Deed U)) (q : Part T U C) : Type 0 where
  pub link : LinkState T
  pub core : Core U C
  pub came : Came v lacked core
  pub part_is : q ≡ part_of (record { core = core; link = link })
  pub notes_are : notes_in did ≡ told_notes (v.events core) ++ notes_in (end_deeds core.ended)

module _ {U C Finish : Type 0} (reader : Reader (Core U C) (Told U) Finish)
    (closes : (c : Core U C) (f : IoFault) → reader.broken c f ≡ closed_down c) where
  came_so : (v : Verdict (Core U C) (Told U)) (wrote : Result (Unit {0}) IoFault) (lacks lacked : Bool) (c : Core U C) → c ≡ came_to reader v wrote
      → lacked ≡ lacks_memory wrote || lacks → (v.puts ≡ [] → wrote ≡ Ok tt) → (v.flushes ≡ false → lacks ≡ false) → Came v lacked c
  came_so v (Ok u) lacks lacked c is memory all flushed = put_all is (λ none. memory ∙ flushed none)
  came_so v (Err fault.OutOfMemory) lacks lacked c is memory all flushed = no_memory (λ none. absurd (failed fault.OutOfMemory (all none))) is memory
  came_so v (Err f) lacks lacked c is memory all flushed =
      not_put (λ none. failed _ (all none)) (is ∙ ap v.last (closes v.core _)) (λ none. memory ∙ flushed none)

  -- a verdict that was carried out, and what was given in that
  pub carried : {T : Type 0} (sends : T → Queue → Result ℕ IoFault → T → Type 0) (v : Verdict (Core U C) (Told U)) (link : LinkState T)
      (es : List Sending) (gave : List (Given (Told U)))
      (lacked : Bool) (end : ReaderState T (Core U C)) → CarriesOut sends reader v link es gave lacked end
      → Came v lacked end.core × ((put : List Said) × (gave ≡ put_and_gave put (v.events end.core)))
  carried sends v link es gave lacked end (inl (first, others, put, wrote, mid, lacks, puts, flushes, sent, is, given, memory)) = (
    came_so v wrote lacks lacked end.core is memory (λ nothing. (grind (arith, v.puts)))
        (λ none. no_flush sends v.flushes mid others lacks end.link none flushes),
    (put, given ∙ ap (λ (c : Core U C). put_and_gave put (v.events c)) (sym is)),
  )
  carried sends v link es gave lacked end (inr (asks, refused, silent, given, starves)) = (
    no_memory (λ nothing. asks) (ap (λ (x : ReaderState _ (Core U C)). x.core) starves) refused,
    ([], given ∙ ap (λ (x : ReaderState _ (Core U C)). map HandedOut (v.events x.core)) (sym starves)),
  )

pub told : {T U C : Type 0} (sends : T → Queue → Result ℕ IoFault → T → Type 0) (v : Verdict (Core U C) (Told U)) (link : LinkState T) (lacked : Bool)
    (did : List (Deed U)) (q : Part T U C)
    → Tells sends v link lacked did q → IsTold v lacked did q
told {T} {U} {C} sends v link lacked did q (es, gave, end, carries, did_so, same) =
    let (came, (put, given)) = carried speaker (λ c f. refl) sends v link es gave lacked end carries in
    record {
      link = end.link;
      core = end.core;
      came = came;
      part_is = same;
      notes_are = ap notes_in (did_so ∙ ap (λ (g : List (Given (Told U))). deeds_of (map Sent es) g end.core) given)
          ∙ notes_told es put (v.events end.core) end.core;
    }
