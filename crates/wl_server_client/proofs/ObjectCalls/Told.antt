-- What the post of an error makes of the link of a live client whose object is kept.
use Rattle.std.proofs.Common.{arith, ◌≡◌, ℕ, Bool, true, ◌||◌, List, Result, MatchResult, refl, ap, inl, inr}
use Rattle.wl_wire.specs.declared.error.IoFault.{IoFault}
use Rattle.wl_link.specs.Exchange.{Queue, Sending}
use Rattle.wl_link.specs.Link.{LinkState, Wrote}
use Rattle.wl_link.specs.Puts.{FlushesOut, lacks_memory}
use Rattle.wl_server_client.specs.declared.notes.DisconnectReason.{DisconnectReason}
use Rattle.wl_server_client.specs.declared.notes.DisconnectReason.TheVariants.{ConnectionClosed}
use Rattle.wl_server_client.specs.Inside.Client.{Does}
use Rattle.wl_server_client.specs.Posted.{TellsOrLacks}
use Rattle.wl_server_client.specs.Stored.{Stored}
use Rattle.wl_server_client.specs.Telling.{Kills, error_message}
use Rattle.wl_server_client.proofs.ObjectCalls.Posting.{kills_is}

module _ {T U C : Type 0} where
  -- the error was written, and what waits was flushed
  pub told_exactly : (sends : T → Queue → Result ℕ IoFault → T → Type 0) (before : LinkState T) (put flushed told after : Stored T U C)
      (reason : DisconnectReason)
      (n code : ℕ) (text : List ℕ) (wrote : Result (Unit {0}) IoFault) (es : List Sending) (refused lacked : Bool)
      → Wrote sends before (error_message n code text).message wrote put.part.link → FlushesOut sends true put.part.link es lacked flushed.part.link
      → refused ≡ lacks_memory wrote → MatchResult wrote (λ _. told ≡ flushed) (λ _. Does flushed (λ p did q. Kills p ConnectionClosed did q) told)
      → Does told (λ p did q. Kills p reason did q) after → TellsOrLacks sends before n code text (refused || lacked) after.part.link
  told_exactly sends before put flushed told after reason n code text wrote es refused lacked wrote-is flushes refused-is tells kills =
      let link : after.part.link ≡ flushed.part.link = grind (arith, kills_is) in
      rw link (inl (wrote, put.part.link, es, lacked, wrote-is, flushes, ap (λ (b : Bool). b || lacked) refused-is))

  -- there was no memory for the texts
  pub lacked_exactly : (sends : T → Queue → Result ℕ IoFault → T → Type 0) (s after : Stored T U C) (n code : ℕ) (text : List ℕ)
      → Does s (λ p did q. Kills p ConnectionClosed did q) after → TellsOrLacks sends s.part.link n code text true after.part.link
  lacked_exactly sends s after n code text kills = inr (refl, (ap (λ (x : Stored T U C). x.part.link) (kills_is s after ConnectionClosed kills)))
