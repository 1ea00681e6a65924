-- That each token that came was sent, or given back, or is kept, once.
use Rattle.std.specs.Prelude.{◌≡◌, ℕ, ◌+◌, List, [], ◌∷◌, ◌++◌, Option, None, Some}
use Rattle.std.specs.List.{sum_by}
use Rattle.std.proofs.Common.{ap, arith, inl, inr, refl}
use Rattle.std.proofs.lemmas.List.Sums.{sum_by-append}
use Rattle.wl_wire.specs.declared.argument.ArgumentType.{ArgumentType}
use Rattle.wl_wire.specs.declared.argument.Token.{Token}
use Rattle.wl_wire.specs.Message.{WireMessage}
use Rattle.wl_link.specs.Exchange.{Queue, joined}
use Rattle.wl_link.specs.HandOn.{first_of}
use Rattle.wl_follow.specs.declared.side.Side.{Side}
use Rattle.wl_follow.specs.declared.side.Side.TheVariants.{Client, Server}
use Rattle.wl_guard.specs.Ends.{told_end, told_for}
use Rattle.wl_guard.specs.Guard.{ArrivesAt, GuardState, new_guard}
use Rattle.wl_guard.specs.Known.{Known}
use Rattle.wl_guard.specs.Passages.{IsPassed, Passage, Passes, all_pieces, all_released, all_sent, released_for, sent_for}
use Rattle.wl_guard.specs.Policy.{PolicyState}
use Rattle.wl_guard.specs.Runs.{Call, Came, Does, GaveBack, HungUp, Leads, WasSent, all_back, all_came, all_out, back_in, came_in, kept_weight, out_in, weight_in, weight_out}
use Rattle.wl_guard.specs.declared.ending.Breach.{Breach}
use Rattle.wl_guard.specs.declared.ending.End.{End}
use Rattle.wl_guard.specs.declared.ending.End.TheVariants as end
use Rattle.wl_guard.specs.declared.session.Fate.{Fate}
use Rattle.wl_guard.specs.declared.session.Fate.TheVariants as fate
use Rattle.wl_guard.proofs.Passing.{pieces_are}
use Rattle.wl_guard.proofs.Runs.{sent_out}

module _ (p : PolicyState) (weight : Token → ℕ) where
  abbrev w : List Token → ℕ
  w ts = sum_by weight ts

  both : (xs ys : List Token) → w (xs ++ ys) ≡ w xs + w ys
  both xs ys = sum_by-append weight xs ys

  -- the tokens of a message go on, or are given back
  fate_balance : (f : Fate) (signature : List ArgumentType) (q : Queue) (m : WireMessage)
      → w (first_of signature q).tokens ≡ w (sent_for f signature q m).tokens + w (released_for f signature q)
  fate_balance fate.HandOn signature q m = omega arith
  fate_balance fate.Drop signature q m = omega arith
  fate_balance (fate.Lower version) signature q m = omega arith

  one_balance : (side : Side) (k k' : Known) (q rest : Queue) (x : Passage) → IsPassed p side k q x k' rest → w x.piece.tokens ≡ w x.sent.tokens + w x.released
  one_balance side k k' q rest x passed =
      let here = fate_balance x.fate passed.row.signature q passed.message in
      let a = ap (λ (y : Queue). w y.tokens) passed.piece in
      let b = ap (λ (y : Queue). w y.tokens) passed.sent in
      let d = ap w passed.released in
      omega (arith, here, a, b, d)

  all_balance : (side : Side) (xs : List Passage) (k k' : Known) (q rest : Queue) → Passes p side k q xs k' rest
      → w (all_pieces xs).tokens ≡ w (all_sent xs).tokens + w (all_released xs)
  all_balance side [] k k' q rest none = omega arith
  all_balance side (x ∷ xs) k k' q rest some =
      let one = one_balance side k some.0 q some.1 x some.2 in
      let more = all_balance side xs some.0 k' some.1 rest some.3 in
      let a = both x.piece.tokens (all_pieces xs).tokens in
      let b = both x.sent.tokens (all_sent xs).tokens in
      let d = both x.released (all_released xs) in
      omega (arith, one, more, a, b, d)

  -- an error has none
  told_for_tokens : (k : Known) (b : Breach) (side : Side) (q : Queue) → w (told_for p k b side q).tokens ≡ w q.tokens
  told_for_tokens k b Client q = let a = both q.tokens [] in omega (arith, a)
  told_for_tokens k b Server q = refl

  told_tokens : (k : Known) (e : Option End) (q : Queue) → w (told_end p k e q).tokens ≡ w q.tokens
  told_tokens k None q = refl
  told_tokens k (Some end.OutOfMemory) q = refl
  told_tokens k (Some end.HungUp) q = refl
  told_tokens k (Some (end.Breach b)) q = told_for_tokens k b b.side q

  -- what came is passed on, given back, or still to be read
  arrival : (side : Side) (k k' : Known) (unread came out out' back back' rest : Queue) (released released' : List Token) (e : Option End)
      → ArrivesAt p side k (joined unread came) out back released e k' rest out' back' released'
      → w unread.tokens + w came.tokens + w out.tokens + w back.tokens + w released ≡ w rest.tokens + w out'.tokens + w back'.tokens + w released'
  arrival side k k' unread came out out' back back' rest released released' e at =
      let pieces = ap (λ (y : Queue). w y.tokens) (pieces_are p side at.passages k at.last (joined unread came) rest at.passes) in
      let balance = all_balance side at.passages k at.last (joined unread came) rest at.passes in
      let a = both unread.tokens came.tokens in
      let b = both (all_pieces at.passages).tokens rest.tokens in
      let d = ap (λ (y : Queue). w y.tokens) at.sent in
      let f = both out.tokens (all_sent at.passages).tokens in
      let g = ap (λ (y : Queue). w y.tokens) at.told in
      let h = told_tokens k' e back in
      let i = ap w at.back_is in
      let j = both released (all_released at.passages) in
      omega (arith, pieces, balance, a, b, d, f, g, h, i, j)

  -- a call
  call_balance : (c : Call) (before after : GuardState) → Does p before c after
      → w (came_in Client c).tokens + w (came_in Server c).tokens + kept_weight weight before
      ≡ w (out_in Client c).tokens + w (out_in Server c).tokens + w (back_in c) + kept_weight weight after
  call_balance (Came Client came passages) before after (arrives, is) =
      let here = arrival Client before.known after.known before.from_client came before.to_server after.to_server before.to_client after.to_client after.from_client
      before.released after.released after.end arrives.at in
      let same = ap (λ (y : Queue). w y.tokens) arrives.other in
      omega (arith, here, same)
  call_balance (Came Server came passages) before after (arrives, is) =
      let here = arrival Server before.known after.known before.from_server came before.to_client after.to_client before.to_server after.to_server after.from_server
      before.released after.released after.end arrives.at in
      let same = ap (λ (y : Queue). w y.tokens) arrives.other in
      omega (arith, here, same)
  call_balance (WasSent Client out) before after (count, is, out_is) =
      let whole = ap (λ (y : Queue). w y.tokens) (sent_out count before.to_client after.to_client out (ap (λ (g : GuardState). g.to_client) is) out_is) in
      let a = both out.tokens after.to_client.tokens in
      let b = ap (λ (g : GuardState). w g.to_server.tokens + w g.released + w g.from_client.tokens + w g.from_server.tokens) is in
      omega (arith, whole, a, b)
  call_balance (WasSent Server out) before after (count, is, out_is) =
      let whole = ap (λ (y : Queue). w y.tokens) (sent_out count before.to_server after.to_server out (ap (λ (g : GuardState). g.to_server) is) out_is) in
      let a = both out.tokens after.to_server.tokens in
      let b = ap (λ (g : GuardState). w g.to_client.tokens + w g.released + w g.from_client.tokens + w g.from_server.tokens) is in
      omega (arith, whole, a, b)
  call_balance (GaveBack t) before after (inl is) =
      let a = ap (kept_weight weight) is in
      let b = both after.released (t ∷ []) in
      omega (arith, a, b)
  call_balance (GaveBack t) before after (inr (inl some)) =
      let a = ap (kept_weight weight) some.2 in
      let b = both (t ∷ []) after.from_client.tokens in
      omega (arith, a, b)
  call_balance (GaveBack t) before after (inr (inr some)) =
      let a = ap (kept_weight weight) some.3 in
      let b = both (t ∷ []) after.from_server.tokens in
      omega (arith, a, b)
  call_balance HungUp before after hangs = let a = ap (kept_weight weight) hangs.1 in omega (arith, a)

  calls_balance : (calls : List Call) (before after : GuardState) → Leads p before calls after
      → weight_in weight calls + kept_weight weight before ≡ weight_out weight calls + kept_weight weight after
  calls_balance [] before after is = let a = ap (kept_weight weight) is in omega (arith, a)
  calls_balance (c ∷ calls) before after (mid, one, more) =
      let here = call_balance c before mid one in
      let rest = calls_balance calls mid after more in
      let a = both (came_in Client c).tokens (all_came Client calls).tokens in
      let b = both (came_in Server c).tokens (all_came Server calls).tokens in
      let d = both (out_in Client c).tokens (all_out Client calls).tokens in
      let f = both (out_in Server c).tokens (all_out Server calls).tokens in
      let g = both (back_in c) (all_back calls) in
      omega (arith, here, rest, a, b, d, f, g)

pub each_is_somewhere : (p : PolicyState) (weight : Token → ℕ) (calls : List Call) (after : GuardState) → Leads p new_guard calls after
    → weight_in weight calls ≡ weight_out weight calls + kept_weight weight after
each_is_somewhere p weight calls after leads = let all = calls_balance p weight calls new_guard after leads in omega (arith, all)
