use Rattle.std.proofs.Common.{◌≤◌, ◌*◌, ◌∙◌, [], ◌∷◌, ◌++◌, append-nil, append_assoc, ap, arith, length, subst, sym}
use Rattle.wl_client.specs.Inside.EventInPlace.{NumbersAre}
use Rattle.wl_client.proofs.EventInPlace.{no_numbers, numbers_more}
use Rattle.wl_client.proofs.event_in_place.+push_numbers.Goals as goal

pub returns-in-Some-clause-pushed : goal.returns-in-Some-clause-pushed
returns-in-Some-clause-pushed t c =
    let (values, items, are) = c.push_numbers.ensures.pushed in
    let signature = c.in-Some.ensures.cases.0 in
    let words = subst (λ ks. 4 * length ks ≤ length c.args.payload.now) signature c.requires.words in (
      c.number_of.result ∷ values,
      items ∙ ap (λ l. l ++ values) c.push_reserved.ensures.items ∙ append_assoc c.args.args.now.items (c.number_of.result ∷ []) values,
      subst (λ ks. NumbersAre ks c.args.payload.now (c.number_of.result ∷ values)) (sym signature)
          (numbers_more c.in-Some.kind.now c.in-Some.kinds.now c.args.payload.now c.front_word.result c.number_of.result values (omega (arith, words))
          c.front_word.ensures c.number_of.ensures are),
    )

pub returns-in_default-clause-pushed : goal.returns-in_default-clause-pushed
returns-in_default-clause-pushed t c = (
  [],
  sym (append-nil c.args.args.now.items),
  no_numbers c.args.signature.now c.args.payload.now (sym c.in_default.ensures.cases),
)
