use Rattle.std.proofs.Common.{take, refl, sym, ◌∙◌, append_assoc, arith}
use Rattle.std.proofs.lemmas.List.{append-nil}
use Rattle.std.proofs.lemmas.Grind.{common_steps}
use Rattle.wl_wire.specs.Inside.Buffer.{token_of, tokens_of}
use Rattle.wl_wire.proofs.Pieces.{flat_map-more, length-flat_map-front, length-flat_map-more}
use Rattle.wl_wire.proofs.write.push_tokens.Goals as goal

pub loop-arg-init : goal.loop-arg-init
loop-arg-init g c = record { items = sym (append-nil c.args.fds.now.items); len = omega arith; capacity = refl }

pub push_token-requires : goal.push_token-requires
push_token-requires g c =
    let front = length-flat_map-front token_of c.args.args.now c.loop-arg.arg-index c.arg-item.result c.loop-arg-test.true c.arg-item.is in
    omega (arith, c.loop-arg.invariant.len, c.loop-arg.invariant.capacity, c.requires, front)

pub loop-arg-preserved : goal.loop-arg-preserved
loop-arg-preserved g c =
    let args = c.args.args.now in
    let i = c.loop-arg.arg-index in
    let a = c.arg-item.result in
    let more = flat_map-more token_of args i a c.loop-arg-test.true c.arg-item.is in record {
      items = rw (c.push_token.ensures.items, c.loop-arg.invariant.items, more) (append_assoc c.args.fds.now.items (tokens_of (take i args)) (token_of a));
      len = omega (arith, c.push_token.ensures.len, c.loop-arg.invariant.len, length-flat_map-more token_of args i a c.loop-arg-test.true c.arg-item.is);
      capacity = c.push_token.ensures.capacity ∙ c.loop-arg.invariant.capacity;
    }

pub returns-clause-items : goal.returns-clause-items
returns-clause-items g c = grind (arith, common_steps)
