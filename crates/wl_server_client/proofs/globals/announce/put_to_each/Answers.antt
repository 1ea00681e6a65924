use Rattle.std.proofs.Common.{Bool, false, Err, Ok, ap, arith}
use Rattle.wl_link.specs.Identity.{Id}
use Rattle.wl_server_client.specs.Felt.{is_first}
use Rattle.wl_server_client.specs.Telling.{by_object, making}
use Rattle.wl_server_client.proofs.GlobalCalls.PutEach.{first_all, first_failed, first_more, wrote_by}
use Rattle.wl_server_client.proofs.globals.announce.put_to_each.Goals as goal

pub returns-in-Err : goal.returns-in-Err
returns-in-Err g c =
    let wrote = wrote_by _ _ c.write_message.new.self c.registry-item.result _ _ _ _ _ _ _ (ap (λ (r : Id). r.number) c.registry.view_is)
    c.loop-registry.invariant.opcode c.loop-registry.invariant.args c.in-Err.is c.write_message.ensures.wrote in
    let failed = λ (makes : Id → Bool).
    first_failed g.T.Transport.sends (λ r. making (makes r) (by_object r c.args.message.now.opcode c.args.message.now.args.items)) _ _ _ _
    c.in-Err.fault (first_more _ _ _ _ _ _ _ _ (Err c.in-Err.fault) c.loop-registry-test.true c.registry-item.is
    (c.loop-registry.invariant.puts makes) wrote) in
    record {
      puts = failed (λ r. false);
      news = failed (λ r. is_first c.args.registries.now r);
      opcode = c.loop-registry.invariant.opcode;
      args = c.loop-registry.invariant.args;
    }

pub loop-registry-preserved : goal.loop-registry-preserved
loop-registry-preserved g c =
    let wrote = wrote_by _ _ c.write_message.new.self c.registry-item.result _ _ _ _ _ _ _ (ap (λ (r : Id). r.number) c.registry.view_is)
    c.loop-registry.invariant.opcode c.loop-registry.invariant.args c.in_default.is c.write_message.ensures.wrote in
    record {
      puts = λ makes. first_more _ _ _ _ _ _ _ _ (Ok tt) c.loop-registry-test.true c.registry-item.is (c.loop-registry.invariant.puts makes) wrote;
      opcode = c.loop-registry.invariant.opcode;
      args = c.loop-registry.invariant.args;
    }

pub returns : goal.returns
returns g c =
    let all = λ (makes : Id → Bool).
    first_all g.T.Transport.sends (λ r. making (makes r) (by_object r c.args.message.now.opcode c.args.message.now.args.items)) _ _
    c.args.registries.now _ (omega (arith, c.loop-registry-test.false)) (c.loop-registry.invariant.puts makes) in
    record {
      puts = all (λ r. false);
      news = all (λ r. is_first c.args.registries.now r);
      opcode = c.loop-registry.invariant.opcode;
      args = c.loop-registry.invariant.args;
    }
