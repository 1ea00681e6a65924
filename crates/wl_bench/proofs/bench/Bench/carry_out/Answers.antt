use Rattle.std.proofs.Common.{rules}
use Rattle.wl_bench.specs.Bench.{IsShared}
use Rattle.wl_bench.proofs.Sharing.{does_shared, shared_names_one}
use Rattle.wl_bench.proofs.Slots.{command_does}
use Rattle.wl_bench.proofs.bench.Bench.carry_out.Goals as goal

pub returns-in-Dispatch-clause-done : goal.returns-in-Dispatch-clause-done
returns-in-Dispatch-clause-done c =
    command_does c.args.self.now c.carry_out_dispatch.new.self c.args.number c.args.command c.in-Dispatch.slots _ _ c.carry_out_dispatch.result
    c.in-Dispatch.is c.as_slice.ensures.value c.carry_out_dispatch.ensures.done

pub returns-in_ok-lines-in_default : goal.returns-in_ok-lines-in_default
returns-in_ok-lines-in_default c =
    let shared : IsShared c.args.command = search rules in
    record {
      done = does_shared _ c.args.number c.args.command _ _ shared c.in_ok-lines-in_default.ensures.done;
      none = λ n. absurd (shared_names_one _ c.args.command _ _ shared c.in_ok-lines-in_default.ensures.done n);
      failed = tt;
    }
