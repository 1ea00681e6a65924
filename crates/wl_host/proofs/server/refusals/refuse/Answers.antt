use Rattle.wl_host.specs.Actions.{refusal_text}
use Rattle.wl_server_client.specs.Deeds.{handed}
use Rattle.wl_host.proofs.server.refusals.refuse.Goals as goal

pub returns : goal.returns
returns c = (
  c.kill_for.new.core,
  c.finish_request-answer.result,
  c.kill_for.ensures (refusal_text c.args.core.now (handed c.args.action.now)) c.refusal_text-text.ensures,
  c.finish_request-answer.ensures.call,
  c.unless_finished.ensures,
)
