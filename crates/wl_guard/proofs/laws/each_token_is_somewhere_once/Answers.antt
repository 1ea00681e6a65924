use Rattle.wl_guard.proofs.Tokens.{each_is_somewhere}
use Rattle.wl_guard.proofs.laws.each_token_is_somewhere_once.Goals as goal

pub returns : goal.returns
returns c = each_is_somewhere
