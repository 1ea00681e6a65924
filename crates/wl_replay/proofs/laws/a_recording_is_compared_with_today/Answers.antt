use Rattle.wl_replay.proofs.Compared.{compares}
use Rattle.wl_replay.proofs.laws.a_recording_is_compared_with_today.Goals as goal

pub returns : goal.returns
returns c = λ before after claimed today verdict same up leads replays. compares before after claimed today same up leads verdict replays
