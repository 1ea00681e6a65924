use Rattle.wl_replay.proofs.Recordings.{number_text}
use Rattle.wl_replay.proofs.recording.number_of.Goals as goal

pub returns-in_default : goal.returns-in_default
returns-in_default c = number_text c.args.bytes.now c.in_default.ensures.cases.0
