use Rattle.wl_client.proofs.OverRuns.HeardLaws.{history_cuts, history_heard}
use Rattle.wl_client.proofs.laws.cutting_does_not_matter_to_a_history.Goals as goal

pub returns-clause-heard : goal.returns-clause-heard
returns-clause-heard g c before after deeds leads all = history_heard g.T.Transport.sends g.T.Transport.receives before after deeds leads all

pub returns-clause-served : goal.returns-clause-served
returns-clause-served g c before after deeds turns live all hears fed finishes =
    history_cuts g.T.Transport.sends g.T.Transport.receives before after deeds turns live all hears fed finishes
