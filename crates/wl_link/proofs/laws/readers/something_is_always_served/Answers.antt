use Rattle.wl_link.proofs.Readings.AnsweringLaws.{served_answering, some_answered}
use Rattle.wl_link.specs.Served.{AsTold}
use Rattle.wl_link.proofs.Readings.TotalLaws.{always_served}
use Rattle.wl_link.proofs.laws.readers.something_is_always_served.Goals as goal

pub returns-clause-transport : goal.returns-clause-transport
returns-clause-transport g c = λ reader goes before finishes. always_served g.S.Transport.sends reader goes before finishes

pub returns-clause-told : goal.returns-clause-told
returns-clause-told g c = λ reader goes before finishes. always_served AsTold reader goes before finishes

pub returns-clause-answering : goal.returns-clause-answering
returns-clause-answering g c = λ answers reader ends before finishes holds. served_answering g.S.Transport.sends answers reader ends before finishes holds

pub returns-clause-answered : goal.returns-clause-answered
returns-clause-answered g c = λ reader ends before more finishes holds. some_answered reader ends before more finishes holds
