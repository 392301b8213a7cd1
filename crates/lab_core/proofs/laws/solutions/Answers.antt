use Rattle.lab_core.proofs.BySolution.{begun_by, ended_by, in_by}
use Rattle.lab_core.proofs.SolutionLaws.{in_only, in_unless}
use Rattle.lab_core.proofs.laws.solutions.Goals as goal

pub returns-clause-only : goal.returns-clause-only
returns-clause-only c = λ terms at set s session only_begin exp text lines opening own after step is. in_only terms set s session only_begin exp text lines opening own after step is

pub returns-clause-unless : goal.returns-clause-unless
returns-clause-unless c = λ terms at set s session only_begin exp text lines opening own after reply step all is. in_unless terms set s session only_begin exp text lines opening own after reply step all is

pub returns-clause-inside : goal.returns-clause-inside
returns-clause-inside c = λ terms at set s session exp text lines opening own after step is. in_by terms set s session exp text lines opening own after step is

pub returns-clause-begins : goal.returns-clause-begins
returns-clause-begins c = λ terms at set s session to exp text lines opening own after step is open_now. begun_by terms set s session exp text lines opening own after to step is open_now

pub returns-clause-ends : goal.returns-clause-ends
returns-clause-ends c = λ terms at set s opens command exp text opening own after all goes turns step is. ended_by terms set s opens exp text own after is at command opening turns step all goes
