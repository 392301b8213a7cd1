use Rattle.lab_model.proofs.Alone.{course_starts, course_others, course_own, course_next, course_ends, course_gone}
use Rattle.lab_model.proofs.courses_alone.Goals as goal

pub returns-clause-starts : goal.returns-clause-starts
returns-clause-starts c = λ lab e trace. course_starts lab e trace

pub returns-clause-others : goal.returns-clause-others
returns-clause-others c = λ lab es is_lab holding e f cs start trace op applied answer in_e in_f differ of_f on. course_others lab es is_lab holding e f cs start trace op applied answer in_e in_f differ of_f on

pub returns-clause-own : goal.returns-clause-own
returns-clause-own c = λ lab e cs start trace op answer its on. course_own lab e cs start trace op answer its on

pub returns-clause-part : goal.returns-clause-part
returns-clause-part c = λ lab e cs start trace op applied answer on part. course_next lab e cs start trace op applied answer on part

pub returns-clause-ends : goal.returns-clause-ends
returns-clause-ends c = λ lab e m which cs start trace mine on ends. course_ends lab e m which cs start trace mine on ends

pub returns-clause-gone : goal.returns-clause-gone
returns-clause-gone c = λ lab e cs start trace on gone. course_gone lab e cs start trace on gone
