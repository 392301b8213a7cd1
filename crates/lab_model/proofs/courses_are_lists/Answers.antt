use Rattle.lab_model.proofs.CourseLists.{cut_by_list, done_by_list, list_of_cut, list_of_done}
use Rattle.lab_model.proofs.courses_are_lists.Goals as goal

pub returns-clause-done : goal.returns-clause-done
returns-clause-done c = λ plan cs. (list_of_done plan cs, done_by_list plan cs)

pub returns-clause-cut : goal.returns-clause-cut
returns-clause-cut c = λ plan cs what. (list_of_cut plan cs what, cut_by_list plan cs what)
