use Rattle.std.proofs.Common.{Some, sym, ◌∙◌}
use Rattle.records_model.specs.Labs.{replace}
use Rattle.lab_state.specs.Changes.{ending}
use Rattle.lab_state.specs.Ends.{ended}
use Rattle.lab_state.proofs.MoveLaws.{turned, ending_of, ends_where, ending_follows, follows_ending, state}
use Rattle.lab_state.proofs.laws.endings.Goals as goal

pub returns-clause-can : goal.returns-clause-can
returns-clause-can c = λ s lab e exp commit is_lab found may.
    (state lab (replace exp (ended commit e) s.experiments), turned s.lab s.experiments exp (ending exp commit) lab e (ended commit e) (ending_of exp commit) is_lab found (ends_where lab s.experiments e exp commit e.phase may))

pub returns-clause-gives : goal.returns-clause-gives
returns-clause-gives c = λ s lab e exp commit is_lab found may.
    turned s.lab s.experiments exp (ending exp commit) lab e (ended commit e) (ending_of exp commit) is_lab found (ends_where lab s.experiments e exp commit e.phase may)
    ∙ (λ i. Some (record { lab = sym is_lab i; experiments = replace exp (ended commit e) s.experiments }))

pub returns-clause-follows : goal.returns-clause-follows
returns-clause-follows c = λ s u exp commit moves. ending_follows s u exp commit moves

pub returns-clause-says : goal.returns-clause-says
returns-clause-says c = λ s u exp commit follows. follows_ending s u exp commit follows
