use Rattle.std.proofs.Common.{◌≡◌, sym, ◌∙◌}
use Rattle.plain_model.specs.Isolation.{wanted_in, is_isolated}
use Rattle.plain_model.specs.Rows.{world_sent, rows_of, pipes_of}
use Rattle.plain_model.proofs.IsolationLaws.{isolated_from, isolated_test}
use Rattle.plain_model.proofs.SeenLaws.{all_seen}
use Rattle.plain_model.proofs.isolated.is_isolated_after.Goals as goal

pub returns : goal.returns
returns c =
    let lab = c.args.lab.now in
    let es = c.args.experiments.now in
    let sent = c.args.commands.now in
    let wanted = c.deref.ensures.value ∙ c.in_ok-wanted.ensures in
    let rows = c.deref-2.ensures.value ∙ c.in_ok-rows.ensures in
    let pipes = c.deref-3.ensures.value ∙ c.in_ok-pipes.ensures in
    let same : c.is_isolated.result ≡ is_isolated lab (wanted_in lab es) (rows_of sent sent) (pipes_of sent sent) = c.is_isolated.ensures ∙ (λ i. is_isolated lab (wanted i) (rows i) (pipes i)) in (
      λ e. isolated_from lab es (world_sent sent) (rows_of sent sent) (pipes_of sent sent) (all_seen sent) (sym same ∙ e),
      λ is. same ∙ isolated_test lab es (world_sent sent) (rows_of sent sent) (pipes_of sent sent) (all_seen sent) is,
    )
