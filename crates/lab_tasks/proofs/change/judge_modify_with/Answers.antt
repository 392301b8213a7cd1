use Rattle.std.proofs.Common.{Err, subst, arith}
use Rattle.std.proofs.lemmas.Result.{err_from_is_err_and}
use Rattle.lab_base.specs.declared.fault.TextRefused.{TextRefused}
use Rattle.line_text.specs.Refusals.{Reads}
use Rattle.script_text.specs.declared.reply.Reply.TheVariants.{Bad}
use Rattle.solution_text.specs.Solutions.{mapping_of_text}
use Rattle.top_text.specs.Adding.{wiring_of_text}
use Rattle.virt_topo.specs.declared.mapping.Mapping.{Mapping}
use Rattle.lab_tasks.specs.Mappings.{after_lines}
use Rattle.lab_tasks.specs.Needs.{need_idle_in}
use Rattle.lab_tasks.specs.OpenNames.{has_open}
use Rattle.lab_tasks.proofs.Behind.{fault_within}
use Rattle.lab_tasks.proofs.Checks.{faulty_by, given_by, meant_by, refused_by}
use Rattle.lab_tasks.proofs.change.judge_modify_with.Goals as goal

pub returns-in_err-lab-clause-judged : goal.returns-in_err-lab-clause-judged
returns-in_err-lab-clause-judged c =
    let p = err_from_is_err_and c.from_residual.result c.from_residual.ensures.1 in
    rw (p.1, p.2) (refused_by (need_idle_in c.args.present.now.state.now.state (has_open c.args.present.now.swaps.now c.args.exp) c.args.exp) _ c.in_err-lab.field-0.0 c.in_err-lab.ensures.refuses)

pub returns-in-Err-clause-judged : goal.returns-in-Err-clause-judged
returns-in-Err-clause-judged c =
    given_by (need_idle_in c.args.present.now.state.now.state (has_open c.args.present.now.swaps.now c.args.exp) c.args.exp) _ (c.in_ok-lab.lab.now, c.in_ok-lab.experiment.now) (Err c.bad_text.result) c.in_ok-lab.ensures.occupied
    (faulty_by (Bad c.args.exp) (wiring_of_text c.args.top.now) _ c.in-Err.refused c.bad_text.result c.in-Err.ensures.reads c.bad_text.ensures)

pub bad_after-requires : goal.bad_after-requires
bad_after-requires c = λ fault is.
    let lab = c.in_ok-lab.lab.now in
    let read = subst (λ (r : TextRefused). Reads {X = Mapping} (Err r) (mapping_of_text lab c.in-Ok.wiring c.args.map.now)) is c.in-Err-read_solution.ensures.reads in
    omega (arith, fault_within lab c.in-Ok.wiring c.args.map.now fault read, c.requires.map, c.ranges.lines.fits)

pub returns-in-Ok-read_solution-clause-judged : goal.returns-in-Ok-read_solution-clause-judged
returns-in-Ok-read_solution-clause-judged c =
    given_by (need_idle_in c.args.present.now.state.now.state (has_open c.args.present.now.swaps.now c.args.exp) c.args.exp) _ (c.in_ok-lab.lab.now, c.in_ok-lab.experiment.now) c.judge_change.result c.in_ok-lab.ensures.occupied
    (meant_by (Bad c.args.exp) (wiring_of_text c.args.top.now) _ c.in-Ok.wiring c.judge_change.result c.in-Ok.ensures.reads
    (meant_by (λ fault. Bad c.args.exp (after_lines c.args.lines fault)) (mapping_of_text c.in_ok-lab.lab.now c.in-Ok.wiring c.args.map.now) _ c.in-Ok-read_solution.given c.judge_change.result c.in-Ok-read_solution.ensures.reads c.judge_change.ensures.judged))

pub returns-in-Err-read_solution-clause-judged : goal.returns-in-Err-read_solution-clause-judged
returns-in-Err-read_solution-clause-judged c =
    given_by (need_idle_in c.args.present.now.state.now.state (has_open c.args.present.now.swaps.now c.args.exp) c.args.exp) _ (c.in_ok-lab.lab.now, c.in_ok-lab.experiment.now) (Err c.bad_after.result) c.in_ok-lab.ensures.occupied
    (meant_by (Bad c.args.exp) (wiring_of_text c.args.top.now) _ c.in-Ok.wiring (Err c.bad_after.result) c.in-Ok.ensures.reads
    (faulty_by (λ fault. Bad c.args.exp (after_lines c.args.lines fault)) (mapping_of_text c.in_ok-lab.lab.now c.in-Ok.wiring c.args.map.now) _ c.in-Err-read_solution.refused c.bad_after.result c.in-Err-read_solution.ensures.reads c.bad_after.ensures))
