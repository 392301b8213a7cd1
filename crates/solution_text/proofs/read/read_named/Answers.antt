use Rattle.std.proofs.Common.{◌≡◌, ◌+◌, Ok, Err, Result, length, refl, sym, subst}
use Rattle.std.proofs.lemmas.Result.{err_from_is_err_and}
use Rattle.lab_base.specs.Texts.{lines_of}
use Rattle.lab_base.specs.declared.fault.TextRefused.{TextRefused}
use Rattle.line_text.specs.Reading.{read_from}
use Rattle.line_text.specs.Refusals.{Reads}
use Rattle.line_text.proofs.ReadLaws.{passes_on}
use Rattle.virt_topo.specs.declared.mapping.Mapping.{Mapping}
use Rattle.solution_text.specs.declared.given.Given.{Given}
use Rattle.solution_text.specs.Solutions.{line_given, completed, mapping_of_text}
use Rattle.solution_text.proofs.read.read_named.Goals as goal

pub returns-in_err-line : goal.returns-in_err-line
returns-in_err-line c =
    let lab = c.args.names.now.lab.now in
    let w = c.args.names.now.wiring.now in
    let lines = lines_of c.args.text.now in
    let line = length lines + 1 in
    let p = err_from_is_err_and c.from_residual-in_err-line.result c.from_residual-in_err-line.ensures.1 in
    let same : c.from_residual-in_err-line.result ≡ Err c.in_err-line.field-0.0 = cc (p.1, p.2) in
    let read = read_from (line_given lab w) 1 (Ok c.in_ok-given.given) lines in
    let passed : Reads {X = Mapping} (Err c.in_err-line.field-0.0) (completed line read) = passes_on (completed line) c.in_err-line.field-0.0 c.read_lines.new.so_far.given read (λ _. refl) c.in_err-line.ensures.reads in
    subst (λ (r : Result Mapping TextRefused). Reads r (mapping_of_text lab w c.args.text.now)) (sym same)
    (subst (λ (g : Given). Reads {X = Mapping} (Err c.in_err-line.field-0.0) (completed line (read_from (line_given lab w) 1 (Ok g) lines))) c.in_ok-given.ensures passed)
