use Rattle.std.proofs.Common.{subst}
use Rattle.line_text.specs.Refusals.{Reads}
use Rattle.phys_lab.specs.Labs.{Lab}
use Rattle.virt_topo.specs.declared.wiring.Wiring.{Wiring}
use Rattle.virt_topo.specs.declared.mapping.Mapping.{Mapping}
use Rattle.lab_base.specs.declared.fault.TextRefused.{TextRefused}
use Rattle.std.proofs.Common.{◌≡◌, ℕ, List, Result}
use Rattle.solution_text.specs.Solutions.{mapping_of_text}
use Rattle.solution_text.proofs.GivenLaws.{answer_shaped}
use Rattle.solution_text.proofs.read.read_solution.Goals as goal

named : (text : List ℕ) (r : Result Mapping TextRefused) (lab other : Lab) (w v : Wiring) → lab ≡ other → w ≡ v → Reads r (mapping_of_text lab w text) → Reads r (mapping_of_text other v text)
named text r lab other w v l e h = subst (λ (x : Lab). Reads r (mapping_of_text x v text)) l (subst (λ (x : Wiring). Reads r (mapping_of_text lab x text)) e h)

pub returns-clause-reads : goal.returns-clause-reads
returns-clause-reads c = named c.args.text.now c.read_named.result _ _ _ _ c.in_ok-names.ensures.lab c.in_ok-names.ensures.wiring c.read_named.ensures

pub returns-clause-shaped : goal.returns-clause-shaped
returns-clause-shaped c =
    answer_shaped c.args.lab.now c.args.wiring.now c.args.text.now c.read_named.result
    (named c.args.text.now c.read_named.result _ _ _ _ c.in_ok-names.ensures.lab c.in_ok-names.ensures.wiring c.read_named.ensures)
