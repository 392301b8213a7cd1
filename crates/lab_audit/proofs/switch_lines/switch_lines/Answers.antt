use Rattle.std.proofs.Common.{◌≡◌, ◌<◌, ◌+◌, ◌++◌, [], ◌∷◌, List, None, ap, sym, subst, ◌∙◌, length, take, ℕ}
use Rattle.std.proofs.lemmas.List.{take_more}
use Rattle.virt_topo.specs.declared.experiment.Experiment.{Experiment}
use Rattle.phys_lab.specs.Labs.{Lab}
use Rattle.plant.specs.Told.{Told}
use Rattle.plant.specs.Worlds.{world_of}
use Rattle.script_text.specs.declared.reply.AuditLine.{AuditLine}
use Rattle.lab_audit.specs.Diff.{AreLines, AreLinesOf}
use Rattle.lab_audit.specs.Lines.{AreAllWanted}
use Rattle.lab_audit.proofs.Comparing.{lines_more}
use Rattle.lab_audit.proofs.Reading.{both_told, read_on, told_before}
use Rattle.lab_audit.proofs.switch_lines.switch_lines.Goals as goal

pub loop-switch-preserved : goal.loop-switch-preserved
loop-switch-preserved g c =
    let a = g.P.Plant.seen c.args.plant.now in
    let b = g.P.Plant.seen c.loop-switch.plant in
    let lab = c.args.lab.now in
    let wanted = c.args.wanted.now in
    let switches = c.switches-switches.result.now in
    let i = c.loop-switch.switch-index in
    let switch = c.switch-item.result in
    let old = c.loop-switch.lines in
    let so_far = c.loop-switch.invariant in
    let lt : i < length switches = c.loop-switch-test.true in
    let longer : take (i + 1) switches ≡ take i switches ++ switch ∷ [] = take_more switches i switch lt ∙ ap (λ (s : List ℕ). take i switches ++ s ∷ []) (sym c.switch-item.is) in
    let Own : Told → Type 0 = λ t. (own : List AuditLine) × (c.push_switch.new.lines ≡ old ++ own) × ((lab : Lab) (es : List Experiment) → AreAllWanted lab es wanted → AreLinesOf lab es (world_of t.trace) switch own) in
    let own = told_before a b Own so_far.so_far c.in_ok-push_switch.ensures.lines in
    record {
      so_far = read_on a b (g.P.Plant.seen c.push_switch.new.plant) None so_far.so_far c.in_ok-push_switch.ensures.reads;
      lines = both_told a.told (λ (t : Told). (es : List Experiment) → AreAllWanted lab es wanted → AreLines lab es (world_of t.trace) (take i switches) old) Own _
          (λ t l o. λ es all. subst (λ (ls : List AuditLine). AreLines lab es (world_of t.trace) (take (i + 1) switches) ls) (sym o.1)
          (subst (λ (ss : List (List ℕ)). AreLines lab es (world_of t.trace) ss (old ++ o.0)) (sym longer) (lines_more lab es (world_of t.trace) (take i switches) switch old o.0 (l es all) (o.2 lab es all))))
          so_far.lines own;
    }
