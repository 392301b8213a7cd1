use Rattle.std.proofs.Common.{Option, Some, ℕ, sym, ap, ◌∙◌}
use Rattle.solution_text.specs.Solutions.{end_by}
use Rattle.solution_text.proofs.names.Names.end_by.Goals as goal

pub returns-in-Some : goal.returns-in-Some
returns-in-Some c =
    let names = c.args.self.now in
    c.copied.ensures ∙ c.get.ensures.value ∙ c.requires.ends (c.in-Some.virt, c.from.result)
    ∙ ap (λ (k : ℕ). end_by names.wiring.now k (Some c.in-Some.virt)) c.from.ensures
    ∙ ap (λ (v : Option ℕ). end_by names.wiring.now c.args.k v) (sym c.in-Some.is)
