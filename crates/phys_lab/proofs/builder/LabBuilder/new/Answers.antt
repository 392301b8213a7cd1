use Rattle.std.proofs.Common.{◌≡◌, ℕ, List, None, sym, subst, ◌∙◌}
use Rattle.phys_lab.specs.Labs.{Lab}
use Rattle.phys_lab.specs.Keys.{IfaceKeys, TrunkKeys}
use Rattle.phys_lab.specs.Faults.{range_fault}
use Rattle.phys_lab.specs.BuilderView.{IsIndexed}
use Rattle.phys_lab.proofs.Adding.{empty_kept}
use Rattle.phys_lab.proofs.BuilderLaws.{fresh}
use Rattle.phys_lab.proofs.builder.LabBuilder.new.Goals as goal

abbrev State : Type 0
State = Lab × List (List ℕ) × List (List ℕ) × IfaceKeys × TrunkKeys × List ℕ × List ℕ

pub invariant_of-result : goal.invariant_of-result
invariant_of-result c =
    let none : range_fault c.args.first c.args.last ≡ None = sym c.range_fault.ensures ∙ c.in_default.is in
    subst (λ (s : State). IsIndexed s.0 s.1 s.2 s.3 s.4 s.5 s.6)
    (λ i. (
      record { range = (c.args.first, c.args.last); switches = sym c.new.ensures.items i; nodes = sym c.new-2.ensures.items i; ifaces = sym c.new-3.ensures.items i; trunks = sym c.new-4.ensures.items i },
      sym c.new-5.ensures.empty i,
      sym c.new-6.ensures.empty i,
      record { links = sym c.new-7.ensures.links i; names = sym c.new-7.ensures.names i; ports = sym c.new-7.ensures.ports i },
      record { links = sym c.new-8.ensures.links i; ports = sym c.new-8.ensures.ports i },
      sym c.new-9.ensures.items i,
      sym c.new-10.ensures.items i,
    ))
    (fresh c.args.first c.args.last (empty_kept c.args.first c.args.last none))
