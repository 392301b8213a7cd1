use Rattle.std.proofs.Common.{◌≡◌, ◌<◌, ℕ, Bool, cond, Option, length, Err, Ok, sym, ap, subst, ◌∙◌}
use Rattle.std.specs.Prelude.{IfSome}
use Rattle.virt_topo.specs.declared.wiring.Wiring.{Wiring}
use Rattle.lab_base.specs.declared.fault.Kind.TheVariants as kinds
use Rattle.top_text.specs.Adding.{kept, placed, with_place}
use Rattle.top_text.proofs.AddedLaws.{placed_kept, placed_tables}
use Rattle.top_text.proofs.adding.add_place.Goals as goal

pub returns-else-is_fixed-clause-takes : goal.returns-else-is_fixed-clause-takes
returns-else-is_fixed-clause-takes c =
    let w = c.args.so_far.now.wiring in
    ap (λ (o : Option ℕ). placed w c.args.place o) (c.in-Some.is)
    ∙ ap (λ (b : Bool). cond b (Err kinds.Twice) (kept (with_place w c.in-Some.virt c.args.place))) (sym c.is_fixed.ensures ∙ c.if-is_fixed.false)
    ∙ placed_kept c.args.so_far.now.wiring c.in-Some.virt c.args.place c.requires.reading.kept (subst (λ (o : Option ℕ). IfSome o (λ v. v < length c.args.so_far.now.wiring.nodes)) c.in-Some.is c.requires.named) ∙ ap (λ (w : Wiring). Ok w) (sym c.set_place.ensures)

pub returns-else-is_fixed-clause-keeps : goal.returns-else-is_fixed-clause-keeps
returns-else-is_fixed-clause-keeps c = record {
  kept = subst (λ (w : Wiring). kept w ≡ Ok w) (sym c.set_place.ensures) (placed_kept c.args.so_far.now.wiring c.in-Some.virt c.args.place c.requires.reading.kept (subst (λ (o : Option ℕ). IfSome o (λ v. v < length c.args.so_far.now.wiring.nodes)) c.in-Some.is c.requires.named));
  tables = placed_tables c.args.so_far.now.wiring c.set_place.new.wiring c.args.so_far.now.tables c.in-Some.virt c.args.place c.requires.reading.tables (subst (λ (o : Option ℕ). IfSome o (λ v. v < length c.args.so_far.now.wiring.nodes)) c.in-Some.is c.requires.named) c.set_place.ensures;
}
