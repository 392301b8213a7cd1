use Rattle.std.proofs.Common.{◌≡◌, ◌<◌, ℕ, Bool, cond, Option, Some, length, Err, Ok, sym, ap, subst, ◌∙◌}
use Rattle.std.specs.Prelude.{IfSome}
use Rattle.virt_topo.specs.declared.wiring.Wiring.{Wiring}
use Rattle.lab_base.specs.declared.fault.Kind.TheVariants as kinds
use Rattle.top_text.specs.Adding.{kept, with_multiplexed}
use Rattle.top_text.proofs.AddedLaws.{marked_judged, marked_tables}
use Rattle.top_text.proofs.adding.add_mark.Goals as goal

below : (named : Option ℕ) (s n : ℕ) → named ≡ Some s → IfSome named (λ s. s < n) → s < n
below named s n is within = subst (λ (o : Option ℕ). IfSome o (λ s. s < n)) is within

pub returns-then-index-clause-takes : goal.returns-then-index-clause-takes
returns-then-index-clause-takes c =
    let w = c.args.so_far.now.wiring in
    let s = c.in-Some.segment in
    let lt = below c.args.named s (length w.segments) c.in-Some.is c.requires.named in
    let judged = marked_judged w c.args.so_far.now.tables c.args.named s c.is_multiplexed.result c.index.result.now c.in-Some.is c.is_multiplexed.ensures c.if-is_multiplexed.false c.index.ensures c.requires.reading.kept c.requires.reading.tables lt in
    judged.0 ∙ judged.1 ∙ ap (λ (b : Bool). cond b (Err kinds.Pipe) (Ok (with_multiplexed w s))) c.if-index.true

pub returns-else-index-clause-takes : goal.returns-else-index-clause-takes
returns-else-index-clause-takes c =
    let w = c.args.so_far.now.wiring in
    let s = c.in-Some.segment in
    let lt = below c.args.named s (length w.segments) c.in-Some.is c.requires.named in
    let judged = marked_judged w c.args.so_far.now.tables c.args.named s c.is_multiplexed.result c.index.result.now c.in-Some.is c.is_multiplexed.ensures c.if-is_multiplexed.false c.index.ensures c.requires.reading.kept c.requires.reading.tables lt in
    judged.0 ∙ judged.1 ∙ ap (λ (b : Bool). cond b (Err kinds.Pipe) (Ok (with_multiplexed w s))) c.if-index.false ∙ ap (λ (u : Wiring). Ok u) (sym c.set_multiplexed.ensures)

pub returns-else-index-clause-keeps : goal.returns-else-index-clause-keeps
returns-else-index-clause-keeps c =
    let w = c.args.so_far.now.wiring in
    let t = c.args.so_far.now.tables in
    let s = c.in-Some.segment in
    let lt = below c.args.named s (length w.segments) c.in-Some.is c.requires.named in
    let judged = marked_judged w t c.args.named s c.is_multiplexed.result c.index.result.now c.in-Some.is c.is_multiplexed.ensures c.if-is_multiplexed.false c.index.ensures c.requires.reading.kept c.requires.reading.tables lt in
    record {
      kept = subst (λ (u : Wiring). kept u ≡ Ok u) (sym c.set_multiplexed.ensures) (judged.1 ∙ ap (λ (b : Bool). cond b (Err kinds.Pipe) (Ok (with_multiplexed w s))) c.if-index.false);
      tables = marked_tables w c.set_multiplexed.new.wiring t s c.requires.reading.tables lt c.set_multiplexed.ensures;
    }
