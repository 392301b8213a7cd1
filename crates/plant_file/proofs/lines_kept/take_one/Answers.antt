use Rattle.std.proofs.Common.{◌≤◌, ◌+◌, ◌++◌, ℕ, List, take, drop, subst, sym, ap, ◌∙◌}
use Rattle.std.specs.List.{list_any}
use Rattle.plant_file.specs.declared.lines_kept.Line.{Line}
use Rattle.plant_file.specs.Entries.{is_keyed, without}
use Rattle.plant_file.specs.Kept.{entries_of, AreKept, IsAt}
use Rattle.plant_file.proofs.KeptLaws.{none_out, cut_fits, taken_kept, taken_others}
use Rattle.plant_file.proofs.lines_kept.take_one.Goals as goal

pub cut-requires : goal.cut-requires
cut-requires c =
    let at = subst (λ (l : List Line). IsAt c.args.key.now l c.in-Some.spot) c.deref.ensures.value c.in-Some.ensures in
    subst (λ (n : ℕ). c.in-Some.spot.at + c.remove-gone.result.size ≤ n) (sym c.args.text.now.ok.0)
    (cut_fits c.args.key.now c.args.lines.now.items c.args.text.now.items c.in-Some.spot at c.requires c.remove-gone.result c.remove-gone.ensures.value)

pub returns-in-Some-clause-kept : goal.returns-in-Some-clause-kept
returns-in-Some-clause-kept c =
    let at = subst (λ (l : List Line). IsAt c.args.key.now l c.in-Some.spot) c.deref.ensures.value c.in-Some.ensures in
    let own = taken_kept c.args.key.now c.args.lines.now.items c.args.text.now.items c.in-Some.spot at c.requires c.remove-gone.result c.remove-gone.ensures.value in
    subst (λ (t : List ℕ). AreKept c.remove-gone.new.self.items t) (sym c.cut.ensures)
    (subst (λ (l : List Line). AreKept l (take c.in-Some.spot.at c.args.text.now.items ++ drop (c.in-Some.spot.at + c.remove-gone.result.size) c.args.text.now.items)) (sym c.remove-gone.ensures.items) own)

pub returns-in-Some-clause-others : goal.returns-in-Some-clause-others
returns-in-Some-clause-others c =
    let at = subst (λ (l : List Line). IsAt c.args.key.now l c.in-Some.spot) c.deref.ensures.value c.in-Some.ensures in
    ap (λ (l : List Line). without (is_keyed c.args.key.now) (entries_of l)) c.remove-gone.ensures.items ∙ taken_others c.args.key.now c.args.lines.now.items c.in-Some.spot at

pub returns-in-None-clause-none : goal.returns-in-None-clause-none
returns-in-None-clause-none c = λ no. none_out (is_keyed c.args.key.now) (entries_of c.args.lines.now.items) (ap (λ (l : List Line). list_any (is_keyed c.args.key.now) (entries_of l)) (sym c.deref.ensures.value) ∙ c.in-None.ensures)
