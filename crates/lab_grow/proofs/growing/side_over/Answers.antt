use Rattle.std.specs.List.{flat_map}
use Rattle.std.specs.Prelude.{IfOk}
use Rattle.std.proofs.Common.{◌≡◌, ◌++◌, ◌-◌, List, ℕ, length, take, drop, subst, ◌∙◌}
use Rattle.std.proofs.lemmas.List.{take_rest}
use Rattle.journal_rec.specs.declared.record.Record.{Record}
use Rattle.journal_rec.specs.declared.record.Record.TheVariants.{Lab}
use Rattle.journal_rec.specs.Packing.{ArePacked}
use Rattle.lab_state.specs.Packing.{packed_one}
use Rattle.lab_state.specs.Texts.{the_texts}
use Rattle.lab_grow.specs.Sides.{first_header}
use Rattle.lab_grow.proofs.Over.{over, packed_is, is_side}
use Rattle.lab_grow.proofs.growing.side_over.Goals as goal

pub returns : goal.returns
returns c =
    let old = c.args.old.now in
    let new = c.args.new.now in
    let s = c.args.state.now.state in
    let first = c.in_ok-first.first in
    let own = c.in_ok-own.own in
    let all = c.in_ok-packed.packed in
    let others = flat_map (packed_one the_texts old) s.experiments in
    let are_all = subst (λ (rs : List Record). ArePacked all rs) (packed_is s old c.requires.lab) c.in_ok-packed.ensures.packed in
    let are = over own first all (Lab (the_texts.ptop old)) (Lab (the_texts.ptop new)) others c.in_ok-own.ensures c.in_ok-first.ensures are_all in
    let front : take (length c.bytes.result.now - 1) c.bytes-3.result.now ≡ take (length first - 1) first = λ i. take (length (c.bytes.ensures i) - 1) (c.bytes-3.ensures i) in
    let back : take (length c.bytes-4.result.now - (length c.bytes-2.result.now - 1)) (drop (length c.bytes-2.result.now - 1) c.bytes-4.result.now) ≡ drop (length own - 1) all =
    (λ i. take (length (c.bytes-4.ensures i) - (length (c.bytes-2.ensures i) - 1)) (drop (length (c.bytes-2.ensures i) - 1) (c.bytes-4.ensures i))) ∙ take_rest all (length own - 1) in
    let told = subst (λ (l : List ℕ). IfOk c.side_of.result (λ text. text ≡ first_header ++ l)) (λ i. front i ++ back i) c.side_of.ensures in
    is_side old new s.experiments c.side_of.result (take (length first - 1) first ++ drop (length own - 1) all) are told
