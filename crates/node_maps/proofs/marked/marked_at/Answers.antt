use Rattle.std.proofs.Common.{◌≡◌, ◌∙◌, ◌<◌, ◌++◌, ◌∷◌, [], ℕ, Bool, true, false, List, length, map, get_or, ap, sym, arith}
use Rattle.std.proofs.lemmas.List.{get_or_default, get_or-map}
use Rattle.node_maps.specs.Marked.{mark_of}
use Rattle.node_maps.proofs.MarkLaws.{passed_none, passed_one}
use Rattle.node_maps.proofs.marked.marked_at.Goals as goal
use Rattle.node_maps.proofs.marked.marked_at.Goals.{then-marks-numbers+in_ok-push, else-marks-numbers}

pub loop-place-preserved : goal.loop-place-preserved
loop-place-preserved c =
    let marks = c.args.marks.now in
    let own = c.args.numbers.now in
    let i = c.loop-place.place in
    let p : ℕ → Bool = mark_of (map (mark_of marks) own) in
    let at : p i ≡ mark_of marks (get_or own i 0) = get_or-map (mark_of marks) own i 0 true (omega (arith, c.loop-place-test.true)) in
    let lt : i < length own = omega (arith, c.loop-place-test.true) in
    let read : get_or marks (get_or own i 0) true ≡ get_or marks (get_or own i 0) false = get_or_default marks (get_or own i 0) true false (c.requires i 0 lt) in
    elim c.if-marks-numbers.branch [
      | then-marks-numbers+in_ok-push w ↦
          w.marked-is ∙ w.in_ok-push.ensures.ok
          ∙ ap (λ (l : List ℕ). l ++ i ∷ []) c.loop-place.invariant
          ∙ sym (passed_one p i (at ∙ read ∙ w.if-marks-numbers.true))
      | else-marks-numbers w ↦ w.marked-is ∙ c.loop-place.invariant ∙ sym (passed_none p i (at ∙ read ∙ w.if-marks-numbers.false))
    ]
