use Rattle.std.proofs.Common.{◌≡◌, suc, ◌<◌, length, get_or, Some, ◌∷◌, [], ◌++◌, map, sym, ap, refl, ◌∙◌, arith, slice_get}
use Rattle.std.specs.List.{zip}
use Rattle.std.proofs.lemmas.Bool.{leb-false}
use Rattle.std.proofs.lemmas.List.{take_all}
use Rattle.std.proofs.lemmas.Option.{slice_get_read, slice_get-get_or}
use Rattle.lab_judge.specs.Judge.{tag_line}
use Rattle.lab_judge.proofs.Shown.{next_line, no_line, zip_at, zip_past, zip_within}
use Rattle.lab_judge.proofs.views.tag_lines.Goals as goal
use Rattle.lab_judge.proofs.views.tag_lines.Goals.{in-Some+in_ok-push, in_default}

pub loop-number-preserved : goal.loop-number-preserved
loop-number-preserved c =
    let segments = c.args.segments.now in
    let tags = c.args.tags.now in
    let n = c.loop-number.number in
    elim c.match-get.branch [
      | in-Some+in_ok-push w ↦
          let s = get_or segments n w.index-segments-number.result in
          let tag = w.in-Some.tag.now in
          let one : slice_get segments n ≡ Some s = slice_get-get_or segments n w.index-segments-number.result c.loop-number-test.true in
          let found = w.in-Some.ensures.lookup in
          let two : slice_get tags n ≡ Some tag = slice_get_read tags (length tags) n tag refl found.3.0 found.1 in
          w.lines-is ∙ w.in_ok-push.ensures.ok
          ∙ ap (λ lines. lines ++ tag_line (s, tag) ∷ []) c.loop-number.invariant ∙ sym (next_line tag_line (zip segments tags) n (s, tag) (zip_at segments tags n s tag one two))
      | in_default w ↦
          let past : length tags < suc n = leb-false (suc n) (length tags) (sym w.in_default.ensures.lookup.0) in
          w.lines-is ∙ c.loop-number.invariant ∙ sym (no_line tag_line (zip segments tags) n (zip_past segments tags n (omega (arith, past))))
    ]

pub returns : goal.returns
returns c = c.loop-number.invariant ∙ ap (map tag_line) (take_all c.loop-number.number (zip c.args.segments.now c.args.tags.now) (omega (arith, zip_within c.args.segments.now c.args.tags.now, c.loop-number-test.false)))
