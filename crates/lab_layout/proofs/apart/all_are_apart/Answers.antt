use Rattle.std.proofs.Common.{sym, ◌∙◌, arith}
use Rattle.std.proofs.lemmas.Bool.{false≢true}
use Rattle.lab_picture.specs.declared.geometry.Bounds.{Bounds}
use Rattle.lab_layout.proofs.Pairs.{pairs_more, pairs_after}
use Rattle.lab_layout.proofs.apart.all_are_apart.Goals as goal

abbrev none : Bounds
none = record { x = 0; y = 0; wide = 0; high = 0 }

pub loop-number-preserved : goal.loop-number-preserved
loop-number-preserved c =
    pairs_more c.args.places.now c.loop-number.number none (omega arith) c.loop-number.invariant (c.is_apart_from.ensures.0 c.if-not-is_apart_from.false)

pub returns-then-not-is_apart_from : goal.returns-then-not-is_apart_from
returns-then-not-is_apart_from c =
    let behind = pairs_after c.args.places.now c.loop-number.number none c.loop-number-test.true in
    (λ e. absurd (false≢true e), λ pairs. sym c.if-not-is_apart_from.true ∙ c.is_apart_from.ensures.1 (behind pairs))
