use Rattle.std.proofs.Common.{◌+◌, refl}
use Rattle.lab_gen.specs.Lines.{line_of}
use Rattle.lab_gen.proofs.Texts.{lines_more, lines_none}
use Rattle.lab_gen.proofs.lines.push_lines.Goals as goal

pub loop-place-init : goal.loop-place-init
loop-place-init c = lines_none (line_of c.args.line) c.args.first c.args.text.now

pub loop-place-preserved : goal.loop-place-preserved
loop-place-preserved c =
    lines_more (line_of c.args.line) c.args.first c.loop-place.place (c.args.first + c.loop-place.place) c.args.text.now c.loop-place.text c.push_line.new.text refl c.loop-place.invariant c.in_ok-push_line.ensures
