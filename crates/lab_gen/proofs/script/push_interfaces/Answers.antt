use Rattle.std.proofs.Common.{refl}
use Rattle.lab_gen.specs.Script.{interface_lines}
use Rattle.lab_gen.proofs.Texts.{texts_more, texts_none}
use Rattle.lab_gen.proofs.script.push_interfaces.Goals as goal

pub loop-place-init : goal.loop-place-init
loop-place-init c = texts_none interface_lines 1 c.args.text.now

pub loop-place-preserved : goal.loop-place-preserved
loop-place-preserved c = texts_more interface_lines 1 c.loop-place.place _ c.args.text.now c.loop-place.text c.push_lines.new.text refl c.loop-place.invariant c.in_ok-push_lines.ensures
