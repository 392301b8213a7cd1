use Rattle.std.proofs.Common.{◌≡◌, take}
use Rattle.std.specs.List.{flat_map}
use Rattle.script_text.specs.Replies.{exp_line}
use Rattle.script_text.proofs.replies.listed.Given as goal

abbrev pub invariant-loop-experiment : goal.invariant-loop-experiment
invariant-loop-experiment l = l.text ≡ flat_map exp_line (take l.experiment-index l.experiments)
