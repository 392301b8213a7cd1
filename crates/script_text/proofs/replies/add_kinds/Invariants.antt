use Rattle.std.proofs.Common.{◌≡◌, ◌++◌, take}
use Rattle.std.specs.List.{flat_map}
use Rattle.script_text.specs.Replies.{kind_word}
use Rattle.script_text.proofs.replies.add_kinds.Given as goal

abbrev pub invariant-loop-kind : goal.invariant-loop-kind
invariant-loop-kind l = l.text ≡ l.fn.text ++ flat_map kind_word (take l.kind-index l.kinds)
