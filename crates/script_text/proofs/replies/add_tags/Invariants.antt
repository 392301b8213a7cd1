use Rattle.std.proofs.Common.{◌≡◌, ◌++◌, take}
use Rattle.std.specs.List.{flat_map}
use Rattle.script_text.specs.Replies.{tag_line}
use Rattle.script_text.proofs.replies.add_tags.Given as goal

abbrev pub invariant-loop-tag : goal.invariant-loop-tag
invariant-loop-tag l = l.text ≡ l.fn.text ++ flat_map tag_line (take l.tag-index l.tags)
