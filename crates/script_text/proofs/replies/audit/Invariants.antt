use Rattle.std.proofs.Common.{◌≡◌, ◌∷◌, ◌++◌, [], codes, decimal, length, take}
use Rattle.std.specs.List.{flat_map}
use Rattle.script_text.specs.Replies.{audit_line}
use Rattle.script_text.proofs.replies.audit.Given as goal

abbrev pub invariant-loop-line : goal.invariant-loop-line
invariant-loop-line l = l.text ≡ codes "audit " ++ decimal (length l.lines) ++ 10 ∷ [] ++ flat_map audit_line (take l.line-index l.lines)
