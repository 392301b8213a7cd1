use Rattle.std.proofs.Common.{◌≡◌, ◌++◌, List, ap, sym, subst, ◌∙◌}
use Rattle.std.specs.Prelude.{filter_map}
use Rattle.script_text.specs.declared.reply.AuditLine.{AuditLine}
use Rattle.lab_audit.specs.Diff.{AreLinesOf}
use Rattle.lab_audit.specs.Lines.{in_order, lacking_line, strange_line, unordered}
use Rattle.lab_audit.proofs.Telling.{lines_are}
use Rattle.lab_audit.proofs.switches.compare_switch.Goals as goal

pub returns : goal.returns
returns c =
    let switch = c.args.switch in
    let found = c.args.found.now in
    let wanted = c.args.wanted.now in
    let all : c.deref.result.now ≡ unordered switch found wanted =
    c.deref.ensures.value
    ∙ c.in_ok-push_strange.ensures
    ∙ ap (λ (l : List AuditLine). l ++ filter_map (strange_line switch wanted) found) (c.in_ok-push_lacking.ensures ∙ ap (λ (l : List AuditLine). l ++ filter_map (lacking_line switch found) wanted) c.new-lines.ensures.items) in
    let ordered : c.in_ok-ordered.ordered.items ≡ in_order (unordered switch found wanted) = c.in_ok-ordered.ensures ∙ ap in_order all in
    λ lab es w are exact. subst (λ (l : List AuditLine). AreLinesOf lab es w switch l) (sym ordered) (lines_are lab es w switch found wanted are exact)
