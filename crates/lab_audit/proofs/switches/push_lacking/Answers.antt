use Rattle.std.proofs.Common.{◌++◌, ◌<◌, ◌∙◌, List, Option, ap, sym, length, take, append_assoc}
use Rattle.std.specs.Prelude.{filter_map}
use Rattle.lab_base.specs.Lists.{listed}
use Rattle.script_text.specs.declared.reply.AuditLine.{AuditLine}
use Rattle.lab_audit.specs.Lines.{lacking_line}
use Rattle.lab_audit.proofs.Telling.{kept_more}
use Rattle.lab_audit.proofs.switches.push_lacking.Goals as goal

pub loop-row-preserved : goal.loop-row-preserved
loop-row-preserved c =
    let old = c.args.lines.now.items in
    let of = lacking_line c.args.switch.now c.args.found.now in
    let i = c.loop-row.row-index in
    let before = filter_map of (take i c.args.wanted.now) in
    let lt : i < length c.args.wanted.now = c.loop-row-test.true in
    c.in_ok-push_some.ensures
    ∙ ap (λ (l : List AuditLine). l ++ listed c.lacking_line.result) c.loop-row.invariant
    ∙ ap (λ (o : Option AuditLine). (old ++ before) ++ listed o) c.lacking_line.ensures
    ∙ append_assoc old before _
    ∙ ap (λ (l : List AuditLine). old ++ l) (sym (kept_more of c.args.wanted.now i _ lt c.row-item.is))
