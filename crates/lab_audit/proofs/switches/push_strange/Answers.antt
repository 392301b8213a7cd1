use Rattle.std.proofs.Common.{◌++◌, ◌<◌, ◌∙◌, List, Option, ap, sym, length, take, append_assoc}
use Rattle.std.specs.Prelude.{filter_map}
use Rattle.lab_base.specs.Lists.{listed}
use Rattle.script_text.specs.declared.reply.AuditLine.{AuditLine}
use Rattle.lab_audit.specs.Lines.{strange_line}
use Rattle.lab_audit.proofs.Telling.{kept_more, same_get}
use Rattle.lab_audit.proofs.switches.push_strange.Goals as goal

pub loop-entry-preserved : goal.loop-entry-preserved
loop-entry-preserved c =
    let old = c.args.lines.now.items in
    let of = strange_line c.args.switch.now c.args.wanted.now in
    let i = c.loop-entry.entry-index in
    let before = filter_map of (take i c.args.found.now) in
    let lt : i < length c.args.found.now = c.loop-entry-test.true in
    c.in_ok-push_some.ensures
    ∙ ap (λ (l : List AuditLine). l ++ listed c.strange_line.result) c.loop-entry.invariant
    ∙ ap (λ (o : Option AuditLine). (old ++ before) ++ listed o) c.strange_line.ensures
    ∙ append_assoc old before _
    ∙ ap (λ (l : List AuditLine). old ++ l) (sym (kept_more of c.args.found.now i _ lt (same_get c.args.found.now i (0, record { 0 = 0 }) _ lt)))
