use Rattle.std.proofs.Common.{◌≡◌, ◌++◌, ◌∷◌, [], ℕ, true, List, subst, sym, ap, ◌∙◌}
use Rattle.line_text.specs.Printing.{line_text}
use Rattle.plant_file.specs.declared.entry.Entry.{Entry}
use Rattle.plant_file.specs.declared.lines_kept.Line.{Line}
use Rattle.plant_file.specs.Kept.{AreKept}
use Rattle.plant_file.specs.Lines.{entry_fields}
use Rattle.plant_file.specs.Printable.{is_printable}
use Rattle.plant_file.proofs.KeptLaws.{kept_with}
use Rattle.plant_file.proofs.lines_kept.put_line.Goals as goal

pub returns-in-Ok-clause-kept : goal.returns-in-Ok-clause-kept
returns-in-Ok-clause-kept c =
    let here : Line = c.in_ok-line.line in
    let entry : here.entry.value ≡ c.args.entry = c.in_ok-line.ensures.entry in
    let own : c.bytes.result.now ≡ line_text (entry_fields here.entry.value) = c.bytes.ensures ∙ c.in_ok-own.ensures.text ∙ ap (λ (e : Entry). line_text (entry_fields e)) (sym entry) in
    let text : c.extend_from_slice.new.self.items ≡ c.args.text.now.items ++ line_text (entry_fields here.entry.value) =
    c.in_ok-extend_from_slice.ensures.items ∙ ap (λ (t : List ℕ). c.args.text.now.items ++ t) own in
    let lines : c.push.new.self.items ≡ c.args.lines.now.items ++ here ∷ [] = c.in-Ok.ensures.items in
    let printable : is_printable here.entry.value ≡ true = ap is_printable entry ∙ c.in_ok-own.ensures.printable in
    subst (λ (t : List ℕ). AreKept c.push.new.self.items t) (sym text)
    (subst (λ (l : List Line). AreKept l (c.args.text.now.items ++ line_text (entry_fields here.entry.value))) (sym lines)
    (kept_with c.args.lines.now.items here c.args.text.now.items c.requires c.in_ok-line.ensures.line printable))
