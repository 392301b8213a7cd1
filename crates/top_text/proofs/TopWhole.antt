-- The printed text of a wiring is read as that wiring.
use Rattle.std.proofs.Common.{◌≡◌, ◌+◌, Bool, true, cond, length, Ok, Err, ap, ◌∙◌}
use Rattle.lab_base.specs.Texts.{lines_of}
use Rattle.lab_base.specs.declared.fault.Kind.TheVariants as kinds
use Rattle.line_text.proofs.LinesAgain.{read_again}
use Rattle.virt_topo.specs.declared.wiring.Wiring.{Wiring}
use Rattle.virt_topo.specs.Soundness.{IsSound}
use Rattle.top_text.specs.Adding.{added, start, finished, wiring_of_text}
use Rattle.top_text.specs.Canonical.{wiring_lines, canonical_top}
use Rattle.top_text.specs.Printable.{is_printable}
use Rattle.top_text.proofs.SoundTests.{some_nodes}
use Rattle.top_text.proofs.TopAgain.{named_of, wiring_adds}
use Rattle.top_text.proofs.TopPrinted.{wiring_printed}

pub top_again : (w : Wiring) → IsSound w → is_printable w ≡ true → wiring_of_text (canonical_top w) ≡ Ok w
top_again w sound printable =
    let line = length (lines_of (canonical_top w)) + 1 in
    ap (finished line) (read_again added 1 start w (wiring_lines w) (wiring_printed w sound (named_of w printable)) (wiring_adds w sound (named_of w printable)))
    ∙ ap (λ (b : Bool). cond b (Err (record { line = line; kind = kinds.Empty })) (Ok w)) (some_nodes w sound)
