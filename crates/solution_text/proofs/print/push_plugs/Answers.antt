use Rattle.std.proofs.Common.{◌≡◌, ℕ, List, get_or, map, take, ◌++◌, ap, ◌∙◌, arith}
use Rattle.std.specs.List.{zip}
use Rattle.std.proofs.lemmas.List.{take_all, get_or_default}
use Rattle.lab_base.specs.declared.ids.IfaceId.{IfaceId}
use Rattle.line_text.specs.Printing.{text_of}
use Rattle.line_text.proofs.PrintLaws.{text_more}
use Rattle.solution_text.specs.CanonicalSolution.{plug_fields}
use Rattle.solution_text.proofs.ZipLaws.{zip_length, zip_at}
use Rattle.solution_text.proofs.print.push_plugs.Goals as goal

pub loop-end-preserved : goal.loop-end-preserved
loop-end-preserved c =
    let keys = c.args.keys.now in
    let plugs = c.args.plugs.now in
    let i = c.loop-end.end in
    let key : ℕ × ℕ = get_or keys i (0, 0) in
    let plug : IfaceId = get_or plugs i (record { 0 = 0 }) in
    text_more (plug_fields c.args.lab.now c.args.wiring.now) (zip keys plugs) i (key, plug) c.args.text.now c.loop-end.text c.push_plug.new.text
    (omega (arith, zip_length keys plugs c.requires.plugs))
    (zip_at keys plugs i key plug c.requires.plugs c.loop-end-test.true (get_or_default keys i (0, 0) key c.loop-end-test.true) (get_or_default plugs i (record { 0 = 0 }) plug (omega (arith, c.requires.plugs))))
    c.loop-end.invariant c.in_ok-push_plug.ensures

pub returns : goal.returns
returns c =
    let keys = c.args.keys.now in
    let plugs = c.args.plugs.now in
    let all : take c.loop-end.end (zip keys plugs) ≡ zip keys plugs = take_all _ _ (omega (arith, zip_length keys plugs c.requires.plugs)) in
    c.loop-end.invariant ∙ ap (λ (l : List ((ℕ × ℕ) × IfaceId)). c.args.text.now ++ text_of (map (plug_fields c.args.lab.now c.args.wiring.now) l)) all
