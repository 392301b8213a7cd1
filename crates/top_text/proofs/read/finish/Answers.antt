use Rattle.std.proofs.Common.{◌≡◌, ℕ, zero, suc, Bool, true, false, cond, eqb, length, Ok, Err, refl, ap, sym, subst, ◌∙◌}
use Rattle.std.proofs.Math.Dec.{eqb-suc-zero}
use Rattle.lab_base.specs.declared.fault.Kind.TheVariants as kinds
use Rattle.virt_topo.specs.declared.wiring.Wiring.{Wiring}
use Rattle.virt_topo.specs.Soundness.{IsSound}
use Rattle.top_text.proofs.KeptLaws.{sound_of}
use Rattle.top_text.proofs.read.finish.Goals as goal

some : (n : ℕ) (b : Bool) → (n ≡ 0 → b ≡ true) → b ≡ false → eqb n 0 ≡ false
some zero b none is = absurd (cc (sym (none refl) ∙ is))
some (suc n) b none is = eqb-suc-zero n

pub returns-clause-reads : goal.returns-clause-reads
returns-clause-reads c =
    let w = c.args.so_far.wiring in
    ap (λ (b : Bool). cond b (Err (record { line = c.args.line; kind = kinds.Empty })) (Ok w)) (some (length w.nodes) c.is_empty.result c.is_empty.ensures.1 c.if-is_empty.false) ∙ ap (λ (v : Wiring). Ok v) (sym c.into_wiring.ensures)

pub returns-clause-sound : goal.returns-clause-sound
returns-clause-sound c =
    let w = c.args.so_far.wiring in
    subst IsSound (sym c.into_wiring.ensures) (sound_of w c.requires.kept (some (length w.nodes) c.is_empty.result c.is_empty.ensures.1 c.if-is_empty.false))
