use Rattle.std.proofs.Common.{◌≡◌, ◌≤◌, ◌∙◌, inl, inr, ℕ, get_or, ap, sym, subst, arith}
use Rattle.std.proofs.lemmas.Bool.{cases_eq}
use Rattle.std.proofs.lemmas.List.{get_or_default}
use Rattle.node_maps.specs.declared.ends.End.{End}
use Rattle.map_state.specs.Nodes.{no_end}
use Rattle.map_state.specs.Speeds.{wanted_by}
use Rattle.map_state.proofs.speeds.wanted_of.Goals as goal

pub raise-requires : goal.raise-requires
raise-requires c = omega (arith, c.requires c.loop-end.end-index no_end c.loop-end-test.true, c.loop-end.invariant.one_each)

pub loop-end-preserved : goal.loop-end-preserved
loop-end-preserved c =
    let ends = c.args.ends.now in
    let n = c.loop-end.end-index in
    let e = get_or ends n no_end in
    let before = c.loop-end.invariant in
    record {
      one_each = c.raise.ensures.one_each ∙ before.one_each;
      each = λ k d lt. elim (cases_eq k n) [
        | inl is ↦
            let at : get_or ends k d ≡ e = ap (λ (j : ℕ). get_or ends j d) is ∙ get_or_default ends n d no_end c.loop-end-test.true in
            subst (λ (x : End). wanted_by x ≤ get_or c.raise.new.speeds.items x.node 0) (sym at) (subst (λ (w : ℕ). w ≤ get_or c.raise.new.speeds.items e.node 0) c.wanted_by.ensures c.raise.ensures.here)
        | inr apart ↦ (
            let old = before.each k d (omega (arith, lt, apart)) in
            let more = c.raise.ensures.others (get_or ends k d).node in
            omega (arith, old, more))
      ];
    }
