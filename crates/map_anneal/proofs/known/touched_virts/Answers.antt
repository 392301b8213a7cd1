use Rattle.std.proofs.Common.{◌≡◌, ◌<◌, ◌∙◌, inl, inr, ℕ, Bool, List, length, get_or, true, false, ap, sym, subst, arith, get_or-set_same, get_or-set_other}
use Rattle.std.proofs.Math.ListN.{set}
use Rattle.std.proofs.lemmas.Bool.{cases_eq}
use Rattle.std.proofs.lemmas.List.{length-set}
use Rattle.map_anneal.specs.Untouched.{IsUntouched}
use Rattle.map_anneal.proofs.known.touched_virts.Goals as goal

pub loop-virt-preserved : goal.loop-virt-preserved
loop-virt-preserved c =
    let v = c.loop-virt.virt in
    let marks = c.loop-virt.virts.items in
    let was = c.loop-virt.invariant in
    let mark = c.is_touched.result in
    let count = was.count in
    let lt : v < length marks = omega (arith, count, c.loop-virt-test.true) in
    record {
      count = length-set marks v mark ∙ count;
      done = λ k unmarked. elim (cases_eq k v) [
        | inl same ↦ (
            let off : mark ≡ false = sym (get_or-set_same marks v mark true lt) ∙ ap (λ (j : ℕ). get_or (set marks v mark) j true) (sym same) ∙ unmarked in
            subst (IsUntouched c.args.wiring.now c.args.last.now c.args.next.now c.args.nodes.now) (sym same) (record {
              here = c.is_touched.ensures.node off;
              class = λ d member. c.in_ok-classes.ensures d (subst (λ (l : List Bool). get_or l d true ≡ false) c.deref.ensures.value (c.is_touched.ensures.class off d member));
            }))
        | inr apart ↦ was.done k (sym (get_or-set_other marks v k mark true apart) ∙ unmarked)
      ];
    }
