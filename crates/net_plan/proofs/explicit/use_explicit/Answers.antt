use Rattle.std.proofs.Common.{◌≡◌, ℕ, Bool, false, None, get_or, drop, ◌+◌, sym, ap, ◌∙◌}
use Rattle.std.proofs.lemmas.Bool.{not-true}
use Rattle.virt_topo.specs.declared.wiring.VirtEnd.{VirtEnd}
use Rattle.net_plan.specs.Addresses.{uses, taken, addresses_of, repeats}
use Rattle.net_plan.proofs.AddressLaws.{AreUsed, used_more, used_same}
use Rattle.net_plan.proofs.ListLaws.{own_item}
use Rattle.net_plan.proofs.explicit.use_explicit.Goals as goal
use Rattle.net_plan.proofs.explicit.use_explicit.Goals.{in-Some+in_ok-insert+else-not-branch, in_default}

pub loop-end-preserved : goal.loop-end-preserved
loop-end-preserved c =
    let ends = c.args.ends.now in
    let i = c.loop-end.end-index in
    let none : VirtEnd = record { node = 0; address = None } in
    let e : VirtEnd = get_or ends i none in
    let is = own_item ends i none c.loop-end-test.true in
    let before : ℕ → Bool = uses c.args.used.now in
    let used : ℕ → Bool = uses c.loop-end.used in
    let were : AreUsed before used ends i = (c.loop-end.invariant.used, c.loop-end.invariant.free) in
    elim c.match-end.branch [
      | in-Some+in_ok-insert+else-not-branch w ↦
          let free : used w.in-Some.address ≡ false = not-true _ (sym w.in_ok-insert.ensures.free ∙ w.if-not-branch.false) in
          let next : uses c.match-end.used ≡ taken used w.in-Some.address = ap uses w.used-is ∙ w.in_ok-insert.ensures.used in
          let are = used_more before used (uses c.match-end.used) ends i e w.in-Some.address c.loop-end-test.true is w.in-Some.is free next were in
          record { used = are.0; free = are.1 }
      | in_default w ↦
          let are = used_same before used ends i e c.loop-end-test.true is w.in_default.is were in
          record { used = ap uses w.used-is ∙ are.0; free = are.1 ∙ ap (λ (u : ℕ → Bool). repeats u (addresses_of (drop (i + 1) ends))) (sym (ap uses w.used-is)) }
    ]
