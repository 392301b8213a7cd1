use Rattle.std.proofs.Common.{[], ◌∷◌, ◌++◌, ◌+◌, List, ℕ, sym, ap, ◌∙◌, subst, arith}
use Rattle.std.specs.Prelude.{option_copied}
use Rattle.swap_mgr.proofs.Slots.{NamedBelow, named_all, named_more, named_same}
use Rattle.swap_mgr.proofs.manager.names_in.Goals.{in-Some+in_ok-push, in_default}
use Rattle.swap_mgr.proofs.manager.names_in.Goals as goal

pub loop-key-preserved : goal.loop-key-preserved
loop-key-preserved c = elim c.match-get.branch [
  | in-Some+in_ok-push w ↦
      let names = c.loop-key.names.items in
      let pushed = ap (λ v. v.items) w.names-is ∙ w.in_ok-push.ensures.items ∙ ap (λ (n : List ℕ). names ++ n ∷ []) w.exp.ensures.exp in
      subst (λ (l : List (List ℕ)). NamedBelow c.args.swaps.now (c.loop-key.key + 1) l) (sym pushed)
      (named_more c.args.swaps.now c.loop-key.key names w.in-Some.live.now (sym c.get.ensures ∙ ap option_copied w.in-Some.is) c.loop-key.invariant)
  | in_default w ↦
      subst (λ (l : List (List ℕ)). NamedBelow c.args.swaps.now (c.loop-key.key + 1) l) (sym (ap (λ v. v.items) w.names-is))
      (named_same c.args.swaps.now c.loop-key.key c.loop-key.names.items (sym c.get.ensures ∙ ap option_copied w.in_default.is) c.loop-key.invariant)
]

pub returns : goal.returns
returns c =
    let e = c.capacity-key-end.ensures.value in
    let t = c.loop-key-test.false in
    named_all c.args.swaps.now c.loop-key.key c.loop-key.names.items c.requires (omega (arith, e, t)) c.loop-key.invariant
