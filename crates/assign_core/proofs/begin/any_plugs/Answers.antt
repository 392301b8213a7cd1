use Rattle.std.proofs.Common.{◌<◌, ◌∙◌, ℕ, zero, suc, List, length, replicate, All, sym, subst, arith}
use Rattle.std.proofs.lemmas.List.Elements.{All-cons}
use Rattle.lab_base.specs.declared.ids.IfaceId.{IfaceId}
use Rattle.assign_core.proofs.begin.any_plugs.Goals as goal

abbrev first_id : IfaceId
first_id = record { 0 = 0 }

all_same : (n k : ℕ) → (0 < n → 0 < k) → All (λ (i : IfaceId). i.0 < k) (replicate n first_id)
all_same zero k some = λ j d lt. absurd (omega (arith, lt))
all_same (suc n) k some = All-cons (λ (i : IfaceId). i.0 < k) first_id (replicate n first_id) (some (omega arith)) (all_same n k (λ lt. some (omega arith)))

pub returns-clause-in_lab : goal.returns-clause-in_lab
returns-clause-in_lab c =
    subst (λ (l : List IfaceId). All (λ (i : IfaceId). i.0 < length c.args.lab.now.ifaces) l) (sym (c.from_vec.ensures ∙ c.in_ok-plugs.ensures.items_if_clones_equal (λ y e. e)))
    (all_same c.args.ends (length c.args.lab.now.ifaces) (c.wants_ifaces.ensures.enough c.if-wants_ifaces.false))
