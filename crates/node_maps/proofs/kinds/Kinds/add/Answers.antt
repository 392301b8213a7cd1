use Rattle.std.proofs.Common.{◌≡◌, ◌<◌, ◌+◌, ◌∷◌, ◌++◌, ◌∙◌, [], ℕ, List, length, get_or, ap, sym, subst, arith}
use Rattle.virt_topo.specs.Wirings.{no_virt}
use Rattle.node_maps.specs.Kinds.{AreKinds, AreOfOneKind}
use Rattle.node_maps.proofs.KindLaws.{kinds_known, kinds_new}
use Rattle.node_maps.proofs.kinds.Kinds.add.Goals as goal

pub returns-in_ok-push-in-Some : goal.returns-in_ok-push-in-Some
returns-in_ok-push-in-Some c =
    let nodes = c.args.nodes.now in
    let old = c.args.self.now in
    let v = c.args.virt in
    let k = c.in-Some.kind in
    let ones = c.deref.ensures.value in
    subst (λ (l : List ℕ). AreKinds nodes (v + 1) old.ones.items l) (sym c.in_ok-push-in-Some.ensures.items)
    (kinds_known nodes v old.ones.items old.kinds.items k c.requires.kinds
    (subst (λ (l : List ℕ). k < length l) ones c.in-Some.ensures.within)
    (subst (λ (l : List ℕ). AreOfOneKind (get_or nodes (get_or l k 0) no_virt) (get_or nodes v no_virt)) ones c.in-Some.ensures.same))

pub returns-in_ok-push-in-None-2 : goal.returns-in_ok-push-in-None-2
returns-in_ok-push-in-None-2 c =
    let nodes = c.args.nodes.now in
    let old = c.args.self.now in
    let v = c.args.virt in
    let count : ◌≡◌ {A = ℕ} c.len.result (length old.ones.items) = omega (arith, c.len.ensures, old.ones.ok.0) in
    let kinds : c.push-in-None.new.self.items ≡ old.kinds.items ++ length old.ones.items ∷ [] = c.in_ok-push-in-None.ensures.items ∙ ap (λ (n : ℕ). old.kinds.items ++ n ∷ []) count in
    let none = subst (λ (l : List ℕ). (k : ℕ) → k < length l → AreOfOneKind (get_or nodes (get_or l k 0) no_virt) (get_or nodes v no_virt) → ⊥) c.deref.ensures.value c.in-None.ensures.none in
    subst (λ (l : List ℕ). AreKinds nodes (v + 1) l c.push-in-None.new.self.items) (sym c.in_ok-push-in-None-2.ensures.items)
    (subst (λ (l : List ℕ). AreKinds nodes (v + 1) (old.ones.items ++ v ∷ []) l) (sym kinds)
    (kinds_new nodes v old.ones.items old.kinds.items c.requires.virt none c.requires.kinds))
