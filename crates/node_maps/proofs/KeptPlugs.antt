-- The places and plugs on which the first interface depends.
use Rattle.std.proofs.Common.{◌≡◌, ◌<◌, ◌+◌, ◌∷◌, ◌++◌, [], ℕ, suc, List, length, get_or, Bool, true, false, cond, eqb, ◌==◌, ◌&&◌, Option, Some, refl, ap, arith}
use Rattle.std.proofs.lemmas.Bool.{and_parts, eqb-true}
use Rattle.lab_base.specs.declared.ids.IfaceId.{IfaceId}
use Rattle.lab_base.specs.declared.ids.NodeId.{NodeId}
use Rattle.phys_lab.specs.declared.parts.Iface.{Iface}
use Rattle.phys_lab.specs.Labs.{Lab}
use Rattle.virt_topo.specs.declared.loads.Load.{Load}
use Rattle.lab_model.specs.Uses.{no_iface, iface_at}
use Rattle.lab_model.specs.Rules.{Laid, loads_on, may_bear}
use Rattle.node_maps.specs.NodeMaps.{may_take, first_iface}

-- one more load on an interface
pub on_push : (n : ℕ) (had : List Laid) (x : Load) (i : IfaceId) → loads_on n (had ++ (x, i) ∷ []) ≡ loads_on n had ++ cond (eqb i.0 n) (x ∷ []) []
on_push n [] x i = refl
on_push n (h ∷ had) x i = by (eqb h.1.0 n) (on_push n had x i)
  where
    by : (b : Bool) → loads_on n (had ++ (x, i) ∷ []) ≡ loads_on n had ++ cond (eqb i.0 n) (x ∷ []) []
        → cond b (h.0 ∷ loads_on n (had ++ (x, i) ∷ [])) (loads_on n (had ++ (x, i) ∷ [])) ≡ cond b (h.0 ∷ loads_on n had) (loads_on n had) ++ cond (eqb i.0 n) (x ∷ []) []
    by true is = ap (λ (l : List Load). h.0 ∷ l) is
    by false is = is

either_way : (here : Bool) (kbps : ℕ) (one other : List Load) (load : Load) (found rest rests : Option IfaceId) → (here ≡ true → one ≡ other) → rest ≡ rests
    → cond (here && may_bear kbps one load) found rest ≡ cond (here && may_bear kbps other load) found rests
either_way true kbps one other load found rest rests same later = (λ i. cond (may_bear kbps (same refl i) load) found (later i))
either_way false kbps one other load found rest rests same later = later

-- the first interface depends on what is on those of its node alone
pub first_same : (n : ℕ) (xs : List Iface) (had old : List Laid) (node : NodeId) (load : Load)
    → ((k m : ℕ) → m ≡ n + k → k < length xs → (get_or xs k no_iface).node.0 ≡ node.0 → loads_on m had ≡ loads_on m old)
    → first_iface n xs had node load ≡ first_iface n xs old node load
first_same n [] had old node load same = refl
first_same n (x ∷ xs) had old node load same =
    either_way (eqb x.node.0 node.0) x.kbps (loads_on n had) (loads_on n old) load (Some (record { 0 = n })) (first_iface (n + 1) xs had node load) (first_iface (n + 1) xs old node load)
    (λ here. same 0 n (omega arith) (omega arith) (eqb-true x.node.0 node.0 here))
    (first_same (n + 1) xs had old node load (λ k m at lt on. same (suc k) m (omega (arith, at)) (omega (arith, lt)) on))

-- an interface that may be given is of the node
pub may_node : (lab : Lab) (i : IfaceId) (had : List Laid) (node : NodeId) (load : Load) → may_take i.0 (iface_at lab i) had node load ≡ true → (iface_at lab i).node.0 ≡ node.0
may_node lab i had node load may =
    eqb-true (iface_at lab i).node.0 node.0
    (and_parts ((iface_at lab i).node.0 == node.0) (may_bear (iface_at lab i).kbps (loads_on i.0 had) load) may).0
