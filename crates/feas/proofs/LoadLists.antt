-- The loads of the ends that have one plug, one after another.
use Rattle.std.proofs.Common.{◌≡◌, ℕ, suc, ◌+◌, ◌-◌, ◌<◌, ◌≤◌, Bool, true, false, not, cond, eqb, List, ◌∷◌, length, take, drop, get_or, ap, ◌∙◌, arith}
use Rattle.std.specs.Prelude.{◌&&◌, nat_le, zip, sum_by}
use Rattle.std.specs.List.{list_all}
use Rattle.std.proofs.Math.Seq.{drop-cons}
use Rattle.std.proofs.lemmas.Bool.{not-false}
use Rattle.std.proofs.lemmas.Bool.Decides.{nat_tests}
use Rattle.std.proofs.lemmas.List.{drop_all, get_or_default}
use Rattle.std.proofs.lemmas.List.Sums.{sum_by-cons}
use Rattle.std.proofs.Math.Bool.{and-false}
use Rattle.lab_base.specs.declared.ids.IfaceId.{IfaceId}
use Rattle.lab_base.proofs.Tests.{not_faulty}
use Rattle.lab_base.proofs.Numbers.{zero_le}
use Rattle.phys_lab.specs.Labs.{Lab}
use Rattle.virt_topo.specs.declared.loads.Load.{Load}
use Rattle.virt_topo.specs.declared.wiring.Wiring.{Wiring}
use Rattle.virt_topo.specs.declared.mapping.Mapping.{Mapping}
use Rattle.virt_topo.specs.Ends.{end_nodes}
use Rattle.virt_topo.specs.Loads.{loads_of}
use Rattle.virt_topo.specs.Soundness.{IsSound, keeps_limits}
use Rattle.virt_topo.proofs.CableLaws.{limits_of}
use Rattle.lab_model.specs.Uses.{iface_at}
use Rattle.lab_model.specs.Rules.{keeps_f5, place_at, plug_at, loads_on, may_join, may_bear, no_load}

-- a sound wiring has few segments
pub few_segments : (w : Wiring) → IsSound w → length w.segments ≤ 512
few_segments w sound = (limits_of w (not-false _ (not_faulty (not (keeps_limits w)) _ _ sound))).segments

-- those from the end of number k on
abbrev pub later_on : ℕ → List Load → List IfaceId → ℕ → List Load
later_on i loads plugs k = loads_on i (zip (drop k loads) (drop k plugs))

-- what is left to ask of them
abbrev pub left_to : Load → List Load → ℕ → Bool
left_to x ys left = list_all (λ y. may_join y x) ys && nat_le (sum_by (λ y. y.kbps) ys) left

item_at : {X : Type 0} (xs : List X) (i : ℕ) (d : X) → i < length xs → drop i xs ≡ get_or xs i d ∷ drop (i + 1) xs
item_at xs i d lt =
    let next : suc i ≡ i + 1 = omega arith in
    drop-cons xs i d lt ∙ (λ j. get_or xs i d ∷ drop (next j) xs)

later_is : (i : ℕ) (loads : List Load) (plugs : List IfaceId) (k : ℕ) (d : Load) (q : IfaceId) → length loads ≡ length plugs → k < length plugs
    → later_on i loads plugs k ≡ cond (eqb (get_or plugs k q).0 i) (get_or loads k d ∷ later_on i loads plugs (k + 1)) (later_on i loads plugs (k + 1))
later_is i loads plugs k d q same lt =
    let one = item_at loads k d (omega (arith, lt, same)) in
    let two = item_at plugs k q lt in
    λ j. loads_on i (zip (one j) (two j))

-- before the first
pub begins : (kbps : ℕ) (ys : List Load) (x : Load) → x.kbps ≤ kbps → may_bear kbps ys x ≡ left_to x ys (kbps - x.kbps)
begins kbps ys x le = ap (λ (b : Bool). list_all (λ y. may_join y x) ys && b) (by (sum_by (λ y. y.kbps) ys))
  where
    by : (n : ℕ) → nat_le (x.kbps + n) kbps ≡ nat_le n (kbps - x.kbps)
    by n = grind (arith, nat_tests)

pub too_fast : (kbps : ℕ) (ys : List Load) (x : Load) → kbps < x.kbps → may_bear kbps ys x ≡ false
too_fast kbps ys x gt = ap (λ (b : Bool). list_all (λ y. may_join y x) ys && b) (by (sum_by (λ y. y.kbps) ys)) ∙ and-false (list_all (λ y. may_join y x) ys)
  where
    by : (n : ℕ) → nat_le (x.kbps + n) kbps ≡ false
    by n = grind (arith, nat_tests)

-- another plug
pub passes : (i : ℕ) (loads : List Load) (plugs : List IfaceId) (k left : ℕ) (x d : Load) (q : IfaceId) → length loads ≡ length plugs → k < length plugs
    → eqb (get_or plugs k q).0 i ≡ false → left_to x (later_on i loads plugs k) left ≡ left_to x (later_on i loads plugs (k + 1)) left
passes i loads plugs k left x d q same lt off =
    ap (λ (l : List Load). left_to x l left)
    (later_is i loads plugs k d q same lt ∙ ap (λ (b : Bool). cond b (get_or loads k d ∷ later_on i loads plugs (k + 1)) (later_on i loads plugs (k + 1))) off)

here : (i : ℕ) (loads : List Load) (plugs : List IfaceId) (k left : ℕ) (x d : Load) (q : IfaceId) → length loads ≡ length plugs → k < length plugs
    → eqb (get_or plugs k q).0 i ≡ true → left_to x (later_on i loads plugs k) left ≡ left_to x (get_or loads k d ∷ later_on i loads plugs (k + 1)) left
here i loads plugs k left x d q same lt on =
    ap (λ (l : List Load). left_to x l left)
    (later_is i loads plugs k d q same lt ∙ ap (λ (b : Bool). cond b (get_or loads k d ∷ later_on i loads plugs (k + 1)) (later_on i loads plugs (k + 1))) on)

-- the plug, where both may be there
pub joins : (i : ℕ) (loads : List Load) (plugs : List IfaceId) (k left : ℕ) (x d : Load) (q : IfaceId) → length loads ≡ length plugs → k < length plugs
    → eqb (get_or plugs k q).0 i ≡ true → may_join (get_or loads k d) x ≡ true → (get_or loads k d).kbps ≤ left → left_to x (later_on i loads plugs k) left ≡ left_to x (later_on i loads plugs (k + 1)) (left - (get_or loads k d).kbps)
joins i loads plugs k left x d q same lt on joined le =
    let rest = later_on i loads plugs (k + 1) in
    let y = get_or loads k d in
    here i loads plugs k left x d q same lt on
    ∙ (λ j. (joined j && list_all (λ z. may_join z x) rest) && (ap (λ (n : ℕ). nat_le n left) (sum_by-cons (λ (z : Load). z.kbps) y rest) ∙ by (sum_by (λ z. z.kbps) rest)) j)
  where
    by : (n : ℕ) → nat_le ((get_or loads k d).kbps + n) left ≡ nat_le n (left - (get_or loads k d).kbps)
    by n = grind (arith, nat_tests)

-- the plug, where they may not
pub parts_ways : (i : ℕ) (loads : List Load) (plugs : List IfaceId) (k left : ℕ) (x d : Load) (q : IfaceId) → length loads ≡ length plugs → k < length plugs
    → eqb (get_or plugs k q).0 i ≡ true → may_join (get_or loads k d) x ≡ false → left_to x (later_on i loads plugs k) left ≡ false
parts_ways i loads plugs k left x d q same lt on apart =
    let rest = later_on i loads plugs (k + 1) in
    let y = get_or loads k d in
    here i loads plugs k left x d q same lt on ∙ ap (λ (b : Bool). (b && list_all (λ z. may_join z x) rest) && nat_le (sum_by (λ z. z.kbps) (y ∷ rest)) left) apart

pub too_much : (i : ℕ) (loads : List Load) (plugs : List IfaceId) (k left : ℕ) (x d : Load) (q : IfaceId) → length loads ≡ length plugs → k < length plugs
    → eqb (get_or plugs k q).0 i ≡ true → left < (get_or loads k d).kbps → left_to x (later_on i loads plugs k) left ≡ false
too_much i loads plugs k left x d q same lt on gt =
    let rest = later_on i loads plugs (k + 1) in
    let y = get_or loads k d in
    here i loads plugs k left x d q same lt on
    ∙ ap (λ (b : Bool). (may_join y x && list_all (λ z. may_join z x) rest) && b) (ap (λ (n : ℕ). nat_le n left) (sum_by-cons (λ (z : Load). z.kbps) y rest) ∙ by (sum_by (λ z. z.kbps) rest)) ∙ and-false (may_join y x && list_all (λ z. may_join z x) rest)
  where
    by : (n : ℕ) → nat_le ((get_or loads k d).kbps + n) left ≡ false
    by n = grind (arith, nat_tests)

-- after the last
pub ended : (i : ℕ) (loads : List Load) (plugs : List IfaceId) (k left : ℕ) (x : Load) → length plugs ≤ k → length loads ≡ length plugs → left_to x (later_on i loads plugs k) left ≡ true
ended i loads plugs k left x le same =
    let one = drop_all k loads (omega (arith, le, same)) in
    let two = drop_all k plugs le in
    (λ j. left_to x (loads_on i (zip (one j) (two j))) left) ∙ zero_le left

-- the test of one plug is the rule's
abbrev plug_test : Lab → Mapping → List Load → ℕ → ℕ → Load → Bool
plug_test lab m loads e virt d =
    eqb (iface_at lab (plug_at m e)).node.0 (place_at m virt).0.0
    && may_bear (iface_at lab (plug_at m e)).kbps (loads_on (plug_at m e).0 (zip (take e loads) (take e m.plugs))) (get_or loads e d)

pub kept_is : (lab : Lab) (w : Wiring) (m : Mapping) (e virt : ℕ) (nodes : List ℕ) (loads : List Load) (result : Bool) → nodes ≡ end_nodes w.segments → loads ≡ loads_of w
    → e < length (end_nodes w.segments) → virt ≡ get_or nodes e virt → result ≡ plug_test lab m loads e virt no_load → result ≡ keeps_f5 lab w m e
kept_is lab w m e virt nodes loads result nodes_are loads_are lt at is =
    let one : virt ≡ get_or (end_nodes w.segments) e 0 = at ∙ ap (λ (l : List ℕ). get_or l e virt) nodes_are ∙ get_or_default (end_nodes w.segments) e virt 0 lt in
    is ∙ (λ j. plug_test lab m (loads_are j) e (one j) no_load)
