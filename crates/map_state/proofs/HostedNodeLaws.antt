-- One hosted node more on a node.
use Rattle.std.proofs.Common.{◌≡◌, ◌<◌, ◌≤◌, ◌∙◌, ◌+◌, ◌∷◌, ◌++◌, [], ℕ, List, length, get_or, Bool, true, false, cond, eqb, ◌==◌, ◌&&◌, nat_le, refl, ap, sym, arith, length-append}
use Rattle.std.specs.List.{list_all}
use Rattle.std.proofs.lemmas.Bool.{and_parts, eq-eqb, leb-true}
use Rattle.std.proofs.lemmas.Bool.Decides.{nat_tests}
use Rattle.std.proofs.lemmas.List.Sums.{sum_by-cons, sum_by-append, count_by-le-length}
use Rattle.lab_base.specs.Names.{same_name}
use Rattle.lab_base.proofs.Bytes.{bytes_same}
use Rattle.phys_lab.specs.Labs.{Lab}
use Rattle.virt_topo.specs.declared.wiring.VirtNode.{VirtNode}
use Rattle.virt_topo.specs.declared.wiring.Wiring.{Wiring}
use Rattle.virt_topo.specs.Wirings.{no_virt}
use Rattle.lab_model.specs.Shapes.{Place, node_at}
use Rattle.lab_model.specs.Rules.{agree, hosted, HostedNode, number_of}
use Rattle.node_maps.specs.Moved.{may_share}
use Rattle.map_state.specs.Hosted.{hosted_at}

-- HOW MANY THERE ARE
abbrev pub one_if : Bool → ℕ
one_if b = cond b 1 0

pub guests_more : (places : List Place) (q : Place) (n : ℕ) → hosted_at (places ++ q ∷ []) n ≡ hosted_at places n + one_if (eqb q.0.0 n)
guests_more places q n =
    let parts = sum_by-append (λ (p : Place). cond (eqb p.0.0 n) 1 0) places (q ∷ []) in
    let last = sum_by-cons (λ (p : Place). cond (eqb p.0.0 n) 1 0) q [] in
    omega (arith, parts, last)

-- at most as many as are placed
pub few_hosted : (places : List Place) (n : ℕ) → hosted_at places n ≤ length places
few_hosted places n = count_by-le-length (λ (p : Place). p.0.0 == n) places

guests_count : (vs : List VirtNode) (places : List Place) (n : ℕ) → length places ≤ length vs → length (hosted vs places n) ≡ hosted_at places n
guests_count [] [] n le = refl
guests_count (v ∷ vs) [] n le = refl
guests_count [] (p ∷ places) n le = absurd (omega (arith, le))
guests_count (v ∷ vs) (p ∷ places) n le =
    let step = sum_by-cons (λ (q : Place). cond (eqb q.0.0 n) 1 0) p places in
    by (eqb p.0.0 n) refl step (guests_count vs places n (omega (arith, le)))
  where
    by : (b : Bool) → eqb p.0.0 n ≡ b → hosted_at (p ∷ places) n ≡ cond (eqb p.0.0 n) 1 0 + hosted_at places n → length (hosted vs places n) ≡ hosted_at places n
        → length (cond b ((p.1, v.os) ∷ hosted vs places n) (hosted vs places n)) ≡ hosted_at (p ∷ places) n
    by true is step rest = let one : ◌≡◌ {A = ℕ} (cond (eqb p.0.0 n) 1 0) 1 = ap (λ (b : Bool). cond b 1 0) is in omega (arith, step, rest, one)
    by false is step rest = let none : ◌≡◌ {A = ℕ} (cond (eqb p.0.0 n) 1 0) 0 = ap (λ (b : Bool). cond b 1 0) is in omega (arith, step, rest, none)

-- WHO THEY ARE: the new one after the others
none_there : (vs : List VirtNode) (n : ℕ) → hosted vs [] n ≡ []
none_there [] n = refl
none_there (v ∷ vs) n = refl

last_guest : (vs : List VirtNode) (places : List Place) (q : Place) (n : ℕ) → length places < length vs → q.0.0 ≡ n
    → hosted vs (places ++ q ∷ []) n ≡ hosted vs places n ++ (q.1, (get_or vs (length places) no_virt).os) ∷ []
last_guest [] places q n lt here = absurd (omega (arith, lt))
last_guest (v ∷ vs) [] q n lt here =
    ap (λ (b : Bool). cond b ((q.1, v.os) ∷ hosted vs [] n) (hosted vs [] n)) (eq-eqb q.0.0 n here) ∙ ap (λ (l : List HostedNode). (q.1, v.os) ∷ l) (none_there vs n)
last_guest (v ∷ vs) (p ∷ places) q n lt here = by (eqb p.0.0 n) (last_guest vs places q n (omega (arith, lt)) here)
  where
    new : List HostedNode
    new = (q.1, (get_or vs (length places) no_virt).os) ∷ []

    by : (b : Bool) → hosted vs (places ++ q ∷ []) n ≡ hosted vs places n ++ new
        → cond b ((p.1, v.os) ∷ hosted vs (places ++ q ∷ []) n) (hosted vs (places ++ q ∷ []) n) ≡ cond b ((p.1, v.os) ∷ hosted vs places n) (hosted vs places n) ++ new
    by true rest = ap (λ (l : List HostedNode). (p.1, v.os) ∷ l) rest
    by false rest = rest

-- THOSE WHO AGREE are at most as many as the last one's type may be there
last_passes : (test : HostedNode → Bool) (gs : List HostedNode) (g : HostedNode) → list_all test (gs ++ g ∷ []) ≡ true → test g ≡ true
last_passes test [] g all = (and_parts (test g) true all).0
last_passes test (h ∷ gs) g all = last_passes test gs g (and_parts (test h) (list_all test (gs ++ g ∷ [])) all).1

agree_last : (types : List (List ℕ × ℕ)) (gs : List HostedNode) (g : HostedNode) → agree types (gs ++ g ∷ []) ≡ true → length gs + 1 ≤ number_of types g.0
agree_last types [] g e = leb-true 1 (number_of types g.0) (and_parts true (nat_le 1 (number_of types g.0)) e).1
agree_last types (h ∷ gs) g e =
    let parts = and_parts _ _ e in
    let few : length (gs ++ g ∷ []) + 1 ≤ number_of types h.0 = leb-true (length (gs ++ g ∷ []) + 1) (number_of types h.0) parts.1 in
    let alike = last_passes (λ x. same_name x.0 h.0 && same_name x.1 h.1) gs g parts.0 in
    let same : ◌≡◌ {A = ℕ} (number_of types g.0) (number_of types h.0) = ap (number_of types) (bytes_same g.0 h.0 (and_parts _ _ alike).0) in
    let all = length-append gs (g ∷ []) in
    omega (arith, few, same, all)

agree_one : (types : List (List ℕ × ℕ)) (gs : List HostedNode) (g : HostedNode) → length gs ≡ 0 → 1 ≤ number_of types g.0 → agree types (gs ++ g ∷ []) ≡ true
agree_one types [] g none one = grind (arith, nat_tests)
agree_one types (h ∷ gs) g none one = absurd (omega (arith, none))

-- AS MANY ARE THERE as may have the type: there is no room for one more
pub full : (lab : Lab) (w : Wiring) (places : List Place) (q : Place) → length places < length w.nodes → number_of (node_at lab q.0).types q.1 ≤ hosted_at places q.0.0
    → may_share lab w (places ++ q ∷ []) q.0.0 ≡ false
full lab w places q more many = by (may_share lab w (places ++ q ∷ []) q.0.0) refl
  where
    by : (b : Bool) → may_share lab w (places ++ q ∷ []) q.0.0 ≡ b → b ≡ false
    by false is = refl
    by true is =
        let types = (node_at lab q.0).types in
        let new : HostedNode = (q.1, (get_or w.nodes (length places) no_virt).os) in
        let few = agree_last types (hosted w.nodes places q.0.0) new (sym (ap (agree types) (last_guest w.nodes places q q.0.0 more refl)) ∙ is) in
        let count = guests_count w.nodes places q.0.0 (omega (arith, more)) in
        absurd (omega (arith, few, count, many))

-- NONE IS THERE: the first one may be
pub first_shares : (lab : Lab) (w : Wiring) (places : List Place) (q : Place) → length places < length w.nodes → hosted_at places q.0.0 ≡ 0 → 1 ≤ number_of (node_at lab q.0).types q.1
    → may_share lab w (places ++ q ∷ []) q.0.0 ≡ true
first_shares lab w places q more none one =
    let types = (node_at lab q.0).types in
    let count = guests_count w.nodes places q.0.0 (omega (arith, more)) in
    ap (agree types) (last_guest w.nodes places q q.0.0 more refl)
    ∙ agree_one types (hosted w.nodes places q.0.0) (q.1, (get_or w.nodes (length places) no_virt).os) (omega (arith, count, none)) one
