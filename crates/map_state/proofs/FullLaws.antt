-- A node with more virtual nodes than may be there.
use Rattle.std.proofs.Common.{◌≡◌, ◌<◌, ◌≤◌, ◌+◌, ◌∷◌, [], ℕ, zero, suc, List, length, get_or, Bool, true, false, cond, eqb, ◌&&◌, None, All, refl, ap, subst, arith}
use Rattle.std.specs.List.{list_all}
use Rattle.std.proofs.lemmas.Bool.{and_parts, eq-eqb, leb-true}
use Rattle.std.proofs.lemmas.List.Sums.{sum_by-cons}
use Rattle.lab_base.specs.Names.{same_name}
use Rattle.lab_base.proofs.Bytes.{bytes_same}
use Rattle.phys_lab.specs.declared.free.Free.{Free}
use Rattle.phys_lab.specs.Labs.{Lab}
use Rattle.virt_topo.specs.declared.wiring.VirtNode.{VirtNode}
use Rattle.virt_topo.specs.declared.wiring.Wiring.{Wiring}
use Rattle.virt_topo.specs.declared.mapping.Mapping.{Mapping}
use Rattle.lab_model.specs.Shapes.{Place, IsShaped, node_at}
use Rattle.lab_model.specs.Rules.{agree, hosted, HostedNode, number_of, no_place}
use Rattle.node_maps.specs.NodeMaps.{node_map}
use Rattle.node_maps.specs.Moved.{may_share}
use Rattle.node_maps.proofs.Assembled.{no_map}
use Rattle.map_state.specs.Hosted.{hosted_at}

-- those that agree are at most as many as the count of each one's type
agree_few : (types : List (List ℕ × ℕ)) (gs : List HostedNode) → agree types gs ≡ true → All (λ g. length gs ≤ number_of types g.0) gs
agree_few types [] e = λ k d lt. absurd (omega (arith, lt))
agree_few types (g ∷ gs) e =
    let parts = and_parts _ _ e in
    let few : length gs + 1 ≤ number_of types g.0 = leb-true (length gs + 1) (number_of types g.0) parts.1 in
    each few (alike gs parts.0)
  where
    alike : (hs : List HostedNode) → list_all (λ h. same_name h.0 g.0 && same_name h.1 g.1) hs ≡ true → All (λ h. h.0 ≡ g.0) hs
    alike [] e = λ k d lt. absurd (omega (arith, lt))
    alike (h ∷ hs) e =
        let own = and_parts _ _ e in
        let first : h.0 ≡ g.0 = bytes_same h.0 g.0 (and_parts _ _ own.0).0 in
        heads h hs first (alike hs own.1)
      where
        heads : (h : HostedNode) (hs : List HostedNode) → h.0 ≡ g.0 → All (λ x. x.0 ≡ g.0) hs → All (λ x. x.0 ≡ g.0) (h ∷ hs)
        heads h hs first rest zero d lt = first
        heads h hs first rest (suc k) d lt = rest k d (omega (arith, lt))

    each : length gs + 1 ≤ number_of types g.0 → All (λ h. h.0 ≡ g.0) gs → All (λ h. length (g ∷ gs) ≤ number_of types h.0) (g ∷ gs)
    each few same zero d lt = omega (arith, few)
    each few same (suc k) d lt =
        let its : ◌≡◌ {A = ℕ} (number_of types (get_or gs k d).0) (number_of types g.0) = ap (number_of types) (same k d (omega (arith, lt))) in
        omega (arith, few, its)

-- how many are on a node
guests_all : (vs : List VirtNode) (places : List Place) (n : ℕ) → length places ≤ length vs → hosted_at places n ≤ length (hosted vs places n)
guests_all vs [] n le = omega arith
guests_all [] (p ∷ places) n le = absurd (omega (arith, le))
guests_all (v ∷ vs) (p ∷ places) n le =
    let step = sum_by-cons (λ (q : Place). cond (eqb q.0.0 n) 1 0) p places in
    by (eqb p.0.0 n) refl step (guests_all vs places n (omega (arith, le)))
  where
    by : (b : Bool) → eqb p.0.0 n ≡ b → hosted_at (p ∷ places) n ≡ cond (eqb p.0.0 n) 1 0 + hosted_at places n → hosted_at places n ≤ length (hosted vs places n)
        → hosted_at (p ∷ places) n ≤ length (cond b ((p.1, v.os) ∷ hosted vs places n) (hosted vs places n))
    by true is step rest = let one : ◌≡◌ {A = ℕ} (cond (eqb p.0.0 n) 1 0) 1 = ap (λ (b : Bool). cond b 1 0) is in omega (arith, step, rest, one)
    by false is step rest = let none : ◌≡◌ {A = ℕ} (cond (eqb p.0.0 n) 1 0) 0 = ap (λ (b : Bool). cond b 1 0) is in omega (arith, step, rest, none)

-- one that is there is among them
guest_in : (On : List ℕ → Type 0) (vs : List VirtNode) (places : List Place) (n v : ℕ) (d : Place) → v < length places → length places ≤ length vs → (get_or places v d).0.0 ≡ n
    → All (λ (g : HostedNode). On g.0) (hosted vs places n) → On (get_or places v d).1
guest_in On vs [] n v d lt le here all = absurd (omega (arith, lt))
guest_in On [] (p ∷ places) n v d lt le here all = absurd (omega (arith, le))
guest_in On (x ∷ vs) (p ∷ places) n zero d lt le here all =
    let is = eq-eqb p.0.0 n here in
    let own : All (λ (g : HostedNode). On g.0) ((p.1, x.os) ∷ hosted vs places n) = subst (λ (b : Bool). All (λ (g : HostedNode). On g.0) (cond b ((p.1, x.os) ∷ hosted vs places n) (hosted vs places n))) is all in
    own 0 (p.1, x.os) (omega arith)
guest_in On (x ∷ vs) (p ∷ places) n (suc v) d lt le here all =
    guest_in On vs places n v d (omega (arith, lt)) (omega (arith, le)) here (by (eqb p.0.0 n) all)
  where
    by : (b : Bool) → All (λ (g : HostedNode). On g.0) (cond b ((p.1, x.os) ∷ hosted vs places n) (hosted vs places n)) → All (λ (g : HostedNode). On g.0) (hosted vs places n)
    by true all = λ k e k_lt. all (suc k) e (omega (arith, k_lt))
    by false all = all

-- where more are there than may have the type of one of them, they may not share the node
pub overfull : (lab : Lab) (w : Wiring) (places : List Place) (v : ℕ) → length places ≡ length w.nodes → v < length places
    → number_of (node_at lab (get_or places v no_place).0).types (get_or places v no_place).1 < hosted_at places (get_or places v no_place).0.0
    → may_share lab w places (get_or places v no_place).0.0 ≡ true → ⊥
overfull lab w places v count lt more agreed =
    let n = (get_or places v no_place).0.0 in
    let types = (node_at lab (record { 0 = n })).types in
    let few = agree_few types (hosted w.nodes places n) agreed in
    let le : length (hosted w.nodes places n) ≤ number_of types (get_or places v no_place).1 =
    guest_in (λ t. length (hosted w.nodes places n) ≤ number_of types t) w.nodes places n v no_place lt (omega (arith, count)) refl few in
    let whole = guests_all w.nodes places n (omega (arith, count)) in
    absurd (omega (arith, le, whole, more))

-- that is no node map
pub overfull_no_map : (lab : Lab) (free : Free) (w : Wiring) (m : Mapping) (v : ℕ) → IsShaped lab w m → v < length m.places
    → number_of (node_at lab (get_or m.places v no_place).0).types (get_or m.places v no_place).1 < hosted_at m.places (get_or m.places v no_place).0.0
    → node_map lab free w m.places ≡ None
overfull_no_map lab free w m v shaped lt more = no_map lab free w m.places (λ plugs all. overfull lab w m.places v shaped.places lt more (all.shared (get_or m.places v no_place).0.0 (shaped.in_nodes v no_place lt)))
