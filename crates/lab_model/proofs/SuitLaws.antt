-- The facts that follow from a mapping that suits a lab.
use Rattle.std.specs.Prelude.{zip, replicate, map, ◌++◌, ◌+◌}
use Rattle.std.proofs.Common.{◌≡◌, inl, inr, ℕ, zero, suc, ◌<◌, ◌≤◌, Bool, true, false, cond, eqb, List, [], ◌∷◌, length, take, get_or, refl, sym, ap, ◌∙◌, subst, arith}
use Rattle.std.proofs.lemmas.Bool.{and_parts, eqb-true, eq-eqb, cases_order}
use Rattle.std.proofs.lemmas.List.Elements.{All-get_or}
use Rattle.lab_base.specs.Lists.{Has}
use Rattle.lab_base.specs.declared.ids.IfaceId.{IfaceId}
use Rattle.lab_base.specs.declared.ids.NodeId.{NodeId}
use Rattle.lab_base.proofs.Members.{all_has}
use Rattle.phys_lab.specs.Labs.{Lab}
use Rattle.virt_topo.specs.declared.wiring.Wiring.{Wiring}
use Rattle.virt_topo.specs.declared.mapping.Mapping.{Mapping}
use Rattle.virt_topo.specs.declared.mapping.Mapped.{Mapped}
use Rattle.lab_model.specs.Uses.{iface_at}
use Rattle.lab_model.specs.Rules.{plug_at, end_node, keeps_f5, loads_on, may_join, no_load, load_at, earlier}
use Rattle.virt_topo.specs.Ends.{end_nodes, end_multiplexed}
use Rattle.virt_topo.specs.declared.wiring.Segment.{Segment}
use Rattle.virt_topo.specs.Loads.{load_of, loads_from, loads_of}
use Rattle.virt_topo.specs.declared.loads.Load.{Load}
use Rattle.virt_topo.proofs.LoadLaws.{length-loads}
use Rattle.lab_model.specs.Wants.{node_name, place_of}
use Rattle.lab_model.specs.Holding.{Suits}
use Rattle.lab_model.proofs.WiringLaws.{All-has}

map_load : {X : Type 0} (f : Load → X) (k : ℕ) (x : Load) (ys : List Load) → map f (replicate k x ++ ys) ≡ replicate k (f x) ++ map f ys
map_load f zero x ys = refl
map_load {X} f (suc k) x ys = ap (λ (l : List X). f x ∷ l) (map_load f k x ys)

-- whether the segments of ends are multiplexed
flags_are : (n : ℕ) (segments : List Segment) → map (λ x. x.multiplexed) (loads_from n segments) ≡ end_multiplexed segments
flags_are n [] = refl
flags_are n (s ∷ segments) =
    map_load (λ x. x.multiplexed) (length s.ends) (load_of n s) (loads_from (n + 1) segments)
    ∙ ap (λ (l : List Bool). replicate (length s.ends) s.multiplexed ++ l) (flags_are (n + 1) segments)

get_map : {X : Type 0} (f : Load → X) (xs : List Load) (e : ℕ) (d : Load) → f (get_or xs e d) ≡ get_or (map f xs) e (f d)
get_map f [] e d = refl
get_map f (x ∷ xs) zero d = refl
get_map f (x ∷ xs) (suc e) d = get_map f xs e d

pub flag_at : (w : Wiring) (e : ℕ) → (load_at w e).multiplexed ≡ get_or (end_multiplexed w.segments) e false
flag_at w e = get_map (λ x. x.multiplexed) (loads_of w) e no_load ∙ ap (λ (l : List Bool). get_or l e false) (flags_are 0 w.segments)

-- what an earlier end puts on an interface
laid : (i : ℕ) (loads : List Load) (plugs : List IfaceId) (e f : ℕ) → e < f → f ≤ length loads → f ≤ length plugs → (get_or plugs e (record { 0 = 0 })).0 ≡ i
    → Has (loads_on i (zip (take f loads) (take f plugs))) (get_or loads e no_load)
laid i [] plugs e f h g k is = absurd (omega (arith, h, g))
laid i (x ∷ xs) [] e f h g k is = absurd (omega (arith, h, k))
laid i (x ∷ xs) (p ∷ ps) e zero h g k is = absurd (omega (arith, h))
laid i (x ∷ xs) (p ∷ ps) zero (suc f) h g k is =
    subst (λ (b : Bool). Has (cond b (x ∷ loads_on i (zip (take f xs) (take f ps))) (loads_on i (zip (take f xs) (take f ps)))) x) (sym (eq-eqb p.0 i is)) (inl refl)
laid i (x ∷ xs) (p ∷ ps) (suc e) (suc f) h g k is = by (eqb p.0 i) (laid i xs ps e f (omega (arith, h)) (omega (arith, g)) (omega (arith, k)) is)
  where
    by : (b : Bool) → Has (loads_on i (zip (take f xs) (take f ps))) (get_or xs e no_load)
        → Has (cond b (x ∷ loads_on i (zip (take f xs) (take f ps))) (loads_on i (zip (take f xs) (take f ps)))) (get_or xs e no_load)
    by true there = inr there
    by false there = there

-- two ends that have one plug are both multiplexed
pub both_multiplexed : (lab : Lab) (w : Wiring) (m : Mapping) (e f : ℕ) → keeps_f5 lab w m f ≡ true → length m.plugs ≡ length (end_nodes w.segments) → e < f → f < length m.plugs
    → (plug_at m e).0 ≡ (plug_at m f).0 → ((load_at w e).multiplexed ≡ true) × ((load_at w f).multiplexed ≡ true)
both_multiplexed lab w m e f ok count before h same =
    let long : length (loads_of w) ≡ length (end_nodes w.segments) = length-loads 0 w.segments in
    let there = laid (plug_at m f).0 (loads_of w) m.plugs e f before (omega (arith, long, count, h)) (omega (arith, h)) same in
    let bears = (and_parts _ _ (and_parts _ _ ok).1).0 in
    let joined = all_has (λ y. may_join y (load_at w f)) (loads_on (plug_at m f).0 (earlier w m f)) (load_at w e) bears there in
    and_parts _ _ (and_parts _ _ joined).1

-- places are nodes of the lab, and plugs are interfaces of it
pub place_in : (lab : Lab) (m : Mapped) → Suits lab m → (p : NodeId × List ℕ) → Has m.mapping.places p → p.0.0 < length lab.nodes
place_in lab m suits p h = All-has (λ p. p.0.0 < length lab.nodes) m.mapping.places p suits.shaped.in_nodes h

pub plug_in : (lab : Lab) (m : Mapped) → Suits lab m → (e : ℕ) → e < length m.mapping.plugs → (plug_at m.mapping e).0 < length lab.ifaces
plug_in lab m suits e h = All-get_or (λ (i : IfaceId). i.0 < length lab.ifaces) m.mapping.plugs e (record { 0 = 0 }) h suits.shaped.in_lab

-- each plug is on its virtual node's node, and that of an end whose segment isn't multiplexed is of no other end
pub plug_node : (lab : Lab) (m : Mapped) → Suits lab m → (e : ℕ) → e < length m.mapping.plugs → node_name lab (iface_at lab (plug_at m.mapping e)).node ≡ place_of lab m (end_node m.wiring e)
plug_node lab m suits e h = ap (λ k. node_name lab (record { 0 = k })) (eqb-true _ _ (and_parts _ _ (suits.plugged e h)).0)

pub plug_alone : (lab : Lab) (m : Mapped) → Suits lab m → (e f : ℕ) → e < length m.mapping.plugs → f < length m.mapping.plugs → (load_at m.wiring e).multiplexed ≡ false
    → (plug_at m.mapping e).0 ≡ (plug_at m.mapping f).0 → e ≡ f
plug_alone lab m suits e f h g alone same = elim (cases_order e f) [
  | inl is ↦ is
  | inr apart ↦ elim apart [
    | inl before ↦ absurd (let both : true ≡ false = sym (both_multiplexed lab m.wiring m.mapping e f (suits.plugged f g) suits.shaped.plugs before g same).0 ∙ alone in cc both)
    | inr after ↦ absurd (let both : true ≡ false = sym (both_multiplexed lab m.wiring m.mapping f e (suits.plugged e h) suits.shaped.plugs after h (sym same)).1 ∙ alone in cc both)
  ]
]
