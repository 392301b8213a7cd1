-- (a) Uses and joints hang on plugs through their switches alone.
use Rattle.std.proofs.Common.{◌≡◌, ◌-◌, ◌*◌, ◌∙◌, ◌∷◌, [], ℕ, zero, suc, min, Bool, cond, ◌&&◌, List, length, map, drop, get_or, refl, ap, sym, arith}
use Rattle.std.specs.List.{count_by, list_all}
use Rattle.std.proofs.lemmas.List.{length-map}
use Rattle.std.proofs.lemmas.List.Sums.{sum_by-cons}
use Rattle.lab_base.specs.declared.ids.IfaceId.{IfaceId}
use Rattle.phys_lab.specs.Labs.{Lab}
use Rattle.phys_lab.specs.Sides.{joined, on_first_side}
use Rattle.virt_topo.specs.declared.wiring.Segment.{Segment}
use Rattle.virt_topo.specs.declared.wiring.Wiring.{Wiring}
use Rattle.virt_topo.specs.declared.mapping.Mapping.{Mapping}
use Rattle.virt_topo.specs.Cables.{cables}
use Rattle.lab_model.specs.Uses.{switch_of, on_first}
use Rattle.lab_model.specs.Rules.{are_joined, keeps_f7, cable_at, no_cable}
use Rattle.map_anneal.proofs.Switches.{switches_of, SitAlike, AreAlikeAt}
use Rattle.map_anneal.proofs.Shares.{cable_share, share_at}

-- counting over what a map gives
count_map : {X : Type 0} (f : X → ℕ) (p : ℕ → Bool) (xs : List X) → count_by p (map f xs) ≡ count_by (λ x. p (f x)) xs
count_map f p [] = refl
count_map f p (x ∷ xs) =
    let left = sum_by-cons (λ (n : ℕ). cond (p n) 1 0) (f x) (map f xs) in
    let right = sum_by-cons (λ y. cond (p (f y)) 1 0) x xs in
    let rest = count_map f p xs in
    omega (arith, left, right, rest)

all_map : {X : Type 0} (f : X → ℕ) (p : ℕ → Bool) (xs : List X) → list_all p (map f xs) ≡ list_all (λ x. p (f x)) xs
all_map f p [] = refl
all_map f p (x ∷ xs) = ap (λ (b : Bool). p (f x) && b) (all_map f p xs)

all_alike : {X : Type 0} (p q : X → Bool) (xs : List X) → ((x : X) → p x ≡ q x) → list_all p xs ≡ list_all q xs
all_alike p q [] same = refl
all_alike p q (x ∷ xs) same = λ i. same x i && all_alike p q xs same i

-- as many plugs of both are on a side of each trunk
pub on_alike : (lab : Lab) (t : ℕ) (segment : Segment) (plugs others : List IfaceId) → SitAlike lab plugs others
    → on_first lab t (record { segment = segment; plugs = plugs }) ≡ on_first lab t (record { segment = segment; plugs = others })
on_alike lab t segment plugs others alike =
    sym (count_map (switch_of lab) (on_first_side lab.trunks t) plugs)
    ∙ ap (λ (l : List ℕ). count_by (on_first_side lab.trunks t) l) alike
    ∙ count_map (switch_of lab) (on_first_side lab.trunks t) others

pub as_many : (lab : Lab) (plugs others : List IfaceId) → SitAlike lab plugs others → length plugs ≡ length others
as_many lab plugs others alike = sym (length-map plugs (switch_of lab)) ∙ ap (λ (l : List ℕ). length l) alike ∙ length-map others (switch_of lab)

-- A SEGMENT WHOSE PLUGS SIT ON THE SAME SWITCHES uses as much of each trunk
pub share_alike : (lab : Lab) (t : ℕ) (segment : Segment) (plugs others : List IfaceId) → SitAlike lab plugs others
    → cable_share lab t (record { segment = segment; plugs = plugs }) ≡ cable_share lab t (record { segment = segment; plugs = others })
share_alike lab t segment plugs others alike =
    λ i. min (on_alike lab t segment plugs others alike i) (as_many lab plugs others alike i - on_alike lab t segment plugs others alike i) * segment.kbps

-- F7 of it is the same
pub joined_alike : (lab : Lab) (plugs others : List IfaceId) → SitAlike lab plugs others → are_joined lab plugs ≡ are_joined lab others
joined_alike lab plugs others alike = by_switches plugs ∙ ap (λ (l : List ℕ). list_all (λ a. list_all (λ b. joined lab.trunks a b) l) l) alike ∙ sym (by_switches others)
  where
    by_switches : (ps : List IfaceId) → are_joined lab ps ≡ list_all (λ a. list_all (λ b. joined lab.trunks a b) (switches_of lab ps)) (switches_of lab ps)
    by_switches ps =
        all_alike _ _ ps (λ i. sym (all_map (switch_of lab) (λ b. joined lab.trunks (switch_of lab i) b) ps))
        ∙ sym (all_map (switch_of lab) (λ a. list_all (λ b. joined lab.trunks a b) (switches_of lab ps)) ps)

-- the cable of a segment is that segment's, whatever the plugs
pub of_segment : (segments : List Segment) (plugs others : List IfaceId) (s : ℕ) → (get_or (cables segments plugs) s no_cable).segment ≡ (get_or (cables segments others) s no_cable).segment
of_segment [] plugs others s = refl
of_segment (x ∷ segments) plugs others zero = refl
of_segment (x ∷ segments) plugs others (suc s) = of_segment segments (drop (length x.ends) plugs) (drop (length x.ends) others) s

pub share_at_alike : (lab : Lab) (w : Wiring) (m n : Mapping) (t s : ℕ) → AreAlikeAt lab w m n s → share_at lab w m t s ≡ share_at lab w n t s
share_at_alike lab w m n t s alike =
    ap (λ (x : Segment). cable_share lab t (record { segment = x; plugs = (cable_at w m s).plugs })) (of_segment w.segments m.plugs n.plugs s)
    ∙ share_alike lab t (cable_at w n s).segment (cable_at w m s).plugs (cable_at w n s).plugs alike

pub f7_alike : (lab : Lab) (w : Wiring) (m n : Mapping) (s : ℕ) → AreAlikeAt lab w m n s → keeps_f7 lab w m s ≡ keeps_f7 lab w n s
f7_alike lab w m n s alike = joined_alike lab (cable_at w m s).plugs (cable_at w n s).plugs alike
