-- Moves and exchanges taken back, and what isn't cheaper.
use Rattle.std.proofs.Common.{◌≡◌, ◌≢◌, ◌≤◌, ◌<◌, ◌∙◌, ◌∷◌, [], ℕ, zero, suc, List, length, get_or, Option, Some, refl, ap, sym, subst, arith, true, ◌==◌}
use Rattle.std.specs.Prelude.{◌&&◌}
use Rattle.std.proofs.lemmas.Bool.{and_parts, eqb-true}
use Rattle.std.proofs.Math.ListN.{set}
use Rattle.std.proofs.lemmas.List.{set-get_or, set_comm}
use Rattle.lab_base.specs.Names.{same_name}
use Rattle.lab_base.proofs.Bytes.{bytes_same}
use Rattle.virt_topo.specs.declared.mapping.Mapping.{Mapping}
use Rattle.lab_model.specs.Shapes.{Place}
use Rattle.lab_model.specs.Rules.{no_place, place_at}
use Rattle.map_state.specs.declared.state.MapState.{MapState}
use Rattle.map_state.specs.declared.search.Search.{Search}
use Rattle.map_state.specs.Hosted.{placed_at}
use Rattle.map_state.specs.States.{IsFeasibleState, Was}
use Rattle.map_anneal.specs.Sought.{Sought, price, IsNoCheaper}
use Rattle.map_state.proofs.Alikes.{alike_moved, alike_exchanged}
use Rattle.map_state.proofs.ServedLaws.{place_is}

set_twice : (places : List Place) (k : ℕ) (a b : Place) → set (set places k a) k b ≡ set places k b
set_twice [] k a b = refl
set_twice (x ∷ places) zero a b = refl
set_twice (x ∷ places) (suc k) a b = ap (λ (l : List Place). x ∷ l) (set_twice places k a b)

-- a mapping with these places and plugs
pub mapping_is : (m n : Mapping) → m.places ≡ n.places → m.plugs ≡ n.plugs → m ≡ n
mapping_is m n places plugs = (λ j. record { places = places j; plugs = plugs j })

-- a virtual node that went back
pub moved_back : (m : Mapping) (v : ℕ) (p : Place) → placed_at (placed_at m v p) v (get_or m.places v no_place) ≡ m
moved_back m v p = ap (λ (l : List Place). record { places = l; plugs = m.plugs }) (set_twice m.places v p (get_or m.places v no_place) ∙ set-get_or m.places v no_place)

-- a virtual node that goes where it is
pub stays : (places : List Place) (v : ℕ) (p q : Place) → (p.0.0 == q.0.0 && same_name p.1 q.1) ≡ true → q ≡ get_or places v no_place → set places v p ≡ places
stays places v p q is at =
    let both = and_parts _ _ is in
    let same : p ≡ q = place_is p q (eqb-true p.0.0 q.0.0 both.0) (bytes_same p.1 q.1 both.1) in
    ap (set places v) (same ∙ at) ∙ set-get_or places v no_place

abbrev pub exchanged_at : Mapping → ℕ → ℕ → Mapping
exchanged_at m v u = placed_at (placed_at m v (place_at m u)) u (place_at m v)

-- two that went to each other's places
pub exchanged_by : (m n : Mapping) (v u : ℕ) (p q : Place) → p ≡ place_at m v → q ≡ place_at m u → n ≡ placed_at (placed_at m v q) u p → n ≡ exchanged_at m v u
exchanged_by m n v u p q one other is = is ∙ (λ j. placed_at (placed_at m v (other j)) u (one j))

-- two that were exchanged, each back at its place
pub exchanged_back : (m n o : Mapping) (v u : ℕ) (p q : Place) → v ≢ u → p ≡ place_at m v → q ≡ place_at m u → n ≡ exchanged_at m v u → o ≡ placed_at (placed_at n v p) u q → o ≡ m
exchanged_back m n o v u p q apart one other there back =
    let k = place_at m v in
    let l = place_at m u in
    let places : set (set (set (set m.places v l) u k) v k) u l ≡ m.places =
    ap (λ (ps : List Place). set ps u l) (set_comm (set m.places v l) u v k k (λ e. apart (sym e)))
    ∙ set_twice (set (set m.places v l) v k) u k l
    ∙ ap (λ (ps : List Place). set ps u l) (set_twice m.places v l k ∙ set-get_or m.places v no_place)
    ∙ set-get_or m.places u no_place in
    back ∙ (λ j. placed_at (placed_at (there j) v (one j)) u (other j)) ∙ ap (λ (ps : List Place). record { places = ps; plugs = m.plugs }) places

-- a map that costs no less than the one at hand isn't cheaper
pub not_cheaper : (s : Sought) (m : Mapping) (o : Option Mapping) (cost below : ℕ) → below ≡ cost → cost ≡ price s m → ((x : Mapping) → o ≡ Some x → below ≤ price s x) → IsNoCheaper s m o
not_cheaper s m o cost below same is over = λ x found. let le = over x found in omega (arith, le, same, is)

-- the state before a virtual node went, or two were exchanged
pub was_moved : (x : Search) (b : MapState) (m : Mapping) (v : ℕ) (p : Place) (n : ℕ) → IsFeasibleState x b → v < length b.mapping.places → m ≡ placed_at b.mapping v p → n ≡ (place_at b.mapping v).0.0
    → Was x m.places m.plugs p.0.0 n b.mapping.places
was_moved x b m v p n state lt is from =
    subst (λ (y : Mapping). Was x y.places y.plugs p.0.0 n b.mapping.places) (sym is)
    (subst (λ (k : ℕ). Was x (set b.mapping.places v p) b.mapping.plugs p.0.0 k b.mapping.places) (sym from)
    (record { mapped = state.mapped; choice = state.state.choice; alike = alike_moved b.mapping.places v p lt }))

pub was_exchanged : (x : Search) (b : MapState) (m : Mapping) (v u k n : ℕ) → IsFeasibleState x b → v < length b.mapping.places → u < length b.mapping.places → m ≡ exchanged_at b.mapping v u
    → k ≡ (place_at b.mapping v).0.0 → n ≡ (place_at b.mapping u).0.0 → Was x m.places m.plugs k n b.mapping.places
was_exchanged x b m v u k n state v_lt u_lt is one other =
    subst (λ (y : Mapping). Was x y.places y.plugs k n b.mapping.places) (sym is)
    (subst (λ (i : ℕ). Was x (exchanged_at b.mapping v u).places b.mapping.plugs i n b.mapping.places) (sym one)
    (subst (λ (i : ℕ). Was x (exchanged_at b.mapping v u).places b.mapping.plugs (place_at b.mapping v).0.0 i b.mapping.places) (sym other)
    (record { mapped = state.mapped; choice = state.state.choice; alike = alike_exchanged b.mapping.places v u v_lt u_lt })))
