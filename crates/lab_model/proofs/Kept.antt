-- Placed and kept nodes, as tests and as facts.
use Rattle.std.specs.List.{list_any}
use Rattle.std.specs.Cmp.Lexicographic.{pointwise}
use Rattle.std.specs.Str.{bytes_eq}
use Rattle.std.proofs.Common.{◌≡◌, inl, inr, ℕ, ◌<◌, true, Some, List, [], ◌∷◌, length, map, slice_get, refl, subst, arith}
use Rattle.std.proofs.lemmas.Bool.{and_parts, or_cases, or_left, or_right, eqb-true, false≢true}
use Rattle.std.proofs.lemmas.Slice.Eq.{bytes_eq-Decides}
use Rattle.lab_base.specs.Lists.{Has}
use Rattle.lab_base.proofs.Members.{Has-mapped, Has-map, Has-slice_get, Has-get_or}
use Rattle.lab_base.specs.declared.ids.NodeId.{NodeId}
use Rattle.lab_base.specs.declared.rates.Rates.{Rates}
use Rattle.phys_lab.specs.Labs.{Lab}
use Rattle.virt_topo.specs.Ends.{end_nodes, pipe_from}
use Rattle.virt_topo.specs.declared.mapping.Mapped.{Mapped}
use Rattle.plant.specs.Worlds.{PipeRow}
use Rattle.lab_model.specs.Wants.{node_name, pipes_on}
use Rattle.lab_model.specs.Rules.{no_place}
use Rattle.lab_model.specs.Claims.{places_it, Places}
use Rattle.lab_model.specs.Kept.{is_kept, same_pipe, same_rates}
use Rattle.lab_model.specs.Holding.{Suits}
use Rattle.lab_model.specs.Courses.{node_names}
use Rattle.lab_model.proofs.SuitLaws.{place_in}
use Rattle.lab_model.proofs.WiringLaws.{sound_ends, sound_pipes}
use Rattle.lab_model.proofs.OneSided.{end_number-at, wanted_pipe}

any_placed : (lab : Lab) (ps : List (NodeId × List ℕ)) (name : List ℕ) → Has (map (λ p. node_name lab p.0) ps) name → list_any (λ p. bytes_eq (node_name lab p.0) name) ps ≡ true
any_placed lab [] name h = absurd h
any_placed lab (p ∷ ps) name (inl e) = or_left _ _ ((bytes_eq-Decides (node_name lab p.0) name).1 e)
any_placed lab (p ∷ ps) name (inr h) = or_right _ _ (any_placed lab ps name h)

placed_any : (lab : Lab) (ps : List (NodeId × List ℕ)) (name : List ℕ) → list_any (λ p. bytes_eq (node_name lab p.0) name) ps ≡ true → Has (map (λ p. node_name lab p.0) ps) name
placed_any lab [] name h = absurd (false≢true h)
placed_any lab (p ∷ ps) name h = elim (or_cases _ _ h) [ inl is ↦ inl ((bytes_eq-Decides (node_name lab p.0) name).0 is) | inr more ↦ inr (placed_any lab ps name more) ]

pub places_it_from : (lab : Lab) (m : Mapped) (name : List ℕ) → Places lab m name → places_it lab m name ≡ true
places_it_from lab m name placed = any_placed lab m.mapping.places name placed

pub Places_from : (lab : Lab) (m : Mapped) (name : List ℕ) → places_it lab m name ≡ true → Places lab m name
Places_from lab m name is = placed_any lab m.mapping.places name is

-- a placed node is one of the lab
pub placed_listed : (lab : Lab) (m : Mapped) (name : List ℕ) → Suits lab m → Places lab m name → Has (node_names lab) name
placed_listed lab m name suits placed =
    let p = Has-map (λ p. node_name lab p.0) m.mapping.places name placed in
    subst (λ n. Has (node_names lab) n) p.2 (Has-mapped (λ n. n.name) lab.nodes _ (Has-get_or lab.nodes p.0.0.0 _ (place_in lab m suits p.0 p.1)))

-- a node where a pipe is wanted is placed
pub pipe_placed : (lab : Lab) (m : Mapped) (name : List ℕ) (k : ℕ) (row : PipeRow) → Suits lab m → slice_get (pipes_on lab m name) k ≡ Some row → Places lab m name
pipe_placed lab m name k row suits wants =
    let w = wanted_pipe lab m name row (Has-slice_get _ k row wants) in
    let sound = sound_pipes m.wiring suits.sound w.from w.in_wiring in
    let node : w.from.node < length m.wiring.nodes = subst (λ v. v < length m.wiring.nodes) (end_number-at (end_nodes m.wiring.segments) w.from.node w.from.from sound.from_end) (sound_ends m.wiring suits.sound (pipe_from m.wiring w.from) sound.from_end) in
    let within : w.from.node < length m.mapping.places = omega (arith, node, suits.shaped.places) in
    subst (λ n. Places lab m n) w.placed (Has-mapped (λ p. node_name lab p.0) m.mapping.places _ (Has-get_or m.mapping.places w.from.node no_place within))

pub same_rates-true : (a b : Rates) → same_rates a b ≡ true → a ≡ b
same_rates-true a b h =
    let x = and_parts _ _ h in
    let y = and_parts _ _ x.0 in
    let k = eqb-true a.kbps b.kbps y.0 in
    let m = eqb-true a.micros b.micros y.1 in
    let p = eqb-true a.ppm b.ppm x.1 in
    λ i. record { kbps = k i; micros = m i; ppm = p i }

pub same_pipe-true : (a b : PipeRow) → same_pipe a b ≡ true → a ≡ b
same_pipe-true a b h =
    let x = and_parts _ _ h in
    let y = and_parts _ _ x.0 in
    let z = and_parts _ _ y.0 in
    let f = (bytes_eq-Decides a.from b.from).0 z.0 in
    let t = (bytes_eq-Decides a.to b.to).0 z.1 in
    let r = same_rates-true a.there b.there y.1 in
    let s = same_rates-true a.back b.back x.1 in
    λ i. record { from = f i; to = t i; there = r i; back = s i }

same_pipes-true : (xs ys : List PipeRow) → pointwise same_pipe xs ys ≡ true → xs ≡ ys
same_pipes-true [] [] h = refl
same_pipes-true [] (y ∷ ys) h = absurd (false≢true h)
same_pipes-true (x ∷ xs) [] h = absurd (false≢true h)
same_pipes-true (x ∷ xs) (y ∷ ys) h = let p = and_parts _ _ h in let a = same_pipe-true x y p.0 in let b = same_pipes-true xs ys p.1 in (λ i. a i ∷ b i)

-- of a kept node both mappings want the same pipes
pub kept_pipes : (lab : Lab) (a b : Mapped) (name : List ℕ) → is_kept lab (Some a) (Some b) name ≡ true → pipes_on lab a name ≡ pipes_on lab b name
kept_pipes lab a b name h = same_pipes-true _ _ (and_parts _ _ h).1
