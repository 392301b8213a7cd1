-- Known candidates of a virtual node that were tried.
use Rattle.std.proofs.Common.{◌≡◌, ◌<◌, ◌≤◌, ◌∙◌, inl, inr, ℕ, Bool, List, [], length, get_or, true, false, cond, Option, Some, None, Contains, ap, sym, subst, get_or-set_same, get_or-set_other}
use Rattle.std.specs.Prelude.{IsTrue, ◌↔◌}
use Rattle.std.proofs.Math.ListN.{set}
use Rattle.std.proofs.lemmas.Bool.{cases_eq}
use Rattle.std.proofs.lemmas.List.{length-set, get_or_default}
use Rattle.std.proofs.lemmas.Option.{same_Some}
use Rattle.phys_lab.specs.Labs.{Lab}
use Rattle.virt_topo.specs.declared.wiring.Wiring.{Wiring}
use Rattle.virt_topo.specs.declared.mapping.Mapping.{Mapping}
use Rattle.lab_model.specs.Shapes.{Place}
use Rattle.lab_model.specs.Rules.{no_place}
use Rattle.lab_model.specs.Feasible.{AllPass}
use Rattle.node_maps.specs.Moved.{has_class_type, KeepsPlaces, may_share}
use Rattle.node_maps.proofs.Assembled.{parts_of_map}
use Rattle.node_maps.proofs.MapLaws.{mapped_is}
use Rattle.map_anneal.specs.Sought.{Sought, candidates_at, mapped, moved, price, IsNoCheaper, NoMove}
use Rattle.map_anneal.specs.RuledOut.{AreRows, IsNoLess, IsRow}
use Rattle.map_anneal.proofs.RowLaws.{no_cheaper}
use Rattle.map_anneal.proofs.Undone.{mapping_is}

abbrev pub candidate_at : Sought → ℕ → ℕ → Place
candidate_at s v number = get_or (candidates_at s v) number no_place

-- it is among the candidates
pub candidate_among : (s : Sought) (v number : ℕ) → number < length (candidates_at s v) → Contains (candidates_at s v) (candidate_at s v number)
candidate_among s v number lt = (number, lt, get_or_default (candidates_at s v) number (candidate_at s v number) no_place lt)

-- a candidate that is known is no cheaper
pub known_no_cheaper : (s : Sought) (m : Mapping) (v number : ℕ) (row : List Bool) → IsRow s m v row → number < length row → get_or row number false ≡ true
    → IsNoCheaper s m (moved s m v (candidate_at s v number))
known_no_cheaper s m v number row is lt noted = no_cheaper s m (set m.places v (candidate_at s v number)) (is.known number lt noted)

-- a candidate that came to nothing
pub tried_no_less : (s : Sought) (m at : Mapping) (v number below : ℕ) → at ≡ m → below ≡ price s m → IsNoLess s below (set at.places v (candidate_at s v number))
    → IsNoLess s (price s m) (set m.places v (candidate_at s v number))
tried_no_less s m at v number below same cost least =
    subst (λ (n : ℕ). IsNoLess s n (set m.places v (candidate_at s v number))) cost
    (subst (λ (y : Mapping). IsNoLess s below (set y.places v (candidate_at s v number))) same least)

pub tried_no_cheaper : (s : Sought) (m at : Mapping) (v number below : ℕ) → at ≡ m → below ≡ price s m
    → ((other : Mapping) → moved s at v (candidate_at s v number) ≡ Some other → below ≤ price s other) → IsNoCheaper s m (moved s m v (candidate_at s v number))
tried_no_cheaper s m at v number below same cost over other found =
    subst (λ (n : ℕ). n ≤ price s other) cost (over other (ap (λ (y : Mapping). moved s y v (candidate_at s v number)) same ∙ found))

-- where no candidate by its number is cheaper, no move is
pub no_move : (s : Sought) (m : Mapping) (v : ℕ) → ((k : ℕ) → k < length (candidates_at s v) → IsNoCheaper s m (moved s m v (candidate_at s v k))) → NoMove s m v
no_move s m v all place has =
    subst (λ (p : Place). IsNoCheaper s m (moved s m v p)) (get_or_default (candidates_at s v) has.0 no_place place has.1 ∙ has.2) (all has.0 has.1)

-- rows of which one is another
pub rows_noted : (s : Sought) (m : Mapping) (v : ℕ) (rows : List (List Bool)) (new : List Bool) → AreRows s m rows → v < length rows → IsRow s m v new → AreRows s m (set rows v new)
rows_noted s m v rows new are lt is = record {
  one_each = length-set rows v new ∙ are.one_each;
  each = λ u u_lt. elim (cases_eq u v) [
    | inl same ↦ subst (λ (k : ℕ). IsRow s m k (get_or (set rows v new) k [])) (sym same) (subst (IsRow s m v) (sym (get_or-set_same rows v new [] lt)) is)
    | inr apart ↦ subst (IsRow s m u) (sym (get_or-set_other rows v u new [] apart)) (are.each u u_lt)
  ];
}

-- where the map of these places costs no less, none with other plugs does
pub commit_no_less : (s : Sought) (below : ℕ) (places : List Place) (m : Mapping) → mapped s places ≡ Some m → below ≤ price s m → IsNoLess s below places
commit_no_less s below places m is least plugs kept =
    let given = (parts_of_map s.lab s.free s.wiring places m is).given in
    let at = (mapped_is s.lab s.free s.wiring places m is).same_places in
    let same : plugs ≡ m.plugs = same_Some plugs m.plugs (sym kept.given ∙ given) in
    subst (λ (y : Mapping). below ≤ price s y) (mapping_is m (record { places = places; plugs = plugs }) at (sym same)) least

-- what is committed is the map
pub served_is : (kept : Bool) (o : Option Mapping) (m : Mapping) → kept ≡ true → o ≡ cond kept (Some m) None → o ≡ Some m
served_is kept o m is found = subst (λ (b : Bool). o ≡ cond b (Some m) None) is found

-- where virtual nodes may not stay on two nodes, no plugs make a map of these places
pub never_kept : (lab : Lab) (w : Wiring) (places : List Place) (a b : ℕ) (stays : Bool) → (IsTrue stays ↔ KeepsPlaces lab w places a b) → stays ≡ false → a < length lab.nodes → b < length lab.nodes
    → AllPass (length lab.nodes) (may_share lab w places) → AllPass (length w.nodes) (has_class_type w places) → ⊥
never_kept lab w places a b stays test off a_lt b_lt shared typed =
    let both : false ≡ true = sym off ∙ test.1 (record { first = shared a a_lt; second = shared b b_lt; typed = typed }) in
    absurd (cc both)
