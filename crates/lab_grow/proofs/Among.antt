-- Rows among others, by the test and as a relation.
use Rattle.std.specs.List.{list_any}
use Rattle.std.specs.Str.{bytes_eq}
use Rattle.std.proofs.Common.{◌≡◌, ◌↔◌, inl, inr, Bool, true, false, ◌&&◌, ◌||◌, eqb, List, [], ◌∷◌, refl, sym, ap, ◌∙◌}
use Rattle.std.proofs.lemmas.Bool.{and_parts, and_from, cases_Bool, eqb-true, eq-eqb}
use Rattle.std.proofs.lemmas.Slice.Eq.{bytes_eq-Decides}
use Rattle.lab_base.specs.Lists.{Has}
use Rattle.phys_lab.specs.Labs.{Lab}
use Rattle.plant.specs.Worlds.{Row}
use Rattle.virt_topo.specs.declared.wiring.Wiring.{Wiring}
use Rattle.virt_topo.specs.declared.experiment.Phase.{Phase}
use Rattle.virt_topo.specs.declared.experiment.Phase.TheVariants.{Out, In, Moving}
use Rattle.records_model.specs.Labs.{Texts}
use Rattle.lab_grow.specs.Carried.{IsSamePhase}
use Rattle.lab_grow.specs.Named.{rows_in, StaysIn}
use Rattle.lab_grow.specs.Rows.{is_row, is_among, are_among}

same_row : (a b : Row) → is_row a b ≡ true → a ≡ b
same_row a b h =
    let parts = and_parts (bytes_eq a.switch b.switch) (eqb a.port b.port && eqb a.vlan b.vlan) h in
    let more = and_parts (eqb a.port b.port) (eqb a.vlan b.vlan) parts.1 in
    let switch = (bytes_eq-Decides a.switch b.switch).0 parts.0 in
    let port = eqb-true a.port b.port more.0 in
    let vlan = eqb-true a.vlan b.vlan more.1 in
    λ i. record { switch = switch i; port = port i; vlan = vlan i }

row_same : (a b : Row) → a ≡ b → is_row a b ≡ true
row_same a b is =
    and_from _ _ ((bytes_eq-Decides a.switch b.switch).1 (ap (λ (r : Row). r.switch) is))
    (and_from _ _ (eq-eqb a.port b.port (ap (λ (r : Row). r.port) is)) (eq-eqb a.vlan b.vlan (ap (λ (r : Row). r.vlan) is)))

or_right : (a b : Bool) → b ≡ true → (a || b) ≡ true
or_right true b h = refl
or_right false b h = h

among_has : (rows : List Row) (row : Row) → is_among rows row ≡ true → Has rows row
among_has [] row h = absurd (cc h)
among_has (r ∷ rows) row h = elim (cases_Bool (is_row row r)) [
  | inl same ↦ inl (sym (same_row row r same))
  | inr other ↦ inr (among_has rows row (sym (ap (λ (b : Bool). b || list_any (is_row row) rows) other) ∙ h))
]

has_among : (rows : List Row) (row : Row) → Has rows row → is_among rows row ≡ true
has_among [] row h = absurd h
has_among (r ∷ rows) row (inl is) = ap (λ (b : Bool). b || list_any (is_row row) rows) (row_same row r (sym is))
has_among (r ∷ rows) row (inr more) = or_right (is_row row r) (list_any (is_row row) rows) (has_among rows row more)

all_have : (rows others : List Row) → are_among rows others ≡ true → (row : Row) → Has rows row → Has others row
all_have [] others h row here = absurd here
all_have (r ∷ rows) others h row (inl is) = among_has others row (ap (is_among others) (sym is) ∙ (and_parts _ _ h).0)
all_have (r ∷ rows) others h row (inr more) = all_have rows others (and_parts _ _ h).1 row more

have_all : (rows others : List Row) → ((row : Row) → Has rows row → Has others row) → are_among rows others ≡ true
have_all [] others h = refl
have_all (r ∷ rows) others h = and_from _ _ (has_among others r (h r (inl refl))) (have_all rows others (λ row more. h row (inr more)))

abbrev AreSameRows : List Row → List Row → Bool
AreSameRows rows others = are_among rows others && are_among others rows

-- the test is exact
pub stays_exactly : (t : Texts) (old new : Lab) (w v : Wiring) (p q : Phase) → IsSamePhase t old new w p q
    → (AreSameRows (rows_in old w p) (rows_in new v q) ≡ true) ↔ StaysIn old new w v p q
stays_exactly t old new w v Out Out same = (λ h. tt, λ h. refl)
stays_exactly t old new w v (In m tags) (In n ids) same = (
  λ h. let both = and_parts _ _ h in record { there = all_have (rows_in old w (In m tags)) (rows_in new v (In n ids)) both.0; here = all_have (rows_in new v (In n ids)) (rows_in old w (In m tags)) both.1 },
  λ stays. and_from _ _ (have_all (rows_in old w (In m tags)) (rows_in new v (In n ids)) stays.there) (have_all (rows_in new v (In n ids)) (rows_in old w (In m tags)) stays.here),
)
stays_exactly t old new w v Out (In n ids) same = absurd same
stays_exactly t old new w v Out (Moving a b) same = absurd same
stays_exactly t old new w v (In m tags) Out same = absurd same
stays_exactly t old new w v (In m tags) (Moving a b) same = absurd same
stays_exactly t old new w v (Moving a b) q same = absurd same

pub stays_by : (t : Texts) (old new : Lab) (w v : Wiring) (p q : Phase) (rows others : List Row) (told : Bool) → rows ≡ rows_in old w p → others ≡ rows_in new v q
    → IsSamePhase t old new w p q → told ≡ (are_among rows others && are_among others rows) → (told ≡ true) ↔ StaysIn old new w v p q
stays_by t old new w v p q rows others told first second same is_told =
    let is : told ≡ AreSameRows (rows_in old w p) (rows_in new v q) = is_told ∙ (λ i. AreSameRows (first i) (second i)) in
    let exact = stays_exactly t old new w v p q same in
    (λ h. exact.0 (sym is ∙ h), λ s. is ∙ exact.1 s)
