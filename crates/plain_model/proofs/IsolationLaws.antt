-- The test of isolation says what isolated is.
use Rattle.std.specs.List.{list_any}
use Rattle.std.proofs.Common.{◌≡◌, inl, inr, Bool, true, not, ◌||◌, Option, Some, None, List, ◌++◌, refl, sym, ap, ◌∙◌, subst}
use Rattle.std.proofs.lemmas.Bool.{cases_Bool, and_parts, and_from, or_cases, or_left, or_right, not-true, not_from_false, both_ways}
use Rattle.lab_base.specs.Lists.{Has}
use Rattle.lab_base.proofs.Members.{Has-append, Has-left, Has-right, Has-map, Has-mapped, Has-flat_map, Has-flat_mapped, any_has, all_has, any_from, all_from}
use Rattle.phys_lab.specs.Labs.{Lab}
use Rattle.virt_topo.specs.declared.mapping.Mapped.{Mapped}
use Rattle.virt_topo.specs.declared.experiment.Experiment.{Experiment}
use Rattle.plant.specs.Worlds.{Row, World}
use Rattle.lab_model.specs.Wants.{Owned, rows_of}
use Rattle.lab_model.specs.Claims.{Which, Old, New, claimed}
use Rattle.lab_model.specs.Courses.{rows_from}
use Rattle.lab_model.specs.Isolated.{Owner, Owns, IsRow, Isolated, IsolatedBeside}
use Rattle.lab_model.proofs.BesideLaws.{from_beside, to_beside}
use Rattle.plain_model.specs.Isolation.{Wanted, PipeEnds, wanted_by, wanted_in, same_row, same_owner, is_next, stands, agree, all_agree, is_isolated, IsSeen}
use Rattle.plain_model.proofs.Neighbours.{row_is, row_same, owner_is, owner_same, next_is, next_same}

-- the wanted rows are those with an owner
from_some : (lab : Lab) (o : Option Mapped) (x : Owned) → Has (rows_from lab o) x → (m : Mapped) × (o ≡ Some m) × Has (rows_of lab m) x
from_some lab None x h = absurd h
from_some lab (Some m) x h = (m, refl, h)

pub wanted_owns : (lab : Lab) (es : List Experiment) (a : Wanted) → Has (wanted_in lab es) a → Owns lab es a.row a.owner
wanted_owns lab es a h =
    let e = Has-flat_map (λ e. wanted_by lab e Old ++ wanted_by lab e New) es a h in
    elim (Has-append (wanted_by lab e.0 Old) (wanted_by lab e.0 New) a e.2) [
      | inl x ↦ one e.0 Old e.1 x
      | inr x ↦ one e.0 New e.1 x
    ]
  where
    one : (e : Experiment) (which : Which) → Has es e → Has (wanted_by lab e which) a → Owns lab es a.row a.owner
    one e which in_es h =
        let o = Has-map (λ o. record { row = o.row; owner = record { exp = e.name; which = which; link = o.owner } }) (rows_from lab (claimed e which)) a h in
        let m = from_some lab (claimed e which) o.0 o.1 in
        subst (λ x. Owns lab es x.row x.owner) o.2 (record { by = e; listed = in_es; name_is = refl; wants = record { mapped = m.0; is = m.1; row_of = m.2 } })

pub owns_wanted : (lab : Lab) (es : List Experiment) (p : Row) (a : Owner) → Owns lab es p a → Has (wanted_in lab es) (record { row = p; owner = a })
owns_wanted lab es p a owns =
    Has-flat_mapped (λ e. wanted_by lab e Old ++ wanted_by lab e New) es owns.by (record { row = p; owner = a }) owns.listed (either a.which refl)
  where
    there : (which : Which) → which ≡ a.which → Has (wanted_by lab owns.by which) (record { row = p; owner = a })
    there which same =
        let name = owns.name_is in
        subst (λ o. Has (wanted_by lab owns.by which) (record { row = p; owner = o })) (λ i. record { exp = name i; which = same i; link = a.link })
        (Has-mapped (λ o. record { row = o.row; owner = record { exp = owns.by.name; which = which; link = o.owner } }) (rows_from lab (claimed owns.by which)) (record { row = p; owner = a.link })
        (subst (λ o. Has (rows_from lab o) (record { row = p; owner = a.link })) (sym (ap (λ x. claimed owns.by x) same ∙ owns.wants.is)) owns.wants.row_of))

    either : (which : Which) → which ≡ a.which → Has (wanted_by lab owns.by Old ++ wanted_by lab owns.by New) (record { row = p; owner = a })
    either Old same = Has-left (wanted_by lab owns.by Old) (wanted_by lab owns.by New) _ (there Old same)
    either New same = Has-right (wanted_by lab owns.by Old) (wanted_by lab owns.by New) _ (there New same)

module _ (lab : Lab) (es : List Experiment) (w : World) (rows : List Row) (pipes : List PipeEnds) (seen : IsSeen w rows pipes) where
  stands_row : (p : Row) → IsRow w p → stands rows p ≡ true
  stands_row p at = any_has (same_row p) rows p (seen.rows_there p at) (row_same p p refl)

  row_stands : (p : Row) → stands rows p ≡ true → IsRow w p
  row_stands p e = let r = any_from (same_row p) rows e in seen.rows_stand p (subst (λ x. Has rows x) (sym (row_is p r.0 r.2)) r.1)

  -- an or of a test that is false
  second : (a b : Bool) → a ≡ true → (not a || b) ≡ true → b ≡ true
  second a b is e = elim (or_cases (not a) b e) [ inl x ↦ absurd (both_ways a (not-true a x) is) | inr y ↦ y ]

  agreed : is_isolated lab (wanted_in lab es) rows pipes ≡ true → (p q : Row) (a b : Owner) → IsRow w p → IsRow w q → Owns lab es p a → Owns lab es q b → agree lab pipes (record { row = p; owner = a }) (record { row = q; owner = b }) ≡ true
  agreed e p q a b at there of_p of_q =
      let parts = and_parts _ _ e in
      let x : Wanted = record { row = p; owner = a } in
      let y : Wanted = record { row = q; owner = b } in
      let of_x = second (stands rows p) _ (stands_row p at) (all_has (all_agree lab (wanted_in lab es) rows pipes) (wanted_in lab es) x parts.1 (owns_wanted lab es p a of_p)) in
      second (stands rows q) _ (stands_row q there) (all_has (λ (c : Wanted). not (stands rows c.row) || agree lab pipes x c) (wanted_in lab es) y of_x (owns_wanted lab es q b of_q))

  owners_one : (a b : Owner) (t : Bool) → t ≡ true → (same_owner a b || not t) ≡ true → a ≡ b
  owners_one a b t is e = elim (or_cases (same_owner a b) (not t) e) [ inl x ↦ owner_is a b x | inr y ↦ absurd (both_ways t (not-true t y) is) ]

  beside_from : is_isolated lab (wanted_in lab es) rows pipes ≡ true → IsolatedBeside lab es w
  beside_from e = record {
    owned = λ p at.
        let r = any_from (λ (a : Wanted). same_row p a.row) (wanted_in lab es) (all_has (λ p. list_any (λ (a : Wanted). same_row p a.row) (wanted_in lab es)) rows p (and_parts _ _ e).0 (seen.rows_there p at)) in
        (r.0.owner, subst (λ x. Owns lab es x r.0.owner) (sym (row_is p r.0.row r.2)) (wanted_owns lab es r.0 r.1));
    one = λ p a b at of_p of_q. owners_one a b _ (or_left _ _ (row_same p p refl)) (agreed e p p a b at at of_p of_q);
    beside = λ p q a b at there next of_p of_q. owners_one a b _ (or_right _ _ (next_same lab w rows pipes seen p q next)) (agreed e p q a b at there of_p of_q);
  }

  unless : (t b : Bool) → (t ≡ true → b ≡ true) → (not t || b) ≡ true
  unless t b then_so = elim (cases_Bool t) [ inl is ↦ or_right _ _ (then_so is) | inr not_is ↦ or_left _ _ (not_from_false t not_is) ]

  unless_not : (a t : Bool) → (t ≡ true → a ≡ true) → (a || not t) ≡ true
  unless_not a t then_so = elim (cases_Bool t) [ inl is ↦ or_left _ _ (then_so is) | inr not_is ↦ or_right _ _ (not_from_false t not_is) ]

  agree_from : IsolatedBeside lab es w → (a b : Wanted) → Has (wanted_in lab es) a → Has (wanted_in lab es) b → IsRow w a.row → IsRow w b.row → agree lab pipes a b ≡ true
  agree_from is a b in_a in_b at there =
      unless_not (same_owner a.owner b.owner) (same_row a.row b.row || is_next lab pipes a.row b.row) (λ t. owner_same a.owner b.owner (elim (or_cases _ _ t) [
        | inl same ↦ is.one a.row a.owner b.owner at (wanted_owns lab es a in_a) (subst (λ x. Owns lab es x b.owner) (sym (row_is a.row b.row same)) (wanted_owns lab es b in_b))
        | inr next ↦ is.beside a.row b.row a.owner b.owner at there (next_is lab w rows pipes seen a.row b.row next) (wanted_owns lab es a in_a) (wanted_owns lab es b in_b)
      ]))

  test_from : IsolatedBeside lab es w → is_isolated lab (wanted_in lab es) rows pipes ≡ true
  test_from is = and_from _ _
      (all_from (λ p. list_any (λ (a : Wanted). same_row p a.row) (wanted_in lab es)) rows (λ p h.
      let mine = is.owned p (seen.rows_stand p h) in
      any_has (λ (a : Wanted). same_row p a.row) (wanted_in lab es) (record { row = p; owner = mine.0 }) (owns_wanted lab es p mine.0 mine.1) (row_same p p refl)))
      (all_from (all_agree lab (wanted_in lab es) rows pipes) (wanted_in lab es) (λ a in_a. unless (stands rows a.row) _ (λ at.
      all_from (λ (b : Wanted). not (stands rows b.row) || agree lab pipes a b) (wanted_in lab es) (λ b in_b. unless (stands rows b.row) _ (λ there.
      agree_from is a b in_a in_b (row_stands a.row at) (row_stands b.row there))))))

  -- THE TEST IS TRUE exactly where the world is isolated
  pub isolated_from : is_isolated lab (wanted_in lab es) rows pipes ≡ true → Isolated lab es w
  isolated_from e = from_beside lab es w (beside_from e)

  pub isolated_test : Isolated lab es w → is_isolated lab (wanted_in lab es) rows pipes ≡ true
  isolated_test is = test_from (to_beside lab es w is)
