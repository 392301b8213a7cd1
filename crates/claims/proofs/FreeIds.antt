-- Whether VLAN ids are free, by the table and by the experiments.
use Rattle.std.specs.List.{list_any, list_all}
use Rattle.std.specs.Prelude.{slice_get, is_none}
use Rattle.std.proofs.Common.{◌≡◌, inl, inr, ℕ, ◌+◌, ◌-◌, ◌<◌, ◌&&◌, ◌||◌, ◌==◌, nat_le, not, Bool, true, false, None, List, [], ◌∷◌, length, map, refl, sym, ap, ◌∙◌, arith}
use Rattle.std.proofs.lemmas.Bool.{cases_lt, lt-leb, le-leb}
use Rattle.std.proofs.lemmas.Option.{slice_get-get_or, slice_get_past}
use Rattle.lab_base.specs.Lists.{AllDiffer}
use Rattle.lab_base.specs.declared.ids.VlanId.{VlanId}
use Rattle.phys_lab.specs.Labs.{Lab}
use Rattle.virt_topo.specs.declared.experiment.Experiment.{Experiment}
use Rattle.virt_topo.specs.declared.wiring.Wiring.{Wiring}
use Rattle.lab_model.specs.Beside.{all_differ, are_free_tags}
use Rattle.claims.specs.declared.claim.Entry.{Entry}
use Rattle.claims.specs.declared.tables.Tables.{Tables}
use Rattle.claims.specs.Answered.{are_free_ids}
use Rattle.claims.specs.Counts.{is_unowned, is_free_id}
use Rattle.claims.specs.Experiments.{ClaimsOf}
use Rattle.claims.specs.Held.{Held, has_id, claim_tags}
use Rattle.claims.specs.Kept.{Keeps, held_in}
use Rattle.claims.proofs.Counting.{unowned}
use Rattle.claims.proofs.Matching.{Match}
use Rattle.claims.proofs.OthersLeave.{named_apart, id_by}

-- ---- no two are one
among_tags : (x : VlanId) (tags : List VlanId) → list_any (λ y. y.0 == x.0) tags ≡ list_any (λ y. y == x.0) (map (λ tag. tag.0) tags)
among_tags x [] = refl
among_tags x (y ∷ tags) = ap (λ b. (y.0 == x.0) || b) (among_tags x tags)

pub twice : (tags others : List VlanId) (x : VlanId) → tags ≡ x ∷ others → list_any (λ y. y.0 == x.0) others ≡ true → all_differ (map (λ tag. tag.0) tags) ≡ false
twice tags others x is again = ap (λ l. all_differ (map (λ tag. tag.0) l)) is ∙ ap (λ b. not b && all_differ (map (λ tag. tag.0) others)) (sym (among_tags x others) ∙ again)

pub differ_rest : (tags others : List VlanId) (x : VlanId) → tags ≡ x ∷ others → list_any (λ y. y.0 == x.0) others ≡ false → all_differ (map (λ tag. tag.0) tags) ≡ all_differ (map (λ tag. tag.0) others)
differ_rest tags others x is once = ap (λ l. all_differ (map (λ tag. tag.0) l)) is ∙ ap (λ b. not b && all_differ (map (λ tag. tag.0) others)) (sym (among_tags x others) ∙ once)

-- ---- by the table
no_more : (b c : Bool) → (b && false && c) ≡ false
no_more true c = refl
no_more false c = refl

module _ (range : ℕ × ℕ) (kbps : List ℕ) (es : List Entry) (tables : Tables) (k : Keeps range kbps es tables) where
  pub id_free : (id : ℕ) → is_free_id range.0 tables.ids.items id ≡ (nat_le range.0 id && nat_le id range.1 && not (has_id es id))
  id_free id = elim (cases_lt id range.0) [
    | inl below ↦ let none : nat_le range.0 id ≡ false = lt-leb range.0 id below in ap (λ b. b && is_unowned (slice_get tables.ids.items (id - range.0))) none ∙ sym (ap (λ b. b && nat_le id range.1 && not (has_id es id)) none)
    | inr above ↦ elim (cases_lt range.1 id) [
      | inl beyond ↦
          let far : nat_le id range.1 ≡ false = lt-leb id range.1 beyond in
          let past = slice_get_past tables.ids.items (id - range.0) (omega (arith, beyond, above, k.first_id, k.are_tables.ids)) in
          (λ i. le-leb range.0 id above i && is_unowned (past i)) ∙ sym (ap (λ b. nat_le range.0 id && b && not (has_id es id)) far ∙ no_more (nat_le range.0 id) (not (has_id es id)))
      | inr within ↦
          let in_range : id - range.0 < length tables.ids.items = omega (arith, within, above, k.are_tables.ids) in
          let there = slice_get-get_or tables.ids.items (id - range.0) None in_range in
          let owner = k.are_tables.ids_are (id - range.0) (omega (arith, in_range, k.are_tables.ids)) in
          let same : range.0 + (id - range.0) ≡ id = omega (arith, above) in
          (λ i. le-leb range.0 id above i && is_unowned (there i))
          ∙ (ap is_none owner ∙ unowned claim_tags es (range.0 + (id - range.0)) ∙ ap (λ n. not (has_id es n)) same)
          ∙ sym (λ i. le-leb range.0 id above i && le-leb id range.1 within i && not (has_id es id))
    ]
  ]

  pub ids_free : (tags : List VlanId) → all_differ (map (λ tag. tag.0) tags) ≡ true → list_all (λ tag. is_free_id range.0 tables.ids.items tag.0) tags ≡ are_free_ids (held_in range kbps es tables) tags
  ids_free tags differ =
      (λ i. list_all (λ tag. id_free tag.0 i) tags)
      ∙ sym (ap (λ b. b && list_all (λ tag. nat_le range.0 tag.0 && nat_le tag.0 range.1 && not (has_id es tag.0)) tags) differ)

-- ---- by the experiments
pub free_tags : (lab : Lab) (es : List Experiment) (held : Held) (w : Wiring) (tags : List VlanId) → AllDiffer (map (λ e. e.name) es) → ClaimsOf lab es held → are_free_tags lab es w tags ≡ ((length tags == length w.segments) && are_free_ids held tags)
free_tags lab es held w tags names of_es =
    (λ i. (length tags == length w.segments) && all_differ (map (λ tag. tag.0) tags) && list_all (λ tag. nat_le (sym of_es.range i).0 tag.0 && nat_le tag.0 (sym of_es.range i).1 && not (sym (id_by lab held.entries es tag.0 m) i)) tags)
    ∙ grouped (length tags == length w.segments) (all_differ (map (λ tag. tag.0) tags)) (list_all (λ tag. nat_le held.range.0 tag.0 && nat_le tag.0 held.range.1 && not (has_id held.entries tag.0)) tags)
  where
    m : Match lab held.entries es
    m = record { once = of_es.once; known = of_es.known; claims = of_es.claims; names = named_apart es names }

    grouped : (a b c : Bool) → (a && b && c) ≡ (a && (b && c))
    grouped true b c = refl
    grouped false b c = refl
