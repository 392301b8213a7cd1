-- A mapping that is held beside other experiments can be taken beside them.
use Rattle.std.specs.List.{flat_map, list_any, sum_by}
use Rattle.std.proofs.Common.{◌≡◌, ◌≢◌, ◌⊎◌, inl, inr, ℕ, ◌+◌, ◌<◌, ◌≤◌, true, false, not, ◌&&◌, ◌==◌, Option, Some, None, is_none, List, [], ◌∷◌, ◌++◌, map, length, nat_le, refl, sym, ap, ◌∙◌, subst, arith, length-append}
use Rattle.std.proofs.lemmas.Bool.{eq-eqb, eqb-true, le-leb}
use Rattle.std.proofs.lemmas.List.{length-map}
use Rattle.std.proofs.lemmas.List.Sums.{sum_by-append}
use Rattle.std.proofs.lemmas.Grind.{flat_map-append}
use Rattle.lab_base.specs.Lists.{Has, AllDiffer}
use Rattle.lab_base.proofs.Members.{Has-append, Has-left, Has-mapped, Has-flat_map, Apart-left, Has-get_or, none_of, all_from}
use Rattle.lab_base.specs.declared.ids.VlanId.{VlanId}
use Rattle.phys_lab.specs.Labs.{Lab}
use Rattle.phys_lab.specs.Sides.{trunk_at}
use Rattle.virt_topo.specs.declared.violation.Broken.{Broken}
use Rattle.virt_topo.specs.declared.violation.Broken.TheVariants as broken
use Rattle.virt_topo.specs.declared.mapping.Mapped.{Mapped}
use Rattle.virt_topo.specs.declared.experiment.Experiment.{Experiment}
use Rattle.lab_model.specs.Uses.{use_of}
use Rattle.lab_model.specs.Wants.{node_name}
use Rattle.lab_model.specs.Rules.{no_place, place_at}
use Rattle.lab_model.specs.Claims.{Which, Old, New, claimed, Places, claims_it, Claims, claimed_tags, claimed_use, tags_of}
use Rattle.lab_model.specs.Holding.{Holding, Suits}
use Rattle.lab_model.specs.Beside.{segments_in, claimed_segments, ids_of, is_unclaimed, has_room, has_ids, violation_beside, are_free_tags}
use Rattle.lab_model.specs.Feasible.{Kept}
use Rattle.lab_model.proofs.FirstViolation.{none_found}
use Rattle.lab_model.proofs.FeasibleLaws.{TakesOne}
use Rattle.lab_model.proofs.BesideLaws.{differ_test}
use Rattle.lab_model.proofs.Claiming.{claims_from}
use Rattle.records_model.specs.Labs.{others, can_take}
use Rattle.claims.proofs.Ranges.{rest_of_range}

-- ---- the mapping
module _ (lab : Lab) (done : List Experiment) (own : Experiment) (m : Mapped) (takes : TakesOne lab done [] (Some m)) where
  suits : Suits lab m
  suits = takes.fits m refl

  unclaimed_at : (v : ℕ) → v < length m.wiring.nodes → is_unclaimed lab done m.mapping v ≡ true
  unclaimed_at v within =
      let name = node_name lab (place_at m.mapping v).0 in
      let placed : Places lab m name = Has-mapped (λ p. node_name lab p.0) m.mapping.places (place_at m.mapping v) (Has-get_or m.mapping.places v no_place (omega (arith, within, suits.shaped.places))) in
      ap not (none_of (λ e. claims_it lab e name) done (λ y h test. takes.nodes m y name refl (inl h) placed (claims_from lab y name test)))

  room_at : (k : ℕ) → k < length lab.trunks → has_room lab done m.wiring m.mapping k ≡ true
  room_at k within =
      let room = takes.trunks k within in
      le-leb (use_of lab m.wiring m.mapping k + sum_by (claimed_use lab k) done) (trunk_at lab.trunks k).kbps (omega (arith, room))

  module _ (ids : length m.wiring.segments + sum_by claimed_segments (own ∷ done) ≤ ids_of lab) where
    kept : (rule : Broken) → Kept lab m.wiring m.mapping (is_unclaimed lab done m.mapping) (has_room lab done m.wiring m.mapping) (has_ids lab done own m.wiring) rule
    kept broken.F1 = unclaimed_at
    kept broken.F2 = suits.one_kind
    kept broken.F3 = suits.asked
    kept broken.F4 = suits.fixed
    kept broken.F5 = suits.plugged
    kept broken.F6 = room_at
    kept broken.F7 = suits.joined
    kept broken.F8 = λ k h. le-leb (length m.wiring.segments + sum_by claimed_segments (own ∷ done)) (ids_of lab) ids

    feasible : violation_beside lab done own m.wiring m.mapping ≡ None
    feasible = none_found lab m.wiring m.mapping _ _ _ kept

  free_tag : (es : List Experiment) → ((y : Experiment) (v : ℕ) → Has es y → Has (tags_of (Some m)) v → Has (claimed_tags y) v → ⊥) → (tag : VlanId) → Has m.tags tag
      → (nat_le lab.range.0 tag.0 && nat_le tag.0 lab.range.1 && not (list_any (λ u. u == tag.0) (flat_map claimed_tags es))) ≡ true
  free_tag es apart tag h =
      let mine : Has (tags_of (Some m)) tag.0 = Has-mapped (λ x. x.0) m.tags tag h in
      let range = takes.in_range tag.0 mine in
      let none : list_any (λ u. u == tag.0) (flat_map claimed_tags es) ≡ false = none_of (λ u. u == tag.0) (flat_map claimed_tags es) (λ u g is.
      let r = Has-flat_map claimed_tags es u g in apart r.0 tag.0 r.1 mine (subst (λ x. Has (claimed_tags r.0) x) (eqb-true u tag.0 is) r.2)) in
      (λ i. le-leb lab.range.0 tag.0 range.0 i && le-leb tag.0 lab.range.1 range.1 i && not (none i))

  free_tags : (es : List Experiment) → ((y : Experiment) (v : ℕ) → Has es y → Has (tags_of (Some m)) v → Has (claimed_tags y) v → ⊥) → are_free_tags lab es m.wiring m.tags ≡ true
  free_tags es apart =
      (λ i. eq-eqb (length m.tags) (length m.wiring.segments) suits.tags i
      && differ_test (map (λ tag. tag.0) m.tags) takes.differ i
      && all_from (λ tag. nat_le lab.range.0 tag.0 && nat_le tag.0 lab.range.1 && not (list_any (λ u. u == tag.0) (flat_map claimed_tags es))) m.tags (free_tag es apart) i)

  -- IT CAN BE TAKEN
  pub taken : others own.name (done ++ own ∷ []) ≡ done → ((v : ℕ) → Has (tags_of (Some m)) v → Has (claimed_tags own) v → ⊥) → length m.wiring.segments + sum_by claimed_segments (own ∷ done) ≤ ids_of lab
      → can_take lab (done ++ own ∷ []) own m ≡ true
  taken rest apart ids =
      (λ i. is_none ((ap (λ l. violation_beside lab l own m.wiring m.mapping) rest ∙ feasible ids) i)
      && free_tags (done ++ own ∷ []) (λ y v h mine theirs. by y v mine theirs (Has-append done (own ∷ []) y h)) i)
    where
      by : (y : Experiment) (v : ℕ) → Has (tags_of (Some m)) v → Has (claimed_tags y) v → Has done y ⊎ Has (own ∷ []) y → ⊥
      by y v mine theirs (inl h) = takes.free v y mine (inl h) theirs
      by y v mine theirs (inr (inl is)) = apart v mine (subst (λ x. Has (claimed_tags x) v) (sym is) theirs)
      by y v mine theirs (inr (inr none)) = absurd none

-- ---- as many VLAN ids as are claimed
one_count : (lab : Lab) (o : Option Mapped) → ((m : Mapped) → o ≡ Some m → Suits lab m) → length (tags_of o) ≡ segments_in o
one_count lab None fits = refl
one_count lab (Some m) fits = length-map m.tags (λ tag. tag.0) ∙ (fits m refl).tags

all_count : (lab : Lab) (es : List Experiment) → ((e : Experiment) (which : Which) (m : Mapped) → Has es e → claimed e which ≡ Some m → Suits lab m) → length (flat_map claimed_tags es) ≡ sum_by claimed_segments es
all_count lab [] fits = refl
all_count lab (e ∷ es) fits =
    let old = one_count lab (claimed e Old) (λ m is. fits e Old m (inl refl) is) in
    let new = one_count lab (claimed e New) (λ m is. fits e New m (inl refl) is) in
    omega (arith, length-append (claimed_tags e) (flat_map claimed_tags es), length-append (tags_of (claimed e Old)) (tags_of (claimed e New)), old, new, all_count lab es (λ x which m h is. fits x which m (inr h) is), sum_by-append claimed_segments (e ∷ []) es)

pub ids_fit : (lab : Lab) (es : List Experiment) → Holding lab es → sum_by claimed_segments es ≤ ids_of lab
ids_fit lab es holding =
    let tags = flat_map claimed_tags es in
    let count = rest_of_range tags lab.range.0 (ids_of lab) holding.tags (λ x h. let r = holding.in_range x h in (r.0, omega (arith, r.0, r.1))) in
    omega (arith, count, all_count lab es (λ e which m h is. holding.fits e which m h is))

-- what the first experiments hold
pub holding_first : (lab : Lab) (xs ys : List Experiment) → Holding lab (xs ++ ys) → Holding lab xs
holding_first lab xs ys holding = record {
  fits = λ e which m h is. holding.fits e which m (Has-left xs ys e h) is;
  nodes = Apart-left (λ e f. (name : List ℕ) → Claims lab e name → Claims lab f name → ⊥) xs ys holding.nodes;
  trunks = λ k h. omega (arith, holding.trunks k h, sum_by-append (claimed_use lab k) xs ys);
  tags = Apart-left (λ x y. x ≢ y) (flat_map claimed_tags xs) (flat_map claimed_tags ys) (subst AllDiffer (flat_map-append claimed_tags xs ys) holding.tags);
  in_range = λ v h. holding.in_range v (subst (λ l. Has l v) (sym (flat_map-append claimed_tags xs ys)) (Has-left (flat_map claimed_tags xs) (flat_map claimed_tags ys) v h));
}
