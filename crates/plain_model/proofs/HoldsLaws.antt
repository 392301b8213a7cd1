-- The test of holding says what holding is.
use Rattle.std.specs.List.{flat_map}
use Rattle.std.proofs.Common.{◌≡◌, ◌*◌, inl, inr, ℕ, ◌<◌, ◌≤◌, Bool, true, false, not, is_none, Option, Some, None, List, [], ◌∷◌, length, refl, sym, ap, ◌∙◌, subst, arith}
use Rattle.std.proofs.lemmas.List.{get_or-replicate}
use Rattle.std.proofs.lemmas.Bool.{cases_Bool, and_parts, and_from, or_cases, or_left, or_right, not-true, not_from_false, both_ways, eqb-true, eq-eqb, leb-true, le-leb, ltb-true, lt-ltb}
use Rattle.lab_base.specs.Lists.{Apart}
use Rattle.lab_base.proofs.Members.{Has-map, Has-mapped, any_has, all_has, Has-get_or, any_from, all_from}
use Rattle.lab_base.specs.declared.ids.IfaceId.{IfaceId}
use Rattle.lab_base.specs.declared.ids.VlanId.{VlanId}
use Rattle.lab_base.proofs.Tests.{none_is}
use Rattle.phys_lab.specs.Labs.{Lab}
use Rattle.phys_lab.specs.Forests.{first_side_of}
use Rattle.virt_topo.specs.declared.wiring.Wiring.{Wiring}
use Rattle.virt_topo.specs.declared.mapping.Mapping.{Mapping}
use Rattle.virt_topo.specs.declared.mapping.Mapped.{Mapped}
use Rattle.virt_topo.specs.declared.experiment.Experiment.{Experiment}
use Rattle.virt_topo.specs.declared.experiment.Phase.TheVariants.{In, Moving}
use Rattle.virt_topo.specs.declared.violation.Broken.{Broken}
use Rattle.virt_topo.specs.declared.violation.Broken.TheVariants as broken
use Rattle.virt_topo.proofs.CableLaws.{limits_of, whole_bound, sound_keeps}
use Rattle.lab_model.specs.Shapes.{Place, node_at, has_name, IsShaped}
use Rattle.lab_model.specs.Feasible.{AllPass, Kept, first_below}
use Rattle.lab_model.specs.Rules.{no_place, place_at, keeps_f1, keeps_f6, keeps_f8}
use Rattle.lab_model.specs.Wants.{node_name}
use Rattle.lab_model.specs.Claims.{Which, Old, New, claimed, claimed_in, Claims, Places, claims_it, claimed_tags}
use Rattle.lab_model.specs.Holding.{Suits, Holding}
use Rattle.lab_model.proofs.WiringLaws.{All-has}
use Rattle.lab_model.proofs.CutLaws.{cut_is_use}
use Rattle.lab_model.proofs.FeasibleLaws.{at_zero, differ_from, suits_from as feasible_suits}
use Rattle.lab_model.proofs.FirstViolation.{passes, fails, none_found}
use Rattle.lab_model.proofs.Claiming.{claims_from, claims_test}
use Rattle.lab_model.proofs.BesideLaws.{differ_test}
use Rattle.plain_model.specs.Holds.{all_pass, is_place, is_plug, is_shaped, unclaimed, suits, fits_in, fits, shares_in, shares, are_apart, has_room, is_in_range, is_holding}

pub pass_from : (n : ℕ) (test : ℕ → Bool) → all_pass n test ≡ true → AllPass n test
pass_from n test e = at_zero n test (none_is (first_below n test) e)

pub pass_test : (n : ℕ) (test : ℕ → Bool) → AllPass n test → all_pass n test ≡ true
pass_test n test all = ap (λ (o : Option ℕ). is_none o) (passes n test all)

pub pass_fails : (n : ℕ) (test : ℕ → Bool) (k : ℕ) (kept : Bool) → k < n → kept ≡ test k → kept ≡ false → AllPass k test → false ≡ all_pass n test
pass_fails n test k kept lt is failed before = sym (ap (λ (o : Option ℕ). is_none o) (fails n test k (record { below = lt; fails = sym is ∙ failed; before = before })))

pub pass_all : (n : ℕ) (test : ℕ → Bool) (k : ℕ) → n ≤ k → AllPass k test → true ≡ all_pass n test
pass_all n test k le before = sym (pass_test n test (λ j lt. before j (omega (arith, lt))))

-- SUITS

pub shaped_from : (lab : Lab) (w : Wiring) (m : Mapping) → is_shaped lab w m ≡ true → IsShaped lab w m
shaped_from lab w m e =
    let a = and_parts _ _ e in
    let b = and_parts _ _ a.1 in
    let c = and_parts _ _ b.1 in
    record {
      places = eqb-true _ _ a.0;
      plugs = eqb-true _ _ b.0;
      in_nodes = λ k d h. ltb-true _ _ (and_parts _ _ (all_has (is_place lab) m.places _ c.0 (Has-get_or m.places k d h))).0;
      in_lab = λ k d h. ltb-true _ _ (all_has (is_plug lab) m.plugs _ c.1 (Has-get_or m.plugs k d h));
      of_node = λ k d h. (and_parts _ _ (all_has (is_place lab) m.places _ c.0 (Has-get_or m.places k d h))).1;
    }

shaped_test : (lab : Lab) (w : Wiring) (m : Mapping) → IsShaped lab w m → is_shaped lab w m ≡ true
shaped_test lab w m is =
    and_from _ _ (eq-eqb _ _ is.places) (and_from _ _ (eq-eqb _ _ is.plugs) (and_from _ _
    (all_from (is_place lab) m.places (λ p h. and_from _ _ (lt-ltb _ _ (All-has (λ (p : Place). p.0.0 < length lab.nodes) m.places p is.in_nodes h)) (All-has (λ (p : Place). has_name (node_at lab p.0).types p.1 ≡ true) m.places p is.of_node h)))
    (all_from (is_plug lab) m.plugs (λ i h. lt-ltb _ _ (All-has (λ (i : IfaceId). i.0 < length lab.ifaces) m.plugs i is.in_lab h)))))

-- the rules of others are kept where nobody claims anything
unclaimed_kept : (lab : Lab) (m : Mapped) → Suits lab m → (rule : Broken) → Kept lab m.wiring m.mapping (keeps_f1 (unclaimed lab) m.mapping) (keeps_f6 lab (unclaimed lab) m.wiring m.mapping) (keeps_f8 (unclaimed lab) m.wiring) rule
unclaimed_kept lab m is broken.F1 = λ v lt. get_or-replicate (length lab.nodes) (place_at m.mapping v).0.0 true false (is.shaped.in_nodes v no_place (omega (arith, lt, is.shaped.places)))
unclaimed_kept lab m is broken.F2 = is.one_kind
unclaimed_kept lab m is broken.F3 = is.asked
unclaimed_kept lab m is broken.F4 = is.fixed
unclaimed_kept lab m is broken.F5 = is.plugged
unclaimed_kept lab m is broken.F6 = λ t lt.
    let left = get_or-replicate (length lab.trunks) t (4096 * 1000000000) 0 lt in
    let same = cut_is_use lab m.wiring m.mapping t is.shaped.in_lab in
    let bound = whole_bound (first_side_of lab.ifaces lab.trunks t) m.wiring m.mapping.plugs (sound_keeps m.wiring is.sound) in
    le-leb _ _ (omega (arith, left, same, bound))
unclaimed_kept lab m is broken.F7 = is.joined
unclaimed_kept lab m is broken.F8 = λ k lt. le-leb _ _ (limits_of m.wiring (sound_keeps m.wiring is.sound)).segments

pub suits_from : (lab : Lab) (m : Mapped) → suits lab m ≡ true → Suits lab m
suits_from lab m e =
    let a = and_parts _ _ e in
    let b = and_parts _ _ a.1 in
    let c = and_parts _ _ b.1 in
    feasible_suits lab m (keeps_f1 (unclaimed lab) m.mapping) (keeps_f6 lab (unclaimed lab) m.wiring m.mapping) (keeps_f8 (unclaimed lab) m.wiring) (none_is _ c.1) (none_is _ a.0) (shaped_from lab m.wiring m.mapping b.0) (eqb-true _ _ c.0)

suits_test : (lab : Lab) (m : Mapped) → Suits lab m → suits lab m ≡ true
suits_test lab m is =
    and_from _ _ (ap (λ o. is_none o) is.sound) (and_from _ _ (shaped_test lab m.wiring m.mapping is.shaped) (and_from _ _ (eq-eqb _ _ is.tags)
    (ap (λ o. is_none o) (none_found lab m.wiring m.mapping (keeps_f1 (unclaimed lab) m.mapping) (keeps_f6 lab (unclaimed lab) m.wiring m.mapping) (keeps_f8 (unclaimed lab) m.wiring) (unclaimed_kept lab m is)))))

pub in_from : (lab : Lab) (o : Option Mapped) (m : Mapped) → fits_in lab o ≡ true → o ≡ Some m → Suits lab m
in_from lab o m e is = suits_from lab m (subst (λ x. fits_in lab x ≡ true) is e)

in_test : (lab : Lab) (o : Option Mapped) → ((m : Mapped) → o ≡ Some m → Suits lab m) → fits_in lab o ≡ true
in_test lab None each = refl
in_test lab (Some m) each = suits_test lab m (each m refl)

pub fits_from : (lab : Lab) (e : Experiment) → fits lab e ≡ true → (which : Which) (m : Mapped) → claimed e which ≡ Some m → Suits lab m
fits_from lab e t Old m is = in_from lab (claimed e Old) m (and_parts _ _ t).0 is
fits_from lab e t New m is = in_from lab (claimed e New) m (and_parts _ _ t).1 is

fits_test : (lab : Lab) (e : Experiment) → ((which : Which) (m : Mapped) → claimed e which ≡ Some m → Suits lab m) → fits lab e ≡ true
fits_test lab e each = and_from _ _ (in_test lab (claimed e Old) (each Old)) (in_test lab (claimed e New) (each New))

pub in_suits : (lab : Lab) (e : Experiment) (mapping : Mapping) (tags : List VlanId) → e.phase ≡ In mapping tags → fits lab e ≡ true → Suits lab (record { wiring = e.wiring; mapping = mapping; tags = tags })
in_suits lab e mapping tags is t = fits_from lab e t New (record { wiring = e.wiring; mapping = mapping; tags = tags }) (ap (λ p. claimed_in e.wiring p New) is)

pub moving_fits : (lab : Lab) (e : Experiment) (old new : Option Mapped) → e.phase ≡ Moving old new → fits lab e ≡ true → (fits_in lab old ≡ true) × (fits_in lab new ≡ true)
moving_fits lab e old new is t =
    let a = and_parts _ _ t in
    (sym (ap (λ p. fits_in lab (claimed_in e.wiring p Old)) is) ∙ a.0, sym (ap (λ p. fits_in lab (claimed_in e.wiring p New)) is) ∙ a.1)

-- CLAIMS

shares_of : (lab : Lab) (f : Experiment) (o : Option Mapped) (m : Mapped) (name : List ℕ) → o ≡ Some m → Places lab m name → Claims lab f name → shares_in lab f o ≡ true
shares_of lab f o m name is placed claims =
    let r = Has-map (λ (p : Place). node_name lab p.0) m.mapping.places name placed in
    subst (λ x. shares_in lab f x ≡ true) (sym is)
    (any_has (λ (p : Place). claims_it lab f (node_name lab p.0)) m.mapping.places r.0 r.1 (subst (λ n. claims_it lab f n ≡ true) (sym r.2) (claims_test lab f name claims)))

shares_test : (lab : Lab) (f e : Experiment) (name : List ℕ) → Claims lab e name → Claims lab f name → shares lab f e ≡ true
shares_test lab f e name c d = by c.which c.is
  where
    by : (which : Which) → claimed e which ≡ Some c.mapped → shares lab f e ≡ true
    by Old is = or_left _ _ (shares_of lab f (claimed e Old) c.mapped name is c.placed d)
    by New is = or_right _ _ (shares_of lab f (claimed e New) c.mapped name is c.placed d)

shared : (lab : Lab) (f : Experiment) (o : Option Mapped) → shares_in lab f o ≡ true → (m : Mapped) × (name : List ℕ) × (o ≡ Some m) × Places lab m name × Claims lab f name
shared lab f None e = absurd (cc e)
shared lab f (Some m) e =
    let r = any_from (λ (p : Place). claims_it lab f (node_name lab p.0)) m.mapping.places e in
    (m, node_name lab r.0.0, refl, Has-mapped (λ (p : Place). node_name lab p.0) m.mapping.places r.0 r.1, claims_from lab f (node_name lab r.0.0) r.2)

shares_from : (lab : Lab) (f e : Experiment) → shares lab f e ≡ true → (name : List ℕ) × Claims lab e name × Claims lab f name
shares_from lab f e t = elim (or_cases _ _ t) [
  | inl old ↦ let r = shared lab f (claimed e Old) old in (r.1, record { which = Old; mapped = r.0; is = r.2; placed = r.3 }, r.4)
  | inr new ↦ let r = shared lab f (claimed e New) new in (r.1, record { which = New; mapped = r.0; is = r.2; placed = r.3 }, r.4)
]

abbrev NoneShared : Lab → Experiment → Experiment → Type 0
NoneShared lab e f = (name : List ℕ) → Claims lab e name → Claims lab f name → ⊥

apart_from : (lab : Lab) (es : List Experiment) → are_apart lab es ≡ true → Apart (NoneShared lab) es
apart_from lab [] t = tt
apart_from lab (e ∷ es) t =
    let a = and_parts _ _ t in
    (λ f h name c d. both_ways (shares lab f e) (not-true _ (all_has (λ f. not (shares lab f e)) es f a.0 h)) (shares_test lab f e name c d), apart_from lab es a.1)

apart_test : (lab : Lab) (es : List Experiment) → Apart (NoneShared lab) es → are_apart lab es ≡ true
apart_test lab [] apart = refl
apart_test lab (e ∷ es) apart = and_from _ _
    (all_from (λ f. not (shares lab f e)) es (λ f h. elim (cases_Bool (shares lab f e)) [
      | inl is ↦ let r = shares_from lab f e is in absurd (apart.0 f h r.0 r.1 r.2)
      | inr not_is ↦ not_from_false _ not_is
    ]))
    (apart_test lab es apart.1)

-- VLAN IDS

range_from : (lab : Lab) (tag : ℕ) → is_in_range lab tag ≡ true → (lab.range.0 ≤ tag) × (tag ≤ lab.range.1)
range_from lab tag e = let a = and_parts _ _ e in (leb-true _ _ a.0, leb-true _ _ a.1)

-- THE TEST IS TRUE exactly where trunks, nodes and VLAN ids hold what is claimed
pub holding_from : (lab : Lab) (es : List Experiment) → is_holding lab es ≡ true → Holding lab es
holding_from lab es e =
    let a = and_parts _ _ e in
    let b = and_parts _ _ a.1 in
    let c = and_parts _ _ b.1 in
    let d = and_parts _ _ c.1 in
    record {
      fits = λ f which m h is. fits_from lab f (all_has (fits lab) es f a.0 h) which m is;
      nodes = apart_from lab es b.0;
      trunks = λ t h. leb-true _ _ (pass_from _ _ c.0 t h);
      tags = differ_from (flat_map claimed_tags es) d.0;
      in_range = λ tag h. range_from lab tag (all_has (is_in_range lab) (flat_map claimed_tags es) tag d.1 h);
    }

pub holding_test : (lab : Lab) (es : List Experiment) → Holding lab es → is_holding lab es ≡ true
holding_test lab es is =
    and_from _ _ (all_from (fits lab) es (λ e h. fits_test lab e (λ which m c. is.fits e which m h c)))
    (and_from _ _ (apart_test lab es is.nodes)
    (and_from _ _ (pass_test (length lab.trunks) (has_room lab es) (λ t h. le-leb _ _ (is.trunks t h)))
    (and_from _ _ (differ_test (flat_map claimed_tags es) is.tags)
    (all_from (is_in_range lab) (flat_map claimed_tags es) (λ tag h. let r = is.in_range tag h in and_from _ _ (le-leb _ _ r.0) (le-leb _ _ r.1))))))
