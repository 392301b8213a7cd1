-- The facts that follow from the check of a mapping.
use Rattle.std.specs.List.{flat_map, list_any, sum_by}
use Rattle.std.proofs.Common.{◌≡◌, ◌≢◌, ◌⊎◌, inl, inr, ℕ, zero, suc, max, ◌+◌, ◌<◌, ◌≤◌, Bool, true, false, not, ◌&&◌, ◌||◌, ◌==◌, Option, Some, None, List, [], ◌∷◌, ◌++◌, map, length, if◌then◌else◌, refl, sym, ap, ◌∙◌, subst, arith, zero-add, nat_le}
use Rattle.std.proofs.lemmas.Bool.{cases_Bool, and_parts, not-true, or_left, or_right, leb-true, eqb-true, eq-eqb, both_ways, cases_eq, cond-true, cond-false}
use Rattle.std.proofs.lemmas.List.Sums.{sum_by-append}
use Rattle.std.proofs.lemmas.Option.{same_Some}
use Rattle.lab_base.specs.Lists.{Has, AllDiffer}
use Rattle.lab_base.proofs.Members.{Has-append, Has-left, Has-right, Has-map, Has-flat_mapped, Apart-left, Apart-right, flat-each, Has-either, Apart-append, any_has, Has-place, all_has}
use Rattle.lab_base.specs.declared.ids.VlanId.{VlanId}
use Rattle.phys_lab.specs.Sides.{trunk_at}
use Rattle.phys_lab.specs.Labs.{Lab}
use Rattle.virt_topo.specs.declared.violation.Broken.{Broken}
use Rattle.virt_topo.specs.declared.violation.Subject.{Subject}
use Rattle.virt_topo.specs.declared.wiring.Wiring.{Wiring}
use Rattle.virt_topo.specs.declared.mapping.Mapping.{Mapping}
use Rattle.virt_topo.specs.declared.mapping.Mapped.{Mapped}
use Rattle.virt_topo.specs.declared.experiment.Experiment.{Experiment}
use Rattle.virt_topo.specs.Soundness.{IsSound}
use Rattle.lab_model.specs.Wants.{node_name}
use Rattle.lab_model.specs.Rules.{no_place, place_at, keeps_f2, keeps_f3, keeps_f4, keeps_f5, keeps_f7}
use Rattle.lab_model.specs.Claims.{Which, Old, New, claimed, Places, Claims, claimed_tags, claimed_use, tags_of, use_in, is_placed}
use Rattle.lab_model.specs.Holding.{Suits, Holding}
use Rattle.lab_model.specs.Shapes.{IsShaped}
use Rattle.lab_model.specs.Beside.{is_claimed, violation_beside, all_differ, are_free_tags}
use Rattle.lab_model.specs.Feasible.{Kept, first_violation, or_later, first_bad}
use Rattle.lab_model.proofs.Records.{apart_mid, flat_mid, Has_other}
use Rattle.lab_model.proofs.HoldingLaws.{Takes}
use Rattle.virt_topo.specs.declared.violation.Broken.TheVariants as broken
use Rattle.lab_model.proofs.Claiming.{is_placed_from}

-- THE FIRST THAT FAILS: none where all pass
pub all_pass : (n from : ℕ) (test : ℕ → Bool) → first_bad n from test ≡ None → (k : ℕ) → from ≤ k → k < from + n → test k ≡ true
all_pass zero from test e k low high = absurd (omega arith)
all_pass (suc n) from test e k low high = elim (cases_Bool (test from)) [
  | inl is ↦ elim (cases_eq k from) [
    | inl here ↦ ap test here ∙ is
    | inr apart ↦ all_pass n (from + 1) test (sym (cond-true (test from) (first_bad n (from + 1) test) (Some from) is) ∙ e) k (omega (arith, apart)) (omega arith)
  ]
  | inr is ↦ let none : ◌≡◌ {A = Option ℕ} (Some from) None = sym (cond-false (test from) (first_bad n (from + 1) test) (Some from) is) ∙ e in absurd (cc none)
]

-- and else one that fails, all before it passing
pub first_fails : (n from : ℕ) (test : ℕ → Bool) (k : ℕ) → first_bad n from test ≡ Some k → (from ≤ k) × (k < from + n) × (test k ≡ false) × ((j : ℕ) → from ≤ j → j < k → test j ≡ true)
first_fails zero from test k e = absurd (cc e)
first_fails (suc n) from test k e = elim (cases_Bool (test from)) [
  | inl is ↦
      let r = first_fails n (from + 1) test k (sym (cond-true (test from) (first_bad n (from + 1) test) (Some from) is) ∙ e) in (
        omega (arith, r.0),
        omega (arith, r.1),
        r.2,
        λ j low high. elim (cases_eq j from) [
          | inl here ↦ ap test here ∙ is
          | inr apart ↦ r.3 j (omega (arith, apart)) high
        ],
      )
  | inr is ↦
      let same : ◌≡◌ {A = Option ℕ} (Some from) (Some k) = sym (cond-false (test from) (first_bad n (from + 1) test) (Some from) is) ∙ e in
      let here : from ≡ k = cc same in
      (omega (arith, here), omega (arith, here), subst (λ x. test x ≡ false) here is, λ j low high. absurd (omega (arith, here)))
]

none_found : (o : Option ℕ) (as_one : ℕ → Broken × Subject) (later : Option (Broken × Subject)) → or_later o as_one later ≡ None → (o ≡ None) × (later ≡ None)
none_found None as_one later e = (refl, e)
none_found (Some n) as_one later e = absurd (cc e)

none_else : {X : Type 0} (t : Bool) (x : X) → ◌≡◌ {A = Option X} (if t then None else Some x) None → t ≡ true
none_else true x e = refl
none_else false x e = absurd (cc e)

pub at_zero : (n : ℕ) (test : ℕ → Bool) → first_bad n 0 test ≡ None → (k : ℕ) → k < n → test k ≡ true
at_zero n test e k h = all_pass n 0 test e k (omega arith) (omega (arith, zero-add n))

-- WHERE THERE IS NO VIOLATION all rules are kept
pub kept_from : (lab : Lab) (w : Wiring) (m : Mapping) (f1 f6 : ℕ → Bool) (f8 : Bool) → first_violation lab w m f1 f6 f8 ≡ None → (rule : Broken) → Kept lab w m f1 f6 f8 rule
kept_from lab w m f1 f6 f8 e rule =
    let r1 = none_found _ _ _ e in
    let r2 = none_found _ _ _ r1.1 in
    let r3 = none_found _ _ _ r2.1 in
    let r4 = none_found _ _ _ r3.1 in
    let r5 = none_found _ _ _ r4.1 in
    let r6 = none_found _ _ _ r5.1 in
    let r7 = none_found _ _ _ r6.1 in
    each (at_zero (length w.nodes) f1 r1.0) (at_zero (length lab.nodes) (keeps_f2 lab w m) r2.0) (at_zero (length w.nodes) (keeps_f3 lab w m) r3.0) (at_zero (length w.nodes) (keeps_f4 lab w m) r4.0)
    (at_zero (length m.plugs) (keeps_f5 lab w m) r5.0) (at_zero (length lab.trunks) f6 r6.0) (at_zero (length w.segments) (keeps_f7 lab w m) r7.0) (λ k h. none_else f8 _ r7.1) rule
  where
    each : Kept lab w m f1 f6 f8 broken.F1 → Kept lab w m f1 f6 f8 broken.F2 → Kept lab w m f1 f6 f8 broken.F3 → Kept lab w m f1 f6 f8 broken.F4 → Kept lab w m f1 f6 f8 broken.F5 → Kept lab w m f1 f6 f8 broken.F6 → Kept lab w m f1 f6 f8 broken.F7 → Kept lab w m f1 f6 f8 broken.F8
        → (rule : Broken) → Kept lab w m f1 f6 f8 rule
    each k1 k2 k3 k4 k5 k6 k7 k8 broken.F1 = k1
    each k1 k2 k3 k4 k5 k6 k7 k8 broken.F2 = k2
    each k1 k2 k3 k4 k5 k6 k7 k8 broken.F3 = k3
    each k1 k2 k3 k4 k5 k6 k7 k8 broken.F4 = k4
    each k1 k2 k3 k4 k5 k6 k7 k8 broken.F5 = k5
    each k1 k2 k3 k4 k5 k6 k7 k8 broken.F6 = k6
    each k1 k2 k3 k4 k5 k6 k7 k8 broken.F7 = k7
    each k1 k2 k3 k4 k5 k6 k7 k8 broken.F8 = k8

-- the test of numbers that differ
pub differ_from : (xs : List ℕ) → all_differ xs ≡ true → AllDiffer xs
differ_from [] e = tt
differ_from (x ∷ xs) e =
    let both = and_parts (not (list_any (λ y. y == x) xs)) (all_differ xs) e in
    (λ y h same. both_ways (list_any (λ y. y == x) xs) (not-true _ both.0) (any_has (λ y. y == x) xs y h (eq-eqb y x (sym same))), differ_from xs both.1)

claimed_test : (lab : Lab) (e : Experiment) (name : List ℕ) (which : Which) (m : Mapped) → claimed e which ≡ Some m → Places lab m name → (is_placed lab (claimed e Old) name || is_placed lab (claimed e New) name) ≡ true
claimed_test lab e name Old m is placed = or_left _ _ (is_placed_from lab _ m name is placed)
claimed_test lab e name New m is placed = or_right _ _ (is_placed_from lab _ m name is placed)

-- a node that no claim has, by the test
pub unclaimed : (lab : Lab) (es : List Experiment) (y : Experiment) (name : List ℕ) → is_claimed lab es name ≡ false → Has es y → Claims lab y name → ⊥
unclaimed lab es y name none h claims = both_ways _ none (any_has (λ e. is_placed lab (claimed e Old) name || is_placed lab (claimed e New) name) es y h (claimed_test lab y name claims.which claims.mapped claims.is claims.placed))

-- FROM THE CHECK TO THE MAPPING
pub suits_from : (lab : Lab) (n : Mapped) (f1 f6 : ℕ → Bool) (f8 : Bool) → first_violation lab n.wiring n.mapping f1 f6 f8 ≡ None → IsSound n.wiring → IsShaped lab n.wiring n.mapping → length n.tags ≡ length n.wiring.segments → Suits lab n
suits_from lab n f1 f6 f8 none sound shaped tags =
    let ok = kept_from lab n.wiring n.mapping f1 f6 f8 none in
    record { sound = sound; shaped = shaped; tags = tags; one_kind = ok broken.F2; asked = ok broken.F3; fixed = ok broken.F4; plugged = ok broken.F5; joined = ok broken.F7 }

-- what one claimed mapping, if there is one, takes beside the others
pub record TakesOne (lab : Lab) (a b : List Experiment) (o : Option Mapped) : Type 0 where
  pub fits : (m : Mapped) → o ≡ Some m → Suits lab m
  pub nodes : (m : Mapped) (y : Experiment) (name : List ℕ) → o ≡ Some m → Has a y ⊎ Has b y → Places lab m name → Claims lab y name → ⊥
  pub trunks : (t : ℕ) → t < length lab.trunks → use_in lab t o + (sum_by (claimed_use lab t) a + sum_by (claimed_use lab t) b) ≤ (trunk_at lab.trunks t).kbps
  pub differ : AllDiffer (tags_of o)
  pub free : (v : ℕ) (y : Experiment) → Has (tags_of o) v → Has a y ⊎ Has b y → Has (claimed_tags y) v → ⊥
  pub in_range : (v : ℕ) → Has (tags_of o) v → (lab.range.0 ≤ v) × (v ≤ lab.range.1)

pub sum_mid : (g : Experiment → ℕ) (a b : List Experiment) (e : Experiment) → sum_by g (a ++ e ∷ b) ≡ sum_by g a + (g e + sum_by g b)
sum_mid g a b e = sum_by-append g a (e ∷ b) ∙ ap (λ n. sum_by g a + n) (sum_by-append g (e ∷ []) b ∙ ap (λ n. n + sum_by g b) (zero-add (g e)))

pub takes_nothing : (lab : Lab) (a b : List Experiment) (e : Experiment) → Holding lab (a ++ e ∷ b) → TakesOne lab a b None
takes_nothing lab a b e holding = record {
  fits = λ m is. absurd (cc is);
  nodes = λ m y name is h p c. absurd (cc is);
  trunks = λ t h. let room = holding.trunks t h in omega (arith, sum_mid (claimed_use lab t) a b e, room);
  differ = tt;
  free = λ v y h. absurd h;
  in_range = λ v h. absurd h;
}

-- a mapping that was claimed already
pub takes_claimed : (lab : Lab) (a b : List Experiment) (e : Experiment) (which : Which) → Holding lab (a ++ e ∷ b) → TakesOne lab a b (claimed e which)
takes_claimed lab a b e which holding =
    let mid : Has (a ++ e ∷ b) e = Has-right a (e ∷ b) e (inl refl) in
    record {
      fits = λ m is. holding.fits e which m mid is;
      nodes = λ m y name is h placed claims. elim (apart_mid (λ x z. (n : List ℕ) → Claims lab x n → Claims lab z n → ⊥) a b e y holding.nodes h) [
        | inl r ↦ r name (record { which = which; mapped = m; is = is; placed = placed }) claims
        | inr r ↦ r name claims (record { which = which; mapped = m; is = is; placed = placed })
      ];
      trunks = λ t h. let room = holding.trunks t h in let less = uses t which in omega (arith, sum_mid (claimed_use lab t) a b e, room, less);
      differ = tags_differ which (flat-each claimed_tags (a ++ e ∷ b) e holding.tags mid);
      free = λ v y h o k. flat_mid claimed_tags a b e y v holding.tags o (tag_in which v h) k;
      in_range = λ v h. holding.in_range v (Has-flat_mapped claimed_tags (a ++ e ∷ b) e v mid (tag_in which v h));
    }
  where
    uses : (t : ℕ) (which : Which) → use_in lab t (claimed e which) ≤ claimed_use lab t e
    uses t Old = omega arith
    uses t New = omega arith

    tag_in : (which : Which) (v : ℕ) → Has (tags_of (claimed e which)) v → Has (claimed_tags e) v
    tag_in Old v h = Has-left (tags_of (claimed e Old)) (tags_of (claimed e New)) v h
    tag_in New v h = Has-right (tags_of (claimed e Old)) (tags_of (claimed e New)) v h

    tags_differ : (which : Which) → AllDiffer (claimed_tags e) → AllDiffer (tags_of (claimed e which))
    tags_differ Old d = Apart-left (λ x y. x ≢ y) (tags_of (claimed e Old)) (tags_of (claimed e New)) d
    tags_differ New d = Apart-right (λ x y. x ≢ y) (tags_of (claimed e Old)) (tags_of (claimed e New)) d

-- a mapping that passed the check, with free tags
pub takes_new : (lab : Lab) (a b : List Experiment) (own e : Experiment) (n : Mapped) → violation_beside lab (a ++ b) own n.wiring n.mapping ≡ None → are_free_tags lab (a ++ e ∷ b) n.wiring n.tags ≡ true → IsSound n.wiring → IsShaped lab n.wiring n.mapping → TakesOne lab a b (Some n)
takes_new lab a b own e n none free wired shaped =
    let ok = kept_from lab n.wiring n.mapping _ _ _ none in
    let parts = and_parts _ _ free in
    let sized = and_parts _ _ parts.0 in
    let each : (tag : VlanId) → Has n.tags tag → (nat_le lab.range.0 tag.0 && nat_le tag.0 lab.range.1 && not (list_any (λ u. u == tag.0) (flat_map claimed_tags (a ++ e ∷ b)))) ≡ true = λ tag h. all_has _ n.tags tag parts.1 h in
    record {
      fits = λ m is. let same : n ≡ m = same_Some n m is in subst (λ x. Suits lab x) same (suits_from lab n _ _ _ none wired shaped (eqb-true _ _ sized.0));
      nodes = λ m y name is h placed claims.
          let same : m ≡ n = sym (same_Some n m is) in
          let there : Has (map (λ p. node_name lab p.0) n.mapping.places) name = subst (λ x. Places lab x name) same placed in
          let p = Has-map (λ p. node_name lab p.0) n.mapping.places name there in
          let at = Has-place n.mapping.places p.0 no_place p.1 in
          let in_nodes : at.0 < length n.wiring.nodes = omega (arith, at.1, shaped.places) in
          let is_name : node_name lab (place_at n.mapping at.0).0 ≡ name = ap (λ q. node_name lab q.0) at.2 ∙ p.2 in
          unclaimed lab (a ++ b) y name (ap (λ x. is_claimed lab (a ++ b) x) (sym is_name) ∙ not-true _ (ok broken.F1 at.0 in_nodes)) (Has-either a b y h) claims;
      trunks = λ t h. let room = leb-true _ _ (ok broken.F6 t h) in omega (arith, room, sum_by-append (claimed_use lab t) a b);
      differ = differ_from (map (λ tag. tag.0) n.tags) sized.1;
      free = λ v y h o k.
          let tag = Has-map (λ tag. tag.0) n.tags v h in
          let in_all = Has-flat_mapped claimed_tags (a ++ e ∷ b) y v (Has_other a b e y o) k in
          both_ways _ (not-true _ (and_parts _ _ (each tag.0 tag.1)).1) (any_has (λ u. u == tag.0.0) (flat_map claimed_tags (a ++ e ∷ b)) v in_all (eq-eqb _ _ (sym tag.2)));
      in_range = λ v h.
          let tag = Has-map (λ tag. tag.0) n.tags v h in
          let low = leb-true _ _ (and_parts _ _ (and_parts _ _ (each tag.0 tag.1)).0).0 in
          let high = leb-true _ _ (and_parts _ _ (and_parts _ _ (each tag.0 tag.1)).0).1 in
          (subst (λ x. lab.range.0 ≤ x) tag.2 low, subst (λ x. x ≤ lab.range.1) tag.2 high);
    }

-- the tags of a new mapping are not those of one that is claimed
pub tags_apart : (lab : Lab) (es : List Experiment) (e : Experiment) (n : Mapped) → Has es e → are_free_tags lab es n.wiring n.tags ≡ true → (u v : ℕ) → Has (claimed_tags e) u → Has (tags_of (Some n)) v → u ≢ v
tags_apart lab es e n h free u v of_e of_n same =
    let tag = Has-map (λ tag. tag.0) n.tags v of_n in
    let each : (nat_le lab.range.0 tag.0.0 && nat_le tag.0.0 lab.range.1 && not (list_any (λ u. u == tag.0.0) (flat_map claimed_tags es))) ≡ true = all_has _ n.tags tag.0 (and_parts _ _ free).1 tag.1 in
    both_ways _ (not-true _ (and_parts _ _ each).1) (any_has (λ u. u == tag.0.0) (flat_map claimed_tags es) u (Has-flat_mapped claimed_tags es e u h of_e) (eq-eqb _ _ (same ∙ sym tag.2)))

-- both claims of an experiment together
pub takes_both : (lab : Lab) (a b : List Experiment) (f : Experiment) (o p : Option Mapped) → claimed f Old ≡ o → claimed f New ≡ p → TakesOne lab a b o → TakesOne lab a b p → ((u v : ℕ) → Has (tags_of o) u → Has (tags_of p) v → u ≢ v) → Takes lab a b f
takes_both lab a b f o p old new of_o of_p cross = record {
  fits = fits;
  nodes = λ y name h claims_f claims_y. nodes y name h claims_f.which claims_f.mapped claims_f.is claims_f.placed claims_y;
  trunks = λ t h. let x = of_o.trunks t h in let y = of_p.trunks t h in
      let both : claimed_use lab t f ≡ max (use_in lab t o) (use_in lab t p) = (λ i. max (use_in lab t (old i)) (use_in lab t (new i))) in
      omega (arith, both, x, y);
  differ = subst (λ l. AllDiffer l) (sym tags) (Apart-append (λ x y. x ≢ y) (tags_of o) (tags_of p) of_o.differ of_p.differ cross);
  free = λ v y h k g. elim (Has-append (tags_of o) (tags_of p) v (subst (λ l. Has l v) tags h)) [ inl x ↦ of_o.free v y x k g | inr x ↦ of_p.free v y x k g ];
  in_range = λ v h. elim (Has-append (tags_of o) (tags_of p) v (subst (λ l. Has l v) tags h)) [ inl x ↦ of_o.in_range v x | inr x ↦ of_p.in_range v x ];
}
  where
    tags : claimed_tags f ≡ tags_of o ++ tags_of p
    tags = (λ i. tags_of (old i) ++ tags_of (new i))

    fits : (which : Which) (m : Mapped) → claimed f which ≡ Some m → Suits lab m
    fits Old m is = of_o.fits m (sym old ∙ is)
    fits New m is = of_p.fits m (sym new ∙ is)

    nodes : (y : Experiment) (name : List ℕ) → Has a y ⊎ Has b y → (which : Which) (m : Mapped) → claimed f which ≡ Some m → Places lab m name → Claims lab y name → ⊥
    nodes y name h Old m is placed claims = of_o.nodes m y name (sym old ∙ is) h placed claims
    nodes y name h New m is placed claims = of_p.nodes m y name (sym new ∙ is) h placed claims
