-- The first violation, as a test and as a relation; and beside the experiments, as on what they leave.
use Rattle.std.proofs.Common.{◌≡◌, ◌⊎◌, inl, inr, ℕ, zero, suc, ◌+◌, ◌<◌, ◌≤◌, Bool, true, false, Option, Some, None, List, length, if◌then◌else◌, refl, sym, ap, ◌∙◌, subst, arith, zero-add, nat_le}
use Rattle.std.proofs.lemmas.Bool.{cases_Bool, leb-true, le-leb, both_ways}
use Rattle.std.proofs.lemmas.List.Elements.{All-get_or}
use Rattle.std.proofs.lemmas.Option.{same_Some}
use Rattle.lab_base.specs.declared.ids.NodeId.{NodeId}
use Rattle.phys_lab.specs.declared.free.Free.{Free}
use Rattle.phys_lab.specs.Labs.{Lab}
use Rattle.virt_topo.specs.declared.violation.Broken.{Broken}
use Rattle.virt_topo.specs.declared.violation.Subject.{Subject}
use Rattle.virt_topo.specs.declared.wiring.Wiring.{Wiring}
use Rattle.virt_topo.specs.declared.mapping.Mapping.{Mapping}
use Rattle.virt_topo.specs.declared.experiment.Experiment.{Experiment}
use Rattle.lab_model.specs.Shapes.{IsShaped}
use Rattle.lab_model.specs.Rules.{no_place, place_at, keeps_f1, keeps_f2, keeps_f3, keeps_f4, keeps_f5, keeps_f6, keeps_f7, keeps_f8}
use Rattle.lab_model.specs.Feasible.{first_bad, first_below, or_later, first_violation, violation, AllPass, FirstFails, Kept, AreKept, BreaksFirst, before, count_of, test_of, subject_of}
use Rattle.lab_model.specs.Beside.{is_unclaimed, has_room, has_ids, violation_beside, IsLeft}
use Rattle.lab_model.proofs.FeasibleLaws.{at_zero, first_fails}
use Rattle.virt_topo.specs.declared.violation.Broken.TheVariants as broken
use Rattle.virt_topo.specs.declared.violation.Subject.TheVariants as subjects

pub fails_at : (n : ℕ) (test : ℕ → Bool) (k : ℕ) → first_below n test ≡ Some k → FirstFails n test k
fails_at n test k e = let r = first_fails n 0 test k e in record { below = omega (arith, r.1, zero-add n); fails = r.2; before = λ j h. r.3 j (omega arith) h }

passes_from : (n from : ℕ) (test : ℕ → Bool) → ((k : ℕ) → from ≤ k → k < from + n → test k ≡ true) → first_bad n from test ≡ None
passes_from zero from test all = refl
passes_from (suc n) from test all =
    ap (λ b. if b then first_bad n (from + 1) test else Some from) (all from (omega arith) (omega arith))
    ∙ passes_from n (from + 1) test (λ k low high. all k (omega (arith, low)) (omega (arith, high)))

fails_from : (n from : ℕ) (test : ℕ → Bool) (k : ℕ) → k < n → test (from + k) ≡ false → ((j : ℕ) → from ≤ j → j < from + k → test j ≡ true) → first_bad n from test ≡ Some (from + k)
fails_from zero from test k h bad all = absurd (omega (arith, h))
fails_from (suc n) from test zero h bad all = ap (λ b. if b then first_bad n (from + 1) test else Some from) (ap test (omega arith) ∙ bad) ∙ ap (λ j. Some j) (omega arith)
fails_from (suc n) from test (suc k) h bad all =
    let there : from + 1 + k ≡ from + suc k = omega arith in
    ap (λ b. if b then first_bad n (from + 1) test else Some from) (all from (omega arith) (omega arith))
    ∙ fails_from n (from + 1) test k (omega (arith, h)) (ap test there ∙ bad) (λ j low high. all j (omega (arith, low)) (omega (arith, high)))
    ∙ ap (λ j. Some j) there

pub passes : (n : ℕ) (test : ℕ → Bool) → AllPass n test → first_below n test ≡ None
passes n test all = passes_from n 0 test (λ k low high. all k (omega (arith, high)))

pub fails : (n : ℕ) (test : ℕ → Bool) (k : ℕ) → FirstFails n test k → first_below n test ≡ Some k
fails n test k f = fails_from n 0 test k f.below (ap test (omega arith) ∙ f.fails) (λ j low high. f.before j (omega (arith, high))) ∙ ap (λ j. Some j) (omega arith)

or_some : (o : Option ℕ) (as_one : ℕ → Broken × Subject) (later : Option (Broken × Subject)) (b : Broken × Subject) → or_later o as_one later ≡ Some b
    → ((k : ℕ) × (o ≡ Some k) × (as_one k ≡ b)) ⊎ ((o ≡ None) × (later ≡ Some b))
or_some None as_one later b e = inr (refl, e)
or_some (Some k) as_one later b e = inl (k, refl, same_Some (as_one k) b e)

some_else : (t : Bool) (x b : Broken × Subject) → ◌≡◌ {A = Option (Broken × Subject)} (if t then None else Some x) (Some b) → (t ≡ false) × (x ≡ b)
some_else true x b e = absurd (cc e)
some_else false x b e = (refl, same x b e)
  where
    same : (x y : Broken × Subject) → Some x ≡ Some y → x ≡ y
    same x y e = cc

hit : (o : Option ℕ) (as_one : ℕ → Broken × Subject) (later : Option (Broken × Subject)) (k : ℕ) → o ≡ Some k → or_later o as_one later ≡ Some (as_one k)
hit o as_one later k e = ap (λ x. or_later x as_one later) e

miss : (o : Option ℕ) (as_one : ℕ → Broken × Subject) (later b : Option (Broken × Subject)) → o ≡ None → later ≡ b → or_later o as_one later ≡ b
miss o as_one later b e same = ap (λ x. or_later x as_one later) e ∙ same

no_ids : (t : Bool) (b : Broken × Subject) → t ≡ false → ◌≡◌ {A = Option (Broken × Subject)} (if t then None else Some b) (Some b)
no_ids t b e = ap (λ x. if x then None else Some b) e

all_ids : (t : Bool) (b : Broken × Subject) → t ≡ true → ◌≡◌ {A = Option (Broken × Subject)} (if t then None else Some b) None
all_ids t b e = ap (λ x. if x then None else Some b) e

module _ (lab : Lab) (w : Wiring) (m : Mapping) (f1 f6 : ℕ → Bool) (f8 : Bool) where
  is_from : (rule : Broken) (k : ℕ) (b : Broken × Subject) → (rule, subject_of rule k) ≡ b → AreKept lab w m f1 f6 f8 (before rule)
      → FirstFails (count_of lab w m rule) (test_of lab w m f1 f6 f8 rule) k → BreaksFirst lab w m f1 f6 f8 b.0 b.1
  is_from rule k b same all first = subst (λ x. BreaksFirst lab w m f1 f6 f8 x.0 x.1) same (record { earlier = all; number = k; is = refl; first = first })

  -- the violation that the test finds is the first by the relation
  pub breaks_first : (b : Broken × Subject) → first_violation lab w m f1 f6 f8 ≡ Some b → BreaksFirst lab w m f1 f6 f8 b.0 b.1
  breaks_first b e = elim (or_some (first_below (length w.nodes) f1) (λ n. (broken.F1, subject_of broken.F1 n)) _ b e) [
    | inl r1 ↦ is_from broken.F1 r1.0 b r1.2 tt (fails_at (length w.nodes) f1 r1.0 r1.1)
    | inr r1 ↦ elim (or_some (first_below (length lab.nodes) (keeps_f2 lab w m)) (λ n. (broken.F2, subject_of broken.F2 n)) _ b r1.1) [
      | inl r2 ↦ is_from broken.F2 r2.0 b r2.2 (at_zero (length w.nodes) f1 r1.0, tt) (fails_at (length lab.nodes) (keeps_f2 lab w m) r2.0 r2.1)
      | inr r2 ↦ elim (or_some (first_below (length w.nodes) (keeps_f3 lab w m)) (λ n. (broken.F3, subject_of broken.F3 n)) _ b r2.1) [
        | inl r3 ↦ is_from broken.F3 r3.0 b r3.2 (at_zero (length w.nodes) f1 r1.0, (at_zero (length lab.nodes) (keeps_f2 lab w m) r2.0, tt)) (fails_at (length w.nodes) (keeps_f3 lab w m) r3.0 r3.1)
        | inr r3 ↦ elim (or_some (first_below (length w.nodes) (keeps_f4 lab w m)) (λ n. (broken.F4, subject_of broken.F4 n)) _ b r3.1) [
          | inl r4 ↦ is_from broken.F4 r4.0 b r4.2 (at_zero (length w.nodes) f1 r1.0, (at_zero (length lab.nodes) (keeps_f2 lab w m) r2.0, (at_zero (length w.nodes) (keeps_f3 lab w m) r3.0, tt))) (fails_at (length w.nodes) (keeps_f4 lab w m) r4.0 r4.1)
          | inr r4 ↦ elim (or_some (first_below (length m.plugs) (keeps_f5 lab w m)) (λ n. (broken.F5, subject_of broken.F5 n)) _ b r4.1) [
            | inl r5 ↦ is_from broken.F5 r5.0 b r5.2 (at_zero (length w.nodes) f1 r1.0, (at_zero (length lab.nodes) (keeps_f2 lab w m) r2.0, (at_zero (length w.nodes) (keeps_f3 lab w m) r3.0, (at_zero (length w.nodes) (keeps_f4 lab w m) r4.0, tt)))) (fails_at (length m.plugs) (keeps_f5 lab w m) r5.0 r5.1)
            | inr r5 ↦ elim (or_some (first_below (length lab.trunks) f6) (λ n. (broken.F6, subject_of broken.F6 n)) _ b r5.1) [
              | inl r6 ↦ is_from broken.F6 r6.0 b r6.2 (at_zero (length w.nodes) f1 r1.0, (at_zero (length lab.nodes) (keeps_f2 lab w m) r2.0, (at_zero (length w.nodes) (keeps_f3 lab w m) r3.0, (at_zero (length w.nodes) (keeps_f4 lab w m) r4.0, (at_zero (length m.plugs) (keeps_f5 lab w m) r5.0, tt))))) (fails_at (length lab.trunks) f6 r6.0 r6.1)
              | inr r6 ↦ elim (or_some (first_below (length w.segments) (keeps_f7 lab w m)) (λ n. (broken.F7, subject_of broken.F7 n)) _ b r6.1) [
                | inl r7 ↦ is_from broken.F7 r7.0 b r7.2 (at_zero (length w.nodes) f1 r1.0, (at_zero (length lab.nodes) (keeps_f2 lab w m) r2.0, (at_zero (length w.nodes) (keeps_f3 lab w m) r3.0, (at_zero (length w.nodes) (keeps_f4 lab w m) r4.0, (at_zero (length m.plugs) (keeps_f5 lab w m) r5.0, (at_zero (length lab.trunks) f6 r6.0, tt)))))) (fails_at (length w.segments) (keeps_f7 lab w m) r7.0 r7.1)
                | inr r7 ↦ let last = some_else _ _ b r7.1 in is_from broken.F8 0 b last.1 (at_zero (length w.nodes) f1 r1.0, (at_zero (length lab.nodes) (keeps_f2 lab w m) r2.0, (at_zero (length w.nodes) (keeps_f3 lab w m) r3.0, (at_zero (length w.nodes) (keeps_f4 lab w m) r4.0, (at_zero (length m.plugs) (keeps_f5 lab w m) r5.0, (at_zero (length lab.trunks) f6 r6.0, (at_zero (length w.segments) (keeps_f7 lab w m) r7.0, tt))))))) (record { below = omega arith; fails = last.0; before = λ j h. absurd (omega (arith, h)) })
              ]
            ]
          ]
        ]
      ]
    ]
  ]

  found_at : (rule : Broken) (k : ℕ) → AreKept lab w m f1 f6 f8 (before rule) → FirstFails (count_of lab w m rule) (test_of lab w m f1 f6 f8 rule) k
      → first_violation lab w m f1 f6 f8 ≡ Some (rule, subject_of rule k)
  found_at broken.F1 k all first = hit _ _ _ k (fails _ _ k first)
  found_at broken.F2 k all first = miss _ _ _ _ (passes _ _ all.0) (hit _ _ _ k (fails _ _ k first))
  found_at broken.F3 k all first = miss _ _ _ _ (passes _ _ all.0) (miss _ _ _ _ (passes _ _ all.1.0) (hit _ _ _ k (fails _ _ k first)))
  found_at broken.F4 k all first = miss _ _ _ _ (passes _ _ all.0) (miss _ _ _ _ (passes _ _ all.1.0) (miss _ _ _ _ (passes _ _ all.1.1.0) (hit _ _ _ k (fails _ _ k first))))
  found_at broken.F5 k all first = miss _ _ _ _ (passes _ _ all.0) (miss _ _ _ _ (passes _ _ all.1.0) (miss _ _ _ _ (passes _ _ all.1.1.0) (miss _ _ _ _ (passes _ _ all.1.1.1.0) (hit _ _ _ k (fails _ _ k first)))))
  found_at broken.F6 k all first = miss _ _ _ _ (passes _ _ all.0) (miss _ _ _ _ (passes _ _ all.1.0) (miss _ _ _ _ (passes _ _ all.1.1.0) (miss _ _ _ _ (passes _ _ all.1.1.1.0) (miss _ _ _ _ (passes _ _ all.1.1.1.1.0) (hit _ _ _ k (fails _ _ k first))))))
  found_at broken.F7 k all first = miss _ _ _ _ (passes _ _ all.0) (miss _ _ _ _ (passes _ _ all.1.0) (miss _ _ _ _ (passes _ _ all.1.1.0) (miss _ _ _ _ (passes _ _ all.1.1.1.0) (miss _ _ _ _ (passes _ _ all.1.1.1.1.0) (miss _ _ _ _ (passes _ _ all.1.1.1.1.1.0) (hit _ _ _ k (fails _ _ k first)))))))
  found_at broken.F8 k all first = miss _ _ _ _ (passes _ _ all.0) (miss _ _ _ _ (passes _ _ all.1.0) (miss _ _ _ _ (passes _ _ all.1.1.0) (miss _ _ _ _ (passes _ _ all.1.1.1.0) (miss _ _ _ _ (passes _ _ all.1.1.1.1.0) (miss _ _ _ _ (passes _ _ all.1.1.1.1.1.0) (miss _ _ _ _ (passes _ _ all.1.1.1.1.1.1.0) (no_ids _ _ first.fails)))))))

  -- and the first by the relation is the one that the test finds
  pub found_first : (rule : Broken) (subject : Subject) → BreaksFirst lab w m f1 f6 f8 rule subject → first_violation lab w m f1 f6 f8 ≡ Some (rule, subject)
  found_first rule subject b = found_at rule b.number b.earlier b.first ∙ ap (λ s. Some (rule, s)) (sym b.is)

  -- where all rules are kept there is no violation
  pub none_found : ((rule : Broken) → Kept lab w m f1 f6 f8 rule) → first_violation lab w m f1 f6 f8 ≡ None
  none_found all = miss _ _ _ _ (passes _ _ (all broken.F1)) (miss _ _ _ _ (passes _ _ (all broken.F2)) (miss _ _ _ _ (passes _ _ (all broken.F3)) (miss _ _ _ _ (passes _ _ (all broken.F4)) (miss _ _ _ _ (passes _ _ (all broken.F5)) (miss _ _ _ _ (passes _ _ (all broken.F6)) (miss _ _ _ _ (passes _ _ (all broken.F7)) (all_ids _ _ (all broken.F8 0 (omega arith)))))))))

same_below : (n from : ℕ) (p q : ℕ → Bool) → ((k : ℕ) → from ≤ k → k < from + n → p k ≡ q k) → first_bad n from p ≡ first_bad n from q
same_below zero from p q same = refl
same_below (suc n) from p q same =
    ap (λ b. if b then first_bad n (from + 1) p else Some from) (same from (omega arith) (omega arith))
    ∙ ap (λ o. if q from then o else Some from) (same_below n (from + 1) p q (λ k low high. same k (omega (arith, low)) (omega (arith, high))))

same_test : (a b c d : ℕ) → (a ≤ b → c ≤ d) → (c ≤ d → a ≤ b) → nat_le a b ≡ nat_le c d
same_test a b c d there back = elim (cases_Bool (nat_le a b)) [
  | inl is ↦ is ∙ sym (le-leb c d (there (leb-true a b is)))
  | inr not_is ↦ elim (cases_Bool (nat_le c d)) [
    | inl is ↦ absurd (both_ways _ not_is (le-leb a b (back (leb-true c d is))))
    | inr neither ↦ not_is ∙ sym neither
  ]
]

-- BESIDE THE EXPERIMENTS the first violation is the one on what they leave
pub same_violation : (lab : Lab) (others : List Experiment) (own : Experiment) (free : Free) (w : Wiring) (m : Mapping) → IsLeft lab others own free → IsShaped lab w m
    → violation lab free w m ≡ violation_beside lab others own w m
same_violation lab others own free w m left shaped = (λ i. assembled (nodes i) (trunks i) (ids i))
  where
    assembled : Option ℕ → Option ℕ → Bool → Option (Broken × Subject)
    assembled o1 o6 f8 =
        or_later o1 (λ v. (broken.F1, subjects.Virt v))
        (or_later (first_below (length lab.nodes) (keeps_f2 lab w m)) (λ n. (broken.F2, subjects.Node (record { 0 = n })))
        (or_later (first_below (length w.nodes) (keeps_f3 lab w m)) (λ v. (broken.F3, subjects.Virt v))
        (or_later (first_below (length w.nodes) (keeps_f4 lab w m)) (λ v. (broken.F4, subjects.Virt v))
        (or_later (first_below (length m.plugs) (keeps_f5 lab w m)) (λ e. (broken.F5, subjects.End e))
        (or_later o6 (λ t. (broken.F6, subjects.Trunk (record { 0 = t })))
        (or_later (first_below (length w.segments) (keeps_f7 lab w m)) (λ s. (broken.F7, subjects.Segment s))
        (if f8 then None else Some (broken.F8, subjects.Vlans))))))))

    nodes : first_below (length w.nodes) (keeps_f1 free m) ≡ first_below (length w.nodes) (is_unclaimed lab others m)
    nodes = same_below (length w.nodes) 0 (keeps_f1 free m) (is_unclaimed lab others m) (λ v low high.
        left.unclaimed (place_at m v).0.0 (All-get_or (λ (p : NodeId × List ℕ). p.0.0 < length lab.nodes) m.places v no_place (omega (arith, high, shaped.places)) shaped.in_nodes))

    trunks : first_below (length lab.trunks) (keeps_f6 lab free w m) ≡ first_below (length lab.trunks) (has_room lab others w m)
    trunks = same_below (length lab.trunks) 0 (keeps_f6 lab free w m) (has_room lab others w m) (λ t low high.
        let room = left.room t (omega (arith, high)) in
        same_test _ _ _ _ (λ h. omega (arith, h, room)) (λ h. omega (arith, h, room)))

    ids : keeps_f8 free w ≡ has_ids lab others own w
    ids = let all = left.ids in same_test _ _ _ _ (λ h. omega (arith, h, all)) (λ h. omega (arith, h, all))

-- THE FIRST NUMBER THAT FAILS A TEST

pub first_at : (n : ℕ) (test : ℕ → Bool) (k : ℕ) (kept : Bool) → k < n → kept ≡ test k → kept ≡ false → AllPass k test → Some k ≡ first_below n test
first_at n test k kept lt is failed before = sym (fails n test k (record { below = lt; fails = sym is ∙ failed; before = before }))

pub none_at : (n : ℕ) (test : ℕ → Bool) (k : ℕ) → n ≤ k → AllPass k test → None ≡ first_below n test
none_at n test k le before = sym (passes n test (λ j lt. before j (omega (arith, lt))))
