-- The least VLAN ids that no claim has are those that no experiment claims.
use Rattle.std.proofs.Common.{◌≡◌, ℕ, zero, suc, ◌+◌, Bool, true, false, not, cond, List, [], ◌∷◌, ◌++◌, length, map, take, None, Ok, Err, refl, sym, ap, ◌∙◌, arith}
use Rattle.std.specs.List.{filter, range_with_len}
use Rattle.std.proofs.lemmas.Bool.{leb-true}
use Rattle.std.proofs.lemmas.List.{map-append, take-map}
use Rattle.lab_base.specs.Lists.{AllDiffer}
use Rattle.lab_base.specs.declared.ids.VlanId.{VlanId}
use Rattle.phys_lab.specs.Labs.{Lab}
use Rattle.phys_lab.specs.Forests.{numbers}
use Rattle.phys_lab.specs.declared.free.Free.{Free}
use Rattle.virt_topo.specs.declared.violation.Broken.TheVariants.{F8}
use Rattle.virt_topo.specs.declared.wiring.Wiring.{Wiring}
use Rattle.virt_topo.specs.declared.mapping.Mapping.{Mapping}
use Rattle.virt_topo.specs.declared.experiment.Experiment.{Experiment}
use Rattle.lab_model.specs.Beside.{ids_of}
use Rattle.lab_model.specs.Feasible.{violation}
use Rattle.lab_model.specs.Rules.{keeps_f1, keeps_f6, keeps_f8}
use Rattle.lab_model.proofs.FeasibleLaws.{kept_from}
use Rattle.claims.specs.Answered.{AreTaken}
use Rattle.claims.specs.declared.fault.TakeFault.TheVariants.{TooFew}
use Rattle.claims.specs.Experiments.{ClaimsOf}
use Rattle.claims.specs.Held.{Held, IsLeftTo, free_ids, ids, size_of}
use Rattle.claims.proofs.Matching.{Match}
use Rattle.claims.proofs.OthersLeave.{id_by, named_apart}
use Rattle.lab_tasks.specs.Counts.{is_taken, least_tags}

-- a range by the numbers from its first one on
range_more : (a n : ℕ) → range_with_len a (suc n) ≡ range_with_len a n ++ (a + n) ∷ []
range_more a zero = ap (λ (x : ℕ). x ∷ []) (omega arith)
range_more a (suc n) =
    let at : (a + 1) + n ≡ a + suc n = omega arith in
    ap (λ l. a ∷ l) (range_more (a + 1) n ∙ ap (λ (x : ℕ). range_with_len (a + 1) n ++ x ∷ []) at)

range_from : (a n : ℕ) → range_with_len a n ≡ map (λ i. a + i) (numbers n)
range_from a zero = refl
range_from a (suc n) = range_more a n ∙ ap (λ l. l ++ (a + n) ∷ []) (range_from a n) ∙ sym (map-append (λ i. a + i) (numbers n) (n ∷ []))

kept_if : {X Y : Type 0} (f : X → Y) (b : Bool) (x : X) (xs : List X) → cond b (f x ∷ map f xs) (map f xs) ≡ map f (cond b (x ∷ xs) xs)
kept_if f true x xs = refl
kept_if f false x xs = refl

filter-map : {X Y : Type 0} (f : X → Y) (p : Y → Bool) (xs : List X) → filter p (map f xs) ≡ map f (filter (λ x. p (f x)) xs)
filter-map f p [] = refl
filter-map f p (x ∷ xs) = ap (λ l. cond (p (f x)) (f x ∷ l) l) (filter-map f p xs) ∙ kept_if f (p (f x)) x (filter (λ y. p (f y)) xs)

-- tags by their numbers
tags_by : (tags : List VlanId) → map (λ n. let tag : VlanId = record { 0 = n } in tag) (map (λ tag. tag.0) tags) ≡ tags
tags_by [] = refl
tags_by (tag ∷ tags) = ap (λ l. tag ∷ l) (tags_by tags)

tags_from : (a : ℕ) (ns : List ℕ) → map (λ n. let tag : VlanId = record { 0 = n } in tag) (map (λ i. a + i) ns) ≡ map (λ i. record { 0 = a + i }) ns
tags_from a [] = refl
tags_from a (n ∷ ns) = ap (λ l. record { 0 = a + n } ∷ l) (tags_from a ns)

module _ (lab : Lab) (es : List Experiment) (held : Held) (names : AllDiffer (map (λ e. e.name) es)) (of_es : ClaimsOf lab es held) where
  matching : Match lab held.entries es
  matching = record { once = of_es.once; known = of_es.known; claims = of_es.claims; names = named_apart es names }

  free_are : free_ids held ≡ map (λ i. lab.range.0 + i) (filter (λ i. not (is_taken es (lab.range.0 + i))) (numbers (ids_of lab)))
  free_are =
      (λ i. filter (λ id. not (id_by lab held.entries es id matching i)) (ids (of_es.range i)))
      ∙ ap (λ l. filter (λ id. not (is_taken es id)) l) (range_from lab.range.0 (size_of lab.range))
      ∙ filter-map (λ i. lab.range.0 + i) (λ id. not (is_taken es id)) (numbers (ids_of lab))

  -- WHAT IS TAKEN of the claims are the least tags
  pub least_are : (n : ℕ) (tags : List VlanId) → AreTaken (free_ids held) n (Ok tags) → tags ≡ least_tags lab es n
  least_are n tags taken =
      let left = filter (λ i. not (is_taken es (lab.range.0 + i))) (numbers (ids_of lab)) in
      sym (tags_by tags)
      ∙ ap (λ l. map (λ n. let tag : VlanId = record { 0 = n } in tag) l) (taken.1 ∙ ap (λ l. take n l) free_are ∙ take-map (λ i. lab.range.0 + i) n left)
      ∙ tags_from lab.range.0 (take n left)

-- WHERE NO RULE IS BROKEN there are tags enough
pub are_enough : (lab : Lab) (held : Held) (exp : List ℕ) (free : Free) (w : Wiring) (m : Mapping) (few : ℕ) → IsLeftTo held exp free → violation lab free w m ≡ None
    → AreTaken (free_ids held) (length w.segments) (Err (TooFew few)) → ⊥
are_enough lab held exp free w m few left none taken =
    let kept : keeps_f8 free w ≡ true = kept_from lab w m (keeps_f1 free m) (keeps_f6 lab free w m) (keeps_f8 free w) none F8 0 (omega arith) in
    omega (arith, leb-true (length w.segments) free.vlans kept, left.ids, taken.0, taken.1)
