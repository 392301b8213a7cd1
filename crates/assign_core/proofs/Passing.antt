-- Choices that begin with the same places, whose maps are passed over.
use Rattle.std.proofs.Common.{◌≡◌, ◌<◌, ◌≤◌, ◌∙◌, ◌+◌, ◌++◌, ◌∷◌, [], ℕ, zero, suc, List, length, map, get_or, All, cond, eqb, Option, Some, None, false, refl, sym, ap, subst, length-append, append_assoc, arith}
use Rattle.std.specs.List.{filter_map, cons_option}
use Rattle.std.proofs.lemmas.Bool.{eq-eqb, ltb-false}
use Rattle.std.proofs.lemmas.List.{append-nil, get_or_append_left}
use Rattle.std.proofs.lemmas.List.Elements.{All-append, All-map}
use Rattle.std.proofs.lemmas.List.Sums.{sum_by-append}
use Rattle.std.proofs.Math.Seq.{get_or-append_seam}
use Rattle.virt_topo.specs.declared.mapping.Mapping.{Mapping}
use Rattle.lab_model.specs.Shapes.{Place, node_at}
use Rattle.lab_model.specs.Rules.{no_place, number_of}
use Rattle.node_maps.proofs.Assembled.{no_map}
use Rattle.node_maps.proofs.Leasts.{least_kept}
use Rattle.map_state.specs.Hosted.{hosted_at}
use Rattle.map_state.proofs.FullLaws.{overfull}
use Rattle.map_state.proofs.HostedNodeLaws.{one_if, guests_more}
use Rattle.map_anneal.specs.declared.priced.Priced.{Priced}
use Rattle.map_anneal.specs.Sought.{Sought, mapped, price}
use Rattle.assign_core.specs.Bests.{IsBest, is_below}
use Rattle.assign_core.specs.Exact.{extended, all_choices}
use Rattle.assign_core.specs.Prefixes.{ArePassed}
use Rattle.assign_core.proofs.Choosing.{found}

-- n places, the first of which are these
record Begins (places : List Place) (n : ℕ) (all : List Place) : Type 0 where
  pub rest : List Place
  pub is : all ≡ places ++ rest
  pub long : length all ≡ n

extended_begin : (places : List Place) (n : ℕ) (maps : List (List Place)) (c : List Place) → All (λ (l : List Place). Begins places n l) maps
    → All (λ (l : List Place). Begins places (n + 1) l) (extended maps c)
extended_begin places n [] c each = λ k d lt. absurd (omega (arith, lt))
extended_begin places n (m ∷ maps) c each =
    let one : Begins places n m = each 0 m (omega arith) in
    All-append (λ (l : List Place). Begins places (n + 1) l) (map (λ p. m ++ p ∷ []) c) (extended maps c)
    (All-map (λ (l : List Place). Begins places (n + 1) l) (λ p. m ++ p ∷ []) c (λ k d lt.
    record {
      rest = one.rest ++ get_or c k d ∷ [];
      is = ap (λ (l : List Place). l ++ get_or c k d ∷ []) one.is ∙ append_assoc places one.rest (get_or c k d ∷ []);
      long = (let more = length-append m (get_or c k d ∷ []) in let long = one.long in omega (arith, more, long));
    }))
    (extended_begin places n maps c (λ k d lt. each (suc k) d (omega (arith, lt))))

begun_all : (places : List Place) (n : ℕ) (maps cs : List (List Place)) → All (λ (l : List Place). Begins places n l) maps
    → All (λ (l : List Place). Begins places (n + length cs) l) (all_choices maps cs)
begun_all places n maps [] each = λ k d lt.
    let one = each k d lt in
    record { rest = one.rest; is = one.is; long = (let long = one.long in omega (arith, long)) }
begun_all places n maps (c ∷ cs) each = λ k d lt.
    let one = begun_all places (n + 1) (extended maps c) cs (extended_begin places n maps c each) k d lt in
    record { rest = one.rest; is = one.is; long = (let long = one.long in omega (arith, long)) }

-- one that is no cheaper
bound_kept : (s : Sought) (maps : List Mapping) (o : Option Priced) (m : Mapping) → IsBest s maps o → is_below (price s m) o ≡ false → IsBest s (maps ++ m ∷ []) o
bound_kept s maps None m h above = absurd (cc above)
bound_kept s maps (Some q) m h above = record {
  priced = h.priced;
  least = least_kept (price s) maps q.mapping m h.least (let le : q.cost ≤ price s m = ltb-false (price s m) q.cost above in let cost = h.priced.cost in omega (arith, le, cost));
}

-- choices whose maps are no cheaper
abbrev IsPassed : Sought → Option Priced → List Place → Type 0
IsPassed s o l = (m : Mapping) → mapped s l ≡ Some m → is_below (price s m) o ≡ false

passed_each : (s : Sought) (o : Option Priced) (ls : List (List Place)) → All (λ (l : List Place). IsPassed s o l) ls → (maps : List Mapping) → IsBest s maps o
    → IsBest s (maps ++ filter_map (λ l. mapped s l) ls) o
passed_each s o [] each maps h = subst (λ (xs : List Mapping). IsBest s xs o) (sym (append-nil maps)) h
passed_each s o (l ∷ ls) each maps h =
    let later : All (λ (x : List Place). IsPassed s o x) ls = λ k d lt. each (suc k) d (omega (arith, lt)) in
    by (mapped s l) refl (λ xs g. passed_each s o ls later xs g)
  where
    by : (x : Option Mapping) → mapped s l ≡ x → ((xs : List Mapping) → IsBest s xs o → IsBest s (xs ++ filter_map (λ y. mapped s y) ls) o)
        → IsBest s (maps ++ cons_option x (filter_map (λ y. mapped s y) ls)) o
    by None is next = next maps h
    by (Some m) is next =
        subst (λ (xs : List Mapping). IsBest s xs o) (append_assoc maps (m ∷ []) (filter_map (λ y. mapped s y) ls))
        (next (maps ++ m ∷ []) (bound_kept s maps o m h (each 0 l (omega arith) m is)))

-- ALL CHOICES THAT BEGIN SO are passed over
pub passed_over : (s : Sought) (maps : List Mapping) (o : Option Priced) (places : List Place) (cs : List (List Place)) → ArePassed s places o
    → length places + length cs ≡ length s.wiring.nodes → IsBest s maps o → IsBest s (maps ++ found s (places ∷ []) cs) o
passed_over s maps o places cs passed all h =
    passed_each s o (all_choices (places ∷ []) cs) (λ k d lt m is.
    let one = begun_all places (length places) (places ∷ []) cs alone k d lt in
    passed one.rest m (sym (ap length one.is) ∙ one.long ∙ all) (sym (ap (λ (l : List Place). mapped s l) one.is) ∙ is)) maps h
  where
    alone : All (λ (l : List Place). Begins places (length places) l) (places ∷ [])
    alone zero d lt = record { rest = []; is = sym (append-nil places); long = refl }
    alone (suc k) d lt = absurd (omega (arith, lt))

-- where as many are on the node of one more as may have its type there
pub full_passed : (s : Sought) (places : List Place) (p : Place) (o : Option Priced) → p.0.0 < length s.lab.nodes → number_of (node_at s.lab p.0).types p.1 ≤ hosted_at places p.0.0
    → ArePassed s (places ++ p ∷ []) o
full_passed s places p o node many = λ rest m long is.
    let first = places ++ p ∷ [] in
    let all = first ++ rest in
    let v = length places in
    let grown = length-append places (p ∷ []) in
    let whole = length-append first rest in
    let at : get_or all v no_place ≡ p = get_or_append_left first rest no_place v (omega (arith, grown)) ∙ get_or-append_seam places p [] no_place in
    let more = guests_more places p p.0.0 in
    let own : ◌≡◌ {A = ℕ} (one_if (eqb p.0.0 p.0.0)) 1 = ap one_if (eq-eqb p.0.0 p.0.0 refl) in
    let parts = sum_by-append (λ (q : Place). cond (eqb q.0.0 p.0.0) 1 0) first rest in
    let over : number_of (node_at s.lab p.0).types p.1 < hosted_at all p.0.0 = omega (arith, many, more, own, parts) in
    let here = subst (λ (q : Place). number_of (node_at s.lab q.0).types q.1 < hosted_at all q.0.0) (sym at) over in
    let on = subst (λ (q : Place). q.0.0 < length s.lab.nodes) (sym at) node in
    let none = no_map s.lab s.free s.wiring all (λ plugs kept. overfull s.lab s.wiring all v long (omega (arith, grown, whole)) here (kept.shared (get_or all v no_place).0.0 on)) in
    absurd (cc (none, is))
