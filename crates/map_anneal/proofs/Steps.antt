-- One try of the walk that the code keeps.
use Rattle.std.proofs.Common.{◌≡◌, ◌≤◌, ◌<◌, ◌∙◌, ◌+◌, ◌*◌, ◌/◌, ◌%◌, ◌++◌, ◌∷◌, [], ℕ, List, nat_le, nat_lt, arith, false, Option, Some, None, if◌then◌else◌, sym, ap, subst, refl}
use Rattle.std.proofs.lemmas.Bool.{cond-true, cond-false, cond_both, ltb-true, ltb-false, le-leb}
use Rattle.std.proofs.lemmas.Bool.Decides.{nat_tests}
use Rattle.std.specs.Prelude.{option_and_then}
use Rattle.virt_topo.specs.declared.mapping.Mapping.{Mapping}
use Rattle.node_maps.specs.Least.{IsFirstLeast}
use Rattle.node_maps.proofs.Leasts.{least_kept, least_taken}
use Rattle.map_anneal.specs.declared.priced.Priced.{Priced}
use Rattle.map_anneal.specs.declared.walk.Walk.{Walk}
use Rattle.map_anneal.specs.Sought.{Sought, price}
use Rattle.map_anneal.specs.Searches.{IsPriced}
use Rattle.map_anneal.specs.Walk.{Walker, Drawn, drawn, named, found, after_change, one_try}
use Rattle.map_anneal.specs.Walks.{Keeps}

-- the try adds this map
pub found_some : (s : Sought) (heat : ℕ) (last : Mapping) (m : Mapping) (d : Drawn) → named s last d.first d.second ≡ Some m
    → price s m < price s last + (d.third % 1024) * heat / 1024 + 1 → found s heat last d ≡ Some m
found_some s heat last m d is lt =
    let most = price s last + (d.third % 1024) * heat / 1024 in
    let keep : Mapping → Option Mapping = λ x. if nat_le (price s x) most then Some x else None in
    ap (λ o. option_and_then keep o) is ∙ cond-true (nat_le (price s m) most) (Some m) None (le-leb (price s m) most (omega (arith, lt)))

-- the try adds none
pub found_none : (s : Sought) (heat : ℕ) (last : Mapping) (d : Drawn)
    → ((m : Mapping) → named s last d.first d.second ≡ Some m → price s last + (d.third % 1024) * heat / 1024 + 1 ≤ price s m) → found s heat last d ≡ None
found_none s heat last d over = by (named s last d.first d.second) refl
  where
    above : (a b : ℕ) → b + 1 ≤ a → nat_le a b ≡ false
    above a b le = grind (arith, nat_tests)

    by : (o : Option Mapping) → named s last d.first d.second ≡ o → found s heat last d ≡ None
    by None is = ap (λ o. option_and_then (λ x. if nat_le (price s x) (price s last + (d.third % 1024) * heat / 1024) then Some x else None) o) is
    by (Some m) is =
        let most = price s last + (d.third % 1024) * heat / 1024 in
        ap (λ o. option_and_then (λ x. if nat_le (price s x) most then Some x else None) o) is ∙ cond-false (nat_le (price s m) most) (Some m) None (above (price s m) most (over m is))

-- the walk after a try that found this
pub after_try : (s : Sought) (heat : ℕ) (x : Walker) (old : Walk) (o : Option Mapping) → Keeps s old x → found s heat old.last.state.mapping (drawn old.generator) ≡ o
    → one_try s heat x ≡ after_change x (drawn old.generator).after o
after_try s heat x old o keeps e =
    ap (λ w. after_change x (drawn w).after (found s heat x.last (drawn w))) (sym keeps.words)
    ∙ ap (λ m. after_change x (drawn old.generator).after (found s heat m (drawn old.generator))) (sym keeps.last)
    ∙ ap (λ f. after_change x (drawn old.generator).after f) e

pub keeps_added : (s : Sought) (heat : ℕ) (x : Walker) (old new : Walk) (m : Mapping) → Keeps s old x → found s heat old.last.state.mapping (drawn old.generator) ≡ Some m
    → new.generator ≡ (drawn old.generator).after → new.last.state.mapping ≡ m → IsFirstLeast (price s) (x.maps ++ m ∷ []) new.best.mapping
    → Keeps s new (one_try s heat x)
keeps_added s heat x old new m keeps e words last best =
    let P : Walker → Type 0 = λ y. Keeps s new y in
    subst P (sym (after_try s heat x old (Some m) keeps e)) (record { words = words; last = last; best = best })

pub keeps_same : (s : Sought) (heat : ℕ) (x : Walker) (old new : Walk) → Keeps s old x → found s heat old.last.state.mapping (drawn old.generator) ≡ None
    → new.generator ≡ (drawn old.generator).after → new.last.state.mapping ≡ old.last.state.mapping → new.best ≡ old.best → Keeps s new (one_try s heat x)
keeps_same s heat x old new keeps e words last best =
    let P : Walker → Type 0 = λ y. Keeps s new y in
    let Q : Priced → Type 0 = λ p. IsFirstLeast (price s) x.maps p.mapping in
    subst P (sym (after_try s heat x old None keeps e)) (record { words = words; last = last ∙ keeps.last; best = subst Q (sym best) keeps.best })

abbrev pub cheaper : Priced → Priced → Priced
cheaper best next = if nat_lt next.cost best.cost then next else best

pub cheaper_priced : (s : Sought) (best next : Priced) → IsPriced s best → IsPriced s next → IsPriced s (cheaper best next)
cheaper_priced s best next old new =
    cond_both (nat_lt next.cost best.cost) next best (λ p. IsPriced s p) (λ below. new) (λ above. old)

-- the cheapest with one more map
pub cheaper_least : (s : Sought) (maps : List Mapping) (best next : Priced) → IsPriced s best → IsPriced s next → IsFirstLeast (price s) maps best.mapping
    → IsFirstLeast (price s) (maps ++ next.mapping ∷ []) (cheaper best next).mapping
cheaper_least s maps best next old new least =
    cond_both (nat_lt next.cost best.cost) next best (λ p. IsFirstLeast (price s) (maps ++ next.mapping ∷ []) p.mapping)
    (λ below. least_taken (price s) maps best.mapping next.mapping least (let lt : next.cost < best.cost = ltb-true next.cost best.cost below in omega (arith, old.cost, new.cost)))
    (λ above. least_kept (price s) maps best.mapping next.mapping least (let le : best.cost ≤ next.cost = ltb-false next.cost best.cost above in omega (arith, old.cost, new.cost)))
