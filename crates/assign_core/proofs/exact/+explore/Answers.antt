use Rattle.std.proofs.Common.{◌≡◌, ◌<◌, ◌≤◌, ◌∙◌, ◌+◌, ◌-◌, ◌++◌, ◌∷◌, [], ℕ, List, length, take, drop, get_or, Contains, Option, IfSome, refl, sym, ap, subst, append_assoc, length-append, arith}
use Rattle.std.specs.List.{cons_option}
use Rattle.std.proofs.Math.ListN.{set}
use Rattle.std.proofs.Math.Seq.{take-append_seam}
use Rattle.std.proofs.lemmas.List.{take_all, drop_all, append-nil, get_or_default, length-drop, take_more_set}
use Rattle.virt_topo.specs.declared.mapping.Mapping.{Mapping}
use Rattle.lab_model.specs.Shapes.{Place}
use Rattle.lab_model.specs.Rules.{no_place}
use Rattle.node_maps.proofs.MapLaws.{candidates_count}
use Rattle.map_anneal.specs.declared.priced.Priced.{Priced}
use Rattle.map_anneal.specs.Sought.{Sought, choices, mapped}
use Rattle.map_anneal.specs.Searches.{sought_of}
use Rattle.assign_core.specs.Bests.{IsBest}
use Rattle.assign_core.specs.declared.prefix.Prefix.{Prefix}
use Rattle.assign_core.specs.Prefixes.{ArePassed, first_parts}
use Rattle.assign_core.proofs.Choosing.{best_free, found, with_each, found_none, found_one_more, found_split, found_here, found_whole, begun_alike}
use Rattle.assign_core.proofs.Passing.{passed_over}
use Rattle.assign_core.proofs.exact.+explore.Goals as goal

-- the best map after one candidate more
best_more : (s : Sought) (maps : List Mapping) (places items : List Place) (k : ℕ) (x : Place) (o : Option Priced) → k < length items → x ≡ get_or items k no_place
    → IsBest s ((maps ++ found s (with_each places (take k items)) (drop (length places + 1) (choices s))) ++ found s ((places ++ x ∷ []) ∷ []) (drop (length places + 1) (choices s))) o
    → IsBest s (maps ++ found s (with_each places (take (k + 1) items)) (drop (length places + 1) (choices s))) o
best_more s maps places items k x o lt is h =
    let rest = drop (length places + 1) (choices s) in
    let here : x ≡ get_or items k x = is ∙ get_or_default items k no_place x lt in
    let same = append_assoc maps (found s (with_each places (take k items)) rest) (found s ((places ++ x ∷ []) ∷ []) rest)
    ∙ ap (λ (xs : List Mapping). maps ++ xs) (sym (found_one_more s places items k x rest lt here)) in
    subst (λ (xs : List Mapping). IsBest s xs o) same h

pub returns-then-next-len-clause-best : goal.returns-then-next-len-clause-best
returns-then-next-len-clause-best g t c = λ maps h.
    let s = sought_of c.args.search.now c.args.rule.now.number in
    let first = c.args.prefix.now.places.items in
    let n = length first in
    let places = c.args.chosen.now.state.mapping.places in
    let whole : length (choices s) ≤ n = omega (arith, c.if-next-len.true, c.len-next.ensures, c.args.prefix.now.places.ok.0, c.len.ensures, ap length c.requires.search.listed) in
    let count = c.requires.chosen.state.choice.one_each in
    let all : first ≡ places = sym c.requires.begun ∙ take_all n places (omega (arith, whole, count)) in
    let same : found s (first ∷ []) (drop n (choices s)) ≡ cons_option (mapped s places) [] =
    ap (λ (p : List Place). found s (p ∷ []) (drop n (choices s))) all ∙ found_whole s places (drop n (choices s)) (drop_all n (choices s) whole) in
    subst (λ (xs : List Mapping). IsBest s (maps ++ xs) c.in_ok-after.after) (sym same) (c.in_ok-after.ensures.best maps h)

pub returns-then-next-len-clause-begun : goal.returns-then-next-len-clause-begun
returns-then-next-len-clause-begun g t c = ap (take (length c.args.prefix.now.places.items)) c.in_ok-after.ensures.places ∙ c.requires.begun

pub loop-number-init : goal.loop-number-init
loop-number-init g t c =
    let s = sought_of c.args.search.now c.args.rule.now.number in
    let rest = drop (length c.args.prefix.now.places.items + 1) (choices s) in
    record {
      prefix = c.requires.prefix;
      places = refl;
      chosen = c.requires.chosen;
      begun = c.requires.begun;
      rest = λ none. none;
      priced = c.requires.priced;
      best = λ maps h.
          let same : maps ++ found s [] rest ≡ maps = ap (λ (xs : List Mapping). maps ++ xs) (found_none s rest) ∙ append-nil maps in
          subst (λ (xs : List Mapping). IsBest s xs c.args.best) (sym same) h;
    }

pub enter-requires-clause-prefix : goal.enter-requires-clause-prefix
enter-requires-clause-prefix g t c = c.loop-number.invariant.prefix

pub enter-requires-clause-more : goal.enter-requires-clause-more
enter-requires-clause-more g t c =
    let x = c.args.search.now.mapper in
    let within = c.loop-number.invariant.prefix.within in
    omega (arith, ap length c.loop-number.invariant.places, within, c.if-next-len.false, c.len-next.ensures, c.args.prefix.now.places.ok.0, c.len.ensures, ap length c.requires.search.listed, candidates_count x.lab.now x.free.now x.wiring.now)

pub enter-requires-clause-number : goal.enter-requires-clause-number
enter-requires-clause-number g t c =
    let cs = c.args.search.now.candidates.now in
    let next : c.len-next.result ≡ length c.args.prefix.now.places.items = omega (arith, c.len-next.ensures, c.args.prefix.now.places.ok.0) in
    let own = ap (λ (j : ℕ). length (get_or cs j [])) next in
    let same = ap (λ (ps : List Place). length (get_or cs (length ps) [])) c.loop-number.invariant.places in
    omega (arith, c.loop-number-test.true, c.count-number-end.ensures, own, same)

-- no map that begins with the candidate is cheaper
pub loop-number-preserved-in_default : goal.loop-number-preserved-in_default
loop-number-preserved-in_default g t c =
    let x = c.args.search.now.mapper in
    let s = sought_of c.args.search.now c.args.rule.now.number in
    let first = c.args.prefix.now.places.items in
    let n = length first in
    let k = c.loop-number.number in
    let items = get_or (choices s) n [] in
    let p = get_or items k no_place in
    let rest = drop (n + 1) (choices s) in
    let known = c.loop-number.invariant in
    let count = candidates_count x.lab.now x.free.now x.wiring.now in
    let next : c.len-next.result ≡ n = omega (arith, c.len-next.ensures, c.args.prefix.now.places.ok.0) in
    let own = ap (λ (j : ℕ). length (get_or c.args.search.now.candidates.now j [])) next in
    let listed = ap (λ (cs : List (List Place)). length (get_or cs n [])) c.requires.search.listed in
    let k_lt : k < length items = omega (arith, c.loop-number-test.true, c.count-number-end.ensures, own, listed) in
    let within = c.requires.prefix.within in
    let lt : n < length (choices s) = omega (arith, within, next, c.if-next-len.false, c.len.ensures, ap length c.requires.search.listed, count) in
    let same = c.in_ok-place.ensures.same c.in_default.is in
    let here = c.in_ok-place.ensures.passed c.in_default.is in
    let at_first : ArePassed s (first ++ get_or (get_or c.args.search.now.candidates.now n []) k no_place ∷ []) c.loop-number.kept =
    subst (λ (ps : List Place). ArePassed s (ps ++ get_or (get_or c.args.search.now.candidates.now (length ps) []) k no_place ∷ []) c.loop-number.kept) known.places here in
    let passed : ArePassed s (first ++ p ∷ []) c.loop-number.kept =
    subst (λ (cs : List (List Place)). ArePassed s (first ++ get_or (get_or cs n []) k no_place ∷ []) c.loop-number.kept) c.requires.search.listed at_first in
    let long : length (first ++ p ∷ []) + length rest ≡ length s.wiring.nodes = omega (arith, length-append first (p ∷ []), length-drop (n + 1) (choices s), lt, count) in
    record {
      prefix = c.in_ok-place.ensures.prefix;
      places = ap (λ (q : Prefix). q.places.items) same ∙ known.places;
      chosen = known.chosen;
      begun = known.begun;
      rest = known.rest;
      priced = known.priced;
      best = λ maps h.
          best_more s maps first items k p c.loop-number.kept k_lt refl
          (passed_over s (maps ++ found s (with_each first (take k items)) rest) c.loop-number.kept (first ++ p ∷ []) rest passed long (known.best maps h));
    }

pub put-requires-clause-virt : goal.put-requires-clause-virt
put-requires-clause-virt g t c =
    let x = c.args.search.now.mapper in
    let within = c.requires.prefix.within in
    let all = candidates_count x.lab.now x.free.now x.wiring.now in
    omega (arith, within, c.if-next-len.false, c.len-next.ensures, c.args.prefix.now.places.ok.0, c.len.ensures, ap length c.requires.search.listed, all)

pub put-requires-clause-among : goal.put-requires-clause-among
put-requires-clause-among g t c =
    let cs = c.args.search.now.candidates.now in
    let n = length c.args.prefix.now.places.items in
    let k = c.loop-number.number in
    let next : c.len-next.result ≡ n = omega (arith, c.len-next.ensures, c.args.prefix.now.places.ok.0) in
    let k_lt : k < length (get_or cs c.len-next.result []) = omega (arith, c.loop-number-test.true, c.count-number-end.ensures) in
    let named = subst (λ (o : Option Place). IfSome o (λ q. q ≡ get_or (get_or cs (length c.loop-number.prefix.places.items) []) k no_place)) c.in-Some.is c.in_ok-place.ensures.named in
    let is : c.in-Some.place ≡ get_or (get_or cs c.len-next.result []) k no_place =
    named ∙ ap (λ (ps : List Place). get_or (get_or cs (length ps) []) k no_place) c.loop-number.invariant.places ∙ ap (λ (j : ℕ). get_or (get_or cs j []) k no_place) (sym next) in
    subst (λ (all : List (List Place)). Contains (get_or all c.len-next.result []) c.in-Some.place) c.requires.search.listed
    (k, k_lt, get_or_default (get_or cs c.len-next.result []) k c.in-Some.place no_place k_lt ∙ sym is)

pub explore-requires : goal.explore-requires
explore-requires g t c =
    let x = c.in-Some.place in
    let first = c.args.prefix.now.places.items in
    let n = length first in
    let known = c.loop-number.invariant in
    let entered : c.enter.new.self.places.items ≡ first ++ x ∷ [] =
    subst (λ (o : Option Place). IfSome o (λ q. c.enter.new.self.places.items ≡ c.loop-number.prefix.places.items ++ q ∷ [])) c.in-Some.is c.in_ok-place.ensures.places
    ∙ ap (λ (ps : List Place). ps ++ x ∷ []) known.places in
    let long = length-append first (x ∷ []) in
    let next : c.len-next.result ≡ n = omega (arith, c.len-next.ensures, c.args.prefix.now.places.ok.0) in
    let before = c.loop-number.chosen.state.mapping.places in
    let count = known.chosen.state.choice.one_each in
    let within = c.requires.prefix.within in
    let all = candidates_count c.args.search.now.mapper.lab.now c.args.search.now.mapper.free.now c.args.search.now.mapper.wiring.now in
    let less : n < length c.args.search.now.candidates.now = omega (arith, within, next, c.if-next-len.false, c.len.ensures, ap length c.requires.search.listed, all) in
    let lt : n < length before = omega (arith, less, ap length c.requires.search.listed, count) in
    let grown : length c.enter.new.self.places.items ≡ n + 1 = omega (arith, ap length entered, long) in
    let put = c.put.new.self.state.mapping.places in
    let more : take (n + 1) put ≡ first ++ x ∷ [] =
    ap (take (n + 1)) (c.put.ensures.places ∙ ap (λ (j : ℕ). set before j x) next) ∙ take_more_set before n x lt ∙ ap (λ (l : List Place). l ++ x ∷ []) known.begun in (
      omega (arith, c.decreases, less, grown),
      (c.requires.search, (c.in_ok-place.ensures.prefix, (c.put.ensures.chosen, (ap (λ (j : ℕ). take j put) grown ∙ more ∙ sym entered, (known.priced, λ none. c.requires.resting (known.rest (c.put.ensures.rest none))))))),
    )

pub leave-requires-clause-prefix : goal.leave-requires-clause-prefix
leave-requires-clause-prefix g t c = c.in_ok-kept.ensures.prefix

pub leave-requires-clause-some : goal.leave-requires-clause-some
leave-requires-clause-some g t c =
    let x = c.in-Some.place in
    let first = c.args.prefix.now.places.items in
    let n = length first in
    let known = c.loop-number.invariant in
    let entered : c.enter.new.self.places.items ≡ first ++ x ∷ [] =
    subst (λ (o : Option Place). IfSome o (λ q. c.enter.new.self.places.items ≡ c.loop-number.prefix.places.items ++ q ∷ [])) c.in-Some.is c.in_ok-place.ensures.places
    ∙ ap (λ (ps : List Place). ps ++ x ∷ []) known.places in
    let long = length-append first (x ∷ []) in
    let gone : c.explore.new.prefix.places.items ≡ first ++ x ∷ [] = c.in_ok-kept.ensures.places ∙ entered in
    let one : length (first ++ x ∷ []) - 1 ≡ n = omega (arith, long) in
    let back : take (length c.explore.new.prefix.places.items - 1) c.explore.new.prefix.places.items ≡ first =
    ap (λ (l : List Place). take (length l - 1) l) gone ∙ ap (λ (j : ℕ). take j (first ++ x ∷ [])) one ∙ take-append_seam first (x ∷ []) in
    omega (arith, ap length gone, long)

pub leave-requires-clause-parts : goal.leave-requires-clause-parts
leave-requires-clause-parts g t c =
    let x = c.in-Some.place in
    let first = c.args.prefix.now.places.items in
    let n = length first in
    let known = c.loop-number.invariant in
    let entered : c.enter.new.self.places.items ≡ first ++ x ∷ [] =
    subst (λ (o : Option Place). IfSome o (λ q. c.enter.new.self.places.items ≡ c.loop-number.prefix.places.items ++ q ∷ [])) c.in-Some.is c.in_ok-place.ensures.places
    ∙ ap (λ (ps : List Place). ps ++ x ∷ []) known.places in
    let long = length-append first (x ∷ []) in
    let gone : c.explore.new.prefix.places.items ≡ first ++ x ∷ [] = c.in_ok-kept.ensures.places ∙ entered in
    let one : length (first ++ x ∷ []) - 1 ≡ n = omega (arith, long) in
    let back : take (length c.explore.new.prefix.places.items - 1) c.explore.new.prefix.places.items ≡ first =
    ap (λ (l : List Place). take (length l - 1) l) gone ∙ ap (λ (j : ℕ). take j (first ++ x ∷ [])) one ∙ take-append_seam first (x ∷ []) in
    c.requires.prefix.parts ∙ ap (first_parts c.args.search.now.mapper.lab.now c.args.search.now.mapper.wiring.now) (sym back)

pub loop-number-preserved : goal.loop-number-preserved
loop-number-preserved g t c =
    let x = c.in-Some.place in
    let first = c.args.prefix.now.places.items in
    let n = length first in
    let known = c.loop-number.invariant in
    let entered : c.enter.new.self.places.items ≡ first ++ x ∷ [] =
    subst (λ (o : Option Place). IfSome o (λ q. c.enter.new.self.places.items ≡ c.loop-number.prefix.places.items ++ q ∷ [])) c.in-Some.is c.in_ok-place.ensures.places
    ∙ ap (λ (ps : List Place). ps ++ x ∷ []) known.places in
    let long = length-append first (x ∷ []) in
    let gone : c.explore.new.prefix.places.items ≡ first ++ x ∷ [] = c.in_ok-kept.ensures.places ∙ entered in
    let one : length (first ++ x ∷ []) - 1 ≡ n = omega (arith, long) in
    let back : take (length c.explore.new.prefix.places.items - 1) c.explore.new.prefix.places.items ≡ first =
    ap (λ (l : List Place). take (length l - 1) l) gone ∙ ap (λ (j : ℕ). take j (first ++ x ∷ [])) one ∙ take-append_seam first (x ∷ []) in
    let last = c.explore.new.chosen.state.mapping.places in
    let grown : length c.enter.new.self.places.items ≡ n + 1 = omega (arith, ap length entered, long) in
    let here : take (n + 1) last ≡ first ++ x ∷ [] = ap (λ (j : ℕ). take j last) (sym grown) ∙ c.in_ok-kept.ensures.begun ∙ entered in
    let kept_begun : take n last ≡ first =
    begun_alike n last (first ++ x ∷ []) (here ∙ sym (take_all (n + 1) (first ++ x ∷ []) (omega (arith, long)))) ∙ take-append_seam first (x ∷ []) in
    let s = sought_of c.args.search.now c.args.rule.now.number in
    let items = get_or (choices s) n [] in
    let k = c.loop-number.number in
    let rest = drop (n + 1) (choices s) in
    let next : c.len-next.result ≡ n = omega (arith, c.len-next.ensures, c.args.prefix.now.places.ok.0) in
    let own = ap (λ (j : ℕ). length (get_or c.args.search.now.candidates.now j [])) next in
    let listed = ap (λ (cs : List (List Place)). length (get_or cs n [])) c.requires.search.listed in
    let k_lt : k < length items = omega (arith, c.loop-number-test.true, c.count-number-end.ensures, own, listed) in
    let named = subst (λ (o : Option Place). IfSome o (λ q. q ≡ get_or (get_or c.args.search.now.candidates.now (length c.loop-number.prefix.places.items) []) k no_place)) c.in-Some.is c.in_ok-place.ensures.named in
    let is : x ≡ get_or items k no_place =
    named ∙ ap (λ (ps : List Place). get_or (get_or c.args.search.now.candidates.now (length ps) []) k no_place) known.places
    ∙ ap (λ (cs : List (List Place)). get_or (get_or cs n []) k no_place) c.requires.search.listed in
    let more : (maps : List Mapping) → IsBest s maps c.args.best → IsBest s (maps ++ found s (with_each first (take (k + 1) items)) rest) c.in_ok-kept.kept =
    λ maps h.
    let so_far = maps ++ found s (with_each first (take k items)) rest in
    let one_more : IsBest s (so_far ++ found s (c.enter.new.self.places.items ∷ []) (drop (length c.enter.new.self.places.items) (choices s))) c.in_ok-kept.kept =
    c.in_ok-kept.ensures.best so_far (known.best maps h) in
    let at_first : IsBest s (so_far ++ found s ((first ++ x ∷ []) ∷ []) (drop (length (first ++ x ∷ [])) (choices s))) c.in_ok-kept.kept =
    subst (λ (ps : List Place). IsBest s (so_far ++ found s (ps ∷ []) (drop (length ps) (choices s))) c.in_ok-kept.kept) entered one_more in
    best_more s maps first items k x c.in_ok-kept.kept k_lt is
    (subst (λ (j : ℕ). IsBest s (so_far ++ found s ((first ++ x ∷ []) ∷ []) (drop j (choices s))) c.in_ok-kept.kept) long at_first) in
    record {
      prefix = c.leave.ensures.prefix;
      places = c.leave.ensures.places ∙ back;
      chosen = c.in_ok-kept.ensures.chosen;
      begun = kept_begun;
      rest = λ none. known.rest (c.put.ensures.rest (c.in_ok-kept.ensures.rest none));
      priced = c.in_ok-kept.ensures.priced;
      best = more;
    }

pub returns-then-is_free-clause-places : goal.returns-then-is_free-clause-places
returns-then-is_free-clause-places g t c =
    let x = c.in-Some.place in
    let first = c.args.prefix.now.places.items in
    let n = length first in
    let known = c.loop-number.invariant in
    let entered : c.enter.new.self.places.items ≡ first ++ x ∷ [] =
    subst (λ (o : Option Place). IfSome o (λ q. c.enter.new.self.places.items ≡ c.loop-number.prefix.places.items ++ q ∷ [])) c.in-Some.is c.in_ok-place.ensures.places
    ∙ ap (λ (ps : List Place). ps ++ x ∷ []) known.places in
    let long = length-append first (x ∷ []) in
    let gone : c.explore.new.prefix.places.items ≡ first ++ x ∷ [] = c.in_ok-kept.ensures.places ∙ entered in
    let one : length (first ++ x ∷ []) - 1 ≡ n = omega (arith, long) in
    let back : take (length c.explore.new.prefix.places.items - 1) c.explore.new.prefix.places.items ≡ first =
    ap (λ (l : List Place). take (length l - 1) l) gone ∙ ap (λ (j : ℕ). take j (first ++ x ∷ [])) one ∙ take-append_seam first (x ∷ []) in
    c.leave.ensures.places ∙ back

pub returns-then-is_free-clause-begun : goal.returns-then-is_free-clause-begun
returns-then-is_free-clause-begun g t c =
    let x = c.in-Some.place in
    let first = c.args.prefix.now.places.items in
    let n = length first in
    let known = c.loop-number.invariant in
    let entered : c.enter.new.self.places.items ≡ first ++ x ∷ [] =
    subst (λ (o : Option Place). IfSome o (λ q. c.enter.new.self.places.items ≡ c.loop-number.prefix.places.items ++ q ∷ [])) c.in-Some.is c.in_ok-place.ensures.places
    ∙ ap (λ (ps : List Place). ps ++ x ∷ []) known.places in
    let long = length-append first (x ∷ []) in
    let last = c.explore.new.chosen.state.mapping.places in
    let grown : length c.enter.new.self.places.items ≡ n + 1 = omega (arith, ap length entered, long) in
    let here : take (n + 1) last ≡ first ++ x ∷ [] = ap (λ (j : ℕ). take j last) (sym grown) ∙ c.in_ok-kept.ensures.begun ∙ entered in
    let kept_begun : take n last ≡ first =
    begun_alike n last (first ++ x ∷ []) (here ∙ sym (take_all (n + 1) (first ++ x ∷ []) (omega (arith, long)))) ∙ take-append_seam first (x ∷ []) in
    kept_begun

pub returns-then-is_free-clause-rest : goal.returns-then-is_free-clause-rest
returns-then-is_free-clause-rest g t c = λ none. c.loop-number.invariant.rest (c.put.ensures.rest (c.in_ok-kept.ensures.rest none))

pub returns-then-is_free-clause-best : goal.returns-then-is_free-clause-best
returns-then-is_free-clause-best g t c = λ maps h.
    let x = c.in-Some.place in
    let first = c.args.prefix.now.places.items in
    let n = length first in
    let known = c.loop-number.invariant in
    let entered : c.enter.new.self.places.items ≡ first ++ x ∷ [] =
    subst (λ (o : Option Place). IfSome o (λ q. c.enter.new.self.places.items ≡ c.loop-number.prefix.places.items ++ q ∷ [])) c.in-Some.is c.in_ok-place.ensures.places
    ∙ ap (λ (ps : List Place). ps ++ x ∷ []) known.places in
    let long = length-append first (x ∷ []) in
    let s = sought_of c.args.search.now c.args.rule.now.number in
    let items = get_or (choices s) n [] in
    let k = c.loop-number.number in
    let rest = drop (n + 1) (choices s) in
    let next : c.len-next.result ≡ n = omega (arith, c.len-next.ensures, c.args.prefix.now.places.ok.0) in
    let own = ap (λ (j : ℕ). length (get_or c.args.search.now.candidates.now j [])) next in
    let listed = ap (λ (cs : List (List Place)). length (get_or cs n [])) c.requires.search.listed in
    let k_lt : k < length items = omega (arith, c.loop-number-test.true, c.count-number-end.ensures, own, listed) in
    let named = subst (λ (o : Option Place). IfSome o (λ q. q ≡ get_or (get_or c.args.search.now.candidates.now (length c.loop-number.prefix.places.items) []) k no_place)) c.in-Some.is c.in_ok-place.ensures.named in
    let is : x ≡ get_or items k no_place =
    named ∙ ap (λ (ps : List Place). get_or (get_or c.args.search.now.candidates.now (length ps) []) k no_place) known.places
    ∙ ap (λ (cs : List (List Place)). get_or (get_or cs n []) k no_place) c.requires.search.listed in
    let more : (maps : List Mapping) → IsBest s maps c.args.best → IsBest s (maps ++ found s (with_each first (take (k + 1) items)) rest) c.in_ok-kept.kept =
    λ maps h.
    let so_far = maps ++ found s (with_each first (take k items)) rest in
    let one_more : IsBest s (so_far ++ found s (c.enter.new.self.places.items ∷ []) (drop (length c.enter.new.self.places.items) (choices s))) c.in_ok-kept.kept =
    c.in_ok-kept.ensures.best so_far (known.best maps h) in
    let at_first : IsBest s (so_far ++ found s ((first ++ x ∷ []) ∷ []) (drop (length (first ++ x ∷ [])) (choices s))) c.in_ok-kept.kept =
    subst (λ (ps : List Place). IsBest s (so_far ++ found s (ps ∷ []) (drop (length ps) (choices s))) c.in_ok-kept.kept) entered one_more in
    best_more s maps first items k x c.in_ok-kept.kept k_lt is
    (subst (λ (j : ℕ). IsBest s (so_far ++ found s ((first ++ x ∷ []) ∷ []) (drop j (choices s))) c.in_ok-kept.kept) long at_first) in
    let now = more maps h in
    let others = found s (with_each first (drop (k + 1) items)) rest in
    let all = best_free s (maps ++ found s (with_each first (take (k + 1) items)) rest) others c.in_ok-kept.kept (sym c.is_free.ensures ∙ c.if-is_free.true) now in
    let within = c.requires.prefix.within in
    let count = candidates_count c.args.search.now.mapper.lab.now c.args.search.now.mapper.free.now c.args.search.now.mapper.wiring.now in
    let lt_all : n < length (choices s) = omega (arith, within, next, c.if-next-len.false, c.len.ensures, ap length c.requires.search.listed, count) in
    let end = append_assoc maps (found s (with_each first (take (k + 1) items)) rest) others
    ∙ ap (λ (xs : List Mapping). maps ++ xs) (sym (found_split s first items (k + 1) rest) ∙ sym (found_here s first (choices s) n lt_all)) in
    subst (λ (xs : List Mapping). IsBest s xs c.in_ok-kept.kept) end all

pub returns-clause-best : goal.returns-clause-best
returns-clause-best g t c = λ maps h.
    let s = sought_of c.args.search.now c.args.rule.now.number in
    let first = c.args.prefix.now.places.items in
    let n = length first in
    let items = get_or (choices s) n [] in
    let rest = drop (n + 1) (choices s) in
    let next : c.len-next.result ≡ n = omega (arith, c.len-next.ensures, c.args.prefix.now.places.ok.0) in
    let own = ap (λ (j : ℕ). length (get_or c.args.search.now.candidates.now j [])) next in
    let listed = ap (λ (cs : List (List Place)). length (get_or cs n [])) c.requires.search.listed in
    let all : take c.loop-number.number items ≡ items = take_all c.loop-number.number items (omega (arith, c.loop-number-test.false, c.count-number-end.ensures, own, listed)) in
    let within = c.requires.prefix.within in
    let count = candidates_count c.args.search.now.mapper.lab.now c.args.search.now.mapper.free.now c.args.search.now.mapper.wiring.now in
    let lt : n < length (choices s) = omega (arith, within, next, c.if-next-len.false, c.len.ensures, ap length c.requires.search.listed, count) in
    let end = ap (λ (xs : List Place). maps ++ found s (with_each first xs) rest) all ∙ ap (λ (xs : List Mapping). maps ++ xs) (sym (found_here s first (choices s) n lt)) in
    subst (λ (xs : List Mapping). IsBest s xs c.loop-number.kept) end (c.loop-number.invariant.best maps h)
