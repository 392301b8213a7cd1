use Rattle.std.proofs.Common.{◌≡◌, ◌≤◌, ◌<◌, ◌∙◌, ℕ, get_or, All, Option, IfSome, sym, ap, subst, arith}
use Rattle.std.proofs.lemmas.Option.{slice_get-get_or}
use Rattle.virt_topo.specs.declared.mapping.Mapping.{Mapping}
use Rattle.node_maps.specs.NodeMaps.{candidates, IsChoice}
use Rattle.map_anneal.specs.Searches.{sought_of}
use Rattle.map_anneal.specs.Sought.{choices, price, IsNodeMap}
use Rattle.map_anneal.specs.Walk.{walk}
use Rattle.map_anneal.proofs.Prices.{map_shaped}
use Rattle.assign_core.specs.declared.exact.TheConstants.{MAX_CHOICES}
use Rattle.assign_core.specs.Exact.{count}
use Rattle.assign_core.proofs.Found.{map_feasible}
use Rattle.assign_core.proofs.Firsts.{first_fit_mapped}
use Rattle.assign_core.proofs.whole.solve_by.Goals as goal

pub anneal_by-requires-clause-start : goal.anneal_by-requires-clause-start
anneal_by-requires-clause-start g c =
    let x = c.args.search.now.mapper in
    let P : Option Mapping → Type 0 = λ o. IfSome o (λ m. IsChoice (candidates x.lab.now x.free.now x.wiring.now) m.places) in
    record {
      choice = subst P c.in-Some-2.is c.in_ok-start.ensures.choice;
      feasible = first_fit_mapped x.lab.now x.free.now x.wiring.now c.in-Some-2.start (sym c.in_ok-start.ensures.found ∙ c.in-Some-2.is);
    }

pub ask-cost-requires-clause-shaped : goal.ask-cost-requires-clause-shaped
ask-cost-requires-clause-shaped g c =
    let s = sought_of c.args.search.now c.args.rule.now.number in
    map_shaped s c.in_ok-lowest.lowest c.requires.search.mapper.sound c.in_ok-lowest.ensures.best.node_map

pub returns-clause-allowed : goal.returns-clause-allowed
returns-clause-allowed g c =
    let s = sought_of c.args.search.now c.args.rule.now.number in
    let start = c.in-Some-2.start in
    let m = c.in_ok-lowest.lowest in
    let maps = walk s start c.args.seed in
    let least = c.in_ok-annealed.ensures.least in
    let cheaper = c.in_ok-lowest.ensures.cheaper in
    let over : MAX_CHOICES < count c.args.search.now.candidates.now = grind (arith, c.are_few.ensures, c.if-are_few.false) in
    let all : ◌≡◌ {A = ℕ} (count c.args.search.now.candidates.now) (count (choices s)) = ap count c.requires.search.listed in
    let many : MAX_CHOICES < count (choices s) = omega (arith, over, all) in
    let cheap : All (λ x. price s m ≤ price s x) maps = λ k d lt.
    let at_most = least.least k (get_or maps k d) (slice_get-get_or maps k d lt) in
    omega (arith, at_most, cheaper) in
    (start, many, sym c.in_ok-start.ensures.found ∙ c.in-Some-2.is, c.in_ok-lowest.ensures.best, cheap, c.ask-cost.ensures)

pub returns-clause-shaped : goal.returns-clause-shaped
returns-clause-shaped g c =
    let s = sought_of c.args.search.now c.args.rule.now.number in
    map_shaped s c.in_ok-lowest.lowest c.requires.search.mapper.sound c.in_ok-lowest.ensures.best.node_map

pub returns-clause-feasible : goal.returns-clause-feasible
returns-clause-feasible g c =
    map_feasible (sought_of c.args.search.now c.args.rule.now.number) c.in_ok-lowest.lowest c.in_ok-lowest.ensures.best.node_map

pub returns-then-are_few-clause-shaped : goal.returns-then-are_few-clause-shaped
returns-then-are_few-clause-shaped g c =
    let s = sought_of c.args.search.now c.args.rule.now.number in
    let P : Option (Mapping × ℕ) → Type 0 = λ best. IfSome best (λ found. IsNodeMap s found.0) in
    map_shaped s c.in-Some.mapping c.requires.search.mapper.sound (subst P c.in-Some.is c.in_ok-mapping.ensures.node_map)

pub returns-then-are_few-clause-feasible : goal.returns-then-are_few-clause-feasible
returns-then-are_few-clause-feasible g c =
    let s = sought_of c.args.search.now c.args.rule.now.number in
    let P : Option (Mapping × ℕ) → Type 0 = λ best. IfSome best (λ found. IsNodeMap s found.0) in
    map_feasible s c.in-Some.mapping (subst P c.in-Some.is c.in_ok-mapping.ensures.node_map)
