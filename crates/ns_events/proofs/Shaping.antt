-- The rates of an event are those that an expansion gives a shaped link or LAN.
use Rattle.std.proofs.Common.{◌≡◌, ℕ, ◌≤◌, Bool, true, false, List, [], ◌∷◌, length, map, refl, sym, arith}
use Rattle.std.specs.Prelude.{◌==◌, nat_le, if◌then◌else◌}
use Rattle.std.specs.List.{range_with_len}
use Rattle.std.proofs.lemmas.Bool.{and_parts, leb-true}
use Rattle.std.proofs.lemmas.Bool.Decides.{nat_tests}
use Rattle.std.proofs.lemmas.List.FromFn.{length-map-range_with_len}
use Rattle.lab_base.specs.declared.rates.Rates.{Rates}
use Rattle.virt_topo.specs.declared.topo.AskedLink.{AskedLink}
use Rattle.virt_topo.specs.Soundness.{are_rates, is_between}
use Rattle.virt_topo.specs.Topos.{limits_link, most_ends}
use Rattle.net_plan.specs.Parts.{is_shaped, pipes_of, link_pipe, lan_pipe}
use Rattle.ns_events.specs.Changes.{shaped_pipe}

-- two members or more
two_ends : (l : AskedLink) → limits_link l ≡ true → 2 ≤ length l.ends
two_ends l is =
    let p1 = and_parts (are_rates l.rates) _ is in
    let p2 = and_parts (is_between 2 (most_ends l.lan) (length l.ends)) _ p1.1 in
    leb-true 2 (length l.ends) (and_parts (nat_le 2 (length l.ends)) _ p2.0).0

-- each by its node
members : (count : ℕ) (r : Rates) (ns : List ℕ) → (count == 1) ≡ false → map (lan_pipe r) ns ≡ map (λ p. shaped_pipe count r p.node) (map (lan_pipe r) ns)
members count r [] e = refl
members count r (n ∷ ns) e = λ i. (if sym e i then link_pipe r n else lan_pipe r n) ∷ members count r ns e i

pub are_shaped : (first : ℕ) (l : AskedLink) → limits_link l ≡ true → is_shaped l.rates ≡ true
    → pipes_of (first, l) ≡ map (λ p. shaped_pipe (length (pipes_of (first, l))) l.rates p.node) (pipes_of (first, l))
are_shaped first l is shaped = by (is_shaped l.rates) shaped l.lan
  where
    by : (shaped : Bool) → shaped ≡ true → (is_lan : Bool)
        → (if shaped then (if is_lan then map (lan_pipe l.rates) (range_with_len first (length l.ends)) else link_pipe l.rates first ∷ []) else [])
        ≡ map (λ p. shaped_pipe (length (if shaped then (if is_lan then map (lan_pipe l.rates) (range_with_len first (length l.ends)) else link_pipe l.rates first ∷ []) else [])) l.rates p.node)
        (if shaped then (if is_lan then map (lan_pipe l.rates) (range_with_len first (length l.ends)) else link_pipe l.rates first ∷ []) else [])
    by true e true =
        let count = length (map (lan_pipe l.rates) (range_with_len first (length l.ends))) in
        let same : count ≡ length l.ends = length-map-range_with_len (lan_pipe l.rates) first (length l.ends) in
        let many : (count == 1) ≡ false = grind (arith, nat_tests, two_ends l is, same) in
        members count l.rates (range_with_len first (length l.ends)) many
    by true e false = refl
    by false e is_lan = absurd (cc e)
