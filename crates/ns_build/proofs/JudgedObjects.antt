-- The tasks of the commands that make objects fit the network.
use Rattle.std.proofs.Common.{◌≡◌, ℕ, ◌<◌, ◌≤◌, Bool, true, false, List, [], ◌∷◌, ◌++◌, length, Option, Some, None, Ok, refl, subst, arith}
use Rattle.std.specs.Prelude.{nat_lt, nat_le, not, codes, ◌||◌, ◌&&◌, ◌==◌}
use Rattle.std.specs.List.{list_all}
use Rattle.std.proofs.lemmas.Bool.{lt-ltb, le-leb, and_from, leb-false, ltb-false}
use Rattle.lab_base.specs.declared.fault.Kind.TheVariants as kinds
use Rattle.lab_base.specs.Names.{same_name}
use Rattle.virt_topo.specs.declared.wiring.VirtEnd.{VirtEnd}
use Rattle.virt_topo.specs.Repeats.{stands_again}
use Rattle.virt_topo.specs.Soundness.{is_between, is_address, is_speed, are_rates}
use Rattle.virt_topo.specs.Topos.{most_ends}
use Rattle.ns_build.specs.declared.keywords.Verb.{Verb}
use Rattle.ns_build.specs.declared.keywords.Verb.TheVariants as verbs
use Rattle.ns_build.specs.declared.task.Task.{Task}
use Rattle.ns_build.specs.declared.task.Task.TheVariants as tasks
use Rattle.ns_build.specs.Networks.{Network, next_node, next_link, fresh_link, lossless, bare_end, has_end}
use Rattle.ns_build.specs.Words.{node_of, elements_of}
use Rattle.ns_build.specs.Checks.{each, need, refuse, word_at, counted, bandwidth_in, delay_in}
use Rattle.ns_build.specs.Keywords.{verb_of}
use Rattle.ns_build.specs.Commands.{judged_new, judged_source, judged_node, link_room, new_link, judged_link, with_end, judged_lan, judged_routes, judged_run, judged_verb, judged_simulator}
use Rattle.ns_build.proofs.Elements.{all_push}
use Rattle.ns_build.proofs.NamesDiffer.{again_push}
use Rattle.ns_build.proofs.Quantities.{speed_fits, delay_fits}
use Rattle.ns_build.proofs.KeepingEvents.{judged_at_fits}
use Rattle.ns_build.proofs.KeepingLinks.{limits_of}
use Rattle.ns_build.proofs.Fitting.{FitsNode, FitsLink, Fits}
use Rattle.ns_build.proofs.Chains.{fault_of, okay, then_ok, need_ok, refuse_ok, ok_is, each_keeps, index_is_below}

-- QUANTITIES

rates_fit : (fast slow : List ℕ) (kbps micros : ℕ) → bandwidth_in fast ≡ Ok kbps → delay_in slow ≡ Ok micros → are_rates (lossless kbps micros) ≡ true
rates_fit fast slow kbps micros h g =
    and_from (is_speed kbps) (nat_le micros 10000000 && nat_le 0 1000000) (speed_fits fast kbps h) (and_from (nat_le micros 10000000) (nat_le 0 1000000) (delay_fits slow micros g) (le-leb 0 1000000 (omega arith)))

-- ENDS

record AreEnds (n : Network) (ends : List VirtEnd) : Type 0 where
  known : list_all (λ e. nat_lt e.node (length n.nodes)) ends ≡ true
  addresses : list_all (λ e. is_address e.address) ends ≡ true
  differ : stands_again (λ a b. a.node == b.node) ends ≡ false

one_more : (n : Network) (ends : List VirtEnd) (v : ℕ) → AreEnds n ends → v < length n.nodes → has_end v ends ≡ false → AreEnds n (ends ++ bare_end v ∷ [])
one_more n ends v are lt new = record {
  known = all_push (λ (e : VirtEnd). nat_lt e.node (length n.nodes)) ends (bare_end v) are.known (lt-ltb v (length n.nodes) lt);
  addresses = all_push (λ (e : VirtEnd). is_address e.address) ends (bare_end v) are.addresses refl;
  differ = again_push (λ (a b : VirtEnd). a.node == b.node) ends (bare_end v) are.differ new;
}

node_below : (n : Network) (word : List ℕ) (v : ℕ) → need kinds.Node (node_of n word) ≡ Ok v → v < length n.nodes
node_below n word v h = index_is_below (codes ":n") (length n.nodes) word v (need_ok kinds.Node (node_of n word) v h)

with_end_fits : (n : Network) (ends : List VirtEnd) (word : List ℕ) (more : List VirtEnd) → AreEnds n ends → with_end n ends word ≡ Ok more → AreEnds n more
unfolding with_end
with_end_fits n ends word more are h =
    let v = then_ok (need kinds.Node (node_of n word)) _ more h in
    let differ = then_ok (refuse kinds.Twice (has_end v.0 ends)) _ more v.2 in
    subst (AreEnds n) (ok_is (ends ++ bare_end v.0 ∷ []) more differ.2) (one_more n ends v.0 are (node_below n word v.0 v.1) (refuse_ok kinds.Twice (has_end v.0 ends) differ.0 differ.1))

no_ends : (n : Network) → AreEnds n []
no_ends n = record { known = refl; addresses = refl; differ = refl }

-- LINKS AND LANS

link_fits : (n : Network) (lan : Bool) (kbps micros : ℕ) (ends : List VirtEnd) (u : Unit {0}) → link_room n ≡ Ok u → are_rates (lossless kbps micros) ≡ true
    → is_between 2 (most_ends lan) (length ends) ≡ true → AreEnds n ends → FitsLink n (fresh_link (next_link n) lan (lossless kbps micros) ends)
link_fits n lan kbps micros ends u room rates count are = record {
  few = leb-false 512 (length n.links) (refuse_ok kinds.Limit (nat_le 512 (length n.links)) u room);
  name = refl;
  limits = limits_of (fresh_link (next_link n) lan (lossless kbps micros) ends) rates count are.addresses;
  known = are.known;
  differ = are.differ;
}

new_link_fits : (n : Network) (lan : Bool) (kbps micros : ℕ) (ends : List VirtEnd) (u : Unit {0}) (task : Task) → link_room n ≡ Ok u → are_rates (lossless kbps micros) ≡ true
    → is_between 2 (most_ends lan) (length ends) ≡ true → AreEnds n ends → okay (new_link n lan kbps micros ends) ≡ Ok task → Fits n task
unfolding new_link
new_link_fits n lan kbps micros ends u task room rates count are h =
    subst (Fits n) (ok_is (tasks.AddLink (fresh_link (next_link n) lan (lossless kbps micros) ends)) task h) (link_fits n lan kbps micros ends u room rates count are)

pub judged_link_fits : (n : Network) (words : List (List ℕ)) (task : Task) → judged_link n words ≡ Ok task → Fits n task
unfolding judged_link
judged_link_fits n words task h =
    let form = then_ok (counted 7 words) _ task h in
    let a = then_ok (need kinds.Node (node_of n (word_at words 2))) _ task form.2 in
    let b = then_ok (need kinds.Node (node_of n (word_at words 3))) _ task a.2 in
    let differ = then_ok (refuse kinds.Twice (a.0 == b.0)) _ task b.2 in
    let kbps = then_ok (bandwidth_in (word_at words 4)) _ task differ.2 in
    let micros = then_ok (delay_in (word_at words 5)) _ task kbps.2 in
    let queue = then_ok (refuse kinds.Unsupported (not (same_name (word_at words 6) (codes "DropTail")))) _ task micros.2 in
    let room = then_ok (link_room n) _ task queue.2 in
    let one : AreEnds n (bare_end a.0 ∷ []) = one_more n [] a.0 (no_ends n) (node_below n (word_at words 2) a.0 a.1) refl in
    let two : AreEnds n (bare_end a.0 ∷ bare_end b.0 ∷ []) = one_more n (bare_end a.0 ∷ []) b.0 one (node_below n (word_at words 3) b.0 b.1) (or_none (a.0 == b.0) (refuse_ok kinds.Twice (a.0 == b.0) differ.0 differ.1)) in
    new_link_fits n false kbps.0 micros.0 (bare_end a.0 ∷ bare_end b.0 ∷ []) room.0 task room.1 (rates_fit (word_at words 4) (word_at words 5) kbps.0 micros.0 kbps.1 micros.1) refl two room.2
  where
    or_none : (t : Bool) → t ≡ false → (t || false) ≡ false
    or_none t e = rw e refl

pub judged_lan_fits : (n : Network) (words : List (List ℕ)) (task : Task) → judged_lan n words ≡ Ok task → Fits n task
unfolding judged_lan
judged_lan_fits n words task h =
    let form = then_ok (counted 5 words) _ task h in
    let ends = then_ok (each (with_end n) [] (elements_of (word_at words 2))) _ task form.2 in
    let enough = then_ok (refuse kinds.Node (nat_lt (length ends.0) 2)) _ task ends.2 in
    let few = then_ok (refuse kinds.Limit (nat_lt 254 (length ends.0))) _ task enough.2 in
    let kbps = then_ok (bandwidth_in (word_at words 3)) _ task few.2 in
    let micros = then_ok (delay_in (word_at words 4)) _ task kbps.2 in
    let room = then_ok (link_room n) _ task micros.2 in
    let least : 2 ≤ length ends.0 = ltb-false (length ends.0) 2 (refuse_ok kinds.Node (nat_lt (length ends.0) 2) enough.0 enough.1) in
    let most : length ends.0 ≤ 254 = ltb-false 254 (length ends.0) (refuse_ok kinds.Limit (nat_lt 254 (length ends.0)) few.0 few.1) in
    let count : is_between 2 254 (length ends.0) ≡ true = and_from (nat_le 2 (length ends.0)) (nat_le (length ends.0) 254) (le-leb 2 (length ends.0) least) (le-leb (length ends.0) 254 most) in
    new_link_fits n true kbps.0 micros.0 ends.0 room.0 task room.1 (rates_fit (word_at words 3) (word_at words 4) kbps.0 micros.0 kbps.1 micros.1) count
    (each_keeps (AreEnds n) (with_end n) (with_end_fits n) (elements_of (word_at words 2)) [] ends.0 (no_ends n) ends.1) room.2

-- THE OTHERS

pub judged_node_fits : (n : Network) (words : List (List ℕ)) (task : Task) → judged_node n words ≡ Ok task → Fits n task
unfolding judged_node
judged_node_fits n words task h =
    let form = then_ok (counted 2 words) _ task h in
    let room = then_ok (refuse kinds.Limit (nat_le 256 (length n.nodes))) _ task form.2 in
    let fit : FitsNode n (next_node n) = record { few = leb-false 256 (length n.nodes) (refuse_ok kinds.Limit (nat_le 256 (length n.nodes)) room.0 room.1); next = refl } in
    subst (Fits n) (ok_is (tasks.AddNode (next_node n)) task room.2) fit

pub judged_new_fits : (n : Network) (words : List (List ℕ)) (task : Task) → judged_new n words ≡ Ok task → Fits n task
unfolding judged_new
judged_new_fits n words task h =
    let form = then_ok (counted 2 words) _ task h in
    let kept = then_ok (refuse kinds.Unsupported (not (same_name (word_at words 1) (codes "Simulator")))) _ task form.2 in
    let first = then_ok (refuse kinds.Twice n.simulator) _ task kept.2 in
    subst (Fits n) (ok_is tasks.MakeSimulator task first.2) tt

pub judged_source_fits : (n : Network) (words : List (List ℕ)) (task : Task) → judged_source words ≡ Ok task → Fits n task
unfolding judged_source
judged_source_fits n words task h =
    let form = then_ok (counted 2 words) _ task h in
    let kept = then_ok (refuse kinds.Unsupported (not (same_name (word_at words 1) (codes "tb_compat.tcl")))) _ task form.2 in
    subst (Fits n) (ok_is tasks.Nothing task kept.2) tt

judged_routes_fits : (n : Network) (words : List (List ℕ)) (task : Task) → judged_routes words ≡ Ok task → Fits n task
unfolding judged_routes
judged_routes_fits n words task h =
    let form = then_ok (counted 3 words) _ task h in
    let kept = then_ok (refuse kinds.Unsupported (not (same_name (word_at words 2) (codes "Static") || same_name (word_at words 2) (codes "Manual")))) _ task form.2 in
    subst (Fits n) (ok_is tasks.Nothing task kept.2) tt

judged_run_fits : (n : Network) (words : List (List ℕ)) (task : Task) → judged_run words ≡ Ok task → Fits n task
unfolding judged_run
judged_run_fits n words task h =
    let form = then_ok (counted 2 words) _ task h in
    subst (Fits n) (ok_is tasks.Stop task form.2) tt

judged_verb_fits : (line : ℕ) (n : Network) (verb : Option Verb) (words : List (List ℕ)) (task : Task) → judged_verb line n verb words ≡ Ok task → Fits n task
unfolding judged_verb
judged_verb_fits line n (Some verbs.MakeNode) words task h = judged_node_fits n words task h
judged_verb_fits line n (Some verbs.DuplexLink) words task h = judged_link_fits n words task h
judged_verb_fits line n (Some verbs.MakeLan) words task h = judged_lan_fits n words task h
judged_verb_fits line n (Some verbs.RouteBy) words task h = judged_routes_fits n words task h
judged_verb_fits line n (Some verbs.At) words task h = judged_at_fits line n words task h
judged_verb_fits line n (Some verbs.Run) words task h = judged_run_fits n words task h
judged_verb_fits line n None words task h = absurd (let e : fault_of Task kinds.Unsupported ≡ Ok task = h in cc)

pub judged_simulator_fits : (line : ℕ) (n : Network) (words : List (List ℕ)) (task : Task) → judged_simulator line n words ≡ Ok task → Fits n task
unfolding judged_simulator
judged_simulator_fits line n words task h =
    let form = then_ok (refuse kinds.Arity (nat_lt (length words) 2)) _ task h in
    judged_verb_fits line n (verb_of (word_at words 1)) words task form.2
