-- The loads of ends on their interfaces, one after another.
use Rattle.std.specs.Prelude.{replicate}
use Rattle.std.proofs.Common.{◌≡◌, ℕ, zero, suc, ◌+◌, ◌<◌, ◌≤◌, List, [], ◌∷◌, ◌++◌, length, drop, get_or, refl, sym, ap, ◌∙◌, arith, append_assoc, length-append}
use Rattle.std.proofs.lemmas.List.{drop_all, append-nil, length-replicate, length-map}
use Rattle.lab_base.proofs.Lists.{item_at}
use Rattle.virt_topo.specs.declared.loads.Load.{Load}
use Rattle.virt_topo.specs.declared.wiring.Segment.{Segment}
use Rattle.virt_topo.specs.Ends.{end_nodes}
use Rattle.virt_topo.specs.Loads.{load_of, loads_from}

pub replicate-push : {X : Type 0} (n : ℕ) (x : X) → replicate n x ++ x ∷ [] ≡ replicate (n + 1) x
replicate-push zero x = refl
replicate-push {X} (suc n) x =
    let next : suc (n + 1) ≡ suc n + 1 = omega arith in
    ap (λ (l : List X). x ∷ l) (replicate-push n x) ∙ ap (λ (k : ℕ). replicate k x) next

pub loads_next : (segments : List Segment) (i : ℕ) (s : Segment) → i < length segments → s ≡ get_or segments i s
    → loads_from i (drop i segments) ≡ replicate (length s.ends) (load_of i s) ++ loads_from (i + 1) (drop (i + 1) segments)
loads_next segments i s lt is = ap (λ (l : List Segment). loads_from i l) (item_at segments i s lt is)

-- with one segment more
pub loads_step : (segments : List Segment) (i : ℕ) (s : Segment) (old new : List Load) → i < length segments → s ≡ get_or segments i s
    → new ≡ old ++ replicate (length s.ends) (load_of i s) → old ++ loads_from i (drop i segments) ≡ loads_from 0 segments
    → new ++ loads_from (i + 1) (drop (i + 1) segments) ≡ loads_from 0 segments
loads_step segments i s old new lt is made inv =
    let rest = loads_from (i + 1) (drop (i + 1) segments) in
    ap (λ (l : List Load). l ++ rest) made ∙ append_assoc old (replicate (length s.ends) (load_of i s)) rest
    ∙ sym (ap (λ (l : List Load). old ++ l) (loads_next segments i s lt is)) ∙ inv

pub loads_end : (segments : List Segment) (i : ℕ) (all : List Load) → length segments ≤ i → all ++ loads_from i (drop i segments) ≡ loads_from 0 segments → all ≡ loads_from 0 segments
loads_end segments i all le inv = sym (append-nil all) ∙ ap (λ (l : List Segment). all ++ loads_from i l) (sym (drop_all i segments le)) ∙ inv

pub length-loads : (n : ℕ) (segments : List Segment) → length (loads_from n segments) ≡ length (end_nodes segments)
length-loads n [] = refl
length-loads n (s ∷ segments) =
    let rest = length-loads (n + 1) segments in
    let left = length-append (replicate (length s.ends) (load_of n s)) (loads_from (n + 1) segments) in
    let right = length-append (Rattle.virt_topo.proofs.EndLaws.nodes_of s.ends) (end_nodes segments) in
    omega (arith, left, right, rest, length-replicate (length s.ends) (load_of n s), length-map s.ends (λ e. e.node))
