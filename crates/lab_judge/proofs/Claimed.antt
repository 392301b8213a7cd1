-- The numbers of nodes and of VLAN ids that claims have are those that the experiments claim.
use Rattle.std.proofs.Common.{◌≡◌, inl, inr, ℕ, zero, suc, ◌+◌, ◌<◌, ◌≤◌, ◌||◌, Bool, true, false, not, cond, Option, Some, None, List, [], ◌∷◌, ◌++◌, length, map, get_or, refl, sym, ap, ◌∙◌, subst, arith}
use Rattle.std.specs.Prelude.{count_by, if◌then◌else◌}
use Rattle.std.specs.List.{range_with_len}
use Rattle.std.proofs.lemmas.List.Recursion.{is_count_by}
use Rattle.std.proofs.lemmas.Slice.Eq.{bytes_eq-Decides}
use Rattle.std.proofs.lemmas.List.Sums.{sum_by-cons, length-filter}
use Rattle.std.proofs.Math.Bool.{or-false}
use Rattle.lab_base.specs.Lists.{Has, AllDiffer}
use Rattle.lab_base.proofs.Members.{flat-each, Has-flat_mapped}
use Rattle.phys_lab.specs.Labs.{Lab}
use Rattle.phys_lab.specs.Kept.{IsLab}
use Rattle.phys_lab.specs.Forests.{numbers}
use Rattle.phys_lab.proofs.ForestLaws.{length-numbers, number_at}
use Rattle.virt_topo.specs.declared.experiment.Experiment.{Experiment}
use Rattle.virt_topo.specs.declared.experiment.Phase.{Phase}
use Rattle.virt_topo.specs.declared.experiment.Phase.TheVariants.{Out, In, Moving}
use Rattle.virt_topo.specs.declared.mapping.Mapped.{Mapped}
use Rattle.lab_model.specs.Beside.{is_claimed, ids_of}
use Rattle.lab_model.specs.Claims.{Which, Old, New, claimed, claimed_in, is_placed, claims_it, tags_of, claimed_tags}
use Rattle.lab_model.specs.Holding.{Holding, Suits}
use Rattle.lab_model.specs.Shapes.{no_node}
use Rattle.claims.specs.declared.claim.Claim.{Claim}
use Rattle.claims.specs.declared.claim.Entry.{Entry}
use Rattle.claims.specs.Held.{Held, is_in, has_node, has_id, claim_nodes, claim_tags, claim_named, ids, size_of, free_nodes, free_ids, nodes_of, ids_of as ids_claimed_of}
use Rattle.claims.specs.Holds.{claim_of}
use Rattle.claims.specs.Experiments.{standing, standing_in, ClaimsOf}
use Rattle.claims.proofs.Counting.{count_places}
use Rattle.claims.proofs.Matching.{Match}
use Rattle.claims.proofs.OthersLeave.{node_by, side_tags, id_by, named_apart}
use Rattle.claims.proofs.Ranges.{rest_of_range}
use Rattle.lab_tasks.specs.Counts.{nodes_claimed, ids_claimed, nodes_free, is_taken, ids_free}

-- a test that none passes, and what pass and don't are all
count_none : {X : Type 0} (p : X → Bool) → ((x : X) → p x ≡ false) → (xs : List X) → count_by p xs ≡ 0
count_none {X} p none xs = sym (is_count_by (λ (ys : List X). 0) p refl (λ x ys. sym (ap (λ (b : Bool). cond b 1 0) (none x))) xs)

one_or_other : (b : Bool) → cond b 1 0 + cond (not b) 1 0 ≡ 1
one_or_other true = refl
one_or_other false = refl

count_both : {X : Type 0} (p : X → Bool) → (xs : List X) → count_by p xs + count_by (λ x. not (p x)) xs ≡ length xs
count_both p [] = refl
count_both p (x ∷ xs) = omega (arith, sum_by-cons (λ y. cond (p y) 1 0) x xs, sum_by-cons (λ y. cond (not (p y)) 1 0) x xs, one_or_other (p x), count_both p xs)

length_range : (a n : ℕ) → length (range_with_len a n) ≡ n
length_range a zero = refl
length_range a (suc n) = omega (arith, length_range (a + 1) n)

-- ---- an experiment that is out claims nothing
out_nodes : (lab : Lab) (e : Experiment) → e.phase ≡ Out → nodes_claimed lab e ≡ 0
out_nodes lab e is =
    count_none (λ node. claims_it lab e node.name) (λ node. ap (λ (p : Phase). is_placed lab (claimed_in e.wiring p Old) node.name || is_placed lab (claimed_in e.wiring p New) node.name) is) lab.nodes

out_ids : (e : Experiment) → e.phase ≡ Out → ids_claimed e ≡ 0
out_ids e is = ap (λ (p : Phase). length (tags_of (claimed_in e.wiring p Old) ++ tags_of (claimed_in e.wiring p New))) is

-- ---- one that isn't
-- its claim alone
alone : (lab : Lab) (e : Experiment) → standing lab e ≡ Some (claim_of lab e) → Match lab (record { exp = e.name; claim = claim_of lab e } ∷ []) (e ∷ [])
alone lab e is = record {
  once = ((λ f h. absurd h), tt);
  known = λ f h. elim h [ inl same ↦ (e, inl refl, ap (λ (g : Entry). g.exp) same) | inr no' ↦ absurd no' ];
  claims = λ d h. elim h [ inl same ↦ by d same | inr no' ↦ absurd no' ];
  names = ((λ f h. absurd h), tt);
}
  where
    own : claim_named e.name (record { exp = e.name; claim = claim_of lab e } ∷ []) ≡ Some (claim_of lab e)
    own = ap (λ (b : Bool). if b then Some (claim_of lab e) else None) ((bytes_eq-Decides e.name e.name).1 refl)

    by : (d : Experiment) → e ≡ d → claim_named d.name (record { exp = e.name; claim = claim_of lab e } ∷ []) ≡ standing lab d
    by d same = subst (λ (x : Experiment). claim_named x.name (record { exp = e.name; claim = claim_of lab e } ∷ []) ≡ standing lab x) same (own ∙ sym is)

node_of : (lab : Lab) (e : Experiment) (n : ℕ) → IsLab lab → ((which : Which) (m : Mapped) → claimed e which ≡ Some m → Suits lab m) → n < length lab.nodes → standing lab e ≡ Some (claim_of lab e)
    → claims_it lab e (get_or lab.nodes n no_node).name ≡ is_in n (claim_nodes (claim_of lab e))
node_of lab e n is_lab fits h is =
    let name = (get_or lab.nodes n no_node).name in
    let all = node_by lab is_lab (record { exp = e.name; claim = claim_of lab e } ∷ []) (e ∷ []) n h (λ d has. elim has [ inl same ↦ subst (λ (x : Experiment). (which : Which) (m : Mapped) → claimed x which ≡ Some m → Suits lab m) same fits | inr no' ↦ absurd no' ]) (alone lab e is) in
    sym (or-false (claims_it lab e name)) ∙ sym all ∙ or-false (is_in n (claim_nodes (claim_of lab e)))

in_nodes : (lab : Lab) (e : Experiment) → IsLab lab → ((which : Which) (m : Mapped) → claimed e which ≡ Some m → Suits lab m) → standing lab e ≡ Some (claim_of lab e)
    → nodes_claimed lab e ≡ nodes_of (length lab.nodes) (Some (claim_of lab e))
in_nodes lab e is_lab fits is =
    count_places (λ node. claims_it lab e node.name) (λ n. is_in n (claim_nodes (claim_of lab e))) lab.nodes no_node 0
    (λ i h. node_of lab e i is_lab fits h is ∙ ap (λ (n : ℕ). is_in n (claim_nodes (claim_of lab e))) (omega arith))

in_ids : (lab : Lab) (es : List Experiment) (e : Experiment) → Holding lab es → Has es e → ids_claimed e ≡ ids_claimed_of lab.range (Some (claim_of lab e))
in_ids lab es e holding h =
    let taken = claimed_tags e in
    let tags : claim_tags (claim_of lab e) ≡ taken = λ i. side_tags lab (claimed e Old) i ++ side_tags lab (claimed e New) i in
    let within : (x : ℕ) → Has taken x → (lab.range.0 ≤ x) × (x < lab.range.0 + size_of lab.range) = λ x g. by x (holding.in_range x (Has-flat_mapped claimed_tags es e x h g)) in
    let rest = rest_of_range taken lab.range.0 (size_of lab.range) (flat-each claimed_tags es e holding.tags h) within in
    let both = count_both (λ id. is_in id taken) (ids lab.range) in
    let counted : count_by (λ id. is_in id taken) (ids lab.range) ≡ length taken = omega (arith, rest, both, length_range lab.range.0 (size_of lab.range)) in
    sym (ap (λ (l : List ℕ). count_by (λ id. is_in id l) (ids lab.range)) tags ∙ counted)
  where
    by : (x : ℕ) → (lab.range.0 ≤ x) × (x ≤ lab.range.1) → (lab.range.0 ≤ x) × (x < lab.range.0 + size_of lab.range)
    by x g = (g.0, omega (arith, g.0, g.1))

-- ---- BOTH NUMBERS OF AN EXPERIMENT
pub record AreOf (lab : Lab) (e : Experiment) (held : Held) : Type 0 where
  pub nodes : nodes_of held.nodes (claim_named e.name held.entries) ≡ nodes_claimed lab e
  pub ids : ids_claimed_of held.range (claim_named e.name held.entries) ≡ ids_claimed e

pub counted_of_one : (lab : Lab) (es : List Experiment) (held : Held) (e : Experiment) → IsLab lab → Holding lab es → ClaimsOf lab es held → Has es e → AreOf lab e held
counted_of_one lab es held e is_lab holding of_es h = by e.phase refl
  where
    one_of : (o : Option Claim) → standing lab e ≡ o → nodes_claimed lab e ≡ nodes_of (length lab.nodes) o → ids_claimed e ≡ ids_claimed_of lab.range o → AreOf lab e held
    one_of o is nodes ids = record {
      nodes = (λ i. nodes_of (of_es.nodes i) ((of_es.claims e h ∙ is) i)) ∙ sym nodes;
      ids = (λ i. ids_claimed_of (of_es.range i) ((of_es.claims e h ∙ is) i)) ∙ sym ids;
    }

    claims : standing lab e ≡ Some (claim_of lab e) → AreOf lab e held
    claims is = one_of (Some (claim_of lab e)) is (in_nodes lab e is_lab (λ which m g. holding.fits e which m h g) is) (in_ids lab es e holding h)

    by : (p : Phase) → e.phase ≡ p → AreOf lab e held
    by Out is = one_of None (ap (λ (p : Phase). standing_in lab e p) is) (out_nodes lab e is) (out_ids e is)
    by (In mapping tags) is = claims (ap (λ (p : Phase). standing_in lab e p) is)
    by (Moving old new) is = claims (ap (λ (p : Phase). standing_in lab e p) is)

-- ---- WHAT NONE CLAIMS
module _ (lab : Lab) (es : List Experiment) (held : Held) (is_lab : IsLab lab) (holding : Holding lab es) (names : AllDiffer (map (λ e. e.name) es)) (of_es : ClaimsOf lab es held) where
  matching : Match lab held.entries es
  matching = record { once = of_es.once; known = of_es.known; claims = of_es.claims; names = named_apart es names }

  pub nodes_left : free_nodes held ≡ nodes_free lab es
  nodes_left =
      ap (λ (n : ℕ). count_by (λ k. not (has_node held.entries k)) (range_with_len 0 n)) of_es.nodes
      ∙ sym (count_places (λ node. not (is_claimed lab es node.name)) (λ n. not (has_node held.entries n)) lab.nodes no_node 0
      (λ i h. ap not (sym (node_by lab is_lab held.entries es i h (λ e g which m. holding.fits e which m g) matching)) ∙ ap (λ (n : ℕ). not (has_node held.entries n)) (omega arith)))

  pub ids_left_are : length (free_ids held) ≡ ids_free lab es
  ids_left_are =
      length-filter (λ id. not (has_id held.entries id)) (ids held.range)
      ∙ ap (λ (r : ℕ × ℕ). count_by (λ id. not (has_id held.entries id)) (ids r)) of_es.range
      ∙ ap (λ (k : ℕ). count_by (λ id. not (has_id held.entries id)) (range_with_len lab.range.0 k)) (sym (length-numbers (ids_of lab)))
      ∙ sym (count_places (λ n. not (is_taken es (lab.range.0 + n))) (λ id. not (has_id held.entries id)) (numbers (ids_of lab)) 0 lab.range.0
      (λ i h. ap (λ (n : ℕ). not (is_taken es (lab.range.0 + n))) (number_at (ids_of lab) i 0 (omega (arith, h, length-numbers (ids_of lab)))) ∙ ap not (sym (id_by lab held.entries es (lab.range.0 + i) matching))))
