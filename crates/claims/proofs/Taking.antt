-- A mapping that may stand beside the experiments makes a claim that may be added.
use Rattle.std.specs.Prelude.{IfSome}
use Rattle.std.proofs.Common.{◌≡◌, inl, inr, ℕ, ◌<◌, ◌≤◌, max, true, Option, Some, None, List, ◌∷◌, ◌++◌, length, map, get_or, refl, sym, ap, ◌∙◌, subst, arith}
use Rattle.std.proofs.lemmas.List.{length-map, get_or-map}
use Rattle.std.proofs.lemmas.List.FromFn.{length-map-range_with_len}
use Rattle.std.proofs.lemmas.List.Sums.{sum_by-append}
use Rattle.lab_base.specs.Lists.{Has, AllDiffer}
use Rattle.lab_base.proofs.Members.{Has-append, Has-right, Has-map, Has-mapped}
use Rattle.phys_lab.specs.Labs.{Lab}
use Rattle.phys_lab.specs.Sides.{no_trunk, trunk_at}
use Rattle.phys_lab.specs.declared.parts.Trunk.{Trunk}
use Rattle.virt_topo.specs.declared.experiment.Experiment.{Experiment}
use Rattle.virt_topo.specs.declared.experiment.Phase.TheVariants.{Moving}
use Rattle.virt_topo.specs.declared.mapping.Mapped.{Mapped}
use Rattle.virt_topo.specs.Soundness.{IsSound}
use Rattle.lab_model.specs.Beside.{violation_beside, are_free_tags}
use Rattle.lab_model.specs.Claims.{Which, Old, New, claimed, claimed_in, claimed_tags, claimed_use, tags_of, Places, Claims}
use Rattle.lab_model.specs.Holding.{Holding}
use Rattle.lab_model.specs.Shapes.{Place, IsShaped}
use Rattle.lab_model.specs.Uses.{use_of}
use Rattle.lab_model.specs.Wants.{node_name}
use Rattle.lab_model.proofs.FeasibleLaws.{takes_nothing, takes_claimed, takes_new, takes_both, tags_apart}
use Rattle.lab_model.proofs.HoldingLaws.{Takes}
use Rattle.lab_model.proofs.WiringLaws.{All-has}
use Rattle.claims.specs.Adding.{IsWithin, ShareNothing, MayAdd}
use Rattle.claims.specs.Held.{Held, claim_named, claim_nodes, claim_tags, claim_use, nodes_in, others}
use Rattle.claims.specs.Holds.{hold_in, claim_of}
use Rattle.claims.specs.Experiments.{ClaimsOf}
use Rattle.claims.proofs.Matching.{Match, match_rest}
use Rattle.claims.proofs.OthersLeave.{matching, side_tags, side_use, used_by}
use Rattle.claims.proofs.Replacing.{listed, is_claim}

-- ---- a side of a claim, and its mapping
-- a node of a side is one on which the mapping places a virtual node
record IsPlaced (lab : Lab) (o : Option Mapped) (n : ℕ) : Type 0 where
  pub mapped : Mapped
  pub is : o ≡ Some mapped
  pub place : Place
  pub among : Has mapped.mapping.places place
  pub node : place.0.0 ≡ n

side_placed : (lab : Lab) (o : Option Mapped) (n : ℕ) → Has (nodes_in (hold_in lab o)) n → IsPlaced lab o n
side_placed lab None n h = absurd h
side_placed lab (Some m) n h =
    let q = Has-map (λ k. k.0) (map (λ p. p.0) m.mapping.places) n h in
    let p = Has-map (λ p. p.0) m.mapping.places q.0 q.1 in
    record { mapped = m; is = refl; place = p.0; among = p.1; node = ap (λ k. k.0) p.2 ∙ q.2 }

node_placed : (lab : Lab) (e : Experiment) (n : ℕ) → Has (claim_nodes (claim_of lab e)) n → (which : Which) × IsPlaced lab (claimed e which) n
node_placed lab e n h = elim (Has-append (nodes_in (hold_in lab (claimed e Old))) (nodes_in (hold_in lab (claimed e New))) n h) [
  | inl x ↦ (Old, side_placed lab (claimed e Old) n x)
  | inr x ↦ (New, side_placed lab (claimed e New) n x)
]

-- so the experiment claims the node
pub claims_node : (lab : Lab) (e : Experiment) (n : ℕ) → Has (claim_nodes (claim_of lab e)) n → Claims lab e (node_name lab (record { 0 = n }))
claims_node lab e n h =
    let p = node_placed lab e n h in
    record {
      which = p.0;
      mapped = p.1.mapped;
      is = p.1.is;
      placed = subst (λ (k : ℕ). Places lab p.1.mapped (node_name lab (record { 0 = k }))) p.1.node (Has-mapped (λ q. node_name lab q.0) p.1.mapped.mapping.places p.1.place p.1.among);
    }

tags_are : (lab : Lab) (e : Experiment) → claim_tags (claim_of lab e) ≡ claimed_tags e
tags_are lab e = λ i. side_tags lab (claimed e Old) i ++ side_tags lab (claimed e New) i

side_uses : (lab : Lab) (o : Option Mapped) (n : ℕ) → length lab.trunks ≡ n → IfSome (hold_in lab o) (λ h. length h.uses ≡ n)
side_uses lab None n trunks = tt
side_uses lab (Some m) n trunks = length-map-range_with_len (use_of lab m.wiring m.mapping) 0 (length lab.trunks) ∙ trunks

-- ---- THE CLAIM OF AN EXPERIMENT THAT TAKES WHAT THE OTHERS LEAVE
module _ (lab : Lab) (a b : List Experiment) (e f : Experiment) (held : Held) (names : AllDiffer (map (λ e. e.name) (a ++ e ∷ b))) (of_es : ClaimsOf lab (a ++ e ∷ b) held) (takes : Takes lab a b f) where
  trunks : length held.kbps ≡ length lab.trunks
  trunks = ap length of_es.kbps ∙ length-map lab.trunks (λ (t : Trunk). t.kbps)

  rest : Match lab (others e.name held.entries) (a ++ b)
  rest = match_rest lab held.entries a b e (matching lab a b e held of_es names)

  within : IsWithin held (claim_of lab f)
  within = record {
    nodes = λ n h.
        let p = node_placed lab f n h in
        let in_lab : p.1.place.0.0 < length lab.nodes = All-has (λ (q : Place). q.0.0 < length lab.nodes) p.1.mapped.mapping.places p.1.place (takes.fits p.0 p.1.mapped p.1.is).shaped.in_nodes p.1.among in
        omega (arith, in_lab, p.1.node, of_es.nodes);
    tags = λ id h.
        let r = takes.in_range id (subst (λ l. Has l id) (tags_are lab f) h) in
        subst (λ (range : ℕ × ℕ). (range.0 ≤ id) × (id ≤ range.1)) (sym of_es.range) r;
    differ = subst (λ l. AllDiffer l) (sym (tags_are lab f)) takes.differ;
    old_uses = side_uses lab (claimed f Old) (length held.kbps) (sym trunks);
    new_uses = side_uses lab (claimed f New) (length held.kbps) (sym trunks);
  }

  shares_nothing : (d : Experiment) → Has (a ++ b) d → ShareNothing (claim_of lab d) (claim_of lab f)
  shares_nothing d h = record {
    nodes = λ n of_d of_f. takes.nodes d (node_name lab (record { 0 = n })) (Has-append a b d h) (claims_node lab f n of_f) (claims_node lab d n of_d);
    tags = λ id of_d of_f. takes.free id d (subst (λ l. Has l id) (tags_are lab f) of_f) (Has-append a b d h) (subst (λ l. Has l id) (tags_are lab d) of_d);
  }

  pub may_add_from : MayAdd held e.name (claim_of lab f)
  may_add_from = record {
    within = within;
    apart = λ g h.
        let k = rest.known g h in
        let found : claim_named k.0.name (others e.name held.entries) ≡ Some g.claim = ap (λ name. claim_named name (others e.name held.entries)) k.2 ∙ listed (others e.name held.entries) g rest.once h in
        let is : claim_of lab k.0 ≡ g.claim = is_claim lab k.0 g.claim (sym (rest.claims k.0 k.1) ∙ found) in
        subst (λ c. ShareNothing c (claim_of lab f)) is (shares_nothing k.0 k.1);
    trunks = λ t h.
        let in_lab : t < length lab.trunks = omega (arith, h, trunks) in
        let kbps : get_or held.kbps t 0 ≡ (trunk_at lab.trunks t).kbps = ap (λ l. get_or l t 0) of_es.kbps ∙ get_or-map (λ (x : Trunk). x.kbps) lab.trunks t no_trunk 0 in_lab in
        let own : claim_use t (claim_of lab f) ≡ claimed_use lab t f = (λ i. max (side_use lab t in_lab (claimed f Old) i) (side_use lab t in_lab (claimed f New) i)) in
        omega (arith, used_by lab (others e.name held.entries) (a ++ b) t in_lab rest, own, kbps, takes.trunks t in_lab, sum_by-append (claimed_use lab t) a b);
  }

-- ---- A MOVE BEGINS
module _ (lab : Lab) (a b : List Experiment) (e f : Experiment) (held : Held) (holding : Holding lab (a ++ e ∷ b)) (names : AllDiffer (map (λ e. e.name) (a ++ e ∷ b))) (of_es : ClaimsOf lab (a ++ e ∷ b) held) where
  pub may_take : (m : Mapped) → f.phase ≡ Moving (claimed e New) (Some m) → violation_beside lab (a ++ b) e m.wiring m.mapping ≡ None → IsSound m.wiring → IsShaped lab m.wiring m.mapping → are_free_tags lab (a ++ e ∷ b) m.wiring m.tags ≡ true
      → MayAdd held e.name (claim_of lab f)
  may_take m phase none sound shaped free =
      let old : claimed f Old ≡ claimed e New = ap (λ p. claimed_in f.wiring p Old) phase in
      let new : claimed f New ≡ Some m = ap (λ p. claimed_in f.wiring p New) phase in
      let mid : Has (a ++ e ∷ b) e = Has-right a (e ∷ b) e (inl refl) in
      may_add_from lab a b e f held names of_es (takes_both lab a b f (claimed e New) (Some m) old new (takes_claimed lab a b e New holding) (takes_new lab a b e e m none free sound shaped)
      (λ u v h g. tags_apart lab (a ++ e ∷ b) e m mid free u v (Has-right (tags_of (claimed e Old)) (tags_of (claimed e New)) u h) g))

  pub may_leave : f.phase ≡ Moving (claimed e New) None → MayAdd held e.name (claim_of lab f)
  may_leave phase =
      let old : claimed f Old ≡ claimed e New = ap (λ p. claimed_in f.wiring p Old) phase in
      let new : claimed f New ≡ None = ap (λ p. claimed_in f.wiring p New) phase in
      may_add_from lab a b e f held names of_es (takes_both lab a b f (claimed e New) None old new (takes_claimed lab a b e New holding) (takes_nothing lab a b e holding) (λ u v h g. absurd g))
