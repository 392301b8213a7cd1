-- The nodes that are left for a run: once each, of the lab, and exactly those that are left at a moment.
use Rattle.std.proofs.Common.{◌≡◌, ◌<◌, ◌≤◌, ◌+◌, ℕ, zero, suc, Bool, true, false, cond, List, [], ◌∷◌, ◌++◌, length, map, filter, drop, get_or, Option, Some, None, refl, sym, ap, ◌∙◌, subst, inl, inr, arith}
use Rattle.std.specs.Prelude.{All, nat_le}
use Rattle.std.specs.Option.{option_map}
use Rattle.std.specs.List.{flat_map, enumerate_from}
use Rattle.std.proofs.Math.Seq.{drop-cons}
use Rattle.std.proofs.lemmas.Bool.{le-leb, leb-true}
use Rattle.std.proofs.lemmas.List.{append-nil, drop_all}
use Rattle.lab_base.specs.Lists.{Has, AllDiffer, listed}
use Rattle.lab_base.specs.declared.ids.NodeId.{NodeId}
use Rattle.lab_base.proofs.Members.{Has-append, Has-left, Has-right, Has-map, Has-mapped, Has-get_or, Has-filter, Has-filtered}
use Rattle.lab_ahead.specs.declared.times.Left.{Left}
use Rattle.lab_ahead.specs.declared.ends.End.{End}
use Rattle.lab_ahead.specs.Moments.{left_at}
use Rattle.lab_ahead.specs.Ends.{IsLeftAt, from_of, is_placed, left_of, left_for}

abbrev node_of : Left → NodeId
node_of entry = entry.node

abbrev pub entry_at : NodeId → ℕ → Left
entry_at node from = record { node = node; from = from }

module _ (ends : List End) (places : List (NodeId × List ℕ)) where
  abbrev pub entries : ℕ × List (List ℕ) → List Left
  entries c = listed (left_of ends places (record { 0 = c.0 }) c.1)

  -- the entries of nodes n, n + 1, ..
  abbrev pub from_node : ℕ → List (List (List ℕ)) → List Left
  from_node n claimers = flat_map entries (enumerate_from n claimers)

  -- A LOOP OVER THE NODES

  pub one_more : (n : ℕ) (claimers : List (List (List ℕ))) (exps : List (List ℕ)) → n < length claimers → exps ≡ get_or claimers n exps
      → from_node n (drop n claimers) ≡ listed (left_of ends places (record { 0 = n }) exps) ++ from_node (n + 1) (drop (n + 1) claimers)
  one_more n claimers exps lt is =
      let number : suc n ≡ n + 1 = omega arith in
      ap (from_node n) (drop-cons claimers n exps lt) ∙ ap (λ (x : List (List ℕ)). entries (n, x) ++ from_node (n + 1) (drop (suc n) claimers)) (sym is)
      ∙ ap (λ (k : ℕ). entries (n, exps) ++ from_node (n + 1) (drop k claimers)) number

  pub none_more : (n : ℕ) (claimers : List (List (List ℕ))) (left whole : List Left) → length claimers ≤ n → left ++ from_node n (drop n claimers) ≡ whole → left ≡ whole
  none_more n claimers left whole le is = sym (append-nil left) ∙ ap (λ (l : List (List (List ℕ))). left ++ from_node n l) (sym (drop_all n claimers le)) ∙ is

  -- EACH ENTRY IS OF ITS NODE

  pub record IsEntry (node : NodeId) (exps : List (List ℕ)) (entry : Left) : Type 0 where
    pub node_is : entry.node ≡ node
    pub off : is_placed places node ≡ false
    pub from_is : from_of ends exps ≡ Some entry.from

  its_from : (node : NodeId) (from : Option ℕ) (entry : Left) → Has (listed (option_map (entry_at node) from)) entry → (entry.node ≡ node) × (from ≡ Some entry.from)
  its_from node None entry h = absurd h
  its_from node (Some f) entry (inl e) = (ap node_of (sym e), ap (λ (l : Left). Some l.from) e)
  its_from node (Some f) entry (inr none) = absurd none

  entry_is : (node : NodeId) (exps : List (List ℕ)) (entry : Left) → Has (listed (left_of ends places node exps)) entry → IsEntry node exps entry
  entry_is node exps entry h = by (is_placed places node) refl h
    where
      by : (b : Bool) → is_placed places node ≡ b → Has (listed (cond b None (option_map (entry_at node) (from_of ends exps)))) entry → IsEntry node exps entry
      by true is g = absurd g
      by false is g = let made = its_from node (from_of ends exps) entry g in record { node_is = made.0; off = is; from_is = made.1 }

  entry_of : (node : NodeId) (exps : List (List ℕ)) (from : ℕ) → is_placed places node ≡ false → from_of ends exps ≡ Some from → Has (listed (left_of ends places node exps)) (entry_at node from)
  entry_of node exps from off is = by (is_placed places node) off (from_of ends exps) is
    where
      by : (b : Bool) → b ≡ false → (o : Option ℕ) → o ≡ Some from → Has (listed (cond b None (option_map (entry_at node) o))) (entry_at node from)
      by true e o i = absurd (cc e)
      by false e None i = absurd (cc i)
      by false e (Some f) i = let same : f ≡ from = cc i in inl (ap (entry_at node) same)

  pub entry_from : (n : ℕ) (claimers : List (List (List ℕ))) (entry : Left) → Has (from_node n claimers) entry
      → (i : ℕ) × (i < length claimers) × (entry.node.0 ≡ n + i) × IsEntry entry.node (get_or claimers i []) entry
  entry_from n [] entry h = absurd h
  entry_from n (exps ∷ claimers) entry h = elim (Has-append (entries (n, exps)) (from_node (n + 1) claimers) entry h) [
    | inl here ↦
        let is = entry_is (record { 0 = n }) exps entry here in
        let number : entry.node.0 ≡ n = ap (λ (m : NodeId). m.0) is.node_is in
        (zero, omega arith, omega arith, record { node_is = refl; off = ap (is_placed places) is.node_is ∙ is.off; from_is = is.from_is })
    | inr there ↦
        let found = entry_from (n + 1) claimers entry there in
        (suc found.0, omega (arith, found.1), omega (arith, found.2), found.3)
  ]

  nodes_above : (n : ℕ) (claimers : List (List (List ℕ))) (node : NodeId) → Has (map node_of (from_node n claimers)) node → n ≤ node.0
  nodes_above n claimers node h =
      let from = Has-map node_of (from_node n claimers) node h in
      let found = entry_from n claimers from.0 from.1 in
      let number : from.0.node.0 ≡ node.0 = ap (λ (m : NodeId). m.0) from.2 in
      omega (arith, found.2, number)

  past : (n : ℕ) (node : NodeId) → n + 1 ≤ node.0 → record { 0 = n } ≡ node → ⊥
  past n node le e = let number : n ≡ node.0 = ap (λ (m : NodeId). m.0) e in omega (arith, le, number)

  one_before : (n : ℕ) (claimers : List (List (List ℕ))) (o : Option Left) → ((entry : Left) → Has (listed o) entry → entry.node ≡ record { 0 = n }) → AllDiffer (map node_of (from_node (n + 1) claimers))
      → AllDiffer (map node_of (listed o ++ from_node (n + 1) claimers))
  one_before n claimers None is rest = rest
  one_before n claimers (Some entry) is rest = (λ node h same. past n node (nodes_above (n + 1) claimers node h) (sym (is entry (inl refl)) ∙ same), rest)

  pub nodes_differ : (n : ℕ) (claimers : List (List (List ℕ))) → AllDiffer (map node_of (from_node n claimers))
  nodes_differ n [] = tt
  nodes_differ n (exps ∷ claimers) =
      one_before n claimers (left_of ends places (record { 0 = n }) exps) (λ entry is. (entry_is (record { 0 = n }) exps entry is).node_is) (nodes_differ (n + 1) claimers)

  pub nodes_within : (claimers : List (List (List ℕ))) → All (λ (entry : Left). entry.node.0 < length claimers) (from_node 0 claimers)
  nodes_within claimers = λ k d lt.
      let found = entry_from 0 claimers (get_or (from_node 0 claimers) k d) (Has-get_or (from_node 0 claimers) k d lt) in
      omega (arith, found.1, found.2)

  -- AT A MOMENT

  left_then : (exps : List (List ℕ)) (t from : ℕ) → from_of ends exps ≡ Some from → from ≤ t → IsLeftAt ends exps t
  left_then [] t from is le = inl refl
  left_then (exp ∷ []) t from is le = inr (exp, from, refl, is, le)
  left_then (exp ∷ (other ∷ exps)) t from is le = absurd (cc is)

  then_left : (exps : List (List ℕ)) (t : ℕ) → IsLeftAt ends exps t → (from : ℕ) × (from_of ends exps ≡ Some from) × (from ≤ t)
  then_left exps t (inl none) = (zero, ap (from_of ends) none, omega arith)
  then_left exps t (inr one) = (one.1, ap (from_of ends) one.2 ∙ one.3, one.4)

  has_entry : (n : ℕ) (claimers : List (List (List ℕ))) (i from : ℕ) (node : NodeId) → i < length claimers → node.0 ≡ n + i → is_placed places node ≡ false
      → from_of ends (get_or claimers i []) ≡ Some from → Has (from_node n claimers) (entry_at node from)
  has_entry n [] i from node lt is off e = absurd (omega arith)
  has_entry n (exps ∷ claimers) zero from node lt is off e =
      let number : node.0 ≡ n = omega arith in
      let same : node ≡ record { 0 = n } = ap (λ (m : ℕ). record { 0 = m }) number in
      Has-left (entries (n, exps)) (from_node (n + 1) claimers) (entry_at node from) (subst (λ (m : NodeId). Has (listed (left_of ends places m exps)) (entry_at node from)) same (entry_of node exps from off e))
  has_entry n (exps ∷ claimers) (suc i) from node lt is off e =
      Has-right (entries (n, exps)) (from_node (n + 1) claimers) (entry_at node from) (has_entry (n + 1) claimers i from node (omega arith) (omega arith) off e)

  pub left_to : (claimers : List (List (List ℕ))) (t : ℕ) (node : NodeId) → Has (left_at (left_for claimers ends places) t) node
      → (node.0 < length claimers) × (is_placed places node ≡ false) × IsLeftAt ends (get_or claimers node.0 []) t
  left_to claimers t node h =
      let from = Has-map node_of (filter (λ (entry : Left). nat_le entry.from t) (left_for claimers ends places)) node h in
      let was = Has-filter (λ (entry : Left). nat_le entry.from t) (left_for claimers ends places) from.0 from.1 in
      let found = entry_from 0 claimers from.0 was.0 in
      let same : from.0.node.0 ≡ node.0 = ap (λ (m : NodeId). m.0) from.2 in
      let number : found.0 ≡ node.0 = omega (arith, found.2, same) in
      let early : from.0.from ≤ t = leb-true from.0.from t was.1 in (
        omega (arith, found.1, number),
        subst (λ (m : NodeId). is_placed places m ≡ false) from.2 found.3.off,
        subst (λ (i : ℕ). IsLeftAt ends (get_or claimers i []) t) number (left_then (get_or claimers found.0 []) t from.0.from found.3.from_is early),
      )

  pub left_from : (claimers : List (List (List ℕ))) (t : ℕ) (node : NodeId) → (node.0 < length claimers) × (is_placed places node ≡ false) × IsLeftAt ends (get_or claimers node.0 []) t
      → Has (left_at (left_for claimers ends places) t) node
  left_from claimers t node h =
      let from = then_left (get_or claimers node.0 []) t h.2 in
      let there : Has (left_for claimers ends places) (entry_at node from.0) = has_entry 0 claimers node.0 from.0 node h.0 (omega arith) h.1 from.1 in
      Has-mapped node_of (filter (λ (e : Left). nat_le e.from t) (left_for claimers ends places)) (entry_at node from.0)
      (Has-filtered (λ (e : Left). nat_le e.from t) (left_for claimers ends places) (entry_at node from.0) there (le-leb from.0 t from.2))
