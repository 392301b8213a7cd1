-- The nodes that are left for promises, before and after a swap-in.
use Rattle.std.specs.Prelude.{◌↔◌, filter, slice_index_or}
use Rattle.std.proofs.Common.{◌≡◌, ◌⊎◌, inl, inr, ℕ, ◌<◌, ◌≤◌, eqb, eqb-true, Bool, true, false, cond, ◌||◌, List, [], ◌∷◌, ◌++◌, length, map, Option, Some, None, refl, sym, ◌∙◌, ap, subst, arith}
use Rattle.std.proofs.lemmas.Bool.{cases_Bool}
use Rattle.std.proofs.lemmas.List.FromFn.{get_or-map-range_with_len, length-map-range_with_len}
use Rattle.std.proofs.lemmas.Slice.Eq.{bytes_eq-Decides}
use Rattle.lab_base.specs.Lists.{Has}
use Rattle.lab_base.specs.Names.{same_name}
use Rattle.lab_base.proofs.Members.{Apart-across, Apart-right, Has-mapped, any_from}
use Rattle.lab_base.specs.declared.ids.NodeId.{NodeId}
use Rattle.lab_base.specs.declared.ids.VlanId.{VlanId}
use Rattle.phys_lab.specs.Labs.{Lab}
use Rattle.virt_topo.specs.declared.experiment.Experiment.{Experiment}
use Rattle.virt_topo.specs.declared.experiment.Phase.{Phase}
use Rattle.virt_topo.specs.declared.experiment.Phase.TheVariants.{Out, In}
use Rattle.virt_topo.specs.declared.mapping.Mapped.{Mapped}
use Rattle.virt_topo.specs.declared.mapping.Mapping.{Mapping}
use Rattle.lab_model.specs.Claims.{Which, Old, New, Claims, claimed, claimed_in}
use Rattle.lab_model.specs.Holding.{Holding}
use Rattle.lab_model.specs.Wants.{node_name}
use Rattle.lab_ahead.specs.declared.batch.Promise.{Promise}
use Rattle.lab_ahead.specs.declared.ends.End.{End}
use Rattle.lab_ahead.specs.declared.fitting.Need.{Need}
use Rattle.lab_ahead.specs.Ends.{IsLeftAt, run_end, is_placed, left_for}
use Rattle.lab_ahead.specs.Givings.{Fits}
use Rattle.lab_ahead.specs.Moments.{FitsAt, left_at, needs_at}
use Rattle.records_model.specs.Labs.{in_phase}
use Rattle.lab_judge.specs.Serving.{claimers_at, claimers_of, claims_node, places_node}

-- law `left_nodes` of lab_ahead
abbrev pub LeftNodes : Type 0
LeftNodes = (claimers : List (List (List ℕ))) (ends : List End) (places : List (NodeId × List ℕ)) (t : ℕ) (node : NodeId)
    → Has (left_at (left_for claimers ends places) t) node ↔ ((node.0 < length claimers) × (is_placed places node ≡ false) × IsLeftAt ends (slice_index_or claimers node.0 []) t)

-- MORE NODES serve the same needs
fits_more : (lab : Lab) (left more : List NodeId) (needs : List Need) → ((node : NodeId) → Has left node → Has more node) → Fits lab left needs → Fits lab more needs
fits_more lab left more needs grows fits =
    let g = fits.1 in
    (fits.0, record { once = g.once; of_left = λ x has. grows x.0 (g.of_left x has); of_need = g.of_need; of_type = g.of_type; enough = g.enough })

-- WHO CLAIMS A NODE, where one of the experiments is another
names_step : (b : Bool) (a : Experiment) (whole front : List Experiment) (behind : List (List ℕ)) → map (λ e. e.name) whole ≡ map (λ e. e.name) front ++ behind
    → map (λ e. e.name) (cond b (a ∷ whole) whole) ≡ map (λ e. e.name) (cond b (a ∷ front) front) ++ behind
names_step true a whole front behind is = ap (λ l. a.name ∷ l) is
names_step false a whole front behind is = is

module _ (n : ℕ) (x : Experiment) (rest : List Experiment) where
  pub claimers_without : claims_node n x ≡ false → (front : List Experiment) → claimers_at (front ++ x ∷ rest) n ≡ claimers_at front n ++ claimers_at rest n
  claimers_without none [] = ap (λ b. map (λ e. e.name) (cond b (x ∷ filter (claims_node n) rest) (filter (claims_node n) rest))) none
  claimers_without none (a ∷ front) = names_step (claims_node n a) a _ _ (claimers_at rest n) (claimers_without none front)

  pub claimers_with : claims_node n x ≡ true → (front : List Experiment) → claimers_at (front ++ x ∷ rest) n ≡ claimers_at front n ++ (x.name ∷ claimers_at rest n)
  claimers_with some [] = ap (λ b. map (λ e. e.name) (cond b (x ∷ filter (claims_node n) rest) (filter (claims_node n) rest))) some
  claimers_with some (a ∷ front) = names_step (claims_node n a) a _ _ (x.name ∷ claimers_at rest n) (claimers_with some front)

none_step : (b : Bool) (a : Experiment) (l : List Experiment) → (b ≡ true → ⊥) → map (λ e. e.name) l ≡ [] → map (λ e. e.name) (cond b (a ∷ l) l) ≡ []
none_step true a l not is = absurd (not refl)
none_step false a l not is = is

none_claim : (n : ℕ) (es : List Experiment) → ((y : Experiment) → Has es y → claims_node n y ≡ true → ⊥) → claimers_at es n ≡ []
none_claim n [] none = refl
none_claim n (y ∷ es) none = none_step (claims_node n y) y _ (none y (inl refl)) (none_claim n es (λ z has. none z (inr has)))

-- it claims the node of that number
module _ (lab : Lab) (n : ℕ) (y : Experiment) where
  claims_side : (which : Which) (o : Option Mapped) → claimed y which ≡ o → places_node n o ≡ true → Claims lab y (node_name lab (record { 0 = n }))
  claims_side which None is places = absurd (cc places)
  claims_side which (Some m) is places =
      let p = any_from (λ q. eqb q.0.0 n) m.mapping.places places in
      let same : p.0.0 ≡ record { 0 = n } = ap (λ (k : ℕ). record { 0 = k }) (eqb-true p.0.0.0 n p.2) in
      record {
        which = which;
        mapped = m;
        is = is;
        placed = subst (λ (k : NodeId). Has (map (λ q. node_name lab q.0) m.mapping.places) (node_name lab k)) same (Has-mapped (λ q. node_name lab q.0) m.mapping.places p.0 p.1);
      }

  either_side : (a b : Bool) → a || b ≡ true → (a ≡ true) ⊎ (b ≡ true)
  either_side true b is = inl refl
  either_side false b is = inr is

  claims_so : claims_node n y ≡ true → Claims lab y (node_name lab (record { 0 = n }))
  claims_so is = elim (either_side (places_node n (claimed y Old)) (places_node n (claimed y New)) is) [
    | inl old ↦ claims_side Old (claimed y Old) refl old
    | inr new ↦ claims_side New (claimed y New) refl new
  ]

-- THE ENDS with one more
end_step : (b : Bool) (at : ℕ) (o more : Option ℕ) (found : ℕ) → (o ≡ Some found → more ≡ Some found) → cond b (Some at) o ≡ Some found → cond b (Some at) more ≡ Some found
end_step true at o more found later is = is
end_step false at o more found later is = later is

end_more : (ends : List End) (new : End) (exp : List ℕ) (found : ℕ) → run_end ends exp ≡ Some found → run_end (ends ++ new ∷ []) exp ≡ Some found
end_more [] new exp found is = absurd (cc is)
end_more (x ∷ ends) new exp found is = end_step (same_name x.exp exp) x.at (run_end ends exp) (run_end (ends ++ new ∷ []) exp) found (end_more ends new exp found) is

end_new : (ends : List End) (new : End) → same_name new.exp new.exp ≡ true → ((x : End) → Has ends x → same_name x.exp new.exp ≡ false) → run_end (ends ++ new ∷ []) new.exp ≡ Some new.at
end_new [] new own none = ap (λ b. cond b (Some new.at) None) own
end_new (x ∷ ends) new own none = ap (λ b. cond b (Some x.at) (run_end (ends ++ new ∷ []) new.exp)) (none x (inl refl)) ∙ end_new ends new own (λ y has. none y (inr has))

-- A SWAP-IN of one that was out
module _ (law : LeftNodes) (lab : Lab) (front rest : List Experiment) (e : Experiment) (out : e.phase ≡ Out) (mapping : Mapping) (tags : List VlanId) (ends : List End) (new : End) (named : new.exp ≡ e.name)
    (none : (x : End) → Has ends x → same_name x.exp new.exp ≡ false) (holds : Holding lab (front ++ in_phase e (In mapping tags) ∷ rest)) where
  abbrev inside : Experiment
  inside = in_phase e (In mapping tags)

  abbrev was : List Experiment
  was = front ++ e ∷ rest

  abbrev now : List Experiment
  now = front ++ inside ∷ rest

  abbrev later : List End
  later = ends ++ new ∷ []

  claims_none : (n : ℕ) → claims_node n e ≡ false
  claims_none n = ap (λ (p : Phase). places_node n (claimed_in e.wiring p Old) || places_node n (claimed_in e.wiring p New)) out

  claimed_before : (n : ℕ) → claimers_at was n ≡ claimers_at front n ++ claimers_at rest n
  claimed_before n = claimers_without n e rest (claims_none n) front

  -- a node on which it places nothing is claimed as before
  off : (n : ℕ) → places_node n (claimed inside New) ≡ false → claimers_at now n ≡ claimers_at was n
  off n not_placed = claimers_without n inside rest not_placed front ∙ sym (claimed_before n)

  -- one on which it does was free, and is its own
  alone : (n : ℕ) → places_node n (claimed inside New) ≡ true → claimers_at now n ≡ e.name ∷ []
  alone n is_on =
      let own = claims_so lab n inside is_on in
      let none_front = none_claim n front (λ y has claims. Apart-across _ front (inside ∷ rest) y inside holds.nodes has (inl refl) (node_name lab (record { 0 = n })) (claims_so lab n y claims) own) in
      let none_rest = none_claim n rest (λ y has claims. (Apart-right _ front (inside ∷ rest) holds.nodes).0 y has (node_name lab (record { 0 = n })) own (claims_so lab n y claims)) in
      claimers_with n inside rest is_on front ∙ (λ i. none_front i ++ (e.name ∷ none_rest i))

  abbrev claimers : List Experiment → List (List (List ℕ))
  claimers es = claimers_of (length lab.nodes) es

  number : (es fs : List Experiment) (n : ℕ) → n < length (claimers es) → n < length (claimers fs)
  number es fs n lt = omega (arith, lt, length-map-range_with_len (claimers_at es) 0 (length lab.nodes), length-map-range_with_len (claimers_at fs) 0 (length lab.nodes))

  at_node : (es : List Experiment) (n : ℕ) → n < length (claimers es) → slice_index_or (claimers es) n [] ≡ claimers_at es n
  at_node es n lt = get_or-map-range_with_len (claimers_at es) 0 (length lab.nodes) n n [] (omega (arith, lt, length-map-range_with_len (claimers_at es) 0 (length lab.nodes))) (omega arith)

  still_left : (exps : List (List ℕ)) (t : ℕ) → IsLeftAt ends exps t → IsLeftAt later exps t
  still_left exps t (inl is) = inl is
  still_left exps t (inr one) = inr (one.0, one.1, one.2, end_more ends new one.0 one.1 one.3, one.4)

  -- what is left at a moment before, is left after
  off_left : (t : ℕ) (node : NodeId) (places : List (NodeId × List ℕ)) → places_node node.0 (claimed inside New) ≡ false → Has (left_at (left_for (claimers was) ends places) t) node → Has (left_at (left_for (claimers now) later []) t) node
  off_left t node places not_placed has =
      let x = (law (claimers was) ends places t node).0 has in
      (law (claimers now) later [] t node).1 (
        number was now node.0 x.0,
        refl,
        subst (λ l. IsLeftAt later l t) (sym (at_node now node.0 (number was now node.0 x.0) ∙ off node.0 not_placed ∙ sym (at_node was node.0 x.0))) (still_left _ t x.2),
      )

  on_left : (t : ℕ) (node : NodeId) (places : List (NodeId × List ℕ)) → new.at ≤ t → places_node node.0 (claimed inside New) ≡ true → Has (left_at (left_for (claimers was) ends places) t) node → Has (left_at (left_for (claimers now) later []) t) node
  on_left t node places ended is_on has =
      let x = (law (claimers was) ends places t node).0 has in
      let found : run_end later e.name ≡ Some new.at = ap (run_end later) (sym named) ∙ end_new ends new ((bytes_eq-Decides new.exp new.exp).1 refl) none in
      (law (claimers now) later [] t node).1 (
        number was now node.0 x.0,
        refl,
        inr (e.name, new.at, at_node now node.0 (number was now node.0 x.0) ∙ alone node.0 is_on, found, ended),
      )

  -- IN ITS OWN SPAN the promises fit as the test of the run says
  pub in_span : (promises : List Promise) (t : ℕ) → FitsAt lab (left_for (claimers was) ends mapping.places) promises t → FitsAt lab (left_for (claimers now) later []) promises t
  in_span promises t fits = fits_more lab _ _ (needs_at promises t) (λ node has. off_left t node mapping.places ((law (claimers was) ends mapping.places t node).0 has).1 has) fits

  -- AFTER ITS END they fit as they did before it
  pub past_span : (promises : List Promise) (t : ℕ) → new.at ≤ t → FitsAt lab (left_for (claimers was) ends []) promises t → FitsAt lab (left_for (claimers now) later []) promises t
  past_span promises t ended fits = fits_more lab _ _ (needs_at promises t) (λ node has. by node has (cases_Bool (places_node node.0 (claimed inside New)))) fits
    where
      by : (node : NodeId) → Has (left_at (left_for (claimers was) ends []) t) node → (places_node node.0 (claimed inside New) ≡ true) ⊎ (places_node node.0 (claimed inside New) ≡ false) → Has (left_at (left_for (claimers now) later []) t) node
      by node has (inl on) = on_left t node [] ended on has
      by node has (inr not_placed) = off_left t node [] not_placed has
