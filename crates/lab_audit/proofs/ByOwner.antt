-- The experiment that claims a node, by the node's owner among the claims.
use Rattle.std.proofs.Common.{◌≡◌, inl, inr, ℕ, ◌<◌, Bool, true, false, List, [], ◌∷◌, Option, Some, None, map, length, filter, refl, sym, ap, ◌∙◌, subst, cond, ◌==◌}
use Rattle.std.specs.Prelude.{is_none, not}
use Rattle.std.specs.List.{find}
use Rattle.std.proofs.lemmas.Bool.{eqb-true, true≢false}
use Rattle.lab_base.specs.Lists.{Has, AllDiffer, listed}
use Rattle.lab_base.proofs.Members.{Apart-same, Has-filter, Has-map, any_from, none_has}
use Rattle.phys_lab.specs.Kept.{IsLab}
use Rattle.phys_lab.specs.Labs.{Lab}
use Rattle.virt_topo.specs.declared.experiment.Experiment.{Experiment}
use Rattle.lab_model.specs.Claims.{Claims, claims_it}
use Rattle.lab_model.specs.Holding.{Holding}
use Rattle.lab_model.specs.Wants.{node_name}
use Rattle.lab_model.proofs.Claiming.{claims_from, claims_test}
use Rattle.records_model.specs.Labs as records
use Rattle.records_model.proofs.Finding.{find_has}
use Rattle.claims.specs.Experiments.{ClaimsOf}
use Rattle.claims.specs.Held.{Held, claim_nodes, has_node, is_in, owner_of}
use Rattle.claims.specs.Holds.{claim_of}
use Rattle.claims.proofs.Counting.{unowned}
use Rattle.claims.proofs.Matching.{Match}
use Rattle.claims.proofs.OthersLeave.{named_apart, node_by}
use Rattle.claims.proofs.Taking.{claims_node}
use Rattle.lab_audit.specs.Nodes.{claimer}

-- nothing is found where nothing passes; the only one that passes is found
none_found : {X : Type 0} (p : X → Bool) (xs : List X) → ((x : X) → Has xs x → p x ≡ false) → find p xs ≡ None
none_found p [] none = refl
none_found p (x ∷ xs) none = ap (λ (b : Bool). cond b (Some x) (find p xs)) (none x (inl refl)) ∙ none_found p xs (λ y h. none y (inr h))

only_found : {X : Type 0} (p : X → Bool) (xs : List X) (x : X) → Has xs x → p x ≡ true → ((y : X) → Has xs y → p y ≡ true → y ≡ x) → find p xs ≡ Some x
only_found p [] x has is only = absurd has
only_found {X} p (y ∷ ys) x has is only = by (p y) refl has (λ later. only_found p ys x later is (λ z h. only z (inr h)))
  where
    by : (test : Bool) → p y ≡ test → Has (y ∷ ys) x → (Has ys x → find p ys ≡ Some x) → cond (p y) (Some y) (find p ys) ≡ Some x
    by true t h rest = ap (λ (b : Bool). cond b (Some y) (find p ys)) t ∙ ap Some (only y (inl refl) t)
    by false t (inl same) rest = absurd (true≢false (sym is ∙ ap p (sym same) ∙ t))
    by false t (inr later) rest = ap (λ (b : Bool). cond b (Some y) (find p ys)) t ∙ rest later

not_true : (b : Bool) → true ≡ not b → b ≡ false
not_true true e = absurd (true≢false e)
not_true false e = refl

module _ (lab : Lab) (es : List Experiment) (held : Held) (n : ℕ) (inside : n < length lab.nodes) (is_lab : IsLab lab) (names : AllDiffer (map (λ e. e.name) es)) (holding : Holding lab es) (claims : ClaimsOf lab es held) where
  abbrev name : List ℕ
  name = node_name lab (record { 0 = n })

  abbrev has_it : Experiment → Bool
  has_it e = is_in n (claim_nodes (claim_of lab e))

  matched : Match lab held.entries es
  matched = record { once = claims.once; known = claims.known; claims = claims.claims; names = named_apart es names }

  pub by_none : owner_of claim_nodes held.entries n ≡ None → claimer lab es name ≡ None
  by_none none =
      let nobody : has_node held.entries n ≡ false = not_true _ (sym (ap (λ (o : Option (List ℕ)). is_none o) none) ∙ unowned claim_nodes held.entries n) in
      let claimed = sym (node_by lab is_lab held.entries es n inside (λ e h which m is. holding.fits e which m h is) matched) ∙ nobody in
      none_found (λ (e : Experiment). claims_it lab e name) es (λ e h. none_has (λ (f : Experiment). claims_it lab f name) es e claimed h)

  pub by_owner : (exp : List ℕ) → owner_of claim_nodes held.entries n ≡ Some exp → map (λ e. e.name) (filter has_it es) ≡ listed (owner_of claim_nodes held.entries n)
      → claimer lab es name ≡ records.find exp es
  by_owner exp owner alone =
      let own = Has-map (λ (e : Experiment). e.name) (filter has_it es) exp (subst (λ (l : List (List ℕ)). Has l exp) (sym (alone ∙ ap (λ (o : Option (List ℕ)). listed o) owner)) (inl refl)) in
      let e = own.0 in
      let among = Has-filter has_it es e own.1 in
      let there = any_from (λ (m : ℕ). m == n) (claim_nodes (claim_of lab e)) among.1 in
      let it : Claims lab e name = claims_node lab e n (subst (λ (m : ℕ). Has (claim_nodes (claim_of lab e)) m) (eqb-true there.0 n there.2) there.1) in
      let only : (f : Experiment) → Has es f → claims_it lab f name ≡ true → f ≡ e =
      λ f h is. Apart-same (λ (a b : Experiment). (v : List ℕ) → Claims lab a v → Claims lab b v → ⊥) es f e holding.nodes h among.0 (λ no. no name (claims_from lab f name is) it) (λ no. no name it (claims_from lab f name is)) in
      only_found (λ (f : Experiment). claims_it lab f name) es e among.0 (claims_test lab e name it) only
      ∙ sym (subst (λ (v : List ℕ). records.find v es ≡ Some e) own.2 (find_has es e names among.0))
