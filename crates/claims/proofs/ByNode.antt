-- A node has one owner: the experiment that claims it.
use Rattle.std.specs.Prelude.{filter}
use Rattle.std.specs.List.{list_any}
use Rattle.std.specs.Str.{bytes_eq}
use Rattle.std.proofs.Common.{◌≡◌, inl, inr, ℕ, ◌||◌, Bool, true, false, not, if◌then◌else◌, Option, Some, None, List, [], ◌∷◌, ◌++◌, map, refl, sym, ap, ◌∙◌}
use Rattle.std.proofs.lemmas.Bool.{cases_Bool, or_parts}
use Rattle.std.proofs.lemmas.Option.{same_Some}
use Rattle.std.proofs.lemmas.Slice.Eq.{bytes_eq-Decides}
use Rattle.lab_base.specs.Lists.{Apart, AllDiffer, listed}
use Rattle.lab_base.proofs.Tests.{none_is}
use Rattle.lab_base.proofs.Members.{none_of}
use Rattle.phys_lab.specs.Labs.{Lab}
use Rattle.virt_topo.specs.declared.experiment.Experiment.{Experiment}
use Rattle.virt_topo.specs.declared.experiment.Phase.{Phase}
use Rattle.virt_topo.specs.declared.experiment.Phase.TheVariants.{Out, In, Moving}
use Rattle.lab_model.specs.Claims.{Old, New, Claims, claimed_in}
use Rattle.lab_model.specs.Holding.{Holding}
use Rattle.lab_model.specs.Wants.{node_name}
use Rattle.claims.specs.declared.claim.Claim.{Claim}
use Rattle.claims.specs.declared.claim.Entry.{Entry}
use Rattle.claims.specs.Held.{Held, claim_named, claim_nodes, is_in, nodes_in, others, owner_of}
use Rattle.claims.specs.Holds.{hold_in, claim_of}
use Rattle.claims.specs.Experiments.{ClaimsOf, standing, standing_in}
use Rattle.claims.proofs.Counting.{unowned}
use Rattle.claims.proofs.Entries.{has_if, others_all, owner_rest}
use Rattle.claims.proofs.Matching.{Match, anys, match_rest, none_known, test_if}
use Rattle.claims.proofs.OthersLeave.{named_apart}
use Rattle.claims.proofs.Taking.{claims_node}

-- ---- by the claims: a number of one experiment's claim that no other claim has; and one that it doesn't have
owner_is : (numbers : Claim → List ℕ) (exp : List ℕ) (fs : List Entry) (c : Claim) (n : ℕ) → claim_named exp fs ≡ Some c → is_in n (numbers c) ≡ true
    → list_any (λ f. is_in n (numbers f.claim)) (others exp fs) ≡ false → owner_of numbers fs n ≡ Some exp
owner_is numbers exp [] c n h inside none = absurd (cc h)
owner_is numbers exp (f ∷ fs) c n h inside none = elim (cases_Bool (bytes_eq f.exp exp)) [
  | inl is_so ↦
      let here : f.claim ≡ c = same_Some f.claim c (sym (ap (λ b. if b then Some f.claim else claim_named exp fs) is_so) ∙ h) in
      let has : is_in n (numbers f.claim) ≡ true = ap (λ d. is_in n (numbers d)) here ∙ inside in
      ap (λ b. if b then Some f.exp else owner_of numbers fs n) has ∙ ap Some ((bytes_eq-Decides f.exp exp).0 is_so)
  | inr not_so ↦
      let rest = sym (ap (λ b. if b then Some f.claim else claim_named exp fs) not_so) ∙ h in
      let both : (is_in n (numbers f.claim) || list_any (λ (g : Entry). is_in n (numbers g.claim)) (others exp fs)) ≡ false =
      sym (ap (λ b. list_any (λ (g : Entry). is_in n (numbers g.claim)) (if b then fs else f ∷ others exp fs)) not_so) ∙ none in
      let out = or_parts (is_in n (numbers f.claim)) (list_any (λ (g : Entry). is_in n (numbers g.claim)) (others exp fs)) both in
      ap (λ b. if b then Some f.exp else owner_of numbers fs n) out.0 ∙ owner_is numbers exp fs c n rest inside out.1
]

owner_beside : (exp : List ℕ) (fs : List Entry) (n : ℕ) (o : Option Claim) → claim_named exp fs ≡ o → test_if (λ c. is_in n (claim_nodes c)) o ≡ false
    → owner_of claim_nodes fs n ≡ owner_of claim_nodes (others exp fs) n
owner_beside exp fs n None h out = ap (λ l. owner_of claim_nodes l n) (sym (others_all exp fs h))
owner_beside exp fs n (Some c) h out = owner_rest claim_nodes exp fs c n h out

-- ---- by the experiments: one claims the node by a mapping, and so isn't out
module _ (lab : Lab) (n : ℕ) where
  abbrev claims_it : Experiment → Bool
  claims_it e = is_in n (claim_nodes (claim_of lab e))

  none_out : (e : Experiment) → e.phase ≡ Out → false ≡ claims_it e
  none_out e is = sym (ap (λ (p : Phase). is_in n (nodes_in (hold_in lab (claimed_in e.wiring p Old)) ++ nodes_in (hold_in lab (claimed_in e.wiring p New)))) is)

  stands : (e : Experiment) → test_if (λ c. is_in n (claim_nodes c)) (standing lab e) ≡ claims_it e
  stands e = by e.phase refl
    where
      by : (p : Phase) → e.phase ≡ p → test_if (λ c. is_in n (claim_nodes c)) (standing_in lab e p) ≡ claims_it e
      by Out is = none_out e is
      by (In mapping tags) is = refl
      by (Moving old new) is = refl

  has_claim : (e : Experiment) → claims_it e ≡ true → standing lab e ≡ Some (claim_of lab e)
  has_claim e inside = by e.phase refl
    where
      by : (p : Phase) → e.phase ≡ p → standing_in lab e p ≡ Some (claim_of lab e)
      by Out is = absurd (cc (none_out e is ∙ inside))
      by (In mapping tags) is = refl
      by (Moving old new) is = refl

  name_claimed : (e : Experiment) → claims_it e ≡ true → Claims lab e (node_name lab (record { 0 = n }))
  name_claimed e inside = claims_node lab e n (has_if n (claim_nodes (claim_of lab e)) inside)

  alone : (fs : List Entry) (es : List Experiment) → Match lab fs es → Apart (λ e f. (name : List ℕ) → Claims lab e name → Claims lab f name → ⊥) es
      → map (λ e. e.name) (filter claims_it es) ≡ listed (owner_of claim_nodes fs n)
  alone fs [] m apart = ap (λ l. listed (owner_of claim_nodes l n)) (sym (none_known lab fs m))
  alone fs (e ∷ es) m apart =
      let rest : Match lab (others e.name fs) es = match_rest lab fs [] es e m in
      let more : map (λ d. d.name) (filter claims_it es) ≡ listed (owner_of claim_nodes (others e.name fs) n) = alone (others e.name fs) es rest apart.1 in
      elim (cases_Bool (claims_it e)) [
        | inl inside ↦
            let none : list_any (λ (f : Entry). is_in n (claim_nodes f.claim)) (others e.name fs) ≡ false =
            anys lab (λ c. is_in n (claim_nodes c)) claims_it (others e.name fs) es (λ d h. stands d) rest
            ∙ none_of claims_it es (λ d h there. apart.0 d h (node_name lab (record { 0 = n })) (name_claimed e inside) (name_claimed d there)) in
            let nobody : owner_of claim_nodes (others e.name fs) n ≡ None = none_is (owner_of claim_nodes (others e.name fs) n) (unowned claim_nodes (others e.name fs) n ∙ ap not none) in
            let owner : owner_of claim_nodes fs n ≡ Some e.name = owner_is claim_nodes e.name fs (claim_of lab e) n (m.claims e (inl refl) ∙ has_claim e inside) inside none in
            ap (λ b. map (λ (d : Experiment). d.name) (if b then e ∷ filter claims_it es else filter claims_it es)) inside
            ∙ ap (λ l. e.name ∷ l) (more ∙ ap listed nobody) ∙ sym (ap listed owner)
        | inr outside ↦
            ap (λ b. map (λ (d : Experiment). d.name) (if b then e ∷ filter claims_it es else filter claims_it es)) outside
            ∙ more ∙ sym (ap listed (owner_beside e.name fs n (standing lab e) (m.claims e (inl refl)) (stands e ∙ outside)))
      ]

-- THE EXPERIMENTS THAT CLAIM A NODE are its owner alone
pub owners : (lab : Lab) (es : List Experiment) (held : Held) (n : ℕ) → Holding lab es → AllDiffer (map (λ e. e.name) es) → ClaimsOf lab es held
    → map (λ e. e.name) (filter (λ e. is_in n (claim_nodes (claim_of lab e))) es) ≡ listed (owner_of claim_nodes held.entries n)
owners lab es held n holding names of_es = alone lab n held.entries es (record { once = of_es.once; known = of_es.known; claims = of_es.claims; names = named_apart es names }) holding.nodes
