-- Isolation is a matter of neighbours.
use Rattle.std.specs.Prelude.{◌==◌}
use Rattle.std.proofs.Common.{◌≡◌, List, [], ◌∷◌, refl, sym, ◌∙◌, subst, ℕ, true}
use Rattle.std.proofs.lemmas.Bool.{and_from, eqb-true, not_from_false}
use Rattle.lab_base.specs.Lists.{AllDiffer}
use Rattle.lab_base.proofs.Members.{none_of}
use Rattle.phys_lab.specs.Labs.{Lab}
use Rattle.virt_topo.specs.declared.experiment.Experiment.{Experiment}
use Rattle.plant.specs.Worlds.{Row, World}
use Rattle.lab_model.specs.Reach.{LeadsOn}
use Rattle.lab_model.specs.Isolated.{Owner, Owns, IsRow, IsPipe, Isolated, IsolatedBeside}
use Rattle.lab_model.specs.Beside.{all_differ}

module _ (lab : Lab) (es : List Experiment) (w : World) where
  along : IsolatedBeside lab es w → (p : Row) (path : List Row) (q : Row) (a b : Owner) → IsRow w p → LeadsOn lab (IsPipe w) (IsRow w) p path q → Owns lab es p a → Owns lab es q b → a ≡ b
  along is p [] q a b at leads of_p of_q = is.one p a b at of_p (subst (λ x. Owns lab es x b) (sym leads) of_q)
  along is p (mid ∷ path) q a b at leads of_p of_q =
      let mine = is.owned mid leads.0 in
      is.beside p mid a mine.0 at leads.0 leads.1 of_p mine.1 ∙ along is mid path q mine.0 b leads.0 leads.2 mine.1 of_q

  pub from_beside : IsolatedBeside lab es w → Isolated lab es w
  from_beside is = record { owned = is.owned; apart = λ p q a b reach of_p of_q. along is p reach.1.0 q a b reach.0 reach.1.1 of_p of_q }

  pub to_beside : Isolated lab es w → IsolatedBeside lab es w
  to_beside is = record {
    owned = is.owned;
    one = λ p a b at of_p of_q. is.apart p p a b (at, ([], refl)) of_p of_q;
    beside = λ p q a b at there next of_p of_q. is.apart p q a b (at, (q ∷ [], (there, next, refl))) of_p of_q;
  }

-- numbers that differ pass the test
pub differ_test : (xs : List ℕ) → AllDiffer xs → all_differ xs ≡ true
differ_test [] differ = refl
differ_test (x ∷ xs) differ = and_from _ _ (not_from_false _ (none_of (λ y. y == x) xs (λ y h is. differ.0 y h (sym (eqb-true y x is))))) (differ_test xs differ.1)
