-- Experiments by name.
use Rattle.std.specs.Str.{bytes_eq}
use Rattle.std.proofs.Common.{◌≡◌, ◌≢◌, inl, inr, ℕ, true, false, Some, None, List, [], ◌∷◌, ◌++◌, map, sym, ap, ◌∙◌, ◌⊎◌, Bool, cond}
use Rattle.std.proofs.lemmas.Bool.{cases_Bool, cond-true, cond-false, false_from_ne_true}
use Rattle.std.proofs.lemmas.Slice.Eq.{bytes_eq-Decides}
use Rattle.std.proofs.lemmas.Option.{same_Some}
use Rattle.lab_base.specs.Lists.{Has, AllDiffer}
use Rattle.lab_base.proofs.Members.{Has-mapped}
use Rattle.virt_topo.specs.declared.experiment.Experiment.{Experiment}
use Rattle.records_model.specs.Labs.{find, replace, others}

pub none_some : {X Y : Type 0} (x : X) → None ≡ Some x → Y
none_some x e = absurd (cc e)

-- where the experiment of a name stands
pub record Found (name : List ℕ) (es : List Experiment) (e : Experiment) : Type 0 where
  pub before : List Experiment
  pub after : List Experiment
  pub whole : es ≡ before ++ e ∷ after
  pub name_is : e.name ≡ name
  pub others_are : others name es ≡ before ++ after
  pub replaced : (f : Experiment) → replace name f es ≡ before ++ f ∷ after

pub found_from : (name : List ℕ) (es : List Experiment) (e : Experiment) → find name es ≡ Some e → Found name es e
found_from name [] e h = none_some e h
found_from name (x ∷ es) e h = elim (cases_Bool (bytes_eq x.name name)) [
  | inl yes' ↦
      let same : x ≡ e = same_Some x e (sym (cond-true (bytes_eq x.name name) (Some x) (find name es) yes') ∙ h) in
      record {
        before = [];
        after = es;
        whole = ap (λ y. y ∷ es) same;
        name_is = sym (ap (λ y. y.name) same) ∙ (bytes_eq-Decides x.name name).0 yes';
        others_are = cond-true (bytes_eq x.name name) es (x ∷ others name es) yes';
        replaced = λ f. cond-true (bytes_eq x.name name) (f ∷ es) (x ∷ replace name f es) yes';
      }
  | inr no' ↦
      let r = found_from name es e (sym (cond-false (bytes_eq x.name name) (Some x) (find name es) no') ∙ h) in
      record {
        before = x ∷ r.before;
        after = r.after;
        whole = ap (λ l. x ∷ l) r.whole;
        name_is = r.name_is;
        others_are = cond-false (bytes_eq x.name name) es (x ∷ others name es) no' ∙ ap (λ l. x ∷ l) r.others_are;
        replaced = λ f. cond-false (bytes_eq x.name name) (f ∷ es) (x ∷ replace name f es) no' ∙ ap (λ l. x ∷ l) (r.replaced f);
      }
]

-- none has the name
pub not_found : (name : List ℕ) (es : List Experiment) → find name es ≡ None → (e : Experiment) → Has es e → e.name ≢ name
not_found name [] h e in_es same = in_es
not_found name (x ∷ es) h e in_es same = elim (cases_Bool (bytes_eq x.name name)) [
  | inl yes' ↦ none_some x (sym h ∙ cond-true (bytes_eq x.name name) (Some x) (find name es) yes')
  | inr no' ↦ elim in_es [
    | inl here ↦
        let differ : false ≡ true = sym no' ∙ (bytes_eq-Decides x.name name).1 (ap (λ y. y.name) here ∙ same) in
        absurd (cc differ)
    | inr there ↦ not_found name es (sym (cond-false (bytes_eq x.name name) (Some x) (find name es) no') ∙ h) e there same
  ]
]

-- the names of a list in which one element has another with its name in its place
pub names_mid : (a b : List Experiment) (e f : Experiment) → f.name ≡ e.name → map (λ x. x.name) (a ++ f ∷ b) ≡ map (λ x. x.name) (a ++ e ∷ b)
names_mid [] b e f same = ap (λ n. n ∷ map (λ x. x.name) b) same
names_mid (x ∷ a) b e f same = ap (λ l. x.name ∷ l) (names_mid a b e f same)

-- the experiments but one
pub has_others : (name : List ℕ) (es : List Experiment) (x : Experiment) → Has (others name es) x → Has es x
has_others name [] x h = h
has_others name (e ∷ es) x h = by (bytes_eq e.name name) (has_others name es x) h
  where
    by : (b : Bool) → (Has (others name es) x → Has es x) → Has (cond b es (e ∷ others name es)) x → Has (e ∷ es) x
    by true rest h = inr h
    by false rest (inl here) = inl here
    by false rest (inr there) = inr (rest there)

-- the experiments with one in the place of another
pub has_replaced : (name : List ℕ) (g : Experiment) (es : List Experiment) (x : Experiment) → Has (replace name g es) x → (g ≡ x) ⊎ Has es x
has_replaced name g [] x h = absurd h
has_replaced name g (e ∷ es) x h = by (bytes_eq e.name name) (has_replaced name g es x) h
  where
    by : (b : Bool) → (Has (replace name g es) x → (g ≡ x) ⊎ Has es x) → Has (cond b (g ∷ es) (e ∷ replace name g es)) x → (g ≡ x) ⊎ Has (e ∷ es) x
    by true rest (inl here) = inl here
    by true rest (inr there) = inr (inr there)
    by false rest (inl here) = inr (inl here)
    by false rest (inr there) = elim (rest there) [ inl is ↦ inl is | inr old ↦ inr (inr old) ]

-- each name is of one
pub find_has : (es : List Experiment) (e : Experiment) → AllDiffer (map (λ x. x.name) es) → Has es e → find e.name es ≡ Some e
find_has [] e differ h = absurd h
find_has (x ∷ es) e differ (inl is) = cond-true (bytes_eq x.name e.name) (Some x) (find e.name es) ((bytes_eq-Decides x.name e.name).1 (ap (λ y. y.name) is)) ∙ ap Some is
find_has (x ∷ es) e differ (inr h) =
    cond-false (bytes_eq x.name e.name) (Some x) (find e.name es)
    (false_from_ne_true (bytes_eq x.name e.name) (λ yes'. differ.0 e.name (Has-mapped (λ y. y.name) es e h) ((bytes_eq-Decides x.name e.name).0 yes')))
    ∙ find_has es e differ.1 h
