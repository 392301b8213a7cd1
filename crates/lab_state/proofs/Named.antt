-- Experiments at their names.
use Rattle.std.proofs.Common.{◌≡◌, ℕ, Bool, true, false, is_some, inl, inr, Option, Some, None, Result, Ok, Err, OnOk, OnErr, List, [], ◌∷◌, ◌++◌, position, refl, sym, ap, subst, ◌∙◌}
use Rattle.std.specs.Str.{bytes_eq}
use Rattle.std.specs.Result.{is_ok}
use Rattle.std.specs.Map.{lookup, remove_entry, keys_of}
use Rattle.std.proofs.lemmas.Bool.{cases_Bool, cond-true, cond-false}
use Rattle.std.proofs.lemmas.List.{map-append}
use Rattle.std.proofs.lemmas.Slice.Eq.{bytes_eq-Decides}
use Rattle.indexmap.specs.IndexMap.{insert_entry, set_value_at}
use Rattle.indexmap.proofs.MapLemmas.{Found-position, insert_entry-first}
use Rattle.lab_base.proofs.Bytes.{bytes_turned}
use Rattle.virt_topo.specs.declared.experiment.Experiment.{Experiment}
use Rattle.records_model.specs.Labs.{find, others, replace}
use Rattle.virt_topo.specs.declared.mapping.Mapped.{Mapped}
use Rattle.lab_state.specs.Ends.{kept_of, standing, ended}
use Rattle.lab_state.specs.Experiments.{experiments_of, AtNames}

abbrev pub Entries : Type 0
Entries = List (List ℕ × Experiment)

-- the first stands at its name, and so do the rest
head_at : (e : List ℕ × Experiment) (entries : Entries) → AtNames (e ∷ entries) → e.0 ≡ e.1.name
head_at e entries at = cc at

tail_at : (e : List ℕ × Experiment) (entries : Entries) → AtNames (e ∷ entries) → AtNames entries
tail_at e entries at = cc at

-- the test of a name at an entry
test_at : (name : List ℕ) (e : List ℕ × Experiment) → e.0 ≡ e.1.name → bytes_eq e.1.name name ≡ bytes_eq name e.0
test_at name e at = ap (λ n. bytes_eq n name) (sym at) ∙ bytes_turned e.0 name

-- the experiment of a name is the one at that key
pub find_is : (name : List ℕ) (entries : Entries) → AtNames entries → find name (experiments_of entries) ≡ lookup (bytes_eq name) entries
find_is name [] at = refl
find_is name (e ∷ entries) at = elim (cases_Bool (bytes_eq e.1.name name)) [
  | inl yes' ↦
      cond-true (bytes_eq e.1.name name) (Some e.1) (find name (experiments_of entries)) yes'
      ∙ sym (cond-true (bytes_eq name e.0) (Some e.1) (lookup (bytes_eq name) entries) (sym (test_at name e (head_at e entries at)) ∙ yes'))
  | inr no' ↦
      cond-false (bytes_eq e.1.name name) (Some e.1) (find name (experiments_of entries)) no'
      ∙ find_is name entries (tail_at e entries at)
      ∙ sym (cond-false (bytes_eq name e.0) (Some e.1) (lookup (bytes_eq name) entries) (sym (test_at name e (head_at e entries at)) ∙ no'))
]

pub not_found : (name : List ℕ) (entries : Entries) → AtNames entries → find name (experiments_of entries) ≡ None → lookup (bytes_eq name) entries ≡ None
not_found name entries at h = sym (find_is name entries at) ∙ h

-- one more
pub pushed : (entries : Entries) (name : List ℕ) (f : Experiment) → experiments_of (entries ++ (name, f) ∷ []) ≡ experiments_of entries ++ f ∷ []
pushed entries name f = map-append (λ (e : List ℕ × Experiment). e.1) entries ((name, f) ∷ [])

pub at_pushed : (entries : Entries) (name : List ℕ) (f : Experiment) → AtNames entries → name ≡ f.name → AtNames (entries ++ (name, f) ∷ [])
at_pushed entries name f at same =
    map-append (λ (e : List ℕ × Experiment). e.0) entries ((name, f) ∷ [])
    ∙ (λ i. at i ++ same i ∷ [])
    ∙ sym (map-append (λ (e : List ℕ × Experiment). e.1.name) entries ((name, f) ∷ []))

-- the others are those of the other keys
pub others_are : (name : List ℕ) (entries : Entries) → AtNames entries → others name (experiments_of entries) ≡ experiments_of (remove_entry (bytes_eq name) entries)
others_are name [] at = refl
others_are name (e ∷ entries) at = elim (cases_Bool (bytes_eq e.1.name name)) [
  | inl yes' ↦
      cond-true (bytes_eq e.1.name name) (experiments_of entries) (e.1 ∷ others name (experiments_of entries)) yes'
      ∙ sym (ap experiments_of (cond-true (bytes_eq name e.0) entries (e ∷ remove_entry (bytes_eq name) entries) (sym (test_at name e (head_at e entries at)) ∙ yes')))
  | inr no' ↦
      cond-false (bytes_eq e.1.name name) (experiments_of entries) (e.1 ∷ others name (experiments_of entries)) no'
      ∙ ap (λ (es : List Experiment). e.1 ∷ es) (others_are name entries (tail_at e entries at))
      ∙ sym (ap experiments_of (cond-false (bytes_eq name e.0) entries (e ∷ remove_entry (bytes_eq name) entries) (sym (test_at name e (head_at e entries at)) ∙ no')))
]

pub at_others : (name : List ℕ) (entries : Entries) → AtNames entries → AtNames (remove_entry (bytes_eq name) entries)
at_others name [] at = refl
at_others name (e ∷ entries) at = elim (cases_Bool (bytes_eq name e.0)) [
  | inl yes' ↦ subst AtNames (sym (cond-true (bytes_eq name e.0) entries (e ∷ remove_entry (bytes_eq name) entries) yes')) (tail_at e entries at)
  | inr no' ↦
      subst AtNames (sym (cond-false (bytes_eq name e.0) entries (e ∷ remove_entry (bytes_eq name) entries) no'))
      (λ i. head_at e entries at i ∷ at_others name entries (tail_at e entries at) i)
]

-- another one in the place of the one with its name
pub put_is : (name : List ℕ) (f : Experiment) (entries : Entries) (before : Experiment) → AtNames entries → find name (experiments_of entries) ≡ Some before
    → experiments_of (insert_entry bytes_eq entries name f) ≡ replace name f (experiments_of entries)
put_is name f [] before at found = absurd (cc found)
put_is name f (e ∷ entries) before at found = elim (cases_Bool (bytes_eq e.1.name name)) [
  | inl yes' ↦
      ap experiments_of (cond-true (bytes_eq name e.0) ((e.0, f) ∷ entries) (e ∷ insert_entry bytes_eq entries name f) (sym (test_at name e (head_at e entries at)) ∙ yes'))
      ∙ sym (cond-true (bytes_eq e.1.name name) (f ∷ experiments_of entries) (e.1 ∷ replace name f (experiments_of entries)) yes')
  | inr no' ↦
      ap experiments_of (cond-false (bytes_eq name e.0) ((e.0, f) ∷ entries) (e ∷ insert_entry bytes_eq entries name f) (sym (test_at name e (head_at e entries at)) ∙ no'))
      ∙ ap (λ (es : List Experiment). e.1 ∷ es) (put_is name f entries before (tail_at e entries at) (sym (cond-false (bytes_eq e.1.name name) (Some e.1) (find name (experiments_of entries)) no') ∙ found))
      ∙ sym (cond-false (bytes_eq e.1.name name) (f ∷ experiments_of entries) (e.1 ∷ replace name f (experiments_of entries)) no')
]

pub at_put : (name : List ℕ) (f : Experiment) (entries : Entries) → AtNames entries → name ≡ f.name → AtNames (insert_entry bytes_eq entries name f)
at_put name f [] at same = λ i. same i ∷ []
at_put name f (e ∷ entries) at same = elim (cases_Bool (bytes_eq name e.0)) [
  | inl yes' ↦
      let is : e.0 ≡ f.name = sym ((bytes_eq-Decides name e.0).0 yes') ∙ same in
      let rest : AtNames entries = tail_at e entries at in
      subst AtNames (sym (cond-true (bytes_eq name e.0) ((e.0, f) ∷ entries) (e ∷ insert_entry bytes_eq entries name f) yes')) (λ i. is i ∷ rest i)
  | inr no' ↦
      subst AtNames (sym (cond-false (bytes_eq name e.0) ((e.0, f) ∷ entries) (e ∷ insert_entry bytes_eq entries name f) no'))
      (λ i. head_at e entries at i ∷ at_put name f entries (tail_at e entries at) same i)
]

-- the same by its index
pub put_at : (name : List ℕ) (f : Experiment) (entries : Entries) (i : ℕ) → position (bytes_eq name) (keys_of entries) ≡ Some i
    → set_value_at entries i f ≡ insert_entry bytes_eq entries name f
put_at name f entries i is = sym (insert_entry-first bytes_eq name f entries i (Found-position (bytes_eq name) entries i is).first)

-- the experiment of a name has it
pub name_is : (name : List ℕ) (es : List Experiment) (e : Experiment) → find name es ≡ Some e → e.name ≡ name
name_is name [] e h = absurd (cc h)
name_is name (x ∷ es) e h = elim (cases_Bool (bytes_eq x.name name)) [
  | inl yes' ↦
      let same : Some x ≡ Some e = sym (cond-true (bytes_eq x.name name) (Some x) (find name es) yes') ∙ h in
      let one : x ≡ e = cc in
      sym (ap (λ (y : Experiment). y.name) one) ∙ (bytes_eq-Decides x.name name).0 yes'
  | inr no' ↦ name_is name es e (sym (cond-false (bytes_eq x.name name) (Some x) (find name es) no') ∙ h)
]

-- a fact on Ok, where the answer is Ok, or can't be Err
pub on_ok : {T E : Type 0} (P : Type 0) (r : Result T E) → is_ok r ≡ true → OnOk r P → P
on_ok P (Ok x) is h = h
on_ok P (Err e) is h = absurd (cc is)

pub on_no_err : {T E : Type 0} (P Q : Type 0) (r : Result T E) → (Q → ⊥) → OnErr r Q → OnOk r P → P
on_no_err P Q (Ok x) no' err ok = ok
on_no_err P Q (Err e) no' err ok = absurd (no' err)

pub none_some : {X : Type 0} (o : Option X) (x : X) → o ≡ Some x → o ≡ None → ⊥
none_some o x some none = cc

standing_name : (e : Experiment) (o : Option Mapped) → (standing e o).name ≡ e.name
standing_name e None = refl
standing_name e (Some m) = refl

ended_name : (commit : Bool) (e : Experiment) → (ended commit e).name ≡ e.name
ended_name commit e = standing_name e (kept_of commit e.phase)

-- a name that is no key has no experiment
pub missing : (name : List ℕ) (entries : Entries) (e : Experiment) → AtNames entries → find name (experiments_of entries) ≡ Some e → false ≡ is_some (lookup (bytes_eq name) entries) → ⊥
missing name entries e at found none =
    let there : lookup (bytes_eq name) entries ≡ Some e = sym (find_is name entries at) ∙ found in
    let both : false ≡ true = none ∙ ap (λ (o : Option Experiment). is_some o) there in cc both

-- an experiment ends its move, by its index
pub ended_at : (name : List ℕ) (commit : Bool) (entries : Entries) (i : ℕ) (e old new : Experiment) → AtNames entries → find name (experiments_of entries) ≡ Some e
    → position (bytes_eq name) (keys_of entries) ≡ Some i → Some old ≡ lookup (bytes_eq name) entries → new ≡ ended commit old
    → experiments_of (set_value_at entries i new) ≡ replace name (ended commit e) (experiments_of entries)
ended_at name commit entries i e old new at found is read end =
    let both : Some old ≡ Some e = read ∙ sym (find_is name entries at) ∙ found in
    let one : old ≡ e = cc in
    ap experiments_of (put_at name new entries i is)
    ∙ put_is name new entries e at found
    ∙ ap (λ f. replace name f (experiments_of entries)) (end ∙ ap (ended commit) one)

pub at_ended : (name : List ℕ) (commit : Bool) (entries : Entries) (i : ℕ) (e old new : Experiment) → AtNames entries → find name (experiments_of entries) ≡ Some e
    → position (bytes_eq name) (keys_of entries) ≡ Some i → Some old ≡ lookup (bytes_eq name) entries → new ≡ ended commit old → AtNames (set_value_at entries i new)
at_ended name commit entries i e old new at found is read end =
    let both : Some old ≡ Some e = read ∙ sym (find_is name entries at) ∙ found in
    let one : old ≡ e = cc in
    let named : new.name ≡ name = ap (λ (f : Experiment). f.name) end ∙ ended_name commit old ∙ ap (λ (f : Experiment). f.name) one ∙ name_is name (experiments_of entries) e found in
    subst AtNames (sym (put_at name new entries i is)) (at_put name new entries at (sym named))

pub stands_so : (name : List ℕ) (commit : Bool) (entries : Entries) (e old : Experiment) → AtNames entries → find name (experiments_of entries) ≡ Some e
    → Some old ≡ lookup (bytes_eq name) entries → is_some (kept_of commit old.phase) ≡ is_some (kept_of commit e.phase)
stands_so name commit entries e old at found read =
    let both : Some old ≡ Some e = read ∙ sym (find_is name entries at) ∙ found in
    let one : old ≡ e = cc in
    ap (λ (f : Experiment). is_some (kept_of commit f.phase)) one

-- nor can it be that it isn't read
pub unread : (name : List ℕ) (entries : Entries) (e : Experiment) → AtNames entries → find name (experiments_of entries) ≡ Some e → ◌≡◌ {A = Option Experiment} None (lookup (bytes_eq name) entries) → ⊥
unread name entries e at found none =
    let there : lookup (bytes_eq name) entries ≡ Some e = sym (find_is name entries at) ∙ found in
    let both : ◌≡◌ {A = Option Experiment} None (Some e) = none ∙ there in cc both
