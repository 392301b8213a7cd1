-- Moves of one experiment.
use Rattle.std.proofs.Common.{◌≡◌, ℕ, Bool, true, false, Option, Some, None, List, refl, sym, ap, ◌∙◌}
use Rattle.std.proofs.lemmas.Option.{same_Some}
use Rattle.phys_lab.specs.Labs.{Lab}
use Rattle.virt_topo.specs.declared.experiment.Experiment.{Experiment}
use Rattle.virt_topo.specs.declared.experiment.Phase.{Phase}
use Rattle.virt_topo.specs.declared.experiment.Phase.TheVariants.{Out, In, Moving}
use Rattle.records_model.specs.Labs.{LabState, Move, Commits, Aborts, find, replace, becomes, in_state, moved_one, with_replaced, moved_of, moved, Follows}
use Rattle.records_model.proofs.Finding.{none_some}
use Rattle.records_model.proofs.LabLaws.{in_state-some, with_replaced-some, found_one}
use Rattle.lab_state.specs.Texts.{the_texts}
use Rattle.lab_state.specs.Changes.{ending, ending_record}
use Rattle.lab_state.specs.Ends.{kept_of, standing, may_end}

abbrev pub state : Lab → List Experiment → LabState
state lab es = record { lab = Some lab; experiments = es }

-- a move of the experiment of a name
pub record IsOfOne (name : List ℕ) (move : Move) : Type 0 where
  pub nowhere : (es : List Experiment) → moved_of None es move ≡ None
  pub inside : (lab : Lab) (es : List Experiment) → moved_of (Some lab) es move ≡ in_state lab (moved_one lab es name (find name es) move)

-- what it moves
pub record Turn (o : Option Lab) (es : List Experiment) (name : List ℕ) (move : Move) (u : LabState) : Type 0 where
  pub lab : Lab
  pub is_lab : o ≡ Some lab
  pub before : Experiment
  pub found : find name es ≡ Some before
  pub now : Experiment
  pub becomes : becomes lab es before before.phase move ≡ Some now
  pub after : state lab (replace name now es) ≡ u

pub turn_of : (o : Option Lab) (es : List Experiment) (name : List ℕ) (move : Move) (u : LabState) → IsOfOne name move → moved_of o es move ≡ Some u → Turn o es name move u
turn_of None es name move u one h = none_some u (sym (one.nowhere es) ∙ h)
turn_of (Some lab) es name move u one h =
    let there = in_state-some lab (moved_one lab es name (find name es) move) u (sym (one.inside lab es) ∙ h) in
    let e = found_one lab es name move (find name es) there.0 there.1 in
    let f = with_replaced-some name es (becomes lab es e.0 e.0.phase move) there.0 e.2 in
    record { lab = lab; is_lab = refl; before = e.0; found = e.1; now = f.0; becomes = f.1; after = ap (state lab) f.2 ∙ there.2 }

-- and the other way
pub turned : (o : Option Lab) (es : List Experiment) (name : List ℕ) (move : Move) (lab : Lab) (e f : Experiment) → IsOfOne name move → o ≡ Some lab → find name es ≡ Some e
    → becomes lab es e e.phase move ≡ Some f → moved_of o es move ≡ Some (state lab (replace name f es))
turned o es name move lab e f one is_lab found turns =
    ap (λ l. moved_of l es move) is_lab
    ∙ one.inside lab es
    ∙ ap (λ x. in_state lab (moved_one lab es name x move)) found
    ∙ ap (λ x. in_state lab (with_replaced name es x)) turns

-- the end of a move
pub ending_of : (exp : List ℕ) (commit : Bool) → IsOfOne exp (ending exp commit)
ending_of exp true = record { nowhere = λ es. refl; inside = λ lab es. refl }
ending_of exp false = record { nowhere = λ es. refl; inside = λ lab es. refl }

pub ends_as : (lab : Lab) (es : List Experiment) (e f : Experiment) (exp : List ℕ) (commit : Bool) (p : Phase) → becomes lab es e p (ending exp commit) ≡ Some f → f ≡ standing e (kept_of commit p)
ends_as lab es e f exp true Out h = none_some f h
ends_as lab es e f exp false Out h = none_some f h
ends_as lab es e f exp true (In m tags) h = none_some f h
ends_as lab es e f exp false (In m tags) h = none_some f h
ends_as lab es e f exp true (Moving None None) h = none_some f h
ends_as lab es e f exp false (Moving None None) h = none_some f h
ends_as lab es e f exp true (Moving None (Some new)) h = sym (same_Some _ f h)
ends_as lab es e f exp false (Moving None (Some new)) h = sym (same_Some _ f h)
ends_as lab es e f exp true (Moving (Some old) None) h = sym (same_Some _ f h)
ends_as lab es e f exp false (Moving (Some old) None) h = none_some f h
ends_as lab es e f exp true (Moving (Some old) (Some new)) h = sym (same_Some _ f h)
ends_as lab es e f exp false (Moving (Some old) (Some new)) h = sym (same_Some _ f h)

-- where it may end it does, and only there
pub ends_where : (lab : Lab) (es : List Experiment) (e : Experiment) (exp : List ℕ) (commit : Bool) (p : Phase) → may_end commit p ≡ true → becomes lab es e p (ending exp commit) ≡ Some (standing e (kept_of commit p))
ends_where lab es e exp true Out h = absurd (cc h)
ends_where lab es e exp false Out h = absurd (cc h)
ends_where lab es e exp true (In m tags) h = absurd (cc h)
ends_where lab es e exp false (In m tags) h = absurd (cc h)
ends_where lab es e exp true (Moving None None) h = absurd (cc h)
ends_where lab es e exp false (Moving None None) h = absurd (cc h)
ends_where lab es e exp true (Moving None (Some new)) h = refl
ends_where lab es e exp false (Moving None (Some new)) h = refl
ends_where lab es e exp true (Moving (Some old) None) h = refl
ends_where lab es e exp false (Moving (Some old) None) h = absurd (cc h)
ends_where lab es e exp true (Moving (Some old) (Some new)) h = refl
ends_where lab es e exp false (Moving (Some old) (Some new)) h = refl

pub ends_not : (lab : Lab) (es : List Experiment) (e f : Experiment) (exp : List ℕ) (commit : Bool) (p : Phase) → may_end commit p ≡ false → becomes lab es e p (ending exp commit) ≡ Some f → ⊥
ends_not lab es e f exp true Out h g = none_some f g
ends_not lab es e f exp false Out h g = none_some f g
ends_not lab es e f exp true (In m tags) h g = none_some f g
ends_not lab es e f exp false (In m tags) h g = none_some f g
ends_not lab es e f exp true (Moving None None) h g = none_some f g
ends_not lab es e f exp false (Moving None None) h g = none_some f g
ends_not lab es e f exp true (Moving None (Some new)) h g = absurd (cc h)
ends_not lab es e f exp false (Moving None (Some new)) h g = absurd (cc h)
ends_not lab es e f exp true (Moving (Some old) None) h g = absurd (cc h)
ends_not lab es e f exp false (Moving (Some old) None) h g = none_some f g
ends_not lab es e f exp true (Moving (Some old) (Some new)) h g = absurd (cc h)
ends_not lab es e f exp false (Moving (Some old) (Some new)) h g = absurd (cc h)

-- the record of the end says it
pub ending_follows : (s u : LabState) (exp : List ℕ) (commit : Bool) → moved s (ending exp commit) ≡ Some u → Follows the_texts s (ending_record exp commit) u
ending_follows s u exp true h = record { move = Commits exp; says = refl; gives = h }
ending_follows s u exp false h = record { move = Aborts exp; says = refl; gives = h }

pub follows_ending : (s u : LabState) (exp : List ℕ) (commit : Bool) → Follows the_texts s (ending_record exp commit) u → moved s (ending exp commit) ≡ Some u
follows_ending s u exp true f = sym (ap (λ m. moved s m) f.says) ∙ f.gives
follows_ending s u exp false f = sym (ap (λ m. moved s m) f.says) ∙ f.gives
