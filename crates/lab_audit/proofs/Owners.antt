-- Whether a node differs, by the first experiment that claims it.
use Rattle.std.proofs.Common.{◌≡◌, inl, inr, ℕ, zero, suc, ◌<◌, Bool, true, false, List, [], ◌∷◌, Option, Some, None, refl, sym, ap, ◌∙◌, subst, cond, arith, length}
use Rattle.std.specs.Prelude.{◌↔◌, ◌||◌, is_some, not, slice_get}
use Rattle.std.specs.List.{find}
use Rattle.std.proofs.lemmas.Bool.{true≢false, false≢true}
use Rattle.lab_base.specs.Lists.{Has}
use Rattle.lab_base.proofs.Members.{Apart-same, Has-slice_get, found_has}
use Rattle.phys_lab.specs.Labs.{Lab}
use Rattle.virt_topo.specs.declared.experiment.Experiment.{Experiment}
use Rattle.virt_topo.specs.declared.experiment.Phase.{Phase}
use Rattle.virt_topo.specs.declared.experiment.Phase.TheVariants.{Out, In, Moving}
use Rattle.virt_topo.specs.declared.mapping.Mapped.{Mapped}
use Rattle.virt_topo.specs.declared.wiring.Wiring.{Wiring}
use Rattle.plant.specs.Worlds.{World, NodeRow, PipeRow, wiped}
use Rattle.lab_model.specs.Cabled.{SameNode}
use Rattle.lab_model.specs.Claims.{Which, Old, New, claimed, claimed_in, Claims, Places, claims_it, is_placed}
use Rattle.lab_model.specs.Holding.{Holding, Suits}
use Rattle.lab_model.specs.Wants.{node_row_of, os_on, pipes_on}
use Rattle.lab_model.proofs.Kept.{Places_from}
use Rattle.lab_model.proofs.Claiming.{claims_from, claims_test}
use Rattle.records_model.specs.Labs.{LabState, Sane, lab_in}
use Rattle.lab_audit.specs.Diff.{standing, standing_in, Differs, Held, Free, IsCompared}
use Rattle.lab_audit.specs.Nodes.{IsOff, claimer, row_with}

pub not_found : {X : Type 0} (p : X → Bool) (xs : List X) → find p xs ≡ None → (x : X) → Has xs x → p x ≡ false
not_found p [] is x h = absurd h
not_found {X} p (y ∷ xs) is x h = by (p y) refl (λ e g. not_found p xs e x g) is h
  where
    by : (test : Bool) → p y ≡ test → (find p xs ≡ None → Has xs x → p x ≡ false) → cond test (Some y) (find p xs) ≡ None → Has (y ∷ xs) x → p x ≡ false
    by true t rest e g = absurd (cc e)
    by false t rest e (inl same) = ap p (sym same) ∙ t
    by false t rest e (inr g) = rest e g

pub some_at : {X : Type 0} (xs : List X) (n : ℕ) → n < length xs → (x : X) × (slice_get xs n ≡ Some x)
some_at [] n lt = absurd (omega (arith, lt))
some_at (x ∷ xs) zero lt = (x, refl)
some_at (x ∷ xs) (suc n) lt = some_at xs n (omega (arith, lt))

-- what stands is claimed, and places what is claimed
stands_claimed : (wiring : Wiring) (phase : Phase) (m : Mapped) → standing_in wiring phase ≡ Some m → claimed_in wiring phase New ≡ Some m
stands_claimed wiring Out m is = absurd (cc is)
stands_claimed wiring (In mapping tags) m is = is
stands_claimed wiring (Moving old new) m is = absurd (cc is)

stands_placed : (lab : Lab) (wiring : Wiring) (phase : Phase) (m : Mapped) (name : List ℕ) → standing_in wiring phase ≡ Some m
    → (is_placed lab (claimed_in wiring phase Old) name || is_placed lab (claimed_in wiring phase New) name) ≡ true → Places lab m name
stands_placed lab wiring Out m name is h = absurd (cc is)
stands_placed lab wiring (In mapping tags) m name is h = Places_from lab m name (ap (λ (o : Option Mapped). is_placed lab o name) (sym is) ∙ h)
stands_placed lab wiring (Moving old new) m name is h = absurd (cc is)

module _ (lab : Lab) (es : List Experiment) (w : World) (name : List ℕ) (holding : Holding lab es) where
  one_claims : (e f : Experiment) → Has es e → Has es f → Claims lab e name → Claims lab f name → e ≡ f
  one_claims e f has_e has_f c d = Apart-same (λ (a b : Experiment). (n : List ℕ) → Claims lab a n → Claims lab b n → ⊥) es e f holding.nodes has_e has_f (λ no. no name c d) (λ no. no name d c)

  pub off_differs : (e : Experiment) → claimer lab es name ≡ Some e → IsOff lab w name (standing e) ↔ Differs lab es w name
  off_differs e is =
      let f = found_has (λ (x : Experiment). claims_it lab x name) es e is in (
        (λ off. to e (standing e) refl f.0 f.1 off),
        (λ d. from d f.0 f.1),
      )
    where
      to : (x : Experiment) (o : Option Mapped) → standing x ≡ o → Has es x → claims_it lab x name ≡ true → IsOff lab w name o → Differs lab es w name
      to x None s has it off = absurd off
      to x (Some m) s has it off = Held x m has s (stands_placed lab x.wiring x.phase m name s it) off

      from : Differs lab es w name → Has es e → claims_it lab e name ≡ true → IsOff lab w name (standing e)
      from (Held x m has s placed off) has_e it =
          let claims : Claims lab x name = record { which = New; mapped = m; is = stands_claimed x.wiring x.phase m s; placed = placed } in
          let same : x ≡ e = one_claims x e has has_e claims (claims_from lab e name it) in
          subst (λ (o : Option Mapped). IsOff lab w name o) (sym s ∙ ap standing same) off
      from (Free none off) has_e it = absurd (none e has_e (claims_from lab e name it))

  none_claims : claimer lab es name ≡ None → (e : Experiment) → Has es e → Claims lab e name → ⊥
  none_claims is e has c = true≢false (sym (claims_test lab e name c) ∙ not_found (λ (x : Experiment). claims_it lab x name) es is e has)

  pub free_differs : claimer lab es name ≡ None → (SameNode (w.node name) wiped → ⊥) ↔ Differs lab es w name
  free_differs is = ((λ off. Free (none_claims is) off), from)
    where
      from : Differs lab es w name → SameNode (w.node name) wiped → ⊥
      from (Held x m has s placed off) = absurd (none_claims is x has (record { which = New; mapped = m; is = stands_claimed x.wiring x.phase m s; placed = placed }))
      from (Free none off) = off

  -- the node is compared, where its experiment stands, and where it has none
  pub held_compared : (e : Experiment) (m : Mapped) → claimer lab es name ≡ Some e → standing e ≡ Some m → IsCompared lab es name
  held_compared e m is s =
      let f = found_has (λ (x : Experiment). claims_it lab x name) es e is in
      inl (e, f.0, (m, s, stands_placed lab e.wiring e.phase m name s f.1))

  pub free_compared : claimer lab es name ≡ None → IsCompared lab es name
  free_compared is = inr (none_claims is)

-- a node without anything
pub same_wiped : (row : NodeRow) → SameNode row (row_with None false []) ↔ SameNode row wiped
same_wiped row = (
  (λ s. record { os = s.os; pipes = λ k. s.pipes k ∙ no_pipe k; boot = s.boot }),
  (λ s. record { os = s.os; pipes = λ k. s.pipes k ∙ sym (no_pipe k); boot = s.boot }),
)
  where
    no_pipe : (k : ℕ) → (row_with None false []).pipes k ≡ None
    no_pipe k = refl

-- what isn't the same differs
not_same : (same : Bool) (S : Type 0) → (same ≡ true ↔ S) → (not same ≡ true ↔ (S → ⊥))
not_same true S is = ((λ never. absurd (false≢true never)), (λ other. absurd (other (is.0 refl))))
not_same false S is = ((λ yes. λ s. false≢true (is.1 s)), (λ other. refl))

pub unwiped_by : (row : NodeRow) (same : Bool) → (same ≡ true ↔ SameNode row (row_with None false [])) → (not same ≡ true ↔ (SameNode row wiped → ⊥))
unwiped_by row same is = not_same same (SameNode row wiped) ((λ yes. (same_wiped row).0 (is.0 yes)), (λ s. is.1 ((same_wiped row).1 s)))

-- a node isn't as an experiment wants it that stands
pub off_by : (lab : Lab) (w : World) (e : Experiment) (m : Mapped) (name n : List ℕ) (os : Option (List ℕ)) (pipes : List PipeRow) (same : Bool) → standing e ≡ Some m → n ≡ name
    → os ≡ os_on lab m.wiring.nodes m.mapping.places name → pipes ≡ pipes_on lab m name → (same ≡ true ↔ SameNode (w.node n) (row_with os true pipes)) → (not same ≡ true ↔ IsOff lab w name (standing e))
off_by lab w e m name n os pipes same stands named os_is pipes_are is =
    let node : (same ≡ true) ↔ SameNode (w.node name) (node_row_of lab m name) = subst (λ (v : List ℕ). (same ≡ true) ↔ SameNode (w.node v) (node_row_of lab m name)) named
    (subst (λ (ps : List PipeRow). (same ≡ true) ↔ SameNode (w.node n) (row_with (os_on lab m.wiring.nodes m.mapping.places name) true ps)) pipes_are
    (subst (λ (o : Option (List ℕ)). (same ≡ true) ↔ SameNode (w.node n) (row_with o true pipes)) os_is is)) in
    subst (λ (o : Option Mapped). (not same ≡ true) ↔ IsOff lab w name o) (sym stands) (not_same same (SameNode (w.node name) (node_row_of lab m name)) node)

-- what the mappings of a sane state are
pub holding_in : (s : LabState) (lab : Lab) → Sane s → s.lab ≡ Some lab → Holding lab s.experiments
holding_in s lab sane is = subst (λ (o : Option Lab). Holding (lab_in o) s.experiments) is sane.holding

pub suits_all : (s : LabState) (lab : Lab) (n : ℕ) (e : Experiment) → Sane s → s.lab ≡ Some lab → slice_get s.experiments n ≡ Some e → (which : Which) (m : Mapped) → claimed e which ≡ Some m → Suits lab m
suits_all s lab n e sane is at which m claims = (holding_in s lab sane is).fits e which m (Has-slice_get s.experiments n e at) claims

pub claimer_suits : (s : LabState) (lab : Lab) (name : List ℕ) (e : Experiment) → Sane s → s.lab ≡ Some lab → claimer lab s.experiments name ≡ Some e → (m : Mapped) → standing e ≡ Some m → Suits lab m
claimer_suits s lab name e sane is first m stands =
    let f = found_has (λ (x : Experiment). claims_it lab x name) s.experiments e first in
    (holding_in s lab sane is).fits e New m f.0 (stands_claimed e.wiring e.phase m stands)

-- A NODE DIFFERS, by its experiment, and where it has none
pub differs_held : (s : LabState) (lab : Lab) (w : World) (name : List ℕ) (e : Experiment) (off : Bool) → Sane s → s.lab ≡ Some lab → claimer lab s.experiments name ≡ Some e
    → (((m : Mapped) → standing e ≡ Some m → is_some (w.node name).boot ≡ true) → (off ≡ true) ↔ IsOff lab w name (standing e))
    → (IsCompared lab s.experiments name → is_some (w.node name).boot ≡ true) → (off ≡ true) ↔ Differs lab s.experiments w name
differs_held s lab w name e off sane is first exact known =
    let holding = holding_in s lab sane is in
    let by : (off ≡ true) ↔ IsOff lab w name (standing e) = exact (λ m stands. known (held_compared lab s.experiments w name holding e m first stands)) in
    let to = off_differs lab s.experiments w name holding e first in
    ((λ yes. to.0 (by.0 yes)), (λ d. by.1 (to.1 d)))

pub differs_free : (s : LabState) (lab : Lab) (w : World) (name : List ℕ) (off : Bool) → Sane s → s.lab ≡ Some lab → claimer lab s.experiments name ≡ None
    → (is_some (w.node name).boot ≡ true → (off ≡ true) ↔ (SameNode (w.node name) wiped → ⊥))
    → (IsCompared lab s.experiments name → is_some (w.node name).boot ≡ true) → (off ≡ true) ↔ Differs lab s.experiments w name
differs_free s lab w name off sane is first exact known =
    let holding = holding_in s lab sane is in
    let by : (off ≡ true) ↔ (SameNode (w.node name) wiped → ⊥) = exact (known (free_compared lab s.experiments w name holding first)) in
    let to = free_differs lab s.experiments w name holding first in
    ((λ yes. to.0 (by.0 yes)), (λ d. by.1 (to.1 d)))
