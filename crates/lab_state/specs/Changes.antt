-- The changes that records make.
use Rattle.std.specs.Prelude.{◌≡◌, ◌≤◌, ℕ, Bool, true, false, if◌then◌else◌, List, [], ◌∷◌, ◌++◌, Option, Some, None}
use Rattle.phys_lab.specs.Labs.{Lab}
use Rattle.virt_topo.specs.declared.experiment.Experiment.{Experiment}
use Rattle.virt_topo.specs.declared.experiment.Phase.{Phase}
use Rattle.virt_topo.specs.declared.experiment.Phase.TheVariants.{Out, Moving}
use Rattle.journal_rec.specs.declared.record.Record.{Record}
use Rattle.journal_rec.specs.declared.record.Record.TheVariants.{Commit, Abort}
use Rattle.records_model.specs.Labs.{LabState, Move, Commits, Aborts, find, others, replace, moved, Sane}
use Rattle.claims.specs.declared.claim.Claim.{Claim}
use Rattle.claims.specs.Held.{Held}
use Rattle.claims.specs.Holds.{claim_of}
use Rattle.claims.specs.Adding.{MayAdd}
use Rattle.claims.specs.Answered.{none_of}
use Rattle.claims.specs.Experiments.{ClaimsOf}
use Rattle.lab_state.specs.declared.prepared.Change.{Change}
use Rattle.lab_state.specs.declared.prepared.Change.TheVariants.{Set, Add, Remove, Begin, End}
use Rattle.lab_state.specs.Seen.{Seen}
use Rattle.lab_state.specs.Kept.{ArePrintable}

-- the end of a move
abbrev pub ending : List ℕ → Bool → Move
ending exp commit = if commit then Commits exp else Aborts exp

abbrev pub ending_record : List ℕ → Bool → Record
ending_record exp commit = if commit then Commit exp else Abort exp

-- the Commit, or the Abort, of the experiment can follow
abbrev pub CanEnd : LabState → List ℕ → Bool → Type 0
CanEnd s exp commit = (after : LabState) × (moved s (ending exp commit) ≡ Some after)

-- a state, or the one that stays where there is none
abbrev pub or_stays : LabState → Option LabState → LabState
or_stays s None = s
or_stays s (Some after) = after

abbrev pub with_experiments : LabState → List Experiment → LabState
with_experiments s es = record { lab = s.lab; experiments = es }

-- THE STATE AFTER a change
abbrev pub after : LabState → Change → LabState
after s (Set claimed_lab) = record { lab = Some claimed_lab.lab; experiments = [] }
after s (Add e) = with_experiments s (s.experiments ++ e ∷ [])
after s (Remove exp) = with_experiments s (others exp s.experiments)
after s (Begin e claim) = with_experiments s (replace e.name e s.experiments)
after s (End exp commit) = or_stays s (moved s (ending exp commit))

-- for how many more experiments a change needs room
abbrev pub needs : Change → ℕ
needs (Add e) = 1
needs change = 0

-- the experiment moves
abbrev pub is_moving : Phase → Bool
is_moving (Moving old new) = true
is_moving phase = false

-- the experiment of its name begins to move so, and may claim what it claims then
pub record Begins (s : LabState) (f : Experiment) (claim : Claim) : Type 0 where
  pub lab : Lab
  pub is_lab : s.lab ≡ Some lab
  pub before : Experiment
  pub found : find f.name s.experiments ≡ Some before
  pub moving : is_moving f.phase ≡ true
  pub printable : ArePrintable f
  pub claimed : claim ≡ claim_of lab f
  pub may : (held : Held) → ClaimsOf lab s.experiments held → MayAdd held f.name claim

-- nothing is set yet, and nothing claimed; a new experiment that is out; one that is there and out; one that begins; one that can end
abbrev pub Fits : LabState → Change → Type 0
Fits s (Set claimed_lab) = (s.lab ≡ None) × (claimed_lab.claims ≡ none_of claimed_lab.lab)
Fits s (Add e) = (find e.name s.experiments ≡ None) × (e.phase ≡ Out) × ArePrintable e
Fits s (Remove exp) = (e : Experiment) × (find exp s.experiments ≡ Some e) × (e.phase ≡ Out)
Fits s (Begin e claim) = Begins s e claim
Fits s (End exp commit) = CanEnd s exp commit

-- THE CHANGE CAN BE ENTERED without memory: it fits, leaves the state sane, and there is room
pub record CanEnter (seen : Seen) (change : Change) : Type 0 where
  pub fits : Fits seen.state change
  pub sane : Sane (after seen.state change)
  pub room : needs change ≤ seen.room
