-- The swap of a record can be done, where it leads to a move.
use Rattle.std.proofs.Common.{◌≡◌, ◌≤◌, ℕ, List, length, Option, Some, refl, sym, ap, ◌∙◌, subst}
use Rattle.lab_base.specs.declared.ids.VlanId.{VlanId}
use Rattle.lab_base.proofs.Names.{name_short}
use Rattle.phys_lab.specs.Labs.{Lab}
use Rattle.virt_topo.specs.Soundness.{IsSound}
use Rattle.virt_topo.specs.declared.experiment.Experiment.{Experiment}
use Rattle.virt_topo.specs.declared.experiment.Phase.{Phase}
use Rattle.virt_topo.specs.declared.experiment.Phase.TheVariants.{In}
use Rattle.virt_topo.specs.declared.mapping.Mapping.{Mapping}
use Rattle.virt_topo.specs.Wirings.{mapped}
use Rattle.journal_rec.specs.Payloads.{IsRecord}
use Rattle.journal_rec.specs.declared.record.Record.TheVariants.{Begin}
use Rattle.journal_rec.specs.declared.record.Way.{Way}
use Rattle.lab_model.specs.Claims.{New, claimed_in}
use Rattle.lab_model.specs.Courses.{Plan}
use Rattle.lab_model.specs.Shapes.{IsShaped}
use Rattle.plant.specs.Worlds.{World}
use Rattle.records_model.specs.Labs.{LabState, Move, IsRightFor, Says, moved, moved_in, moved_of, find, lab_in, Sane}
use Rattle.records_model.proofs.LabLaws.{in_state-some}
use Rattle.records_model.proofs.Swaps.{found_in}
use Rattle.swap_plan.specs.declared.commands.Ops.{Ops}
use Rattle.swap_turns.specs.Beginning.{BeginsOf, IsPlanOf}
use Rattle.swap_turns.specs.Swaps.{Swap as SwapOf, Moves}
use Rattle.swap_txn.specs.States.{unsent}
use Rattle.lab_tasks.specs.declared.task.Task.TheVariants as tasks
use Rattle.lab_state.specs.Texts.{the_texts}
use Rattle.lab_tasks.specs.Tasks.{CanDo}

-- the lab stays
pub lab_stays : (s u : LabState) (lab : Lab) (move : Move) → s.lab ≡ Some lab → moved s move ≡ Some u → lab ≡ lab_in u.lab
lab_stays s u lab move is gives =
    let x = in_state-some lab (moved_in lab s.experiments move) u (sym (ap (λ (o : Option Lab). moved_of o s.experiments move) is) ∙ gives) in
    ap (λ (v : LabState). lab_in v.lab) x.2

-- THE SWAP OF A RECORD, which can follow whatever the world: the experiment moves so then, and that is the plan
pub record Leads (s : LabState) (lab : Lab) (p : SwapOf) (way : Way) (course back : Plan) : Type 0 where
  pub move : Move
  pub says : Says the_texts s (Begin p.name way) move
  pub ready : (w : World) → IsRightFor s w move
  pub begins : BeginsOf p.name move
  pub state : LabState
  pub gives : moved s move ≡ Some state
  pub moves : length p.name ≤ 32 → (u : LabState) → moved s move ≡ Some u → Moves p u
  pub plan : IsPlanOf p lab (unsent p.name way course back)

pub can_swap : (s : LabState) (lab : Lab) (p : SwapOf) (way : Way) (ops : Ops) → s.lab ≡ Some lab → IsRecord (Begin p.name way) → Leads s lab p way ops.commands ops.undo → CanDo s (tasks.Swap (record { exp = p.name; way = way; ops = ops }))
can_swap s lab p way ops is_lab is_record h = (
  is_record,
  record { move = h.move; says = h.says; state = h.state; moves = h.gives; ready = h.ready },
  record {
    swap = p;
    move = h.move;
    name = refl;
    says = h.says;
    ready = h.ready;
    begins = h.begins;
    moves = h.moves (name_short p.name is_record.fields.0);
    plan = λ u gives. subst (λ (l : Lab). IsPlanOf p l (unsent p.name way ops.commands ops.undo)) (lab_stays s u lab h.move is_lab gives) h.plan;
  },
)

-- where an experiment stands that is in
pub stands_sound : (s : LabState) (exp : List ℕ) (lab : Lab) (e : Experiment) (mapping : Mapping) (tags : List VlanId) → Sane s → s.lab ≡ Some lab → find exp s.experiments ≡ Some e → e.phase ≡ In mapping tags
    → IsSound e.wiring × IsShaped lab e.wiring mapping × (length tags ≡ length e.wiring.segments)
stands_sound s exp lab e mapping tags sane is found phase =
    let suits = sane.holding.fits e New (mapped e.wiring mapping tags) (found_in exp s.experiments e found) (ap (λ (p : Phase). claimed_in e.wiring p New) phase) in
    (suits.sound, subst (λ (l : Lab). IsShaped l e.wiring mapping) (ap lab_in is) suits.shaped, suits.tags)
