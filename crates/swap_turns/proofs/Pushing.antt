-- One command more.
use Rattle.std.proofs.Common.{ℕ, ◌≡◌, ◌⊎◌, inl, inr, ◌≤◌, Bool, true, List, [], ◌∷◌, ◌++◌, Result, Err, refl, sym, ap, ◌∙◌, subst, arith}
use Rattle.std.proofs.lemmas.List.{append-nil}
use Rattle.lab_base.specs.Counts.{Rose}
use Rattle.plant.specs.Events.{Event, Did}
use Rattle.plant.specs.declared.device.Answer.{Answer}
use Rattle.plant.specs.declared.device.DeviceOp.{DeviceOp}
use Rattle.plant.specs.declared.device.Fault.{Fault}
use Rattle.plant.specs.declared.device.Fault.TheVariants.{Stopped}
use Rattle.lab_model.specs.Courses.{Plan, Left, Going, Cut, Goes, Trouble, whole}
use Rattle.lab_model.specs.Leavings.{Sent}
use Rattle.lab_model.specs.OnCourse.{acknowledged}
use Rattle.lab_model.proofs.OwnEvents.{goes_push}
use Rattle.swap_turns.specs.Courses.{IsSent, IsCut, IsHalted, before, within, WasApplied}
use Rattle.swap_turns.proofs.Commands.{Comes, course_by}

pub acknowledged_push : (sent : Sent) (op : DeviceOp) (answer : Result Answer Fault) → acknowledged sent ++ Did op true answer ∷ [] ≡ acknowledged (sent ++ (op, answer) ∷ [])
acknowledged_push [] op answer = refl
acknowledged_push (c ∷ cs) op answer = ap (λ l. Did c.0 true c.1 ∷ l) (acknowledged_push cs op answer)

pub sent_push : (plan : Plan) (left after : Left) (steps : List Event) (op : DeviceOp) (answer : Result Answer Fault) → Comes left op → course_by left answer ≡ Going after → IsSent plan left steps
    → IsSent plan after (steps ++ Did op true answer ∷ [])
sent_push plan left after steps op answer comes goes_on x = record {
  sent = x.sent ++ (op, answer) ∷ [];
  goes = subst (λ k. Goes (x.sent ++ (op, answer) ∷ []) (Going (whole plan)) k) goes_on (goes_push x.sent (Going (whole plan)) left op answer x.goes comes);
  steps_are = ap (λ l. l ++ Did op true answer ∷ []) x.steps_are ∙ acknowledged_push x.sent op answer;
}

pub cut_push : (plan : Plan) (left : Left) (trouble : Trouble) (steps : List Event) (op : DeviceOp) (applied : Bool) (answer : Result Answer Fault) → Comes left op → WasApplied answer applied → course_by left answer ≡ Cut trouble → IsSent plan left steps
    → IsCut plan trouble (steps ++ Did op applied answer ∷ [])
cut_push plan left trouble steps op applied answer comes told cut x = record { front = steps; left = left; sent = x; op = op; comes = comes; applied = applied; answer = answer; told = told; cut = cut; steps_are = refl }

pub halted_push : (plan : Plan) (left : Left) (steps more : List Event) (op : DeviceOp) → Comes left op → (more ≡ []) ⊎ ((applied : Bool) × (more ≡ Did op applied (Err Stopped) ∷ [])) → IsSent plan left steps → IsHalted plan (steps ++ more)
halted_push plan left steps more op comes (inl none) x = before left (subst (λ l. IsSent plan left l) (sym (ap (λ l. steps ++ l) none ∙ append-nil steps)) x)
halted_push plan left steps more op comes (inr one) x = within steps left op one.0 x comes (ap (λ l. steps ++ l) one.1)

pub rose_later : (a b c d : ℕ) → a ≤ b → Rose b c → c ≤ d → Rose a d
rose_later a b c d first rose then = omega (arith, first, rose, then)
