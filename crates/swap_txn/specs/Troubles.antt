-- Troubles, as they are told.
use Rattle.std.specs.Prelude.{ℕ, ◌≡◌, Bool, true, false, List, Option, Result, Ok, Err}
use Rattle.node_state.specs.declared.watch.Seen.{Seen}
use Rattle.node_state.specs.declared.watch.Seen.TheVariants as seen
use Rattle.plant.specs.declared.device.Answer.{Answer}
use Rattle.lab_model.specs.Courses.{Left, Watch, Course, Going, Cut, Halted, answered}
use Rattle.lab_model.specs.Courses as courses
use Rattle.lab_base.specs.declared.what.What.{What}
use Rattle.lab_base.specs.declared.what.What.TheVariants.{Device, Late, Unlawful}

-- a course's trouble, as it is told
abbrev pub what_of : courses.Trouble → What
what_of (courses.Device name) = Device name
what_of (courses.Late node) = Late node
what_of (courses.Unlawful node from to) = Unlawful node from to

-- whether a watched node is up, or its trouble
abbrev pub told_by : List ℕ → Seen → Result Bool What
told_by node (seen.Unlawful from to) = Err (Unlawful node from to)
told_by node seen.Up = Ok true
told_by node seen.TooLong = Err (Late node)
told_by node seen.Wait = Ok false

-- how a course leads on after an answer: what is left; or its trouble, with all left but for the watch
abbrev pub LeadsBy : Left → Course → Result (Unit {0}) What → Left → Type 0
LeadsBy old (Going left) result new = (result ≡ Ok tt) × (new ≡ left)
LeadsBy old (Cut trouble) result new = (result ≡ Err (what_of trouble)) × ((watch : Option Watch) × (new ≡ record old { watch = watch }))
LeadsBy old Halted result new = ⊥

abbrev pub GoesBy : Left → Answer → Result (Unit {0}) What → Left → Type 0
GoesBy old answer result new = LeadsBy old (answered old.todo old.watch old.boot (Ok answer)) result new
