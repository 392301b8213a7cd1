-- The answer of one command, the course after it, and the steps that it adds to a trace.
use Rattle.std.proofs.Common.{ℕ, ◌≡◌, ◌⊎◌, inl, ◌+◌, ◌<◌, ◌≤◌, Bool, true, false, cond, eqb, List, [], ◌∷◌, Option, Some, None, Result, Ok, Err, refl, sym, ap, ◌∙◌, subst, arith}
use Rattle.std.proofs.lemmas.Bool.{eqb-false}
use Rattle.std.proofs.lemmas.Option.{same_Some}
use Rattle.lab_base.specs.declared.boot.Boot.{Boot}
use Rattle.lab_base.specs.declared.boot.Boot.TheVariants.{Off, Shutdown, Booting, TbSetup, IsUp}
use Rattle.plant.specs.Calls.{Fits, CommandSteps}
use Rattle.plant.specs.Events.{Event, Did}
use Rattle.plant.specs.declared.device.Answer.{Answer}
use Rattle.plant.specs.declared.device.Answer.TheVariants.{Done, State}
use Rattle.plant.specs.declared.device.DeviceOp.{DeviceOp}
use Rattle.plant.specs.declared.device.DeviceOp.TheVariants.{Poll}
use Rattle.plant.specs.declared.device.Fault.{Fault}
use Rattle.plant.specs.declared.device.Fault.TheVariants.{Failed, Stopped}
use Rattle.lab_model.specs.Courses.{Plan, Left, Watch, Course, Going, Cut, Halted, Trouble, Device, Late, Unlawful, device, lawful, judged, next, answered, Goes, whole}
use Rattle.lab_model.specs.Leavings.{Sent}
use Rattle.swap_turns.specs.Courses.{WasApplied}
use Rattle.swap_turns.specs.Weights.{commands_left}

-- the course that the next command's answer makes
abbrev pub course_by : Left → Result Answer Fault → Course
course_by left answer = answered left.todo left.watch left.boot answer

abbrev pub Comes : Left → DeviceOp → Type 0
Comes left op = next left.todo left.watch left.boot ≡ Some op

pub stop_halts : (todo : List DeviceOp) (watch : Option Watch) (boot : List (List ℕ)) (op : DeviceOp) → next todo watch boot ≡ Some op → answered todo watch boot (Err Stopped) ≡ Halted
stop_halts (o ∷ todo) watch boot op comes = refl
stop_halts [] (Some w) boot op comes = refl
stop_halts [] None (node ∷ boot) op comes = refl
stop_halts [] None [] op comes = absurd (cc comes)

pub failure_cuts : (todo : List DeviceOp) (watch : Option Watch) (boot : List (List ℕ)) (op : DeviceOp) → next todo watch boot ≡ Some op → (name : List ℕ) × (answered todo watch boot (Err Failed) ≡ Cut (Device name))
failure_cuts (o ∷ todo) watch boot op comes = (device o, refl)
failure_cuts [] (Some w) boot op comes = (w.node, refl)
failure_cuts [] None (node ∷ boot) op comes = (node, refl)
failure_cuts [] None [] op comes = absurd (cc comes)

-- an acknowledged command goes on, or tells trouble of a boot
abbrev pub IsTold : Course → Type 0
IsTold (Going left) = Unit {0}
IsTold (Cut (Device name)) = ⊥
IsTold (Cut (Late node)) = Unit {0}
IsTold (Cut (Unlawful node from to)) = Unit {0}
IsTold Halted = ⊥

told_if : (b : Bool) (c d : Course) → IsTold c → IsTold d → IsTold (cond b c d)
told_if true c d x y = x
told_if false c d x y = y

judged_told : (w : Watch) (state : Boot) (boot : List (List ℕ)) → IsTold (judged w state boot)
judged_told w Off boot = told_if (eqb (w.polls + 1) 64) _ _ tt tt
judged_told w Shutdown boot = told_if (eqb (w.polls + 1) 64) _ _ tt tt
judged_told w Booting boot = told_if (eqb (w.polls + 1) 64) _ _ tt tt
judged_told w TbSetup boot = told_if (eqb (w.polls + 1) 64) _ _ tt tt
judged_told w IsUp boot = tt

not_done : (node : List ℕ) → Fits (Poll node) Done → ⊥
not_done node fits = cc fits.1

poll_of : (w : Watch) (op : DeviceOp) (answer : Answer) → next [] (Some w) [] ≡ Some op → Fits op answer → Fits (Poll w.node) answer
poll_of w op answer comes fits = subst (λ o. Fits o answer) (sym (same_Some (Poll w.node) op comes)) fits

pub told_course : (todo : List DeviceOp) (watch : Option Watch) (boot : List (List ℕ)) (op : DeviceOp) (answer : Answer) → next todo watch boot ≡ Some op → Fits op answer → IsTold (answered todo watch boot (Ok answer))
told_course (o ∷ todo) watch boot op answer comes fits = tt
told_course [] (Some w) boot op (State state) comes fits = told_if (lawful w.state state) (judged w state boot) _ (judged_told w state boot) tt
told_course [] (Some w) boot op Done comes fits = not_done w.node (poll_of w op Done comes fits)
told_course [] None (node ∷ boot) op answer comes fits = tt
told_course [] None [] op answer comes fits = absurd (cc comes)

-- a watched node was polled less than 64 times
abbrev pub IsFew : Option Watch → Type 0
IsFew None = Unit {0}
IsFew (Some w) = w.polls < 64

-- the course has less left than before it, and so few polls
pub record Falls (before after : Left) : Type 0 where
  pub few : IsFew after.watch
  pub less : commands_left after + 1 ≤ commands_left before

abbrev FallsTo : Left → Course → Type 0
FallsTo before (Going after) = Falls before after
FallsTo before (Cut trouble) = Unit {0}
FallsTo before Halted = Unit {0}

falls_if : (before : Left) (b : Bool) (c d : Course) → FallsTo before c → (b ≡ false → FallsTo before d) → FallsTo before (cond b c d)
falls_if before true c d x y = x
falls_if before false c d x y = y refl

polled : (w : Watch) (state : Boot) (boot : List (List ℕ)) → w.polls < 64 → eqb (w.polls + 1) 64 ≡ false → Falls (record { todo = []; boot = boot; watch = Some w }) (record { todo = []; boot = boot; watch = Some (record { node = w.node; state = state; polls = w.polls + 1 }) })
polled w state boot few other =
    let apart = eqb-false (w.polls + 1) 64 other in
    record { few = omega (arith, few, apart); less = omega (arith, few, apart) }

up : (w : Watch) (boot : List (List ℕ)) → w.polls < 64 → Falls (record { todo = []; boot = boot; watch = Some w }) (record { todo = []; boot = boot; watch = None })
up w boot few = record { few = tt; less = omega (arith, few) }

judged_falls : (w : Watch) (state : Boot) (boot : List (List ℕ)) → w.polls < 64 → FallsTo (record { todo = []; boot = boot; watch = Some w }) (judged w state boot)
judged_falls w Off boot few = falls_if _ (eqb (w.polls + 1) 64) _ _ tt (polled w Off boot few)
judged_falls w Shutdown boot few = falls_if _ (eqb (w.polls + 1) 64) _ _ tt (polled w Shutdown boot few)
judged_falls w Booting boot few = falls_if _ (eqb (w.polls + 1) 64) _ _ tt (polled w Booting boot few)
judged_falls w TbSetup boot few = falls_if _ (eqb (w.polls + 1) 64) _ _ tt (polled w TbSetup boot few)
judged_falls w IsUp boot few = up w boot few

listed : (o : DeviceOp) (todo : List DeviceOp) (watch : Option Watch) (boot : List (List ℕ)) → IsFew watch → Falls (record { todo = o ∷ todo; boot = boot; watch = watch }) (record { todo = todo; boot = boot; watch = watch })
listed o todo watch boot few = record { few = few; less = omega arith }

booted : (node : List ℕ) (boot : List (List ℕ)) → Falls (record { todo = []; boot = node ∷ boot; watch = None }) (record { todo = []; boot = boot; watch = Some (record { node = node; state = Booting; polls = 0 }) })
booted node boot = record { few = omega arith; less = omega arith }

answer_falls : (todo : List DeviceOp) (watch : Option Watch) (boot : List (List ℕ)) (op : DeviceOp) (answer : Result Answer Fault) → IsFew watch → next todo watch boot ≡ Some op
    → FallsTo (record { todo = todo; boot = boot; watch = watch }) (answered todo watch boot answer)
answer_falls (o ∷ todo) watch boot op (Ok answer) few comes = listed o todo watch boot few
answer_falls (o ∷ todo) watch boot op (Err Failed) few comes = tt
answer_falls (o ∷ todo) watch boot op (Err Stopped) few comes = tt
answer_falls [] (Some w) boot op (Ok (State state)) few comes = falls_if _ (lawful w.state state) (judged w state boot) _ (judged_falls w state boot few) (λ b. tt)
answer_falls [] (Some w) boot op (Ok Done) few comes = tt
answer_falls [] (Some w) boot op (Err Failed) few comes = tt
answer_falls [] (Some w) boot op (Err Stopped) few comes = tt
answer_falls [] None (node ∷ boot) op (Ok answer) few comes = booted node boot
answer_falls [] None (node ∷ boot) op (Err Failed) few comes = tt
answer_falls [] None (node ∷ boot) op (Err Stopped) few comes = tt
answer_falls [] None [] op answer few comes = absurd (cc comes)

-- A COMMAND that goes on leaves less
pub going_falls : (left after : Left) (op : DeviceOp) (answer : Result Answer Fault) → IsFew left.watch → Comes left op → course_by left answer ≡ Going after → Falls left after
going_falls left after op answer few comes goes = subst (λ c. FallsTo left c) goes (answer_falls left.todo left.watch left.boot op answer few comes)

abbrev pub IsFewOf : Course → Type 0
IsFewOf (Going left) = IsFew left.watch
IsFewOf (Cut trouble) = Unit {0}
IsFewOf Halted = Unit {0}

few_after : (before : Left) (course : Course) → FallsTo before course → IsFewOf course
few_after before (Going left) falls = falls.few
few_after before (Cut trouble) falls = tt
few_after before Halted falls = tt

few_end : (sent : Sent) (course end : Course) → Goes sent course end → IsFewOf course → IsFewOf end
few_end [] course end goes few = subst IsFewOf goes few
few_end (c ∷ cs) (Going left) end goes few = few_end cs (course_by left c.1) end goes.1 (few_after left (course_by left c.1) (answer_falls left.todo left.watch left.boot c.0 c.1 few goes.0))
few_end (c ∷ cs) (Cut trouble) end goes few = absurd goes
few_end (c ∷ cs) Halted end goes few = absurd goes

-- what is left of a plan was polled less than 64 times
pub few_left : (plan : Plan) (left : Left) (sent : Sent) → Goes sent (Going (whole plan)) (Going left) → IsFew left.watch
few_left plan left sent goes = few_end sent (Going (whole plan)) (Going left) goes tt

-- WHAT A COMMAND ADDS, by the course that its answer makes
pub data Adds (left : Left) (op : DeviceOp) (answer : Result Answer Fault) (course : Course) (steps : List Event) : Type 0 where
  on : (after : Left) (told : Answer) → course ≡ Going after → course_by left (Ok told) ≡ Going after → steps ≡ Did op true (Ok told) ∷ [] → Adds left op answer course steps
  cut : (trouble : Trouble) (applied : Bool) → course ≡ Cut trouble → WasApplied answer applied → course_by left answer ≡ Cut trouble → steps ≡ Did op applied answer ∷ [] → Adds left op answer course steps
  halted : course ≡ Halted → (steps ≡ []) ⊎ ((applied : Bool) × (steps ≡ Did op applied (Err Stopped) ∷ [])) → Adds left op answer course steps

adds_told : (left : Left) (op : DeviceOp) (answer : Answer) (course : Course) (steps : List Event) → course ≡ course_by left (Ok answer) → IsTold course → steps ≡ Did op true (Ok answer) ∷ [] → Adds left op (Ok answer) course steps
adds_told left op answer (Going after) steps is told steps_are = on after answer refl (sym is) steps_are
adds_told left op answer (Cut trouble) steps is told steps_are = cut trouble true refl refl (sym is) steps_are
adds_told left op answer Halted steps is told steps_are = absurd told

pub adds : (left : Left) (op : DeviceOp) (stopped : Bool) (answer : Result Answer Fault) (course : Course) (steps : List Event) → Comes left op → CommandSteps op stopped answer steps
    → course ≡ course_by left answer → Adds left op answer course steps
adds left op true answer course steps comes made is = halted (is ∙ ap (λ a. course_by left a) made.0 ∙ stop_halts left.todo left.watch left.boot op comes) (inl made.1)
adds left op false (Ok answer) course steps comes made is =
    adds_told left op answer course steps is (subst IsTold (sym is) (told_course left.todo left.watch left.boot op answer comes made.0)) made.1
adds left op false (Err Failed) course steps comes made is =
    let cuts = failure_cuts left.todo left.watch left.boot op comes in
    cut (Device cuts.0) made.0 (is ∙ cuts.1) tt cuts.1 made.1
adds left op false (Err Stopped) course steps comes made is = halted (is ∙ stop_halts left.todo left.watch left.boot op comes) made

-- only a command that failed tells trouble of a device
pub failed_device : (left : Left) (op : DeviceOp) (stopped : Bool) (answer : Result Answer Fault) (steps : List Event) (name : List ℕ) → Comes left op → CommandSteps op stopped answer steps
    → course_by left answer ≡ Cut (Device name) → answer ≡ Err Failed
failed_device left op true answer steps name comes made is = absurd (halts_not (sym (ap (λ a. course_by left a) made.0 ∙ stop_halts left.todo left.watch left.boot op comes) ∙ is))
  where
    halts_not : Halted ≡ Cut (Device name) → ⊥
    halts_not same = cc
failed_device left op false (Ok answer) steps name comes made is = absurd (subst IsTold is (told_course left.todo left.watch left.boot op answer comes made.0))
failed_device left op false (Err Failed) steps name comes made is = refl
failed_device left op false (Err Stopped) steps name comes made is = absurd (halts_not (sym (stop_halts left.todo left.watch left.boot op comes) ∙ is))
  where
    halts_not : Halted ≡ Cut (Device name) → ⊥
    halts_not same = cc
