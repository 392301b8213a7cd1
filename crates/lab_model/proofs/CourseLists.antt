-- Courses as lists: a done course and a cut one, both ways.
use Rattle.std.proofs.Common.{arith, ◌≡◌, ◌≢◌, ◌⊎◌, inl, inr, ℕ, ◌+◌, ◌<◌, true, false, cond, eqb, Option, Some, None, Result, Ok, Err, List, [], ◌∷◌, ◌++◌, length, refl, sym, ap, ◌∙◌, subst}
use Rattle.std.proofs.lemmas.Bool.{cases_Bool, eqb-false, eqb-true, eq-eqb}
use Rattle.std.proofs.lemmas.List.{append_assoc}
use Rattle.std.proofs.lemmas.Option.{same_Some}
use Rattle.lab_base.specs.declared.boot.Boot.{Boot}
use Rattle.lab_base.specs.declared.boot.Boot.TheVariants.{Off, Shutdown, Booting, TbSetup, IsUp}
use Rattle.plant.specs.declared.device.Answer.{Answer}
use Rattle.plant.specs.declared.device.Answer.TheVariants.{Done, State}
use Rattle.plant.specs.declared.device.Fault.{Fault}
use Rattle.plant.specs.declared.device.Fault.TheVariants.{Failed, Stopped}
use Rattle.plant.specs.declared.device.DeviceOp.{DeviceOp}
use Rattle.plant.specs.declared.device.DeviceOp.TheVariants.{Boot as BootIt, Poll}
use Rattle.lab_model.specs.Courses.{Plan, Trouble, Device, Late, Unlawful, device, lawful, Watch, Course, Going, Cut, Halted, judged, answered, Goes, nothing_left, whole, IsDone, IsCut}
use Rattle.lab_model.specs.Leavings.{Sent}
use Rattle.lab_model.specs.CourseLists.{AreAcknowledged, polls, AreWaited, last_state, IsPolledUp, ComesUp, ComeUp, ops_of, IsDoneList, IsTrouble, ArePollsCut, AreBootsCut, AreOpsCut, IsCutList}
use Rattle.lab_model.proofs.Along.{no_cut, no_halt}

-- what is left where commands wait, and where nodes wait
abbrev waiting : List DeviceOp → List (List ℕ) → Course
waiting ops boot = Going (record { todo = ops; boot = boot; watch = None })

abbrev watching : Option Watch → List (List ℕ) → Course
watching watch boot = Going (record { todo = []; boot = boot; watch = watch })

-- LISTS MAKE THE COURSE GO
goes_by : (ops : List DeviceOp) (acks rest : Sent) (boot : List (List ℕ)) (end : Course) → AreAcknowledged ops acks → Goes rest (waiting [] boot) end → Goes (acks ++ rest) (waiting ops boot) end
goes_by [] [] rest boot end are goes = goes
goes_by [] (c ∷ acks) rest boot end are goes = absurd are
goes_by (op ∷ ops) [] rest boot end are goes = absurd are
goes_by (op ∷ ops) (c ∷ acks) rest boot end are goes = (
  ap Some (sym are.0),
  subst (λ r. Goes (acks ++ rest) (answered (op ∷ ops) None boot r) end) (sym are.1.1) (goes_by ops acks rest boot end are.2 goes),
)

-- a poll that waits, in each state but ISUP
wait : (x : Watch) (state : Boot) (boot : List (List ℕ)) (end : Course) (cs : Sent) → lawful x.state state ≡ true → state ≢ IsUp → x.polls + 1 < 64
    → Goes cs (watching (Some (record { node = x.node; state = state; polls = x.polls + 1 })) boot) end → Goes ((Poll x.node, Ok (State state)) ∷ cs) (watching (Some x) boot) end
wait x state boot end cs fine down few goes = (refl, subst (λ b. Goes cs (cond b (judged x state boot) (Cut (Unlawful x.node x.state state))) end) (sym fine) (by_state x state boot end cs down few goes)) where
  early : (x : Watch) (other : Course) (next : Course) (end : Course) (cs : Sent) → x.polls + 1 < 64 → Goes cs next end → Goes cs (cond (eqb (x.polls + 1) 64) other next) end
  early x other next end cs few goes = elim (cases_Bool (eqb (x.polls + 1) 64)) [
    | inl late ↦ absurd (omega (arith, few, eqb-true (x.polls + 1) 64 late))
    | inr is ↦ subst (λ b. Goes cs (cond b other next) end) (sym is) goes
  ]

  by_state : (x : Watch) (state : Boot) (boot : List (List ℕ)) (end : Course) (cs : Sent) → state ≢ IsUp → x.polls + 1 < 64
      → Goes cs (watching (Some (record { node = x.node; state = state; polls = x.polls + 1 })) boot) end → Goes cs (judged x state boot) end
  by_state x IsUp boot end cs down few goes = absurd (down refl)
  by_state x Off boot end cs down few goes = early x _ _ end cs few goes
  by_state x Shutdown boot end cs down few goes = early x _ _ end cs few goes
  by_state x Booting boot end cs down few goes = early x _ _ end cs few goes
  by_state x TbSetup boot end cs down few goes = early x _ _ end cs few goes

-- polls that wait, and go on after
waits_go : (x : Watch) (states : List Boot) (boot : List (List ℕ)) (end : Course) (rest : Sent) → AreWaited x.state states → x.polls + length states < 64
    → Goes rest (watching (Some (record { node = x.node; state = last_state x.state states; polls = x.polls + length states })) boot) end
    → Goes (polls x.node states ++ rest) (watching (Some x) boot) end
waits_go x [] boot end rest waited few goes =
    subst (λ n. Goes rest (watching (Some (record { node = x.node; state = x.state; polls = n })) boot) end) (omega arith) goes
waits_go x (state ∷ states) boot end rest waited few goes =
    let y : Watch = record { node = x.node; state = state; polls = x.polls + 1 } in
    wait x state boot end (polls x.node states ++ rest) waited.0 waited.1 (omega (arith, few))
    (waits_go y states boot end rest waited.2 (omega (arith, few))
    (subst (λ n. Goes rest (watching (Some (record { node = x.node; state = last_state state states; polls = n })) boot) end) (omega arith) goes))

up_goes : (x : Watch) (boot : List (List ℕ)) (end : Course) (rest : Sent) → lawful x.state IsUp ≡ true → Goes rest (watching None boot) end
    → Goes ((Poll x.node, Ok (State IsUp)) ∷ rest) (watching (Some x) boot) end
up_goes x boot end rest fine goes = (refl, subst (λ b. Goes rest (cond b (watching None boot) (Cut (Unlawful x.node x.state IsUp))) end) (sym fine) goes)

polled_goes : (x : Watch) (boot : List (List ℕ)) (end : Course) (own rest : Sent) → IsPolledUp x.node x.state x.polls own → Goes rest (watching None boot) end
    → Goes (own ++ rest) (watching (Some x) boot) end
polled_goes x boot end own rest polled goes =
    let last : Sent = (Poll x.node, Ok (State IsUp)) ∷ [] in
    let whole : own ++ rest ≡ polls x.node polled.states ++ (last ++ rest) = ap (λ l. l ++ rest) polled.is ∙ append_assoc (polls x.node polled.states) last rest in
    subst (λ l. Goes l (watching (Some x) boot) end) (sym whole)
    (waits_go x polled.states boot end (last ++ rest) polled.waited polled.few
    (up_goes (record { node = x.node; state = last_state x.state polled.states; polls = x.polls + length polled.states }) boot end rest polled.up goes))

boot_goes : (node : List ℕ) (nodes : List (List ℕ)) (end : Course) (own rest : Sent) → ComesUp node own → Goes rest (watching None nodes) end
    → Goes (own ++ rest) (watching None (node ∷ nodes)) end
boot_goes node nodes end own rest comes goes =
    subst (λ l. Goes (l ++ rest) (watching None (node ∷ nodes)) end) (sym comes.2)
    (refl, polled_goes (record { node = node; state = Booting; polls = 0 }) nodes end comes.1 rest comes.3 goes)

boots_go : (nodes : List (List ℕ)) (cs : Sent) → ComeUp nodes cs → Goes cs (watching None nodes) (Going nothing_left)
boots_go [] cs come = subst (λ l. Goes l (watching None []) (Going nothing_left)) (sym come) refl
boots_go (node ∷ nodes) cs come = subst (λ l. Goes l (watching None (node ∷ nodes)) (Going nothing_left)) (sym come.2)
    (boot_goes node nodes (Going nothing_left) come.0 come.1 come.3 (boots_go nodes come.1 come.4))

pub done_by_list : (plan : Plan) (cs : Sent) → IsDoneList plan cs → IsDone plan cs
done_by_list plan cs done = subst (λ l. Goes l (Going (whole plan)) (Going nothing_left)) (sym done.2)
    (goes_by (ops_of plan) done.0 done.1 plan.boot (Going nothing_left) done.3 (boots_go plan.boot done.1 done.4))

-- LISTS OF A DONE COURSE
abbrev todo_at : Course → List DeviceOp
todo_at (Going left) = left.todo
todo_at course = []

abbrev boot_at : Course → List (List ℕ)
boot_at (Going left) = left.boot
boot_at course = []

abbrev watch_at : Course → Option Watch
watch_at (Going left) = left.watch
watch_at course = None

abbrev AckedThen : List DeviceOp → List (List ℕ) → Sent → Course → Type 0
AckedThen ops boot cs end = (acks : Sent) × (rest : Sent) × (cs ≡ acks ++ rest) × AreAcknowledged ops acks × Goes rest (watching None boot) end

acked_more : (op : DeviceOp) (ops : List DeviceOp) (boot : List (List ℕ)) (c : DeviceOp × Result Answer Fault) (cs : Sent) (end : Course) (answer : Answer) → c.0 ≡ op → c.1 ≡ Ok answer
    → AckedThen ops boot cs end → AckedThen (op ∷ ops) boot (c ∷ cs) end
acked_more op ops boot c cs end answer same is more = (c ∷ more.0, more.1, ap (λ l. c ∷ l) more.2, (same, (answer, is), more.3), more.4)

ops_done : (ops : List DeviceOp) (boot : List (List ℕ)) (cs : Sent) → Goes cs (waiting ops boot) (Going nothing_left) → AckedThen ops boot cs (Going nothing_left)
ops_done [] boot cs goes = ([], cs, refl, tt, goes)
ops_done (op ∷ ops) boot [] goes = absurd (cc (ap todo_at goes))
ops_done (op ∷ ops) boot ((sent, Ok answer) ∷ cs) goes =
    acked_more op ops boot (sent, Ok answer) cs (Going nothing_left) answer (sym (same_Some _ _ goes.0)) refl (ops_done ops boot cs goes.1)
ops_done (op ∷ ops) boot ((sent, Err Failed) ∷ cs) goes = absurd (no_cut cs _ goes.1)
ops_done (op ∷ ops) boot ((sent, Err Stopped) ∷ cs) goes = absurd (no_halt cs goes.1)

-- a watched node comes up, and the rest is so
abbrev RisesTo : (Sent → Type 0) → Watch → Sent → Type 0
RisesTo P x cs = (own : Sent) × (rest : Sent) × (cs ≡ own ++ rest) × IsPolledUp x.node x.state x.polls own × P rest

-- a watched node comes up, or none is watched; and then the others come up
abbrev RiseBy : Option Watch → List (List ℕ) → Sent → Type 0
RiseBy None boot cs = ComeUp boot cs
RiseBy (Some x) boot cs = RisesTo (ComeUp boot) x cs

abbrev IsEarly : Option Watch → Type 0
IsEarly None = Unit {0}
IsEarly (Some x) = x.polls < 64

now_up : (P : Sent → Type 0) (x : Watch) (cs : Sent) → x.polls < 64 → lawful x.state IsUp ≡ true → P cs → RisesTo P x ((Poll x.node, Ok (State IsUp)) ∷ cs)
now_up P x cs few fine more = ((Poll x.node, Ok (State IsUp)) ∷ [], cs, refl, record { states = []; waited = tt; up = fine; few = omega (arith, few); is = refl }, more)

later_up : (P : Sent → Type 0) (x : Watch) (state : Boot) (cs : Sent) → lawful x.state state ≡ true → state ≢ IsUp
    → RisesTo P (record { node = x.node; state = state; polls = x.polls + 1 }) cs → RisesTo P x ((Poll x.node, Ok (State state)) ∷ cs)
later_up P x state cs fine down rise =
    let first : DeviceOp × Result Answer Fault = (Poll x.node, Ok (State state)) in
    let polled = rise.3 in (
      first ∷ rise.0,
      rise.1,
      ap (λ l. first ∷ l) rise.2,
      record { states = state ∷ polled.states; waited = (fine, down, polled.waited); up = polled.up; few = omega (arith, polled.few); is = ap (λ l. first ∷ l) polled.is },
      rise.4,
    )

-- what follows of a course that is not late
not_late : (x : Watch) (next : Course) (cs : Sent) (what : Trouble) → Goes cs (cond (eqb (x.polls + 1) 64) (Cut what) next) (Going nothing_left)
    → (eqb (x.polls + 1) 64 ≡ false) × Goes cs next (Going nothing_left)
not_late x next cs what goes = elim (cases_Bool (eqb (x.polls + 1) 64)) [
  | inl is ↦ absurd (no_cut cs what (subst (λ b. Goes cs (cond b (Cut what) next) (Going nothing_left)) is goes))
  | inr is ↦ (is, subst (λ b. Goes cs (cond b (Cut what) next) (Going nothing_left)) is goes)
]

abbrev DoneFrom : Sent → Type 0
DoneFrom cs = (boot : List (List ℕ)) (watch : Option Watch) → IsEarly watch → Goes cs (watching watch boot) (Going nothing_left) → RiseBy watch boot cs

wait_done : (cs : Sent) (x : Watch) (state : Boot) (boot : List (List ℕ)) → DoneFrom cs → x.polls < 64 → lawful x.state state ≡ true → state ≢ IsUp
    → Goes cs (cond (eqb (x.polls + 1) 64) (Cut (Late x.node)) (watching (Some (record { node = x.node; state = state; polls = x.polls + 1 })) boot)) (Going nothing_left)
    → RiseBy (Some x) boot ((Poll x.node, Ok (State state)) ∷ cs)
wait_done cs x state boot on few fine down goes =
    let y : Watch = record { node = x.node; state = state; polls = x.polls + 1 } in
    let next = not_late x (watching (Some y) boot) cs (Late x.node) goes in
    later_up (ComeUp boot) x state cs fine down (on boot (Some y) (omega (arith, few, eqb-false (x.polls + 1) 64 next.0)) next.1)

judged_done : (cs : Sent) (x : Watch) (state : Boot) (boot : List (List ℕ)) → DoneFrom cs → x.polls < 64 → lawful x.state state ≡ true
    → Goes cs (judged x state boot) (Going nothing_left) → RiseBy (Some x) boot ((Poll x.node, Ok (State state)) ∷ cs)
judged_done cs x IsUp boot on few fine goes = now_up (ComeUp boot) x cs few fine (on boot None tt goes)
judged_done cs x Off boot on few fine goes = wait_done cs x Off boot on few fine (λ e. cc e) goes
judged_done cs x Shutdown boot on few fine goes = wait_done cs x Shutdown boot on few fine (λ e. cc e) goes
judged_done cs x Booting boot on few fine goes = wait_done cs x Booting boot on few fine (λ e. cc e) goes
judged_done cs x TbSetup boot on few fine goes = wait_done cs x TbSetup boot on few fine (λ e. cc e) goes

poll_done : (cs : Sent) (x : Watch) (answer : Result Answer Fault) (boot : List (List ℕ)) → DoneFrom cs → x.polls < 64
    → Goes cs (answered [] (Some x) boot answer) (Going nothing_left) → RiseBy (Some x) boot ((Poll x.node, answer) ∷ cs)
poll_done cs x (Ok Done) boot on few goes = absurd (no_halt cs goes)
poll_done cs x (Err Failed) boot on few goes = absurd (no_cut cs _ goes)
poll_done cs x (Err Stopped) boot on few goes = absurd (no_halt cs goes)
poll_done cs x (Ok (State state)) boot on few goes = elim (cases_Bool (lawful x.state state)) [
  | inl fine ↦ judged_done cs x state boot on few fine (subst (λ b. Goes cs (cond b (judged x state boot) (Cut (Unlawful x.node x.state state))) (Going nothing_left)) fine goes)
  | inr wrong ↦ absurd (no_cut cs _ (subst (λ b. Goes cs (cond b (judged x state boot) (Cut (Unlawful x.node x.state state))) (Going nothing_left)) wrong goes))
]

boot_done : (cs : Sent) (node : List ℕ) (answer : Result Answer Fault) (boot : List (List ℕ)) → DoneFrom cs
    → Goes cs (answered [] None (node ∷ boot) answer) (Going nothing_left) → ComeUp (node ∷ boot) ((BootIt node, answer) ∷ cs)
boot_done cs node (Err Failed) boot on goes = absurd (no_cut cs _ goes)
boot_done cs node (Err Stopped) boot on goes = absurd (no_halt cs goes)
boot_done cs node (Ok answer) boot on goes =
    let rise = on boot (Some (record { node = node; state = Booting; polls = 0 })) (omega arith) goes in
    let first : DeviceOp × Result Answer Fault = (BootIt node, Ok answer) in
    (first ∷ rise.0, rise.1, ap (λ l. first ∷ l) rise.2, (answer, rise.0, refl, rise.3), rise.4)

boots_done : (cs : Sent) (boot : List (List ℕ)) (watch : Option Watch) → IsEarly watch → Goes cs (watching watch boot) (Going nothing_left) → RiseBy watch boot cs
boots_done [] boot (Some x) early goes = absurd (cc (ap watch_at goes))
boots_done [] (node ∷ boot) None early goes = absurd (cc (ap boot_at goes))
boots_done [] [] None early goes = refl
boots_done (c ∷ cs) boot (Some x) early goes = subst (λ op. RiseBy (Some x) boot ((op, c.1) ∷ cs)) (same_Some _ _ goes.0) (poll_done cs x c.1 boot (boots_done cs) early goes.1)
boots_done (c ∷ cs) (node ∷ boot) None early goes = subst (λ op. ComeUp (node ∷ boot) ((op, c.1) ∷ cs)) (same_Some _ _ goes.0) (boot_done cs node c.1 boot (boots_done cs) goes.1)
boots_done (c ∷ cs) [] None early goes = absurd (cc (goes.0))

pub list_of_done : (plan : Plan) (cs : Sent) → IsDone plan cs → IsDoneList plan cs
list_of_done plan cs done =
    let then = ops_done (ops_of plan) plan.boot cs done in
    (then.0, then.1, then.2, then.3, boots_done then.1 plan.boot None tt then.4)

-- LISTS OF A CUT COURSE
ended_cut : (cs : Sent) (a b : Trouble) → Goes cs (Cut a) (Cut b) → (cs ≡ []) × (b ≡ a)
ended_cut [] a b goes = (refl, cc goes)
ended_cut (c ∷ cs) a b goes = absurd goes

no_halt_cut : (cs : Sent) (what : Trouble) → Goes cs Halted (Cut what) → ⊥
no_halt_cut [] what goes = cc
no_halt_cut (c ∷ cs) what goes = goes

ops_cut : (ops : List DeviceOp) (boot : List (List ℕ)) (cs : Sent) (what : Trouble) → Goes cs (waiting ops boot) (Cut what) → AreOpsCut ops cs what ⊎ AckedThen ops boot cs (Cut what)
ops_cut [] boot cs what goes = inr ([], cs, refl, tt, goes)
ops_cut (op ∷ ops) boot [] what goes = absurd (cc goes)
ops_cut (op ∷ ops) boot ((sent, Ok answer) ∷ cs) what goes = elim (ops_cut ops boot cs what goes.1) [
  | inl cut ↦ inl (sym (same_Some _ _ goes.0), inr ((answer, refl), cut))
  | inr then ↦ inr (acked_more op ops boot (sent, Ok answer) cs (Cut what) answer (sym (same_Some _ _ goes.0)) refl then)
]
ops_cut (op ∷ ops) boot ((sent, Err Failed) ∷ cs) what goes =
    let ended = ended_cut cs (Device (device op)) what goes.1 in inl (sym (same_Some _ _ goes.0), inl (refl, ended.0, ended.1))
ops_cut (op ∷ ops) boot ((sent, Err Stopped) ∷ cs) what goes = absurd (no_halt_cut cs what goes.1)

-- the polls of a watched node are cut, or it comes up and a later boot is cut
abbrev CutBy : Option Watch → List (List ℕ) → Sent → Trouble → Type 0
CutBy None boot cs what = AreBootsCut boot cs what
CutBy (Some x) boot cs what = ArePollsCut x.node x.state x.polls cs what ⊎ RisesTo (λ rest. AreBootsCut boot rest what) x cs

abbrev CutFrom : Trouble → Sent → Type 0
CutFrom what cs = (boot : List (List ℕ)) (watch : Option Watch) → IsEarly watch → Goes cs (watching watch boot) (Cut what) → CutBy watch boot cs what

-- cut by this poll, and by a later one
cut_now : (x : Watch) (answer : Result Answer Fault) (boot : List (List ℕ)) (cs : Sent) (what : Trouble) → x.polls < 64 → cs ≡ [] → IsTrouble x.node x.state x.polls answer what
    → CutBy (Some x) boot ((Poll x.node, answer) ∷ cs) what
cut_now x answer boot cs what few none trouble = inl (record {
  states = [];
  waited = tt;
  few = omega (arith, few);
  answer = answer;
  trouble = subst (λ n. IsTrouble x.node x.state n answer what) (omega arith) trouble;
  is = ap (λ l. (Poll x.node, answer) ∷ l) none;
})

cut_later : (x : Watch) (state : Boot) (boot : List (List ℕ)) (cs : Sent) (what : Trouble) → lawful x.state state ≡ true → state ≢ IsUp
    → CutBy (Some (record { node = x.node; state = state; polls = x.polls + 1 })) boot cs what → CutBy (Some x) boot ((Poll x.node, Ok (State state)) ∷ cs) what
cut_later x state boot cs what fine down (inr rise) = inr (later_up (λ rest. AreBootsCut boot rest what) x state cs fine down rise)
cut_later x state boot cs what fine down (inl cut) = inl (record {
  states = state ∷ cut.states;
  waited = (fine, down, cut.waited);
  few = omega (arith, cut.few);
  answer = cut.answer;
  trouble = subst (λ n. IsTrouble x.node (last_state state cut.states) n cut.answer what) (omega arith) cut.trouble;
  is = ap (λ l. (Poll x.node, Ok (State state)) ∷ l) cut.is;
})

wait_cut : (cs : Sent) (x : Watch) (state : Boot) (boot : List (List ℕ)) (what : Trouble) → CutFrom what cs → x.polls < 64 → lawful x.state state ≡ true → state ≢ IsUp
    → Goes cs (cond (eqb (x.polls + 1) 64) (Cut (Late x.node)) (watching (Some (record { node = x.node; state = state; polls = x.polls + 1 })) boot)) (Cut what)
    → CutBy (Some x) boot ((Poll x.node, Ok (State state)) ∷ cs) what
wait_cut cs x state boot what on few fine down goes =
    let y : Watch = record { node = x.node; state = state; polls = x.polls + 1 } in
    elim (cases_Bool (eqb (x.polls + 1) 64)) [
      | inl late ↦
          let ended = ended_cut cs (Late x.node) what (subst (λ b. Goes cs (cond b (Cut (Late x.node)) (watching (Some y) boot)) (Cut what)) late goes) in
          cut_now x (Ok (State state)) boot cs what few ended.0 (inr (fine, down, eqb-true (x.polls + 1) 64 late, ended.1))
      | inr early ↦ cut_later x state boot cs what fine down (on boot (Some y) (omega (arith, few, eqb-false (x.polls + 1) 64 early))
          (subst (λ b. Goes cs (cond b (Cut (Late x.node)) (watching (Some y) boot)) (Cut what)) early goes))
    ]

judged_cut : (cs : Sent) (x : Watch) (state : Boot) (boot : List (List ℕ)) (what : Trouble) → CutFrom what cs → x.polls < 64 → lawful x.state state ≡ true
    → Goes cs (judged x state boot) (Cut what) → CutBy (Some x) boot ((Poll x.node, Ok (State state)) ∷ cs) what
judged_cut cs x IsUp boot what on few fine goes = inr (now_up (λ rest. AreBootsCut boot rest what) x cs few fine (on boot None tt goes))
judged_cut cs x Off boot what on few fine goes = wait_cut cs x Off boot what on few fine (λ e. cc e) goes
judged_cut cs x Shutdown boot what on few fine goes = wait_cut cs x Shutdown boot what on few fine (λ e. cc e) goes
judged_cut cs x Booting boot what on few fine goes = wait_cut cs x Booting boot what on few fine (λ e. cc e) goes
judged_cut cs x TbSetup boot what on few fine goes = wait_cut cs x TbSetup boot what on few fine (λ e. cc e) goes

poll_cut : (cs : Sent) (x : Watch) (answer : Result Answer Fault) (boot : List (List ℕ)) (what : Trouble) → CutFrom what cs → x.polls < 64
    → Goes cs (answered [] (Some x) boot answer) (Cut what) → CutBy (Some x) boot ((Poll x.node, answer) ∷ cs) what
poll_cut cs x (Ok Done) boot what on few goes = absurd (no_halt_cut cs what goes)
poll_cut cs x (Err Stopped) boot what on few goes = absurd (no_halt_cut cs what goes)
poll_cut cs x (Err Failed) boot what on few goes = let ended = ended_cut cs (Device x.node) what goes in cut_now x (Err Failed) boot cs what few ended.0 ended.1
poll_cut cs x (Ok (State state)) boot what on few goes = elim (cases_Bool (lawful x.state state)) [
  | inl fine ↦ judged_cut cs x state boot what on few fine (subst (λ b. Goes cs (cond b (judged x state boot) (Cut (Unlawful x.node x.state state))) (Cut what)) fine goes)
  | inr wrong ↦
      let ended = ended_cut cs (Unlawful x.node x.state state) what (subst (λ b. Goes cs (cond b (judged x state boot) (Cut (Unlawful x.node x.state state))) (Cut what)) wrong goes) in
      cut_now x (Ok (State state)) boot cs what few ended.0 (inl (wrong, ended.1))
]

boot_cut : (cs : Sent) (node : List ℕ) (answer : Result Answer Fault) (boot : List (List ℕ)) (what : Trouble) → CutFrom what cs
    → Goes cs (answered [] None (node ∷ boot) answer) (Cut what) → AreBootsCut (node ∷ boot) ((BootIt node, answer) ∷ cs) what
boot_cut cs node (Err Failed) boot what on goes =
    let ended = ended_cut cs (Device node) what goes in inl (inl (ap (λ l. (BootIt node, Err Failed) ∷ l) ended.0, ended.1))
boot_cut cs node (Err Stopped) boot what on goes = absurd (no_halt_cut cs what goes)
boot_cut cs node (Ok answer) boot what on goes =
    let first : DeviceOp × Result Answer Fault = (BootIt node, Ok answer) in
    elim (on boot (Some (record { node = node; state = Booting; polls = 0 })) (omega arith) goes) [
      | inl cut ↦ inl (inr (answer, cs, refl, cut))
      | inr rise ↦ inr (first ∷ rise.0, rise.1, ap (λ l. first ∷ l) rise.2, (answer, rise.0, refl, rise.3), rise.4)
    ]

boots_cut : (cs : Sent) (what : Trouble) (boot : List (List ℕ)) (watch : Option Watch) → IsEarly watch → Goes cs (watching watch boot) (Cut what) → CutBy watch boot cs what
boots_cut [] what boot watch early goes = absurd (cc goes)
boots_cut (c ∷ cs) what boot (Some x) early goes = subst (λ op. CutBy (Some x) boot ((op, c.1) ∷ cs) what) (same_Some _ _ goes.0) (poll_cut cs x c.1 boot what (boots_cut cs what) early goes.1)
boots_cut (c ∷ cs) what (node ∷ boot) None early goes = subst (λ op. AreBootsCut (node ∷ boot) ((op, c.1) ∷ cs) what) (same_Some _ _ goes.0) (boot_cut cs node c.1 boot what (boots_cut cs what) goes.1)
boots_cut (c ∷ cs) what [] None early goes = absurd (cc (goes.0))

pub list_of_cut : (plan : Plan) (cs : Sent) (what : Trouble) → IsCut plan cs what → IsCutList plan cs what
list_of_cut plan cs what cut = elim (ops_cut (ops_of plan) plan.boot cs what cut) [
  | inl ops ↦ inl ops
  | inr then ↦ inr (then.0, then.1, then.2, then.3, boots_cut then.1 what plan.boot None tt then.4)
]

-- LISTS CUT THE COURSE
ops_cut_go : (ops : List DeviceOp) (cs : Sent) (boot : List (List ℕ)) (what : Trouble) → AreOpsCut ops cs what → Goes cs (waiting ops boot) (Cut what)
ops_cut_go [] cs boot what cut = absurd cut
ops_cut_go (op ∷ ops) [] boot what cut = absurd cut
ops_cut_go (op ∷ ops) (c ∷ cs) boot what cut = (
  ap Some (sym cut.0),
  elim cut.1 [
    | inl failed ↦ subst (λ r. Goes cs (answered (op ∷ ops) None boot r) (Cut what)) (sym failed.0)
        (subst (λ l. Goes l (Cut (Device (device op))) (Cut what)) (sym failed.1) (ap Cut (sym failed.2)))
    | inr more ↦ subst (λ r. Goes cs (answered (op ∷ ops) None boot r) (Cut what)) (sym more.0.1) (ops_cut_go ops cs boot what more.1)
  ],
)

late_is : (y : Watch) (state : Boot) (boot : List (List ℕ)) → state ≢ IsUp → y.polls + 1 ≡ 64 → judged y state boot ≡ Cut (Late y.node)
late_is y IsUp boot down last = absurd (down refl)
late_is y Off boot down last = ap (λ b. cond b (Cut (Late y.node)) (watching (Some (record { node = y.node; state = Off; polls = y.polls + 1 })) boot)) (eq-eqb (y.polls + 1) 64 last)
late_is y Shutdown boot down last = ap (λ b. cond b (Cut (Late y.node)) (watching (Some (record { node = y.node; state = Shutdown; polls = y.polls + 1 })) boot)) (eq-eqb (y.polls + 1) 64 last)
late_is y Booting boot down last = ap (λ b. cond b (Cut (Late y.node)) (watching (Some (record { node = y.node; state = Booting; polls = y.polls + 1 })) boot)) (eq-eqb (y.polls + 1) 64 last)
late_is y TbSetup boot down last = ap (λ b. cond b (Cut (Late y.node)) (watching (Some (record { node = y.node; state = TbSetup; polls = y.polls + 1 })) boot)) (eq-eqb (y.polls + 1) 64 last)

trouble_is : (y : Watch) (answer : Result Answer Fault) (boot : List (List ℕ)) (what : Trouble) → IsTrouble y.node y.state y.polls answer what → answered [] (Some y) boot answer ≡ Cut what
trouble_is y (Err Failed) boot what trouble = ap Cut (sym trouble)
trouble_is y (Err Stopped) boot what trouble = absurd trouble
trouble_is y (Ok Done) boot what trouble = absurd trouble
trouble_is y (Ok (State state)) boot what (inl wrong) = ap (λ b. cond b (judged y state boot) (Cut (Unlawful y.node y.state state))) wrong.0 ∙ ap Cut (sym wrong.1)
trouble_is y (Ok (State state)) boot what (inr late) =
    ap (λ b. cond b (judged y state boot) (Cut (Unlawful y.node y.state state))) late.0 ∙ late_is y state boot late.1 late.2 ∙ ap Cut (sym late.3)

polls_cut_go : (x : Watch) (boot : List (List ℕ)) (cs : Sent) (what : Trouble) → ArePollsCut x.node x.state x.polls cs what → Goes cs (watching (Some x) boot) (Cut what)
polls_cut_go x boot cs what cut =
    let y : Watch = record { node = x.node; state = last_state x.state cut.states; polls = x.polls + length cut.states } in
    subst (λ l. Goes l (watching (Some x) boot) (Cut what)) (sym cut.is)
    (waits_go x cut.states boot (Cut what) ((Poll x.node, cut.answer) ∷ []) cut.waited cut.few (refl, trouble_is y cut.answer boot what cut.trouble))

boots_cut_go : (nodes : List (List ℕ)) (cs : Sent) (what : Trouble) → AreBootsCut nodes cs what → Goes cs (watching None nodes) (Cut what)
boots_cut_go [] cs what cut = absurd cut
boots_cut_go (node ∷ nodes) cs what (inl (inl failed)) = subst (λ l. Goes l (watching None (node ∷ nodes)) (Cut what)) (sym failed.0) (refl, ap Cut (sym failed.1))
boots_cut_go (node ∷ nodes) cs what (inl (inr polled)) = subst (λ l. Goes l (watching None (node ∷ nodes)) (Cut what)) (sym polled.2)
    (refl, polls_cut_go (record { node = node; state = Booting; polls = 0 }) nodes polled.1 what polled.3)
boots_cut_go (node ∷ nodes) cs what (inr later) = subst (λ l. Goes l (watching None (node ∷ nodes)) (Cut what)) (sym later.2)
    (boot_goes node nodes (Cut what) later.0 later.1 later.3 (boots_cut_go nodes later.1 what later.4))

pub cut_by_list : (plan : Plan) (cs : Sent) (what : Trouble) → IsCutList plan cs what → IsCut plan cs what
cut_by_list plan cs what (inl ops) = ops_cut_go (ops_of plan) cs plan.boot what ops
cut_by_list plan cs what (inr boots) = subst (λ l. Goes l (Going (whole plan)) (Cut what)) (sym boots.2)
    (goes_by (ops_of plan) boots.0 boots.1 plan.boot (Cut what) boots.3 (boots_cut_go plan.boot boots.1 what boots.4))
