-- A course that is cut shows it: a device failed, or a node that was booted doesn't come up.
use Rattle.std.proofs.Common.{◌≡◌, ℕ, ◌+◌, ◌==◌, Bool, true, false, cond, not, ◌&&◌, ◌||◌, List, [], ◌∷◌, ◌++◌, Option, Some, None, Result, Ok, Err, refl, sym, ◌∙◌, ap, subst}
use Rattle.std.specs.Str.{bytes_eq}
use Rattle.std.proofs.lemmas.Slice.Eq.{bytes_eq-Decides}
use Rattle.lab_base.specs.declared.boot.Boot.{Boot}
use Rattle.lab_base.specs.declared.boot.Boot.TheVariants as boots
use Rattle.lab_base.proofs.Tests.{and_first, and_rest}
use Rattle.lab_base.proofs.Bytes.{bytes_self}
use Rattle.plant.specs.Events.{Event, Wrote, Synced, Cut as CutTo, Missed, Did, Restarted, Unread}
use Rattle.plant.specs.declared.device.Answer.{Answer}
use Rattle.plant.specs.declared.device.Answer.TheVariants as answers
use Rattle.plant.specs.declared.device.DeviceOp.{DeviceOp}
use Rattle.plant.specs.declared.device.DeviceOp.TheVariants as ops
use Rattle.plant.specs.declared.device.Fault.{Fault}
use Rattle.plant.specs.declared.device.Fault.TheVariants as faults
use Rattle.lab_model.specs.Courses.{Course, Cut, Going, Goes, Halted, Late, Left, Trouble, Watch, answered, fault_of, device, judged, seen, lawful, next, op_node}
use Rattle.lab_model.specs.Leavings.{Sent}
use Rattle.lab_model.specs.OnCourse.{acknowledged}
use Rattle.complete.specs.Booted.{all_come_up, boots_up, comes_up, has_failure, is_failure, is_to, is_up}

or_right : (x y : Bool) → x || y ≡ false → y ≡ false
or_right true y is = absurd (cc is)
or_right false y is = is

or_left : (x y : Bool) → x || y ≡ false → x ≡ false
or_left true y is = absurd (cc is)
or_left false y is = refl

when_true : {A : Type 0} (b : Bool) (x y : A) → b ≡ true → cond b x y ≡ x
when_true true x y is = refl
when_true false x y is = absurd (cc is)

when_false : {A : Type 0} (b : Bool) (x y : A) → b ≡ false → cond b x y ≡ y
when_false true x y is = absurd (cc is)
when_false false x y is = refl

-- after the first step
pub up_after : (event : Event) (events : List Event) → all_come_up (event ∷ events) ≡ true → all_come_up events ≡ true
up_after (Did op applied answer) events is = and_rest (boots_up op answer events) (all_come_up events) is
up_after (Wrote side at bytes) events is = is
up_after (Synced side) events is = is
up_after (CutTo side size) events is = is
up_after (Missed side) events is = is
up_after (Unread device) events is = is
up_after (Restarted a b) events is = is

-- THE COMMANDS OF ONE among the steps: a test of commands, which is the same for all commands to one node
module _ (is_own : DeviceOp → Bool) (alike : (op : DeviceOp) (node : List ℕ) → op_node op ≡ Some node → is_own op ≡ is_own (ops.Boot node)) where
  abbrev pub own_if : Bool → Event → List Event → List Event
  own_if true event events = event ∷ events
  own_if false event events = events

  abbrev pub own_by : List Event → List Event
  own_by [] = []
  own_by (Did op applied answer ∷ events) = own_if (is_own op) (Did op applied answer) (own_by events)
  own_by (event ∷ events) = own_by events

  -- a node that is waited for comes up, as far as the steps go that are left
  abbrev ComesUpAt : Option Watch → List DeviceOp → List Event → Type 0
  ComesUpAt None todo events = Unit {0}
  ComesUpAt (Some w) [] events = (comes_up w.node w.state w.polls events ≡ true) × (is_own (ops.Boot w.node) ≡ true)
  ComesUpAt (Some w) (op ∷ todo) events = ⊥

  abbrev ComesUp : Left → List Event → Type 0
  ComesUp left events = ComesUpAt left.watch left.todo events

  -- what a poll of the waited node tells
  polled : (node : List ℕ) (from state : Boot) (polls : ℕ) (applied : Bool) (events : List Event) → comes_up node from polls (Did (ops.Poll node) applied (Ok (answers.State state)) ∷ events) ≡ true
      → lawful from state && (is_up state || (not (polls + 1 == 64) && comes_up node state (polls + 1) events)) ≡ true
  polled node from state polls applied events is = sym (when_true (bytes_eq node node) _ _ (bytes_self node)) ∙ is

  -- a state of a waited node that comes up, other than ISUP: the course goes on
  on : (n rest : Bool) (what : Trouble) (left after : Left) → not n && rest ≡ true → cond n (Cut what) (Going left) ≡ Going after → (left ≡ after) × (rest ≡ true)
  on true rest what left after up is = absurd (cc up)
  on false rest what left after up is = (cc is, up)

  not_cut : (n rest : Bool) (what trouble : Trouble) (left : Left) → not n && rest ≡ true → cond n (Cut what) (Going left) ≡ Cut trouble → ⊥
  not_cut true rest what trouble left up is = cc up
  not_cut false rest what trouble left up is = cc is

  abbrev waits_on : Watch → Boot → List (List ℕ) → Left
  waits_on w state boot = record { todo = []; boot = boot; watch = Some (record { node = w.node; state = state; polls = w.polls + 1 }) }

  module _ (w : Watch) (boot : List (List ℕ)) (events : List Event) (own : is_own (ops.Boot w.node) ≡ true) where
    abbrev Up : Boot → Type 0
    Up state = lawful w.state state && (is_up state || (not (w.polls + 1 == 64) && comes_up w.node state (w.polls + 1) events)) ≡ true

    fine_on : (state : Boot) (after : Left) → not (w.polls + 1 == 64) && comes_up w.node state (w.polls + 1) events ≡ true
        → cond (w.polls + 1 == 64) (Cut (Late w.node)) (Going (waits_on w state boot)) ≡ Going after → ComesUp after events
    fine_on state after up is =
        let r = on (w.polls + 1 == 64) (comes_up w.node state (w.polls + 1) events) (Late w.node) (waits_on w state boot) after up is in
        subst (λ (l : Left). ComesUp l events) r.0 (r.1, own)

    fine_judged : (state : Boot) (after : Left) → is_up state || (not (w.polls + 1 == 64) && comes_up w.node state (w.polls + 1) events) ≡ true → judged w state boot ≡ Going after → ComesUp after events
    fine_judged boots.IsUp after up is = let e : record { todo = []; boot = boot; watch = None } ≡ after = cc is in subst (λ (l : Left). ComesUp l events) e tt
    fine_judged boots.Off after up is = fine_on boots.Off after up is
    fine_judged boots.Shutdown after up is = fine_on boots.Shutdown after up is
    fine_judged boots.Booting after up is = fine_on boots.Booting after up is
    fine_judged boots.TbSetup after up is = fine_on boots.TbSetup after up is

    fine_seen : (state : Boot) (after : Left) → Up state → seen w state boot ≡ Going after → ComesUp after events
    fine_seen state after up is =
        fine_judged state after (and_rest (lawful w.state state) _ up) (sym (when_true (lawful w.state state) _ _ (and_first (lawful w.state state) _ up)) ∙ is)

    uncut_judged : (state : Boot) (trouble : Trouble) → is_up state || (not (w.polls + 1 == 64) && comes_up w.node state (w.polls + 1) events) ≡ true → judged w state boot ≡ Cut trouble → ⊥
    uncut_judged boots.IsUp trouble up is = cc is
    uncut_judged boots.Off trouble up is = not_cut (w.polls + 1 == 64) _ (Late w.node) trouble (waits_on w boots.Off boot) up is
    uncut_judged boots.Shutdown trouble up is = not_cut (w.polls + 1 == 64) _ (Late w.node) trouble (waits_on w boots.Shutdown boot) up is
    uncut_judged boots.Booting trouble up is = not_cut (w.polls + 1 == 64) _ (Late w.node) trouble (waits_on w boots.Booting boot) up is
    uncut_judged boots.TbSetup trouble up is = not_cut (w.polls + 1 == 64) _ (Late w.node) trouble (waits_on w boots.TbSetup boot) up is

    uncut_seen : (state : Boot) (trouble : Trouble) → Up state → seen w state boot ≡ Cut trouble → ⊥
    uncut_seen state trouble up is =
        uncut_judged state trouble (and_rest (lawful w.state state) _ up) (sym (when_true (lawful w.state state) _ _ (and_first (lawful w.state state) _ up)) ∙ is)

  -- ONE COMMAND OF IT, next on the course
  fault_stops : (name : List ℕ) (fault : Fault) (after : Left) → fault_of name fault ≡ Going after → ⊥
  fault_stops name faults.Failed after is = cc is
  fault_stops name faults.Stopped after is = cc is

  same_op : (a b : DeviceOp) → Some a ≡ Some b → a ≡ b
  same_op a b is = cc is

  goes_on : (todo : List DeviceOp) (watch : Option Watch) (boot : List (List ℕ)) (op : DeviceOp) (applied : Bool) (answer : Result Answer Fault) (events : List Event) (after : Left)
      → next todo watch boot ≡ Some op → is_own op ≡ true → ComesUpAt watch todo (Did op applied answer ∷ events) → all_come_up (Did op applied answer ∷ events) ≡ true
      → answered todo watch boot answer ≡ Going after → ComesUp after events
  goes_on (o ∷ todo) None boot op applied (Ok a) events after comes own fine up is = let e : record { todo = todo; boot = boot; watch = None } ≡ after = cc is in subst (λ (l : Left). ComesUp l events) e tt
  goes_on (o ∷ todo) None boot op applied (Err fault) events after comes own fine up is = absurd (fault_stops (device o) fault after is)
  goes_on (o ∷ todo) (Some w) boot op applied answer events after comes own fine up is = absurd fine
  goes_on [] (Some w) boot op applied (Ok (answers.State state)) events after comes own fine up is =
      let it : op ≡ ops.Poll w.node = sym (same_op (ops.Poll w.node) op comes) in
      let waited = subst (λ (o : DeviceOp). comes_up w.node w.state w.polls (Did o applied (Ok (answers.State state)) ∷ events) ≡ true) it fine.0 in
      fine_seen w boot events fine.1 state after (polled w.node w.state state w.polls applied events waited) is
  goes_on [] (Some w) boot op applied (Ok answers.Done) events after comes own fine up is = absurd (cc is)
  goes_on [] (Some w) boot op applied (Err fault) events after comes own fine up is = absurd (fault_stops w.node fault after is)
  goes_on [] None (node ∷ boot) op applied (Ok a) events after comes own fine up is =
      let it : op ≡ ops.Boot node = sym (same_op (ops.Boot node) op comes) in
      let e : record { todo = []; boot = boot; watch = Some (record { node = node; state = boots.Booting; polls = 0 }) } ≡ after = cc is in
      let booted = subst (λ (o : DeviceOp). boots_up o (Ok a) events && all_come_up events ≡ true) it up in
      subst (λ (l : Left). ComesUp l events) e (and_first (comes_up node boots.Booting 0 events) (all_come_up events) booted, subst (λ (o : DeviceOp). is_own o ≡ true) it own)
  goes_on [] None (node ∷ boot) op applied (Err fault) events after comes own fine up is = absurd (fault_stops node fault after is)
  goes_on [] None [] op applied answer events after comes own fine up is = absurd (cc comes)

  fault_fails : (op : DeviceOp) (applied : Bool) (name : List ℕ) (fault : Fault) (trouble : Trouble) → fault_of name fault ≡ Cut trouble → is_failure (Did op applied (Err fault)) ≡ false → ⊥
  fault_fails op applied name faults.Failed trouble is calm = cc calm
  fault_fails op applied name faults.Stopped trouble is calm = cc is

  never_cut : (todo : List DeviceOp) (watch : Option Watch) (boot : List (List ℕ)) (op : DeviceOp) (applied : Bool) (answer : Result Answer Fault) (events : List Event) (trouble : Trouble)
      → next todo watch boot ≡ Some op → ComesUpAt watch todo (Did op applied answer ∷ events) → is_failure (Did op applied answer) ≡ false → answered todo watch boot answer ≡ Cut trouble → ⊥
  never_cut (o ∷ todo) None boot op applied (Ok a) events trouble comes fine calm is = cc is
  never_cut (o ∷ todo) None boot op applied (Err fault) events trouble comes fine calm is = fault_fails op applied (device o) fault trouble is calm
  never_cut (o ∷ todo) (Some w) boot op applied answer events trouble comes fine calm is = fine
  never_cut [] (Some w) boot op applied (Ok (answers.State state)) events trouble comes fine calm is =
      let it : op ≡ ops.Poll w.node = sym (same_op (ops.Poll w.node) op comes) in
      let waited = subst (λ (o : DeviceOp). comes_up w.node w.state w.polls (Did o applied (Ok (answers.State state)) ∷ events) ≡ true) it fine.0 in
      uncut_seen w boot events fine.1 state trouble (polled w.node w.state state w.polls applied events waited) is
  never_cut [] (Some w) boot op applied (Ok answers.Done) events trouble comes fine calm is = cc is
  never_cut [] (Some w) boot op applied (Err fault) events trouble comes fine calm is = fault_fails op applied w.node fault trouble is calm
  never_cut [] None (node ∷ boot) op applied (Ok a) events trouble comes fine calm is = cc is
  never_cut [] None (node ∷ boot) op applied (Err fault) events trouble comes fine calm is = fault_fails op applied node fault trouble is calm
  never_cut [] None [] op applied answer events trouble comes fine calm is = cc comes

  -- A COMMAND OF ANOTHER goes to no node that is waited for
  not_to : (node : List ℕ) (op : DeviceOp) (to : Option (List ℕ)) → op_node op ≡ to → is_own op ≡ false → is_own (ops.Boot node) ≡ true → is_to node to ≡ false
  not_to node op None is other own = refl
  not_to node op (Some name) is other own = apart (bytes_eq name node) refl
    where
      apart : (b : Bool) → bytes_eq name node ≡ b → b ≡ false
      apart false same = refl
      apart true same =
          let it = (bytes_eq-Decides name node).0 same in
          absurd (cc (sym other ∙ alike op name is ∙ ap (λ n. is_own (ops.Boot n)) it ∙ own))

  passes : (watch : Option Watch) (todo : List DeviceOp) (op : DeviceOp) (applied : Bool) (answer : Result Answer Fault) (events : List Event) → is_own op ≡ false → ComesUpAt watch todo (Did op applied answer ∷ events) → ComesUpAt watch todo events
  passes None todo op applied answer events other fine = tt
  passes (Some w) [] op applied answer events other fine = (sym (when_false (is_to w.node (op_node op)) _ _ (not_to w.node op (op_node op) refl other fine.1)) ∙ fine.0, fine.1)
  passes (Some w) (o ∷ todo) op applied answer events other fine = absurd fine

  quiet : (watch : Option Watch) (todo : List DeviceOp) (event : Event) (events : List Event) → ((node : List ℕ) (from : Boot) (polls : ℕ) → comes_up node from polls (event ∷ events) ≡ comes_up node from polls events) → ComesUpAt watch todo (event ∷ events) → ComesUpAt watch todo events
  quiet None todo event events same fine = tt
  quiet (Some w) [] event events same fine = (sym (same w.node w.state w.polls) ∙ fine.0, fine.1)
  quiet (Some w) (o ∷ todo) event events same fine = absurd fine

  -- A COURSE OF IT IS NEVER CUT among steps that go well
  module _ (mid : Left) (op : DeviceOp) (applied : Bool) (answer : Result Answer Fault) (trouble : Trouble) (comes : next mid.todo mid.watch mid.boot ≡ Some op) (cut : answered mid.todo mid.watch mid.boot answer ≡ Cut trouble) (more : List Event) where
    goes_to : (course : Course) (sent : Sent) → Goes sent course (Going mid) → (left : Left) × (course ≡ Going left)
    goes_to (Going left) sent goes = (left, refl)
    goes_to (Cut what) [] goes = absurd (cc goes)
    goes_to (Cut what) (c ∷ sent) goes = absurd goes
    goes_to Halted [] goes = absurd (cc goes)
    goes_to Halted (c ∷ sent) goes = absurd goes

    abbrev Again : List Event → Type 0
    Again events = (l : Left) (s : Sent) → own_by events ≡ acknowledged s ++ Did op applied answer ∷ [] → Goes s (Going l) (Going mid) → ComesUp l (events ++ more) → ⊥

    pub no_cut : (events : List Event) (left : Left) (sent : Sent) → own_by events ≡ acknowledged sent ++ Did op applied answer ∷ [] → Goes sent (Going left) (Going mid) → ComesUp left (events ++ more) → all_come_up (events ++ more) ≡ true
        → has_failure (events ++ more) ≡ false → ⊥
    no_cut [] left [] is goes fine up calm = cc is
    no_cut [] left (c ∷ sent) is goes fine up calm = cc is
    no_cut (Wrote side at bytes ∷ events) left sent is goes fine up calm = no_cut events left sent is goes (quiet left.watch left.todo (Wrote side at bytes) (events ++ more) (λ node from polls. refl) fine) up calm
    no_cut (Synced side ∷ events) left sent is goes fine up calm = no_cut events left sent is goes (quiet left.watch left.todo (Synced side) (events ++ more) (λ node from polls. refl) fine) up calm
    no_cut (CutTo side size ∷ events) left sent is goes fine up calm = no_cut events left sent is goes (quiet left.watch left.todo (CutTo side size) (events ++ more) (λ node from polls. refl) fine) up calm
    no_cut (Missed side ∷ events) left sent is goes fine up calm = no_cut events left sent is goes (quiet left.watch left.todo (Missed side) (events ++ more) (λ node from polls. refl) fine) up calm
    no_cut (Unread device ∷ events) left sent is goes fine up calm = no_cut events left sent is goes (quiet left.watch left.todo (Unread device) (events ++ more) (λ node from polls. refl) fine) up calm
    no_cut (Restarted a b ∷ events) left sent is goes fine up calm = no_cut events left sent is goes (quiet left.watch left.todo (Restarted a b) (events ++ more) (λ node from polls. refl) fine) up calm
    no_cut (Did o x y ∷ events) left sent is goes fine up calm = by (is_own o) (λ l s same g f. no_cut events l s same g f (up_after (Did o x y) (events ++ more) up) (or_right (is_failure (Did o x y)) (has_failure (events ++ more)) calm)) refl is
      where
        own : (sent : Sent) → Again events → is_own o ≡ true → Did o x y ∷ own_by events ≡ acknowledged sent ++ Did op applied answer ∷ [] → Goes sent (Going left) (Going mid) → ⊥
        own [] again its same goes =
            let same_event : Did o x y ≡ Did op applied answer = cc same in
            let at : left ≡ mid = cc goes in
            let fine_there = subst (λ (l : Left). ComesUpAt l.watch l.todo (Did o x y ∷ (events ++ more))) at fine in
            never_cut mid.todo mid.watch mid.boot op applied answer (events ++ more) trouble comes (subst (λ e. ComesUpAt mid.watch mid.todo (e ∷ (events ++ more))) same_event fine_there)
            (subst (λ e. is_failure e ≡ false) same_event (or_left (is_failure (Did o x y)) (has_failure (events ++ more)) calm)) cut
        own (c ∷ sent) again its same goes =
            let same_event : Did o x y ≡ Did c.0 true c.1 = cc same in
            let rest : own_by events ≡ acknowledged sent ++ Did op applied answer ∷ [] = cc same in
            let next_is : o ≡ c.0 = cc same_event in
            let answer_is : y ≡ c.1 = cc same_event in
            let to = goes_to (answered left.todo left.watch left.boot c.1) sent goes.1 in
            again to.0 sent rest (subst (λ k. Goes sent k (Going mid)) to.1 goes.1)
            (goes_on left.todo left.watch left.boot o x y (events ++ more) to.0 (goes.0 ∙ ap (λ (d : DeviceOp). Some d) (sym next_is)) its fine up (ap (λ a. answered left.todo left.watch left.boot a) answer_is ∙ to.1))

        by : (b : Bool) → Again events → is_own o ≡ b → own_if b (Did o x y) (own_by events) ≡ acknowledged sent ++ Did op applied answer ∷ [] → ⊥
        by true again its same = own sent again its same goes
        by false again other same = again left sent same goes (passes left.watch left.todo o x y (events ++ more) other fine)
