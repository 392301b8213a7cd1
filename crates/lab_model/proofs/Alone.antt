-- The facts that a state keeps of its course while other swaps and the journal go on.
use Rattle.std.proofs.Common.{◌≡◌, ◌≢◌, ℕ, Bool, true, cond, fold, Option, Some, Result, List, [], ◌∷◌, ◌++◌, length, take, drop, refl, sym, ap, ◌∙◌, subst, arith, length-append}
use Rattle.std.proofs.lemmas.Bool.{or_left, or_right}
use Rattle.std.proofs.lemmas.List.{take-append-le, drop-append-le, drop_all, take_all, map-append, append-nil}
use Rattle.lab_base.specs.Lists.{Has}
use Rattle.lab_base.proofs.Members.{Has-left, Has-right, any_has}
use Rattle.lab_base.proofs.Lists.{cond_append}
use Rattle.phys_lab.specs.Labs.{Lab}
use Rattle.phys_lab.specs.Kept.{IsLab}
use Rattle.virt_topo.specs.declared.experiment.Experiment.{Experiment}
use Rattle.virt_topo.specs.declared.mapping.Mapped.{Mapped}
use Rattle.plant.specs.Worlds.{Row, World, is_row, world_of, world_after}
use Rattle.plant.specs.Events.{Event, Wrote, Synced, Cut, Missed, Did, Restarted, Unread}
use Rattle.plant.specs.declared.device.Answer.{Answer}
use Rattle.plant.specs.declared.device.Fault.{Fault}
use Rattle.plant.specs.declared.device.DeviceOp.{DeviceOp}
use Rattle.plant.specs.declared.device.DeviceOp.TheVariants.{Join, Leave, Shape, Load, Boot as BootIt, Poll, Wipe}
use Rattle.lab_model.specs.Claims.{Which, Old, New, claimed, Wants, Claims, IsOf, is_placed}
use Rattle.lab_model.specs.Holding.{Holding}
use Rattle.lab_model.specs.Parts.{Part}
use Rattle.lab_model.specs.Courses.{IsCommandOf, rows_from}
use Rattle.lab_model.specs.Leavings.{Sent, did, ran, SameFor, Ends, Gone}
use Rattle.lab_model.specs.OnCourse.{is_row_of, is_node_of, is_of, own_events, acknowledged, OnCourse}
use Rattle.lab_model.proofs.Kept.{places_it_from}
use Rattle.lab_model.proofs.Clearing.{is_row-refl}
use Rattle.lab_model.proofs.Steps.{part_same}
use Rattle.lab_model.proofs.Alike.{same_did, ends_same}
use Rattle.lab_model.proofs.TraceLaws.{world_push}
use Rattle.lab_model.proofs.OwnEvents.{not_own, own_events_other, own_events_push, alone_others, alone_own}

row_test : (lab : Lab) (e : Experiment) (row : Row) → IsOf lab e row → is_row_of lab e (Some row) ≡ true
row_test lab e row of_e =
    any_has (λ o. is_row o.row.switch o.row.port o.row.vlan row) (rows_from lab (claimed e Old) ++ rows_from lab (claimed e New)) (record { row = row; owner = of_e.1 }) (at of_e.0 of_e.2) (is_row-refl row)
  where
    from : (o : Option Mapped) (m : Mapped) → o ≡ Some m → Has (rows_from lab (Some m)) (record { row = row; owner = of_e.1 }) → Has (rows_from lab o) (record { row = row; owner = of_e.1 })
    from o m is h = subst (λ x. Has (rows_from lab x) (record { row = row; owner = of_e.1 })) (sym is) h

    at : (which : Which) → Wants lab e row which of_e.1 → Has (rows_from lab (claimed e Old) ++ rows_from lab (claimed e New)) (record { row = row; owner = of_e.1 })
    at Old w = Has-left (rows_from lab (claimed e Old)) (rows_from lab (claimed e New)) _ (from (claimed e Old) w.mapped w.is w.row_of)
    at New w = Has-right (rows_from lab (claimed e Old)) (rows_from lab (claimed e New)) _ (from (claimed e New) w.mapped w.is w.row_of)

node_test : (lab : Lab) (e : Experiment) (name : List ℕ) → Claims lab e name → is_node_of lab e (Some name) ≡ true
node_test lab e name c = by c.which c.is
  where
    placed : (o : Option Mapped) → o ≡ Some c.mapped → is_placed lab o name ≡ true
    placed o is = ap (λ x. is_placed lab x name) is ∙ places_it_from lab c.mapped name c.placed

    by : (which : Which) → claimed e which ≡ Some c.mapped → is_node_of lab e (Some name) ≡ true
    by Old is = or_left _ _ (placed (claimed e Old) is)
    by New is = or_right _ _ (placed (claimed e New) is)

-- a command of the experiment passes the test
pub is_own : (lab : Lab) (e : Experiment) (op : DeviceOp) → IsCommandOf lab e op → is_of lab e op ≡ true
is_own lab e (Join switch port vlan) c = or_left _ _ (row_test lab e _ (c.row _ refl))
is_own lab e (Leave switch port vlan) c = or_left _ _ (row_test lab e _ (c.row _ refl))
is_own lab e (Shape node number from to there back) c = node_test lab e node (c.node node refl)
is_own lab e (Load node os) c = node_test lab e node (c.node node refl)
is_own lab e (BootIt node) c = node_test lab e node (c.node node refl)
is_own lab e (Poll node) c = node_test lab e node (c.node node refl)
is_own lab e (Wipe node) c = node_test lab e node (c.node node refl)

folded : (cs : Sent) (w : World) → fold world_after w (acknowledged cs) ≡ ran w cs
folded [] w = refl
folded (c ∷ cs) w = folded cs (did w c.0 true c.1)

-- the world is alike for the experiment to the one that its commands alone give
pub course_world : (lab : Lab) (e : Experiment) (cs : Sent) (start : ℕ) (trace : List Event) → OnCourse lab e cs start trace → SameFor lab e (ran (world_of (take start trace)) cs) (world_of trace)
course_world lab e cs start trace on = subst (λ v. SameFor lab e v (world_of trace)) (ap (λ l. fold world_after (world_of (take start trace)) l) on.sent ∙ folded cs (world_of (take start trace))) on.alone

-- AT THE BEGINNING of a course, over every trace
pub course_starts : (lab : Lab) (e : Experiment) (trace : List Event) → OnCourse lab e [] (length trace) trace
course_starts lab e trace =
    let none : drop (length trace) trace ≡ [] = drop_all (length trace) trace (omega arith) in
    let all : take (length trace) trace ≡ trace = take_all (length trace) trace (omega arith) in
    record {
      within = omega arith;
      sent = ap (λ l. own_events lab e l) none;
      alone = subst (λ v. SameFor lab e v (world_of trace)) (sym (λ i. fold world_after (world_of (all i)) (own_events lab e (none i)))) (record { rows = λ row of_e. refl; nodes = λ name claims. refl });
    }

-- kept by the commands of other experiments
pub course_others : (lab : Lab) (es : List Experiment) → IsLab lab → Holding lab es → (e f : Experiment) (cs : Sent) (start : ℕ) (trace : List Event) (op : DeviceOp) (applied : Bool) (answer : Result Answer Fault)
    → Has es e → Has es f → e ≢ f → IsCommandOf lab f op → OnCourse lab e cs start trace → OnCourse lab e cs start (trace ++ Did op applied answer ∷ [])
course_others lab es is_lab holding e f cs start trace op applied answer in_e in_f differ of_f on = record {
  within = omega (arith, on.within, length-append trace (Did op applied answer ∷ []));
  sent = ap (λ l. own_events lab e l) (drop-append-le start trace (Did op applied answer ∷ []) on.within) ∙ own_events_other lab e (drop start trace) op applied answer (not_own lab es is_lab holding e f op in_e in_f differ of_f) ∙ on.sent;
  alone = alone_others lab es is_lab holding e f start trace op applied answer in_e in_f differ of_f on.within on.alone;
}

-- one more acknowledged command of its own
pub course_own : (lab : Lab) (e : Experiment) (cs : Sent) (start : ℕ) (trace : List Event) (op : DeviceOp) (answer : Result Answer Fault) → IsCommandOf lab e op → OnCourse lab e cs start trace → OnCourse lab e (cs ++ (op, answer) ∷ []) start (trace ++ Did op true answer ∷ [])
course_own lab e cs start trace op answer its on =
    let own = is_own lab e op its in
    record {
      within = omega (arith, on.within, length-append trace (Did op true answer ∷ []));
      sent = ap (λ l. own_events lab e l) (drop-append-le start trace (Did op true answer ∷ []) on.within) ∙ own_events_push lab e (drop start trace) op true answer own ∙ ap (λ l. l ++ Did op true answer ∷ []) on.sent ∙ sym (map-append (λ (c : DeviceOp × Result Answer Fault). Did c.0 true c.1) cs ((op, answer) ∷ []));
      alone = alone_own lab e start trace op true answer own on.within on.alone;
    }

-- a step of the journal
own_events_quiet : (lab : Lab) (e : Experiment) (events : List Event) (event : Event) → own_events lab e (event ∷ []) ≡ [] → own_events lab e (events ++ event ∷ []) ≡ own_events lab e events
own_events_quiet lab e [] event is = is
own_events_quiet lab e (Did o a r ∷ events) event is = ap (λ l. cond (is_of lab e o) (Did o a r ∷ l) l) (own_events_quiet lab e events event is)
own_events_quiet lab e (Wrote side at bytes ∷ events) event is = own_events_quiet lab e events event is
own_events_quiet lab e (Synced side ∷ events) event is = own_events_quiet lab e events event is
own_events_quiet lab e (Cut side size ∷ events) event is = own_events_quiet lab e events event is
own_events_quiet lab e (Missed side ∷ events) event is = own_events_quiet lab e events event is
own_events_quiet lab e (Restarted x y ∷ events) event is = own_events_quiet lab e events event is
own_events_quiet lab e (Unread device ∷ events) event is = own_events_quiet lab e events event is

pub course_quiet : (lab : Lab) (e : Experiment) (cs : Sent) (start : ℕ) (trace : List Event) (event : Event) → own_events lab e (event ∷ []) ≡ [] → ((w : World) → world_after w event ≡ w) → OnCourse lab e cs start trace → OnCourse lab e cs start (trace ++ event ∷ [])
course_quiet lab e cs start trace event none same on =
    let dropped : own_events lab e (drop start (trace ++ event ∷ [])) ≡ own_events lab e (drop start trace) = ap (λ l. own_events lab e l) (drop-append-le start trace (event ∷ []) on.within) ∙ own_events_quiet lab e (drop start trace) event none in
    let taken : take start (trace ++ event ∷ []) ≡ take start trace = take-append-le start trace (event ∷ []) on.within in
    record {
      within = omega (arith, on.within, length-append trace (event ∷ []));
      sent = dropped ∙ on.sent;
      alone = subst (λ v. SameFor lab e v (world_of (trace ++ event ∷ []))) (sym (λ i. fold world_after (world_of (taken i)) (dropped i)))
          (subst (λ v. SameFor lab e (fold world_after (world_of (take start trace)) (own_events lab e (drop start trace))) v) (sym (world_push trace event ∙ same (world_of trace))) on.alone);
    }

own_events_append : (lab : Lab) (e : Experiment) (events more : List Event) → own_events lab e (events ++ more) ≡ own_events lab e events ++ own_events lab e more
own_events_append lab e [] more = refl
own_events_append lab e (Did o a r ∷ events) more = ap (λ l. cond (is_of lab e o) (Did o a r ∷ l) l) (own_events_append lab e events more) ∙ cond_append (is_of lab e o) (Did o a r) (own_events lab e events) (own_events lab e more)
own_events_append lab e (Wrote side at bytes ∷ events) more = own_events_append lab e events more
own_events_append lab e (Synced side ∷ events) more = own_events_append lab e events more
own_events_append lab e (Cut side size ∷ events) more = own_events_append lab e events more
own_events_append lab e (Missed side ∷ events) more = own_events_append lab e events more
own_events_append lab e (Restarted x y ∷ events) more = own_events_append lab e events more
own_events_append lab e (Unread device ∷ events) more = own_events_append lab e events more

-- steps of the journal: none is its own, and the world stays
pub course_journal : (lab : Lab) (e : Experiment) (cs : Sent) (start : ℕ) (trace more : List Event) → own_events lab e more ≡ [] → world_of (trace ++ more) ≡ world_of trace → OnCourse lab e cs start trace → OnCourse lab e cs start (trace ++ more)
course_journal lab e cs start trace more none same on =
    let dropped : own_events lab e (drop start (trace ++ more)) ≡ own_events lab e (drop start trace) = ap (λ l. own_events lab e l) (drop-append-le start trace more on.within) ∙ own_events_append lab e (drop start trace) more ∙ ap (λ l. own_events lab e (drop start trace) ++ l) none ∙ append-nil (own_events lab e (drop start trace)) in
    let taken : take start (trace ++ more) ≡ take start trace = take-append-le start trace more on.within in
    record {
      within = omega (arith, on.within, length-append trace more);
      sent = dropped ∙ on.sent;
      alone = subst (λ v. SameFor lab e v (world_of (trace ++ more))) (sym (λ i. fold world_after (world_of (taken i)) (dropped i)))
          (subst (λ v. SameFor lab e (fold world_after (world_of (take start trace)) (own_events lab e (drop start trace))) v) (sym same) on.alone);
    }

-- WHAT IS TRUE OF ITS COMMANDS ALONE is true of the trace: the part after the next command, and the end
pub course_next : (lab : Lab) (e : Experiment) (cs : Sent) (start : ℕ) (trace : List Event) (op : DeviceOp) (applied : Bool) (answer : Result Answer Fault) → OnCourse lab e cs start trace → Part lab (did (ran (world_of (take start trace)) cs) op applied answer) e → Part lab (did (world_of trace) op applied answer) e
course_next lab e cs start trace op applied answer on part =
    part_same lab (did (ran (world_of (take start trace)) cs) op applied answer) (did (world_of trace) op applied answer) e (same_did lab e _ (world_of trace) op applied answer (course_world lab e cs start trace on)) part

pub course_ends : (lab : Lab) (e : Experiment) (m : Mapped) (which : Which) (cs : Sent) (start : ℕ) (trace : List Event) → claimed e which ≡ Some m → OnCourse lab e cs start trace → Ends lab e m (ran (world_of (take start trace)) cs) → Ends lab e m (world_of trace)
course_ends lab e m which cs start trace mine on ends = ends_same lab e m which (ran (world_of (take start trace)) cs) (world_of trace) mine (course_world lab e cs start trace on) ends

pub course_gone : (lab : Lab) (e : Experiment) (cs : Sent) (start : ℕ) (trace : List Event) → OnCourse lab e cs start trace → Gone lab e (ran (world_of (take start trace)) cs) → Gone lab e (world_of trace)
course_gone lab e cs start trace on gone =
    let same = course_world lab e cs start trace on in
    record {
      rows = λ row of_e is. gone.rows row of_e (sym (same.rows row of_e) ∙ is);
      nodes = λ name claims. subst (λ n. Rattle.lab_model.specs.Cabled.SameNode n Rattle.plant.specs.Worlds.wiped) (sym (same.nodes name claims)) (gone.nodes name claims);
    }
