-- An experiment's own commands in a trace: after a command of another, and after its own.
use Rattle.std.specs.List.{list_any}
use Rattle.std.proofs.Common.{◌≡◌, ◌≢◌, inl, inr, ℕ, Bool, true, false, cond, Option, Some, None, Result, List, [], ◌∷◌, ◌++◌, length, drop, refl, sym, ap, ◌∙◌, subst, ◌≤◌, fold, take}
use Rattle.std.proofs.lemmas.Bool.{or_cases, false≢true, false_from_ne_true}
use Rattle.std.proofs.lemmas.List.{take-append-le, drop-append-le}
use Rattle.std.proofs.lemmas.List.Sums.{fold-append}
use Rattle.lab_base.specs.Lists.{Has}
use Rattle.lab_base.proofs.Members.{Has-append}
use Rattle.phys_lab.specs.Labs.{Lab}
use Rattle.phys_lab.specs.Kept.{IsLab}
use Rattle.virt_topo.specs.declared.experiment.Experiment.{Experiment}
use Rattle.virt_topo.specs.declared.mapping.Mapped.{Mapped}
use Rattle.plant.specs.Worlds.{Row, is_row, World, world_after, world_of}
use Rattle.plant.specs.Events.{Event, Did, Wrote, Synced, Cut as CutTo, Missed, Restarted, Unread}
use Rattle.plant.specs.declared.device.Answer.{Answer}
use Rattle.plant.specs.declared.device.Fault.{Fault}
use Rattle.plant.specs.declared.device.DeviceOp.{DeviceOp}
use Rattle.lab_model.specs.Wants.{Owned}
use Rattle.lab_model.specs.Claims.{Which, Old, New, claimed, Claims, IsOf}
use Rattle.lab_model.specs.Holding.{Holding}
use Rattle.lab_model.specs.Courses.{op_row, op_node, rows_from, Left, Course, Going, Cut, Halted, next, answered, Goes, IsCommandOf}
use Rattle.lab_model.specs.Leavings.{Sent, SameFor, did}
use Rattle.lab_model.specs.OnCourse.{is_row_of, is_node_of, is_of, own_events, IsAlone}
use Rattle.lab_model.proofs.Alike.{same_did}
use Rattle.lab_model.proofs.PartLaws.{same_vlan, same_node}
use Rattle.lab_model.proofs.Steps.{is_row-true, others_same}
use Rattle.lab_model.proofs.TraceLaws.{world_push}
use Rattle.lab_model.proofs.Claiming.{node_claimed}

row_found : (lab : Lab) (os : List Owned) (row : Row) → list_any (λ o. is_row o.row.switch o.row.port o.row.vlan row) os ≡ true → (o : Owned) × Has os o × (o.row ≡ row)
row_found lab [] row h = absurd (false≢true h)
row_found lab (o ∷ os) row h = elim (or_cases _ _ h) [
  | inl here ↦ (o, inl refl, is_row-true o.row.switch o.row.port o.row.vlan row here)
  | inr more ↦ let r = row_found lab os row more in (r.0, inr r.1, r.2)
]

row_wanted : (lab : Lab) (e : Experiment) (which : Which) (c : Option Mapped) (o : Owned) → claimed e which ≡ c → Has (rows_from lab c) o → IsOf lab e o.row
row_wanted lab e which None o is h = absurd h
row_wanted lab e which (Some m) o is h = (which, o.owner, record { mapped = m; is = is; row_of = h })

-- what the test says
of_row : (lab : Lab) (e : Experiment) (o : Option Row) → is_row_of lab e o ≡ true → (row : Row) × (o ≡ Some row) × IsOf lab e row
of_row lab e None h = absurd (false≢true h)
of_row lab e (Some row) h =
    let r = row_found lab _ row h in
    (row, refl, subst (λ x. IsOf lab e x) r.2 (elim (Has-append (rows_from lab (claimed e Old)) (rows_from lab (claimed e New)) r.0 r.1) [ inl a ↦ row_wanted lab e Old _ r.0 refl a | inr b ↦ row_wanted lab e New _ r.0 refl b ]))

of_node : (lab : Lab) (e : Experiment) (o : Option (List ℕ)) → is_node_of lab e o ≡ true → (name : List ℕ) × (o ≡ Some name) × Claims lab e name
of_node lab e None h = absurd (false≢true h)
of_node lab e (Some name) h = (name, refl, elim (or_cases _ _ h) [ inl a ↦ node_claimed lab e Old _ name refl a | inr b ↦ node_claimed lab e New _ name refl b ])

-- a command of another experiment is not its own
pub not_own : (lab : Lab) (es : List Experiment) → IsLab lab → Holding lab es → (e f : Experiment) (op : DeviceOp) → Has es e → Has es f → e ≢ f → IsCommandOf lab f op → is_of lab e op ≡ false
not_own lab es is_lab holding e f op in_e in_f differ of_f = false_from_ne_true _ (λ h. elim (or_cases _ _ h) [
  | inl a ↦ let r = of_row lab e (op_row op) a in differ (same_vlan lab es is_lab holding e f r.0 r.0 in_e in_f r.2 (of_f.row r.0 r.1) refl)
  | inr b ↦ let r = of_node lab e (op_node op) b in differ (same_node lab es is_lab holding e f r.0 in_e in_f r.2 (of_f.node r.0 r.1))
])

-- a course goes on by the next command
pub goes_push : (cs : Sent) (course : Course) (left : Left) (op : DeviceOp) (answer : Result Answer Fault) → Goes cs course (Going left) → next left.todo left.watch left.boot ≡ Some op → Goes (cs ++ (op, answer) ∷ []) course (answered left.todo left.watch left.boot answer)
goes_push [] course left op answer goes comes = subst (λ k. Goes ((op, answer) ∷ []) k (answered left.todo left.watch left.boot answer)) (sym goes) (comes, refl)
goes_push (c ∷ cs) (Going l) left op answer goes comes = (goes.0, goes_push cs (answered l.todo l.watch l.boot c.1) left op answer goes.1 comes)
goes_push (c ∷ cs) (Cut what) left op answer goes comes = absurd goes
goes_push (c ∷ cs) Halted left op answer goes comes = absurd goes

pub did_push : (trace : List Event) (op : DeviceOp) (applied : Bool) (answer : Result Answer Fault) → world_of (trace ++ Did op applied answer ∷ []) ≡ did (world_of trace) op applied answer
did_push trace op true answer = world_push trace (Did op true answer)
did_push trace op false answer = world_push trace (Did op false answer)

-- alike for the experiment, one after another
pub same_trans : (lab : Lab) (e : Experiment) (u v w : World) → SameFor lab e u v → SameFor lab e v w → SameFor lab e u w
same_trans lab e u v w p q = record { rows = λ row of_e. q.rows row of_e ∙ p.rows row of_e; nodes = λ name claims. q.nodes name claims ∙ p.nodes name claims }

pub own_events_other : (lab : Lab) (e : Experiment) (events : List Event) (op : DeviceOp) (applied : Bool) (answer : Result Answer Fault) → is_of lab e op ≡ false → own_events lab e (events ++ Did op applied answer ∷ []) ≡ own_events lab e events
own_events_other lab e [] op applied answer is = ap (λ b. cond b (Did op applied answer ∷ []) []) is
own_events_other lab e (Did o a r ∷ events) op applied answer is = ap (λ l. cond (is_of lab e o) (Did o a r ∷ l) l) (own_events_other lab e events op applied answer is)
own_events_other lab e (Wrote side at bytes ∷ events) op applied answer is = own_events_other lab e events op applied answer is
own_events_other lab e (Synced side ∷ events) op applied answer is = own_events_other lab e events op applied answer is
own_events_other lab e (CutTo side size ∷ events) op applied answer is = own_events_other lab e events op applied answer is
own_events_other lab e (Missed side ∷ events) op applied answer is = own_events_other lab e events op applied answer is
own_events_other lab e (Restarted x y ∷ events) op applied answer is = own_events_other lab e events op applied answer is
own_events_other lab e (Unread device ∷ events) op applied answer is = own_events_other lab e events op applied answer is

event_push : (b : Bool) (x c : Event) (l : List Event) → cond b (x ∷ (l ++ c ∷ [])) (l ++ c ∷ []) ≡ cond b (x ∷ l) l ++ c ∷ []
event_push true x c l = refl
event_push false x c l = refl

pub own_events_push : (lab : Lab) (e : Experiment) (events : List Event) (op : DeviceOp) (applied : Bool) (answer : Result Answer Fault) → is_of lab e op ≡ true → own_events lab e (events ++ Did op applied answer ∷ []) ≡ own_events lab e events ++ Did op applied answer ∷ []
own_events_push lab e [] op applied answer is = ap (λ b. cond b (Did op applied answer ∷ []) []) is
own_events_push lab e (Did o a r ∷ events) op applied answer is = ap (λ l. cond (is_of lab e o) (Did o a r ∷ l) l) (own_events_push lab e events op applied answer is) ∙ event_push (is_of lab e o) (Did o a r) (Did op applied answer) (own_events lab e events)
own_events_push lab e (Wrote side at bytes ∷ events) op applied answer is = own_events_push lab e events op applied answer is
own_events_push lab e (Synced side ∷ events) op applied answer is = own_events_push lab e events op applied answer is
own_events_push lab e (CutTo side size ∷ events) op applied answer is = own_events_push lab e events op applied answer is
own_events_push lab e (Missed side ∷ events) op applied answer is = own_events_push lab e events op applied answer is
own_events_push lab e (Restarted x y ∷ events) op applied answer is = own_events_push lab e events op applied answer is
own_events_push lab e (Unread device ∷ events) op applied answer is = own_events_push lab e events op applied answer is

after_did : (w : World) (op : DeviceOp) (applied : Bool) (answer : Result Answer Fault) → world_after w (Did op applied answer) ≡ did w op applied answer
after_did w op true answer = refl
after_did w op false answer = refl

-- a command of another leaves it alone
pub alone_others : (lab : Lab) (es : List Experiment) → IsLab lab → Holding lab es → (e f : Experiment) (start : ℕ) (trace : List Event) (op : DeviceOp) (applied : Bool) (answer : Result Answer Fault)
    → Has es e → Has es f → e ≢ f → IsCommandOf lab f op → start ≤ length trace → IsAlone lab e start trace → IsAlone lab e start (trace ++ Did op applied answer ∷ [])
alone_others lab es is_lab holding e f start trace op applied answer in_e in_f differ of_f within alone =
    let event = Did op applied answer in
    let before = take-append-le start trace (event ∷ []) within in
    let events = ap (λ l. own_events lab e l) (drop-append-le start trace (event ∷ []) within) ∙ own_events_other lab e (drop start trace) op applied answer (not_own lab es is_lab holding e f op in_e in_f differ of_f) in
    let same = others_same lab es is_lab holding (world_of trace) e f op applied answer in_e in_f differ of_f in
    subst (λ v. SameFor lab e v (world_of (trace ++ event ∷ []))) (sym (ap (λ t. fold world_after (world_of t) (own_events lab e (drop start (trace ++ event ∷ [])))) before ∙ ap (λ l. fold world_after (world_of (take start trace)) l) events))
    (subst (λ v. SameFor lab e (fold world_after (world_of (take start trace)) (own_events lab e (drop start trace))) v) (sym (did_push trace op applied answer))
    (same_trans lab e _ (world_of trace) (did (world_of trace) op applied answer) alone same))

-- its own is seen by both
pub alone_own : (lab : Lab) (e : Experiment) (start : ℕ) (trace : List Event) (op : DeviceOp) (applied : Bool) (answer : Result Answer Fault) → is_of lab e op ≡ true → start ≤ length trace → IsAlone lab e start trace → IsAlone lab e start (trace ++ Did op applied answer ∷ [])
alone_own lab e start trace op applied answer its within alone =
    let event = Did op applied answer in
    let w = world_of (take start trace) in
    let own_so_far = own_events lab e (drop start trace) in
    let before = take-append-le start trace (event ∷ []) within in
    let events = ap (λ l. own_events lab e l) (drop-append-le start trace (event ∷ []) within) ∙ own_events_push lab e (drop start trace) op applied answer its in
    let folded = fold-append world_after w own_so_far (event ∷ []) ∙ after_did (fold world_after w own_so_far) op applied answer in
    subst (λ v. SameFor lab e v (world_of (trace ++ event ∷ []))) (sym (ap (λ t. fold world_after (world_of t) (own_events lab e (drop start (trace ++ event ∷ [])))) before ∙ ap (λ l. fold world_after w l) events ∙ folded))
    (subst (λ v. SameFor lab e (did (fold world_after w own_so_far) op applied answer) v) (sym (did_push trace op applied answer))
    (same_did lab e (fold world_after w own_so_far) (world_of trace) op applied answer alone))
