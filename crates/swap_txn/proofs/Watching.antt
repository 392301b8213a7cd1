-- The state of a watched node, as a step of its course.
use Rattle.std.proofs.Common.{ℕ, ◌≡◌, ◌<◌, ◌+◌, Bool, true, false, cond, eqb, List, [], drop, Option, Some, None, Result, Ok, Err, OnOk, OnErr, refl, sym, ap, ◌∙◌, subst, arith}
use Rattle.std.proofs.lemmas.Bool.{eqb-false}
use Rattle.lab_base.specs.declared.boot.Boot.{Boot}
use Rattle.lab_base.specs.declared.boot.Boot.TheVariants.{Off, Shutdown, Booting, TbSetup, IsUp}
use Rattle.plant.specs.declared.device.Answer.TheVariants.{State}
use Rattle.node_state.specs.declared.watch.Seen.TheVariants as seen
use Rattle.node_state.specs.Watched as watched
use Rattle.lab_model.specs.Courses.{Plan, Left, Watch, Course, Going, Cut, Halted, answered, lawful}
use Rattle.lab_model.specs.Courses as courses
use Rattle.lab_base.specs.declared.what.What.{What}
use Rattle.swap_txn.specs.declared.stage.Stage.{Stage}
use Rattle.swap_txn.specs.declared.stage.Stage.TheVariants.{Boot as IsBoot}
use Rattle.swap_txn.specs.declared.watched.Watched.{Watched}
use Rattle.swap_txn.specs.States.{stage_of}
use Rattle.swap_txn.specs.Troubles.{GoesBy, LeadsBy, told_by, what_of}
use Rattle.swap_txn.specs.Views.{watch_of, left_of, IsAt, WatchBy, IsSeenBy}
use Rattle.swap_txn.proofs.Positions.{boot_left}

module _ (old new : Watched) (result : Result Bool What) (node : new.node ≡ old.node) (boot : List (List ℕ)) where
  abbrev before : Watch
  before = record { node = old.node; state = old.watch.last; polls = old.watch.polls }

  -- it isn't up
  waits : (state : Boot) (b : Bool) → result ≡ told_by old.node (cond b seen.TooLong seen.Wait) → OnOk result (new.watch.last ≡ state) → OnOk result (new.watch.polls ≡ old.watch.polls + 1)
      → WatchBy boot (cond b (Cut (courses.Late old.node)) (Going (record { todo = []; boot = boot; watch = Some (record { node = old.node; state = state; polls = old.watch.polls + 1 }) }))) result new
  waits state true is last polls = is
  waits state false is last polls =
      let at : new.watch.last ≡ state = subst (λ r. OnOk r (new.watch.last ≡ state)) is last in
      let count : new.watch.polls ≡ old.watch.polls + 1 = subst (λ r. OnOk r (new.watch.polls ≡ old.watch.polls + 1)) is polls in
      subst (λ r. WatchBy boot (Going (record { todo = []; boot = boot; watch = Some (record { node = old.node; state = state; polls = old.watch.polls + 1 }) })) r new) (sym is)
      (λ i. record { todo = []; boot = boot; watch = Some (record { node = sym node i; state = sym at i; polls = sym count i }) })

  lawful_leads : (state : Boot) → result ≡ told_by old.node (watched.judged old.watch.polls state) → OnOk result (new.watch.last ≡ state) → OnOk result (new.watch.polls ≡ old.watch.polls + 1)
      → WatchBy boot (courses.judged before state boot) result new
  lawful_leads Off is last polls = waits Off _ is last polls
  lawful_leads Shutdown is last polls = waits Shutdown _ is last polls
  lawful_leads Booting is last polls = waits Booting _ is last polls
  lawful_leads TbSetup is last polls = waits TbSetup _ is last polls
  lawful_leads IsUp is last polls = subst (λ r. WatchBy boot (Going (record { todo = []; boot = boot; watch = None })) r new) (sym is) refl

  seen_leads : (state : Boot) (b : Bool) → result ≡ told_by old.node (cond b (watched.judged old.watch.polls state) (seen.Unlawful old.watch.last state)) → OnOk result (new.watch.last ≡ state)
      → OnOk result (new.watch.polls ≡ old.watch.polls + 1)
      → WatchBy boot (cond b (courses.judged before state boot) (Cut (courses.Unlawful old.node old.watch.last state))) result new
  seen_leads state true is last polls = lawful_leads state is last polls
  seen_leads state false is last polls = is

  -- WHAT A WATCH SAYS is what the course does
  pub watch_leads : (state : Boot) → result ≡ told_by old.node (watched.seen old.watch state) → OnOk result (new.watch.last ≡ state) → OnOk result (new.watch.polls ≡ old.watch.polls + 1)
      → WatchBy boot (answered [] (watch_of (Some old)) boot (Ok (State state))) result new
  watch_leads state is last polls = seen_leads state (lawful old.watch.last state) is last polls

-- a node that is polled again was polled less than 64 times
module _ (old : Watched) (few : old.watch.polls < 64) where
  again_few : (b : Bool) (value : Bool) → eqb (old.watch.polls + 1) 64 ≡ b → Ok value ≡ told_by old.node (cond b seen.TooLong seen.Wait) → old.watch.polls + 1 < 64
  again_few true value is comes = absurd (cc comes)
  again_few false value is comes = let other = eqb-false (old.watch.polls + 1) 64 is in omega (arith, few, other)

  pub still_few : (state : Boot) (b : Bool) → Ok false ≡ told_by old.node (cond b (watched.judged old.watch.polls state) (seen.Unlawful old.watch.last state)) → old.watch.polls + 1 < 64
  still_few Off true is = again_few _ false refl is
  still_few Shutdown true is = again_few _ false refl is
  still_few Booting true is = again_few _ false refl is
  still_few TbSetup true is = again_few _ false refl is
  still_few IsUp true is = absurd (cc is)
  still_few state false is = absurd (cc is)

-- WHAT A STATE LEADS TO
pub watch_polled : (old new : Watched) (state : Boot) (result : Result Bool What) → old.watch.polls < 64 → result ≡ told_by old.node (watched.seen old.watch state) → new.node ≡ old.node
    → OnOk result (new.watch.last ≡ state) → OnOk result (new.watch.polls ≡ old.watch.polls + 1) → OnErr result (new.watch.polls ≡ 0) → IsSeenBy old state result new
watch_polled old new state result few is node last polls anew = record {
  node = node;
  polls = by result is polls anew;
  leads = λ boot. watch_leads old new result node boot state is last polls;
}
  where
    by : (r : Result Bool What) → r ≡ told_by old.node (watched.seen old.watch state) → OnOk r (new.watch.polls ≡ old.watch.polls + 1) → OnErr r (new.watch.polls ≡ 0)
        → (r ≡ Ok true → ⊥) → new.watch.polls < 64
    by (Ok true) is polls anew other = absurd (other refl)
    by (Ok false) is polls anew other = let less = still_few old few state (lawful old.watch.last state) is in omega (arith, polls, less)
    by (Err what) is polls anew other = omega (arith, anew)

-- where a state leads a course
module _ (new old : Watched) (boot : List (List ℕ)) (state : Boot) where
  abbrev course : Course
  course = answered [] (watch_of (Some old)) boot (Ok (State state))

  abbrev before_it : Left
  before_it = record { todo = []; boot = boot; watch = watch_of (Some old) }

  pub seen_up : WatchBy boot course (Ok true) new → GoesBy before_it (State state) (Ok tt) (record { todo = []; boot = boot; watch = None })
  seen_up leads = by course leads
    where
      by : (c : Course) → WatchBy boot c (Ok true) new → LeadsBy before_it c (Ok tt) (record { todo = []; boot = boot; watch = None })
      by (Going l) h = (refl, sym h)
      by (Cut t) h = absurd (cc h)
      by Halted h = absurd h

  pub seen_again : WatchBy boot course (Ok false) new → GoesBy before_it (State state) (Ok tt) (record { todo = []; boot = boot; watch = watch_of (Some new) })
  seen_again leads = by course leads
    where
      by : (c : Course) → WatchBy boot c (Ok false) new → LeadsBy before_it c (Ok tt) (record { todo = []; boot = boot; watch = watch_of (Some new) })
      by (Going l) h = (refl, sym h)
      by (Cut t) h = absurd (cc h)
      by Halted h = absurd h

  pub seen_err : (what : What) → WatchBy boot course (Err what) new → GoesBy before_it (State state) (Err what) (record { todo = []; boot = boot; watch = watch_of (Some new) })
  seen_err what leads = by course leads
    where
      by : (c : Course) → WatchBy boot c (Err what) new → LeadsBy before_it c (Err what) (record { todo = []; boot = boot; watch = watch_of (Some new) })
      by (Going l) h = absurd h
      by (Cut t) h = let e : what ≡ what_of t = cc h in (ap (λ x. Err x) e, (watch_of (Some new), refl))
      by Halted h = absurd h

-- a poll in a course that is sent
module _ (plan : Plan) (stage : Stage) (at : ℕ) (watched : Option Watched) (old : Left) (w new : Watched) (state : Boot) (position : IsAt plan stage at watched)
    (is : left_of plan stage at watched ≡ old) (boots : stage_of plan old ≡ IsBoot) (some : watched ≡ Some w) where
  boot_stage : stage ≡ IsBoot
  boot_stage = (boot_left plan stage at watched old position is boots).0

  left_is : old ≡ record { todo = []; boot = drop at plan.boot; watch = watch_of (Some w) }
  left_is = (boot_left plan stage at watched old position is boots).1 ∙ ap (λ o. record { todo = []; boot = drop at plan.boot; watch = watch_of o }) some

  new_is : left_of plan stage at (Some new) ≡ record { todo = []; boot = drop at plan.boot; watch = watch_of (Some new) }
  new_is = ap (λ s. left_of plan s at (Some new)) boot_stage

  goes : (result : Result (Unit {0}) What) (next end : Left) → next ≡ end → GoesBy (record { todo = []; boot = drop at plan.boot; watch = watch_of (Some w) }) (State state) result end → GoesBy old (State state) result next
  goes result next end same by = subst (λ l. GoesBy l (State state) result next) (sym left_is) (subst (λ l. GoesBy (record { todo = []; boot = drop at plan.boot; watch = watch_of (Some w) }) (State state) result l) (sym same) by)

  pub send_up : IsSeenBy w state (Ok true) new → (next : Left) → next ≡ record { todo = []; boot = drop at plan.boot; watch = None } → GoesBy old (State state) (Ok tt) next
  send_up by next same = goes (Ok tt) next _ same (seen_up new w (drop at plan.boot) state (by.leads (drop at plan.boot)))

  pub send_again : IsSeenBy w state (Ok false) new → GoesBy old (State state) (Ok tt) (left_of plan stage at (Some new))
  send_again by = goes (Ok tt) _ _ new_is (seen_again new w (drop at plan.boot) state (by.leads (drop at plan.boot)))

  pub send_err : (what : What) → IsSeenBy w state (Err what) new → GoesBy old (State state) (Err what) (left_of plan stage at (Some new))
  send_err what by = goes (Err what) _ _ new_is (seen_err new w (drop at plan.boot) state what (by.leads (drop at plan.boot)))
