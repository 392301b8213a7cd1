-- An experiment's own commands among steps, one after another and in a course.
use Rattle.std.proofs.Common.{◌≡◌, ℕ, Bool, true, false, cond, List, [], ◌∷◌, ◌++◌, Some, refl, ◌∙◌, ap, inl, inr}
use Rattle.lab_base.proofs.Lists.{cond_append}
use Rattle.plant.specs.Events.{Event, Wrote, Synced, Cut as CutTo, Missed, Did, Restarted, Unread}
use Rattle.plant.specs.declared.device.DeviceOp.{DeviceOp}
use Rattle.plant.specs.declared.device.DeviceOp.TheVariants as ops
use Rattle.phys_lab.specs.Labs.{Lab}
use Rattle.virt_topo.specs.declared.experiment.Experiment.{Experiment}
use Rattle.lab_model.specs.Courses.{op_node}
use Rattle.lab_model.specs.OnCourse.{is_of, own_events}
use Rattle.lab_model.proofs.Alone.{is_own}
use Rattle.swap_turns.proofs.Only.{Only}
use Rattle.complete.proofs.CutShows.{own_by, own_if}
use Rattle.swap_turns.proofs.Elsewhere.{AreOwn}

module _ (lab : Lab) (e : Experiment) where
  pub alike : (op : DeviceOp) (node : List ℕ) → op_node op ≡ Some node → is_of lab e op ≡ is_of lab e (ops.Boot node)
  alike (ops.Join switch port vlan) node is = absurd (cc is)
  alike (ops.Leave switch port vlan) node is = absurd (cc is)
  alike (ops.Shape name number from to there back) node is = let same : name ≡ node = cc is in ap (λ n. is_of lab e (ops.Boot n)) same
  alike (ops.Load name os) node is = let same : name ≡ node = cc is in ap (λ n. is_of lab e (ops.Boot n)) same
  alike (ops.Boot name) node is = let same : name ≡ node = cc is in ap (λ n. is_of lab e (ops.Boot n)) same
  alike (ops.Poll name) node is = let same : name ≡ node = cc is in ap (λ n. is_of lab e (ops.Boot n)) same
  alike (ops.Wipe name) node is = let same : name ≡ node = cc is in ap (λ n. is_of lab e (ops.Boot n)) same

  if_is : (b : Bool) (event : Event) (events more : List Event) → events ≡ more → own_if (is_of lab e) alike b event events ≡ cond b (event ∷ more) more
  if_is true event events more is = ap (λ l. event ∷ l) is
  if_is false event events more is = is

  pub own_is : (events : List Event) → own_by (is_of lab e) alike events ≡ own_events lab e events
  own_is [] = refl
  own_is (Did op applied answer ∷ events) = if_is (is_of lab e op) (Did op applied answer) _ _ (own_is events)
  own_is (Wrote side at bytes ∷ events) = own_is events
  own_is (Synced side ∷ events) = own_is events
  own_is (CutTo side size ∷ events) = own_is events
  own_is (Missed side ∷ events) = own_is events
  own_is (Unread device ∷ events) = own_is events
  own_is (Restarted a b ∷ events) = own_is events

  pub own_both : (events more : List Event) → own_events lab e (events ++ more) ≡ own_events lab e events ++ own_events lab e more
  own_both [] more = refl
  own_both (Did op applied answer ∷ events) more =
      ap (λ l. cond (is_of lab e op) (Did op applied answer ∷ l) l) (own_both events more) ∙ cond_append (is_of lab e op) (Did op applied answer) (own_events lab e events) (own_events lab e more)
  own_both (Wrote side at bytes ∷ events) more = own_both events more
  own_both (Synced side ∷ events) more = own_both events more
  own_both (CutTo side size ∷ events) more = own_both events more
  own_both (Missed side ∷ events) more = own_both events more
  own_both (Unread device ∷ events) more = own_both events more
  own_both (Restarted a b ∷ events) more = own_both events more

  if_own : (b : Bool) (x : Event) (l m : List Event) → b ≡ true → l ≡ m → cond b (x ∷ l) l ≡ x ∷ m
  if_own true x l m own is = ap (λ k. x ∷ k) is
  if_own false x l m own is = absurd (cc own)

  pub all_its : (steps : List Event) → Only steps → AreOwn lab e steps → own_events lab e steps ≡ steps
  all_its [] only own = refl
  all_its (Did op applied answer ∷ steps) only own = if_own (is_of lab e op) _ _ _ (is_own lab e op (own op applied answer (inl refl))) (all_its steps only (λ o x y has. own o x y (inr has)))
  all_its (Wrote side at bytes ∷ steps) only own = absurd only
  all_its (Synced side ∷ steps) only own = absurd only
  all_its (CutTo side size ∷ steps) only own = absurd only
  all_its (Missed side ∷ steps) only own = absurd only
  all_its (Unread device ∷ steps) only own = absurd only
  all_its (Restarted a b ∷ steps) only own = absurd only

pub only_last : (xs ys : List Event) → Only (xs ++ ys) → Only ys
only_last [] ys p = p
only_last (Did op applied answer ∷ xs) ys p = only_last xs ys p
only_last (Wrote side at bytes ∷ xs) ys p = absurd p
only_last (Synced side ∷ xs) ys p = absurd p
only_last (CutTo side size ∷ xs) ys p = absurd p
only_last (Missed side ∷ xs) ys p = absurd p
only_last (Unread device ∷ xs) ys p = absurd p
only_last (Restarted a b ∷ xs) ys p = absurd p
