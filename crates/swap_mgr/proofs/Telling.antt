-- How a turn that left a swap so is told.
use Rattle.std.proofs.Common.{◌≡◌, List, [], ◌∷◌, map, Option, Some, None, refl, sym, ap, ◌∙◌, subst}
use Rattle.lab_base.specs.Lists.{listed}
use Rattle.plant.specs.Events.{Event}
use Rattle.swap_txn.specs.declared.live.Live.{Live}
use Rattle.swap_txn.specs.declared.live.Live.TheVariants as live
use Rattle.swap_txn.specs.declared.turned.Turned.{Turned}
use Rattle.swap_txn.specs.declared.turned.Turned.TheVariants as turned
use Rattle.lab_base.specs.declared.what.What.{What}
use Rattle.lab_base.specs.declared.what.What.TheVariants as whats
use Rattle.swap_turns.specs.Running.{OpenSwap}
use Rattle.swap_turns.specs.Turning.{Outcome, More, Ended, Stuck, Unwritten, Stopped, IsTold, IsStuckAs, open_after, state_after, slot}
use Rattle.swap_turns.specs.declared.turn.TurnedSwap.{TurnedSwap}
use Rattle.swap_turns.specs.declared.turn.TurnedSwap.TheVariants as swap
use Rattle.swap_turns.specs.OneTurn.{IsReached, IsLeftBy, open_in}
use Rattle.swap_turns.specs.Telling.{IsProgress, progress_of}

-- what stands in its place again
abbrev pub IsNext : List (OpenSwap × Live) → Option OpenSwap → Option Live → Type 0
IsNext next (Some o) (Some x) = next ≡ (o, x) ∷ []
IsNext next None None = next ≡ []
IsNext next o x = ⊥

pub record IsRetold (o : OpenSwap) (steps : List Event) (outcome : Outcome) (after : Option Live) (result : TurnedSwap) : Type 0 where
  pub is_told : IsProgress o (progress_of result) outcome
  pub next : IsNext (slot (open_after o steps outcome) after) (open_after o steps outcome) (open_in result)

pub next_of : (next : List (OpenSwap × Live)) (o : Option OpenSwap) (x : Option Live) → IsNext next o x → map (λ q. q.0) next ≡ listed o
next_of next (Some o) (Some x) is = ap (λ l. map (λ q. q.0) l) is
next_of next (Some o) None is = absurd is
next_of next None (Some x) is = absurd is
next_of next None None is = ap (λ l. map (λ q. q.0) l) is

module _ (o : OpenSwap) (steps : List Event) (outcome : Outcome) (result : TurnedSwap) where
  to : (after : Option Live) (x : TurnedSwap) → result ≡ x → IsRetold o steps outcome after x → IsRetold o steps outcome after result
  to after x is h = subst (λ y. IsRetold o steps outcome after y) (sym is) h

  on : (state : Live) → result ≡ swap.Open state None → outcome ≡ More → IsRetold o steps outcome (Some state) result
  on state is more = to (Some state) (swap.Open state None) is (record {
    is_told = more;
    next = subst (λ w. IsNext (slot (open_after o steps w) (Some state)) (open_after o steps w) (Some state)) (sym more) refl;
  })

  gone : (after : Option Live) (x : TurnedSwap) → result ≡ x → open_in x ≡ None → open_after o steps outcome ≡ None → IsProgress o (progress_of x) outcome → IsRetold o steps outcome after result
  gone after x is closed is_out told = to after x is (record {
    is_told = told;
    next = subst (λ w. IsNext (slot (open_after o steps outcome) after) (open_after o steps outcome) w) (sym closed) (subst (λ w. IsNext (slot w after) w None) (sym is_out) (none after));
  })
    where
      none : (after : Option Live) → slot None after ≡ []
      none None = refl
      none (Some x) = refl

  out_by : (w : Outcome) → outcome ≡ w → open_after o steps w ≡ None → open_after o steps outcome ≡ None
  out_by w is out = ap (λ v. open_after o steps v) is ∙ out

  retold_next : (next : Live) → IsTold o (turned.Next next) outcome → IsReached next result → IsRetold o steps outcome (Some next) result
  retold_next (live.Begun f) told is = on (live.Begun f) is told
  retold_next (live.Clearing f) told is = on (live.Clearing f) is told
  retold_next (live.Cabling f) told is = on (live.Cabling f) is told
  retold_next (live.Loading f) told is = on (live.Loading f) is told
  retold_next (live.Booting f) told is = on (live.Booting f) is told
  retold_next (live.Ready f) told is = on (live.Ready f) is told
  retold_next (live.Undoing b) told is = on (live.Undoing b) is told
  retold_next (live.Undone b) told is = on (live.Undone b) is told
  retold_next (live.Ended e) told is = gone (Some (live.Ended e)) (swap.Over e) is refl (out_by (Ended o.leg) told.outcome_is refl) told

  stuck_out : (what : What) → IsStuckAs what outcome → open_after o steps outcome ≡ None
  stuck_out (whats.Device name) by = out_by (Stuck by.0) by.2 refl
  stuck_out (whats.Late node) by = out_by (Stuck by.0) by.2 refl
  stuck_out (whats.Unlawful node from to) by = out_by (Stuck by.0) by.2 refl
  stuck_out whats.Journal by = out_by Unwritten by refl

  -- THE ANSWER is told by the outcome, and what stands again is the state after it
  pub retold : (x : Turned Live) → IsTold o x outcome → IsLeftBy x result → IsRetold o steps outcome (state_after x) result
  retold (turned.Same state) told is = on state is told
  retold (turned.Next state) told is = retold_next state told is
  retold (turned.Trouble b what) told is = to (Some (live.Undoing b)) (swap.Open (live.Undoing b) (Some what)) is (record {
    is_told = told;
    next = subst (λ w. IsNext (slot (open_after o steps w) (Some (live.Undoing b))) (open_after o steps w) (Some (live.Undoing b))) (sym told.2) refl;
  })
  retold (turned.Stuck state what) told is = gone None (swap.Stuck what) is refl (stuck_out what told) told
  retold turned.Stopped told is = gone None swap.Stopped is refl (out_by Stopped told refl) told
