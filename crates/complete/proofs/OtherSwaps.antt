-- A lab step that is about other experiments sends no command of one with an open swap, and leaves it.
use Rattle.std.proofs.Common.{◌≡◌, ◌≢◌, inl, inr, ℕ, Bool, true, false, cond, is_some, List, [], ◌∷◌, ◌++◌, Option, Some, refl, sym, ◌∙◌, ap, subst}
use Rattle.lab_base.specs.Lists.{Has}
use Rattle.phys_lab.specs.Labs.{Lab}
use Rattle.plant.specs.Events.{Event, Wrote, Synced, Cut as CutTo, Missed, Did, Restarted, Unread}
use Rattle.virt_topo.specs.declared.experiment.Experiment.{Experiment}
use Rattle.virt_topo.specs.declared.experiment.Phase.TheVariants.{Moving}
use Rattle.journal_rec.specs.declared.record.Record.{Record}
use Rattle.journal_rec.specs.declared.record.Record.TheVariants as records
use Rattle.journal_rec.specs.declared.record.Way.{Way}
use Rattle.journal_rec.specs.declared.record.Way.TheVariants as ways
use Rattle.journal_model.specs.Appends.{All}
use Rattle.swap_turns.specs.Pieces.{has_command}
use Rattle.swap_turns.proofs.Endings.{append_quiet}
use Rattle.lab_model.specs.OnCourse.{is_of, own_events}
use Rattle.lab_model.proofs.OwnEvents.{not_own}
use Rattle.records_model.specs.Labs.{LabState, Move, Sane, Says, find, lab_in, moved}
use Rattle.records_model.proofs.Finding.{found_from}
use Rattle.records_model.proofs.LabLaws.{follows_sane}
use Rattle.records_model.proofs.Swaps.{found_in}
use Rattle.lab_state.specs.Texts.{the_texts}
use Rattle.swap_turns.specs.Beginning.{opened}
use Rattle.swap_turns.specs.Finishing.{Finishes}
use Rattle.swap_turns.specs.Records.{IsWhole}
use Rattle.swap_turns.specs.Running.{OpenSwap as RunningSwap}
use Rattle.swap_turns.specs.Swaps.{Swap as SwapOf, Moves}
use Rattle.swap_turns.specs.Turning.{Outcome, TurnSteps}
use Rattle.swap_turns.specs.Whole.{Begun}
use Rattle.complete.proofs.OwnCommands.{own_both}
use Rattle.swap_turns.proofs.Elsewhere.{AreOwn, finish_own, own_behind, turn_own}
use Rattle.lab_core.proofs.Others.{IsApart, move_stays}

when_not : {A : Type 0} (b : Bool) (x y : A) → b ≡ false → cond b x y ≡ y
when_not true x y is = absurd (cc is)
when_not false x y is = refl

-- steps without a device command
pub calm_quiet : (lab : Lab) (e : Experiment) (steps : List Event) → has_command steps ≡ false → own_events lab e steps ≡ []
calm_quiet lab e [] calm = refl
calm_quiet lab e (Did op applied answer ∷ steps) calm = absurd (cc calm)
calm_quiet lab e (Wrote side at bytes ∷ steps) calm = calm_quiet lab e steps calm
calm_quiet lab e (Synced side ∷ steps) calm = calm_quiet lab e steps calm
calm_quiet lab e (CutTo side size ∷ steps) calm = calm_quiet lab e steps calm
calm_quiet lab e (Missed side ∷ steps) calm = calm_quiet lab e steps calm
calm_quiet lab e (Unread device ∷ steps) calm = calm_quiet lab e steps calm
calm_quiet lab e (Restarted a b ∷ steps) calm = calm_quiet lab e steps calm

-- those of another experiment
module _ (name : List ℕ) (u : LabState) (sane : Sane u) (e : Experiment) (found : find name u.experiments ≡ Some e) where
  silent : (f : Experiment) → Has u.experiments f → e ≢ f → (steps : List Event) → AreOwn (lab_in u.lab) f steps → own_events (lab_in u.lab) e steps ≡ []
  silent f in_f differ [] own = refl
  silent f in_f differ (Did op applied answer ∷ steps) own =
      when_not (is_of (lab_in u.lab) e op) _ _ (not_own (lab_in u.lab) u.experiments sane.is_lab sane.holding e f op (found_in name u.experiments e found) in_f differ (own op applied answer (inl refl)))
      ∙ silent f in_f differ steps (λ o x y has. own o x y (inr has))
  silent f in_f differ (Wrote side at bytes ∷ steps) own = silent f in_f differ steps (λ o x y has. own o x y (inr has))
  silent f in_f differ (Synced side ∷ steps) own = silent f in_f differ steps (λ o x y has. own o x y (inr has))
  silent f in_f differ (CutTo side size ∷ steps) own = silent f in_f differ steps (λ o x y has. own o x y (inr has))
  silent f in_f differ (Missed side ∷ steps) own = silent f in_f differ steps (λ o x y has. own o x y (inr has))
  silent f in_f differ (Unread device ∷ steps) own = silent f in_f differ steps (λ o x y has. own o x y (inr has))
  silent f in_f differ (Restarted a b ∷ steps) own = silent f in_f differ steps (λ o x y has. own o x y (inr has))

  of_other : (own : List ℕ) (f : Experiment) → find own u.experiments ≡ Some f → own ≢ name → (steps : List Event) → AreOwn (lab_in u.lab) f steps → own_events (lab_in u.lab) e steps ≡ []
  of_other own f is other steps its =
      silent f (found_in own u.experiments f is)
      (λ same. other (sym (found_from own u.experiments f is).name_is ∙ ap (λ (x : Experiment). x.name) (sym same) ∙ (found_from name u.experiments e found).name_is)) steps its

  pub turn_quiet : (o : RunningSwap) (steps : List Event) (outcome : Outcome) (after : LabState) → Moves o.swap u → o.swap.name ≢ name → TurnSteps u o steps outcome after → own_events (lab_in u.lab) e steps ≡ []
  turn_quiet o steps outcome after m other turn =
      of_other o.swap.name m.exp m.found other steps (own_behind (lab_in u.lab) m.exp o.course steps (turn_own u m.exp o m.moving steps outcome after turn))

  pub finish_quiet : (o : RunningSwap) (steps : List Event) (outcome : Outcome) (after : LabState) → (f : Experiment) → find o.swap.name u.experiments ≡ Some f → f.phase ≡ Moving o.swap.old o.swap.new → o.swap.name ≢ name → Finishes u o steps outcome after → own_events (lab_in u.lab) e steps ≡ []
  finish_quiet o steps outcome after f is moving other finishes =
      of_other o.swap.name f is other steps (own_behind (lab_in u.lab) f o.course steps (finish_own u f o steps outcome after moving finishes))

-- A BEGIN of another experiment
pub begins_apart : (name : List ℕ) (s : LabState) (exp : List ℕ) (way : Way) (move : Move) → Says the_texts s (records.Begin exp way) move → exp ≢ name → IsApart name move
begins_apart name s exp (ways.In text tags) move says other = subst (IsApart name) (sym says.9) other
begins_apart name s exp ways.Out move says other = subst (IsApart name) (sym says) other
begins_apart name s exp (ways.Change top text tags) move says other = subst (IsApart name) (sym says.8) other
begins_apart name s exp (ways.Change2 top text tags) move says other = subst (IsApart name) (sym says.8) other

whole_calm : (s : LabState) (r : Record) (move : Move) (steps : List Event) (after : LabState) → IsWhole s r move steps after → has_command steps ≡ false
whole_calm s r move steps after is = ap has_command is.steps_are ∙ (append_quiet is.side is.gate r All).0

-- A WHOLE SWAP of another experiment
module _ (name : List ℕ) (s : LabState) (sane : Sane s) (set : is_some s.lab ≡ true) (e : Experiment) (found : find name s.experiments ≡ Some e) where
  pub begun_quiet : (p : SwapOf) (exp : List ℕ) (way : Way) (move : Move) (steps : List Event) (after : LabState) (outcome : Outcome) → p.name ≡ exp → exp ≢ name → Says the_texts s (records.Begin exp way) move
      → ((state : LabState) → moved s move ≡ Some state → Moves p state) → Begun p s (records.Begin exp way) move steps after outcome → own_events (lab_in s.lab) e steps ≡ []
  begun_quiet p exp way move steps after outcome named other says moves b =
      let first = move_stays name s b.state move set (begins_apart name s exp way move says other) b.begins.moves in
      let there = first.same ∙ found in
      let sane_there = follows_sane the_texts s (records.Begin exp way) b.state sane (record { move = move; says = says; gives = b.begins.moves }) in
      let m = moves b.state b.begins.moves in
      let behind = finish_quiet name b.state sane_there e there (opened p) b.behind outcome after m.exp m.found m.moving (λ same. other (sym named ∙ same)) b.finishes in
      ap (λ l. own_events (lab_in s.lab) e l) b.steps_are
      ∙ own_both (lab_in s.lab) e b.front b.behind
      ∙ (λ i. calm_quiet (lab_in s.lab) e b.front (whole_calm s (records.Begin exp way) move b.front b.state b.begins) i ++ own_events (lab_in s.lab) e b.behind)
      ∙ subst (λ (l : Option Lab). own_events (lab_in l) e b.behind ≡ []) first.lab behind
