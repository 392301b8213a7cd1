-- The steps of a command that its reply tells of: a start of the stopped plant, and a reading of a device that failed.
use Rattle.std.proofs.Common.{◌≡◌, ◌↔◌, ℕ, Bool, true, false, ◌||◌, List, [], ◌∷◌, ◌++◌, Option, Some, refl, sym, ap, ◌∙◌, subst, append_assoc, inl, inr, ⊎_elim}
use Rattle.std.proofs.lemmas.Bool.{or_parts}
use Rattle.std.proofs.lemmas.Option.{same_Some}
use Rattle.lab_base.specs.Lists.{Has}
use Rattle.lab_base.proofs.Members.{Has-append, Has-right, none_has}
use Rattle.plant.specs.Events.{Event, Restarted, Unread}
use Rattle.swap_turns.specs.Pieces.{EndsRestarted, has_outer, has_restart, is_outer, is_restart}
use Rattle.swap_turns.proofs.Quiet.{shows}
use Rattle.script_text.specs.declared.command.Command.{Command}
use Rattle.script_text.specs.declared.command.Command.TheVariants as commands
use Rattle.script_text.specs.declared.reply.Reply.{Reply}
use Rattle.script_text.specs.declared.reply.Reply.TheVariants as replies
use Rattle.lab_core.specs.Breaks.{Breaks, stopped, failed, unanswered}
use Rattle.lab_core.specs.Tells.{is_stopped}
use Rattle.lab_judge.proofs.Fits.{is_outer as is_outer_reply}

-- the reply tells of such a step
abbrev pub tells_step : Reply → Bool
tells_step replies.Stopped = true
tells_step (replies.Unread name) = true
tells_step reply = false

-- no judgement has one that does
pub no_step_of : (reply : Reply) → is_outer_reply reply ≡ false → tells_step reply ≡ false
no_step_of replies.Stopped inner = absurd (cc inner)
no_step_of (replies.Unread name) inner = absurd (cc inner)
no_step_of reply inner = refl

-- THE STEPS AND THE REPLY: no such step, and the reply tells of none; or a start at their end alone, and the reply is `stopped`
pub data Tells (steps : List Event) (reply : Reply) : Type 0 where
  still : has_outer steps ≡ false → tells_step reply ≡ false → Tells steps reply
  restarts : EndsRestarted steps → reply ≡ replies.Stopped → Tells steps reply

pub still_as : (steps : List Event) (told reply : Reply) → has_outer steps ≡ false → tells_step told ≡ false → Some told ≡ Some reply → Tells steps reply
still_as steps told reply quiet calm is = still quiet (ap tells_step (sym (same_Some told reply is)) ∙ calm)

-- a part that breaks off
pub broken_tells : (events : List Event) (told : Option Reply) (reply : Reply) → Breaks events told → told ≡ Some reply → Tells events reply
broken_tells events told reply (stopped ends is) told_is = restarts ends (sym (same_Some replies.Stopped reply (sym is ∙ told_is)))
broken_tells events told reply (failed quiet missed is) told_is = still_as events replies.Down reply quiet refl (sym is ∙ told_is)
broken_tells events told reply (unanswered is) told_is = absurd (cc (is, told_is))

pub tell_after : (front steps : List Event) (reply : Reply) → has_outer front ≡ false → Tells steps reply → Tells (front ++ steps) reply
tell_after front steps reply quiet (still none calm) = still (shows is_outer (front ++ steps) front steps false false refl quiet none) calm
tell_after front steps reply quiet (restarts ends is) = restarts
    (record {
      front = front ++ ends.front;
      a = ends.a;
      b = ends.b;
      is = ap (λ l. front ++ l) ends.is ∙ sym (append_assoc front ends.front (Restarted ends.a ends.b ∷ []));
      once = shows is_outer (front ++ ends.front) front ends.front false false refl quiet ends.once;
    }) is

pub still_steps : (steps : List Event) (reply : Reply) → Tells steps reply → tells_step reply ≡ false → has_outer steps ≡ false
still_steps steps reply (still none calm) quiet = none
still_steps steps reply (restarts ends is) quiet = let both : true ≡ false = ap tells_step (sym is) ∙ quiet in absurd (cc both)

-- OF A COMMAND, after its opening; an audit's one step may be a reading that failed
pub data CommandTells (command : Command) (opening own : List Event) (reply : Reply) : Type 0 where
  plain : Tells (opening ++ own) reply → CommandTells command opening own reply
  unread : (name : List ℕ) → command ≡ commands.Audit → has_outer opening ≡ false → own ≡ Unread name ∷ [] → reply ≡ replies.Unread name → CommandTells command opening own reply

-- no start among steps without one of either kind
inner_start : (event : Event) → is_outer event ≡ false → is_restart event ≡ false
inner_start (Restarted a b) is = is
inner_start event is = refl

pub no_start : (steps : List Event) → has_outer steps ≡ false → has_restart steps ≡ false
no_start [] none = refl
no_start (event ∷ steps) none =
    let parts = or_parts (is_outer event) (has_outer steps) none in
    (λ i. inner_start event parts.0 i || no_start steps parts.1 i)

module _ (command : Command) (opening own : List Event) (reply : Reply) where
  -- THE PLANT STOPPED exactly where `stopped` is told
  calm_stop : (told : Reply) → tells_step told ≡ false → is_stopped told ≡ false
  calm_stop replies.Stopped calm = absurd (cc calm)
  calm_stop told calm = refl

  pub tells_stop : CommandTells command opening own reply → has_restart (opening ++ own) ≡ is_stopped reply
  tells_stop (plain (still none calm)) = no_start (opening ++ own) none ∙ sym (calm_stop reply calm)
  tells_stop (plain (restarts ends is)) = shows is_restart (opening ++ own) ends.front (Restarted ends.a ends.b ∷ []) false true ends.is (no_start ends.front ends.once) refl ∙ ap is_stopped (sym is)
  tells_stop (unread name asks quiet one is) = shows is_restart (opening ++ own) opening own false false refl (no_start opening quiet) (ap has_restart one) ∙ ap is_stopped (sym is)

  -- A READING FAILED exactly where `unread` is told of it
  not_in : (steps : List Event) (name : List ℕ) {X : Type 0} → has_outer steps ≡ false → Has steps (Unread name) → X
  not_in steps name none has = let both : true ≡ false = none_has is_outer steps (Unread name) none has in absurd (cc both)

  not_last : (a b name : List ℕ) {X : Type 0} → Has (Restarted a b ∷ []) (Unread name) → X
  not_last a b name (inl is) = absurd (cc is)
  not_last a b name (inr has) = absurd has

  the_one : (other name : List ℕ) → Has (Unread other ∷ []) (Unread name) → other ≡ name
  the_one other name (inl is) = cc is
  the_one other name (inr has) = absurd has

  pub tells_unread : (name : List ℕ) → CommandTells command opening own reply → Has (opening ++ own) (Unread name) ↔ (reply ≡ replies.Unread name)
  tells_unread name (plain (still none calm)) = (λ has. not_in (opening ++ own) name none has, λ is. let both : true ≡ false = ap tells_step (sym is) ∙ calm in absurd (cc both))
  tells_unread name (plain (restarts ends halted)) = (
    λ has. ⊎_elim (λ h. not_in ends.front name ends.once h) (λ h. not_last ends.a ends.b name h) (Has-append ends.front (Restarted ends.a ends.b ∷ []) (Unread name) (subst (λ l. Has l (Unread name)) ends.is has)),
    λ is. let both : replies.Stopped ≡ replies.Unread name = sym halted ∙ is in absurd (cc both),
  )
  tells_unread name (unread other asks quiet one is) = (
    λ has. ⊎_elim (λ h. not_in opening name quiet h) (λ h. is ∙ ap (λ n. replies.Unread n) (the_one other name (subst (λ l. Has l (Unread name)) one h))) (Has-append opening own (Unread name) has),
    λ told. let same : replies.Unread other ≡ replies.Unread name = sym is ∙ told in
        let names : other ≡ name = cc same in
        Has-right opening own (Unread name) (subst (λ l. Has l (Unread name)) (sym one) (inl (ap (λ n. Unread n) names))),
  )

  -- and that only to an audit, as its one step
  pub tells_alone : (name : List ℕ) → CommandTells command opening own reply → reply ≡ replies.Unread name → (command ≡ commands.Audit) × (own ≡ Unread name ∷ [])
  tells_alone name (plain (still none calm)) told = let both : true ≡ false = ap tells_step (sym told) ∙ calm in absurd (cc both)
  tells_alone name (plain (restarts ends halted)) told = let both : replies.Stopped ≡ replies.Unread name = sym halted ∙ told in absurd (cc both)
  tells_alone name (unread other asks quiet one is) told =
      let same : replies.Unread other ≡ replies.Unread name = sym is ∙ told in
      let names : other ≡ name = cc same in
      (asks, one ∙ ap (λ n. Unread n ∷ []) names)
