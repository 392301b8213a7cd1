-- Turning ends: an open swap is turned, while it is open, at most as often as its leg and its undo have commands; and after a `finish` it is not open.
use Rattle.std.specs.Str.{bytes_eq}
use Rattle.std.proofs.Common.{◌≡◌, ◌⊎◌, inl, inr, ℕ, ◌+◌, ◌≤◌, ◌^◌, Bool, true, false, is_some, List, [], ◌∷◌, ◌++◌, Option, Some, None, Result, Ok, Err, refl, sym, ◌∙◌, ap, subst, arith, if◌then◌else◌}
use Rattle.std.proofs.lemmas.Bool.{false_from_ne_true}
use Rattle.std.proofs.lemmas.List.{append-nil}
use Rattle.std.proofs.lemmas.Option.{same_Some}
use Rattle.std.proofs.lemmas.Slice.Eq.{bytes_eq-Decides}
use Rattle.lab_base.specs.Lists.{AllDiffer, Has}
use Rattle.lab_base.proofs.Members.{Has-mapped}
use Rattle.lab_base.specs.declared.what.What.{What}
use Rattle.phys_lab.specs.Labs.{Lab}
use Rattle.plant.specs.Events.{Event}
use Rattle.plant.specs.declared.drill.Drill.{Drill}
use Rattle.records_model.specs.Labs.{LabState, find, lab_in}
use Rattle.recovery.specs.Due.{is_busy}
use Rattle.script_text.specs.Drills.{drill_of}
use Rattle.script_text.specs.declared.command.Command.{Command}
use Rattle.script_text.specs.declared.command.Command.TheVariants.{Finish as FinishOf, Turn as TurnOf}
use Rattle.script_text.specs.declared.reply.Reply.{Reply}
use Rattle.script_text.specs.declared.reply.Reply.TheVariants.{Trouble as TroubleReply}
use Rattle.swap_txn.specs.Troubles.{what_of}
use Rattle.swap_turns.specs.Legs.{Undo}
use Rattle.swap_turns.specs.Running.{OpenSwap as RunningSwap}
use Rattle.swap_turns.specs.Swaps.{Moves}
use Rattle.swap_turns.specs.Turning.{Outcome, More, TurnsBack, Ended, Stuck, Unwritten, Stopped as Halted, TurnSteps}
use Rattle.lab_tasks.specs.Tasks.{Task, Finish, Turn}
use Rattle.lab_judge.specs.Judge.{judged_finish, judged_turn}
use Rattle.lab_tasks.specs.OpenNames.{is_among}
use Rattle.lab_core.specs.Commands.{LabStep}
use Rattle.lab_core.specs.LabSteps.{Does, IsDoneBy, IsOneOf, JudgedBeside, Turns, does, no_memory, not_opened, opened, turned_on}
use Rattle.lab_core.specs.Moments.{IsLabAt}
use Rattle.lab_core.specs.Sessions.{After, Closed, Open, OpenSwap, Session, Setting, Terms, name_in, names_of, open_at}
use Rattle.lab_core.specs.Tells.{busy_of, opens_of}
use Rattle.lab_core.proofs.OpenLaws.{does_next, names_split}
use Rattle.lab_core.proofs.SameSwaps.{at_itself, at_none, has_at}
use Rattle.lab_top.specs.Pieces.{AreHandedOn, AreOn, ArePieces, Begun, ButForReply, Finds, IsPiece, Leads, is_closed, steps_of}
use Rattle.complete.specs.Bounds.{commands_in, most_from}
use Rattle.complete.specs.Ends.{turn_if, turns_of}
use Rattle.complete.proofs.Continued.{Continues, along, begun_now, is_named, not_named, told_open, undone}
use Rattle.complete.proofs.RunCourses.{GoingAt, StandOnce, all_continue, at_open, piece_goes, replied, sane_set, still_differ}
use Rattle.complete.proofs.Sending.{back_few, commands_both}

-- THE OPEN SWAP of a name is the only one of that name
pub only_one : (exp : List ℕ) (opens : List OpenSwap) → AllDiffer (names_of opens) → (o p : OpenSwap) → open_at exp opens ≡ Some o → Has opens p → name_in p ≡ exp → p ≡ o
only_one exp [] differ o p is has named = absurd has
only_one exp (x ∷ opens) differ o p is (inl same) named =
    let there = (bytes_eq-Decides (name_in x) exp).1 (ap name_in same ∙ named) in
    sym same ∙ same_Some x o (subst (λ b. (if b then Some x else open_at exp opens) ≡ Some o) there is)
only_one exp (x ∷ opens) differ o p is (inr has) named =
    let other = false_from_ne_true (bytes_eq (name_in x) exp) (λ h. differ.0 (name_in p) (Has-mapped name_in opens p has) ((bytes_eq-Decides (name_in x) exp).0 h ∙ sym named)) in
    only_one exp opens differ.1 o p (subst (λ b. (if b then Some x else open_at exp opens) ≡ Some o) other is) has named

-- WEIGHED, after so many turns: what was sent of it has grown by as much at least as what its leg and its undo have is less
abbrev Weighs : ℕ → LabState → RunningSwap → LabState → RunningSwap → Type 0
Weighs n s o u q = n + (commands_in o.course + most_from (lab_in u.lab) q.swap q.leg) ≤ commands_in q.course + most_from (lab_in s.lab) o.swap o.leg

-- THE SAME SWAP on the same leg, or the reply tells that trouble begins its undo
pub record KeepsLeg (exp : List ℕ) (o : RunningSwap) (reply : Option Reply) (q : RunningSwap) : Type 0 where
  pub same : q.swap ≡ o.swap
  pub leg : (q.leg ≡ o.leg) ⊎ ((what : What) × (reply ≡ Some (TroubleReply exp what)))

-- of a command that leaves it open
module _ (exp : List ℕ) (s u : LabState) (opens : List OpenSwap) (differ : AllDiffer (names_of opens)) (o : OpenSwap) (was_at : open_at exp opens ≡ Some o) (own : List Event) (reply : Option Reply) (q : OpenSwap) (named : name_in q ≡ exp) where
  one_of : (p : OpenSwap) → Has opens p → q.running.swap.name ≡ name_in p → p ≡ o
  one_of p has is = only_one exp opens differ o p was_at has (sym is ∙ named)

  continues_weighs : Continues s u opens own reply q.running → Weighs 0 s o.running u q.running
  continues_weighs (along p has more is stays its within) =
      let base : Weighs 0 s p.running s (record p.running { course = p.running.course ++ more }) = omega (arith, commands_both p.running.course more) in
      let here = subst (λ (l : Option Lab). 0 + (commands_in p.running.course + most_from (lab_in l) p.running.swap p.running.leg) ≤ commands_in (p.running.course ++ more) + most_from (lab_in s.lab) p.running.swap p.running.leg) (sym stays.lab) base in
      subst (λ (x : OpenSwap). Weighs 0 s x.running u q.running) (one_of p has (ap (λ (r : RunningSwap). r.swap.name) is))
      (subst (λ (r : RunningSwap). Weighs 0 s p.running u r) (sym is) here)
  continues_weighs (begun_now p is moves idle side gate way all) =
      let h = has_at exp opens o was_at in
      let p_named : p.name ≡ exp = sym (ap (λ (r : RunningSwap). r.swap.name) is) ∙ named in
      absurd (not_named opens p.name idle o h.0 (p_named ∙ sym h.1))
  continues_weighs (undone why p has is u_is forth undo_is one cut told) =
      let back = back_few s p.running own why one forth undo_is cut in
      let base : Weighs 0 s p.running s (record p.running { leg = Undo why; course = [] }) = omega (arith, back) in
      subst (λ (x : OpenSwap). Weighs 0 s x.running u q.running) (one_of p has (ap (λ (r : RunningSwap). r.swap.name) is))
      (subst (λ (r : RunningSwap). Weighs 0 s p.running u r) (sym is) (subst (λ (x : LabState). Weighs 0 s p.running x (record p.running { leg = Undo why; course = [] })) (sym u_is) base))

  -- it is the same swap, and on the leg on which it was, if the reply doesn't tell that its undo begins
  continues_keeps : Continues s u opens own reply q.running → KeepsLeg exp o.running reply q.running
  continues_keeps (along p has more is stays its within) =
      subst (λ (x : OpenSwap). KeepsLeg exp x.running reply q.running) (one_of p has (ap (λ (r : RunningSwap). r.swap.name) is)) (record { same = ap (λ (r : RunningSwap). r.swap) is; leg = inl (ap (λ (r : RunningSwap). r.leg) is) })
  continues_keeps (begun_now p is moves idle side gate way all) =
      let h = has_at exp opens o was_at in
      let p_named : p.name ≡ exp = sym (ap (λ (r : RunningSwap). r.swap.name) is) ∙ named in
      absurd (not_named opens p.name idle o h.0 (p_named ∙ sym h.1))
  continues_keeps (undone why p has is u_is forth undo_is one cut told) =
      let p_named : name_in p ≡ exp = sym (ap (λ (r : RunningSwap). r.swap.name) is) ∙ named in
      subst (λ (x : OpenSwap). KeepsLeg exp x.running reply q.running) (one_of p has (ap (λ (r : RunningSwap). r.swap.name) is))
      (record { same = ap (λ (r : RunningSwap). r.swap) is; leg = inr (what_of why, told ∙ ap (λ n. Some (TroubleReply n (what_of why))) p_named) })

-- A TURN OR `finish` OF AN OPEN SWAP is accepted
abbrev pub IsTurnOfIt : LabState → Bool → List ℕ → Result Task Reply → Type 0
IsTurnOfIt s busy exp (Ok (Turn own)) = own ≡ exp
IsTurnOfIt s busy exp (Err refusal) = is_some s.lab ≡ true → is_some (find exp s.experiments) ≡ true → busy ≡ true → ⊥
IsTurnOfIt s busy exp judgement = ⊥

abbrev pub IsFinishOfIt : LabState → Bool → List ℕ → Result Task Reply → Type 0
IsFinishOfIt s busy exp (Ok (Finish own)) = own ≡ exp
IsFinishOfIt s busy exp (Err refusal) = is_some s.lab ≡ true → is_some (find exp s.experiments) ≡ true → busy ≡ true → ⊥
IsFinishOfIt s busy exp judgement = ⊥

pub turn_accepted : (s : LabState) (busy : Bool) (exp : List ℕ) → IsTurnOfIt s busy exp (judged_turn s busy exp)
turn_accepted s busy exp = grind arith

pub finish_accepted : (s : LabState) (busy : Bool) (exp : List ℕ) → IsFinishOfIt s busy exp (judged_finish s busy exp)
finish_accepted s busy exp = grind arith

-- with these open swaps, of which one has that name
module _ (exp : List ℕ) (set : Setting) (s : LabState) (opens : List OpenSwap) (differ : AllDiffer (names_of opens)) (own : List Event) (after : After) (to : List OpenSwap) (open_now : after.session ≡ Open to) where
  pub differ_at : (one : IsOneOf opens exp) → AllDiffer (names_of (one.front ++ one.swap ∷ one.rest))
  differ_at one = subst (λ l. AllDiffer (names_of l)) one.are differ

  pub its_place : (one : IsOneOf opens exp) → open_at exp opens ≡ Some one.swap
  its_place one = ap (λ l. open_at exp l) one.are ∙ at_itself exp one.front one.rest one.swap (differ_at one) one.name

  pub in_its_place : (one : IsOneOf opens exp) (new : OpenSwap) → name_in new ≡ name_in one.swap → open_at exp (one.front ++ new ∷ one.rest) ≡ Some new
  in_its_place one new same =
      at_itself exp one.front one.rest new
      (subst AllDiffer (names_split one.front (one.swap ∷ one.rest) ∙ ap (λ n. names_of one.front ++ n ∷ names_of one.rest) (sym same) ∙ sym (names_split one.front (new ∷ one.rest))) (differ_at one))
      (same ∙ one.name)

  pub none_there : (one : IsOneOf opens exp) → open_at exp (one.front ++ one.rest) ≡ None
  none_there one = at_none exp one.front one.rest one.swap (differ_at one) one.name

  module _ (o : OpenSwap) (was_at : open_at exp opens ≡ Some o) (set_in : is_some s.lab ≡ true) (moves : Moves o.running.swap s) where
    pub found_in : is_some (find exp s.experiments) ≡ true
    found_in = ap is_some (subst (λ n. find n s.experiments ≡ Some moves.exp) (has_at exp opens o was_at).1 moves.found)

    pub busy_in : is_among (names_of opens) (Some exp) ≡ true
    busy_in = let h = has_at exp opens o was_at in subst (λ n. is_busy (names_of opens) n ≡ true) h.1 (is_named opens o h.0)

    module _ (q : OpenSwap) (is_at : open_at exp to ≡ Some q) where
      turns_weigh : Turns s opens exp own after → Weighs 1 s o.running after.lab q.running
      turns_weigh d = subst (λ (x : OpenSwap). Weighs 1 s x.running after.lab q.running) (same_Some d.one.swap o (sym (its_place d.one) ∙ was_at)) (by d.outcome d.turn (told_open _ _ to d.outcome d.behind after d.answered open_now).2)
        where
          gone : {X : Type 0} → to ≡ d.one.front ++ d.one.rest → X
          gone at = let both : None ≡ Some q = sym (ap (λ l. open_at exp l) at ∙ none_there d.one) ∙ is_at in absurd (cc both)

          by : (outcome : Outcome) → TurnSteps s d.one.swap.running d.steps outcome after.lab → to ≡ d.one.front ++ (turned_on d.one.swap d.steps outcome ++ d.one.rest) → Weighs 1 s d.one.swap.running after.lab q.running
          by More turn at =
              let next : OpenSwap = record d.one.swap { running = record d.one.swap.running { course = d.one.swap.running.course ++ d.steps } } in
              let base : Weighs 1 s d.one.swap.running s next.running = omega (arith, commands_both d.one.swap.running.course d.steps, ap commands_in turn.0.is) in
              subst (λ (x : OpenSwap). Weighs 1 s d.one.swap.running after.lab x.running) (same_Some next q (sym (ap (λ l. open_at exp l) at ∙ in_its_place d.one next refl) ∙ is_at))
              (subst (λ (x : LabState). Weighs 1 s d.one.swap.running x next.running) (sym turn.2) base)
          by (TurnsBack why) turn at =
              let next : OpenSwap = record d.one.swap { running = record d.one.swap.running { leg = Undo why; course = [] } } in
              let base : Weighs 1 s d.one.swap.running s next.running = omega (arith, back_few s d.one.swap.running d.steps why turn.0 turn.2 turn.3 turn.1) in
              subst (λ (x : OpenSwap). Weighs 1 s d.one.swap.running after.lab x.running) (same_Some next q (sym (ap (λ l. open_at exp l) at ∙ in_its_place d.one next refl) ∙ is_at))
              (subst (λ (x : LabState). Weighs 1 s d.one.swap.running x next.running) (sym turn.4) base)
          by (Ended leg) turn at = gone at
          by (Stuck trouble) turn at = gone at
          by Unwritten turn at = gone at
          by Halted turn at = gone at

      turn_does : (j : Result Task Reply) → IsTurnOfIt s (is_among (names_of opens) (Some exp)) exp j → Does set s opens j own after → Weighs 1 s o.running after.lab q.running
      turn_does (Ok (Turn e)) is d = turns_weigh (subst (λ n. Turns s opens n own after) is d)
      turn_does (Err refusal) is d = absurd (is set_in found_in busy_in)
      turn_does j is d = absurd is

      turn_weighs : (terms : Terms) → IsDoneBy (JudgedBeside terms.rule (TurnOf exp) opens s) set s opens own after → Weighs 1 s o.running after.lab q.running
      turn_weighs terms (does j judged d) = turn_does j (subst (IsTurnOfIt s (is_among (names_of opens) (Some exp)) exp) (sym judged) (turn_accepted s (is_among (names_of opens) (Some exp)) exp)) d
      turn_weighs terms (no_memory wants) = absurd (cc (sym (ap (λ (x : After). x.session) wants.after_is) ∙ open_now))

    finish_does : (j : Result Task Reply) → IsFinishOfIt s (is_among (names_of opens) (Some exp)) exp j → Does set s opens j own after → open_at exp to ≡ None
    finish_does (Ok (Finish e)) is d =
        let next = does_next after to open_now s opens own set (Ok (Finish exp)) (subst (λ n. Does set s opens (Ok (Finish n)) own after) is d) in
        ap (λ l. open_at exp l) next.1 ∙ none_there next.0
    finish_does (Err refusal) is d = absurd (is set_in found_in busy_in)
    finish_does j is d = absurd is

    finish_leaves : (terms : Terms) → IsDoneBy (JudgedBeside terms.rule (FinishOf exp) opens s) set s opens own after → open_at exp to ≡ None
    finish_leaves terms (does j judged d) = finish_does j (subst (IsFinishOfIt s (is_among (names_of opens) (Some exp)) exp) (sym judged) (finish_accepted s (is_among (names_of opens) (Some exp)) exp)) d
    finish_leaves terms (no_memory wants) = absurd (cc (sym (ap (λ (x : After). x.session) wants.after_is) ∙ open_now))

  -- and where none has that name, a `finish` opens none
  finish_idle : open_at exp opens ≡ None → (j : Result Task Reply) → IsFinishOfIt s (is_among (names_of opens) (Some exp)) exp j → Does set s opens j own after → open_at exp to ≡ None
  finish_idle none (Ok (Finish e)) is d =
      let next = does_next after to open_now s opens own set (Ok (Finish exp)) (subst (λ n. Does set s opens (Ok (Finish n)) own after) is d) in
      ap (λ l. open_at exp l) next.1 ∙ none_there next.0
  finish_idle none (Err refusal) is d = ap (λ l. open_at exp l) (does_next after to open_now s opens own set (Err refusal) d) ∙ none
  finish_idle none j is d = absurd is

  finish_opens_none : open_at exp opens ≡ None → (terms : Terms) → IsDoneBy (JudgedBeside terms.rule (FinishOf exp) opens s) set s opens own after → open_at exp to ≡ None
  finish_opens_none none terms (does j judged d) = finish_idle none j (subst (IsFinishOfIt s (is_among (names_of opens) (Some exp)) exp) (sym judged) (finish_accepted s (is_among (names_of opens) (Some exp)) exp)) d
  finish_opens_none none terms (no_memory wants) = absurd (cc (sym (ap (λ (x : After). x.session) wants.after_is) ∙ open_now))

-- ONE PIECE, over any trace
module _ (terms : Terms) (once : StandOnce) (made : List Begun) (trace : List Event) (b : Begun) (is : IsPiece terms trace b.piece) (differ : AllDiffer (busy_of b.piece.from)) (here : GoingAt made trace b.piece.from) where
  -- what it was told, and its step, where it leaves the session open
  module _ (none : drill_of b.piece.command ≡ None) (l : Leads terms trace b.piece) (to : List OpenSwap) (open_now : b.piece.to ≡ Open to) where
    abbrev pub set_of : Setting
    set_of = record { length = l.steps.length; limit = 2 ^ 32; devices = b.piece.faults.devices }

    abbrev pub ends : After
    ends = record { reply = l.steps.told; lab = l.last; session = l.steps.session }

    abbrev pub all : List Event
    all = b.piece.own ++ l.steps.behind

    as_told : (l.steps.told ≡ b.piece.reply) × (l.steps.session ≡ b.piece.to)
    as_told =
        let r = replied terms once made trace b is differ here to open_now b.piece.reply refl in
        let told = subst (λ (x : Option Reply). ButForReply x b.piece.to l.steps.told l.steps.session l.steps.behind) r.1 l.steps.is_told in
        (told.0 ∙ sym r.1, told.1)

    pub told_is : l.steps.told ≡ b.piece.reply
    told_is = as_told.0

    pub session_is : l.steps.session ≡ Open to
    session_is = as_told.1 ∙ open_now

    pub first_at : (o : OpenSwap) → Has (opens_of b.piece.from) o → IsLabAt trace l.first
    first_at o has = at_open b.piece.from _ trace l.first o has l.before

    pub step_by : (from : Session) (command : Command) → b.piece.from ≡ from → b.piece.command ≡ command → LabStep terms (Some trace) set_of l.first from command b.piece.opening all ends
    step_by from command from_is asks =
        subst (λ (x : Session). LabStep terms (Some trace) set_of l.first x command b.piece.opening all ends) from_is
        (subst (λ (c : Command). LabStep terms (Some trace) set_of l.first b.piece.from c b.piece.opening all ends) asks l.steps.step)

    -- THE OPEN SWAP of that name, before and after it
    module _ (exp : List ℕ) (o q : OpenSwap) (was_at : open_at exp (opens_of b.piece.from) ≡ Some o) (is_at : open_at exp to ≡ Some q) where
      its : Has (opens_of b.piece.from) o × (name_in o ≡ exp)
      its = has_at exp (opens_of b.piece.from) o was_at

      pub moves_first : Moves o.running.swap l.first
      moves_first = (here l.first (first_at o its.0) o its.0).course.moves

      pub set_first : is_some l.first.lab ≡ true
      set_first = (sane_set terms once made trace b is differ here l.first (first_at o its.0) o its.0).1

      pub by_any : Weighs 0 l.first o.running l.last q.running × KeepsLeg exp o.running b.piece.reply q.running
      by_any =
          let x = all_continue terms trace set_of l.first b.piece.opening all ends to session_is b.piece.command none b.piece.from
          (λ p there. sane_set terms once made trace b is differ here l.first (first_at p there) p there) (λ p there. (here l.first (first_at p there) p there).course.moves) differ l.steps.step in
          let at_to = has_at exp to q is_at in
          let goes = x.1 q at_to.0 in (
            subst (λ (s : LabState). Weighs 0 s o.running l.last q.running) (x.2 o its.0).0 (continues_weighs exp x.0 l.last (opens_of b.piece.from) differ o was_at all l.steps.told q at_to.1 goes),
            subst (λ (m : Option Reply). KeepsLeg exp o.running m q.running) told_is (continues_keeps exp x.0 l.last (opens_of b.piece.from) differ o was_at all l.steps.told q at_to.1 goes),
          )

      by_turn : (from : Session) → b.piece.from ≡ from → b.piece.command ≡ TurnOf exp → Weighs 1 l.first o.running l.last q.running
      by_turn Closed from_is asks = let none : None ≡ Some o = subst (λ x. open_at exp (opens_of x) ≡ Some o) from_is was_at in absurd (cc none)
      by_turn (Open opens) from_is asks =
          turn_weighs exp set_of l.first opens (subst (λ x. AllDiffer (busy_of x)) from_is differ) all ends to session_is o (subst (λ x. open_at exp (opens_of x) ≡ Some o) from_is was_at) set_first moves_first q is_at terms
          (step_by (Open opens) (TurnOf exp) from_is asks).1

      piece_weighs : Weighs (turn_if exp b.piece.command) l.first o.running l.last q.running
      piece_weighs = by b.piece.command refl
        where
          by_name : (name : List ℕ) (b' : Bool) → bytes_eq name exp ≡ b' → b.piece.command ≡ TurnOf name → Weighs (if b' then 1 else 0) l.first o.running l.last q.running
          by_name name true same asks = by_turn b.piece.from refl (asks ∙ ap TurnOf ((bytes_eq-Decides name exp).0 same))
          by_name name false same asks = by_any.0

          by : (command : Command) → b.piece.command ≡ command → Weighs (turn_if exp command) l.first o.running l.last q.running
          by (TurnOf name) asks = by_name name (bytes_eq name exp) refl asks
          by command asks = by_any.0

    -- after a `finish`
    finished_open : (exp : List ℕ) (from : Session) → b.piece.from ≡ from → b.piece.command ≡ FinishOf exp → open_at exp to ≡ None
    finished_open exp Closed from_is asks = by (step_by Closed (FinishOf exp) from_is asks)
      where
        by : LabStep terms (Some trace) set_of l.first Closed (FinishOf exp) b.piece.opening all ends → open_at exp to ≡ None
        by (opened mid opens d) = finish_opens_none exp set_of mid [] tt all ends to session_is refl terms d
        by (not_opened b') = absurd (cc (sym b'.session ∙ session_is))
    finished_open exp (Open opens) from_is asks = by (open_at exp opens) refl
      where
        differ_here : AllDiffer (names_of opens)
        differ_here = subst (λ x. AllDiffer (busy_of x)) from_is differ

        done : IsDoneBy (JudgedBeside terms.rule (FinishOf exp) opens l.first) set_of l.first opens all ends
        done = (step_by (Open opens) (FinishOf exp) from_is asks).1

        by : (at : Option OpenSwap) → open_at exp opens ≡ at → open_at exp to ≡ None
        by None at = finish_opens_none exp set_of l.first opens differ_here all ends to session_is at terms done
        by (Some o) at =
            let was_at = subst (λ x. open_at exp (opens_of x) ≡ Some o) (sym from_is) at in
            let has = (has_at exp (opens_of b.piece.from) o was_at).0 in
            finish_leaves exp set_of l.first opens differ_here all ends to session_is o at
            (sane_set terms once made trace b is differ here l.first (first_at o has) o has).1 (here l.first (first_at o has) o has).course.moves terms done

  -- AFTER A `finish` the experiment has no open swap
  pub finished : (exp : List ℕ) → b.piece.command ≡ FinishOf exp → open_at exp (opens_of b.piece.to) ≡ None
  finished exp asks = by b.piece.to refl
    where
      by : (to : Session) → b.piece.to ≡ to → open_at exp (opens_of to) ≡ None
      by Closed shut = refl
      by (Open to) open_now = finished_open (ap drill_of asks) (is.leads (ap drill_of asks) (ap is_closed open_now)) to open_now exp b.piece.from refl asks

  -- THE LAB AFTER IT, and how the open swap of a name weighs
  pub next_weighs : (exp : List ℕ) (s : LabState) → IsLabAt trace s → (o q : OpenSwap) → open_at exp (opens_of b.piece.from) ≡ Some o → open_at exp (opens_of b.piece.to) ≡ Some q
      → (u : LabState) × IsLabAt (trace ++ steps_of b.piece) u × Weighs (turn_if exp b.piece.command) s o.running u q.running
  next_weighs exp s at o q was_at is_at = by b.piece.to refl
    where
      no_turn : (command : Command) (drill : Drill) → drill_of command ≡ Some drill → turn_if exp command ≡ 0
      no_turn (TurnOf name) drill some = absurd (cc some)
      no_turn command drill some = refl

      drilled : (drill : Drill) → drill_of b.piece.command ≡ Some drill → Finds (Some drill) b.piece.from trace b.piece → (to : List OpenSwap) → b.piece.to ≡ Open to
          → (u : LabState) × IsLabAt (trace ++ steps_of b.piece) u × Weighs (turn_if exp b.piece.command) s o.running u q.running
      drilled drill it finds to open_now =
          let r = replied terms once made trace b is differ here to open_now b.piece.reply refl in
          let same : q ≡ o = same_Some q o (sym is_at ∙ ap (λ x. open_at exp (opens_of x)) (finds.2 (ap is_some r.1)) ∙ was_at) in
          let none : steps_of b.piece ≡ [] = ap (λ l. l ++ b.piece.own) finds.0 ∙ finds.1 in
          let base : Weighs 0 s o.running s o.running = omega arith in (
            s,
            subst (λ l. IsLabAt l s) (sym (ap (λ l. trace ++ l) none ∙ append-nil trace)) at,
            subst (λ (x : OpenSwap). Weighs (turn_if exp b.piece.command) s o.running s x.running) (sym same) (subst (λ n. Weighs n s o.running s o.running) (sym (no_turn b.piece.command drill it)) base),
          )

      led : drill_of b.piece.command ≡ None → (to : List OpenSwap) → b.piece.to ≡ Open to → (u : LabState) × IsLabAt (trace ++ steps_of b.piece) u × Weighs (turn_if exp b.piece.command) s o.running u q.running
      led none to open_now =
          let l = is.leads none (ap is_closed open_now) in
          let has = (has_at exp (opens_of b.piece.from) o was_at).0 in
          let first = first_at none l to open_now o has in (
            l.last,
            l.behind,
            subst (λ (x : LabState). Weighs (turn_if exp b.piece.command) x o.running l.last q.running) (once trace l.first s first at)
                (piece_weighs none l to open_now exp o q was_at (subst (λ x. open_at exp (opens_of x) ≡ Some q) open_now is_at)),
          )

      by : (to : Session) → b.piece.to ≡ to → (u : LabState) × IsLabAt (trace ++ steps_of b.piece) u × Weighs (turn_if exp b.piece.command) s o.running u q.running
      by Closed shut = let none : None ≡ Some q = subst (λ x. open_at exp (opens_of x) ≡ Some q) shut is_at in absurd (cc none)
      by (Open to) open_now = by_drill (drill_of b.piece.command) refl
        where
          by_drill : (drill : Option Drill) → drill_of b.piece.command ≡ drill → (u : LabState) × IsLabAt (trace ++ steps_of b.piece) u × Weighs (turn_if exp b.piece.command) s o.running u q.running
          by_drill None none = led none to open_now
          by_drill (Some drill) it = drilled drill it (subst (λ (d : Option Drill). Finds d b.piece.from trace b.piece) it is.finds) to open_now

-- WHILE IT IS OPEN: by one command, and those after it
module _ (terms : Terms) (once : StandOnce) (exp : List ℕ) (made : List Begun) (trace : List Event) (b : Begun) (is : IsPiece terms trace b.piece) (differ : AllDiffer (busy_of b.piece.from)) (here : GoingAt made trace b.piece.from) (s : LabState) (at : IsLabAt trace s)
    (o : OpenSwap) (was_at : open_at exp (opens_of b.piece.from) ≡ Some o) (n : ℕ) where
  turns_more : ((u : LabState) → IsLabAt (trace ++ steps_of b.piece) u → (q : OpenSwap) → open_at exp (opens_of b.piece.to) ≡ Some q → commands_in q.running.course + n ≤ most_from (lab_in u.lab) q.running.swap q.running.leg)
      → is_some (open_at exp (opens_of b.piece.to)) ≡ true → commands_in o.running.course + (turn_if exp b.piece.command + n) ≤ most_from (lab_in s.lab) o.running.swap o.running.leg
  turns_more rest on = by (open_at exp (opens_of b.piece.to)) refl on
    where
      by : (q : Option OpenSwap) → open_at exp (opens_of b.piece.to) ≡ q → is_some q ≡ true → commands_in o.running.course + (turn_if exp b.piece.command + n) ≤ most_from (lab_in s.lab) o.running.swap o.running.leg
      by None is_at some = absurd (cc some)
      by (Some q) is_at some =
          let next = next_weighs terms once made trace b is differ here exp s at o q was_at is_at in
          omega (arith, next.2, rest next.0 next.1 q is_at)

pub turns_along : (terms : Terms) (once : StandOnce) (exp : List ℕ) (made middle after : List Begun) (trace : List Event) (session : Session) → ArePieces terms trace (middle ++ after) → AreHandedOn session (middle ++ after) → AllDiffer (busy_of session) → GoingAt made trace session
    → (s : LabState) → IsLabAt trace s → (o : OpenSwap) → open_at exp (opens_of session) ≡ Some o → AreOn exp middle → commands_in o.running.course + turns_of exp middle ≤ most_from (lab_in s.lab) o.running.swap o.running.leg
turns_along terms once exp made [] after trace session are handed differ here s at o was_at on = omega (arith, (here s at o (has_at exp (opens_of session) o was_at).0).few)
turns_along terms once exp made (b ∷ middle) after trace session are handed differ here s at o was_at on =
    let differ_here = subst (λ (x : Session). AllDiffer (busy_of x)) (sym handed.0) differ in
    let here_now = subst (λ (x : Session). GoingAt made trace x) (sym handed.0) here in
    turns_more terms once exp made trace b are.0 differ_here here_now s at o (subst (λ x. open_at exp (opens_of x) ≡ Some o) (sym handed.0) was_at) (turns_of exp middle)
    (λ u u_at q is_at. turns_along terms once exp (made ++ b ∷ []) middle after (trace ++ steps_of b.piece) b.piece.to are.1 handed.1 (still_differ terms once made trace b are.0 differ_here here_now) (piece_goes terms once made trace b are.0 differ_here here_now) u u_at q is_at on.1)
    on.0
