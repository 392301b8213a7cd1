-- How open swaps end in a run: how often they are turned, and what their end is answered.
use Rattle.std.proofs.Common.{◌≡◌, ◌⊎◌, inl, inr, ⊎_elim, ℕ, ◌+◌, ◌≤◌, ◌^◌, true, List, [], ◌∷◌, ◌++◌, append_assoc, Option, Some, None, refl, sym, ◌∙◌, ap, subst}
use Rattle.lab_base.specs.Lists.{AllDiffer, Has}
use Rattle.plant.specs.Events.{Event}
use Rattle.plant.specs.Told.{Told}
use Rattle.virt_topo.specs.declared.experiment.Experiment.{Experiment}
use Rattle.virt_topo.specs.declared.experiment.Phase.TheVariants.{Moving, Out}
use Rattle.virt_topo.specs.declared.mapping.Mapped.{Mapped}
use Rattle.virt_topo.specs.Wirings.{mapped}
use Rattle.records_model.specs.Labs.{LabState, find, lab_in}
use Rattle.script_text.specs.Drills.{drill_of}
use Rattle.script_text.specs.declared.command.Command.TheVariants.{Finish, SwapinWith}
use Rattle.script_text.specs.declared.reply.Reply.TheVariants.{In, More}
use Rattle.swap_turns.specs.Legs.{Forth}
use Rattle.swap_turns.specs.Running.{OpenSwap as RunningSwap}
use Rattle.swap_turns.specs.Swaps.{Swap as SwapOf}
use Rattle.lab_core.specs.Commands.{LabStep}
use Rattle.lab_core.specs.LabSteps.{done_reply}
use Rattle.lab_core.specs.Moments.{IsLabAt}
use Rattle.lab_core.specs.Sessions.{After, Closed, Open, OpenSwap, Session, Setting, Terms, name_in, open_at}
use Rattle.lab_core.specs.Tells.{BeginsAt, GoesIn, IsFeasibleFor, busy_of, opens_of}
use Rattle.lab_core.proofs.BySolution.{begun_by}
use Rattle.lab_core.proofs.SameSwaps.{has_at}
use Rattle.lab_core.proofs.SolutionLaws.{in_only}
use Rattle.lab_top.specs.declared.status.Status.{Status}
use Rattle.lab_top.specs.Pieces.{AreHandedOn, AreOn, ArePieces, Begun, IsPiece, Leads, is_closed, may_shut, session_after, trace_after}
use Rattle.lab_top.specs.Ran.{Outside, Ran}
use Rattle.lab_top.proofs.RunLaws.{pieces_of}
use Rattle.lab_top.proofs.TurnLaws.{all_few, few_open, handed_after, pieces_after, sessions_join}
use Rattle.lab_words.specs.Words.{Choices}
use Rattle.complete.specs.Bounds.{commands_in, most_from}
use Rattle.complete.specs.Ends.{FailsOrShuts, MetTrouble, turns_of}
use Rattle.complete.proofs.Continued.{Continues, along, begun_now, undone}
use Rattle.complete.proofs.RunCourses.{GoingAt, StandOnce, all_continue, going_after, sane_set}
use Rattle.complete.proofs.SwapEnds.{IsOnForth, ends_told, goes_forth}
use Rattle.complete.proofs.Turnings.{finished, first_at, session_is, step_by, told_is, turns_along}
use Rattle.complete.proofs.WholeRuns.{stand_once}

-- AN EXPERIMENT THAT MOVES is not out
moves_out : {X : Type 0} (name : List ℕ) (s : LabState) (e f : Experiment) (old new : Option Mapped) → find name s.experiments ≡ Some e → find name s.experiments ≡ Some f → e.phase ≡ Out → f.phase ≡ Moving old new → X
moves_out name s e f old new e_found f_found out moving =
    let both : Some e ≡ Some f = sym e_found ∙ f_found in
    let same : e ≡ f = cc both in
    let phases : Out ≡ Moving old new = sym out ∙ ap (λ (x : Experiment). x.phase) same ∙ moving in
    absurd (cc phases)

-- THE SWAP THAT `open` BEGINS with a supplied solution goes forth, to a mapping
pub record IsBegun (exp : List ℕ) (session : Session) : Type 0 where
  pub swap : OpenSwap
  pub is_open : open_at exp (opens_of session) ≡ Some swap
  pub forth : swap.running.leg ≡ Forth
  pub new : Mapped
  pub goes : swap.running.swap.new ≡ Some new

module _ (terms : Terms) (once : StandOnce) (made : List Begun) (trace : List Event) (b : Begun) (is : IsPiece terms trace b.piece) (differ : AllDiffer (busy_of b.piece.from)) (here : GoingAt made trace b.piece.from) (exp text : List ℕ) (lines : ℕ)
    (asks : b.piece.command ≡ SwapinWith true exp lines text) (told_more : b.piece.reply ≡ Some (More exp)) where
  begun_open : (to : List OpenSwap) → b.piece.to ≡ Open to → IsBegun exp b.piece.to
  begun_open to open_now = record {
    swap = g.swap;
    is_open = ap (λ x. open_at exp (opens_of x)) open_now ∙ g.is_open;
    forth = goes_forth' (x.1 g.swap (has_at exp to g.swap g.is_open).0);
    new = mapped g.wiring g.mapping g.tags;
    goes = g.new;
  }
    where
      none : drill_of b.piece.command ≡ None
      none = ap drill_of asks

      l : Leads terms trace b.piece
      l = is.leads none (ap is_closed open_now)

      set : Setting
      set = record { length = l.steps.length; limit = 2 ^ 32; devices = b.piece.faults.devices }

      all : List Event
      all = b.piece.own ++ l.steps.behind

      after : After
      after = record { reply = l.steps.told; lab = l.last; session = l.steps.session }

      session : l.steps.session ≡ Open to
      session = session_is terms once made trace b is differ here none l to open_now

      replied : l.steps.told ≡ Some (More exp)
      replied = told_is terms once made trace b is differ here none l to open_now ∙ told_more

      step : LabStep terms (Some trace) set l.first b.piece.from (SwapinWith true exp lines text) b.piece.opening all after
      step = step_by terms once made trace b is differ here none l to open_now b.piece.from (SwapinWith true exp lines text) refl asks

      g : GoesIn to l.last exp text
      g = begun_by terms set l.first b.piece.from exp text lines b.piece.opening all after to step replied session

      first : (o : OpenSwap) → Has (opens_of b.piece.from) o → IsLabAt trace l.first
      first o has = first_at terms once made trace b is differ here none l to open_now o has

      x : (mid : LabState) × ((o : OpenSwap) → Has to o → Continues mid l.last (opens_of b.piece.from) all l.steps.told o.running) × ((o : OpenSwap) → Has (opens_of b.piece.from) o → (mid ≡ l.first) × (b.piece.opening ≡ []))
      x =
          all_continue terms trace set l.first b.piece.opening all after to session b.piece.command none b.piece.from
          (λ p there. sane_set terms once made trace b is differ here l.first (first p there) p there) (λ p there. (here l.first (first p there) p there).course.moves) differ l.steps.step

      feasible : (mid : LabState) × BeginsAt b.piece.from l.first b.piece.opening mid × IsFeasibleFor mid exp text
      feasible = in_only terms set l.first b.piece.from true exp text lines b.piece.opening all after step replied

      at_first : (from : Session) (mid : LabState) (o : OpenSwap) → Has (opens_of from) o → BeginsAt from l.first b.piece.opening mid → mid ≡ l.first
      at_first Closed mid o has begins = absurd has
      at_first (Open opens) mid o has begins = begins

      goes_forth' : Continues x.0 l.last (opens_of b.piece.from) all l.steps.told g.swap.running → g.swap.running.leg ≡ Forth
      goes_forth' (begun_now p is moves idle side gate way own) = ap (λ (r : RunningSwap). r.leg) is
      goes_forth' (undone why p has is u_is forth undo_is one cut told) = absurd (cc (sym told ∙ replied))
      goes_forth' (along p has more is stays its within) =
          let m = (here l.first (first p has) p has).course.moves in
          let f = subst (λ (s : LabState). IsFeasibleFor s exp text) (at_first b.piece.from feasible.0 p has feasible.1) feasible.2 in
          let named : name_in p ≡ exp = sym (ap (λ (r : RunningSwap). r.swap.name) is) ∙ (has_at exp to g.swap g.is_open).1 in
          moves_out exp l.first f.experiment m.exp p.running.swap.old p.running.swap.new f.found (subst (λ n. find n l.first.experiments ≡ Some m.exp) named m.found) f.out m.moving

  begun_forth : IsBegun exp b.piece.to
  begun_forth = by b.piece.to refl
    where
      by : (to : Session) → b.piece.to ≡ to → IsBegun exp b.piece.to
      by Closed shut = let bad : may_shut (Some (More exp)) ≡ true = ap may_shut (sym told_more) ∙ is.shuts (ap drill_of asks) (ap is_closed shut) in absurd (cc bad)
      by (Open to) open_now = begun_open to open_now

-- IN A RUN
module _ (terms : Terms) (choices : Option Choices) (old new : Outside) (status : Status) where
  -- at one of its moments
  module _ (before rest : List Begun) (t : Told) (r : Ran terms choices old new status (before ++ rest)) (told : old.plant.told ≡ Some t) where
    abbrev past : List Event
    past = trace_after t.trace before

    abbrev session : Session
    session = session_after Closed before

    pieces : ArePieces terms past rest
    pieces = pieces_after terms t.trace before rest (pieces_of terms choices old new status (before ++ rest) t r told)

    handed : AreHandedOn session rest
    handed = handed_after Closed before rest r.sessions

    differ : AllDiffer (busy_of session)
    differ = (few_open terms choices old new status before rest r t told).1

    going : GoingAt before past session
    going = going_after terms stand_once [] before rest t.trace Closed (pieces_of terms choices old new status (before ++ rest) t r told) r.sessions tt (λ u there q none. absurd none)

  pub turned_few : (before middle after : List Begun) (t : Told) (s : LabState) (exp : List ℕ) (o : OpenSwap) → Ran terms choices old new status (before ++ (middle ++ after)) → old.plant.told ≡ Some t → IsLabAt (trace_after t.trace before) s
      → open_at exp (opens_of (session_after Closed before)) ≡ Some o → AreOn exp middle → commands_in o.running.course + turns_of exp middle ≤ most_from (lab_in s.lab) o.running.swap o.running.leg
  turned_few before middle after t s exp o r told at is_open on =
      let rest = middle ++ after in
      turns_along terms stand_once exp before middle after (trace_after t.trace before) (session_after Closed before) (pieces before rest t r told) (handed before rest t r told) (differ before rest t r told) (going before rest t r told) s at o is_open on

  pub finished_none : (before after : List Begun) (b : Begun) (t : Told) (exp : List ℕ) → Ran terms choices old new status (before ++ b ∷ after) → old.plant.told ≡ Some t → b.piece.command ≡ Finish exp → open_at exp (opens_of b.piece.to) ≡ None
  finished_none before after b t exp r told asks =
      let rest = b ∷ after in
      let from_is = sym (handed before rest t r told).0 in
      finished terms stand_once before (trace_after t.trace before) b (pieces before rest t r told).0 (subst (λ (x : Session). AllDiffer (busy_of x)) from_is (differ before rest t r told))
      (subst (λ (x : Session). GoingAt before (trace_after t.trace before) x) from_is (going before rest t r told)) exp asks

  abbrev pub EndsSo : List ℕ → Option Mapped → List Begun → Begun → Type 0
  EndsSo exp new middle c = (c.piece.reply ≡ Some (done_reply exp new)) ⊎ (MetTrouble exp middle ⊎ FailsOrShuts exp c.piece.reply)

  pub forth_ends : (before middle after : List Begun) (c : Begun) (t : Told) (exp : List ℕ) (o : OpenSwap) → Ran terms choices old new status (before ++ (middle ++ c ∷ after)) → old.plant.told ≡ Some t
      → open_at exp (opens_of (session_after Closed before)) ≡ Some o → o.running.leg ≡ Forth → AreOn exp middle → open_at exp (opens_of c.piece.to) ≡ None → EndsSo exp o.running.swap.new middle c
  forth_ends before middle after c t exp o r told is_open forth on gone = by on_way.leg
    where
      rest : List Begun
      rest = middle ++ c ∷ after

      start : Session
      start = session_after Closed before

      at_c : List Event
      at_c = trace_after (trace_after t.trace before) middle

      on_way : IsOnForth exp o (session_after start middle) middle
      on_way = goes_forth terms stand_once exp before middle (c ∷ after) (trace_after t.trace before) start (pieces before rest t r told) (handed before rest t r told) (differ before rest t r told) (going before rest t r told) o is_open forth on

      handed_c : AreHandedOn (session_after start middle) (c ∷ after)
      handed_c = handed_after start middle (c ∷ after) (handed before rest t r told)

      differ_c : AllDiffer (busy_of c.piece.from)
      differ_c =
          let few = few_open terms choices old new status before rest r t told in
          subst (λ (x : Session). AllDiffer (busy_of x)) (sym handed_c.0) (all_few terms (trace_after t.trace before) start middle (c ∷ after) (pieces before rest t r told) (handed before rest t r told) few.0 few.1).1

      going_c : GoingAt (before ++ middle) at_c c.piece.from
      going_c =
          subst (λ (x : Session). GoingAt (before ++ middle) at_c x) (sym handed_c.0)
          (going_after terms stand_once before middle (c ∷ after) (trace_after t.trace before) start (pieces before rest t r told) (handed before rest t r told) (differ before rest t r told) (going before rest t r told))

      by : (on_way.swap.running.leg ≡ Forth) ⊎ MetTrouble exp middle → EndsSo exp o.running.swap.new middle c
      by (inr met) = inr (inl met)
      by (inl leg) =
          ⊎_elim (λ is. inl (is ∙ ap (λ (p : SwapOf). Some (done_reply exp p.new)) on_way.same)) (λ fails. inr (inr fails))
          (ends_told terms stand_once (before ++ middle) at_c c (pieces_after terms (trace_after t.trace before) middle (c ∷ after) (pieces before rest t r told)).0 differ_c going_c exp on_way.swap
          (ap (λ (x : Session). open_at exp (opens_of x)) handed_c.0 ∙ on_way.is_open) leg gone)

  pub solution_ends : (before middle after : List Begun) (b c : Begun) (t : Told) (exp text : List ℕ) (lines : ℕ) → Ran terms choices old new status (before ++ b ∷ (middle ++ c ∷ after)) → old.plant.told ≡ Some t
      → b.piece.command ≡ SwapinWith true exp lines text → b.piece.reply ≡ Some (More exp) → AreOn exp middle → open_at exp (opens_of c.piece.to) ≡ None
      → (c.piece.reply ≡ Some (In exp)) ⊎ (MetTrouble exp middle ⊎ FailsOrShuts exp c.piece.reply)
  solution_ends before middle after b c t exp text lines r told asks told_more on gone =
      let rest = b ∷ (middle ++ c ∷ after) in
      let from_is = sym (handed before rest t r told).0 in
      let begun =
      begun_forth terms stand_once before (trace_after t.trace before) b (pieces before rest t r told).0 (subst (λ (x : Session). AllDiffer (busy_of x)) from_is (differ before rest t r told))
      (subst (λ (x : Session). GoingAt before (trace_after t.trace before) x) from_is (going before rest t r told)) exp text lines asks told_more in
      let joined = subst (λ l. Ran terms choices old new status l) (sym (append_assoc before (b ∷ []) (middle ++ c ∷ after))) r in
      ⊎_elim (λ is. inl (is ∙ ap (λ n. Some (done_reply exp n)) begun.goes)) (λ hindered. inr hindered)
      (forth_ends (before ++ b ∷ []) middle after c t exp begun.swap joined told (ap (λ (x : Session). open_at exp (opens_of x)) (sessions_join Closed before (b ∷ [])) ∙ begun.is_open) begun.forth on gone)
