-- The facts that a typed state keeps, where its swap is open.
use Rattle.std.proofs.Common.{ℕ, ◌≡◌, Bool, false, Option, Some, None, IsSome, IfSome, refl, sym, ◌∙◌, subst}
use Rattle.std.proofs.lemmas.Option.{same_Some}
use Rattle.lab_base.specs.Lists.{AllDiffer}
use Rattle.phys_lab.specs.Labs.{Lab}
use Rattle.phys_lab.specs.Kept.{IsLab}
use Rattle.virt_topo.specs.declared.experiment.Experiment.{Experiment}
use Rattle.virt_topo.specs.declared.experiment.Phase.TheVariants.{Moving}
use Rattle.virt_topo.specs.declared.mapping.Mapped.{Mapped}
use Rattle.plant.specs.Told.{Told}
use Rattle.journal_disk.specs.Standing.{side_of}
use Rattle.journal_disk.specs.declared.journal.Journal.{Journal}
use Rattle.lab_base.proofs.Members.{flat-each}
use Rattle.lab_model.specs.Claims.{Which, claimed, claimed_tags}
use Rattle.lab_model.specs.Holding.{Suits}
use Rattle.records_model.specs.Labs.{LabState, Texts, find, lab_in}
use Rattle.records_model.specs.Works.{IsSound}
use Rattle.records_model.proofs.Swaps.{found_in, listed, part_now}
use Rattle.swap_txn.specs.declared.live.Live.{Live}
use Rattle.swap_txn.specs.Facts.{IsOwn, IsOwnUndo, KnowsBy, Knows, IsOfBy, IsOf}
use Rattle.swap_turns.specs.Legs.{Leg, Forth, Undo, Settling, commits, plan_by, undo_by, undo_of}
use Rattle.swap_turns.specs.Running.{OpenSwap, IsOpen, RunsIn, Stands, AtWork, IsRunning}
use Rattle.swap_turns.proofs.Courses.{CanEnd, can_end, own_by, safe_by}
use Rattle.swap_turns.proofs.Last.{found_own}
use Rattle.swap_turns.proofs.Running.{on_course}
use Rattle.swap_turns.proofs.Telling.{if_both}

-- its facts
pub knows_open : (t : Texts) (told : Option Told) (j : Journal) (s : LabState) (o : OpenSwap) (state : Live) → AtWork t told j s → IsOpen s o state → IsRunning t told s o
    → IfSome told (λ w. IsSound t w.trace → (e : Experiment) → find o.swap.name s.experiments ≡ Some e → (start : ℕ) × Knows (lab_in s.lab) e start state w.trace)
knows_open t told j s o state work u running = if_both told (λ w. Stands t w.trace j s) (λ w. IsSound t w.trace → RunsIn s o w.trace)
    (λ w. IsSound t w.trace → (e : Experiment) → find o.swap.name s.experiments ≡ Some e → (start : ℕ) × Knows (lab_in s.lab) e start state w.trace)
    (λ w x runs sound e found.
    let r = runs sound e found in
    let same : u.moves.exp ≡ e = same_Some u.moves.exp e (sym u.moves.found ∙ found) in
    let part = part_now t w.trace (side_of j) x.records s u.moves.exp (x.works sound).work (listed t w.trace (side_of j) x.records s u.moves.exp (found_own o.swap s u.moves)) in (
      r.start,
      subst (λ v. KnowsBy (lab_in s.lab) e r.start v w.trace) (sym u.state_is) (record {
        sent = u.sent.sent;
        goes = u.sent.goes;
        on = on_course (lab_in s.lab) e o.course w.trace r u.sent.sent u.sent.steps_are;
        part = λ before. subst (λ y. Rattle.lab_model.specs.Parts.Part (lab_in s.lab) (Rattle.plant.specs.Worlds.world_of w.trace) y) same part;
      }),
    )) work.stands running

-- its commands are the experiment's own
module _ (lab : Lab) (e : Experiment) (is_lab : IsLab lab) (differ : AllDiffer (claimed_tags e)) (suits : (which : Which) (n : Mapped) → claimed e which ≡ Some n → Suits lab n) (old new : Option Mapped) (moving : e.phase ≡ Moving old new) where
  own_plan : (commit : Bool) → CanEnd old new commit → IsOwn lab e (plan_by lab old new commit)
  own_plan commit can = record {
    each = λ sent left op goes comes. own_by lab e old new commit moving sent left op goes comes;
    safe = λ w part. λ cs mid op applied answer goes comes. safe_by lab e is_lab differ suits w part old new commit can moving cs mid op applied answer goes comes;
  }

own_undo : (lab : Lab) (e : Experiment) (old new : Option Mapped) → ((m : Mapped) → new ≡ Some m → IsOwn lab e (plan_by lab old new false)) → IsOwnUndo lab e (undo_by lab old new)
own_undo lab e old None each = tt
own_undo lab e old (Some m) each = each m refl

pub of_open : (t : Texts) (told : Option Told) (j : Journal) (s : LabState) (o : OpenSwap) (state : Live) → AtWork t told j s → IsOpen s o state → (e : Experiment) → find o.swap.name s.experiments ≡ Some e → IsOf (lab_in s.lab) e state
of_open t told j s o state work u e found = subst (λ v. IsOfBy (lab_in s.lab) e v) (sym u.state_is) (plan (commits o.swap o.leg) (can_end o.swap o.leg u.moves.is_swap u.has_leg), back o.leg)
  where
    same : u.moves.exp ≡ e
    same = same_Some u.moves.exp e (sym u.moves.found ∙ found)

    plan : (commit : Bool) → CanEnd o.swap.old o.swap.new commit → IsOwn (lab_in s.lab) e (plan_by (lab_in s.lab) o.swap.old o.swap.new commit)
    plan commit can =
        let h = found_in o.swap.name s.experiments e found in
        own_plan (lab_in s.lab) e work.sane.is_lab (flat-each claimed_tags s.experiments e work.sane.holding.tags h) (λ which n is. work.sane.holding.fits e which n h is) o.swap.old o.swap.new
        (subst (λ (x : Experiment). x.phase ≡ Moving o.swap.old o.swap.new) same u.moves.moving) commit can

    back : (leg : Leg) → IsOwnUndo (lab_in s.lab) e (undo_of o.swap (lab_in s.lab) leg)
    back Forth = own_undo (lab_in s.lab) e o.swap.old o.swap.new (λ m is. plan false (subst (λ n. IsSome n) (sym is) refl))
    back (Undo why) = tt
    back Settling = tt
