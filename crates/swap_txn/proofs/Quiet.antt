-- An append sends no command, and leaves the devices alone.
use Rattle.std.proofs.Common.{ℕ, ◌≡◌, ◌≤◌, inl, inr, List, [], ◌∷◌, ◌++◌, length, Some, Result, fold, refl, sym, ap, ◌∙◌, subst}
use Rattle.std.proofs.lemmas.List.{take-append-le}
use Rattle.std.proofs.lemmas.List.Sums.{fold-append}
use Rattle.phys_lab.specs.Labs.{Lab}
use Rattle.virt_topo.specs.declared.experiment.Experiment.{Experiment}
use Rattle.plant.specs.Events.{Event, Missed}
use Rattle.plant.specs.Told.{Told, with_steps}
use Rattle.plant.specs.Worlds.{World, blank, world_after, world_of}
use Rattle.plant.specs.declared.step.Side.{Side}
use Rattle.journal_rec.specs.declared.record.Record.{Record}
use Rattle.journal_model.specs.Appends.{Run, Nothing, Body, Settled, Gate, All, added}
use Rattle.journal_disk.specs.Standing.{side_of, gate_of}
use Rattle.journal_disk.specs.declared.journal.Journal.{Journal}
use Rattle.journal_disk.specs.declared.fault.AppendFault.{AppendFault}
use Rattle.lab_model.specs.OnCourse.{own_events}
use Rattle.lab_model.specs.Parts.{Part}
use Rattle.plant.specs.Seen.{Seen}
use Rattle.journal_disk.proofs.LastSteps.{append_last}
use Rattle.swap_txn.specs.Steps.{Writes}
use Rattle.swap_txn.specs.Facts.{KeepsPart}

abbrev pub IsQuiet : Lab → Experiment → List Event → Type 0
IsQuiet lab e steps = (own_events lab e steps ≡ []) × ((w : World) → fold world_after w steps ≡ w)

quiet : (lab : Lab) (e : Experiment) (side : Side) (g : ℕ) (r : Record) (run : Run) → IsQuiet lab e (added side g r run ++ []) × IsQuiet lab e (added side g r run ++ Missed side ∷ [])
quiet lab e side g r Nothing = ((refl, λ w. refl), (refl, λ w. refl))
quiet lab e side g r (Body bytes) = ((refl, λ w. refl), (refl, λ w. refl))
quiet lab e side g r Settled = ((refl, λ w. refl), (refl, λ w. refl))
quiet lab e side g r (Gate byte) = ((refl, λ w. refl), (refl, λ w. refl))
quiet lab e side g r All = ((refl, λ w. refl), (refl, λ w. refl))

-- the steps of an append are such
abbrev pub append_steps : (r : Record) (was now : Seen) (j k : Journal) (answer : Result (Unit {0}) AppendFault) → Writes r was now j k answer → List Event
append_steps r was now j k answer w = added (side_of j) (gate_of j) r w.appends.run ++ w.appends.more

pub append_quiet : (lab : Lab) (e : Experiment) (r : Record) (was now : Seen) (j k : Journal) (answer : Result (Unit {0}) AppendFault) (w : Writes r was now j k answer) → IsQuiet lab e (append_steps r was now j k answer w)
append_quiet lab e r was now j k answer w =
    let a = w.appends in
    let q = quiet lab e (side_of j) (gate_of j) r a.run in
    elim (append_last (side_of j) answer a.run a.more a.ends) [
      | inl is ↦ subst (λ m. IsQuiet lab e (added (side_of j) (gate_of j) r a.run ++ m)) (sym is) q.0
      | inr is ↦ subst (λ m. IsQuiet lab e (added (side_of j) (gate_of j) r a.run ++ m)) (sym is) q.1
    ]

-- the world is the same after quiet steps
pub quiet_world : (lab : Lab) (e : Experiment) (trace steps : List Event) → IsQuiet lab e steps → world_of (trace ++ steps) ≡ world_of trace
quiet_world lab e trace steps quiet = fold-append world_after blank trace steps ∙ quiet.1 (world_of trace)

pub quiet_part : (lab : Lab) (e : Experiment) (start : ℕ) (trace steps : List Event) → start ≤ length trace → IsQuiet lab e steps → KeepsPart lab e start trace → KeepsPart lab e start (trace ++ steps)
quiet_part lab e start trace steps within quiet kept = λ part.
    subst (λ w. Part lab w e) (sym (quiet_world lab e trace steps quiet)) (kept (subst (λ l. Part lab (world_of l) e) (take-append-le start trace steps within) part))

pub part_quiet : (lab : Lab) (e : Experiment) (start : ℕ) (r : Record) (was now : Seen) (j k : Journal) (answer : Result (Unit {0}) AppendFault) (t u : Told) → was.told ≡ Some t → now.told ≡ Some u → start ≤ length t.trace
    → Writes r was now j k answer → KeepsPart lab e start t.trace → KeepsPart lab e start u.trace
part_quiet lab e start r was now j k answer t u was_is now_is within w kept =
    let steps = append_steps r was now j k answer w in
    let told : Some u ≡ with_steps (Some t) steps = sym now_is ∙ w.appends.trace ∙ ap (λ o. with_steps o steps) was_is in
    let same : u ≡ record t { trace = t.trace ++ steps } = cc told in
    subst (λ l. KeepsPart lab e start l) (sym (ap (λ (x : Told). x.trace) same)) (quiet_part lab e start t.trace steps within (append_quiet lab e r was now j k answer w) kept)
