use Rattle.std.proofs.Common.{[], ◌∷◌, Option, sym, subst}
use Rattle.std.specs.List.{flat_map}
use Rattle.journal_rec.specs.declared.record.Record.TheVariants.{Lab}
use Rattle.journal_rec.specs.Packing.{ArePacked}
use Rattle.lab_state.specs.declared.claimed_lab.ClaimedLab.{ClaimedLab}
use Rattle.lab_state.specs.Kept.{IsKept, state_of}
use Rattle.lab_state.specs.Packing.{packed_one, packed_of}
use Rattle.lab_state.specs.Texts.{the_texts}
use Rattle.lab_state.proofs.PackLaws.{packed_law}
use Rattle.lab_state.proofs.PackSteps.{packs_on}
use Rattle.lab_state.proofs.state.LabState.pack.Goals as goal

pub push_all-requires : goal.push_all-requires
push_all-requires c =
    let es = c.self.inside.experiments.list in
    let kept = subst (λ p. IsKept p es) c.in-Some.is c.self.invariant in
    record { sound = λ e has. kept.sane.wirings e has; fits = λ e which m has is. kept.sane.holding.fits e which m has is }

pub returns-in_ok-push_all-in-Some-clause-packed : goal.returns-in_ok-push_all-in-Some-clause-packed
returns-in_ok-push_all-in-Some-clause-packed c =
    let es = c.self.inside.experiments.list in
    let lab = c.in-Some.claimed_lab.lab in
    let all = packs_on c.in_ok-packed.packed c.push_lab.new.packed c.push_all.new.packed (Lab (the_texts.ptop lab) ∷ []) (flat_map (packed_one the_texts lab) es) c.in_ok-push_lab-in-Some.ensures c.in_ok-push_all-in-Some.ensures [] c.in_ok-packed.ensures in
    rw (← c.self.view_is) (subst (λ (p : Option ClaimedLab). ArePacked c.push_all.new.packed (packed_of the_texts (state_of p es))) (sym c.in-Some.is) all)

pub returns-in_ok-push_all-in-Some-clause-stands : goal.returns-in_ok-push_all-in-Some-clause-stands
returns-in_ok-push_all-in-Some-clause-stands c rs h = packed_law the_texts rs c.args.self.now.state h

pub returns-in-None-clause-packed : goal.returns-in-None-clause-packed
returns-in-None-clause-packed c =
    let es = c.self.inside.experiments.list in
    rw (← c.self.view_is) (subst (λ (p : Option ClaimedLab). ArePacked c.in_ok-packed.packed (packed_of the_texts (state_of p es))) (sym c.in-None.is) c.in_ok-packed.ensures)

pub returns-in-None-clause-stands : goal.returns-in-None-clause-stands
returns-in-None-clause-stands c rs h = packed_law the_texts rs c.args.self.now.state h
