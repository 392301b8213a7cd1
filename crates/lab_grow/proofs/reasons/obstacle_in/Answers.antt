use Rattle.std.proofs.Common.{◌∷◌, inl, List, refl, sym, subst}
use Rattle.lab_base.specs.Lists.{Has}
use Rattle.lab_base.proofs.Members.{Has-right}
use Rattle.virt_topo.specs.declared.experiment.Experiment.{Experiment}
use Rattle.records_model.proofs.Finding.{found_from}
use Rattle.lab_grow.proofs.reasons.obstacle_in.Goals as goal

pub obstacle_of-requires-clause-sound : goal.obstacle_of-requires-clause-sound
obstacle_of-requires-clause-sound c =
    let es = c.args.state.now.state.experiments in
    let own = c.in-Some-Some-Some.own.now in
    let at = found_from c.args.exp es own (sym c.in-Some-Some-Some.ensures'') in
    c.lab.ensures.sane.wirings own (subst (λ (l : List Experiment). Has l own) (sym at.whole) (Has-right at.before (own ∷ at.after) own (inl refl)))
