use Rattle.std.proofs.Common.{◌≡◌, ◌∙◌, List, sym, subst, ◌<◌, length, All, ap, IfSome}
use Rattle.lab_base.specs.declared.ids.IfaceId.{IfaceId}
use Rattle.lab_model.specs.Shapes.{IsShaped}
use Rattle.trunk_sums.specs.Remade.{remade, AreChanges}
use Rattle.trunk_sums.specs.Summed.{IsSummed}
use Rattle.map_state.proofs.PlannedLaws.{planned_shaped}
use Rattle.virt_topo.proofs.CableLaws.{sound_keeps}
use Rattle.trunk_sums.specs.declared.made.Change.{Change}
use Rattle.map_state.proofs.state.MapState.adopt.Goals as goal

pub returns-clause-state : goal.returns-clause-state
returns-clause-state c =
    let x = c.args.search.now in
    let lab = x.mapper.lab.now in
    let w = x.mapper.wiring.now in
    let b = c.args.self.now in
    let laid = c.requires.state in
    let members = laid.hosting.members in
    let made : c.from_vec.result ≡ c.adopt.new.plugs.items = c.from_vec.ensures in
    let plugs : c.from_vec.result ≡ remade b.mapping.plugs b.changes.items =
    made ∙ c.adopt.ensures.plugs ∙ (λ j. remade ((c.into_vec-plugs.ensures ∙ c.replace.ensures.value) j) (c.deref.ensures.value j)) in
    record {
      choice = laid.choice;
      shaped = subst (λ (l : List IfaceId). IsShaped lab w (record { places = b.mapping.places; plugs = l })) (sym plugs) (planned_shaped x b laid c.requires.changes);
      hosting = record {
        hosts = laid.hosting.hosts;
        one_each = laid.hosting.one_each;
        hosted = laid.hosting.hosted;
        nodes = laid.hosting.nodes;
        members = record { room = members.room; each = members.each; one_each = members.one_each; own = members.own };
        soft = laid.hosting.soft;
      };
      summed = subst (λ (l : List IfaceId). IfSome c.adopt.new.sums (IsSummed lab w l)) (sym made) c.adopt.ensures.summed;
      spare = λ none. laid.spare (c.adopt.ensures.rest none);
      idle = laid.idle;
    }

pub adopt-requires-clause-limits : goal.adopt-requires-clause-limits
adopt-requires-clause-limits c = sound_keeps c.args.search.now.mapper.wiring.now c.requires.search.mapper.sound

pub adopt-requires-clause-plugged : goal.adopt-requires-clause-plugged
adopt-requires-clause-plugged c = ap length (c.into_vec-plugs.ensures ∙ c.replace.ensures.value) ∙ c.requires.state.shaped.plugs

pub adopt-requires-clause-in_lab : goal.adopt-requires-clause-in_lab
adopt-requires-clause-in_lab c =
    subst (λ (l : List IfaceId). All (λ i. i.0 < length c.args.search.now.mapper.lab.now.ifaces) l) (sym (c.into_vec-plugs.ensures ∙ c.replace.ensures.value)) c.requires.state.shaped.in_lab

pub adopt-requires-clause-table : goal.adopt-requires-clause-table
adopt-requires-clause-table c = c.requires.search.table.crossings

pub adopt-requires-clause-changes : goal.adopt-requires-clause-changes
adopt-requires-clause-changes c =
    let x = c.args.search.now.mapper in
    subst (λ (l : List Change). AreChanges x.lab.now x.wiring.now l) (sym c.deref.ensures.value) c.requires.changes

pub adopt-requires-clause-summed : goal.adopt-requires-clause-summed
adopt-requires-clause-summed c =
    let x = c.args.search.now.mapper in
    subst (λ (l : List IfaceId). IfSome c.args.self.now.sums (IsSummed x.lab.now x.wiring.now l)) (sym (c.into_vec-plugs.ensures ∙ c.replace.ensures.value)) c.requires.state.summed

pub returns-clause-plugs : goal.returns-clause-plugs
returns-clause-plugs c =
    c.from_vec.ensures ∙ c.adopt.ensures.plugs ∙ (λ j. remade ((c.into_vec-plugs.ensures ∙ c.replace.ensures.value) j) (c.deref.ensures.value j))
