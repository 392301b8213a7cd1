use Rattle.std.proofs.Common.{◌≡◌, ◌<◌, ◌∙◌, List, length, All, ap, sym, subst, IfSome}
use Rattle.lab_base.specs.declared.ids.IfaceId.{IfaceId}
use Rattle.virt_topo.proofs.CableLaws.{sound_keeps}
use Rattle.trunk_sums.specs.Summed.{IsSummed}
use Rattle.map_state.specs.Reverted.{reverted}
use Rattle.map_state.proofs.state.MapState.undo.Goals as goal

pub revert-requires-clause-limits : goal.revert-requires-clause-limits
revert-requires-clause-limits c = sound_keeps c.args.search.now.mapper.wiring.now c.requires.search.mapper.sound

pub revert-requires-clause-plugged : goal.revert-requires-clause-plugged
revert-requires-clause-plugged c = ap length (c.into_vec-plugs.ensures ∙ c.replace.ensures.value) ∙ c.requires.state.shaped.plugs

pub revert-requires-clause-in_lab : goal.revert-requires-clause-in_lab
revert-requires-clause-in_lab c =
    subst (λ (l : List IfaceId). All (λ i. i.0 < length c.args.search.now.mapper.lab.now.ifaces) l) (sym (c.into_vec-plugs.ensures ∙ c.replace.ensures.value)) c.requires.state.shaped.in_lab

pub revert-requires-clause-table : goal.revert-requires-clause-table
revert-requires-clause-table c = c.requires.search.table.crossings

pub revert-requires-clause-backward : goal.revert-requires-clause-backward
revert-requires-clause-backward c = c.requires.backward

pub revert-requires-clause-summed : goal.revert-requires-clause-summed
revert-requires-clause-summed c =
    let x = c.args.search.now.mapper in
    subst (λ (l : List IfaceId). IfSome c.args.self.now.sums (IsSummed x.lab.now x.wiring.now l)) (sym (c.into_vec-plugs.ensures ∙ c.replace.ensures.value)) c.requires.state.summed

pub returns-clause-state : goal.returns-clause-state
returns-clause-state c =
    let x = c.args.search.now.mapper in
    let laid = c.requires.state in
    let shaped = laid.shaped in
    let members = laid.hosting.members in
    let told = c.revert.ensures in
    let had : c.into_vec-plugs.result.items ≡ c.args.self.now.mapping.plugs = c.into_vec-plugs.ensures ∙ c.replace.ensures.value in
    let made : c.from_vec.result ≡ c.revert.new.plugs.items = c.from_vec.ensures in
    record {
      choice = laid.choice;
      shaped = record {
        places = shaped.places;
        plugs = ap length made ∙ told.plugged ∙ ap length had ∙ shaped.plugs;
        in_nodes = shaped.in_nodes;
        in_lab = subst (λ (l : List IfaceId). All (λ i. i.0 < length x.lab.now.ifaces) l) (sym made) told.in_lab;
        of_node = shaped.of_node;
      };
      hosting = record {
        hosts = laid.hosting.hosts;
        one_each = laid.hosting.one_each;
        hosted = laid.hosting.hosted;
        nodes = laid.hosting.nodes;
        members = record { room = members.room; each = members.each; one_each = members.one_each; own = members.own };
        soft = laid.hosting.soft;
      };
      summed = subst (λ (l : List IfaceId). IfSome c.revert.new.sums (IsSummed x.lab.now x.wiring.now l)) (sym made) told.summed;
      spare = λ none. laid.spare (told.rest none);
      idle = laid.idle;
    }

pub returns-clause-plugs : goal.returns-clause-plugs
returns-clause-plugs c =
    c.from_vec.ensures ∙ c.revert.ensures.plugs ∙ ap (λ (l : List IfaceId). reverted l c.args.self.now.back.items) (c.into_vec-plugs.ensures ∙ c.replace.ensures.value)

pub returns-clause-none : goal.returns-clause-none
returns-clause-none c = c.revert.ensures.none
