use Rattle.std.proofs.Common.{◌≡◌, ◌<◌, ◌∙◌, List, length, All, ap, sym, subst, IfSome}
use Rattle.lab_base.specs.declared.ids.IfaceId.{IfaceId}
use Rattle.virt_topo.proofs.CableLaws.{sound_keeps}
use Rattle.trunk_sums.specs.declared.made.Change.{Change}
use Rattle.trunk_sums.specs.Remade.{remade, AreChanges}
use Rattle.trunk_sums.specs.Summed.{IsSummed}
use Rattle.map_state.specs.Reverted.{reverted}
use Rattle.map_state.proofs.state.MapState.make.Goals as goal

pub remake-requires-clause-limits : goal.remake-requires-clause-limits
remake-requires-clause-limits c = sound_keeps c.args.search.now.mapper.wiring.now c.requires.search.mapper.sound

pub remake-requires-clause-plugged : goal.remake-requires-clause-plugged
remake-requires-clause-plugged c = ap length (c.into_vec-plugs.ensures ∙ c.replace.ensures.value) ∙ c.requires.state.shaped.plugs

pub remake-requires-clause-in_lab : goal.remake-requires-clause-in_lab
remake-requires-clause-in_lab c =
    subst (λ (l : List IfaceId). All (λ i. i.0 < length c.args.search.now.mapper.lab.now.ifaces) l) (sym (c.into_vec-plugs.ensures ∙ c.replace.ensures.value)) c.requires.state.shaped.in_lab

pub remake-requires-clause-table : goal.remake-requires-clause-table
remake-requires-clause-table c = c.requires.search.table.crossings

pub remake-requires-clause-changes : goal.remake-requires-clause-changes
remake-requires-clause-changes c =
    let x = c.args.search.now.mapper in
    subst (λ (l : List Change). AreChanges x.lab.now x.wiring.now l) (sym c.deref.ensures.value) c.requires.changes

pub remake-requires-clause-summed : goal.remake-requires-clause-summed
remake-requires-clause-summed c =
    let x = c.args.search.now.mapper in
    subst (λ (l : List IfaceId). IfSome c.args.self.now.sums (IsSummed x.lab.now x.wiring.now l)) (sym (c.into_vec-plugs.ensures ∙ c.replace.ensures.value)) c.requires.state.summed

pub returns-clause-state : goal.returns-clause-state
returns-clause-state c =
    let x = c.args.search.now.mapper in
    let laid = c.requires.state in
    let shaped = laid.shaped in
    let members = laid.hosting.members in
    let told = c.in_ok-remake.ensures in
    let had : c.into_vec-plugs.result.items ≡ c.args.self.now.mapping.plugs = c.into_vec-plugs.ensures ∙ c.replace.ensures.value in
    let made : c.from_vec.result ≡ c.remake.new.plugs.items = c.from_vec.ensures in
    record {
      choice = laid.choice;
      shaped = record {
        places = shaped.places;
        plugs = ap length made ∙ told.plugged ∙ ap length had ∙ shaped.plugs;
        in_nodes = shaped.in_nodes;
        in_lab = subst (λ (l : List IfaceId). All (λ i. i.0 < length x.lab.now.ifaces) l) (sym made) told.in_lab;
        of_node = shaped.of_node;
      };
      hosting = record {
        hosts = laid.hosting.hosts;
        one_each = laid.hosting.one_each;
        hosted = laid.hosting.hosted;
        nodes = laid.hosting.nodes;
        members = record { room = members.room; each = members.each; one_each = members.one_each; own = members.own };
        soft = laid.hosting.soft;
      };
      summed = subst (λ (l : List IfaceId). IfSome c.remake.new.sums (IsSummed x.lab.now x.wiring.now l)) (sym made) told.summed;
      spare = λ none. laid.spare (told.rest none);
      idle = laid.idle;
    }

pub returns-clause-plugs : goal.returns-clause-plugs
returns-clause-plugs c =
    c.from_vec.ensures ∙ c.in_ok-remake.ensures.plugs ∙ (λ j. remade ((c.into_vec-plugs.ensures ∙ c.replace.ensures.value) j) (c.deref.ensures.value j))

pub returns-clause-back : goal.returns-clause-back
returns-clause-back c =
    ap (λ (l : List IfaceId). reverted l c.remake.new.back.items) c.from_vec.ensures ∙ c.in_ok-remake.ensures.back ∙ c.into_vec-plugs.ensures ∙ c.replace.ensures.value

pub returns-clause-backward : goal.returns-clause-backward
returns-clause-backward c = c.in_ok-remake.ensures.backward
