use Rattle.std.proofs.Common.{◌≡◌, ◌<◌, ◌∙◌, List, true, length, get_or, get_or-set_same, ap, sym, subst, arith}
use Rattle.std.proofs.Math.ListN.{set}
use Rattle.std.proofs.lemmas.Bool.{and_parts, eqb-true}
use Rattle.std.proofs.lemmas.List.{length-set, set-get_or, get_or_default}
use Rattle.lab_base.proofs.Bytes.{bytes_same}
use Rattle.virt_topo.specs.declared.mapping.Mapping.{Mapping}
use Rattle.lab_model.specs.Shapes.{Place}
use Rattle.lab_model.specs.Rules.{no_place}
use Rattle.map_state.specs.Chosen.{IsServed}
use Rattle.map_state.proofs.ServedLaws.{fresh_before, place_is, served_put}
use Rattle.map_state.proofs.chosen.Chosen.put.Goals as goal

pub returns-then-is_same-clause-places : goal.returns-then-is_same-clause-places
returns-then-is_same-clause-places c =
    let places = c.args.self.now.state.mapping.places in
    let v = c.args.virt in
    let old : Place = c.index-as_slice-virt.result in
    let both = and_parts _ _ (sym c.is_same.ensures ∙ c.if-is_same.true) in
    let same : old ≡ c.args.place = place_is old c.args.place (eqb-true old.0.0 c.args.place.0.0 both.0) (bytes_same old.1 c.args.place.1 both.1) in
    let at : old ≡ get_or places v old = c.index-as_slice-virt.is ∙ ap (λ (l : List Place). get_or l v old) c.as_slice.ensures in
    sym (ap (λ (p : Place). set places v p) (sym same ∙ at) ∙ set-get_or places v old)

pub index_mut-requires-2 : goal.index_mut-requires-2
index_mut-requires-2 c =
    let x = c.args.search.now.mapper in
    let places = c.args.self.now.state.mapping.places in
    let v = c.args.virt in
    let all = c.requires.chosen.state.shaped.places in
    let lt : v < length places = (let virt = c.requires.virt in omega (arith, virt, all)) in
    let laid = c.place_virt.ensures.state in
    let at : get_or c.place_virt.new.self.mapping.places v no_place ≡ c.args.place = ap (λ (y : Mapping). get_or y.places v no_place) c.place_virt.ensures.mapping ∙ get_or-set_same places v c.args.place no_place lt in
    let inside = laid.shaped.in_nodes v no_place (let virt = c.requires.virt in let count = laid.shaped.places in omega (arith, virt, count)) in
    let node : c.args.place.0.0 < length x.lab.now.nodes = subst (λ (p : Place). p.0.0 < length x.lab.now.nodes) at inside in
    let each = c.requires.chosen.one_each in
    let len = c.args.self.now.unserved.ok.0 in
    omega (arith, node, each, len)

pub returns-clause-chosen : goal.returns-clause-chosen
returns-clause-chosen c =
    let x = c.args.search.now in
    let m = c.args.self.now.state.mapping in
    let v = c.args.virt in
    let unserved = c.args.self.now.unserved.items in
    let old : Place = c.index-as_slice-virt.result in
    let a = old.0.0 in
    let b = c.args.place.0.0 in
    let before = c.requires.chosen in
    let all = before.state.shaped.places in
    let lt : v < length m.places = (let virt = c.requires.virt in omega (arith, virt, all)) in
    let at : old ≡ get_or m.places v no_place = c.index-as_slice-virt.is ∙ ap (λ (l : List Place). get_or l v old) c.as_slice.ensures ∙ get_or_default m.places v old no_place lt in
    record {
      state = c.place_virt.ensures.state;
      one_each = length-set (set unserved a true) b true ∙ length-set unserved a true ∙ before.one_each;
      served = λ n fresh.
          let second = fresh_before (set unserved a true) b n fresh in
          let first = fresh_before unserved a n second.before in
          subst (λ (y : Mapping). IsServed x y n) (sym c.place_virt.ensures.mapping)
          (served_put x m v c.args.place n c.requires.search all lt second.other (λ e. first.other (e ∙ ap (λ (p : Place). p.0.0) (sym at))) (before.served n first.before));
    }

pub returns-then-is_same-clause-chosen : goal.returns-then-is_same-clause-chosen
returns-then-is_same-clause-chosen c = c.requires.chosen

pub place_virt-requires-clause-state : goal.place_virt-requires-clause-state
place_virt-requires-clause-state c = c.requires.chosen.state

pub place_virt-requires-clause-among : goal.place_virt-requires-clause-among
place_virt-requires-clause-among c = c.requires.among

pub index_mut-requires : goal.index_mut-requires
index_mut-requires c =
    let x = c.args.search.now.mapper in
    let v = c.args.virt in
    let d : Place = c.index-as_slice-virt.result in
    let all = c.requires.chosen.state.shaped.places in
    let lt : v < length c.args.self.now.state.mapping.places = (let virt = c.requires.virt in omega (arith, virt, all)) in
    let at : d ≡ get_or c.args.self.now.state.mapping.places v d = c.index-as_slice-virt.is ∙ ap (λ (l : List Place). get_or l v d) c.as_slice.ensures in
    let node = subst (λ (p : Place). p.0.0 < length x.lab.now.nodes) (sym at) (c.requires.chosen.state.shaped.in_nodes v d lt) in
    let each = c.requires.chosen.one_each in
    let len = c.args.self.now.unserved.ok.0 in
    omega (arith, node, each, len)

pub returns-clause-places : goal.returns-clause-places
returns-clause-places c = ap (λ (y : Mapping). y.places) c.place_virt.ensures.mapping
