use Rattle.std.proofs.Common.{◌≡◌, ◌∙◌, inl, inr, ℕ, true, get_or, List, ap, sym, arith}
use Rattle.lab_model.specs.Shapes.{Place}
use Rattle.lab_model.specs.Rules.{no_place}
use Rattle.node_maps.specs.NodeMaps.{node_map}
use Rattle.map_state.proofs.ServedLaws.{there_or_not, unused_served}
use Rattle.map_state.proofs.chosen.Chosen.is_map.Goals as goal

pub is_whole-requires-clause-served : goal.is_whole-requires-clause-served
is_whole-requires-clause-served c = λ n lt.
    let x = c.args.search.now in
    let chosen = c.in_ok-refresh_all.ensures.chosen in
    let m = c.refresh_all.new.self.state.mapping in
    let places = c.in_ok-refresh_all.ensures.places in
    elim (there_or_not m.places n) [
      | inl there ↦ (
          let count = chosen.state.shaped.places in
          let within = there.within in
          let fresh = c.in_ok-refresh_all.ensures.fresh c.if-not-branch.false there.virt (omega (arith, within, count)) in
          let here : (get_or c.args.self.now.state.mapping.places there.virt no_place).0.0 ≡ n = ap (λ (l : List Place). (get_or l there.virt no_place).0.0) (sym places) ∙ there.at in
          chosen.served n (ap (λ (k : ℕ). get_or c.refresh_all.new.self.unserved.items k true) (sym here) ∙ fresh))
      | inr none ↦ unused_served x m n c.requires.search chosen.state.shaped.places none
    ]

pub returns-clause-map : goal.returns-clause-map
returns-clause-map c =
    let x = c.args.search.now.mapper in
    ap (λ (l : List Place). node_map x.lab.now x.free.now x.wiring.now l) (sym c.in_ok-refresh_all.ensures.places) ∙ c.is_whole.ensures
