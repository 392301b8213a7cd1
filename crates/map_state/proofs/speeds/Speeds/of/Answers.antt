use Rattle.std.proofs.Common.{◌<◌, ◌≤◌, ◌∙◌, ℕ, List, All, length, get_or, sym, subst}
use Rattle.node_maps.specs.declared.ends.End.{End}
use Rattle.node_maps.proofs.EndLists.{on_nodes}
use Rattle.map_state.specs.Speeds.{wanted_by}
use Rattle.map_state.proofs.speeds.Speeds.of.Goals as goal

pub wanted_of-requires : goal.wanted_of-requires
wanted_of-requires c =
    let all : All (λ (e : End). e.node < length c.args.wiring.now.nodes) c.args.ends.now =
    subst (λ (l : List End). All (λ (e : End). e.node < length c.args.wiring.now.nodes) l) (sym c.requires.ends) (on_nodes c.args.wiring.now c.requires.sound) in
    subst (λ (n : ℕ). All (λ (e : End). e.node < n) c.args.ends.now) (sym c.len.ensures) all

pub returns : goal.returns
returns c = record {
  wanted_each = c.in_ok-wanted.ensures.one_each ∙ c.len.ensures;
  least_each = c.in_ok-least.ensures.one_each;
  wanted = subst (λ (l : List End). (k : ℕ) (d : End) → k < length l → wanted_by (get_or l k d) ≤ get_or c.in_ok-wanted.wanted.items (get_or l k d).node 0) c.requires.ends c.in_ok-wanted.ensures.each;
  least = c.in_ok-least.ensures.each;
  small = c.in_ok-least.ensures.small;
}
