use Rattle.std.proofs.Common.{◌≡◌, ◌<◌, ◌≤◌, Bool, List, Err, length, ap, sym, ◌∙◌, subst, if◌then◌else◌}
use Rattle.std.specs.Cmp.Lexicographic.{slice_cmp}
use Rattle.std.specs.List.{find, insert, HoldsAt}
use Rattle.std.specs.List.Sorted.{IsBinarySearchResult}
use Rattle.std.specs.Ordering.{nat_cmp}
use Rattle.std.specs.Prelude.{is_ok}
use Rattle.std.specs.declared.cmp.Ordering.TheVariants.{Equal}
use Rattle.plant_mem.specs.Boots.{is_of, NodesRise}
use Rattle.plant_mem.specs.declared.nodes.NodeState.{NodeState}
use Rattle.plant_mem.proofs.NodeLaws.{node_set, node_rise_set, node_insert, node_rise_insert}
use Rattle.plant_mem.proofs.nodes.put.Goals as goal

pub returns-in-Ok-clause-rise : goal.returns-in-Ok-clause-rise
returns-in-Ok-clause-rise c =
    let lt = subst (λ (l : List NodeState). c.in-Ok.at < length l) c.deref.ensures.value c.in-Ok.ensures.bound in
    let is = subst (λ (l : List NodeState). HoldsAt (λ e. slice_cmp nat_cmp e.node c.args.entry.node ≡ Equal) l c.in-Ok.at) c.deref.ensures.value c.in-Ok.ensures.place in
    node_rise_set c.args.nodes.now.items c.requires.rise c.in-Ok.at c.args.entry lt is

pub returns-in-Ok-clause-found : goal.returns-in-Ok-clause-found
returns-in-Ok-clause-found c name =
    let lt = subst (λ (l : List NodeState). c.in-Ok.at < length l) c.deref.ensures.value c.in-Ok.ensures.bound in
    let is = subst (λ (l : List NodeState). HoldsAt (λ e. slice_cmp nat_cmp e.node c.args.entry.node ≡ Equal) l c.in-Ok.at) c.deref.ensures.value c.in-Ok.ensures.place in
    node_set c.args.nodes.now.items c.requires.rise c.in-Ok.at c.args.entry lt is name

pub returns-in-Err-clause-rise : goal.returns-in-Err-clause-rise
returns-in-Err-clause-rise c =
    let items = c.args.nodes.now.items in
    let at = c.in-Err.at in
    let le = subst (λ (l : List NodeState). at ≤ length l) c.deref.ensures.value c.in-Err.ensures.bound in
    let found = subst (λ (l : List NodeState). IsBinarySearchResult (λ e. slice_cmp nat_cmp e.node c.args.entry.node) l (Err at)) c.deref.ensures.value c.in-Err.ensures.place in
    let inserted : c.insert.new.self.items ≡ insert items at c.args.entry = c.insert.ensures.items ∙ ap (λ (b : Bool). if b then insert items at c.args.entry else items) (ap is_ok c.unwrap.ensures) in
    subst NodesRise (sym inserted) (node_rise_insert items c.requires.rise at c.args.entry le found)

pub returns-in-Err-clause-found : goal.returns-in-Err-clause-found
returns-in-Err-clause-found c name =
    let items = c.args.nodes.now.items in
    let at = c.in-Err.at in
    let le = subst (λ (l : List NodeState). at ≤ length l) c.deref.ensures.value c.in-Err.ensures.bound in
    let found = subst (λ (l : List NodeState). IsBinarySearchResult (λ e. slice_cmp nat_cmp e.node c.args.entry.node) l (Err at)) c.deref.ensures.value c.in-Err.ensures.place in
    let inserted : c.insert.new.self.items ≡ insert items at c.args.entry = c.insert.ensures.items ∙ ap (λ (b : Bool). if b then insert items at c.args.entry else items) (ap is_ok c.unwrap.ensures) in
    ap (λ (l : List NodeState). find (is_of name) l) inserted ∙ node_insert items c.requires.rise at c.args.entry le found name
