use Rattle.std.proofs.Common.{◌∙◌, sym}
use Rattle.node_maps.proofs.Assembled.{no_map}
use Rattle.map_state.proofs.state.MapState.serve_anew.Goals as goal

pub returns-then-not-branch-clause-none : goal.returns-then-not-branch-clause-none
returns-then-not-branch-clause-none c = λ is.
    let x = c.args.search.now.mapper in
    no_map x.lab.now x.free.now x.wiring.now c.args.self.now.mapping.places (λ plugs all.
    let both = sym (all.shared c.args.node.0 c.requires.node) ∙ sym c.in_ok-may_share.ensures ∙ c.if-not-branch.true in
    absurd (cc both))

pub is_overfull-requires-clause-state : goal.is_overfull-requires-clause-state
is_overfull-requires-clause-state c = c.requires.state

pub may_share-requires-clause-state : goal.may_share-requires-clause-state
may_share-requires-clause-state c = c.requires.state

pub give_anew-requires-clause-state : goal.give_anew-requires-clause-state
give_anew-requires-clause-state c = c.requires.state

pub returns-then-is_overfull-clause-state : goal.returns-then-is_overfull-clause-state
returns-then-is_overfull-clause-state c = c.requires.state

pub returns-then-not-branch-clause-state : goal.returns-then-not-branch-clause-state
returns-then-not-branch-clause-state c = c.requires.state

pub returns-then-is_overfull-clause-none : goal.returns-then-is_overfull-clause-none
returns-then-is_overfull-clause-none c = λ is. c.is_overfull.ensures.none c.if-is_overfull.true

pub returns-clause-state : goal.returns-clause-state
returns-clause-state c = c.in_ok-yes.ensures.state

pub returns-clause-served : goal.returns-clause-served
returns-clause-served c = λ is. c.in_ok-yes.ensures.served is (sym c.in_ok-may_share.ensures ∙ c.if-not-branch.false)
