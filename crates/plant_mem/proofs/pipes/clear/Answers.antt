use Rattle.std.proofs.Common.{◌≡◌, ◌<◌, List, None, Err, length, subst}
use Rattle.std.specs.List.{HoldsAt}
use Rattle.std.specs.List.Sorted.{IsBinarySearchResult}
use Rattle.std.specs.declared.cmp.Ordering.TheVariants.{Equal}
use Rattle.plant_mem.specs.Pipes.{key_of, pipe_cmp}
use Rattle.plant_mem.specs.declared.pipes.PipeState.{PipeState}
use Rattle.plant_mem.proofs.PipeLaws.{absent_is, pipe_not_found, pipe_set, pipe_rise_set}
use Rattle.plant_mem.proofs.pipes.clear.Goals as goal

pub returns-in-Ok-clause-rise : goal.returns-in-Ok-clause-rise
returns-in-Ok-clause-rise c =
    let lt = subst (λ (l : List PipeState). c.in-Ok.at < length l) c.deref.ensures.value c.in-Ok.ensures.bound in
    let is = subst (λ (l : List PipeState). HoldsAt (λ e. pipe_cmp (key_of e) (c.args.node.now, c.args.number) ≡ Equal) l c.in-Ok.at) c.deref.ensures.value c.in-Ok.ensures.place in
    pipe_rise_set c.args.pipes.now.items c.requires.rise c.in-Ok.at (record { node = c.args.node.now; number = c.args.number; row = None }) lt is

pub returns-in-Ok-clause-found : goal.returns-in-Ok-clause-found
returns-in-Ok-clause-found c name k =
    let lt = subst (λ (l : List PipeState). c.in-Ok.at < length l) c.deref.ensures.value c.in-Ok.ensures.bound in
    let is = subst (λ (l : List PipeState). HoldsAt (λ e. pipe_cmp (key_of e) (c.args.node.now, c.args.number) ≡ Equal) l c.in-Ok.at) c.deref.ensures.value c.in-Ok.ensures.place in
    pipe_set c.args.pipes.now.items c.requires.rise c.in-Ok.at (record { node = c.args.node.now; number = c.args.number; row = None }) lt is name k

pub returns-in-Err-clause-found : goal.returns-in-Err-clause-found
returns-in-Err-clause-found c name k =
    let items = c.args.pipes.now.items in
    let found = subst (λ (l : List PipeState). IsBinarySearchResult (λ e. pipe_cmp (key_of e) (c.args.node.now, c.args.number)) l (Err c.in-Err.field-0)) c.deref.ensures.value c.in-Err.ensures.place in
    absent_is c.args.node.now c.args.number items (pipe_not_found items c.requires.rise c.args.node.now c.args.number c.in-Err.field-0 found) name k
