use Rattle.std.proofs.Common.{◌≡◌, ◌<◌, ◌≤◌, Bool, List, Err, length, ap, sym, ◌∙◌, subst, if◌then◌else◌}
use Rattle.std.specs.List.{insert, HoldsAt}
use Rattle.std.specs.List.Sorted.{IsBinarySearchResult}
use Rattle.std.specs.Prelude.{is_ok}
use Rattle.std.specs.declared.cmp.Ordering.TheVariants.{Equal}
use Rattle.plant_mem.specs.Pipes.{key_of, pipe_cmp, pipe_in, PipesRise}
use Rattle.plant_mem.specs.declared.pipes.PipeState.{PipeState}
use Rattle.plant_mem.proofs.PipeLaws.{pipe_set, pipe_rise_set, pipe_insert, pipe_rise_insert}
use Rattle.plant_mem.proofs.pipes.put.Goals as goal

pub returns-in-Ok-clause-rise : goal.returns-in-Ok-clause-rise
returns-in-Ok-clause-rise c =
    let lt = subst (λ (l : List PipeState). c.in-Ok.at < length l) c.deref.ensures.value c.in-Ok.ensures.bound in
    let is = subst (λ (l : List PipeState). HoldsAt (λ e. pipe_cmp (key_of e) (key_of c.args.entry) ≡ Equal) l c.in-Ok.at) c.deref.ensures.value c.in-Ok.ensures.place in
    pipe_rise_set c.args.pipes.now.items c.requires.rise c.in-Ok.at c.args.entry lt is

pub returns-in-Ok-clause-found : goal.returns-in-Ok-clause-found
returns-in-Ok-clause-found c name k =
    let lt = subst (λ (l : List PipeState). c.in-Ok.at < length l) c.deref.ensures.value c.in-Ok.ensures.bound in
    let is = subst (λ (l : List PipeState). HoldsAt (λ e. pipe_cmp (key_of e) (key_of c.args.entry) ≡ Equal) l c.in-Ok.at) c.deref.ensures.value c.in-Ok.ensures.place in
    pipe_set c.args.pipes.now.items c.requires.rise c.in-Ok.at c.args.entry lt is name k

pub returns-in-Err-clause-rise : goal.returns-in-Err-clause-rise
returns-in-Err-clause-rise c =
    let items = c.args.pipes.now.items in
    let at = c.in-Err.at in
    let le = subst (λ (l : List PipeState). at ≤ length l) c.deref.ensures.value c.in-Err.ensures.bound in
    let found = subst (λ (l : List PipeState). IsBinarySearchResult (λ e. pipe_cmp (key_of e) (key_of c.args.entry)) l (Err at)) c.deref.ensures.value c.in-Err.ensures.place in
    let inserted : c.insert.new.self.items ≡ insert items at c.args.entry = c.insert.ensures.items ∙ ap (λ (b : Bool). if b then insert items at c.args.entry else items) (ap is_ok c.unwrap.ensures) in
    subst PipesRise (sym inserted) (pipe_rise_insert items c.requires.rise at c.args.entry le found)

pub returns-in-Err-clause-found : goal.returns-in-Err-clause-found
returns-in-Err-clause-found c name k =
    let items = c.args.pipes.now.items in
    let at = c.in-Err.at in
    let le = subst (λ (l : List PipeState). at ≤ length l) c.deref.ensures.value c.in-Err.ensures.bound in
    let found = subst (λ (l : List PipeState). IsBinarySearchResult (λ e. pipe_cmp (key_of e) (key_of c.args.entry)) l (Err at)) c.deref.ensures.value c.in-Err.ensures.place in
    let inserted : c.insert.new.self.items ≡ insert items at c.args.entry = c.insert.ensures.items ∙ ap (λ (b : Bool). if b then insert items at c.args.entry else items) (ap is_ok c.unwrap.ensures) in
    ap (λ (l : List PipeState). pipe_in name k l) inserted ∙ pipe_insert items c.requires.rise at c.args.entry le found name k
