use Rattle.std.proofs.Common.{◌≡◌, List, [], ◌++◌, drop, length, ap, sym, ◌∙◌, arith}
use Rattle.std.proofs.lemmas.List.{drop_all, append-nil}
use Rattle.virt_topo.specs.declared.wiring.Pipe.{Pipe}
use Rattle.ns_events.specs.Pipes.{is_of}
use Rattle.ns_events.specs.Renewed.{renewed, renewed_pipe}
use Rattle.ns_events.proofs.Renewing.{none_left}
use Rattle.ns_events.proofs.applied.renewed_pipes.Goals as goal

pub returns : goal.returns
returns c =
    let own = is_of c.args.now.now c.args.event.now.link in
    let new = renewed_pipe c.args.event.now.what (length c.args.text.now) in
    let items = c.as_slice-pipe-items.result.now in
    let left = c.loop-pipe.left.now in
    let done : drop c.loop-pipe.pipe-index items ≡ [] = drop_all c.loop-pipe.pipe-index items (omega arith) in
    sym (append-nil c.loop-pipe.pipes) ∙ ap (λ (l : List Pipe). c.loop-pipe.pipes ++ l) (sym (ap (λ (l : List Pipe). renewed own new l left) done ∙ none_left own new left))
    ∙ c.loop-pipe.invariant ∙ ap (λ (l : List Pipe). renewed own new l c.args.text.now) c.as_slice-pipe-items.ensures
