use Rattle.std.proofs.Common.{◌≡◌, ◌≤◌, ◌<◌, ◌∙◌, ◌+◌, ◌∷◌, ℕ, suc, List, Bool, true, length, drop, get_or, ap, sym, subst, arith}
use Rattle.std.specs.Option.{option_and_then}
use Rattle.std.proofs.Math.Seq.{drop-cons}
use Rattle.std.proofs.lemmas.List.{get_or_default}
use Rattle.virt_topo.specs.declared.loads.Load.{Load}
use Rattle.node_maps.specs.declared.ends.End.{End}
use Rattle.node_maps.specs.NodeMaps.{laid_from}
use Rattle.node_maps.specs.Indexed.{Adds}
use Rattle.node_maps.proofs.PlugLaws.{more_all}
use Rattle.node_maps.proofs.ifaces.give.Goals as goal

abbrev no_end : End
no_end = record { node = 0; segment = 0; multiplexed = Rattle.std.proofs.Common.false; kbps = 0 }

pub loop-end-preserved : goal.loop-end-preserved
loop-end-preserved c =
    let lab = c.args.lab.now in
    let places = c.args.places.now in
    let es = c.args.ends.now in
    let n = c.loop-end.end-index in
    let inv = c.loop-end.invariant in
    let lt : n < length es = c.loop-end-test.true in
    let e : End = get_or es n no_end in
    let adds = c.in_ok-add.ensures.adds inv.had inv.marks (record { some = c.requires.ends.some n no_end lt; rising = inv.rising n no_end (omega arith) lt }) in
    let one : Adds lab places e inv.had c.add.new.self true = subst (λ (b : Bool). Adds lab places e inv.had c.add.new.self b) c.if-not-branch.false adds in
    let next : suc n ≡ n + 1 = omega arith in
    let step : drop n es ≡ e ∷ drop (n + 1) es = drop-cons es n no_end lt ∙ ap (λ (j : ℕ). e ∷ drop j es) next in
    record {
      had = one.0;
      marks = one.2;
      rest = sym (ap (λ (l : List End). laid_from lab places l inv.had) step ∙ ap (λ o. option_and_then (λ laid. laid_from lab places (drop (n + 1) es) laid) o) one.1) ∙ inv.rest;
      rising = λ k d le less. more_all (λ (y : Load). y.segment ≤ (get_or es k d).segment) lab places e inv.had one.0 one.1 (inv.rising k d (omega (arith, le)) less) (omega (arith, c.requires.ends.rising n k d (omega (arith, le)) less, ap (λ (x : End). x.segment) (get_or_default es n no_end d lt)));
    }
