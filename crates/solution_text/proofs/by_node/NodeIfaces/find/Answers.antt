use Rattle.std.proofs.Common.{◌≡◌, ◌<◌, ◌≤◌, ◌+◌, ℕ, false, true, List, length, get_or, sym, ap, subst, ◌∙◌, arith}
use Rattle.std.specs.List.{position}
use Rattle.std.proofs.lemmas.List.{get_or_default, get_or_read}
use Rattle.lab_base.specs.Names.{same_name}
use Rattle.phys_lab.specs.declared.parts.Iface.{Iface}
use Rattle.lab_model.specs.Uses.{no_iface}
use Rattle.solution_text.specs.Names.{next_on}
use Rattle.solution_text.proofs.Listed.{of_name, sought_first, sought_found, sought_next, sought_none}
use Rattle.solution_text.proofs.by_node.NodeIfaces.find.Goals as goal

pub loop-number-init : goal.loop-number-init
loop-number-init c =
    let xs = c.ifaces-ifaces.result.now in
    let lists = c.requires.lists in
    let first = c.args.self.now.first.items in
    let within : c.args.node < length first = subst (λ (m : ℕ). c.args.node < m) (sym lists.nodes) c.requires.node in
    sought_first xs c.args.node c.args.name c.index.result.now
    (get_or_read first c.args.node c.index.result.now within c.index.ensures 0 ∙ lists.first c.args.node c.requires.node ∙ ap (λ (l : List Iface). next_on l c.args.node 0) (sym c.ifaces-ifaces.ensures.list))

pub returns-then-eq : goal.returns-then-eq
returns-then-eq c =
    let xs = c.ifaces-ifaces.result.now in
    let n = c.loop-number.number in
    let lt : n < length xs = omega arith in
    let read = get_or_default xs n no_iface c.index-ifaces-number.result lt in
    let same : same_name c.args.name (get_or xs n no_iface).name ≡ true = ap (λ (i : Iface). same_name c.args.name i.name) read ∙ sym c.eq.ensures ∙ c.if-eq.true in
    sym (sought_found xs c.args.node c.args.name n c.loop-number.invariant lt same) ∙ ap (λ (l : List Iface). position (of_name c.args.node c.args.name) l) c.ifaces-ifaces.ensures.list

pub loop-number-preserved : goal.loop-number-preserved
loop-number-preserved c =
    let xs = c.ifaces-ifaces.result.now in
    let n = c.loop-number.number in
    let lists = c.requires.lists in
    let listed = c.ifaces-ifaces.ensures.list in
    let nexts = c.args.self.now.next.items in
    let lt : n < length xs = omega arith in
    let read = get_or_default xs n no_iface c.index-ifaces-number.result lt in
    let other : same_name c.args.name (get_or xs n no_iface).name ≡ false = ap (λ (i : Iface). same_name c.args.name i.name) read ∙ sym c.eq.ensures ∙ c.if-eq.false in
    let of_lab : n < length c.args.lab.now.ifaces = subst (λ (l : List Iface). n < length l) listed lt in
    let within : n < length nexts = subst (λ (m : ℕ). n < m) (sym lists.ifaces) of_lab in
    sought_next xs c.args.node c.args.name n c.index-in-loop-number.result.now c.loop-number.invariant lt other
    (get_or_read nexts n c.index-in-loop-number.result.now within c.index-in-loop-number.ensures 0 ∙ lists.next n of_lab
    ∙ ap (λ (l : List Iface). next_on l (get_or l n no_iface).node.0 (n + 1)) (sym listed))

pub returns : goal.returns
returns c =
    let xs = c.ifaces-ifaces.result.now in
    let le : length xs ≤ c.loop-number.number = omega arith in
    sym (sought_none xs c.args.node c.args.name c.loop-number.number c.loop-number.invariant le) ∙ ap (λ (l : List Iface). position (of_name c.args.node c.args.name) l) c.ifaces-ifaces.ensures.list
