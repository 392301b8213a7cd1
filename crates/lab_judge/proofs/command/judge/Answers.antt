use Rattle.std.proofs.Common.{arith, length}
use Rattle.script_text.proofs.Blocks.{block_length, block_size}
use Rattle.lab_tasks.specs.OpenNames.{has_open}
use Rattle.lab_tasks.specs.Mappings.{judged_modify_with, judged_swapin_with}
use Rattle.lab_judge.specs.Searches.{JudgedModify, JudgedSwapin}
use Rattle.lab_judge.specs.Judge.{judged_swapout}
use Rattle.lab_judge.proofs.Judgements.{slot_judged, slot_so}
use Rattle.lab_judge.proofs.command.judge.Goals as goal

pub judge_ptop-requires : goal.judge_ptop-requires
judge_ptop-requires g c = rw c.bytes.ensures (block_length c.in-Ptop.lines c.in-Ptop.ptop (rw c.in-Ptop.is at c.requires.blocks))

pub judge_create-requires : goal.judge_create-requires
judge_create-requires g c = rw c.bytes-in-Create.ensures (block_length c.in-Create.lines c.in-Create.ns (rw c.in-Create.is at c.requires.blocks))

pub judge_create_top-requires : goal.judge_create_top-requires
judge_create_top-requires g c = rw c.bytes-in-CreateTop.ensures (block_length c.in-CreateTop.lines c.in-CreateTop.top (rw c.in-CreateTop.is at c.requires.blocks))

pub judge_swapin_with-judged-requires : goal.judge_swapin_with-judged-requires
judge_swapin_with-judged-requires g c = rw c.bytes-in-SwapinWith.ensures (block_length c.in-SwapinWith.lines c.in-SwapinWith.map (rw c.in-SwapinWith.is at c.requires.blocks))

pub judge_modify_with-judged-requires-clause-top : goal.judge_modify_with-judged-requires-clause-top
judge_modify_with-judged-requires-clause-top g c = rw c.bytes-top.ensures (block_length c.in-ModifyWith.top_lines c.in-ModifyWith.top (rw c.in-ModifyWith.is at c.requires.blocks).0)

pub judge_modify_with-judged-requires-clause-map : goal.judge_modify_with-judged-requires-clause-map
judge_modify_with-judged-requires-clause-map g c =
    let size = block_size c.in-ModifyWith.map_lines c.in-ModifyWith.map (rw c.in-ModifyWith.is at c.requires.blocks).1 in
    rw c.bytes-map.ensures (omega (arith, size))

pub returns-in-SwapinWith-clause-judged : goal.returns-in-SwapinWith-clause-judged
returns-in-SwapinWith-clause-judged g c =
    let exp = c.in-SwapinWith.exp in
    let judged = rw c.bytes-in-SwapinWith.ensures at c.judge_swapin_with-judged.ensures.judged in
    rw c.in-SwapinWith.is
    (slot_judged (length c.args.present.now.swaps.now) c.in-SwapinWith.only_begin (judged_swapin_with c.args.present.now.state.now.state (has_open c.args.present.now.swaps.now exp) exp c.in-SwapinWith.map) c.judge_swapin_with-judged.result c.in_slot-in-SwapinWith.result judged c.in_slot-in-SwapinWith.ensures.judged)

pub returns-in-SwapinWith-clause-can : goal.returns-in-SwapinWith-clause-can
returns-in-SwapinWith-clause-can g c = c.in_slot-in-SwapinWith.ensures.can c.args.present.now.state.now.state c.judge_swapin_with-judged.ensures.can

pub returns-in-Swapout-clause-judged : goal.returns-in-Swapout-clause-judged
returns-in-Swapout-clause-judged g c =
    let exp = c.in-Swapout.exp in
    rw c.in-Swapout.is
    (slot_judged (length c.args.present.now.swaps.now) c.in-Swapout.only_begin (judged_swapout c.args.present.now.state.now.state (has_open c.args.present.now.swaps.now exp) exp) c.judge_swapout.result c.in_slot-in-Swapout.result c.judge_swapout.ensures.judged c.in_slot-in-Swapout.ensures.judged)

pub returns-in-Swapout-clause-can : goal.returns-in-Swapout-clause-can
returns-in-Swapout-clause-can g c = c.in_slot-in-Swapout.ensures.can c.args.present.now.state.now.state c.judge_swapout.ensures.can

pub returns-in-ModifyWith-clause-judged : goal.returns-in-ModifyWith-clause-judged
returns-in-ModifyWith-clause-judged g c =
    let exp = c.in-ModifyWith.exp in
    let judged = rw (c.bytes-top.ensures, c.bytes-map.ensures) at c.judge_modify_with-judged.ensures.judged in
    rw c.in-ModifyWith.is
    (slot_judged (length c.args.present.now.swaps.now) c.in-ModifyWith.only_begin (judged_modify_with c.args.present.now.state.now.state (has_open c.args.present.now.swaps.now exp) exp c.in-ModifyWith.top_lines c.in-ModifyWith.top c.in-ModifyWith.map) c.judge_modify_with-judged.result c.in_slot-in-ModifyWith.result judged c.in_slot-in-ModifyWith.ensures.judged)

pub returns-in-ModifyWith-clause-can : goal.returns-in-ModifyWith-clause-can
returns-in-ModifyWith-clause-can g c = c.in_slot-in-ModifyWith.ensures.can c.args.present.now.state.now.state c.judge_modify_with-judged.ensures.can

pub judge_modify-judged-requires : goal.judge_modify-judged-requires
judge_modify-judged-requires g c = rw c.bytes-in-Modify.ensures (block_length c.in-Modify.lines c.in-Modify.ns (rw c.in-Modify.is at c.requires.blocks))

pub returns-in-Swapin-clause-judged : goal.returns-in-Swapin-clause-judged
returns-in-Swapin-clause-judged g c =
    let exp = c.in-Swapin.exp in
    rw c.in-Swapin.is
    (slot_so (length c.args.present.now.swaps.now) c.in-Swapin.only_begin (JudgedSwapin c.args.rule.now.number c.args.present.now.state.now.state (has_open c.args.present.now.swaps.now exp) exp c.in-Swapin.seed) c.judge_swapin-judged.result c.in_slot.result c.judge_swapin-judged.ensures.judged c.in_slot.ensures.judged)

pub returns-in-Swapin-clause-can : goal.returns-in-Swapin-clause-can
returns-in-Swapin-clause-can g c = c.in_slot.ensures.can c.args.present.now.state.now.state c.judge_swapin-judged.ensures.can

pub returns-in-Modify-clause-judged : goal.returns-in-Modify-clause-judged
returns-in-Modify-clause-judged g c =
    let exp = c.in-Modify.exp in
    let judged = rw c.bytes-in-Modify.ensures at c.judge_modify-judged.ensures.judged in
    rw c.in-Modify.is
    (slot_so (length c.args.present.now.swaps.now) c.in-Modify.only_begin (JudgedModify c.args.rule.now.number c.args.present.now.state.now.state (has_open c.args.present.now.swaps.now exp) exp c.in-Modify.seed c.in-Modify.ns) c.judge_modify-judged.result c.in_slot-in-Modify.result judged c.in_slot-in-Modify.ensures.judged)

pub returns-in-Modify-clause-can : goal.returns-in-Modify-clause-can
returns-in-Modify-clause-can g c = c.in_slot-in-Modify.ensures.can c.args.present.now.state.now.state c.judge_modify-judged.ensures.can
