use Rattle.std.proofs.Common.{◌≡◌, ◌∙◌, ℕ, get_or, sym, ap, arith}
use Rattle.std.specs.Prelude.{nat_lt}
use Rattle.std.proofs.lemmas.List.{get_or_default}
use Rattle.cost_rule.specs.Cost.{types_of}
use Rattle.map_state.proofs.MemberLaws.{any_counted, class_within}
use Rattle.map_state.proofs.members.Members.has_kind.Goals as goal

pub returns-in-Some : goal.returns-in-Some
returns-in-Some c =
    let w = c.args.wiring.now in
    let kind = c.args.kind.now in
    let items = c.args.self.now.counts.items in
    let n = c.in-Some.place in
    let place = sym c.requires.at ∙ c.in-Some.is in
    let room = c.requires.counted.room in
    let within = class_within w c.args.class n kind c.requires.sound c.requires.class place in
    let here : ◌≡◌ {A = ℕ} c.index.result.now (get_or items n 0) = c.index.ensures ∙ get_or_default items n c.index.result.now 0 (omega (arith, within, room)) in
    let counted = c.requires.counted.each c.args.class n kind c.requires.class place in
    ap (nat_lt 0) (here ∙ counted) ∙ sym (any_counted kind (types_of c.args.class w.nodes c.args.mapping.now.places))
