use Rattle.std.proofs.Common.{sym, subst}
use Rattle.lab_look.specs.declared.looked.Looked.{Looked}
use Rattle.lab_look.specs.Looks.{IsLook}
use Rattle.lab_grow.specs.Outcomes.{IsOver}
use Rattle.lab_grow.proofs.Coming.{over_sides}
use Rattle.lab_grow.proofs.sides.carry_over.Goals as goal

pub returns-in-Some : goal.returns-in-Some
returns-in-Some c =
    let a = c.args.a.now in
    let b = c.args.b.now in
    let s = c.in-Ok-Found.state.state in
    let old = c.in-Some.old.now in
    let stands = subst (λ (x : Looked). IsLook a b x) c.in-Ok-Found.field-0-is c.in-Ok-Found.ensures in
    let over : IsOver a b s old = record { side = c.in-Ok-Found.field-0-0; walked = c.in-Ok-Found.field-0-1; stands = stands; old_is = sym c.in-Some.ensures.lab } in
    over_sides a b c.args.ptop.now s old c.carry_to.result over c.carry_to.ensures
