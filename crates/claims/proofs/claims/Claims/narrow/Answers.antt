use Rattle.std.proofs.Common.{◌≡◌, List, Option, None, sym, ap, ◌∙◌, subst, arith}
use Rattle.claims.specs.declared.claim.Claim.{Claim}
use Rattle.claims.specs.declared.claim.Entry.{Entry}
use Rattle.claims.specs.Held.{Held, claim_named}
use Rattle.claims.specs.Adding.{side_of, narrowed_to, narrowed_side}
use Rattle.claims.specs.Kept.{MayStand, held_in}
use Rattle.claims.proofs.Entries.{others_all}
use Rattle.claims.proofs.Standing.{side_stands}
use Rattle.claims.proofs.claims.Claims.narrow.Goals as goal

pub put_on-requires-clause-kept : goal.put_on-requires-clause-kept
put_on-requires-clause-kept c =
    let range = c.self.inside.range in
    let kbps = c.self.inside.kbps.items in
    let es = c.self.inside.entries.items in
    let tables = c.self.inside.tables in
    let after = c.take_off.new.tables in
    let may = side_stands range kbps es tables after c.args.exp c.args.keep_new c.in-Some.claim c.self.invariant.keeps c.take_off.ensures.nodes (sym c.in-Some.ensures.claim) in (
      kbps,
      c.take_off.ensures.kept kbps c.self.invariant.keeps,
      subst (λ (d : Claim). MayStand (held_in range kbps c.take_off.new.entries.items after) c.args.exp d) (sym c.side.ensures)
          (subst (λ (l : List Entry). MayStand (held_in range kbps l after) c.args.exp (side_of c.args.keep_new c.in-Some.claim)) (sym c.take_off.ensures.entries) may),
    )

pub invariant_of-self : goal.invariant_of-self
invariant_of-self c =
    let range = c.self.inside.range in
    let kbps = c.self.inside.kbps.items in
    let es = c.self.inside.entries.items in
    let tables = c.self.inside.tables in
    let after = c.take_off.new.tables in
    let may = side_stands range kbps es tables after c.args.exp c.args.keep_new c.in-Some.claim c.self.invariant.keeps c.take_off.ensures.nodes (sym c.in-Some.ensures.claim) in
    record {
      keeps = c.put_on.ensures.kept kbps (c.take_off.ensures.kept kbps c.self.invariant.keeps)
          (subst (λ (d : Claim). MayStand (held_in range kbps c.take_off.new.entries.items after) c.args.exp d) (sym c.side.ensures)
          (subst (λ (l : List Entry). MayStand (held_in range kbps l after) c.args.exp (side_of c.args.keep_new c.in-Some.claim)) (sym c.take_off.ensures.entries) may));
      room = omega (arith, c.self.invariant.room, c.take_off.ensures.capacity, c.put_on.ensures.capacity);
    }

pub returns-in_default : goal.returns-in_default
returns-in_default c =
    let es = c.self.inside.entries.items in
    let none : claim_named c.args.exp es ≡ None = sym c.in_default.ensures.claim in
    let rest = c.take_off.ensures.entries ∙ others_all c.args.exp es none in
    let same : held_in c.self.inside.range c.self.inside.kbps.items c.take_off.new.entries.items c.take_off.new.tables ≡ c.args.self.now =
    (λ i. let h : Held = record { range = c.self.inside.range; nodes = c.take_off.ensures.nodes i; kbps = c.self.inside.kbps.items; entries = rest i } in h) ∙ c.self.view_is in
    same ∙ sym (ap (λ (o : Option Claim). narrowed_to (narrowed_side c.args.keep_new o) c.args.exp c.args.self.now) (subst (λ (h : Held). claim_named c.args.exp h.entries ≡ None) c.self.view_is none))
