use Rattle.std.specs.Prelude.{is_none}
use Rattle.std.proofs.Common.{◌≡◌, ℕ, ◌+◌, List, [], ◌∷◌, ◌++◌, Option, map, sym, ap, ◌∙◌, arith, refl}
use Rattle.lab_base.specs.declared.ids.VlanId.{VlanId}
use Rattle.claims.proofs.Counting.{id_taken, id_passed, ids_enough, none_if, some_if}
use Rattle.claims.proofs.left.first_free.Goals as goal
use Rattle.claims.proofs.left.first_free.Goals.{then-is_none+then-len-count+in_ok-push, else-is_none, else-is_none-via-then-is_none+else-len-count, else-is_none-via-else-is_none}

pub loop-at-preserved : goal.loop-at-preserved
loop-at-preserved c =
    let owners = c.args.owners.now in
    let at = c.loop-at.at in
    let d = c.index-owners-at.result in
    elim c.if-is_none.branch [
      | then-is_none+then-len-count+in_ok-push w ↦
          let pushed : c.if-is_none.tags ≡ c.loop-at.tags ++ record { 0 = c.args.first + at } ∷ [] = w.tags-is ∙ w.in_ok-push.ensures.ok in
          ap (λ (l : List VlanId). map (λ t. t.0) l) pushed
          ∙ id_taken c.args.count c.args.first at c.loop-at.tags owners d c.loop-at-test.true c.loop-at.invariant (record { 0 = c.args.first + at }) refl (ap (λ (o : Option (List ℕ)). is_none o) (sym c.index-owners-at.is) ∙ none_if d w.if-is_none.ensures) (omega (arith, w.if-len-count.true, w.len.ensures))
      | else-is_none w ↦
          ap (λ (l : List VlanId). map (λ t. t.0) l) w.tags-is
          ∙ elim w.else-is_none.branch [
            | else-is_none-via-then-is_none+else-len-count w' ↦ ids_enough c.args.count c.args.first at c.loop-at.tags owners d c.loop-at-test.true c.loop-at.invariant (omega (arith, w'.if-len-count.false, w'.len.ensures))
            | else-is_none-via-else-is_none w' ↦ id_passed c.args.count c.args.first at c.loop-at.tags owners d c.loop-at-test.true c.loop-at.invariant (ap (λ (o : Option (List ℕ)). is_none o) (sym c.index-owners-at.is) ∙ some_if d w'.if-is_none.ensures)
          ]
    ]
