use Rattle.std.proofs.Common.{ℕ, ◌+◌, ◌++◌, List, [], ◌∷◌, Option, drop, get_or, append_assoc, sym, ap, ◌∙◌, arith}
use Rattle.lab_base.specs.declared.ids.NodeId.{NodeId}
use Rattle.lab_ahead.specs.SearchTrees.{given_of, owner_at}
use Rattle.lab_ahead.proofs.GivenLaws.{given_at, none_from, pair_of}
use Rattle.lab_ahead.proofs.fitting.given_of.Goals as goal
use Rattle.lab_ahead.proofs.fitting.given_of.Goals.{in-Some+in_ok-push, in_default}

pub loop-i-preserved : goal.loop-i-preserved
loop-i-preserved c =
    let left = c.args.left.now in
    let owners = c.args.owners.now in
    let i = c.loop-i.i in
    let node = get_or left i (record { 0 = 0 }) in
    let rest = given_of (drop (i + 1) left) (drop (i + 1) owners) in
    let here = given_at left owners i (record { 0 = 0 }) c.loop-i-test.true (omega (arith, c.loop-i-test.true, c.requires)) in
    elim c.match-owners-i.branch [
      | in-Some+in_ok-push w ↦
          let step = here ∙ ap (λ (o : Option ℕ). pair_of node o ++ rest) w.in-Some.is in
          ap (λ (l : List (NodeId × ℕ)). l ++ rest) (w.given-is ∙ w.in_ok-push.ensures.ok)
          ∙ append_assoc c.loop-i.given ((node, w.in-Some.need) ∷ []) rest ∙ ap (λ (l : List (NodeId × ℕ)). c.loop-i.given ++ l) (sym step) ∙ c.loop-i.invariant
      | in_default w ↦
          let step = here ∙ ap (λ (o : Option ℕ). pair_of node o ++ rest) (none_from (owner_at owners i) w.in_default.not-Some) in
          ap (λ (l : List (NodeId × ℕ)). l ++ rest) w.given-is ∙ ap (λ (l : List (NodeId × ℕ)). c.loop-i.given ++ l) (sym step) ∙ c.loop-i.invariant
    ]
