-- The size of a plan, by the rows, nodes and pipes of its mappings.
use Rattle.std.specs.Prelude.{filter}
use Rattle.std.specs.List.{flat_map, enumerate_from}
use Rattle.std.proofs.Common.{◌≡◌, ℕ, ◌+◌, ◌*◌, ◌≤◌, Bool, true, false, cond, not, ◌&&◌, ◌||◌, List, [], ◌∷◌, ◌++◌, length, map, Option, Some, None, refl, ◌∙◌, arith, length-append}
use Rattle.std.proofs.lemmas.List.{length-map}
use Rattle.std.proofs.lemmas.List.FromFn.{length-enumerate_from}
use Rattle.phys_lab.specs.Labs.{Lab}
use Rattle.virt_topo.specs.declared.mapping.Mapped.{Mapped}
use Rattle.plant.specs.declared.device.DeviceOp.{DeviceOp}
use Rattle.plant.specs.declared.device.DeviceOp.TheVariants.{Wipe}
use Rattle.lab_model.specs.Claims.{is_placed, places_it}
use Rattle.lab_model.specs.Courses.{Plan, commands, undo, fresh, join, leave, load_node, load_nodes, node_names, rows_from, shape, whole}
use Rattle.lab_model.specs.Kept.{is_kept}
use Rattle.lab_model.specs.Wants.{pipes_on}
use Rattle.swap_turns.specs.Legs.{plan_by}
use Rattle.swap_turns.specs.Weights.{commands_left}
use Rattle.complete.specs.Bounds.{most_by, nodes_in, pipes_in}

-- FEWER of a list pass where a further test is asked for
module _ {X : Type 0} where
  few_step : (x : X) (b c : Bool) (ls ms : List X) → length ls ≤ length ms → length (cond (b && c) (x ∷ ls) ls) ≤ length (cond b (x ∷ ms) ms)
  few_step x true true ls ms few = omega (arith, few)
  few_step x true false ls ms few = omega (arith, few)
  few_step x false c ls ms few = few

  fewer : (p q : X → Bool) (xs : List X) → length (filter (λ x. p x && q x) xs) ≤ length (filter p xs)
  fewer p q [] = omega arith
  fewer p q (x ∷ xs) = few_step x (p x) (q x) _ _ (fewer p q xs)

  either_step : (x : X) (a b c : Bool) (ls ms ns : List X) → length ls ≤ length ms + length ns → length (cond ((a || b) && c) (x ∷ ls) ls) ≤ length (cond a (x ∷ ms) ms) + length (cond b (x ∷ ns) ns)
  either_step x true true true ls ms ns few = omega (arith, few)
  either_step x true true false ls ms ns few = omega (arith, few)
  either_step x true false true ls ms ns few = omega (arith, few)
  either_step x true false false ls ms ns few = omega (arith, few)
  either_step x false true true ls ms ns few = omega (arith, few)
  either_step x false true false ls ms ns few = omega (arith, few)
  either_step x false false c ls ms ns few = few

  either : (p q r : X → Bool) (xs : List X) → length (filter (λ x. (p x || q x) && r x) xs) ≤ length (filter p xs) + length (filter q xs)
  either p q r [] = omega arith
  either p q r (x ∷ xs) = either_step x (p x) (q x) (r x) _ _ _ (either p q r xs)

  none_pass : (xs : List X) → length (filter (λ x. false) xs) ≡ 0
  none_pass [] = refl
  none_pass (x ∷ xs) = none_pass xs

-- THE COMMANDS that load nodes: one for each, and one for each of its pipes
module _ (lab : Lab) (m : Mapped) where
  load_one : (name : List ℕ) → length (load_node lab m name) ≡ length (pipes_on lab m name) + 1
  load_one name = omega (arith, length-map (enumerate_from 0 (pipes_on lab m name)) (shape name), length-enumerate_from 0 (pipes_on lab m name))

  load_step : (name : List ℕ) (b c : Bool) (ls ms : List (List ℕ)) → length (flat_map (load_node lab m) ls) ≤ length ms + length (flat_map (pipes_on lab m) ms)
      → length (flat_map (load_node lab m) (cond (b && c) (name ∷ ls) ls)) ≤ length (cond b (name ∷ ms) ms) + length (flat_map (pipes_on lab m) (cond b (name ∷ ms) ms))
  load_step name true true ls ms few =
      omega (arith, few, load_one name, length-append (load_node lab m name) (flat_map (load_node lab m) ls), length-append (pipes_on lab m name) (flat_map (pipes_on lab m) ms))
  load_step name true false ls ms few = omega (arith, few, length-append (pipes_on lab m name) (flat_map (pipes_on lab m) ms))
  load_step name false c ls ms few = few

  loads : (p q : List ℕ → Bool) (names : List (List ℕ)) → length (flat_map (load_node lab m) (filter (λ n. p n && q n) names)) ≤ length (filter p names) + length (flat_map (pipes_on lab m) (filter p names))
  loads p q [] = omega arith
  loads p q (n ∷ names) = load_step n (p n) (q n) _ _ (loads p q names)

module _ (lab : Lab) (old new : Option Mapped) where
  -- the nodes of a side that aren't kept
  fresh_few : (side : Option Mapped) → length (fresh lab old new side) ≤ nodes_in lab side
  fresh_few None = omega (arith, none_pass (node_names lab))
  fresh_few (Some m) = fewer (places_it lab m) (λ name. not (is_kept lab old new name)) (node_names lab)

  load_few : (side : Option Mapped) → length (load_nodes lab side (fresh lab old new side)) ≤ nodes_in lab side + pipes_in lab side
  load_few None = omega arith
  load_few (Some m) = loads lab m (places_it lab m) (λ name. not (is_kept lab old new name)) (node_names lab)

  side_few : (side : Option Mapped) → length (filter (is_placed lab side) (node_names lab)) ≤ nodes_in lab side
  side_few None = omega (arith, none_pass (node_names lab))
  side_few (Some m) = omega arith

  left_size : (todo : List DeviceOp) (boot : List (List ℕ)) → commands_left (record { todo = todo; boot = boot; watch = None }) ≡ length todo + 65 * length boot
  left_size todo boot = omega arith

  size_is : (plan : Plan) → commands_left (whole plan) ≡ (length plan.clear + (length plan.cable + length plan.load)) + 65 * length plan.boot
  size_is plan = left_size ((plan.clear ++ plan.cable) ++ plan.load) plan.boot ∙ omega (arith, length-append (plan.clear ++ plan.cable) plan.load, length-append plan.clear plan.cable)

  abbrev both : List (List ℕ)
  both = filter (λ name. (is_placed lab old name || is_placed lab new name) && not (is_kept lab old new name)) (node_names lab)

  -- A PLAN HAS AT MOST SO MANY COMMANDS, each Boot with 64 Polls
  pub plan_size : (forth : Bool) → commands_left (whole (plan_by lab old new forth)) ≤ most_by lab old new forth
  plan_size true = omega (
    arith,
    size_is (commands lab old new),
    length-append (map leave (rows_from lab old)) (map Wipe (fresh lab old new old)),
    length-map (rows_from lab old) leave,
    length-map (fresh lab old new old) Wipe,
    length-map (rows_from lab new) join,
    fresh_few old,
    load_few new,
    fresh_few new,
  )
  plan_size false = omega (
    arith,
    size_is (undo lab old new),
    length-append (map leave (rows_from lab new)) (map Wipe both),
    length-map (rows_from lab new) leave,
    length-map both Wipe,
    length-map (rows_from lab old) join,
    either (is_placed lab old) (is_placed lab new) (λ name. not (is_kept lab old new name)) (node_names lab),
    side_few old,
    side_few new,
    load_few old,
    fresh_few old,
  )
