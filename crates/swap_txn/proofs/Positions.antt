-- The position of a course: its stage, and the listed commands after it.
use Rattle.std.proofs.Common.{◌≡◌, ◌<◌, ◌≤◌, ◌+◌, ℕ, List, [], ◌∷◌, ◌++◌, length, drop, Option, Some, None, refl, sym, ap, ◌∙◌, subst, arith}
use Rattle.std.proofs.lemmas.Bool.Decides.{nat_tests}
use Rattle.std.proofs.lemmas.List.{length-drop, length-append, drop-drop, drop-append-le}
use Rattle.plant.specs.declared.device.DeviceOp.{DeviceOp}
use Rattle.lab_model.specs.Courses.{Plan, Left}
use Rattle.swap_txn.specs.declared.stage.Stage.{Stage}
use Rattle.swap_txn.specs.declared.stage.Stage.TheVariants.{Clear, Cable, Load, Boot, Done}
use Rattle.swap_txn.specs.declared.watched.Watched.{Watched}
use Rattle.swap_txn.specs.States.{stage_of, stage_of_boots}
use Rattle.swap_txn.specs.Views.{rest, left_of, watch_of, count_of, IsAt, IsLeftFrom}

-- the stage by how many listed commands are left
clear_is : (plan : Plan) (left : Left) → length plan.cable + length plan.load < length left.todo → stage_of plan left ≡ Clear
clear_is plan left h = grind (arith, nat_tests)

cable_is : (plan : Plan) (left : Left) → length plan.load < length left.todo → length left.todo ≤ length plan.cable + length plan.load → stage_of plan left ≡ Cable
cable_is plan left h k = grind (arith, nat_tests)

load_is : (plan : Plan) (left : Left) → 0 < length left.todo → length left.todo ≤ length plan.load → stage_of plan left ≡ Load
load_is plan left h k = grind (arith, nat_tests)

pub boots_are : (plan : Plan) (left : Left) → length left.todo ≡ 0 → stage_of plan left ≡ stage_of_boots left.watch left.boot
boots_are plan left h = grind (arith, nat_tests)

-- A PLACE TELLS THE STAGE: the first in which something is left
pub stage_is : (plan : Plan) (stage : Stage) (at : ℕ) (w : Option Watched) → IsAt plan stage at w → stage_of plan (left_of plan stage at w) ≡ stage
stage_is plan Clear at w h = clear_is plan (left_of plan Clear at w) (omega (arith, length-append (drop at plan.clear ++ plan.cable) plan.load, length-append (drop at plan.clear) plan.cable, length-drop at plan.clear))
stage_is plan Cable at w h = cable_is plan (left_of plan Cable at w) (omega (arith, length-append (drop at plan.cable) plan.load, length-drop at plan.cable)) (omega (arith, length-append (drop at plan.cable) plan.load, length-drop at plan.cable))
stage_is plan Load at w h = load_is plan (left_of plan Load at w) (omega (arith, length-drop at plan.load)) (omega (arith, length-drop at plan.load))
stage_is plan Boot at (Some w) h = boots_are plan (left_of plan Boot at (Some w)) refl
stage_is plan Boot at None h = boots_are plan (left_of plan Boot at None) refl ∙ booted (drop at plan.boot) (omega (arith, length-drop at plan.boot))
  where
    booted : (names : List (List ℕ)) → 0 < length names → stage_of_boots None names ≡ Boot
    booted [] h = absurd (omega (arith, h))
    booted (name ∷ names) h = refl
stage_is plan Done at w h = subst (λ o. stage_of plan (left_of plan Done at o) ≡ Done) (sym h) (boots_are plan (left_of plan Done at None) refl)

-- one listed command less
fewer : (xs ys : List DeviceOp) (n : ℕ) → n < length xs → drop 1 (drop n xs ++ ys) ≡ drop (n + 1) xs ++ ys
fewer xs ys n h = drop-append-le 1 (drop n xs) ys (omega (arith, length-drop n xs)) ∙ ap (λ l. l ++ ys) (drop-drop 1 n xs)

rest_on : (plan : Plan) (stage : Stage) (at : ℕ) → at < count_of plan stage → drop 1 (rest plan stage at) ≡ rest plan stage (at + 1)
rest_on plan Clear at h =
    drop-append-le 1 (drop at plan.clear ++ plan.cable) plan.load (omega (arith, length-append (drop at plan.clear) plan.cable, length-drop at plan.clear))
    ∙ ap (λ l. l ++ plan.load) (fewer plan.clear plan.cable at h)
rest_on plan Cable at h = fewer plan.cable plan.load at h
rest_on plan Load at h = drop-drop 1 at plan.load
rest_on plan Boot at h = absurd (omega (arith, h))
rest_on plan Done at h = absurd (omega (arith, h))

-- a place in a list
listed_place : (plan : Plan) (stage : Stage) (at : ℕ) → at < count_of plan stage → IsLeftFrom plan (rest plan stage at) stage at
listed_place plan Clear at h = record { left = refl; position = (h, refl) }
listed_place plan Cable at h = record { left = refl; position = (h, refl) }
listed_place plan Load at h = record { left = refl; position = (h, refl) }
listed_place plan Boot at h = absurd (omega (arith, h))
listed_place plan Done at h = absurd (omega (arith, h))

pub place_on : (plan : Plan) (stage : Stage) (at : ℕ) → at + 1 < count_of plan stage → IsLeftFrom plan (drop 1 (rest plan stage at)) stage (at + 1)
place_on plan stage at h = subst (λ todo. IsLeftFrom plan todo stage (at + 1)) (sym (rest_on plan stage at (omega (arith, h)))) (listed_place plan stage (at + 1) h)

-- after a list
pub place_after : (plan : Plan) (stage next : Stage) (at : ℕ) → at < count_of plan stage → count_of plan stage ≤ at + 1 → IsLeftFrom plan (rest plan stage (count_of plan stage)) next 0 → IsLeftFrom plan (drop 1 (rest plan stage at)) next 0
place_after plan stage next at h k position =
    let last : count_of plan stage ≡ at + 1 = omega (arith, h, k) in
    subst (λ todo. IsLeftFrom plan todo next 0) (ap (λ n. rest plan stage n) last ∙ sym (rest_on plan stage at h)) position

-- what is left at a listed command
pub listed_left : (plan : Plan) (stage : Stage) (at : ℕ) (w : Option Watched) → at < count_of plan stage → IsAt plan stage at w
    → (w ≡ None) × (left_of plan stage at w ≡ record { todo = rest plan stage at; boot = plan.boot; watch = None })
listed_left plan Clear at w h is = (is.1, ap (λ o. left_of plan Clear at o) is.1)
listed_left plan Cable at w h is = (is.1, ap (λ o. left_of plan Cable at o) is.1)
listed_left plan Load at w h is = (is.1, ap (λ o. left_of plan Load at o) is.1)
listed_left plan Boot at w h is = absurd (omega (arith, h))
listed_left plan Done at w h is = absurd (omega (arith, h))

pub is_listed : (plan : Plan) (stage : Stage) (at : ℕ) (w : Option Watched) → IsAt plan stage at w → 0 < length (rest plan stage at) → at < count_of plan stage
is_listed plan Clear at w is h = is.0
is_listed plan Cable at w is h = is.0
is_listed plan Load at w is h = is.0
is_listed plan Boot at w is h = absurd (omega (arith, h))
is_listed plan Done at w is h = absurd (omega (arith, h))

-- what is left where nodes are booted
pub boot_left : (plan : Plan) (stage : Stage) (at : ℕ) (w : Option Watched) (left : Left) → IsAt plan stage at w → left_of plan stage at w ≡ left → stage_of plan left ≡ Boot
    → (stage ≡ Boot) × (left ≡ record { todo = []; boot = drop at plan.boot; watch = watch_of w })
boot_left plan stage at w left position is boots =
    let same : stage ≡ Boot = sym (stage_is plan stage at w position) ∙ ap (λ l. stage_of plan l) is ∙ boots in
    (same, sym is ∙ ap (λ s. left_of plan s at w) same)

pub boot_place : (plan : Plan) (stage : Stage) (at : ℕ) (w : Option Watched) → IsAt plan stage at w → stage ≡ Boot → watch_of w ≡ None → at < length plan.boot
boot_place plan stage at None position is none = let P : Stage → Type 0 = λ s. IsAt plan s at None in subst P is position
boot_place plan stage at (Some w) position is none = absurd (cc none)
