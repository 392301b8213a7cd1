-- Every moment of a swap-in, a change and the undo of a change is safe.
use Rattle.std.proofs.Common.{◌≡◌, ℕ, Bool, true, false, ◌&&◌, ◌||◌, not, Option, Some, None, Result, List, ◌++◌, map, refl, sym, ◌∙◌, subst}
use Rattle.std.proofs.lemmas.Bool.{and_parts, or_right, not-true}
use Rattle.std.proofs.lemmas.Option.{same_Some, none-some}
use Rattle.std.proofs.lemmas.List.{append_assoc}
use Rattle.lab_base.specs.Lists.{Has, AllDiffer}
use Rattle.lab_base.proofs.Members.{Has-filter}
use Rattle.phys_lab.specs.Labs.{Lab}
use Rattle.phys_lab.specs.Kept.{IsLab}
use Rattle.virt_topo.specs.declared.experiment.Experiment.{Experiment}
use Rattle.virt_topo.specs.declared.mapping.Mapped.{Mapped}
use Rattle.virt_topo.specs.declared.experiment.Phase.TheVariants.{Moving}
use Rattle.plant.specs.Worlds.{World}
use Rattle.plant.specs.declared.device.Answer.{Answer}
use Rattle.plant.specs.declared.device.Fault.{Fault}
use Rattle.plant.specs.declared.device.DeviceOp.{DeviceOp}
use Rattle.plant.specs.declared.device.DeviceOp.TheVariants.{Boot as BootIt, Poll, Wipe}
use Rattle.lab_model.specs.Wants.{rows_of}
use Rattle.lab_model.specs.Claims.{Which, Old, New, claimed, claimed_tags, is_placed}
use Rattle.lab_model.specs.Kept.{is_kept}
use Rattle.lab_model.specs.Holding.{Suits}
use Rattle.lab_model.specs.Parts.{Part}
use Rattle.lab_model.specs.Courses.{join, leave, load_nodes, rows_from, node_names, fresh, commands, undo, Left, Going, Goes, whole, next}
use Rattle.lab_model.specs.Leavings.{Sent, ran, did}
use Rattle.lab_model.proofs.Moves.{Cleared, claims_old, claims_new, other, cleared_one_side}
use Rattle.lab_model.proofs.Commands.{clears_all, clears_spares, wiped_names}
use Rattle.lab_model.proofs.Finished.{builds, build_op, booting_adds}
use Rattle.lab_model.proofs.Ends.{builds_node}
use Rattle.lab_model.proofs.Whole.{clear_calm, suits_old, suits_new}
use Rattle.lab_model.proofs.Safe.{safe}

module _ (lab : Lab) (e : Experiment) (old new : Option Mapped) (moving : e.phase ≡ Moving old new) (is_lab : IsLab lab) (differ : AllDiffer (claimed_tags e))
    (suits : (which : Which) (n : Mapped) → claimed e which ≡ Some n → Suits lab n) (w : World) (part : Part lab w e) where
  moment : (from : Which) (m : Mapped) (fits : Suits lab m) (o : Option Mapped) (placed : List ℕ → Bool) (side : Option Mapped) → claimed e (other from) ≡ Some m
      → Cleared lab e old new moving from (map leave (rows_from lab o) ++ map Wipe (wiped_names lab e old new moving placed))
      → (cs : Sent) (mid : Left) (op : DeviceOp) (applied : Bool) (answer : Result Answer Fault)
      → Goes cs (Going (whole (record { clear = map leave (rows_from lab o) ++ map Wipe (wiped_names lab e old new moving placed); cable = map join (rows_of lab m); load = load_nodes lab (Some m) (fresh lab old new side); boot = fresh lab old new side }))) (Going mid)
      → next mid.todo mid.watch mid.boot ≡ Some op → Part lab (did (ran w cs) op applied answer) e
  moment from m fits o placed side mine cleared cs mid op applied answer goes comes =
      let wipes = wiped_names lab e old new moving placed in
      let clear = map leave (rows_from lab o) ++ map Wipe wipes in
      let names = fresh lab old new side in
      let spares = clears_spares lab e old new moving (rows_from lab o) placed in
      let same : clear ++ map join (rows_of lab m) ++ load_nodes lab (Some m) names ≡ clear ++ builds lab e m fits names = append_assoc clear (map join (rows_of lab m)) (load_nodes lab (Some m) names) in
      let kept_not : (name : List ℕ) → Has names name → is_kept lab old new name ≡ false = λ name h.
      not-true _ (and_parts _ _ (Has-filter (λ n. is_placed lab side n && not (is_kept lab old new n)) (node_names lab) name h).1).1 in
      safe lab e old new moving (other from) m is_lab fits mine differ clear (builds lab e m fits names) names cs w mid op applied answer
      (λ x h. record { row = (cleared.adds_none x h).0; pipe = (cleared.adds_none x h).1; spares = spares x h; calm = clear_calm (rows_from lab o) wipes x h })
      (record {
        todo = λ x h. ((build_op lab e m fits names x h).adds, λ name is. kept_not name (builds_node lab e m fits names x name h is));
        boot = λ node h. (
          (booting_adds lab e m fits names (BootIt node) refl, λ name is. kept_not name (subst (λ n. Has names n) (same_Some node name is) h)),
          (booting_adds lab e m fits names (Poll node) refl, λ name is. kept_not name (subst (λ n. Has names n) (same_Some node name is) h)),
        );
        watch = λ x is. absurd (none-some x is);
      })
      (cleared_one_side lab e old new moving w from m clear mine (suits from) cleared spares part) part
      (subst (λ (l : List DeviceOp). Goes cs (Going (record { todo = l; boot = names; watch = None })) (Going mid)) same goes) comes

  -- a swap-in or a change: after each acknowledged prefix, the next command applied or not, whatever it answers
  pub forward_safe : (m : Mapped) → new ≡ Some m → (cs : Sent) (mid : Left) (op : DeviceOp) (applied : Bool) (answer : Result Answer Fault)
      → Goes cs (Going (whole (commands lab old new))) (Going mid) → next mid.todo mid.watch mid.boot ≡ Some op → Part lab (did (ran w cs) op applied answer) e
  forward_safe m is cs mid op applied answer goes comes =
      let names = fresh lab old new new in
      let clear = map leave (rows_from lab old) ++ map Wipe (fresh lab old new old) in
      moment Old m (suits_new lab e old new moving suits w part m is) old (is_placed lab old) new (claims_new lab e old new moving ∙ is)
      (clears_all lab e old new moving Old old (is_placed lab old) (claims_old lab e old new moving) (suits_old lab e old new moving suits w part) (λ n name here there. subst (λ o. is_placed lab o name ≡ true) (sym here) there))
      cs mid op applied answer
      (subst (λ (o : Option Mapped). Goes cs (Going (whole (record { clear = clear; cable = map join (rows_from lab o); load = load_nodes lab o names; boot = names }))) (Going mid)) is goes) comes

  -- the undo of a change, from any part
  pub undo_safe : (m : Mapped) → old ≡ Some m → (cs : Sent) (mid : Left) (op : DeviceOp) (applied : Bool) (answer : Result Answer Fault)
      → Goes cs (Going (whole (undo lab old new))) (Going mid) → next mid.todo mid.watch mid.boot ≡ Some op → Part lab (did (ran w cs) op applied answer) e
  undo_safe m is cs mid op applied answer goes comes =
      let names = fresh lab old new old in
      let placed : List ℕ → Bool = λ name. is_placed lab old name || is_placed lab new name in
      let clear = map leave (rows_from lab new) ++ map Wipe (wiped_names lab e old new moving placed) in
      moment New m (suits_old lab e old new moving suits w part m is) new placed old (claims_old lab e old new moving ∙ is)
      (clears_all lab e old new moving New new placed (claims_new lab e old new moving) (suits_new lab e old new moving suits w part) (λ n name here there. or_right _ _ (subst (λ o. is_placed lab o name ≡ true) (sym here) there)))
      cs mid op applied answer
      (subst (λ (o : Option Mapped). Goes cs (Going (whole (record { clear = clear; cable = map join (rows_from lab o); load = load_nodes lab o names; boot = names }))) (Going mid)) is goes) comes
