-- Whole courses of a move.
use Rattle.std.specs.List.{filter}
use Rattle.std.proofs.Common.{◌≡◌, inl, inr, ℕ, Bool, true, false, ◌&&◌, ◌||◌, not, cond, Option, Some, None, List, [], ◌∷◌, ◌++◌, map, refl, sym, ap, ◌∙◌, subst}
use Rattle.std.proofs.lemmas.Bool.{cases_Bool, or_right, and_from, and_parts, not-true, true≢false, false≢true}
use Rattle.std.proofs.lemmas.List.{append_assoc, append-nil}
use Rattle.std.proofs.lemmas.Option.{same_Some}
use Rattle.lab_base.specs.Lists.{Has}
use Rattle.lab_base.proofs.Members.{Has-append, Has-map, Has-filter, Has-filtered}
use Rattle.phys_lab.specs.Labs.{Lab}
use Rattle.virt_topo.specs.declared.experiment.Experiment.{Experiment}
use Rattle.virt_topo.specs.declared.mapping.Mapped.{Mapped}
use Rattle.virt_topo.specs.declared.experiment.Phase.TheVariants.{Moving}
use Rattle.plant.specs.Worlds.{World, NodeRow, wiped}
use Rattle.plant.specs.declared.device.DeviceOp.{DeviceOp}
use Rattle.plant.specs.declared.device.DeviceOp.TheVariants.{Join, Leave, Shape, Load, Boot as BootIt, Poll, Wipe}
use Rattle.lab_model.specs.Leavings.{OneSided, Sent, ran, Ends, Gone}
use Rattle.lab_model.specs.Wants.{Owned, rows_of, node_row_of}
use Rattle.lab_model.specs.Claims.{Which, Old, New, claimed, Claims, Places, places_it, is_placed}
use Rattle.lab_model.specs.Kept.{is_kept}
use Rattle.lab_model.specs.Holding.{Suits}
use Rattle.lab_model.specs.Isolated.{IsRow}
use Rattle.lab_model.specs.Cabled.{SameNode}
use Rattle.lab_model.specs.Parts.{Part}
use Rattle.lab_model.specs.Courses.{op_join, join, leave, rows_from, load_nodes, node_names, fresh, commands, undo, Going, Goes, IsDone, nothing_left}
use Rattle.lab_model.proofs.Clearing.{done, left_after}
use Rattle.lab_model.proofs.Moves.{Cleared, claims_old, claims_new, phase_of, other, one_of, cleared_one_side}
use Rattle.lab_model.proofs.Kept.{places_it_from, Places_from, placed_listed}
use Rattle.lab_model.proofs.Begins.{kept_alike_back}
use Rattle.lab_model.proofs.CourseLaws.{row_came}
use Rattle.lab_model.proofs.Ends.{done_spares, wiped_clear, builds_node, boots_spare}
use Rattle.lab_model.proofs.Commands.{clears, clears_all, clears_spares, wiped_names}
use Rattle.lab_model.proofs.Built.{done-append}
use Rattle.lab_model.proofs.Finished.{is_poll, is_booting, boots_keep, split_course, builds, build_op, Exact, exact}

pub clear_calm : (rows : List Owned) (names : List (List ℕ)) (op : DeviceOp) → Has (map leave rows ++ map Wipe names) op → is_poll op ≡ false
clear_calm rows names op h = elim (Has-append (map leave rows) (map Wipe names) op h) [
  | inl a ↦ let r = Has-map leave rows op a in ap is_poll (sym r.2)
  | inr b ↦ let r = Has-map Wipe names op b in ap is_poll (sym r.2)
]

module _ (lab : Lab) (e : Experiment) (old new : Option Mapped) (moving : e.phase ≡ Moving old new)
    (suits : (which : Which) (n : Mapped) → claimed e which ≡ Some n → Suits lab n) (w : World) (part : Part lab w e) where
  pub suits_old : (n : Mapped) → old ≡ Some n → Suits lab n
  suits_old n is = suits Old n (claims_old lab e old new moving ∙ is)

  pub suits_new : (n : Mapped) → new ≡ Some n → Suits lab n
  suits_new n is = suits New n (claims_new lab e old new moving ∙ is)

  -- a plan whose clearing leaves only what m wants, and which builds m
  built : (m : Mapped) (clear : List DeviceOp) (names : List (List ℕ)) (fits : Suits lab m) → ((op : DeviceOp) → Has clear op → is_poll op ≡ false) → OneSided lab (done w clear) e m
      → (cs : Sent) → IsDone (record { clear = clear; cable = map join (rows_of lab m); load = load_nodes lab (Some m) names; boot = names }) cs → Exact lab e m fits names (ran w cs)
  built m clear names fits calm sided cs goes =
      let todo = clear ++ map join (rows_of lab m) ++ load_nodes lab (Some m) names in
      let same : todo ≡ clear ++ builds lab e m fits names = append_assoc clear (map join (rows_of lab m)) (load_nodes lab (Some m) names) in
      let calm_all : (op : DeviceOp) → Has todo op → is_poll op ≡ false = λ op h.
      elim (Has-append clear (builds lab e m fits names) op (subst (λ l. Has l op) same h)) [ inl a ↦ calm op a | inr b ↦ (build_op lab e m fits names op b).calm ] in
      let split = split_course todo cs w names calm_all goes in
      let at : ran w cs ≡ ran (done (done w clear) (builds lab e m fits names)) split.boots = split.world_is ∙ ap (λ v. ran v split.boots) (ap (λ l. done w l) same ∙ done-append clear (builds lab e m fits names) w) in
      subst (λ v. Exact lab e m fits names v) (sym at) (exact lab e m fits names (done w clear) split.boots sided split.goes)

  -- A swap-in or a change that is done leaves exactly what the new mapping wants, of rows and on its nodes that are not kept.
  pub forward_done : (m : Mapped) (is : new ≡ Some m) (cs : Sent) → IsDone (commands lab old new) cs → Exact lab e m (suits_new m is) (fresh lab old new new) (ran w cs)
  forward_done m is cs goes =
      let names = fresh lab old new new in
      let clear = map leave (rows_from lab old) ++ map Wipe (fresh lab old new old) in
      let goes' : IsDone (record { clear = clear; cable = map join (rows_of lab m); load = load_nodes lab (Some m) names; boot = names }) cs =
      subst (λ (o : Option Mapped). IsDone (record { clear = clear; cable = map join (rows_from lab o); load = load_nodes lab o names; boot = names }) cs) is goes in
      built m clear names (suits_new m is) (clear_calm (rows_from lab old) (fresh lab old new old))
      (cleared_one_side lab e old new moving w Old m clear (claims_new lab e old new moving ∙ is) (suits Old)
      (clears_all lab e old new moving Old old (is_placed lab old) (claims_old lab e old new moving) suits_old (λ n name here there. subst (λ o. is_placed lab o name ≡ true) (sym here) there))
      (clears_spares lab e old new moving (rows_from lab old) (is_placed lab old)) part)
      cs goes'

  -- The undo of a change that is done leaves exactly what the old mapping wants.
  pub undo_done : (m : Mapped) (is : old ≡ Some m) (cs : Sent) → IsDone (undo lab old new) cs → Exact lab e m (suits_old m is) (fresh lab old new old) (ran w cs)
  undo_done m is cs goes =
      let names = fresh lab old new old in
      let placed : List ℕ → Bool = λ name. is_placed lab old name || is_placed lab new name in
      let wipes = wiped_names lab e old new moving placed in
      let clear = map leave (rows_from lab new) ++ map Wipe wipes in
      let goes' : IsDone (record { clear = clear; cable = map join (rows_of lab m); load = load_nodes lab (Some m) names; boot = names }) cs =
      subst (λ (o : Option Mapped). IsDone (record { clear = clear; cable = map join (rows_from lab o); load = load_nodes lab o names; boot = names }) cs) is goes in
      built m clear names (suits_old m is) (clear_calm (rows_from lab new) wipes)
      (cleared_one_side lab e old new moving w New m clear (claims_old lab e old new moving ∙ is) (suits New)
      (clears_all lab e old new moving New new placed (claims_new lab e old new moving) suits_new (λ n name here there. or_right _ _ (subst (λ o. is_placed lab o name ≡ true) (sym here) there)))
      (clears_spares lab e old new moving (rows_from lab new) placed) part)
      cs goes'

kept_placed : (lab : Lab) (o p : Option Mapped) (name : List ℕ) → is_kept lab o p name ≡ true → (x : Mapped) × (y : Mapped) × (o ≡ Some x) × (p ≡ Some y) × Places lab x name × Places lab y name
kept_placed lab None p name kept = absurd (false≢true kept)
kept_placed lab (Some x) None name kept = absurd (false≢true kept)
kept_placed lab (Some x) (Some y) name kept = let both = and_parts _ _ (and_parts _ _ (and_parts _ _ kept).0).0 in (x, y, refl, refl, Places_from lab x name both.0, Places_from lab y name both.1)

same_node_refl : (n : NodeRow) → SameNode n n
same_node_refl n = record { os = refl; pipes = λ k. refl; boot = refl }

module _ (lab : Lab) (e : Experiment) (old new : Option Mapped) (moving : e.phase ≡ Moving old new)
    (suits : (which : Which) (n : Mapped) → claimed e which ≡ Some n → Suits lab n) (w : World) (part : Part lab w e) where
  other_is : (from : Which) (c : Which) → (c ≡ from → ⊥) → c ≡ other from
  other_is Old Old apart = absurd (apart refl)
  other_is Old New apart = refl
  other_is New Old apart = refl
  other_is New New apart = absurd (apart refl)

  ends : (from : Which) (m : Mapped) (fits : Suits lab m) (o : Option Mapped) (placed : List ℕ → Bool) (side : Option Mapped) → claimed e (other from) ≡ Some m → side ≡ Some m
      → Cleared lab e old new moving from (map leave (rows_from lab o) ++ map Wipe (wiped_names lab e old new moving placed))
      → (cs : Sent) → IsDone (record { clear = map leave (rows_from lab o) ++ map Wipe (wiped_names lab e old new moving placed); cable = map join (rows_of lab m); load = load_nodes lab (Some m) (fresh lab old new side); boot = fresh lab old new side }) cs
      → Ends lab e m (ran w cs)
  ends from m fits o placed side mine is_side cleared cs goes =
      let wipes = wiped_names lab e old new moving placed in
      let clear = map leave (rows_from lab o) ++ map Wipe wipes in
      let names = fresh lab old new side in
      let spares = clears_spares lab e old new moving (rows_from lab o) placed in
      let calm = clear_calm (rows_from lab o) wipes in
      let sided = cleared_one_side lab e old new moving w from m clear mine (suits from) cleared spares part in
      let x = built lab e old new moving suits w part m clear names fits calm sided cs goes in
      let listed : (name : List ℕ) → Has names name → (places_it lab m name ≡ true) × (is_kept lab old new name ≡ false) = λ name h.
      let both = and_parts _ _ (Has-filter (λ n. is_placed lab side n && not (is_kept lab old new n)) (node_names lab) name h).1 in
      (subst (λ s. is_placed lab s name ≡ true) is_side both.0, not-true _ both.1) in
      let untouched : (name : List ℕ) → (Has names name → ⊥) → (ran w cs).node name ≡ (done w clear).node name = λ name unlisted. spared_after m clear names fits calm cs goes name unlisted in
      record {
        only = x.sided.rows;
        stand = x.rows;
        exact = λ name claims there. elim (cases_Bool (is_kept lab old new name)) [
          | inl kept ↦
              let same : (ran w cs).node name ≡ w.node name = untouched name (λ h. true≢false (sym kept ∙ (listed name h).1)) ∙ done_spares clear w name (λ op h is. true≢false (sym kept ∙ spares op h name is)) in
              subst (λ n. SameNode n (node_row_of lab m name)) (sym same) (kept_row from m mine name claims kept)
          | inr not_kept ↦
              x.nodes name (Has-filtered (λ n. is_placed lab side n && not (is_kept lab old new n)) (node_names lab) name (placed_listed lab m name fits there)
              (and_from _ _ (subst (λ s. is_placed lab s name ≡ true) (sym is_side) (places_it_from lab m name there)) (ap not not_kept))) claims there
        ];
        clean = λ name claims absent.
            let not_kept : is_kept lab old new name ≡ false = elim (cases_Bool (is_kept lab old new name)) [
              | inl kept ↦ absurd (absent (placed_too from m mine name kept))
              | inr free ↦ free
            ] in
            let theirs = of_other from m mine name claims absent in
            let wiped_there : (done w clear).node name ≡ wiped = wiped_clear lab (rows_from lab o) wipes clear w name (λ op h. clears lab (rows_from lab o) wipes op h) (inr (cleared.wipes theirs.0 name theirs.1 theirs.2 not_kept)) in
            subst (λ n. SameNode n wiped) (sym (untouched name (λ h. absent (Places_from lab m name (listed name h).0)) ∙ wiped_there)) (same_node_refl wiped);
      }
    where
      spared_after : (m : Mapped) (clear : List DeviceOp) (names : List (List ℕ)) (fits : Suits lab m) → ((op : DeviceOp) → Has clear op → is_poll op ≡ false)
          → (cs : Sent) → IsDone (record { clear = clear; cable = map join (rows_of lab m); load = load_nodes lab (Some m) names; boot = names }) cs → (name : List ℕ) → (Has names name → ⊥) → (ran w cs).node name ≡ (done w clear).node name
      spared_after m clear names fits calm cs goes name unlisted =
          let todo = clear ++ map join (rows_of lab m) ++ load_nodes lab (Some m) names in
          let same : todo ≡ clear ++ builds lab e m fits names = append_assoc clear (map join (rows_of lab m)) (load_nodes lab (Some m) names) in
          let calm_all : (op : DeviceOp) → Has todo op → is_poll op ≡ false = λ op h.
          elim (Has-append clear (builds lab e m fits names) op (subst (λ l. Has l op) same h)) [ inl a ↦ calm op a | inr b ↦ (build_op lab e m fits names op b).calm ] in
          let split = split_course todo cs w names calm_all goes in
          let at : ran w cs ≡ ran (done (done w clear) (builds lab e m fits names)) split.boots = split.world_is ∙ ap (λ v. ran v split.boots) (ap (λ l. done w l) same ∙ done-append clear (builds lab e m fits names) w) in
          ap (λ v. v.node name) at
          ∙ boots_spare split.boots (done (done w clear) (builds lab e m fits names)) names name split.goes unlisted
          ∙ done_spares (builds lab e m fits names) (done w clear) name (λ op h is. unlisted (builds_node lab e m fits names op name h is))

      kept_row : (from : Which) (m : Mapped) → claimed e (other from) ≡ Some m → (name : List ℕ) → Claims lab e name → is_kept lab old new name ≡ true → SameNode (w.node name) (node_row_of lab m name)
      kept_row Old m mine name claims kept = (phase_of lab e old new moving w part).0 m name claims (sym (claims_new lab e old new moving) ∙ mine) kept
      kept_row New m mine name claims kept =
          let k = kept_placed lab old new name kept in
          let is_old : old ≡ Some m = sym (claims_old lab e old new moving) ∙ mine in
          kept_alike_back lab m k.1 name (w.node name) (subst (λ o. is_kept lab o (Some k.1) name ≡ true) is_old (subst (λ p. is_kept lab old p name ≡ true) k.3 kept)) ((phase_of lab e old new moving w part).0 k.1 name claims k.3 kept)

      placed_too : (from : Which) (m : Mapped) → claimed e (other from) ≡ Some m → (name : List ℕ) → is_kept lab old new name ≡ true → Places lab m name
      placed_too Old m mine name kept = let k = kept_placed lab old new name kept in let same : k.1 ≡ m = let there = sym k.3 ∙ sym (claims_new lab e old new moving) ∙ mine in cc in subst (λ n. Places lab n name) same k.5
      placed_too New m mine name kept = let k = kept_placed lab old new name kept in let same : k.0 ≡ m = let there = sym k.2 ∙ sym (claims_old lab e old new moving) ∙ mine in cc in subst (λ n. Places lab n name) same k.4

      of_other : (from : Which) (m : Mapped) → claimed e (other from) ≡ Some m → (name : List ℕ) → Claims lab e name → (Places lab m name → ⊥) → (n : Mapped) × (claimed e from ≡ Some n) × Places lab n name
      of_other from m mine name claims absent = elim (one_of from claims.which) [
        | inl same ↦ (claims.mapped, ap (λ x. claimed e x) (sym same) ∙ claims.is, claims.placed)
        | inr opposite ↦ absurd (absent (let there = sym mine ∙ ap (λ x. claimed e x) (sym opposite) ∙ claims.is in subst (λ n. Places lab n name) (sym (same_Some m claims.mapped there)) claims.placed))
      ]

  -- a swap-in or a change that is done
  pub forward_ends : (m : Mapped) → new ≡ Some m → (cs : Sent) → IsDone (commands lab old new) cs → Ends lab e m (ran w cs)
  forward_ends m is cs goes =
      let names = fresh lab old new new in
      let clear = map leave (rows_from lab old) ++ map Wipe (fresh lab old new old) in
      ends Old m (suits_new lab e old new moving suits w part m is) old (is_placed lab old) new (claims_new lab e old new moving ∙ is) is
      (clears_all lab e old new moving Old old (is_placed lab old) (claims_old lab e old new moving) (suits_old lab e old new moving suits w part) (λ n name here there. subst (λ o. is_placed lab o name ≡ true) (sym here) there))
      cs (subst (λ (o : Option Mapped). IsDone (record { clear = clear; cable = map join (rows_from lab o); load = load_nodes lab o names; boot = names }) cs) is goes)

  -- the undo of a change that is done
  pub undo_ends : (m : Mapped) → old ≡ Some m → (cs : Sent) → IsDone (undo lab old new) cs → Ends lab e m (ran w cs)
  undo_ends m is cs goes =
      let names = fresh lab old new old in
      let placed : List ℕ → Bool = λ name. is_placed lab old name || is_placed lab new name in
      let clear = map leave (rows_from lab new) ++ map Wipe (wiped_names lab e old new moving placed) in
      ends New m (suits_old lab e old new moving suits w part m is) new placed old (claims_old lab e old new moving ∙ is) is
      (clears_all lab e old new moving New new placed (claims_new lab e old new moving) (suits_new lab e old new moving suits w part) (λ n name here there. or_right _ _ (subst (λ o. is_placed lab o name ≡ true) (sym here) there)))
      cs (subst (λ (o : Option Mapped). IsDone (record { clear = clear; cable = map join (rows_from lab o); load = load_nodes lab o names; boot = names }) cs) is goes)

none_pass : {X : Type 0} (p : X → Bool) (xs : List X) → ((x : X) → p x ≡ false) → filter p xs ≡ []
none_pass p [] fails = refl
none_pass p (x ∷ xs) fails = ap (λ b. cond b (x ∷ filter p xs) (filter p xs)) (fails x) ∙ none_pass p xs fails

booting_joins : (op : DeviceOp) → is_booting op ≡ true → op_join op ≡ None
booting_joins (BootIt node) is = refl
booting_joins (Poll node) is = refl
booting_joins (Join switch port vlan) is = absurd (false≢true is)
booting_joins (Leave switch port vlan) is = absurd (false≢true is)
booting_joins (Shape node number from to there back) is = absurd (false≢true is)
booting_joins (Load node os) is = absurd (false≢true is)
booting_joins (Wipe node) is = absurd (false≢true is)

module _ (lab : Lab) (e : Experiment) (old new : Option Mapped) (moving : e.phase ≡ Moving old new)
    (suits : (which : Which) (n : Mapped) → claimed e which ≡ Some n → Suits lab n) (w : World) where
  -- where the other mapping is nothing, so that nothing is kept
  gone : (from : Which) (o : Option Mapped) (placed : List ℕ → Bool) → claimed e from ≡ o → claimed e (other from) ≡ None → ((name : List ℕ) → is_kept lab old new name ≡ false)
      → Cleared lab e old new moving from (map leave (rows_from lab o) ++ map Wipe (wiped_names lab e old new moving placed))
      → (cs : Sent) → IsDone (record { clear = map leave (rows_from lab o) ++ map Wipe (wiped_names lab e old new moving placed); cable = []; load = []; boot = [] }) cs → Gone lab e (ran w cs)
  gone from o placed mine theirs none_kept cleared cs goes =
      let wipes = wiped_names lab e old new moving placed in
      let clear = map leave (rows_from lab o) ++ map Wipe wipes in
      let same : clear ++ [] ++ [] ≡ clear = append-nil (clear ++ []) ∙ append-nil clear in
      let split = split_course clear cs w [] (clear_calm (rows_from lab o) wipes) (subst (λ (l : List DeviceOp). Goes cs (Going (record { todo = l; boot = []; watch = None })) (Going nothing_left)) same goes) in
      let from_here : (which : Which) (n : Mapped) → claimed e which ≡ Some n → which ≡ from = λ which n is. elim (one_of from which) [ inl here ↦ here | inr there ↦ absurd (let x = sym is ∙ ap (λ c. claimed e c) there ∙ theirs in cc x) ] in
      record {
        rows = λ row of_e is.
            let x = of_e.2 in
            let there : IsRow (ran (done w clear) split.boots) row = subst (λ v. IsRow v row) split.world_is is in
            let before : IsRow (done w clear) row = boots_keep (λ v. IsRow v row → IsRow (done w clear) row) (λ v op answer is' back h. elim (row_came v op true answer row h) [ inl was ↦ back was | inr came ↦ absurd (cc (came, booting_joins op is')) ]) split.boots (done w clear) [] None split.goes (λ h. h) there in
            left_after clear w (record { row = row; owner = of_e.1 }) (λ op h. (cleared.adds_none op h).0) (inr (cleared.leaves x.mapped row of_e.1 (ap (λ c. claimed e c) (sym (from_here of_e.0 x.mapped x.is)) ∙ x.is) x.row_of)) before;
        nodes = λ name claims.
            let wiped_there : (done w clear).node name ≡ wiped = wiped_clear lab (rows_from lab o) wipes clear w name (λ op h. clears lab (rows_from lab o) wipes op h)
            (inr (cleared.wipes claims.mapped name (ap (λ c. claimed e c) (sym (from_here claims.which claims.mapped claims.is)) ∙ claims.is) claims.placed (none_kept name))) in
            let at : (ran w cs).node name ≡ wiped = ap (λ v. v.node name) split.world_is ∙ boots_spare split.boots (done w clear) [] name split.goes (λ h. h) ∙ wiped_there in
            subst (λ n. SameNode n wiped) (sym at) (same_node_refl wiped);
      }

-- a swap-out that is done
pub out_ends : (lab : Lab) (e : Experiment) (m : Mapped) (moving : e.phase ≡ Moving (Some m) None) → Suits lab m → (w : World) (cs : Sent) → IsDone (commands lab (Some m) None) cs → Gone lab e (ran w cs)
out_ends lab e m moving suits w cs goes =
    let mine = claims_old lab e (Some m) None moving in
    let theirs = claims_new lab e (Some m) None moving in
    let only : (n : Mapped) → ◌≡◌ {A = Option Mapped} (Some m) (Some n) → Suits lab n = λ n is. subst (λ x. Suits lab x) (same_Some m n is) suits in
    gone lab e (Some m) None moving (λ which n is. each which n is mine theirs only) w Old (Some m) (is_placed lab (Some m)) mine theirs (λ name. refl)
    (clears_all lab e (Some m) None moving Old (Some m) (is_placed lab (Some m)) mine only (λ n name here there. subst (λ x. places_it lab x name ≡ true) (sym (same_Some m n here)) there))
    cs (subst (λ (l : List (List ℕ)). IsDone (record { clear = map leave (rows_of lab m) ++ map Wipe (fresh lab (Some m) None (Some m)); cable = []; load = []; boot = l }) cs) (none_pass (λ name. is_placed lab None name && not (is_kept lab (Some m) None name)) (node_names lab) (λ x. refl)) goes)
  where
    each : (which : Which) (n : Mapped) → claimed e which ≡ Some n → claimed e Old ≡ Some m → claimed e New ≡ None → ((n : Mapped) → ◌≡◌ {A = Option Mapped} (Some m) (Some n) → Suits lab n) → Suits lab n
    each Old n is mine theirs only = only n (sym mine ∙ is)
    each New n is mine theirs only = absurd (cc (is, theirs))

-- the undo of a swap-in that is done
pub undo_in_ends : (lab : Lab) (e : Experiment) (m : Mapped) (moving : e.phase ≡ Moving None (Some m)) → Suits lab m → (w : World) (cs : Sent) → IsDone (undo lab None (Some m)) cs → Gone lab e (ran w cs)
undo_in_ends lab e m moving suits w cs goes =
    let mine = claims_new lab e None (Some m) moving in
    let theirs = claims_old lab e None (Some m) moving in
    let only : (n : Mapped) → ◌≡◌ {A = Option Mapped} (Some m) (Some n) → Suits lab n = λ n is. subst (λ x. Suits lab x) (same_Some m n is) suits in
    let placed : List ℕ → Bool = λ name. is_placed lab None name || is_placed lab (Some m) name in
    gone lab e None (Some m) moving (λ which n is. each which n is mine theirs only) w New (Some m) placed mine theirs (λ name. refl)
    (clears_all lab e None (Some m) moving New (Some m) placed mine only (λ n name here there. subst (λ x. places_it lab x name ≡ true) (sym (same_Some m n here)) there))
    cs (subst (λ (l : List (List ℕ)). IsDone (record { clear = map leave (rows_of lab m) ++ map Wipe (wiped_names lab e None (Some m) moving placed); cable = []; load = []; boot = l }) cs) (none_pass (λ name. is_placed lab None name && not (is_kept lab None (Some m) name)) (node_names lab) (λ x. refl)) goes)
  where
    each : (which : Which) (n : Mapped) → claimed e which ≡ Some n → claimed e New ≡ Some m → claimed e Old ≡ None → ((n : Mapped) → ◌≡◌ {A = Option Mapped} (Some m) (Some n) → Suits lab n) → Suits lab n
    each New n is mine theirs only = only n (sym mine ∙ is)
    each Old n is mine theirs only = absurd (cc (is, theirs))
