-- Each command of a move, and of its undo, is one of its experiment; and where nothing is built every moment is safe.
use Rattle.std.specs.List.{filter, enumerate_from}
use Rattle.std.proofs.Common.{◌≡◌, inl, inr, ℕ, Bool, true, false, ◌&&◌, ◌||◌, not, Option, Some, None, Result, List, [], ◌++◌, map, refl, sym, ◌∙◌, subst}
use Rattle.std.proofs.lemmas.Bool.{and_parts, or_cases}
use Rattle.std.proofs.lemmas.Option.{same_Some}
use Rattle.lab_base.specs.Lists.{Has}
use Rattle.lab_base.proofs.Members.{Has-append, Has-map, Has-flat_map, Has-filter}
use Rattle.phys_lab.specs.Labs.{Lab}
use Rattle.virt_topo.specs.declared.experiment.Experiment.{Experiment}
use Rattle.virt_topo.specs.declared.mapping.Mapped.{Mapped}
use Rattle.virt_topo.specs.declared.experiment.Phase.TheVariants.{Moving}
use Rattle.plant.specs.Worlds.{World}
use Rattle.plant.specs.declared.device.Answer.{Answer}
use Rattle.plant.specs.declared.device.Fault.{Fault}
use Rattle.plant.specs.declared.device.DeviceOp.{DeviceOp}
use Rattle.plant.specs.declared.device.DeviceOp.TheVariants.{Boot as BootIt, Poll, Wipe}
use Rattle.lab_model.specs.Wants.{Owned, rows_of, pipes_on}
use Rattle.lab_model.specs.Claims.{Which, Old, New, claimed, Claims, is_placed}
use Rattle.lab_model.specs.Kept.{is_kept}
use Rattle.lab_model.specs.Parts.{Part}
use Rattle.lab_model.specs.Courses.{op_row, op_node, op_join, op_pipe, IsCommandOf, Plan, join, leave, shape, load_node, load_nodes, rows_from, node_names, fresh, commands, undo, Left, Going, Goes, whole, next}
use Rattle.lab_model.specs.Leavings.{Sent, ran, did}
use Rattle.lab_model.proofs.Kept.{Places_from}
use Rattle.lab_model.proofs.Moves.{claims_old, claims_new, SparesKept, part_shrinks}
use Rattle.lab_model.proofs.Safe.{LeftIs, next_fine, along}

module _ (lab : Lab) (e : Experiment) where
  to_node : (op : DeviceOp) (name : List ℕ) → op_row op ≡ None → op_node op ≡ Some name → Claims lab e name → IsCommandOf lab e op
  to_node op name no_row is claims = record {
    row = λ row comes. absurd (cc (no_row, comes));
    node = λ n comes. subst (λ x. Claims lab e x) (same_Some name n (sym is ∙ comes)) claims;
  }

  -- a node that one of the mappings places something on
  placed_claims : (which : Which) (o : Option Mapped) (name : List ℕ) → claimed e which ≡ o → is_placed lab o name ≡ true → Claims lab e name
  placed_claims which None name mine there = absurd (cc there)
  placed_claims which (Some m) name mine there = record { which = which; mapped = m; is = mine; placed = Places_from lab m name there }

  leaves_own : (which : Which) (o : Option Mapped) (op : DeviceOp) → claimed e which ≡ o → Has (map leave (rows_from lab o)) op → IsCommandOf lab e op
  leaves_own which None op mine h = absurd h
  leaves_own which (Some m) op mine h =
      let r = Has-map leave (rows_of lab m) op h in
      subst (λ p. IsCommandOf lab e p) r.2 (record {
        row = λ row comes. (which, r.0.owner, record { mapped = m; is = mine; row_of = subst (λ x. Has (rows_of lab m) (record { row = x; owner = r.0.owner })) (same_Some r.0.row row comes) r.1 });
        node = λ n comes. absurd (cc comes);
      })

  joins_own : (which : Which) (o : Option Mapped) (op : DeviceOp) → claimed e which ≡ o → Has (map join (rows_from lab o)) op → IsCommandOf lab e op
  joins_own which None op mine h = absurd h
  joins_own which (Some m) op mine h =
      let r = Has-map join (rows_of lab m) op h in
      subst (λ p. IsCommandOf lab e p) r.2 (record {
        row = λ row comes. (which, r.0.owner, record { mapped = m; is = mine; row_of = subst (λ x. Has (rows_of lab m) (record { row = x; owner = r.0.owner })) (same_Some r.0.row row comes) r.1 });
        node = λ n comes. absurd (cc comes);
      })

  wipes_own : (names : List (List ℕ)) (op : DeviceOp) → ((name : List ℕ) → Has names name → Claims lab e name) → Has (map Wipe names) op → IsCommandOf lab e op
  wipes_own names op claims h = let r = Has-map Wipe names op h in subst (λ p. IsCommandOf lab e p) r.2 (to_node (Wipe r.0) r.0 refl refl (claims r.0 r.1))

  loads_own : (o : Option Mapped) (names : List (List ℕ)) (op : DeviceOp) → ((name : List ℕ) → Has names name → Claims lab e name) → Has (load_nodes lab o names) op → IsCommandOf lab e op
  loads_own None names op claims h = absurd h
  loads_own (Some m) names op claims h = let r = Has-flat_map (load_node lab m) names op h in at r.0 r.2 (claims r.0 r.1)
    where
      at : (name : List ℕ) → Has (load_node lab m name) op → Claims lab e name → IsCommandOf lab e op
      at name (inl is) claims = subst (λ p. IsCommandOf lab e p) is (to_node _ name refl refl claims)
      at name (inr h) claims = let r = Has-map (shape name) (enumerate_from 0 (pipes_on lab m name)) op h in subst (λ p. IsCommandOf lab e p) r.2 (to_node (shape name r.0) name refl refl claims)

  -- a plan whose lists are of these mappings and nodes is the experiment's own
  plan_own : (from to : Which) (o p : Option Mapped) (wipes names : List (List ℕ)) → claimed e from ≡ o → claimed e to ≡ p → ((name : List ℕ) → Has wipes name → Claims lab e name) → ((name : List ℕ) → Has names name → Claims lab e name)
      → LeftIs (IsCommandOf lab e) (whole (record { clear = map leave (rows_from lab o) ++ map Wipe wipes; cable = map join (rows_from lab p); load = load_nodes lab p names; boot = names }))
  plan_own from to o p wipes names of_o of_p wiped named = record {
    todo = λ op h. elim (Has-append (map leave (rows_from lab o) ++ map Wipe wipes ++ map join (rows_from lab p)) (load_nodes lab p names) op h) [
      | inl x ↦ elim (Has-append (map leave (rows_from lab o) ++ map Wipe wipes) (map join (rows_from lab p)) op x) [
        | inl y ↦ elim (Has-append (map leave (rows_from lab o)) (map Wipe wipes) op y) [
          | inl z ↦ leaves_own from o op of_o z
          | inr z ↦ wipes_own wipes op wiped z
        ]
        | inr y ↦ joins_own to p op of_p y
      ]
      | inr x ↦ loads_own p names op named x
    ];
    boot = λ node h. (to_node (BootIt node) node refl refl (named node h), to_node (Poll node) node refl refl (named node h));
    watch = λ x is. absurd (cc is);
  }

module _ (lab : Lab) (e : Experiment) (old new : Option Mapped) (moving : e.phase ≡ Moving old new) where
  fresh_claims : (which : Which) (o : Option Mapped) (name : List ℕ) → claimed e which ≡ o → Has (fresh lab old new o) name → Claims lab e name
  fresh_claims which o name mine h = placed_claims lab e which o name mine (and_parts _ _ (Has-filter (λ n. is_placed lab o n && not (is_kept lab old new n)) (node_names lab) name h).1).0

  pub commands_own : LeftIs (IsCommandOf lab e) (whole (commands lab old new))
  commands_own =
      let a = claims_old lab e old new moving in
      let b = claims_new lab e old new moving in
      plan_own lab e Old New old new (fresh lab old new old) (fresh lab old new new) a b (λ name h. fresh_claims Old old name a h) (λ name h. fresh_claims New new name b h)

  pub undo_own : LeftIs (IsCommandOf lab e) (whole (undo lab old new))
  undo_own =
      let a = claims_old lab e old new moving in
      let b = claims_new lab e old new moving in
      plan_own lab e New Old new old (filter (λ name. (is_placed lab old name || is_placed lab new name) && not (is_kept lab old new name)) (node_names lab)) (fresh lab old new old) b a
      (λ name h. elim (or_cases _ _ (and_parts _ _ (Has-filter (λ n. (is_placed lab old n || is_placed lab new n) && not (is_kept lab old new n)) (node_names lab) name h).1).0) [
        | inl x ↦ placed_claims lab e Old old name a x
        | inr x ↦ placed_claims lab e New new name b x
      ])
      (λ name h. fresh_claims Old old name a h)

  -- the next command of a course is the experiment's own
  pub next_own : (plan : Plan) (cs : Sent) (mid : Left) (op : DeviceOp) → LeftIs (IsCommandOf lab e) (whole plan) → Goes cs (Going (whole plan)) (Going mid) → next mid.todo mid.watch mid.boot ≡ Some op → IsCommandOf lab e op
  next_own plan cs mid op own goes comes =
      next_fine (IsCommandOf lab e) mid op (along (IsCommandOf lab e) (λ w. Unit {0}) (λ w o a f u. tt) cs Rattle.plant.specs.Worlds.blank (whole plan) mid own goes tt).1 comes

  -- a command that adds nothing and goes to no kept node
  abbrev Calm : DeviceOp → Type 0
  Calm op = (op_join op ≡ None) × (op_pipe op ≡ None) × SparesKept lab e old new moving op

  -- WHERE NOTHING IS BUILT, every moment is safe from any part
  pub calm_safe : (plan : Plan) (cs : Sent) (w : World) (mid : Left) (op : DeviceOp) (applied : Bool) (answer : Result Answer Fault) → LeftIs Calm (whole plan) → Part lab w e
      → Goes cs (Going (whole plan)) (Going mid) → next mid.todo mid.watch mid.boot ≡ Some op → Part lab (did (ran w cs) op applied answer) e
  calm_safe plan cs w mid op applied answer calm part goes comes =
      let now = along Calm (λ v. Part lab v e) (λ v o a f p. part_shrinks lab e old new moving v o true a f.0 f.1 f.2 p) cs w (whole plan) mid calm goes part in
      let f = next_fine Calm mid op now.1 comes in
      part_shrinks lab e old new moving (ran w cs) op applied answer f.0 f.1 f.2 now.0

  -- commands that leave and wipe only, where no node is kept
  pub clear_calm : (rows : List Owned) (wipes names : List (List ℕ)) → ((name : List ℕ) → is_kept lab old new name ≡ false) → LeftIs Calm (whole (record { clear = map leave rows ++ map Wipe wipes; cable = []; load = []; boot = names }))
  clear_calm rows wipes names none = record {
    todo = λ op h. elim (Has-append (map leave rows ++ map Wipe wipes ++ []) [] op h) [
      | inr x ↦ absurd x
      | inl x ↦ elim (Has-append (map leave rows ++ map Wipe wipes) [] op x) [
        | inr y ↦ absurd y
        | inl y ↦ elim (Has-append (map leave rows) (map Wipe wipes) op y) [
          | inl z ↦ let r = Has-map leave rows op z in subst (λ p. Calm p) r.2 (refl, refl, λ name is. none name)
          | inr z ↦ let r = Has-map Wipe wipes op z in subst (λ p. Calm p) r.2 (refl, refl, λ name is. none name)
        ]
      ]
    ];
    boot = λ node h. ((refl, refl, λ name is. none name), (refl, refl, λ name is. none name));
    watch = λ x is. absurd (cc is);
  }

-- a swap-out, and the undo of a swap-in
pub out_safe : (lab : Lab) (e : Experiment) (m : Mapped) → e.phase ≡ Moving (Some m) None → (cs : Sent) (w : World) (mid : Left) (op : DeviceOp) (applied : Bool) (answer : Result Answer Fault) → Part lab w e
    → Goes cs (Going (whole (commands lab (Some m) None))) (Going mid) → next mid.todo mid.watch mid.boot ≡ Some op → Part lab (did (ran w cs) op applied answer) e
out_safe lab e m moving cs w mid op applied answer part goes comes =
    calm_safe lab e (Some m) None moving (commands lab (Some m) None) cs w mid op applied answer
    (clear_calm lab e (Some m) None moving (rows_from lab (Some m)) (fresh lab (Some m) None (Some m)) (fresh lab (Some m) None None) (λ name. refl)) part goes comes

pub undo_in_safe : (lab : Lab) (e : Experiment) (m : Mapped) → e.phase ≡ Moving None (Some m) → (cs : Sent) (w : World) (mid : Left) (op : DeviceOp) (applied : Bool) (answer : Result Answer Fault) → Part lab w e
    → Goes cs (Going (whole (undo lab None (Some m)))) (Going mid) → next mid.todo mid.watch mid.boot ≡ Some op → Part lab (did (ran w cs) op applied answer) e
undo_in_safe lab e m moving cs w mid op applied answer part goes comes =
    calm_safe lab e None (Some m) moving (undo lab None (Some m)) cs w mid op applied answer
    (clear_calm lab e None (Some m) moving (rows_from lab (Some m)) (filter (λ name. (is_placed lab None name || is_placed lab (Some m) name) && not (is_kept lab None (Some m) name)) (node_names lab)) (fresh lab None (Some m) None) (λ name. refl)) part goes comes
