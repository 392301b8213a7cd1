-- A course that is done leaves exactly what the built mapping wants.
use Rattle.std.specs.Str.{bytes_eq}
use Rattle.std.specs.List.{enumerate_from}
use Rattle.std.specs.Option.{unwrap_or}
use Rattle.std.proofs.Common.{◌≡◌, inl, inr, ℕ, zero, suc, ◌+◌, Bool, true, false, Option, Some, None, slice_get, Result, Ok, Err, List, [], ◌∷◌, ◌++◌, map, refl, sym, ap, ◌∙◌, subst, arith}
use Rattle.std.proofs.lemmas.Bool.{or_right, true≢false, false≢true}
use Rattle.std.proofs.lemmas.Option.{same_Some}
use Rattle.lab_base.specs.Lists.{Has}
use Rattle.lab_base.proofs.Members.{Has-append, Has-left, Has-right, Has-mapped, Has-map, Has-flat_map, Has-flat_mapped}
use Rattle.lab_base.specs.declared.boot.Boot.TheVariants.{IsUp}
use Rattle.phys_lab.specs.Labs.{Lab}
use Rattle.virt_topo.specs.declared.experiment.Experiment.{Experiment}
use Rattle.virt_topo.specs.declared.mapping.Mapped.{Mapped}
use Rattle.plant.specs.Worlds.{Row, PipeRow, World, row_after}
use Rattle.plant.specs.declared.device.Answer.{Answer}
use Rattle.plant.specs.declared.device.Answer.TheVariants.{Done, State}
use Rattle.plant.specs.declared.device.Fault.{Fault}
use Rattle.plant.specs.declared.device.Fault.TheVariants.{Failed, Stopped}
use Rattle.plant.specs.declared.device.DeviceOp.{DeviceOp}
use Rattle.plant.specs.declared.device.DeviceOp.TheVariants.{Join, Leave, Shape, Load, Boot as BootIt, Poll, Wipe}
use Rattle.lab_model.specs.Leavings.{did, OneSided, Sent, ran}
use Rattle.lab_model.specs.Wants.{rows_of, pipes_on, os_on, node_row_of}
use Rattle.lab_model.specs.Claims.{Claims, Places}
use Rattle.lab_model.specs.Holding.{Suits}
use Rattle.lab_model.specs.Isolated.{IsRow}
use Rattle.lab_model.specs.Cabled.{SameNode}
use Rattle.lab_model.specs.Courses.{join, shape, load_node, load_nodes, Watch, Left, Going, answered, Goes, nothing_left}
use Rattle.lab_model.proofs.CourseLaws.{AddsOnly, sided_after}
use Rattle.lab_model.proofs.Clearing.{done, joined_after}
use Rattle.lab_model.proofs.Commands.{cable_adds, load_adds}
use Rattle.lab_model.proofs.Built.{op_wipe, op_load, same_pipes, shaped_after, loaded_after, os_placed, os_keeps, polled_keeps}
use Rattle.lab_model.proofs.Along.{boots_run, all_up, no_cut, no_halt}

-- a command whose answer tells nothing
abbrev pub is_poll : DeviceOp → Bool
is_poll (Poll node) = true
is_poll op = false

abbrev pub is_booting : DeviceOp → Bool
is_booting (Poll node) = true
is_booting (BootIt node) = true
is_booting op = false

pub same_answer : (w : World) (op : DeviceOp) (answer : Result Answer Fault) → is_poll op ≡ false → did w op true answer ≡ did w op true (Ok Done)
same_answer w (Join switch port vlan) answer is = refl
same_answer w (Leave switch port vlan) answer is = refl
same_answer w (Shape node number from to there back) answer is = refl
same_answer w (Load node os) answer is = refl
same_answer w (BootIt node) answer is = refl
same_answer w (Wipe node) answer is = refl
same_answer w (Poll node) answer is = absurd (true≢false is)

-- the commands of the list, and then a course of boots
pub record Split (w : World) (todo : List DeviceOp) (boot : List (List ℕ)) (cs : Sent) : Type 0 where
  pub boots : Sent
  pub goes : Goes boots (Going (record { todo = []; boot = boot; watch = None })) (Going nothing_left)
  pub world_is : ran w cs ≡ ran (done w todo) boots

pub split_course : (todo : List DeviceOp) (cs : Sent) (w : World) (boot : List (List ℕ)) → ((op : DeviceOp) → Has todo op → is_poll op ≡ false) → Goes cs (Going (record { todo = todo; boot = boot; watch = None })) (Going nothing_left) → Split w todo boot cs
split_course [] cs w boot calm goes = record { boots = cs; goes = goes; world_is = refl }
split_course (op ∷ todo) [] w boot calm goes =
    let same : ◌≡◌ {A = Left} (record { todo = op ∷ todo; boot = boot; watch = None }) nothing_left = cc in
    let none : op ∷ todo ≡ [] = ap (λ l. l.todo) same in
    absurd (cc none)
split_course (op ∷ todo) (c ∷ cs) w boot calm goes = go c.1 refl (λ cs'. split_course todo cs')
  where
    go : (answer : Result Answer Fault) → c.1 ≡ answer → ((cs' : Sent) (v : World) (boot' : List (List ℕ)) → ((p : DeviceOp) → Has todo p → is_poll p ≡ false) → Goes cs' (Going (record { todo = todo; boot = boot'; watch = None })) (Going nothing_left) → Split v todo boot' cs') → Split w (op ∷ todo) boot (c ∷ cs)
    go (Ok answer) is further =
        let on : Goes cs (answered (op ∷ todo) None boot (Ok answer)) (Going nothing_left) = subst (λ a. Goes cs (answered (op ∷ todo) None boot a) (Going nothing_left)) is goes.1 in
        let rest = further cs (did w op true (Ok Done)) boot (λ p h. calm p (inr h)) on in
        let same : did w c.0 true c.1 ≡ did w op true (Ok Done) = ap (λ p. did w p true c.1) (sym (same_Some _ _ goes.0)) ∙ same_answer w op c.1 (calm op (inl refl)) in
        record { boots = rest.boots; goes = rest.goes; world_is = ap (λ v. ran v cs) same ∙ rest.world_is }
    go (Err Failed) is further = absurd (no_cut cs _ (subst (λ a. Goes cs (answered (op ∷ todo) None boot a) (Going nothing_left)) is goes.1))
    go (Err Stopped) is further = absurd (no_halt cs (subst (λ a. Goes cs (answered (op ∷ todo) None boot a) (Going nothing_left)) is goes.1))

-- what boots and polls leave as it is
pub record SameButBoot (v w : World) : Type 0 where
  pub rows : (row : Row) → IsRow v row → IsRow w row
  pub os : (name os : List ℕ) → (v.node name).os ≡ Some os → (w.node name).os ≡ Some os
  pub pipes : (name : List ℕ) (k : ℕ) (row : PipeRow) → (v.node name).pipes k ≡ Some row → (w.node name).pipes k ≡ Some row

-- what Boot and Poll keep is kept along a course of boots
pub boots_keep : (P : World → Type 0) → ((w : World) (op : DeviceOp) (answer : Result Answer Fault) → is_booting op ≡ true → P w → P (did w op true answer))
    → (cs : Sent) (w : World) (boot : List (List ℕ)) (watch : Option Watch) → Goes cs (Going (record { todo = []; boot = boot; watch = watch })) (Going nothing_left) → P w → P (ran w cs)
boots_keep P keeps = boots_run (λ w boot watch. P w) (λ w boot x y answer same p. keeps w (Poll x.node) answer refl p) (λ w boot x p. keeps w (Poll x.node) (Ok (State IsUp)) refl p) (λ w boot node y answer same p. keeps w (BootIt node) answer refl p)

booting_keeps : (v w : World) (op : DeviceOp) (answer : Result Answer Fault) → is_booting op ≡ true → SameButBoot v w → SameButBoot v (did w op true answer)
booting_keeps v w (BootIt node) answer is same = record {
  rows = same.rows;
  os = λ name os had. os_keeps (BootIt node) answer name os (w.node name) refl (λ other h. cc) (same.os name os had);
  pipes = λ name k row had. same_pipes (bytes_eq name node) _ (w.node name) k row (λ h. h) (same.pipes name k row had);
}
booting_keeps v w (Poll node) answer is same = record {
  rows = same.rows;
  os = λ name os had. os_keeps (Poll node) answer name os (w.node name) refl (λ other h. cc) (same.os name os had);
  pipes = λ name k row had. polled_keeps (Poll node) answer name (w.node name) k row (same.pipes name k row had);
}
booting_keeps v w (Join switch port vlan) answer is same = absurd (false≢true is)
booting_keeps v w (Leave switch port vlan) answer is same = absurd (false≢true is)
booting_keeps v w (Shape node number from to there back) answer is same = absurd (false≢true is)
booting_keeps v w (Load node os) answer is same = absurd (false≢true is)
booting_keeps v w (Wipe node) answer is same = absurd (false≢true is)

module _ (lab : Lab) (e : Experiment) (m : Mapped) (suits : Suits lab m) (names : List (List ℕ)) where
  -- cabling and loading
  abbrev pub builds : List DeviceOp
  builds = map join (rows_of lab m) ++ load_nodes lab (Some m) names

  -- what a building command is
  pub record Builds (op : DeviceOp) : Type 0 where
    pub adds : AddsOnly lab m op
    pub wipes : op_wipe op ≡ None
    pub loads : (name os : List ℕ) → op_load op ≡ Some (name, os) → os ≡ unwrap_or (os_on lab m.wiring.nodes m.mapping.places name) []
    pub keeps : (row : Row) (had : Bool) → had ≡ true → row_after op row had ≡ true
    pub calm : is_poll op ≡ false

  pub build_op : (op : DeviceOp) → Has builds op → Builds op
  build_op op h = elim (Has-append (map join (rows_of lab m)) (load_nodes lab (Some m) names) op h) [
    | inl a ↦
        let r = Has-map join (rows_of lab m) op a in
        let adds = cable_adds lab m op a in
        subst (λ p. AddsOnly lab m p → Builds p) r.2 (λ x. record { adds = x; wipes = refl; loads = λ name os is. cc; keeps = λ row had is. or_right _ had is; calm = refl }) adds
    | inr b ↦
        let adds = load_adds lab m names op b in
        let r = Has-flat_map (load_node lab m) names op b in
        elim r.2 [
          | inl e' ↦ subst (λ p. AddsOnly lab m p → Builds p) e' (λ x. record {
            adds = x;
            wipes = refl;
            loads = λ name os is. let both = same_Some _ _ is in sym (ap (λ t. t.1) both) ∙ ap (λ t. unwrap_or (os_on lab m.wiring.nodes m.mapping.places t.0) []) both;
            keeps = λ row had is. is;
            calm = refl;
          }) adds
          | inr g ↦ let s = Has-map (shape r.0) (enumerate_from 0 (pipes_on lab m r.0)) op g in subst (λ p. AddsOnly lab m p → Builds p) s.2 (λ x. record { adds = x; wipes = refl; loads = λ name os is. cc; keeps = λ row had is. is; calm = refl }) adds
        ]
  ]

  done_sided : (ops : List DeviceOp) (w : World) → ((op : DeviceOp) → Has ops op → AddsOnly lab m op) → OneSided lab w e m → OneSided lab (done w ops) e m
  done_sided [] w adds sided = sided
  done_sided (op ∷ ops) w adds sided = done_sided ops (did w op true (Ok Done)) (λ p h. adds p (inr h)) (sided_after lab w e m op true (Ok Done) sided (adds op (inl refl)))

  pub booting_adds : (op : DeviceOp) → is_booting op ≡ true → AddsOnly lab m op
  booting_adds (BootIt node) is = record { row = λ row h. cc; pipe = λ name k row h. cc }
  booting_adds (Poll node) is = record { row = λ row h. cc; pipe = λ name k row h. cc }
  booting_adds (Join switch port vlan) is = absurd (false≢true is)
  booting_adds (Leave switch port vlan) is = absurd (false≢true is)
  booting_adds (Shape node number from to there back) is = absurd (false≢true is)
  booting_adds (Load node os) is = absurd (false≢true is)
  booting_adds (Wipe node) is = absurd (false≢true is)

  -- what stands when the course from the cleared world is done
  pub record Exact (w : World) : Type 0 where
    pub rows : (row : Row) (link : List ℕ) → Has (rows_of lab m) (record { row = row; owner = link }) → IsRow w row
    pub nodes : (name : List ℕ) → Has names name → Claims lab e name → Places lab m name → SameNode (w.node name) (node_row_of lab m name)
    pub sided : OneSided lab w e m

  pub exact : (v : World) (boots : Sent) → OneSided lab v e m → Goes boots (Going (record { todo = []; boot = names; watch = None })) (Going nothing_left) → Exact (ran (done v builds) boots)
  exact v boots sided goes =
      let w = done v builds in
      let kept : SameButBoot w (ran w boots) = boots_keep (SameButBoot w) (λ u op answer is p. booting_keeps w u op answer is p) boots w names None goes (record { rows = λ row h. h; os = λ name os h. h; pipes = λ name k row h. h }) in
      let at_end : OneSided lab (ran w boots) e m = boots_keep (λ u. OneSided lab u e m) (λ u op answer is p. sided_after lab u e m op true answer p (booting_adds op is)) boots w names None goes (done_sided builds v (λ op h. (build_op op h).adds) sided) in
      record {
        sided = at_end;
        rows = λ row link wanted. kept.rows row (joined_after builds v (record { row = row; owner = link }) (λ op h. (build_op op h).keeps) (inr (Has-left (map join (rows_of lab m)) (load_nodes lab (Some m) names) _ (Has-mapped join (rows_of lab m) (record { row = row; owner = link }) wanted))));
        nodes = λ name listed claims placed.
            let os_is = os_placed lab m.wiring.nodes m.mapping.places name suits.shaped.places placed in
            record {
              os = kept.os name _ (loaded_after builds v name _ (λ op h. ((build_op op h).wipes, λ other is. (build_op op h).loads name other is)) (inr (Has-right (map join (rows_of lab m)) (load_nodes lab (Some m) names) _ (Has-flat_mapped (load_node lab m) names name _ listed (inl refl))))) ∙ sym os_is;
              pipes = λ k. same_option (((ran w boots).node name).pipes k) (slice_get (pipes_on lab m name) k)
                  (λ row is. kept.pipes name k row (shaped_after lab m builds v name k row (λ op h. ((build_op op h).adds, (build_op op h).wipes)) is (inr (shape_listed name k row listed is))))
                  (λ row is. at_end.pipes name k row claims is);
              boot = all_up boots name w names None goes (inr (inl listed));
            };
      }
    where
      same_option : (a b : Option PipeRow) → ((row : PipeRow) → b ≡ Some row → a ≡ Some row) → ((row : PipeRow) → a ≡ Some row → b ≡ Some row) → a ≡ b
      same_option None None f g = refl
      same_option (Some x) b f g = sym (g x refl)
      same_option None (Some y) f g = f y refl

      get_enumerated : (n : ℕ) (xs : List PipeRow) (j : ℕ) (x : PipeRow) → slice_get xs j ≡ Some x → Has (enumerate_from n xs) (n + j, x)
      get_enumerated n [] j x is = absurd (cc is)
      get_enumerated n (y ∷ xs) zero x is = inl (let same = same_Some y x is in let at : n ≡ n + 0 = omega arith in λ i. (at i, same i))
      get_enumerated n (y ∷ xs) (suc j) x is = inr (let at : n + 1 + j ≡ n + suc j = omega arith in subst (λ k. Has (enumerate_from (n + 1) xs) (k, x)) at (get_enumerated (n + 1) xs j x is))

      shape_listed : (name : List ℕ) (k : ℕ) (row : PipeRow) → Has names name → slice_get (pipes_on lab m name) k ≡ Some row → Has builds (shape name (k, row))
      shape_listed name k row listed is =
          let at : 0 + k ≡ k = omega arith in
          let here = subst (λ j. Has (enumerate_from 0 (pipes_on lab m name)) (j, row)) at (get_enumerated 0 (pipes_on lab m name) k row is) in
          Has-right (map join (rows_of lab m)) (load_nodes lab (Some m) names) (shape name (k, row)) (Has-flat_mapped (load_node lab m) names name (shape name (k, row)) listed (inr (Has-mapped (shape name) (enumerate_from 0 (pipes_on lab m name)) (k, row) here)))
