-- The tests of nodes and pipes say what a node holds.
use Rattle.std.specs.Str.{bytes_eq}
use Rattle.std.proofs.Common.{◌≡◌, inl, inr, ℕ, zero, suc, ◌≤◌, Bool, true, false, not, ◌||◌, Option, Some, None, List, [], ◌∷◌, length, refl, sym, ap, ◌∙◌, subst, arith}
use Rattle.std.proofs.lemmas.Bool.{and_parts, and_from, or_cases, or_left, or_right, not-true, both_ways, cases_order, eq-eqb}
use Rattle.std.specs.Prelude.{slice_get}
use Rattle.std.proofs.lemmas.Option.{same_Some}
use Rattle.lab_base.specs.Lists.{Has}
use Rattle.lab_base.specs.declared.boot.Boot.{Boot}
use Rattle.lab_base.specs.declared.boot.Boot.TheVariants.{Off, Shutdown, Booting, TbSetup, IsUp}
use Rattle.lab_base.specs.declared.rates.Rates.{Rates}
use Rattle.lab_base.proofs.Members.{all_has, all_from}
use Rattle.lab_base.proofs.Bytes.{bytes_alike}
use Rattle.plant.specs.declared.device.DeviceOp.{DeviceOp}
use Rattle.plant.specs.declared.device.DeviceOp.TheVariants.{Join, Leave, Shape, Load, Boot as BootIt, Poll, Wipe}
use Rattle.plant.specs.Worlds.{PipeRow, blank}
use Rattle.lab_model.specs.Kept.{same_rates, same_pipe, same_os}
use Rattle.lab_model.specs.Courses.{op_pipe}
use Rattle.lab_model.specs.Cabled.{SameNode}
use Rattle.lab_model.proofs.Begins.{same_os-true}
use Rattle.lab_model.proofs.Kept.{same_pipe-true}
use Rattle.plain_model.specs.declared.world.Sent.{Sent}
use Rattle.plain_model.specs.Holds.{all_pass}
use Rattle.plain_model.specs.Rows.{node_sent}
use Rattle.plain_model.specs.Cabling.{is_state, state_of, same_some, os_left, boot_left, pipe_left, is_pipe, is_of_one, is_set_of, are_sets_of, held, is_node}
use Rattle.plain_model.proofs.HoldsLaws.{pass_from, pass_test}
use Rattle.plain_model.proofs.RowLaws.{os_told, boot_told, pipe_told}
use Rattle.plain_model.proofs.SeenLaws.{pipes_came}

-- an or of a test that is false
pub second : (a b : Bool) → a ≡ true → (not a || b) ≡ true → b ≡ true
second a b is e = elim (or_cases (not a) b e) [ inl x ↦ absurd (both_ways a (not-true a x) is) | inr y ↦ y ]

past_end : {X : Type 0} (xs : List X) (k : ℕ) → length xs ≤ k → slice_get xs k ≡ None
past_end [] k h = refl
past_end (x ∷ xs) zero h = absurd (omega (arith, h))
past_end (x ∷ xs) (suc k) h = past_end xs k (omega (arith, h))

-- OS, BOOT STATE, PIPES

os_self : (a : Option (List ℕ)) → same_os a a ≡ true
os_self None = refl
os_self (Some a) = bytes_alike a a refl

state_is : (o : Option Boot) (up : Bool) → is_state o up ≡ true → o ≡ Some (state_of up)
state_is (Some IsUp) true t = refl
state_is (Some IsUp) false t = absurd (cc t)
state_is (Some Off) true t = absurd (cc t)
state_is (Some Off) false t = refl
state_is (Some Shutdown) up t = absurd (cc t)
state_is (Some Booting) up t = absurd (cc t)
state_is (Some TbSetup) up t = absurd (cc t)
state_is None up t = absurd (cc t)

state_self : (up : Bool) → is_state (Some (state_of up)) up ≡ true
state_self true = refl
state_self false = refl

rates_self : (a : Rates) → same_rates a a ≡ true
rates_self a = and_from _ _ (and_from _ _ (eq-eqb a.kbps a.kbps refl) (eq-eqb a.micros a.micros refl)) (eq-eqb a.ppm a.ppm refl)

pipe_self : (a : PipeRow) → same_pipe a a ≡ true
pipe_self a = and_from _ _ (and_from _ _ (and_from _ _ (bytes_alike a.from a.from refl) (bytes_alike a.to a.to refl)) (rates_self a.there)) (rates_self a.back)

pub some_are : (a b : Option PipeRow) → same_some a b ≡ true → a ≡ b
some_are None None t = refl
some_are (Some a) (Some b) t = ap (λ x. Some x) (same_pipe-true a b t)
some_are None (Some b) t = absurd (cc t)
some_are (Some a) None t = absurd (cc t)

some_self : (a : Option PipeRow) → same_some a a ≡ true
some_self None = refl
some_self (Some a) = pipe_self a

pub some_same : (a b : Option PipeRow) → a ≡ b → same_some a b ≡ true
some_same a b e = subst (λ x. same_some a x ≡ true) e (some_self a)

-- a pipe that is the one of a list
one_is : (pipes : List PipeRow) (k : ℕ) (row : PipeRow) → is_of_one pipes pipes k (Some row) ≡ true → Some row ≡ slice_get pipes k
one_is pipes k row t = elim (or_cases _ _ t) [ inl a ↦ some_are _ _ a | inr b ↦ some_are _ _ b ]

one_same : (pipes : List PipeRow) (k : ℕ) (o : Option PipeRow) → o ≡ slice_get pipes k → is_of_one pipes pipes k o ≡ true
one_same pipes k None e = refl
one_same pipes k (Some row) e = or_left _ _ (some_same (Some row) (slice_get pipes k) e)

module _ (commands : List Sent) (name : List ℕ) where
  -- a pipe that is left was set by a command
  left_set : (k : ℕ) (row : PipeRow) → pipe_left commands name k ≡ Some row → (s : Sent) × Has commands s × (op_pipe s.op ≡ Some (name, k, row))
  left_set k row is = elim (pipes_came commands blank name k row (pipe_told name k commands ∙ is)) [ inl never ↦ absurd (cc never) | inr came ↦ came ]

  module _ (old new : List PipeRow) where
    set_at : (op : DeviceOp) (k : ℕ) (row : PipeRow) → is_set_of commands name old new op ≡ true → op_pipe op ≡ Some (name, k, row) → is_of_one old new k (pipe_left commands name k) ≡ true
    set_at (Shape node number from to there back) k row t is =
        let key = same_Some (node, number, record { from = from; to = to; there = there; back = back }) (name, k, row) is in
        subst (λ n. is_of_one old new n (pipe_left commands name n) ≡ true) (ap (λ x. x.1) key) (second (bytes_eq name node) _ (bytes_alike name node (sym (ap (λ x. x.0) key))) t)
    set_at (Join switch port vlan) k row t is = absurd (cc is)
    set_at (Leave switch port vlan) k row t is = absurd (cc is)
    set_at (Load node os) k row t is = absurd (cc is)
    set_at (BootIt node) k row t is = absurd (cc is)
    set_at (Poll node) k row t is = absurd (cc is)
    set_at (Wipe node) k row t is = absurd (cc is)

    -- THE PIPES THAT COMMANDS SET are all that are left
    pub sets_from : are_sets_of commands name old new ≡ true → (k : ℕ) (row : PipeRow) → pipe_left commands name k ≡ Some row → is_of_one old new k (Some row) ≡ true
    sets_from t k row is =
        let s = left_set k row is in
        subst (λ o. is_of_one old new k o ≡ true) is (set_at s.0.op k row (all_has (λ sent. is_set_of commands name old new sent.op) commands s.0 t s.1) s.2)

    set_test : ((k : ℕ) → is_of_one old new k (pipe_left commands name k) ≡ true) → (op : DeviceOp) → is_set_of commands name old new op ≡ true
    set_test each (Shape node number from to there back) = or_right _ _ (each number)
    set_test each (Join switch port vlan) = refl
    set_test each (Leave switch port vlan) = refl
    set_test each (Load node os) = refl
    set_test each (BootIt node) = refl
    set_test each (Poll node) = refl
    set_test each (Wipe node) = refl

    pub sets_test : ((k : ℕ) → is_of_one old new k (pipe_left commands name k) ≡ true) → are_sets_of commands name old new ≡ true
    sets_test each = all_from (λ sent. is_set_of commands name old new sent.op) commands (λ s h. set_test each s.op)

  -- THE NODE HAS exactly that OS, that state and these pipes
  module _ (os : Option (List ℕ)) (up : Bool) (pipes : List PipeRow) where
    left_all : (k : ℕ) (o : Option PipeRow) → pipe_left commands name k ≡ o → is_node commands name os up pipes ≡ true → pipe_left commands name k ≡ slice_get pipes k
    left_all k (Some row) is t =
        let a = and_parts (same_os (os_left commands name) os) _ t in
        let b = and_parts (is_state (boot_left commands name) up) _ a.1 in
        let c = and_parts (all_pass (length pipes) (is_pipe commands name pipes)) _ b.1 in
        is ∙ one_is pipes k row (sets_from pipes pipes c.1 k row is)
    left_all k None is t = elim (cases_order k (length pipes)) [
      | inl same ↦ is ∙ sym (past_end pipes k (omega (arith, same)))
      | inr apart ↦ elim apart [
        | inl lt ↦
            let a = and_parts (same_os (os_left commands name) os) _ t in
            let b = and_parts (is_state (boot_left commands name) up) _ a.1 in
            let c = and_parts (all_pass (length pipes) (is_pipe commands name pipes)) _ b.1 in
            some_are _ _ (pass_from (length pipes) (is_pipe commands name pipes) c.0 k lt)
        | inr gt ↦ is ∙ sym (past_end pipes k (omega (arith, gt)))
      ]
    ]

    pub node_from : is_node commands name os up pipes ≡ true → SameNode (node_sent commands name) (held os up pipes)
    node_from t =
        let a = and_parts (same_os (os_left commands name) os) _ t in
        let b = and_parts (is_state (boot_left commands name) up) _ a.1 in
        record {
          os = os_told name commands ∙ same_os-true _ _ a.0;
          pipes = λ k. pipe_told name k commands ∙ left_all k (pipe_left commands name k) refl t;
          boot = boot_told name commands ∙ state_is _ up b.0;
        }

    pub node_test : SameNode (node_sent commands name) (held os up pipes) → is_node commands name os up pipes ≡ true
    node_test same =
        let each : (k : ℕ) → pipe_left commands name k ≡ slice_get pipes k = λ k. sym (pipe_told name k commands) ∙ same.pipes k in
        and_from _ _ (subst (λ o. same_os (os_left commands name) o ≡ true) (sym (os_told name commands) ∙ same.os) (os_self (os_left commands name)))
        (and_from _ _ (ap (λ o. is_state o up) (sym (boot_told name commands) ∙ same.boot) ∙ state_self up)
        (and_from _ _ (pass_test (length pipes) (is_pipe commands name pipes) (λ k lt. some_same _ _ (each k)))
        (sets_test pipes pipes (λ k. one_same pipes k (pipe_left commands name k) (each k)))))
