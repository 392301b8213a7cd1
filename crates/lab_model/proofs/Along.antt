-- Along a course: each prefix of acknowledged commands, and one more that is applied or not, whatever it answers.
use Rattle.std.specs.Str.{bytes_eq}
use Rattle.std.proofs.Common.{◌≡◌, ◌⊎◌, inl, inr, ℕ, ◌+◌, Bool, true, false, cond, eqb, Option, Some, None, Result, Ok, Err, List, [], ◌∷◌, refl, sym, ap, ◌∙◌, subst}
use Rattle.std.proofs.lemmas.Bool.{cases_Bool, true≢false}
use Rattle.std.proofs.lemmas.Option.{same_Some}
use Rattle.std.proofs.lemmas.Slice.Eq.{bytes_eq-Decides}
use Rattle.lab_base.specs.Lists.{Has, AllDiffer}
use Rattle.lab_base.specs.declared.boot.Boot.{Boot}
use Rattle.lab_base.specs.declared.boot.Boot.TheVariants.{Off, Shutdown, Booting, TbSetup, IsUp}
use Rattle.phys_lab.specs.Labs.{Lab}
use Rattle.phys_lab.specs.Kept.{IsLab}
use Rattle.virt_topo.specs.declared.experiment.Experiment.{Experiment}
use Rattle.virt_topo.specs.declared.mapping.Mapped.{Mapped}
use Rattle.virt_topo.specs.declared.experiment.Phase.TheVariants.{Moving}
use Rattle.plant.specs.Worlds.{World}
use Rattle.plant.specs.declared.device.Answer.{Answer}
use Rattle.plant.specs.declared.device.Answer.TheVariants.{Done, State}
use Rattle.plant.specs.declared.device.Fault.{Fault}
use Rattle.plant.specs.declared.device.Fault.TheVariants.{Failed, Stopped}
use Rattle.plant.specs.declared.device.DeviceOp.{DeviceOp}
use Rattle.plant.specs.declared.device.DeviceOp.TheVariants.{Boot as BootIt, Poll}
use Rattle.lab_model.specs.Leavings.{did, OneSided, Sent, ran}
use Rattle.lab_model.specs.Claims.{Which, claimed, claimed_tags}
use Rattle.lab_model.specs.Holding.{Suits}
use Rattle.lab_model.specs.Parts.{Part}
use Rattle.lab_model.specs.Courses.{op_join, op_pipe, op_node, Watch, Left, Going, Cut, Halted, judged, answered, Goes, nothing_left, lawful, Trouble, Unlawful, Late}
use Rattle.lab_model.proofs.Steps.{did_node}
use Rattle.lab_model.proofs.CourseLaws.{AddsOnly, sided_after}
use Rattle.lab_model.proofs.Moves.{KeptExact, SparesKept, kept_after, part_shrinks, part_of_one_side}

module _ (lab : Lab) (e : Experiment) (old new : Option Mapped) (moving : e.phase ≡ Moving old new) where
  -- while clearing
  pub clearing : (cs : Sent) (w : World) → ((c : DeviceOp × Result Answer Fault) → Has cs c → (op_join c.0 ≡ None) × (op_pipe c.0 ≡ None) × SparesKept lab e old new moving c.0) → Part lab w e → Part lab (ran w cs) e
  clearing [] w fits part = part
  clearing (c ∷ cs) w fits part = let f = fits c (inl refl) in clearing cs (did w c.0 true c.1) (λ d h. fits d (inr h)) (part_shrinks lab e old new moving w c.0 true c.1 f.0 f.1 f.2 part)

  -- while building
  pub building : (m : Mapped) (cs : Sent) (w : World) → ((c : DeviceOp × Result Answer Fault) → Has cs c → AddsOnly lab m c.0 × SparesKept lab e old new moving c.0) → KeptExact lab e old new moving w → OneSided lab w e m
      → KeptExact lab e old new moving (ran w cs) × OneSided lab (ran w cs) e m
  building m [] w fits exact sided = (exact, sided)
  building m (c ∷ cs) w fits exact sided = let f = fits c (inl refl) in
      building m cs (did w c.0 true c.1) (λ d h. fits d (inr h)) (kept_after lab e old new moving w c.0 true c.1 f.1 exact) (sided_after lab w e m c.0 true c.1 sided f.0)

  pub building_part : (which : Which) (m : Mapped) (cs : Sent) (w : World) (op : DeviceOp) (applied : Bool) (answer : Result Answer Fault) → IsLab lab → Suits lab m → claimed e which ≡ Some m → AllDiffer (claimed_tags e)
      → ((c : DeviceOp × Result Answer Fault) → Has cs c → AddsOnly lab m c.0 × SparesKept lab e old new moving c.0) → AddsOnly lab m op → SparesKept lab e old new moving op
      → KeptExact lab e old new moving w → OneSided lab w e m → Part lab (did (ran w cs) op applied answer) e
  building_part which m cs w op applied answer is_lab suits mine differ fits adds spares exact sided =
      let so_far = building m cs w fits exact sided in
      part_of_one_side lab e old new moving (did (ran w cs) op applied answer) which m is_lab suits mine differ
      (kept_after lab e old new moving (ran w cs) op applied answer spares so_far.0) (sided_after lab (ran w cs) e m op applied answer so_far.1 adds)

-- WHILE BOOTING: a node is up, is to be booted, or is watched
abbrev pub Rising : World → List ℕ → List (List ℕ) → Option Watch → Type 0
Rising w name boot watch = ((w.node name).boot ≡ Some IsUp) ⊎ (Has boot name ⊎ ((x : Watch) × (watch ≡ Some x) × (x.node ≡ name)))

boot_other : (w : World) (op : DeviceOp) (answer : Result Answer Fault) (name node : List ℕ) → op_node op ≡ Some node → bytes_eq name node ≡ false → (did w op true answer).node name ≡ w.node name
boot_other w op answer name node goes apart = did_node w op true answer name (λ is. true≢false (sym ((bytes_eq-Decides name node).1 (same_Some _ _ (sym is ∙ goes))) ∙ apart))

polled_boot : (w : World) (name : List ℕ) (state : Boot) → ((did w (Poll name) true (Ok (State state))).node name).boot ≡ Some state
polled_boot w name state = subst (λ b. (cond b (record (w.node name) { boot = Some state }) (w.node name)).boot ≡ Some state) (sym ((bytes_eq-Decides name name).1 refl)) refl

pub no_cut : (cs : Sent) (what : Trouble) → Goes cs (Cut what) (Going nothing_left) → ⊥
no_cut [] what goes = cc
no_cut (c ∷ cs) what goes = goes

pub no_halt : (cs : Sent) → Goes cs Halted (Going nothing_left) → ⊥
no_halt [] goes = cc
no_halt (c ∷ cs) goes = goes

-- a node stays as it is while another is sent to, or is the one that is watched
still : (w : World) (op : DeviceOp) (answer : Result Answer Fault) (name node : List ℕ) (boot : List (List ℕ)) (x : Watch) → op_node op ≡ Some node → x.node ≡ node → ((w.node name).boot ≡ Some IsUp) → Rising (did w op true answer) name boot (Some x)
still w op answer name node boot x goes watched up = elim (cases_Bool (bytes_eq name node)) [
  | inl same ↦ inr (inr (x, refl, watched ∙ sym ((bytes_eq-Decides name node).0 same)))
  | inr apart ↦ inl (ap (λ n. n.boot) (boot_other w op answer name node goes apart) ∙ up)
]

after_wait : (w : World) (x y : Watch) (answer : Result Answer Fault) (name : List ℕ) (boot : List (List ℕ)) → y.node ≡ x.node → Rising w name boot (Some x) → Rising (did w (Poll x.node) true answer) name boot (Some y)
after_wait w x y answer name boot same (inl up) = still w (Poll x.node) answer name x.node boot y refl same up
after_wait w x y answer name boot same (inr (inl listed)) = inr (inl listed)
after_wait w x y answer name boot same (inr (inr z)) = inr (inr (y, refl, same ∙ ap (λ v. v.node) (same_Some x z.0 z.1) ∙ z.2))

after_up : (w : World) (x : Watch) (name : List ℕ) (boot : List (List ℕ)) → Rising w name boot (Some x) → Rising (did w (Poll x.node) true (Ok (State IsUp))) name boot None
after_up w x name boot (inl up) = elim (cases_Bool (bytes_eq name x.node)) [
  | inl same ↦ inl (subst (λ n. ((did w (Poll n) true (Ok (State IsUp))).node name).boot ≡ Some IsUp) ((bytes_eq-Decides name x.node).0 same) (polled_boot w name IsUp))
  | inr apart ↦ inl (ap (λ n. n.boot) (boot_other w (Poll x.node) (Ok (State IsUp)) name x.node refl apart) ∙ up)
]
after_up w x name boot (inr (inl listed)) = inr (inl listed)
after_up w x name boot (inr (inr z)) = inl (subst (λ n. ((did w (Poll n) true (Ok (State IsUp))).node name).boot ≡ Some IsUp) (sym (ap (λ v. v.node) (same_Some x z.0 z.1) ∙ z.2)) (polled_boot w name IsUp))

after_boot : (w : World) (node : List ℕ) (answer : Result Answer Fault) (x : Watch) (name : List ℕ) (boot : List (List ℕ)) → x.node ≡ node → Rising w name (node ∷ boot) None → Rising (did w (BootIt node) true answer) name boot (Some x)
after_boot w node answer x name boot same (inl up) = still w (BootIt node) answer name node boot x refl same up
after_boot w node answer x name boot same (inr (inl (inl e))) = inr (inr (x, refl, same ∙ e))
after_boot w node answer x name boot same (inr (inl (inr listed))) = inr (inl listed)
after_boot w node answer x name boot same (inr (inr z)) = absurd (cc (z.1))

-- INDUCTION ALONG A COURSE OF BOOTS: what holds of the world, of the nodes left to boot and of the watch, kept by a poll that waits, a poll that finds the node up, and a boot.
module _ (P : World → List (List ℕ) → Option Watch → Type 0)
    (on_wait : (w : World) (boot : List (List ℕ)) (x y : Watch) (answer : Result Answer Fault) → y.node ≡ x.node → P w boot (Some x) → P (did w (Poll x.node) true answer) boot (Some y))
    (on_up : (w : World) (boot : List (List ℕ)) (x : Watch) → P w boot (Some x) → P (did w (Poll x.node) true (Ok (State IsUp))) boot None)
    (on_boot : (w : World) (boot : List (List ℕ)) (node : List ℕ) (y : Watch) (answer : Result Answer Fault) → y.node ≡ node → P w (node ∷ boot) None → P (did w (BootIt node) true answer) boot (Some y)) where
  abbrev From : Sent → Type 0
  From cs = (w : World) (boot : List (List ℕ)) (watch : Option Watch) → Goes cs (Going (record { todo = []; boot = boot; watch = watch })) (Going nothing_left) → P w boot watch → P (ran w cs) [] None

  wait_case : (cs : Sent) (w : World) (x : Watch) (state : Boot) (boot : List (List ℕ)) → From cs → P w boot (Some x)
      → Goes cs (cond (eqb (x.polls + 1) 64) (Cut (Late x.node)) (Going (record { todo = []; boot = boot; watch = Some (record { node = x.node; state = state; polls = x.polls + 1 }) }))) (Going nothing_left)
      → P (ran (did w (Poll x.node) true (Ok (State state))) cs) [] None
  wait_case cs w x state boot on p goes = elim (cases_Bool (eqb (x.polls + 1) 64)) [
    | inl late ↦ absurd (no_cut cs (Late x.node) (subst (λ b. Goes cs (cond b (Cut (Late x.node)) (Going (record { todo = []; boot = boot; watch = Some (record { node = x.node; state = state; polls = x.polls + 1 }) }))) (Going nothing_left)) late goes))
    | inr early ↦
        let y : Watch = record { node = x.node; state = state; polls = x.polls + 1 } in
        on (did w (Poll x.node) true (Ok (State state))) boot (Some y)
        (subst (λ b. Goes cs (cond b (Cut (Late x.node)) (Going (record { todo = []; boot = boot; watch = Some y }))) (Going nothing_left)) early goes)
        (on_wait w boot x y (Ok (State state)) refl p)
  ]

  judged_case : (cs : Sent) (w : World) (x : Watch) (state : Boot) (boot : List (List ℕ)) → From cs → P w boot (Some x) → Goes cs (judged x state boot) (Going nothing_left) → P (ran (did w (Poll x.node) true (Ok (State state))) cs) [] None
  judged_case cs w x IsUp boot on p goes = on (did w (Poll x.node) true (Ok (State IsUp))) boot None goes (on_up w boot x p)
  judged_case cs w x Off boot on p goes = wait_case cs w x Off boot on p goes
  judged_case cs w x Shutdown boot on p goes = wait_case cs w x Shutdown boot on p goes
  judged_case cs w x Booting boot on p goes = wait_case cs w x Booting boot on p goes
  judged_case cs w x TbSetup boot on p goes = wait_case cs w x TbSetup boot on p goes

  poll_case : (cs : Sent) (w : World) (x : Watch) (answer : Result Answer Fault) (boot : List (List ℕ)) → From cs → P w boot (Some x) → Goes cs (answered [] (Some x) boot answer) (Going nothing_left) → P (ran (did w (Poll x.node) true answer) cs) [] None
  poll_case cs w x (Ok Done) boot on p goes = absurd (no_halt cs goes)
  poll_case cs w x (Err Failed) boot on p goes = absurd (no_cut cs _ goes)
  poll_case cs w x (Err Stopped) boot on p goes = absurd (no_halt cs goes)
  poll_case cs w x (Ok (State state)) boot on p goes = elim (cases_Bool (lawful x.state state)) [
    | inl fine ↦ judged_case cs w x state boot on p (subst (λ b. Goes cs (cond b (judged x state boot) (Cut (Unlawful x.node x.state state))) (Going nothing_left)) fine goes)
    | inr wrong ↦ absurd (no_cut cs _ (subst (λ b. Goes cs (cond b (judged x state boot) (Cut (Unlawful x.node x.state state))) (Going nothing_left)) wrong goes))
  ]

  boot_case : (cs : Sent) (w : World) (node : List ℕ) (answer : Result Answer Fault) (boot : List (List ℕ)) → From cs → P w (node ∷ boot) None → Goes cs (answered [] None (node ∷ boot) answer) (Going nothing_left) → P (ran (did w (BootIt node) true answer) cs) [] None
  boot_case cs w node (Ok answer) boot on p goes = on (did w (BootIt node) true (Ok answer)) boot _ goes (on_boot w boot node (record { node = node; state = Booting; polls = 0 }) (Ok answer) refl p)
  boot_case cs w node (Err Failed) boot on p goes = absurd (no_cut cs _ goes)
  boot_case cs w node (Err Stopped) boot on p goes = absurd (no_halt cs goes)

  pub boots_run : (cs : Sent) (w : World) (boot : List (List ℕ)) (watch : Option Watch) → Goes cs (Going (record { todo = []; boot = boot; watch = watch })) (Going nothing_left) → P w boot watch → P (ran w cs) [] None
  boots_run [] w boot watch ends p =
      let same : ◌≡◌ {A = Left} (record { todo = []; boot = boot; watch = watch }) nothing_left = cc in
      subst (λ (l : Left). P w l.boot l.watch) same p
  boots_run (c ∷ cs) w boot (Some x) goes p = subst (λ op. P (ran (did w op true c.1) cs) [] None) (same_Some _ _ goes.0) (poll_case cs w x c.1 boot (boots_run cs) p goes.1)
  boots_run (c ∷ cs) w (node ∷ boot) None goes p = subst (λ op. P (ran (did w op true c.1) cs) [] None) (same_Some _ _ goes.0) (boot_case cs w node c.1 boot (boots_run cs) p goes.1)
  boots_run (c ∷ cs) w [] None goes p = absurd (cc (goes.0))

-- where a course of boots goes to its end, each such node is up
pub all_up : (cs : Sent) (name : List ℕ) (w : World) (boot : List (List ℕ)) (watch : Option Watch) → Goes cs (Going (record { todo = []; boot = boot; watch = watch })) (Going nothing_left) → Rising w name boot watch → ((ran w cs).node name).boot ≡ Some IsUp
all_up cs name w boot watch goes rising =
    let at_end : Rising (ran w cs) name [] None = boots_run (λ v l x. Rising v name l x)
    (λ v l x y answer same r. after_wait v x y answer name l same r) (λ v l x r. after_up v x name l r) (λ v l node y answer same r. after_boot v node answer y name l same r) cs w boot watch goes rising in
    elim at_end [ inl up ↦ up | inr more ↦ elim more [ inl none ↦ absurd none | inr z ↦ absurd (cc (z.1)) ] ]
