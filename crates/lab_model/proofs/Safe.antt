-- Every moment of a course is safe: each acknowledged prefix, and one command more, applied or not, whatever it answers.
use Rattle.std.proofs.Common.{◌≡◌, inl, inr, ℕ, ◌+◌, Bool, true, false, cond, Option, Some, None, Result, Ok, Err, List, [], ◌∷◌, ◌++◌, refl, sym, ap, ◌∙◌, subst}
use Rattle.std.proofs.lemmas.Option.{same_Some}
use Rattle.lab_base.specs.Lists.{Has, AllDiffer}
use Rattle.lab_base.specs.declared.boot.Boot.{Boot}
use Rattle.lab_base.specs.declared.boot.Boot.TheVariants.{Off, Shutdown, Booting, TbSetup, IsUp}
use Rattle.phys_lab.specs.Labs.{Lab}
use Rattle.phys_lab.specs.Kept.{IsLab}
use Rattle.virt_topo.specs.declared.experiment.Experiment.{Experiment}
use Rattle.virt_topo.specs.declared.mapping.Mapped.{Mapped}
use Rattle.virt_topo.specs.declared.experiment.Phase.TheVariants.{Moving}
use Rattle.plant.specs.Worlds.{World}
use Rattle.plant.specs.declared.device.Answer.{Answer}
use Rattle.plant.specs.declared.device.Answer.TheVariants.{Done, State}
use Rattle.plant.specs.declared.device.Fault.{Fault}
use Rattle.plant.specs.declared.device.Fault.TheVariants.{Failed, Stopped}
use Rattle.plant.specs.declared.device.DeviceOp.{DeviceOp}
use Rattle.plant.specs.declared.device.DeviceOp.TheVariants.{Boot as BootIt, Poll}
use Rattle.lab_model.specs.Claims.{Which, claimed, claimed_tags}
use Rattle.lab_model.specs.Holding.{Suits}
use Rattle.lab_model.specs.Parts.{Part}
use Rattle.lab_model.specs.Courses.{op_join, op_pipe, Watch, Left, Course, Going, Cut, Halted, fault_of, next, judged, answered, Goes, lawful, Trouble}
use Rattle.lab_model.specs.Leavings.{Sent, ran, did, OneSided}
use Rattle.lab_model.proofs.CourseLaws.{AddsOnly, sided_after}
use Rattle.lab_model.proofs.Clearing.{done}
use Rattle.lab_model.proofs.Moves.{KeptExact, SparesKept, kept_after, phase_of, part_shrinks, part_of_one_side}
use Rattle.lab_model.proofs.Finished.{is_poll, same_answer}

-- what is left goes to these nodes: commands of the list, boots, the watch
pub record LeftIs (Fine : DeviceOp → Type 0) (left : Left) : Type 0 where
  pub todo : (op : DeviceOp) → Has left.todo op → Fine op
  pub boot : (node : List ℕ) → Has left.boot node → Fine (BootIt node) × Fine (Poll node)
  pub watch : (x : Watch) → left.watch ≡ Some x → Fine (Poll x.node)

pub cut_ends : (cs : Sent) (what : Trouble) (mid : Left) → Goes cs (Cut what) (Going mid) → ⊥
cut_ends [] what mid g = cc
cut_ends (d ∷ ds) what mid g = g

pub halt_ends : (cs : Sent) (mid : Left) → Goes cs Halted (Going mid) → ⊥
halt_ends [] mid g = cc
halt_ends (d ∷ ds) mid g = g

module _ (Fine : DeviceOp → Type 0) where
  pub next_fine : (left : Left) (op : DeviceOp) → LeftIs Fine left → next left.todo left.watch left.boot ≡ Some op → Fine op
  next_fine left op fine is = by left.todo left.watch left.boot fine.todo fine.watch fine.boot is
    where
      by : (todo : List DeviceOp) (watch : Option Watch) (boot : List (List ℕ)) → ((op : DeviceOp) → Has todo op → Fine op) → ((x : Watch) → watch ≡ Some x → Fine (Poll x.node)) → ((node : List ℕ) → Has boot node → Fine (BootIt node) × Fine (Poll node)) → next todo watch boot ≡ Some op → Fine op
      by (o ∷ todo) watch boot t w b is = subst (λ p. Fine p) (same_Some o op is) (t o (inl refl))
      by [] (Some x) boot t w b is = subst (λ p. Fine p) (same_Some _ op is) (w x refl)
      by [] None (node ∷ boot) t w b is = subst (λ p. Fine p) (same_Some _ op is) (b node (inl refl)).0
      by [] None [] t w b is = absurd (cc is)

  -- what is left after an answer is part of it
  abbrev Onwards : Course → Type 0
  Onwards course = (after : Left) → course ≡ Going after → LeftIs Fine after

  fault_fine : (name : List ℕ) (fault : Fault) → Onwards (fault_of name fault)
  fault_fine name Failed after is = absurd (cc is)
  fault_fine name Stopped after is = absurd (cc is)

  at : (left : Left) → LeftIs Fine left → Onwards (Going left)
  at left fine after is = let same : left ≡ after = cc in subst (λ l. LeftIs Fine l) same fine

  if_fine : (b : Bool) (c d : Course) → Onwards c → Onwards d → Onwards (cond b c d)
  if_fine true c d x y = x
  if_fine false c d x y = y

  cut_fine : (what : Trouble) → Onwards (Cut what)
  cut_fine what after is = absurd (cc is)

  halt_fine : Onwards Halted
  halt_fine after is = absurd (cc is)

  judged_fine : (x : Watch) (state : Boot) (boot : List (List ℕ)) → Fine (Poll x.node) → ((node : List ℕ) → Has boot node → Fine (BootIt node) × Fine (Poll node)) → Onwards (judged x state boot)
  judged_fine x IsUp boot w b = at (record { todo = []; boot = boot; watch = None }) (record { todo = λ op h. absurd h; boot = b; watch = λ y is. absurd (cc is) })
  judged_fine x Off boot w b = if_fine _ _ _ (cut_fine _) (at (record { todo = []; boot = boot; watch = Some (record { node = x.node; state = Off; polls = x.polls + 1 }) }) (record { todo = λ op h. absurd h; boot = b; watch = λ y is. subst (λ n. Fine (Poll n)) (ap (λ v. v.node) (same_Some _ y is)) w }))
  judged_fine x Shutdown boot w b = if_fine _ _ _ (cut_fine _) (at (record { todo = []; boot = boot; watch = Some (record { node = x.node; state = Shutdown; polls = x.polls + 1 }) }) (record { todo = λ op h. absurd h; boot = b; watch = λ y is. subst (λ n. Fine (Poll n)) (ap (λ v. v.node) (same_Some _ y is)) w }))
  judged_fine x Booting boot w b = if_fine _ _ _ (cut_fine _) (at (record { todo = []; boot = boot; watch = Some (record { node = x.node; state = Booting; polls = x.polls + 1 }) }) (record { todo = λ op h. absurd h; boot = b; watch = λ y is. subst (λ n. Fine (Poll n)) (ap (λ v. v.node) (same_Some _ y is)) w }))
  judged_fine x TbSetup boot w b = if_fine _ _ _ (cut_fine _) (at (record { todo = []; boot = boot; watch = Some (record { node = x.node; state = TbSetup; polls = x.polls + 1 }) }) (record { todo = λ op h. absurd h; boot = b; watch = λ y is. subst (λ n. Fine (Poll n)) (ap (λ v. v.node) (same_Some _ y is)) w }))

  pub answered_fine : (todo : List DeviceOp) (watch : Option Watch) (boot : List (List ℕ)) (answer : Result Answer Fault) → LeftIs Fine (record { todo = todo; boot = boot; watch = watch }) → Onwards (answered todo watch boot answer)
  answered_fine (o ∷ todo) watch boot (Ok answer) fine = at (record { todo = todo; boot = boot; watch = watch }) (record { todo = λ op h. fine.todo op (inr h); boot = fine.boot; watch = fine.watch })
  answered_fine (o ∷ todo) watch boot (Err fault) fine = fault_fine _ fault
  answered_fine [] (Some x) boot (Ok (State state)) fine = if_fine (lawful x.state state) _ _ (judged_fine x state boot (fine.watch x refl) fine.boot) (cut_fine _)
  answered_fine [] (Some x) boot (Ok Done) fine = halt_fine
  answered_fine [] (Some x) boot (Err fault) fine = fault_fine _ fault
  answered_fine [] None (node ∷ boot) (Ok answer) fine = at (record { todo = []; boot = boot; watch = Some (record { node = node; state = Booting; polls = 0 }) }) (record { todo = λ op h. absurd h; boot = λ n h. fine.boot n (inr h); watch = λ y is. subst (λ n. Fine (Poll n)) (ap (λ v. v.node) (same_Some _ y is)) (fine.boot node (inl refl)).1 })
  answered_fine [] None (node ∷ boot) (Err fault) fine = fault_fine _ fault
  answered_fine [] None [] answer fine = at (record { todo = []; boot = []; watch = None }) (record { todo = λ op h. absurd h; boot = λ n h. absurd h; watch = λ y is. absurd (cc is) })

  -- ALONG ANY COURSE: what each fine command keeps is kept, and the next command is fine
  pub along : (P : World → Type 0) → ((w : World) (op : DeviceOp) (answer : Result Answer Fault) → Fine op → P w → P (did w op true answer))
      → (cs : Sent) (w : World) (left mid : Left) → LeftIs Fine left → Goes cs (Going left) (Going mid) → P w → P (ran w cs) × LeftIs Fine mid
  along P keeps [] w left mid fine goes p = (p, at left fine mid goes)
  along P keeps (c ∷ cs) w left mid fine goes p = go (answered left.todo left.watch left.boot c.1) refl (λ after g q f. along P keeps cs (did w c.0 true c.1) after mid f g q)
    where
      go : (course : Course) → answered left.todo left.watch left.boot c.1 ≡ course → ((after : Left) → Goes cs (Going after) (Going mid) → P (did w c.0 true c.1) → LeftIs Fine after → P (ran (did w c.0 true c.1) cs) × LeftIs Fine mid) → P (ran (did w c.0 true c.1) cs) × LeftIs Fine mid
      go (Going after) is further = further after (subst (λ k. Goes cs k (Going mid)) is goes.1) (keeps w c.0 c.1 (next_fine left c.0 fine goes.0) p) (answered_fine left.todo left.watch left.boot c.1 fine after is)
      go (Cut what) is further = absurd (cut_ends cs what mid (subst (λ k. Goes cs k (Going mid)) is goes.1))
      go Halted is further = absurd (halt_ends cs mid (subst (λ k. Goes cs k (Going mid)) is goes.1))

module _ (lab : Lab) (e : Experiment) (old new : Option Mapped) (moving : e.phase ≡ Moving old new) (which : Which) (m : Mapped) (is_lab : IsLab lab) (suits : Suits lab m) (mine : claimed e which ≡ Some m) (differ : AllDiffer (claimed_tags e)) where
  -- a command that builds: it adds only what the mapping wants, and goes to no kept node
  abbrev pub Building : DeviceOp → Type 0
  Building op = AddsOnly lab m op × SparesKept lab e old new moving op

  -- a command that clears
  pub record Clearing (op : DeviceOp) : Type 0 where
    pub row : op_join op ≡ None
    pub pipe : op_pipe op ≡ None
    pub spares : SparesKept lab e old new moving op
    pub calm : is_poll op ≡ false

  -- EVERY MOMENT OF A COURSE IS SAFE
  pub safe : (c b : List DeviceOp) (boot : List (List ℕ)) (cs : Sent) (w : World) (mid : Left) (op : DeviceOp) (applied : Bool) (answer : Result Answer Fault)
      → ((x : DeviceOp) → Has c x → Clearing x) → LeftIs Building (record { todo = b; boot = boot; watch = None }) → OneSided lab (done w c) e m → Part lab w e
      → Goes cs (Going (record { todo = c ++ b; boot = boot; watch = None })) (Going mid) → next mid.todo mid.watch mid.boot ≡ Some op → Part lab (did (ran w cs) op applied answer) e
  safe [] b boot cs w mid op applied answer clears builds sided part goes comes =
      let kept : KeptExact lab e old new moving w = (phase_of lab e old new moving w part).0 in
      let now = along Building (λ v. KeptExact lab e old new moving v × OneSided lab v e m) (λ v o a fine p. (kept_after lab e old new moving v o true a fine.1 p.0, sided_after lab v e m o true a p.1 fine.0)) cs w (record { todo = b; boot = boot; watch = None }) mid builds goes (kept, sided) in
      let fine = next_fine Building mid op now.1 comes in
      part_of_one_side lab e old new moving (did (ran w cs) op applied answer) which m is_lab suits mine differ
      (kept_after lab e old new moving (ran w cs) op applied answer fine.1 now.0.0) (sided_after lab (ran w cs) e m op applied answer now.0.1 fine.0)
  safe (x ∷ c) b boot [] w mid op applied answer clears builds sided part goes comes =
      let same : ◌≡◌ {A = Left} (record { todo = x ∷ (c ++ b); boot = boot; watch = None }) mid = cc in
      let first : x ≡ op = same_Some x op (subst (λ (l : Left). next l.todo l.watch l.boot ≡ Some op) (sym same) comes) in
      let f = clears x (inl refl) in
      subst (λ o. Part lab (did w o applied answer) e) first (part_shrinks lab e old new moving w x applied answer f.row f.pipe f.spares part)
  safe (x ∷ c) b boot (y ∷ cs) w mid op applied answer clears builds sided part goes comes =
      let f = clears x (inl refl) in
      let first : x ≡ y.0 = same_Some x y.0 goes.0 in
      let here : Part lab (did w y.0 true y.1) e = subst (λ o. Part lab (did w o true y.1) e) first (part_shrinks lab e old new moving w x true y.1 f.row f.pipe f.spares part) in
      let same : did w x true (Ok Done) ≡ did w y.0 true y.1 = sym (same_answer w x y.1 f.calm) ∙ ap (λ o. did w o true y.1) first in
      let later : OneSided lab (done (did w y.0 true y.1) c) e m = subst (λ v. OneSided lab (done v c) e m) same sided in
      go y.1 goes.1 (λ g. safe c b boot cs (did w y.0 true y.1) mid op applied answer (λ z h. clears z (inr h)) builds later here g comes)
    where
      go : (a : Result Answer Fault) → Goes cs (answered (x ∷ (c ++ b)) None boot a) (Going mid) → (Goes cs (Going (record { todo = c ++ b; boot = boot; watch = None })) (Going mid) → Part lab (did (ran (did w y.0 true y.1) cs) op applied answer) e) → Part lab (did (ran (did w y.0 true y.1) cs) op applied answer) e
      go (Ok a) g further = further g
      go (Err Failed) g further = absurd (cut_ends cs _ mid g)
      go (Err Stopped) g further = absurd (halt_ends cs mid g)
