-- A swap to a mapping that can begin.
use Rattle.std.proofs.Common.{◌≡◌, ◌≤◌, ◌<◌, ◌^◌, ◌+◌, ◌&&◌, not, ℕ, Bool, true, false, if◌then◌else◌, nat_le, is_none, is_some, IfOk, OnOk, List, ◌∷◌, ◌++◌, length, map, Option, Some, None, Result, Ok, Err, refl, sym, ap, ◌∙◌, subst, arith}
use Rattle.std.specs.List.{count_by, sum_by}
use Rattle.std.proofs.lemmas.Bool.{and_parts, eqb-true, leb-true, lt-leb}
use Rattle.std.proofs.lemmas.List.Sums.{length-filter, sum_by-append, sum_by-cons}
use Rattle.lab_base.specs.Lists.{Has, AllDiffer}
use Rattle.lab_base.specs.declared.ids.VlanId.{VlanId}
use Rattle.lab_base.specs.declared.memory.Memory.{Memory as NoMemory}
use Rattle.phys_lab.specs.Kept.{IsLab}
use Rattle.phys_lab.specs.Labs.{Lab}
use Rattle.phys_lab.specs.declared.free.Free.{Free}
use Rattle.virt_topo.specs.Soundness.{IsSound}
use Rattle.virt_topo.specs.declared.experiment.Experiment.{Experiment}
use Rattle.virt_topo.specs.declared.experiment.Phase.{Phase}
use Rattle.virt_topo.specs.declared.experiment.Phase.TheVariants.{Out, In, Moving}
use Rattle.virt_topo.specs.declared.mapping.Mapped.{Mapped}
use Rattle.virt_topo.specs.declared.mapping.Mapping.{Mapping}
use Rattle.virt_topo.specs.declared.wiring.Wiring.{Wiring}
use Rattle.virt_topo.specs.declared.violation.Broken.{Broken}
use Rattle.virt_topo.specs.declared.violation.Broken.TheVariants.{F8}
use Rattle.virt_topo.specs.declared.violation.Subject.{Subject}
use Rattle.virt_topo.specs.Sharing.{has_multiplexed}
use Rattle.virt_topo.specs.Wirings.{mapped}
use Rattle.journal_rec.specs.declared.record.Way.{Way}
use Rattle.journal_rec.specs.declared.record.Way.TheVariants.{In as WayIn}
use Rattle.lab_model.specs.Beside.{IsLeft, claimed_segments, has_ids, has_room, ids_of, is_unclaimed, violation_beside}
use Rattle.lab_model.specs.Courses.{Plan}
use Rattle.lab_model.specs.Feasible.{violation}
use Rattle.lab_model.specs.Holding.{Holding}
use Rattle.lab_model.specs.Shapes.{IsShaped}
use Rattle.lab_model.proofs.FeasibleLaws.{kept_from}
use Rattle.lab_model.proofs.FirstViolation.{same_violation}
use Rattle.records_model.specs.Labs.{LabState, Move, Sane, BeginsIn, BeginsChange, SaysBegin, becomes, can_take, change_in, find, in_phase, in_state, lab_in, moved, moved_in, moved_of, moved_one, others, replace, with_replaced}
use Rattle.records_model.proofs.Finding.{Found, found_from}
use Rattle.records_model.proofs.LabLaws.{change_says}
use Rattle.records_model.proofs.Swaps.{found_in}
use Rattle.claims.specs.Answered.{AreTaken}
use Rattle.claims.specs.Experiments.{ClaimsOf}
use Rattle.claims.specs.Held.{Held, IsLeftTo, free_ids, has_id, ids}
use Rattle.claims.proofs.Matching.{Match}
use Rattle.claims.proofs.OthersLeave.{ids_left, is_left, named_apart}
use Rattle.solution_text.specs.CanonicalSolution.{canonical_solution}
use Rattle.swap_txn.specs.States.{is_over, unsent}
use Rattle.swap_plan.specs.Plans.{IsFit}
use Rattle.swap_turns.specs.Swaps.{Swap as SwapOf, swap_in}
use Rattle.swap_turns.proofs.Begins.{moves_in, moves_over, unsent_over}
use Rattle.lab_state.specs.Texts.{the_texts}
use Rattle.script_text.specs.declared.reply.Reply.{Reply}
use Rattle.solution_text.specs.Solutions.{mapping_of_text}
use Rattle.top_text.specs.Adding.{wiring_of_text}
use Rattle.top_text.specs.Canonical.{canonical_top}
use Rattle.top_text.specs.Printable.{is_printable}
use Rattle.lab_tasks.specs.declared.task.NewSwap.{NewSwap}
use Rattle.lab_tasks.specs.declared.task.Task.{Task as TaskInHand}
use Rattle.lab_tasks.specs.declared.task.Task.TheVariants as tasks
use Rattle.lab_tasks.specs.declared.task.Refusal.{Refusal}
use Rattle.lab_tasks.specs.declared.task.Refusal.TheVariants.{Refused, Memory}
use Rattle.lab_tasks.specs.Counts.{least_tags}
use Rattle.lab_tasks.specs.Tasks.{Task, Swap as SwapTask, CanDo, Gives, IsRefusal, Refuses, task_of}
use Rattle.lab_tasks.specs.Mappings.{begun_as, in_slot, judged_change, judged_mapping, judged_modify_with, judged_swapin_with, task_in, task_over}
use Rattle.lab_tasks.specs.Needs.{need_feasible, need_kept, need_slot, ◌>>=◌}
use Rattle.lab_tasks.specs.JudgeSwap.{CanTake, IsInIn, IsOutIn, IsTaskOf, IsThere, IsWayOf, Keeps, change_of, way_over}
use Rattle.lab_state.proofs.Named.{name_is}
use Rattle.lab_tasks.proofs.JudgeTasks.{Leads, can_swap, stands_sound}
use Rattle.lab_tasks.proofs.Tags.{least_are}
use Rattle.lab_tasks.proofs.Taken.{free_of_all, each_fits}

-- what is found by a name is there
pub is_there : (s : LabState) (exp : List ℕ) (lab : Lab) (e : Experiment) → s.lab ≡ Some lab → find exp s.experiments ≡ Some e → Sane s → IsThere s lab e
is_there s exp lab e is found sane = record { is_lab = is; found = ap (λ n. find n s.experiments) (name_is exp s.experiments e found) ∙ found; sane = sane }

-- THE CHECK of a mapping of a wiring beside the other experiments
module _ (s : LabState) (lab : Lab) (e : Experiment) (held : Held) (o : IsThere s lab e) (of_es : ClaimsOf (lab_in s.lab) s.experiments held) where
  same : lab_in s.lab ≡ lab
  same = ap lab_in o.is_lab

  of_lab : ClaimsOf lab s.experiments held
  of_lab = subst (λ (l : Lab). ClaimsOf l s.experiments held) same of_es

  pub at : Found e.name s.experiments e
  at = found_from e.name s.experiments e o.found

  pub left_is : (free : Free) → IsLeftTo held e.name free → IsLeft lab (at.before ++ at.after) e free
  left_is free left =
      is_left lab at.before at.after e held (subst (λ (l : List Experiment). ClaimsOf lab l held) at.whole of_lab) free (subst IsLab same o.sane.is_lab)
      (subst (λ (l : List Experiment). Holding lab l) at.whole (subst (λ (l : Lab). Holding l s.experiments) same o.sane.holding))
      (subst (λ (l : List Experiment). AllDiffer (map (λ e. e.name) l)) at.whole o.sane.names) left

  module _ (w : Wiring) (m : Mapping) (free : Free) (left : IsLeftTo held e.name free) where
    pub checks : IsShaped lab w m → violation lab free w m ≡ violation_beside lab (others e.name s.experiments) e w m
    checks shaped = same_violation lab (at.before ++ at.after) e free w m (left_is free left) shaped ∙ ap (λ (l : List Experiment). violation_beside lab l e w m) (sym at.others_are)

  -- so a mapping that keeps the rules on what is free keeps them beside the others
  pub keeps_so : (w : Wiring) (m : Mapping) (free : Free) → IsLeftTo held e.name free → IsShaped lab w m → violation lab free w m ≡ None → Keeps s lab e w m
  keeps_so w m free left shaped none = record { shaped = shaped; keeps = sym (checks w m free left shaped) ∙ none }

  -- THERE ARE VLAN IDS ENOUGH where they are kept, and the least are taken
  free_count : length (free_ids held) + sum_by claimed_segments s.experiments ≡ ids_of lab
  free_count =
      let holding : Holding lab s.experiments = subst (λ (l : Lab). Holding l s.experiments) same o.sane.holding in
      let matching : Match lab held.entries s.experiments = record { once = of_lab.once; known = of_lab.known; claims = of_lab.claims; names = named_apart s.experiments o.sane.names } in
      let count : length (free_ids held) ≡ count_by (λ id. not (has_id held.entries id)) (ids lab.range) =
      length-filter (λ id. not (has_id held.entries id)) (ids held.range) ∙ ap (λ (range : ℕ × ℕ). count_by (λ id. not (has_id held.entries id)) (ids range)) of_lab.range in
      omega (arith, count, ids_left lab held.entries s.experiments holding matching)

  own_first : sum_by claimed_segments (e ∷ others e.name s.experiments) ≡ sum_by claimed_segments s.experiments
  own_first =
      omega (
        arith,
        ap (λ (l : List Experiment). sum_by claimed_segments (e ∷ l)) at.others_are,
        ap (λ (l : List Experiment). sum_by claimed_segments l) at.whole,
        sum_by-cons claimed_segments e (at.before ++ at.after),
        sum_by-append claimed_segments at.before at.after,
        sum_by-append claimed_segments at.before (e ∷ at.after),
        sum_by-cons claimed_segments e at.after,
      )

  module _ (w : Wiring) (m : Mapping) (keeps : Keeps s lab e w m) where
    pub enough : length w.segments ≤ length (free_ids held)
    enough =
        let os = others e.name s.experiments in
        let kept : has_ids lab os e w ≡ true = kept_from lab w m (is_unclaimed lab os m) (has_room lab os w m) (has_ids lab os e w) keeps.keeps F8 0 (omega arith) in
        omega (arith, leb-true (length w.segments + sum_by claimed_segments (e ∷ os)) (ids_of lab) kept, own_first, free_count)

    takes : (tags : List VlanId) → AreTaken (free_ids held) (length w.segments) (Ok tags) → CanTake s lab e w m tags
    takes tags taken = record {
      keeps = keeps.keeps;
      least = least_are lab s.experiments held o.sane.names of_lab (length w.segments) tags taken;
      free = free_of_all lab s.experiments held w tags o.sane.names of_lab taken;
    }

    pub takes_if : (r : Result (List VlanId) NoMemory) → IfOk r (λ tags. AreTaken (free_ids held) (length w.segments) (Ok tags)) → IfOk r (CanTake s lab e w m)
    takes_if (Ok tags) taken = takes tags taken
    takes_if (Err memory) taken = tt

-- WHAT IS TAKEN, where it can be
module _ (s : LabState) (lab : Lab) (e : Experiment) (w : Wiring) (m : Mapping) (tags : List VlanId) (o : IsThere s lab e) (can : CanTake s lab e w m tags) where
  pub lab_kept : IsLab lab
  lab_kept = subst IsLab (ap lab_in o.is_lab) o.sane.is_lab

  pub tags_as_many : length tags ≡ length w.segments
  tags_as_many = eqb-true _ _ (and_parts _ _ (and_parts _ _ can.free).0).0

  pub ids_fit : (tag : VlanId) → Has tags tag → tag.0 < 2 ^ 16
  ids_fit = each_fits lab s.experiments w tags lab_kept can.free

  -- so it is judged
  judged_so : (way : List VlanId → Way)
      → (need_feasible lab s.experiments e w m >>= λ feasible. let r : Result Task Reply = Ok (SwapTask e.name (way (least_tags lab s.experiments (length w.segments)))) in r) ≡ Ok (SwapTask e.name (way tags))
  judged_so way =
      let least = least_tags lab s.experiments (length w.segments) in
      ap (λ v. need_kept lab e.name w v >>= λ feasible. let r : Result Task Reply = Ok (SwapTask e.name (way least)) in r) can.keeps
      ∙ ap (λ (l : List VlanId). let r : Result Task Reply = Ok (SwapTask e.name (way l)) in r) (sym can.least)

  -- and the experiment moves to it
  abbrev begun : Option Mapped → Experiment
  begun old = in_phase e (Moving old (Some (mapped w m tags)))

  gives_by : (old : Option Mapped) (phase : Phase) (move : Move) → e.phase ≡ phase → moved_in lab s.experiments move ≡ moved_one lab s.experiments e.name (find e.name s.experiments) move
      → becomes lab s.experiments e phase move ≡ (if can_take lab s.experiments e (mapped w m tags) then Some (begun old) else None)
      → moved s move ≡ Some (record { lab = Some lab; experiments = replace e.name (begun old) s.experiments })
  gives_by old phase move is one turns =
      let can_so : can_take lab s.experiments e (mapped w m tags) ≡ true = λ i. is_none (can.keeps i) && can.free i in
      ap (λ (l : Option Lab). moved_of l s.experiments move) o.is_lab
      ∙ ap (in_state lab) one
      ∙ ap (λ (x : Option Experiment). in_state lab (moved_one lab s.experiments e.name x move)) o.found
      ∙ ap (λ (p : Phase). in_state lab (with_replaced e.name s.experiments (becomes lab s.experiments e p move))) is
      ∙ ap (λ (x : Option Experiment). in_state lab (with_replaced e.name s.experiments x)) turns
      ∙ ap (λ (b : Bool). in_state lab (with_replaced e.name s.experiments (if b then Some (begun old) else None))) can_so

  -- a task by its record, which leads there
  planned : (p : SwapOf) (way : List VlanId → Way) → p.name ≡ e.name
      → ((said : Way) (course back : Plan) → IsWayOf lab p (way tags) said course back → Leads s lab p said course back)
      → (task : TaskInHand) → IsTaskOf lab p (way tags) task
      → ((need_feasible lab s.experiments e w m >>= λ feasible. let r : Result Task Reply = Ok (SwapTask e.name (way (least_tags lab s.experiments (length w.segments)))) in r) ≡ Ok (task_of task)) × CanDo s task
  planned p way named leads (tasks.Swap swap) h = (
    judged_so way ∙ (λ i. let r : Result Task Reply = Ok (SwapTask ((sym named ∙ sym h.0) i) (sym h.1.way_is i)) in r),
    subst (λ (n : List ℕ). CanDo s (tasks.Swap (record swap { exp = n }))) (sym h.0) (can_swap s lab p swap.way swap.ops o.is_lab h.1.is_record (leads swap.way swap.ops.commands swap.ops.undo h.1)),
  )
  planned p way named leads (tasks.Tell reply) h = absurd h
  planned p way named leads (tasks.Append entry reply) h = absurd h
  planned p way named leads (tasks.BeginOnly swap) h = absurd h
  planned p way named leads (tasks.Turn exp) h = absurd h
  planned p way named leads (tasks.Finish exp) h = absurd h
  planned p way named leads tasks.Recover h = absurd h

pub sound_of : (s : LabState) (lab : Lab) (e : Experiment) → IsThere s lab e → IsSound e.wiring
sound_of s lab e o = o.sane.wirings e (found_in e.name s.experiments e o.found)

-- A SWAP-IN of an experiment that is out
module _ (s : LabState) (lab : Lab) (e : Experiment) (m : Mapping) (tags : List VlanId) (o : IsOutIn s lab e) (shaped : IsShaped lab e.wiring m) (can : CanTake s lab e e.wiring m tags) where
  leads_in : (way : Way) (course back : Plan) → IsWayOf lab (swap_in e m tags) (WayIn (canonical_solution lab e.wiring m) tags) way course back → Leads s lab (swap_in e m tags) way course back
  leads_in way course back is =
      let move : Move = BeginsIn e.name m tags in
      let said : SaysBegin the_texts s e.name (WayIn (canonical_solution lab e.wiring m) tags) move
      = (lab, e, m, o.there.is_lab, o.there.found, lab_kept s lab e e.wiring m tags o.there can, record { sound = sound_of s lab e o.there; printable = o.printable }, shaped, refl, refl) in
      record {
        move = move;
        says = subst (λ (w : Way). SaysBegin the_texts s e.name w move) (sym is.way_is) said;
        ready = λ w. tt;
        begins = refl;
        state = record { lab = Some lab; experiments = replace e.name (begun s lab e e.wiring m tags o.there can None) s.experiments };
        gives = gives_by s lab e e.wiring m tags o.there can None Out move o.out refl refl;
        moves = λ short u gives. moves_in s u e m tags short o.there.found o.out gives;
        plan = λ i. unsent e.name (is.way_is i) (is.course_is i) (is.back_is i);
      }

  pub planned_in : (task : TaskInHand) → IsTaskOf lab (swap_in e m tags) (WayIn (canonical_solution lab e.wiring m) tags) task → (judged_mapping s lab e m ≡ Ok (task_of task)) × CanDo s task
  planned_in = planned s lab e e.wiring m tags o.there can (swap_in e m tags) (λ tags. WayIn (canonical_solution lab e.wiring m) tags) refl leads_in

over_by : (second : Bool) (top map : List ℕ) (tags : List VlanId) → is_over (change_in second top map tags) ≡ true
over_by false top map tags = refl
over_by true top map tags = refl

over_leads : (lab : Lab) (new : Mapped) → is_over (way_over lab new) ≡ true
over_leads lab new = over_by (has_multiplexed new.wiring) (canonical_top new.wiring) (canonical_solution lab new.wiring new.mapping) new.tags

-- A CHANGE of one that is in
module _ (s : LabState) (lab : Lab) (e : Experiment) (mapping : Mapping) (old : List VlanId) (w : Wiring) (m : Mapping) (tags : List VlanId) (o : IsInIn s lab e mapping old) (sound : IsSound w) (shaped : IsShaped lab w m) where
  pub old_fit : IsFit lab (mapped e.wiring mapping old)
  old_fit = let h = stands_sound s e.name lab e mapping old o.there.sane o.there.is_lab o.there.found o.inside in record { sound = h.0; shaped = h.1; tagged = h.2 }

  module _ (can : CanTake s lab e w m tags) where
    pub new_fit : IsFit lab (mapped w m tags)
    new_fit = record { sound = sound; shaped = shaped; tagged = tags_as_many s lab e w m tags o.there can }

    module _ (printable : is_printable w ≡ true) where
      leads_over : (way : Way) (course back : Plan) → IsWayOf lab (change_of e.name (mapped e.wiring mapping old) (mapped w m tags)) (way_over lab (mapped w m tags)) way course back
          → Leads s lab (change_of e.name (mapped e.wiring mapping old) (mapped w m tags)) way course back
      leads_over way course back is =
          let move : Move = BeginsChange e.name w m tags in
          let said : SaysBegin the_texts s e.name (way_over lab (mapped w m tags)) move
          = change_says the_texts s e.name (canonical_top w) (canonical_solution lab w m) tags (has_multiplexed w) move
          (lab, w, m, o.there.is_lab, lab_kept s lab e w m tags o.there can, record { text = record { sound = sound; printable = printable }; says = refl; format = refl }, shaped, refl, refl) in
          record {
            move = move;
            says = subst (λ (x : Way). SaysBegin the_texts s e.name x move) (sym is.way_is) said;
            ready = λ v. tt;
            begins = refl;
            state = record { lab = Some lab; experiments = replace e.name (begun s lab e w m tags o.there can (Some (mapped e.wiring mapping old))) s.experiments };
            gives = gives_by s lab e w m tags o.there can (Some (mapped e.wiring mapping old)) (In mapping old) move o.inside refl refl;
            moves = λ short u gives. moves_over s u e mapping old w m tags short o.there.found o.inside gives;
            plan = (λ i. unsent e.name (is.way_is i) (is.course_is i) (is.back_is i)) ∙ unsent_over e mapping old w m tags lab (way_over lab (mapped w m tags)) (over_leads lab (mapped w m tags));
          }

      pub planned_over : (task : TaskInHand) → IsTaskOf lab (change_of e.name (mapped e.wiring mapping old) (mapped w m tags)) (way_over lab (mapped w m tags)) task → (judged_change s lab e w m ≡ Ok (task_of task)) × CanDo s task
      planned_over = planned s lab e w m tags o.there can (change_of e.name (mapped e.wiring mapping old) (mapped w m tags)) (λ tags. way_over lab (mapped w m tags)) refl leads_over

-- WHAT IS JUDGED of an experiment that is there and has no open swap, once its text is read
pub in_reads : (s : LabState) (busy : Bool) (exp text : List ℕ) (lab : Lab) (e : Experiment) (m : Mapping) → s.lab ≡ Some lab → find exp s.experiments ≡ Some e → busy ≡ false → e.phase ≡ Out → mapping_of_text lab e.wiring text ≡ Ok m
    → judged_swapin_with s busy exp text ≡ judged_mapping s lab e m
in_reads s busy exp text lab e m is found idle out read = rw (is, found, idle, out, read) refl

pub over_reads : (s : LabState) (busy : Bool) (exp : List ℕ) (lines : ℕ) (top map : List ℕ) (lab : Lab) (e : Experiment) (mapping : Mapping) (old : List VlanId) (w : Wiring) (m : Mapping) → s.lab ≡ Some lab → find exp s.experiments ≡ Some e → busy ≡ false
    → e.phase ≡ In mapping old → wiring_of_text top ≡ Ok w → mapping_of_text lab w map ≡ Ok m → judged_modify_with s busy exp lines top map ≡ judged_change s lab e w m
over_reads s busy exp lines top map lab e mapping old w m is found idle inside reads read = rw (is, found, idle, inside, reads, read) refl

-- a refusal in other words
pub refuses_as : {Y : Type 0} (X : Type 0) (judgement other : Result Y Reply) (refusal : Refusal) → other ≡ judgement → IsRefusal other refusal → Refuses {X = X} judgement (Err refusal)
refuses_as X judgement other (Refused reply) is h = (sym is ∙ h.0, h.1)
refuses_as X judgement other Memory is h = tt

pub is_none_not : {X : Type 0} (o : Option X) (x : X) → is_some o ≡ false → o ≡ Some x → ⊥
is_none_not o x none some = let both : false ≡ true = sym none ∙ ap is_some some in cc both

-- ---- A SWAP THAT NOTHING ELSE REFUSES, and room among the open swaps
slot_free : (count : ℕ) → count < 16 → need_slot count ≡ Ok tt
slot_free count few = let free : nat_le 16 count ≡ false = lt-leb 16 count few in rw free refl

module _ (count : ℕ) (only : Bool) (judgement : Result Task Reply) where
  pub refused_before : (refusal : Refusal) → Gives judgement (Err refusal) → Gives (in_slot count only judgement) (Err refusal)
  refused_before (Refused reply) h = (ap (λ (j : Result Task Reply). in_slot count only j) h.0, h.1)
  refused_before Memory h = tt

  abbrev slot_then : Task → Result (Unit {0}) Reply → Result Task Reply
  slot_then task slot = slot >>= λ free. let r : Result Task Reply = Ok (begun_as only task) in r

  pub no_slot : (task : TaskInHand) (refusal : Refusal) → Gives judgement (Ok task) → Refuses {X = Unit {0}} (need_slot count) (Err refusal) → Gives (in_slot count only judgement) (Err refusal)
  no_slot task (Refused reply) h refuses = (ap (λ (j : Result Task Reply). in_slot count only j) h ∙ ap (slot_then (task_of task)) refuses.0, refuses.1)
  no_slot task Memory h refuses = tt

  pub has_slot : (task made : TaskInHand) → Gives judgement (Ok task) → count < 16 → task_of made ≡ begun_as only (task_of task) → Gives (in_slot count only judgement) (Ok made)
  has_slot task made h few is =
      ap (λ (j : Result Task Reply). in_slot count only j) h
      ∙ ap (slot_then (task_of task)) (slot_free count few)
      ∙ ap (λ (t : Task). let r : Result Task Reply = Ok t in r) (sym is)

-- each other task is as it was
pub begun_same : (task : TaskInHand) → ((swap : NewSwap) → task ≡ tasks.Swap swap → ⊥) → task_of task ≡ begun_as true (task_of task)
begun_same (tasks.Tell reply) other = refl
begun_same (tasks.Append entry reply) other = refl
begun_same (tasks.Swap swap) other = absurd (other swap refl)
begun_same (tasks.BeginOnly swap) other = refl
begun_same (tasks.Turn exp) other = refl
begun_same (tasks.Finish exp) other = refl
begun_same tasks.Recover other = refl

-- ---- A MAPPING THAT KEEPS THE RULES is judged to be a swap to it
module _ (s : LabState) (lab : Lab) (e : Experiment) where
  pub entry_is : (m : Mapping) → Keeps s lab e e.wiring m → judged_mapping s lab e m ≡ Ok (task_in s lab e m)
  entry_is m keeps = ap (λ (v : Option (Broken × Subject)). need_kept lab e.name e.wiring v >>= (λ feasible. Ok (task_in s lab e m))) keeps.keeps

  pub change_is : (w : Wiring) (m : Mapping) → Keeps s lab e w m → judged_change s lab e w m ≡ Ok (task_over s lab e w m)
  change_is w m keeps = ap (λ (v : Option (Broken × Subject)). need_kept lab e.name w v >>= (λ feasible. Ok (task_over s lab e w m))) keeps.keeps

-- a task that is judged is that one
pub task_is : (judgement : Result Task Reply) (task own : Task) → judgement ≡ Ok task → judgement ≡ Ok own → own ≡ task
task_is judgement task own is gives = let both : ◌≡◌ {A = Result Task Reply} (Ok task) (Ok own) = sym is ∙ gives in let same : task ≡ own = cc both in sym same

-- the task of a swap to it, and of a change
module _ (s : LabState) (lab : Lab) (e : Experiment) (m : Mapping) (tags : List VlanId) (o : IsOutIn s lab e) (keeps : Keeps s lab e e.wiring m) (can : CanTake s lab e e.wiring m tags) where
  pub entry_if : (r : Result TaskInHand NoMemory) → IfOk r (IsTaskOf lab (swap_in e m tags) (WayIn (canonical_solution lab e.wiring m) tags)) → IfOk r (λ task. task_of task ≡ task_in s lab e m) × IfOk r (CanDo s)
  entry_if (Ok task) h =
      let p = planned_in s lab e m tags o keeps.shaped can task h in
      (task_is (judged_mapping s lab e m) (task_in s lab e m) (task_of task) (entry_is s lab e m keeps) p.0, p.1)
  entry_if (Err memory) h = (tt, tt)

module _ (s : LabState) (lab : Lab) (e : Experiment) (mapping : Mapping) (old : List VlanId) (w : Wiring) (m : Mapping) (tags : List VlanId) (o : IsInIn s lab e mapping old) (sound : IsSound w) (keeps : Keeps s lab e w m) (can : CanTake s lab e w m tags) where
  pub change_if : (r : Result TaskInHand NoMemory) → OnOk r (is_printable w ≡ true) → IfOk r (IsTaskOf lab (change_of e.name (mapped e.wiring mapping old) (mapped w m tags)) (way_over lab (mapped w m tags)))
      → IfOk r (λ task. task_of task ≡ task_over s lab e w m) × IfOk r (CanDo s)
  change_if (Ok task) printable h =
      let p = planned_over s lab e mapping old w m tags o sound keeps.shaped can printable task h in
      (task_is (judged_change s lab e w m) (task_over s lab e w m) (task_of task) (change_is s lab e w m keeps) p.0, p.1)
  change_if (Err memory) printable h = (tt, tt)
