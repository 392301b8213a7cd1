-- The tasks of commands can be done.
use Rattle.std.proofs.Common.{◌≡◌, ◌<◌, ℕ, Bool, true, false, nat_le, List, [], ◌∷◌, ◌++◌, length, Option, Some, None, Ok, refl, sym, ap, ◌∙◌, subst, arith}
use Rattle.std.proofs.lemmas.Bool.{le-leb}
use Rattle.lab_base.specs.declared.ids.VlanId.{VlanId}
use Rattle.phys_lab.specs.Labs.{Lab}
use Rattle.phys_lab.specs.Kept.{IsLab}
use Rattle.virt_topo.specs.Soundness.{IsSound}
use Rattle.virt_topo.specs.declared.experiment.Experiment.{Experiment}
use Rattle.virt_topo.specs.declared.experiment.Phase.TheVariants.{Out, In, Moving}
use Rattle.virt_topo.specs.declared.mapping.Mapping.{Mapping}
use Rattle.virt_topo.specs.declared.wiring.Wiring.{Wiring}
use Rattle.virt_topo.specs.Sharing.{has_multiplexed}
use Rattle.virt_topo.specs.Wirings.{mapped}
use Rattle.journal_rec.specs.Payloads.{IsRecord}
use Rattle.journal_rec.specs.declared.record.Record.{Record}
use Rattle.journal_rec.specs.declared.record.Record.TheVariants.{Lab as LabRecord, Delete, Begin}
use Rattle.journal_rec.specs.declared.record.Way.{Way}
use Rattle.journal_rec.specs.declared.record.Way.TheVariants.{Out as WayOut}
use Rattle.lab_model.specs.Courses.{commands}
use Rattle.records_model.specs.Labs.{LabState, Says, create_in, SetLab, Creates, Deletes, BeginsOut, find, others, replace, in_phase}
use Rattle.records_model.proofs.LabLaws.{create_says}
use Rattle.lab_state.proofs.Named.{name_is}
use Rattle.ptop_text.specs.Canonical.{canonical}
use Rattle.top_text.specs.Canonical.{canonical_top}
use Rattle.top_text.specs.Printable.{is_printable}
use Rattle.script_text.specs.declared.reply.Reply.{Reply}
use Rattle.swap_plan.specs.declared.commands.Ops.{Ops}
use Rattle.swap_turns.proofs.Begins.{moves_out}
use Rattle.swap_turns.specs.Swaps.{swap_out}
use Rattle.swap_txn.specs.States.{unsent}
use Rattle.lab_tasks.specs.declared.task.Task.TheVariants as tasks
use Rattle.lab_tasks.specs.Needs.{need_lab_and_name}
use Rattle.lab_judge.specs.Judge.{lab_reply, created_reply}
use Rattle.lab_state.specs.Texts.{the_texts}
use Rattle.lab_tasks.specs.Tasks.{CanDo, EndsNoMove, IsMild, MayFollow}
use Rattle.lab_tasks.proofs.JudgeTasks.{can_swap}

creates_none : (second : Bool) (exp top : List ℕ) → EndsNoMove (create_in second exp top)
creates_none false exp top = tt
creates_none true exp top = tt

module _ (s : LabState) where
  -- `ptop`
  pub can_set : (lab : Lab) (ptop : List ℕ) (entry : Record) (reply : Reply) → s.lab ≡ None → IsLab lab → ptop ≡ canonical lab → entry ≡ LabRecord ptop → IsRecord entry → reply ≡ lab_reply lab → CanDo s (tasks.Append entry reply)
  can_set lab ptop entry reply none is text entry_is is_record reply_is = record {
    is_record = is_record;
    follows = subst (λ (r : Record). MayFollow s r) (sym (entry_is ∙ ap (λ (t : List ℕ). LabRecord t) text))
        (record { move = SetLab lab; says = (lab, is, refl, refl); state = record { lab = Some lab; experiments = [] }; moves = rw none refl; ready = λ w. tt });
    no_end = subst EndsNoMove (sym entry_is) tt;
    mild = subst IsMild (sym reply_is) (refl, refl, refl);
  }

  -- `create` and `create-top`
  created : (exp : List ℕ) (w : Wiring) (lab : Lab) → s.lab ≡ Some lab → find exp s.experiments ≡ None → length s.experiments < 256 → IsSound w → is_printable w ≡ true → MayFollow s (create_in (has_multiplexed w) exp (canonical_top w))
  created exp w lab is new few sound printable =
      let few_so : nat_le (length s.experiments) 255 ≡ true = le-leb _ _ (omega (arith, few)) in
      record {
        move = Creates exp w;
        says = create_says the_texts s exp (canonical_top w) (has_multiplexed w) (Creates exp w) (w, record { text = record { sound = sound; printable = printable }; says = refl; format = refl }, refl);
        state = record { lab = Some lab; experiments = s.experiments ++ record { name = exp; wiring = w; phase = Out } ∷ [] };
        moves = rw (is, new, few_so) refl;
        ready = λ v. tt;
      }

  placed : (exp : List ℕ) → need_lab_and_name s exp ≡ Ok tt → (lab : Lab) × (s.lab ≡ Some lab) × (find exp s.experiments ≡ None)
  placed exp occupied = by s.lab (find exp s.experiments) refl refl
    where
      by : (l : Option Lab) (o : Option Experiment) → s.lab ≡ l → find exp s.experiments ≡ o → (lab : Lab) × (s.lab ≡ Some lab) × (find exp s.experiments ≡ None)
      by None o is found = let h = rw is at occupied in absurd (cc h)
      by (Some lab) None is found = (lab, is, found)
      by (Some lab) (Some e) is found = let h = rw (is, found) at occupied in absurd (cc h)

  pub can_create : (exp : List ℕ) (w : Wiring) (top : List ℕ) (entry : Record) (reply : Reply) → need_lab_and_name s exp ≡ Ok tt → length s.experiments < 256 → IsSound w → is_printable w ≡ true → top ≡ canonical_top w → entry ≡ create_in (has_multiplexed w) exp top → IsRecord entry → reply ≡ created_reply exp w
      → CanDo s (tasks.Append entry reply)
  can_create exp w top entry reply occupied few sound printable text entry_is is_record reply_is = record {
    is_record = is_record;
    follows = let p = placed exp occupied in subst (λ (r : Record). MayFollow s r) (sym (entry_is ∙ ap (λ (t : List ℕ). create_in (has_multiplexed w) exp t) text)) (created exp w p.0 p.1 p.2 few sound printable);
    no_end = subst EndsNoMove (sym entry_is) (creates_none (has_multiplexed w) exp top);
    mild = subst IsMild (sym reply_is) (refl, refl, refl);
  }

  -- `delete`
  pub can_delete : (exp : List ℕ) (e : Experiment) (lab : Lab) (entry : Record) (reply : Reply) → s.lab ≡ Some lab → find exp s.experiments ≡ Some e → e.phase ≡ Out → entry ≡ Delete exp → IsRecord entry → IsMild reply → CanDo s (tasks.Append entry reply)
  can_delete exp e lab entry reply is found out entry_is is_record mild = record {
    is_record = is_record;
    follows = subst (λ (r : Record). MayFollow s r) (sym entry_is) (record { move = Deletes exp; says = refl; state = record { lab = Some lab; experiments = others exp s.experiments }; moves = rw (is, found, out) refl; ready = λ v. tt });
    no_end = subst EndsNoMove (sym entry_is) tt;
    mild = mild;
  }

  -- `swapout`
  module _ (exp : List ℕ) (lab : Lab) (e : Experiment) (mapping : Mapping) (tags : List VlanId) (is : s.lab ≡ Some lab) (found : find exp s.experiments ≡ Some e) (inside : e.phase ≡ In mapping tags) where
    pub can_leave : (way : Way) (ops : Ops) → way ≡ WayOut → IsRecord (Begin exp way) → ops.commands ≡ commands lab (Some (mapped e.wiring mapping tags)) None → CanDo s (tasks.Swap (record { exp = exp; way = way; ops = ops }))
    can_leave way ops way_is is_record course_is =
        let named : e.name ≡ exp = name_is exp s.experiments e found in
        let found_so : find e.name s.experiments ≡ Some e = ap (λ (n : List ℕ). find n s.experiments) named ∙ found in
        subst (λ (n : List ℕ). CanDo s (tasks.Swap (record { exp = n; way = way; ops = ops }))) named (can_swap s lab (swap_out e mapping tags) way ops is (subst (λ (n : List ℕ). IsRecord (Begin n way)) (sym named) is_record) (record {
          move = BeginsOut e.name;
          says = subst (λ (w : Way). Says the_texts s (Begin e.name w) (BeginsOut e.name)) (sym way_is) refl;
          ready = λ w. tt;
          begins = refl;
          state = record { lab = Some lab; experiments = replace e.name (in_phase e (Moving (Some (mapped e.wiring mapping tags)) None)) s.experiments };
          gives = rw (is, found_so, inside) refl;
          moves = λ short u gives. moves_out s u e mapping tags short found_so inside gives;
          plan = λ i. unsent e.name (way_is i) (course_is i) ops.undo;
        }))
