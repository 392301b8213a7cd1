-- A record that a turn appends, over what a plant tells.
use Rattle.std.proofs.Common.{◌≡◌, ◌+◌, List, [], ◌∷◌, ◌++◌, Some, IfSome, Result, Ok, OnOk, sym, ap, ◌∙◌, subst}
use Rattle.std.proofs.lemmas.List.{append-nil}
use Rattle.plant.specs.Events.{Event}
use Rattle.plant.specs.Told.{Told, with_steps}
use Rattle.journal_rec.specs.declared.record.Record.{Record}
use Rattle.journal_model.specs.Appends.{All, added}
use Rattle.journal_model.specs.Journals.{size}
use Rattle.journal_disk.specs.Epochs.{HasEpoch}
use Rattle.journal_disk.specs.Standing.{IsAt, side_of, gate_of, length_of, Ends}
use Rattle.journal_disk.specs.declared.fault.AppendFault.{AppendFault}
use Rattle.journal_disk.specs.declared.journal.Journal.{Journal}
use Rattle.records_model.specs.Labs.{LabState, Texts, LabOf}
use Rattle.records_model.specs.Works.{IsSound, AtWork, MayAppend}
use Rattle.swap_turns.specs.Lengths.{appended, IsLonger}
use Rattle.swap_turns.specs.Working.{StandForEither}
use Rattle.swap_turns.proofs.Endings.{append_done, append_left}
use Rattle.plant.specs.Seen.{Seen}
use Rattle.swap_txn.specs.Steps.{Writes}
use Rattle.swap_turns.specs.Running.{Stands}
use Rattle.swap_turns.proofs.Lengths.{appended_whole}
use Rattle.swap_turns.proofs.Telling.{sound_front}

-- its steps
abbrev pub steps_of : (r : Record) (was now : Seen) (j k : Journal) (answer : Result (Unit {0}) AppendFault) → Writes r was now j k answer → List Event
steps_of r was now j k answer writes = added (side_of j) (gate_of j) r writes.appends.run ++ writes.appends.more

pub whole_steps : (r : Record) (was now : Seen) (j k : Journal) (answer : Result (Unit {0}) AppendFault) (writes : Writes r was now j k answer) (done : Unit {0}) → answer ≡ Ok done → steps_of r was now j k answer writes ≡ added (side_of j) (gate_of j) r All
whole_steps r was now j k answer writes done ok =
    let ends : Ends (side_of j) (Ok done) writes.appends.run writes.appends.more = subst (λ a. Ends (side_of j) a writes.appends.run writes.appends.more) ok writes.appends.ends in
    (λ i. added (side_of j) (gate_of j) r (ends.0 i) ++ ends.1 i) ∙ append-nil (added (side_of j) (gate_of j) r All)

-- THE JOURNAL IS LONGER by it
pub longer_by : (r : Record) (was now : Seen) (j k : Journal) (answer : Result (Unit {0}) AppendFault) (writes : Writes r was now j k answer) (done : Unit {0}) → answer ≡ Ok done → IsLonger j k (steps_of r was now j k answer writes)
longer_by r was now j k answer writes done ok =
    let longer : length_of k ≡ length_of j + size r = subst (λ a. OnOk a (length_of k ≡ length_of j + size r)) ok writes.longer in
    longer ∙ ap (λ n. length_of j + n) (sym (ap (λ l. appended l) (whole_steps r was now j k answer writes done ok) ∙ appended_whole (side_of j) (gate_of j) r))

module _ (t : Texts) (s after : LabState) (r : Record) (was now : Seen) (j k : Journal) (answer : Result (Unit {0}) AppendFault) (writes : Writes r was now j k answer)
    (w : Told) (was_is : was.told ≡ Some w) (stands : Stands t w.trace j s) (may : IsSound t w.trace → MayAppend t w.trace stands.records s r after) where
  now_is : now.told ≡ Some (record w { trace = w.trace ++ steps_of r was now j k answer writes })
  now_is = writes.appends.trace ∙ ap (λ o. with_steps o (steps_of r was now j k answer writes)) was_is

  -- THE WHOLE APPEND: the journal stands for the lab after it
  pub stands_after : (done : Unit {0}) → answer ≡ Ok done → LabOf t (stands.records ++ r ∷ []) after → Stands t (w.trace ++ steps_of r was now j k answer writes) k after
  stands_after done ok lab =
      let rs = stands.records ++ r ∷ [] in
      let each = subst (λ a. OnOk a ((rs : List Record) → IfSome was.told (λ x. IsAt x.trace j rs → IfSome now.told (λ y. IsAt y.trace k (rs ++ r ∷ []))))) ok writes.stands in
      let first = subst (λ o. IfSome o (λ x. IsAt x.trace j stands.records → IfSome now.told (λ y. IsAt y.trace k rs))) was_is (each stands.records) in
      let at : IsAt (w.trace ++ steps_of r was now j k answer writes) k rs = subst (λ o. IfSome o (λ y. IsAt y.trace k rs)) now_is (first stands.at) in
      let ends : Ends (side_of j) (Ok done) writes.appends.run writes.appends.more = subst (λ a. Ends (side_of j) a writes.appends.run writes.appends.more) ok writes.appends.ends in
      let later = subst (λ a. OnOk a ((rs : List Record) → IfSome was.told (λ x. IsAt x.trace j rs → HasEpoch x.trace j → IfSome now.told (λ y. HasEpoch y.trace k)))) ok writes.epoch in
      let epochs = subst (λ o. IfSome o (λ x. IsAt x.trace j stands.records → HasEpoch x.trace j → IfSome now.told (λ y. HasEpoch y.trace k))) was_is (later stands.records) in
      record {
        records = rs;
        at = at;
        epoch = subst (λ o. IfSome o (λ y. HasEpoch y.trace k)) now_is (epochs stands.at stands.epoch);
        lab_of = lab;
        works = λ sound.
            let before = sound_front t w.trace (steps_of r was now j k answer writes) sound in
            record {
              work = subst (λ side. AtWork t (w.trace ++ steps_of r was now j k answer writes) side rs after) (sym writes.side)
                  (append_done t w.trace writes.appends.more j stands.records s after r writes.appends.run (stands.works before) (may before) ends.0 ends.1);
              gate = at.gate;
            };
      }

  -- A PART OF IT: each image stands for the lab before it, or for that after it
  pub left_over : IsSound t w.trace → IsSound t (w.trace ++ steps_of r was now j k answer writes) × StandForEither t (w.trace ++ steps_of r was now j k answer writes) s after
  left_over sound =
      let works = stands.works sound in
      append_left t w.trace (side_of j) stands.records s after r works.work (may sound) (gate_of j) answer writes.appends.run writes.appends.more works.gate writes.appends.ends
