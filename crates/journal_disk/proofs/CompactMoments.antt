-- Each moment of a journal's move onto the other side, and the journal after it.
use Rattle.std.proofs.Common.{◌≡◌, ◌⊎◌, inl, inr, ℕ, ◌+◌, ◌-◌, ◌^◌, ◌<◌, Bool, true, false, List, [], ◌∷◌, ◌++◌, length, Result, Ok, Err, refl, sym, ap, ◌∙◌, subst, arith, append_assoc, length-append}
use Rattle.std.specs.Prelude.{OnOk}
use Rattle.std.proofs.lemmas.List.{append-nil}
use Rattle.plant.specs.Disks.{disk, ArePossible}
use Rattle.plant.specs.Events.{Event, Wrote, Synced, Cut, Missed}
use Rattle.plant.specs.declared.step.Side.{Side}
use Rattle.journal_rec.specs.declared.record.Record.{Record}
use Rattle.journal_rec.specs.Payloads.{le}
use Rattle.journal_model.specs.Journals.{magic, Headed, head, gate_after}
use Rattle.journal_rec.specs.Packing.{blocks, ArePacked, side_length}
use Rattle.journal_model.specs.Appends.{front, other_side, Opened, IsOn}
use Rattle.journal_model.proofs.Gates.{length_front}
use Rattle.journal_disk.specs.declared.journal.Journal.{Journal}
use Rattle.journal_disk.specs.declared.fault.CompactFault.{CompactFault}
use Rattle.journal_disk.specs.declared.fault.CompactFault.TheVariants as faults
use Rattle.journal_disk.specs.Standing.{side_of, gate_of, length_of, IsAt}
use Rattle.journal_disk.specs.Epochs.{epoch_of, HasEpoch}
use Rattle.journal_disk.specs.Compacting.{side_text, lacks_closed_gate, text_writes, Come, Untouched, Closing, Closed, Cutting, Emptied, Filling, Filled, Raising, InUse, shutting, emptying, filling, come_steps, MayCome, IsInUse}
use Rattle.journal_disk.specs.Compactions.{Ends, Compacts, Shifts}
use Rattle.journal_disk.proofs.Prefixes.{AllPrefixes, each_prefix, one_more, missed_images}
use Rattle.journal_disk.proofs.CompactImages.{AfterCome, come_images, stands_there, head_there, number_next}

module _ (trace : List Event) (j : Journal) (rs ps : List Record) (packed : List ℕ) (at : IsAt trace j rs) (of' : HasEpoch trace j) (are : ArePacked packed ps) (below : epoch_of j < 2 ^ 64 - 1) where
  abbrev side : Side
  side = other_side (side_of j)

  abbrev text : List ℕ
  text = side_text (epoch_of j + 1) packed

  abbrev IsSeen : Bool → Type 0
  IsSeen to_close = to_close ≡ lacks_closed_gate (disk side trace).reads

  abbrev Fine : List Event → Type 0
  Fine front = (a b : List ℕ) → ArePossible (trace ++ front) a b → IsOn (side_of j) a b rs ⊎ IsOn side a b ps

  after : (far : Come) (a b : List ℕ) → AfterCome trace j rs ps packed at of' are below a b far → IsOn (side_of j) a b rs ⊎ IsOn side a b ps
  after Untouched a b h = inl h
  after (Closing byte) a b h = inl h
  after Closed a b h = inl h
  after Cutting a b h = inl h
  after Emptied a b h = inl h
  after (Filling pieces) a b h = inl h
  after (Filled pieces) a b h = inl h
  after (Raising pieces byte) a b h = h
  after (InUse pieces) a b h = inr h

  fine : (to_close : Bool) (far : Come) → IsSeen to_close → MayCome to_close text far → Fine (come_steps side to_close far)
  fine to_close far saw may a b possible = after far a b (come_images trace j rs ps packed at of' are below to_close far saw may a b possible)

  missed : (front : List Event) → Fine front → Fine (front ++ Missed side ∷ [])
  missed front h a b possible = h a b (missed_images side (trace ++ front) a b (subst (λ l. ArePossible l a b) (sym (append_assoc trace front (Missed side ∷ []))) possible))

  abbrev UpTo : Bool → Come → Type 0
  UpTo to_close far = AllPrefixes Fine (come_steps side to_close far)

  -- a step more
  further : (to_close : Bool) (before now : Come) (step : Event) → IsSeen to_close → MayCome to_close text now → come_steps side to_close before ++ step ∷ [] ≡ come_steps side to_close now → UpTo to_close before → UpTo to_close now
  further to_close before now step saw may joined h =
      subst (λ l. AllPrefixes Fine l) joined (one_more Fine (come_steps side to_close before) step h (subst Fine (sym joined) (fine to_close now saw may)))

  closed : (to_close : Bool) → IsSeen to_close → UpTo to_close Closed
  closed true saw =
      further true (Closing 0) Closed (Synced side) saw tt refl
      (further true Untouched (Closing 0) (Wrote side 0 (0 ∷ [])) saw refl refl (fine true Untouched saw tt))
  closed false saw = fine false Untouched saw tt

  closing : (to_close : Bool) (byte : ℕ) → IsSeen to_close → to_close ≡ true → UpTo to_close (Closing byte)
  closing to_close byte saw may = further to_close Untouched (Closing byte) (Wrote side 0 (byte ∷ [])) saw may refl (fine to_close Untouched saw tt)

  cutting : (to_close : Bool) → IsSeen to_close → UpTo to_close Cutting
  cutting to_close saw = further to_close Closed Cutting (Cut side 1) saw tt refl (closed to_close saw)

  emptied : (to_close : Bool) → IsSeen to_close → UpTo to_close Emptied
  emptied to_close saw = further to_close Cutting Emptied (Synced side) saw tt (append_assoc (shutting side to_close) (Cut side 1 ∷ []) (Synced side ∷ [])) (cutting to_close saw)

  all_poured : (steps : List Event) (live_side : ℕ) (pieces : List (List ℕ)) → AllPrefixes Fine steps → ((others : List (List ℕ)) → Fine (steps ++ text_writes side live_side others)) → AllPrefixes Fine (steps ++ text_writes side live_side pieces)
  all_poured steps live_side [] h each = subst (λ l. AllPrefixes Fine l) (sym (append-nil steps)) h
  all_poured steps live_side (piece ∷ pieces) h each =
      let step : List Event = Wrote side live_side piece ∷ [] in
      subst (λ l. AllPrefixes Fine l) (append_assoc steps step (text_writes side (live_side + length piece) pieces))
      (all_poured (steps ++ step) (live_side + length piece) pieces (one_more Fine steps (Wrote side live_side piece) h (each (piece ∷ [])))
      (λ others. subst Fine (sym (append_assoc steps step (text_writes side (live_side + length piece) others))) (each (piece ∷ others))))

  filled : (to_close : Bool) (pieces : List (List ℕ)) → IsSeen to_close → UpTo to_close (Filling pieces)
  filled to_close pieces saw = all_poured (emptying side to_close) 1 pieces (emptied to_close saw) (λ others. fine to_close (Filling others) saw tt)

  module _ (to_close : Bool) (pieces : List (List ℕ)) (saw : IsSeen to_close) (may : MayCome to_close text (Filled pieces)) where
    settled : UpTo to_close (Filled pieces)
    settled = further to_close (Filling pieces) (Filled pieces) (Synced side) saw may refl (filled to_close pieces saw)

    raising : (byte : ℕ) → UpTo to_close (Raising pieces byte)
    raising byte =
        further to_close (Filled pieces) (Raising pieces byte) (Wrote side 0 (byte ∷ [])) saw may
        (append_assoc (filling side to_close pieces) (Synced side ∷ []) (Wrote side 0 (byte ∷ []) ∷ [])) settled

    in_use : UpTo to_close (InUse pieces)
    in_use =
        further to_close (Raising pieces 165) (InUse pieces) (Synced side) saw may
        (append_assoc (filling side to_close pieces) (Synced side ∷ Wrote side 0 (165 ∷ []) ∷ []) (Synced side ∷ [])) (raising 165)

  prefixes : (to_close : Bool) (far : Come) → IsSeen to_close → MayCome to_close text far → UpTo to_close far
  prefixes to_close Untouched saw may = fine to_close Untouched saw tt
  prefixes to_close (Closing byte) saw may = closing to_close byte saw may
  prefixes to_close Closed saw may = closed to_close saw
  prefixes to_close Cutting saw may = cutting to_close saw
  prefixes to_close Emptied saw may = emptied to_close saw
  prefixes to_close (Filling pieces) saw may = filled to_close pieces saw
  prefixes to_close (Filled pieces) saw may = settled to_close pieces saw may
  prefixes to_close (Raising pieces byte) saw may = raising to_close pieces saw may byte
  prefixes to_close (InUse pieces) saw may = in_use to_close pieces saw may

  all_prefixes : (to_close : Bool) (far : Come) (more : List Event) → IsSeen to_close → MayCome to_close text far → (more ≡ []) ⊎ (more ≡ Missed side ∷ []) → AllPrefixes Fine (come_steps side to_close far ++ more)
  all_prefixes to_close far more saw may (inl e) = subst (λ l. AllPrefixes Fine l) (sym (append-nil (come_steps side to_close far)) ∙ ap (λ l. come_steps side to_close far ++ l) (sym e)) (prefixes to_close far saw may)
  all_prefixes to_close far more saw may (inr e) =
      subst (λ l. AllPrefixes Fine (come_steps side to_close far ++ l)) (sym e)
      (one_more Fine (come_steps side to_close far) (Missed side) (prefixes to_close far saw may) (missed (come_steps side to_close far) (fine to_close far saw may)))

  few : (result : Result (Unit {0}) CompactFault) (far : Come) (more : List Event) → Ends side result far more → (more ≡ []) ⊎ (more ≡ Missed side ∷ [])
  few (Ok u) far more h = inl h.1
  few (Err faults.Plant) far more h = inr h
  few (Err faults.Stopped) far more h = inl h

  -- after Ok
  used : (to_close : Bool) (far : Come) → IsSeen to_close → MayCome to_close text far → IsInUse far → (a b : List ℕ) → ArePossible (trace ++ come_steps side to_close far) a b → IsOn side a b ps
  used to_close Untouched saw may h = absurd h
  used to_close (Closing byte) saw may h = absurd h
  used to_close Closed saw may h = absurd h
  used to_close Cutting saw may h = absurd h
  used to_close Emptied saw may h = absurd h
  used to_close (Filling pieces) saw may h = absurd h
  used to_close (Filled pieces) saw may h = absurd h
  used to_close (Raising pieces byte) saw may h = absurd h
  used to_close (InUse pieces) saw may h = λ a b possible. come_images trace j rs ps packed at of' are below to_close (InUse pieces) saw may a b possible

  pub shifts : (steps : List Event) (result : Result (Unit {0}) CompactFault) → Compacts trace steps j packed result → Shifts trace steps (side_of j) rs ps result
  shifts steps result c = record {
    each = λ front back e. each_prefix Fine steps front back (subst (λ l. AllPrefixes Fine l) (sym c.steps_are) (all_prefixes _ c.far c.more refl c.may (few result c.far c.more c.ends))) e;
    ok = by result c.ends;
  }
    where
      by : (result : Result (Unit {0}) CompactFault) → Ends side result c.far c.more → OnOk result ((a b : List ℕ) → ArePossible (trace ++ steps) a b → IsOn side a b ps)
      by (Ok u) ends = λ a b possible.
          used _ c.far refl c.may ends.0 a b
          (subst (λ l. ArePossible (trace ++ l) a b) (c.steps_are ∙ ap (λ l. come_steps side (lacks_closed_gate (disk side trace).reads) c.far ++ l) ends.1 ∙ append-nil _) possible)
      by (Err fault) ends = tt

  -- the journal after it
  module _ (k : Journal) (side_is : side_of k ≡ side) (epoch_is : epoch_of k ≡ epoch_of j + 1) (length_is : length_of k ≡ side_length packed) where
    gate_is : gate_of k ≡ gate_after ps
    gate_is = omega (arith, length_is, ap length are.spelled, length-append (blocks ps) (0 ∷ []), length_front (le 8 0) ps refl, length-append (165 ∷ magic ++ le 8 0) (blocks ps))

    abbrev Stands : List Event → Type 0
    Stands now = IsAt now k ps × HasEpoch now k

    pub stands_now : (to_close : Bool) (far : Come) → IsSeen to_close → MayCome to_close text far → IsInUse far → Stands (trace ++ come_steps side to_close far)
    stands_now to_close Untouched saw may h = absurd h
    stands_now to_close (Closing byte) saw may h = absurd h
    stands_now to_close Closed saw may h = absurd h
    stands_now to_close Cutting saw may h = absurd h
    stands_now to_close Emptied saw may h = absurd h
    stands_now to_close (Filling pieces) saw may h = absurd h
    stands_now to_close (Filled pieces) saw may h = absurd h
    stands_now to_close (Raising pieces byte) saw may h = absurd h
    stands_now to_close (InUse pieces) saw may h = (
      record {
        opened = subst (λ s. Opened (trace ++ come_steps side to_close (InUse pieces)) s ps) (sym side_is) (stands_there trace j rs ps packed at of' are below to_close pieces saw may);
        gate = gate_is;
      },
      record {
        epoch = le 8 (epoch_of j + 1);
        headed = subst (λ s. head (disk s (trace ++ come_steps side to_close (InUse pieces))).reads ≡ Headed (le 8 (epoch_of j + 1))) (sym side_is) (head_there trace j rs ps packed at of' are below to_close pieces saw may);
        number_is = number_next (epoch_of j) below ∙ sym epoch_is;
      },
    )

    pub stands_after : (steps : List Event) (u : Unit {0}) → Compacts trace steps j packed (Ok u) → Stands (trace ++ steps)
    stands_after steps u c =
        subst (λ l. Stands (trace ++ l)) (sym (c.steps_are ∙ ap (λ l. come_steps side (lacks_closed_gate (disk side trace).reads) c.far ++ l) c.ends.1 ∙ append-nil _))
        (stands_now _ c.far refl c.may c.ends.0)
