-- Both sides through the steps of a move onto one of them.
use Rattle.std.proofs.Common.{◌≡◌, ℕ, ◌+◌, Bool, true, false, List, [], ◌∷◌, ◌++◌, fold, length, refl, ap, ◌∙◌}
use Rattle.std.proofs.lemmas.List.Sums.{fold-append}
use Rattle.plant.specs.Disks.{Disk, disk_after, wrote, synced, shortened}
use Rattle.plant.specs.Events.{Event, Wrote, Synced}
use Rattle.plant.specs.declared.step.Side.{Side}
use Rattle.plant.specs.declared.step.Side.TheVariants.{A, B}
use Rattle.journal_model.specs.Appends.{other_side}
use Rattle.journal_disk.specs.Compacting.{text_writes, Come, Untouched, Closing, Closed, Cutting, Emptied, Filling, Filled, Raising, InUse, shutting, emptying, filling, come_steps}
use Rattle.journal_disk.proofs.Shutting.{shut_on, poured_on, emptied_on}

abbrev pub come_on : Disk → Bool → Come → Disk
come_on d to_close Untouched = d
come_on d to_close (Closing byte) = wrote d 0 (byte ∷ [])
come_on d to_close Closed = shut_on d to_close
come_on d to_close Cutting = shortened (shut_on d to_close) 1
come_on d to_close Emptied = emptied_on d to_close
come_on d to_close (Filling pieces) = poured_on (emptied_on d to_close) 1 pieces
come_on d to_close (Filled pieces) = synced (poured_on (emptied_on d to_close) 1 pieces)
come_on d to_close (Raising pieces byte) = wrote (synced (poured_on (emptied_on d to_close) 1 pieces)) 0 (byte ∷ [])
come_on d to_close (InUse pieces) = synced (wrote (synced (poured_on (emptied_on d to_close) 1 pieces)) 0 (165 ∷ []))

here_shut : (side : Side) (d : Disk) (to_close : Bool) → fold (disk_after side) d (shutting side to_close) ≡ shut_on d to_close
here_shut A d true = refl
here_shut A d false = refl
here_shut B d true = refl
here_shut B d false = refl

here_cut : (side : Side) (d : Disk) (to_close : Bool) → fold (disk_after side) d (come_steps side to_close Cutting) ≡ shortened (shut_on d to_close) 1
here_cut A d true = refl
here_cut A d false = refl
here_cut B d true = refl
here_cut B d false = refl

here_emptied : (side : Side) (d : Disk) (to_close : Bool) → fold (disk_after side) d (emptying side to_close) ≡ emptied_on d to_close
here_emptied A d true = refl
here_emptied A d false = refl
here_emptied B d true = refl
here_emptied B d false = refl

here_poured : (side : Side) (d : Disk) (at : ℕ) (pieces : List (List ℕ)) → fold (disk_after side) d (text_writes side at pieces) ≡ poured_on d at pieces
here_poured A d at [] = refl
here_poured B d at [] = refl
here_poured A d at (piece ∷ pieces) = here_poured A (wrote d at piece) (at + length piece) pieces
here_poured B d at (piece ∷ pieces) = here_poured B (wrote d at piece) (at + length piece) pieces

here_filled : (side : Side) (d : Disk) (to_close : Bool) (pieces : List (List ℕ)) → fold (disk_after side) d (filling side to_close pieces) ≡ poured_on (emptied_on d to_close) 1 pieces
here_filled side d to_close pieces =
    fold-append (disk_after side) d (emptying side to_close) (text_writes side 1 pieces)
    ∙ ap (λ x. fold (disk_after side) x (text_writes side 1 pieces)) (here_emptied side d to_close)
    ∙ here_poured side (emptied_on d to_close) 1 pieces

-- with some steps more after it
and_then : (side : Side) (d : Disk) (to_close : Bool) (pieces : List (List ℕ)) (more : List Event) → fold (disk_after side) d (filling side to_close pieces ++ more) ≡ fold (disk_after side) (poured_on (emptied_on d to_close) 1 pieces) more
and_then side d to_close pieces more = fold-append (disk_after side) d (filling side to_close pieces) more ∙ ap (λ x. fold (disk_after side) x more) (here_filled side d to_close pieces)

here_end : (side : Side) (d : Disk) → fold (disk_after side) d (Synced side ∷ []) ≡ synced d
here_end A d = refl
here_end B d = refl

here_raised : (side : Side) (d : Disk) (byte : ℕ) → fold (disk_after side) d (Synced side ∷ Wrote side 0 (byte ∷ []) ∷ []) ≡ wrote (synced d) 0 (byte ∷ [])
here_raised A d byte = refl
here_raised B d byte = refl

here_used : (side : Side) (d : Disk) → fold (disk_after side) d (Synced side ∷ Wrote side 0 (165 ∷ []) ∷ Synced side ∷ []) ≡ synced (wrote (synced d) 0 (165 ∷ []))
here_used A d = refl
here_used B d = refl

here_closing : (side : Side) (d : Disk) (byte : ℕ) → fold (disk_after side) d (Wrote side 0 (byte ∷ []) ∷ []) ≡ wrote d 0 (byte ∷ [])
here_closing A d byte = refl
here_closing B d byte = refl

-- THAT SIDE
pub here_come : (side : Side) (d : Disk) (to_close : Bool) (far : Come) → fold (disk_after side) d (come_steps side to_close far) ≡ come_on d to_close far
here_come side d to_close Untouched = refl
here_come side d to_close (Closing byte) = here_closing side d byte
here_come side d to_close Closed = here_shut side d to_close
here_come side d to_close Cutting = here_cut side d to_close
here_come side d to_close Emptied = here_emptied side d to_close
here_come side d to_close (Filling pieces) = here_filled side d to_close pieces
here_come side d to_close (Filled pieces) = and_then side d to_close pieces (Synced side ∷ []) ∙ here_end side _
here_come side d to_close (Raising pieces byte) = and_then side d to_close pieces (Synced side ∷ Wrote side 0 (byte ∷ []) ∷ []) ∙ here_raised side _ byte
here_come side d to_close (InUse pieces) = and_then side d to_close pieces (Synced side ∷ Wrote side 0 (165 ∷ []) ∷ Synced side ∷ []) ∙ here_used side _

there_poured : (live : Side) (d : Disk) (at : ℕ) (pieces : List (List ℕ)) → fold (disk_after live) d (text_writes (other_side live) at pieces) ≡ d
there_poured A d at [] = refl
there_poured B d at [] = refl
there_poured A d at (piece ∷ pieces) = there_poured A d (at + length piece) pieces
there_poured B d at (piece ∷ pieces) = there_poured B d (at + length piece) pieces

there_emptied : (live : Side) (d : Disk) (to_close : Bool) → fold (disk_after live) d (emptying (other_side live) to_close) ≡ d
there_emptied A d true = refl
there_emptied A d false = refl
there_emptied B d true = refl
there_emptied B d false = refl

there_filled : (live : Side) (d : Disk) (to_close : Bool) (pieces : List (List ℕ)) (more : List Event) → fold (disk_after live) d more ≡ d → fold (disk_after live) d (filling (other_side live) to_close pieces ++ more) ≡ d
there_filled live d to_close pieces more none =
    fold-append (disk_after live) d (filling (other_side live) to_close pieces) more
    ∙ ap (λ x. fold (disk_after live) x more)
    (fold-append (disk_after live) d (emptying (other_side live) to_close) (text_writes (other_side live) 1 pieces)
    ∙ ap (λ x. fold (disk_after live) x (text_writes (other_side live) 1 pieces)) (there_emptied live d to_close)
    ∙ there_poured live d 1 pieces)
    ∙ none

-- THE LIVE SIDE stays
pub there_come : (live : Side) (d : Disk) (to_close : Bool) (far : Come) → fold (disk_after live) d (come_steps (other_side live) to_close far) ≡ d
there_come live d to_close Untouched = refl
there_come A d to_close (Closing byte) = refl
there_come B d to_close (Closing byte) = refl
there_come A d true Closed = refl
there_come A d false Closed = refl
there_come B d true Closed = refl
there_come B d false Closed = refl
there_come A d true Cutting = refl
there_come A d false Cutting = refl
there_come B d true Cutting = refl
there_come B d false Cutting = refl
there_come live d to_close Emptied = there_emptied live d to_close
there_come live d to_close (Filling pieces) = quiet live d to_close pieces
  where
    quiet : (live : Side) (d : Disk) (to_close : Bool) (pieces : List (List ℕ)) → fold (disk_after live) d (filling (other_side live) to_close pieces) ≡ d
    quiet live d to_close pieces =
        fold-append (disk_after live) d (emptying (other_side live) to_close) (text_writes (other_side live) 1 pieces)
        ∙ ap (λ x. fold (disk_after live) x (text_writes (other_side live) 1 pieces)) (there_emptied live d to_close)
        ∙ there_poured live d 1 pieces
there_come A d to_close (Filled pieces) = there_filled A d to_close pieces (Synced B ∷ []) refl
there_come B d to_close (Filled pieces) = there_filled B d to_close pieces (Synced A ∷ []) refl
there_come A d to_close (Raising pieces byte) = there_filled A d to_close pieces (Synced B ∷ Wrote B 0 (byte ∷ []) ∷ []) refl
there_come B d to_close (Raising pieces byte) = there_filled B d to_close pieces (Synced A ∷ Wrote A 0 (byte ∷ []) ∷ []) refl
there_come A d to_close (InUse pieces) = there_filled A d to_close pieces (Synced B ∷ Wrote B 0 (165 ∷ []) ∷ Synced B ∷ []) refl
there_come B d to_close (InUse pieces) = there_filled B d to_close pieces (Synced A ∷ Wrote A 0 (165 ∷ []) ∷ Synced A ∷ []) refl
