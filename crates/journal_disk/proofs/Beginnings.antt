-- The side that a text is moved onto, at each moment of the move.
use Rattle.std.proofs.Common.{◌≡◌, ◌≢◌, ℕ, ◌+◌, ◌≤◌, Bool, true, false, List, [], ◌∷◌, ◌++◌, length, take, drop, Option, Some, None, Result, Ok, Err, refl, sym, ap, ◌∙◌, subst, arith, append_assoc, length-append}
use Rattle.std.specs.Prelude.{IfSome}
use Rattle.std.proofs.Math.Seq.{take-append_seam, take-length}
use Rattle.std.proofs.lemmas.Bool.{eqb-false}
use Rattle.std.proofs.lemmas.Grind.{flat_map-append}
use Rattle.std.proofs.lemmas.List.{append-nil}
use Rattle.plant.specs.Disks.{Disk, disk, put}
use Rattle.plant.specs.Events.{Event, Wrote, Synced, Cut, Missed}
use Rattle.plant.specs.Told.{Told, with_steps}
use Rattle.plant.specs.declared.device.Fault.{Fault}
use Rattle.plant.specs.declared.device.Fault.TheVariants.{Failed, Stopped}
use Rattle.plant.specs.declared.step.Side.{Side}
use Rattle.journal_model.proofs.Traces.{disk_more}
use Rattle.journal_disk.specs.Compacting.{lacks_closed_gate, text_writes, Begins, IsMeant, Come, Untouched, Closing, Closed, Cutting, Emptied, Filling, Filled, Raising, InUse, shutting, emptying, filling, come_steps, MayCome, IsInUse}
use Rattle.journal_disk.specs.Compactions.{MoveEnds, MovesOver, IsMoving, untouched, closed, begun, in_use, LeavesBegun}
use Rattle.journal_disk.proofs.CompactExits.{answer_of}
use Rattle.journal_disk.proofs.CompactSteps.{come_on, here_come}
use Rattle.journal_disk.proofs.WriteTextLaws.{joined}
use Rattle.journal_disk.proofs.Prefixes.{AllPrefixes, each_prefix, one_more}
use Rattle.journal_disk.proofs.Shutting.{poured_on, emptied_on, poured_reads}

-- the steps before some that stand last
cut_back : (xs ys front back : List Event) → xs ++ ys ≡ front ++ back → length ys ≤ length back → (more : List Event) × (xs ≡ front ++ more)
cut_back [] ys [] back is few = ([], refl)
cut_back [] ys (y ∷ front) back is few = absurd (omega (arith, ap length is, length-append front back, few))
cut_back (x ∷ xs) ys [] back is few = (x ∷ xs, refl)
cut_back (x ∷ xs) ys (y ∷ front) back is few =
    let rest = cut_back xs ys front back (tail is) few in
    (rest.0, (λ i. head is i ∷ rest.1 i))
  where
    head : {x y : Event} {xs ys : List Event} → x ∷ xs ≡ y ∷ ys → x ≡ y
    head e = cc

    tail : {x y : Event} {xs ys : List Event} → x ∷ xs ≡ y ∷ ys → xs ≡ ys
    tail e = cc

-- a beginning of a beginning
begins_of : (text : List ℕ) (pieces others rest : List (List ℕ)) → pieces ≡ others ++ rest → Begins text (joined pieces) → Begins text (joined others)
begins_of text pieces others rest is b =
    (joined rest ++ b.0, sym (append_assoc (joined others) (joined rest) b.0) ∙ ap (λ l. l ++ b.0) (sym (flat_map-append (λ p. p) others rest) ∙ ap joined (sym is)) ∙ b.1)

-- pieces with one more
poured_after : (side : Side) (at : ℕ) (pieces last : List (List ℕ)) → (live_side : ℕ) × (text_writes side at (pieces ++ last) ≡ text_writes side at pieces ++ text_writes side live_side last)
poured_after side at [] last = (at, refl)
poured_after side at (piece ∷ pieces) last =
    let rest = poured_after side (at + length piece) pieces last in
    (rest.0, ap (λ l. Wrote side at piece ∷ l) rest.1)

poured_few : (side : Side) (at : ℕ) (pieces : List (List ℕ)) → length (text_writes side at pieces) ≡ length pieces
poured_few side at [] = refl
poured_few side at (piece ∷ pieces) = omega (arith, poured_few side (at + length piece) pieces)

-- each byte is the one that was meant
abbrev IsExact : List ℕ → Come → Type 0
IsExact text (Closing byte) = byte ≡ 0
IsExact text (Filling pieces) = Begins text (joined pieces)
IsExact text (Raising pieces byte) = byte ≡ 165
IsExact text far = Unit {0}

exact_at_stop : (text : List ℕ) (far : Come) → IsMeant text Stopped far → IsExact text far
exact_at_stop text Untouched m = tt
exact_at_stop text (Closing byte) m = m refl
exact_at_stop text Closed m = tt
exact_at_stop text Cutting m = tt
exact_at_stop text Emptied m = tt
exact_at_stop text (Filling pieces) m = subst (λ l. Begins text (joined l)) (sym (m.are ∙ ap (λ l. m.done ++ l) (m.stopped refl) ∙ append-nil m.done)) m.begins
exact_at_stop text (Filled pieces) m = tt
exact_at_stop text (Raising pieces byte) m = m refl
exact_at_stop text (InUse pieces) m = tt

exact_after_ok : (text : List ℕ) (far : Come) → IsInUse far → IsExact text far
exact_after_ok text Untouched used = absurd used
exact_after_ok text (Closing byte) used = absurd used
exact_after_ok text Closed used = absurd used
exact_after_ok text Cutting used = absurd used
exact_after_ok text Emptied used = absurd used
exact_after_ok text (Filling pieces) used = absurd used
exact_after_ok text (Filled pieces) used = absurd used
exact_after_ok text (Raising pieces byte) used = absurd used
exact_after_ok text (InUse pieces) used = tt

-- its closed gate stands alone
emptied_reads : (d : Disk) (to_close : Bool) → to_close ≡ lacks_closed_gate d.reads → (gate : ℕ) × (gate ≢ 165) × ((emptied_on d to_close).reads ≡ gate ∷ [])
emptied_reads d true saw = (0, (λ e. cc e), refl)
emptied_reads d false saw = by d.reads saw
  where
    by : (bytes : List ℕ) → false ≡ lacks_closed_gate bytes → (gate : ℕ) × (gate ≢ 165) × (take 1 bytes ≡ gate ∷ [])
    by [] is = absurd (cc is)
    by (gate ∷ bytes) is = (gate, eqb-false gate 165 (sym is), refl)

filled_reads : (d : Disk) (to_close : Bool) (saw : to_close ≡ lacks_closed_gate d.reads) (pieces : List (List ℕ)) → (poured_on (emptied_on d to_close) 1 pieces).reads ≡ (emptied_reads d to_close saw).0 ∷ joined pieces
filled_reads d to_close saw pieces =
    let alone = (emptied_reads d to_close saw).2 in
    poured_reads (emptied_on d to_close) 1 pieces (sym (ap length alone)) ∙ ap (λ l. l ++ joined pieces) alone

raised_reads : (reads bytes : List ℕ) (gate byte : ℕ) → reads ≡ gate ∷ bytes → put reads 0 (byte ∷ []) ≡ byte ∷ bytes
raised_reads reads bytes gate byte is = ap (λ l. put l 0 (byte ∷ [])) is

moving : (d : Disk) (text : List ℕ) (to_close : Bool) → to_close ≡ lacks_closed_gate d.reads → (far : Come) → MayCome to_close text far → IsExact text far → IsMoving d.reads text (come_on d to_close far).reads
moving d text to_close saw Untouched may exact = untouched refl
moving d text to_close saw (Closing byte) may exact = closed (sym saw ∙ may) (ap (λ b. b ∷ drop 1 d.reads) exact)
moving d text true saw Closed may exact = closed (sym saw) refl
moving d text false saw Closed may exact = untouched refl
moving d text to_close saw Cutting may exact = let alone = emptied_reads d to_close saw in begun alone.0 0 alone.1 alone.2
moving d text to_close saw Emptied may exact = let alone = emptied_reads d to_close saw in begun alone.0 0 alone.1 alone.2
moving d text to_close saw (Filling pieces) may begins =
    let alone = emptied_reads d to_close saw in
    begun alone.0 (length (joined pieces)) alone.1
    (filled_reads d to_close saw pieces ∙ ap (λ l. alone.0 ∷ l) (sym (take-append_seam (joined pieces) begins.0) ∙ ap (λ l. take (length (joined pieces)) l) begins.1))
moving d text to_close saw (Filled pieces) are exact =
    let alone = emptied_reads d to_close saw in
    begun alone.0 (length text) alone.1 (filled_reads d to_close saw pieces ∙ ap (λ l. alone.0 ∷ l) (are.whole ∙ sym (take-length text)))
moving d text to_close saw (Raising pieces byte) are exact =
    in_use (raised_reads _ (joined pieces) (emptied_reads d to_close saw).0 byte (filled_reads d to_close saw pieces) ∙ (λ i. exact i ∷ are.whole i))
moving d text to_close saw (InUse pieces) are exact =
    in_use (raised_reads _ (joined pieces) (emptied_reads d to_close saw).0 165 (filled_reads d to_close saw pieces) ∙ ap (λ l. 165 ∷ l) are.whole)

module _ (trace : List Event) (side : Side) (text : List ℕ) where
  abbrev IsSeen : Bool → Type 0
  IsSeen to_close = to_close ≡ lacks_closed_gate (disk side trace).reads

  abbrev Fine : List Event → Type 0
  Fine front = IsMoving (disk side trace).reads text (disk side (trace ++ front)).reads

  abbrev UpTo : Bool → Come → Type 0
  UpTo to_close far = AllPrefixes Fine (come_steps side to_close far)

  fine : (to_close : Bool) (far : Come) → IsSeen to_close → MayCome to_close text far → IsExact text far → Fine (come_steps side to_close far)
  fine to_close far saw may exact =
      subst (λ (d : Disk). IsMoving (disk side trace).reads text d.reads) (sym (disk_more side trace (come_steps side to_close far) ∙ here_come side (disk side trace) to_close far))
      (moving (disk side trace) text to_close saw far may exact)

  -- a step more
  further : (to_close : Bool) (before now : Come) (step : Event) → IsSeen to_close → MayCome to_close text now → IsExact text now → come_steps side to_close before ++ step ∷ [] ≡ come_steps side to_close now → UpTo to_close before → UpTo to_close now
  further to_close before now step saw may exact joined h =
      subst (λ l. AllPrefixes Fine l) joined (one_more Fine (come_steps side to_close before) step h (subst Fine (sym joined) (fine to_close now saw may exact)))

  closed_up : (to_close : Bool) → IsSeen to_close → UpTo to_close Closed
  closed_up true saw =
      further true (Closing 0) Closed (Synced side) saw tt tt refl
      (further true Untouched (Closing 0) (Wrote side 0 (0 ∷ [])) saw refl refl refl (fine true Untouched saw tt tt))
  closed_up false saw = fine false Untouched saw tt tt

  cutting : (to_close : Bool) → IsSeen to_close → UpTo to_close Cutting
  cutting to_close saw = further to_close Closed Cutting (Cut side 1) saw tt tt refl (closed_up to_close saw)

  emptied : (to_close : Bool) → IsSeen to_close → UpTo to_close Emptied
  emptied to_close saw = further to_close Cutting Emptied (Synced side) saw tt tt (append_assoc (shutting side to_close) (Cut side 1 ∷ []) (Synced side ∷ [])) (cutting to_close saw)

  all_poured : (steps : List Event) (live_side : ℕ) (pieces : List (List ℕ)) → AllPrefixes Fine steps → ((others rest : List (List ℕ)) → pieces ≡ others ++ rest → Fine (steps ++ text_writes side live_side others)) → AllPrefixes Fine (steps ++ text_writes side live_side pieces)
  all_poured steps live_side [] h each = subst (λ l. AllPrefixes Fine l) (sym (append-nil steps)) h
  all_poured steps live_side (piece ∷ pieces) h each =
      let step : List Event = Wrote side live_side piece ∷ [] in
      subst (λ l. AllPrefixes Fine l) (append_assoc steps step (text_writes side (live_side + length piece) pieces))
      (all_poured (steps ++ step) (live_side + length piece) pieces (one_more Fine steps (Wrote side live_side piece) h (each (piece ∷ []) pieces refl))
      (λ others rest is. subst Fine (sym (append_assoc steps step (text_writes side (live_side + length piece) others))) (each (piece ∷ others) rest (ap (λ l. piece ∷ l) is))))

  filled : (to_close : Bool) (pieces : List (List ℕ)) → IsSeen to_close → Begins text (joined pieces) → UpTo to_close (Filling pieces)
  filled to_close pieces saw begins =
      all_poured (emptying side to_close) 1 pieces (emptied to_close saw) (λ others rest is. fine to_close (Filling others) saw tt (begins_of text pieces others rest is begins))

  module _ (to_close : Bool) (pieces : List (List ℕ)) (saw : IsSeen to_close) (may : MayCome to_close text (Filled pieces)) where
    settled : UpTo to_close (Filled pieces)
    settled = further to_close (Filling pieces) (Filled pieces) (Synced side) saw may tt refl (filled to_close pieces saw ([], append-nil (joined pieces) ∙ may.whole))

    raising : UpTo to_close (Raising pieces 165)
    raising =
        further to_close (Filled pieces) (Raising pieces 165) (Wrote side 0 (165 ∷ [])) saw may refl
        (append_assoc (filling side to_close pieces) (Synced side ∷ []) (Wrote side 0 (165 ∷ []) ∷ [])) settled

    used : UpTo to_close (InUse pieces)
    used =
        further to_close (Raising pieces 165) (InUse pieces) (Synced side) saw may tt
        (append_assoc (filling side to_close pieces) (Synced side ∷ Wrote side 0 (165 ∷ []) ∷ []) (Synced side ∷ [])) raising

  prefixes : (to_close : Bool) (far : Come) → IsSeen to_close → MayCome to_close text far → IsExact text far → UpTo to_close far
  prefixes to_close Untouched saw may exact = fine to_close Untouched saw tt tt
  prefixes to_close (Closing byte) saw may exact = further to_close Untouched (Closing byte) (Wrote side 0 (byte ∷ [])) saw may exact refl (fine to_close Untouched saw tt tt)
  prefixes to_close Closed saw may exact = closed_up to_close saw
  prefixes to_close Cutting saw may exact = cutting to_close saw
  prefixes to_close Emptied saw may exact = emptied to_close saw
  prefixes to_close (Filling pieces) saw may exact = filled to_close pieces saw exact
  prefixes to_close (Filled pieces) saw may exact = settled to_close pieces saw may
  prefixes to_close (Raising pieces byte) saw may exact =
      subst (λ b. UpTo to_close (Raising pieces b)) (sym exact) (raising to_close pieces saw may)
  prefixes to_close (InUse pieces) saw may exact = used to_close pieces saw may

  -- where a call failed: the steps before its own, and those
  record Earlier (steps : List Event) : Type 0 where
    xs : List Event
    ys : List Event
    are : steps ≡ xs ++ ys
    few : length ys ≤ 1
    up : AllPrefixes Fine xs

  whole : (to_close : Bool) (far : Come) → UpTo to_close far → Earlier (come_steps side to_close far)
  whole to_close far h = record { xs = come_steps side to_close far; ys = []; are = sym (append-nil (come_steps side to_close far)); few = omega arith; up = h }

  earlier : (to_close : Bool) (far : Come) → IsSeen to_close → MayCome to_close text far → IsMeant text Failed far → Earlier (come_steps side to_close far)
  earlier to_close Untouched saw may m = whole to_close Untouched (prefixes to_close Untouched saw tt tt)
  earlier to_close (Closing byte) saw may m = record { xs = []; ys = Wrote side 0 (byte ∷ []) ∷ []; are = refl; few = omega arith; up = prefixes to_close Untouched saw tt tt }
  earlier to_close Closed saw may m = whole to_close Closed (closed_up to_close saw)
  earlier to_close Cutting saw may m = whole to_close Cutting (cutting to_close saw)
  earlier to_close Emptied saw may m = whole to_close Emptied (emptied to_close saw)
  earlier to_close (Filling pieces) saw may m =
      let behind = poured_after side 1 m.done m.last in
      record {
        xs = filling side to_close m.done;
        ys = text_writes side behind.0 m.last;
        are = ap (λ l. emptying side to_close ++ text_writes side 1 l) m.are ∙ ap (λ l. emptying side to_close ++ l) behind.1 ∙ sym (append_assoc (emptying side to_close) (text_writes side 1 m.done) (text_writes side behind.0 m.last));
        few = omega (arith, poured_few side behind.0 m.last, m.few);
        up = filled to_close m.done saw m.begins;
      }
  earlier to_close (Filled pieces) saw may m = whole to_close (Filled pieces) (settled to_close pieces saw may)
  earlier to_close (Raising pieces byte) saw may m = record {
    xs = come_steps side to_close (Filled pieces);
    ys = Wrote side 0 (byte ∷ []) ∷ [];
    are = sym (append_assoc (filling side to_close pieces) (Synced side ∷ []) (Wrote side 0 (byte ∷ []) ∷ []));
    few = omega arith;
    up = settled to_close pieces saw may;
  }
  earlier to_close (InUse pieces) saw may m = whole to_close (InUse pieces) (used to_close pieces saw may)

  all_fine : (to_close : Bool) (far : Come) (more : List Event) → UpTo to_close far → more ≡ [] → AllPrefixes Fine (come_steps side to_close far ++ more)
  all_fine to_close far more up none = subst (λ l. AllPrefixes Fine l) (sym (append-nil (come_steps side to_close far)) ∙ ap (λ l. come_steps side to_close far ++ l) (sym none)) up

  leaves : (to_close : Bool) (far : Come) (more : List Event) (result : Result (Unit {0}) Fault) → IsSeen to_close → MayCome to_close text far → MoveEnds side text result far more → LeavesBegun trace (come_steps side to_close far ++ more) side text (answer_of result)
  leaves to_close far more (Ok done) saw may ends = λ front back is few. each_prefix Fine _ front back (all_fine to_close far more (prefixes to_close far saw may (exact_after_ok text far ends.0)) ends.1) is
  leaves to_close far more (Err Stopped) saw may ends = λ front back is few. each_prefix Fine _ front back (all_fine to_close far more (prefixes to_close far saw may (exact_at_stop text far ends.1)) ends.0) is
  leaves to_close far more (Err Failed) saw may ends = λ front back is few.
      let e = earlier to_close far saw may ends.1 in
      let parted : e.xs ++ (e.ys ++ Missed side ∷ []) ≡ front ++ back =
      sym (append_assoc e.xs e.ys (Missed side ∷ [])) ∙ ap (λ l. l ++ Missed side ∷ []) (sym e.are) ∙ ap (λ l. come_steps side to_close far ++ l) (sym ends.0) ∙ is in
      let cut = cut_back e.xs (e.ys ++ Missed side ∷ []) front back parted (omega (arith, length-append e.ys (Missed side ∷ []), e.few, few refl)) in
      each_prefix Fine e.xs front cut.0 e.up cut.1

-- where the steps are told
pub leaves_begun : (told new : Option Told) (side : Side) (text : List ℕ) (result : Result (Unit {0}) Fault) → MovesOver side text told new result
    → (steps : List Event) × (new ≡ with_steps told steps) × IfSome told (λ t. LeavesBegun t.trace steps side text (answer_of result))
leaves_begun told new side text result m = (come_steps side m.to_close m.far ++ m.more, m.trace, by told m.was)
  where
    by : (o : Option Told) → IfSome o (λ t. m.to_close ≡ lacks_closed_gate (disk side t.trace).reads) → IfSome o (λ t. LeavesBegun t.trace (come_steps side m.to_close m.far ++ m.more) side text (answer_of result))
    by None saw = tt
    by (Some t) saw = leaves t.trace side text m.to_close m.far m.more result saw m.may m.ends
