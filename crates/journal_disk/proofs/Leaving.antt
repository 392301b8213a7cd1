-- How far a move onto a side came when a call was not acknowledged.
use Rattle.std.proofs.Common.{◌≡◌, inl, inr, ℕ, ◌+◌, ◌≤◌, Bool, true, false, List, [], ◌∷◌, ◌++◌, length, take, drop, Option, Some, None, Result, Ok, Err, refl, sym, ap, ◌∙◌, subst, arith, append_assoc, length-append}
use Rattle.std.specs.Prelude.{IfSome, OnOk}
use Rattle.std.proofs.lemmas.List.{append-nil, length-take}
use Rattle.plant.specs.Disks.{Disk, disk, put}
use Rattle.plant.specs.DiskCalls.{missed, WriteSteps, SyncSteps, CutSteps}
use Rattle.plant.specs.Events.{Event, Wrote, Synced, Cut, Missed}
use Rattle.plant.specs.Told.{Told, with_steps}
use Rattle.plant.specs.declared.device.Fault.{Fault}
use Rattle.plant.specs.declared.device.Fault.TheVariants.{Failed, Stopped}
use Rattle.plant.specs.declared.step.Side.{Side}
use Rattle.plant.specs.declared.step.Side.TheVariants.{A, B}
use Rattle.plant.proofs.Traces.{with_steps-nil}
use Rattle.journal_model.proofs.Traces.{disk_more}
use Rattle.journal_disk.specs.Compacting.{lacks_closed_gate, text_writes, ArePieces, Come, Untouched, Filling, InUse, shutting, emptying, filling, come_steps, MayCome, IsMeant, Leaves, BreaksOff, WritesText}
use Rattle.journal_disk.specs.Compactions.{MovesOver}
use Rattle.journal_disk.specs.Reaching.{IsLast}
use Rattle.journal_disk.proofs.Chains.{chain, Came, sync_came, write_came, sync_ok}
use Rattle.journal_disk.proofs.Parts.{first_byte, one_byte}

pub cut_ok : (side : Side) (size : ℕ) (stopped : Bool) (u : Unit {0}) (steps : List Event) → CutSteps side size stopped (Ok u) steps → steps ≡ Cut side size ∷ []
cut_ok side size true u steps h = absurd (cc h.0)
cut_ok side size false u steps h = h

-- after a sync that was acknowledged
pub synced_ok : (side : Side) (old one two : Option Told) (before after : List Event) (stopped : Bool) (result : Result (Unit {0}) Fault) (steps : List Event) → one ≡ with_steps old before → before ++ Synced side ∷ [] ≡ after
    → two ≡ with_steps one steps → SyncSteps side stopped result steps → OnOk result (two ≡ with_steps old after)
synced_ok side old one two before after stopped (Ok u) steps first joined second h = chain old one two before steps after first second (ap (λ l. before ++ l) (sync_ok side stopped u steps h) ∙ joined)
synced_ok side old one two before after stopped (Err fault) steps first joined second h = tt

-- a cut that was not acknowledged: before it they had come so far, and with it so far
cut_came : {X : Type 0} (steps_of : X → List Event) (P : X → Type 0) (old one two : Option Told) (side : Side) (before after : X) (size : ℕ) (stopped : Bool) (fault : Fault) (steps : List Event) → P before → P after
    → one ≡ with_steps old (steps_of before) → steps_of before ++ Cut side size ∷ [] ≡ steps_of after → two ≡ with_steps one steps → CutSteps side size stopped (Err fault) steps → Came steps_of P old two side fault
cut_came steps_of P old one two side before after size true Failed steps p q first joined second h = absurd (cc h.0)
cut_came steps_of P old one two side before after size true Stopped steps p q first joined second h =
    record { far = before; may = p; more = []; trace = chain old one two _ steps _ first second (ap (λ l. steps_of before ++ l) h.1); last = refl }
cut_came steps_of P old one two side before after size false Failed steps p q first joined second (inl h) =
    record { far = before; may = p; more = Missed side ∷ []; trace = chain old one two _ steps _ first second (ap (λ l. steps_of before ++ l) h); last = refl }
cut_came steps_of P old one two side before after size false Failed steps p q first joined second (inr h) =
    let both : steps_of before ++ (Cut side size ∷ Missed side ∷ []) ≡ steps_of after ++ Missed side ∷ [] =
    sym (append_assoc (steps_of before) (Cut side size ∷ []) (Missed side ∷ [])) ∙ ap (λ l. l ++ Missed side ∷ []) joined in
    record { far = after; may = q; more = Missed side ∷ []; trace = chain old one two _ steps _ first second (ap (λ l. steps_of before ++ l) h ∙ both); last = refl }
cut_came steps_of P old one two side before after size false Stopped steps p q first joined second (inl h) =
    record { far = before; may = p; more = []; trace = chain old one two _ steps _ first second (ap (λ l. steps_of before ++ l) h); last = refl }
cut_came steps_of P old one two side before after size false Stopped steps p q first joined second (inr h) =
    record { far = after; may = q; more = []; trace = chain old one two _ steps _ first second (ap (λ l. steps_of before ++ l) h ∙ joined ∙ sym (append-nil _)); last = refl }

module _ (side : Side) (to_close : Bool) (text : List ℕ) (base one two : Option Told) where
  abbrev pub May : Fault → Come → Type 0
  May fault far = MayCome to_close text far × IsMeant text fault far

  left : (fault : Fault) → Came (come_steps side to_close) (May fault) base two side fault → Leaves side to_close text base two fault
  left fault c = record { far = c.far; may = c.may.0; more = c.more; trace = c.trace; last = c.last; meant = c.may.1 }

  -- after a sync, a write of one byte and a cut that were not acknowledged
  pub sync_left : (before after : Come) (stopped : Bool) (fault : Fault) (steps : List Event) → May fault before → May fault after → one ≡ with_steps base (come_steps side to_close before)
      → come_steps side to_close before ++ Synced side ∷ [] ≡ come_steps side to_close after → two ≡ with_steps one steps → SyncSteps side stopped (Err fault) steps → Leaves side to_close text base two fault
  sync_left before after stopped fault steps p q first joined second h = left fault (sync_came (come_steps side to_close) (May fault) base one two side before after stopped fault steps p q first joined second h)

  pub byte_left : (before : Come) (after : ℕ → Come) (at byte : ℕ) (stopped : Bool) (fault : Fault) (steps : List Event) → May fault before → ((other : ℕ) → (fault ≡ Stopped → other ≡ byte) → May fault (after other)) → one ≡ with_steps base (come_steps side to_close before)
      → ((byte : ℕ) → come_steps side to_close before ++ Wrote side at (byte ∷ []) ∷ [] ≡ come_steps side to_close (after byte)) → two ≡ with_steps one steps → WriteSteps side at (byte ∷ []) stopped (Err fault) steps → Leaves side to_close text base two fault
  byte_left before after at byte stopped fault steps p q first joined second h =
      left fault (write_came (come_steps side to_close) (May fault) base one two side before (λ other. after (first_byte other)) at (byte ∷ []) stopped fault steps p (λ other len own. q (first_byte other) (λ e. ap first_byte (own e))) first
      (λ other len. ap (λ (l : List ℕ). come_steps side to_close before ++ Wrote side at l ∷ []) (one_byte other len) ∙ joined (first_byte other)) second h)

  pub cut_left : (before after : Come) (size : ℕ) (stopped : Bool) (fault : Fault) (steps : List Event) → May fault before → May fault after → one ≡ with_steps base (come_steps side to_close before)
      → come_steps side to_close before ++ Cut side size ∷ [] ≡ come_steps side to_close after → two ≡ with_steps one steps → CutSteps side size stopped (Err fault) steps → Leaves side to_close text base two fault
  cut_left before after size stopped fault steps p q first joined second h = left fault (cut_came (come_steps side to_close) (May fault) base one two side before after size stopped fault steps p q first joined second h)

  pub sync_ends : (before after : Come) (stopped : Bool) (result : Result (Unit {0}) Fault) (steps : List Event) → ((fault : Fault) → May fault before) → ((fault : Fault) → May fault after) → one ≡ with_steps base (come_steps side to_close before)
      → come_steps side to_close before ++ Synced side ∷ [] ≡ come_steps side to_close after → two ≡ with_steps one steps → SyncSteps side stopped result steps → BreaksOff side to_close text base two result
  sync_ends before after stopped (Ok u) steps p q first joined second h = tt
  sync_ends before after stopped (Err fault) steps p q first joined second h = sync_left before after stopped fault steps (p fault) (q fault) first joined second h

  -- with the pieces that were written
  pub pour_left : (fault : Fault) → one ≡ with_steps base (emptying side to_close) → WritesText side 1 text one two (Err fault) → Leaves side to_close text base two fault
  pour_left fault first p = record {
    far = Filling p.pieces;
    may = tt;
    more = p.more;
    trace = chain base one two (emptying side to_close) (text_writes side 1 p.pieces ++ p.more) _ first p.trace (sym (append_assoc (emptying side to_close) (text_writes side 1 p.pieces) p.more));
    last = p.ends.0;
    meant = p.ends.1;
  }

-- ---- the whole move
module _ (side : Side) (text : List ℕ) (old new : Option Told) where
  -- a call that only reads
  pub unread : (fault : Fault) (more : List Event) → new ≡ with_steps old more → IsLast side fault more → MovesOver side text old new (Err fault)
  unread fault more is last = by old is
    where
      by : (o : Option Told) → new ≡ with_steps o more → MovesOver side text o new (Err fault)
      by None is = record { to_close = true; was = tt; far = Untouched; may = tt; more = more; trace = is; ends = (last, tt) }
      by (Some t) is = record { to_close = lacks_closed_gate (disk side t.trace).reads; was = refl; far = Untouched; may = tt; more = more; trace = is; ends = (last, tt) }

  pub moves_left : (to_close : Bool) (fault : Fault) → IfSome old (λ t. to_close ≡ lacks_closed_gate (disk side t.trace).reads) → Leaves side to_close text old new fault → MovesOver side text old new (Err fault)
  moves_left to_close fault saw l = record { to_close = to_close; was = saw; far = l.far; may = l.may; more = l.more; trace = l.trace; ends = (l.last, l.meant) }

  pub moves_done : (to_close : Bool) (pieces : List (List ℕ)) (u : Unit {0}) → IfSome old (λ t. to_close ≡ lacks_closed_gate (disk side t.trace).reads) → ArePieces text pieces → new ≡ with_steps old (come_steps side to_close (InUse pieces)) → MovesOver side text old new (Ok u)
  moves_done to_close pieces u saw are is = record {
    to_close = to_close;
    was = saw;
    far = InUse pieces;
    may = are;
    more = [];
    trace = is ∙ ap (with_steps old) (sym (append-nil (come_steps side to_close (InUse pieces))));
    ends = (tt, refl);
  }

-- ---- emptying
-- a side has its gate after a sync of it
pub shut_long : (side : Side) (old new : Option Told) → new ≡ with_steps old (shutting side true) → IfSome new (λ t. 1 ≤ length (disk side t.trace).reads)
shut_long side None new is = subst (λ (o : Option Told). IfSome o (λ t. 1 ≤ length (disk side t.trace).reads)) (sym is) tt
shut_long side (Some t) new is = subst (λ (o : Option Told). IfSome o (λ t. 1 ≤ length (disk side t.trace).reads)) (sym is) (by side)
  where
    some : (bytes : List ℕ) → 1 ≤ length (put bytes 0 (0 ∷ []))
    some bytes = omega (arith, length-append (take 0 bytes ++ 0 ∷ []) (drop (0 + length {A = ℕ} (0 ∷ [])) bytes), length-append (take 0 bytes) (0 ∷ []))

    by : (side : Side) → 1 ≤ length (disk side (t.trace ++ shutting side true)).reads
    by A = subst (λ (d : Disk). 1 ≤ length d.reads) (sym (disk_more A t.trace (shutting A true))) (some (disk A t.trace).reads)
    by B = subst (λ (d : Disk). 1 ≤ length d.reads) (sym (disk_more B t.trace (shutting B true))) (some (disk B t.trace).reads)

pub emptied_ok : (side : Side) (to_close : Bool) (old one two : Option Told) (result : Result (Unit {0}) Fault) → one ≡ with_steps old (shutting side to_close) → OnOk result (two ≡ with_steps one (Cut side 1 ∷ Synced side ∷ [])) → OnOk result (two ≡ with_steps old (emptying side to_close))
emptied_ok side to_close old one two (Ok u) first second = chain old one two (shutting side to_close) (Cut side 1 ∷ Synced side ∷ []) (emptying side to_close) first second refl
emptied_ok side to_close old one two (Err fault) first second = tt

-- a side that is emptied has its gate alone
pub emptied_long : (side : Side) (to_close : Bool) (old new : Option Told) → IfSome old (λ t. to_close ≡ false → 1 ≤ length (disk side t.trace).reads) → new ≡ with_steps old (emptying side to_close) → IfSome new (λ t. 1 ≤ length (disk side t.trace).reads)
emptied_long side to_close None new long is = subst (λ (o : Option Told). IfSome o (λ t. 1 ≤ length (disk side t.trace).reads)) (sym is) tt
emptied_long side to_close (Some t) new long is = subst (λ (o : Option Told). IfSome o (λ t. 1 ≤ length (disk side t.trace).reads)) (sym is) (by side to_close long)
  where
    one : (bytes : List ℕ) → 1 ≤ length bytes → 1 ≤ length (take 1 bytes)
    one bytes h = omega (arith, h, length-take 1 bytes)

    some : (bytes : List ℕ) → 1 ≤ length (put bytes 0 (0 ∷ []))
    some bytes = omega (arith, length-append (take 0 bytes ++ 0 ∷ []) (drop (0 + length {A = ℕ} (0 ∷ [])) bytes), length-append (take 0 bytes) (0 ∷ []))

    by : (side : Side) (to_close : Bool) → (to_close ≡ false → 1 ≤ length (disk side t.trace).reads) → 1 ≤ length (disk side (t.trace ++ emptying side to_close)).reads
    by A true long = subst (λ (d : Disk). 1 ≤ length d.reads) (sym (disk_more A t.trace (emptying A true))) (one (put (disk A t.trace).reads 0 (0 ∷ [])) (some (disk A t.trace).reads))
    by A false long = subst (λ (d : Disk). 1 ≤ length d.reads) (sym (disk_more A t.trace (emptying A false))) (one (disk A t.trace).reads (long refl))
    by B true long = subst (λ (d : Disk). 1 ≤ length d.reads) (sym (disk_more B t.trace (emptying B true))) (one (put (disk B t.trace).reads 0 (0 ∷ [])) (some (disk B t.trace).reads))
    by B false long = subst (λ (d : Disk). 1 ≤ length d.reads) (sym (disk_more B t.trace (emptying B false))) (one (disk B t.trace).reads (long refl))

-- ---- the steps of the move, one after another
pub missed_last : (side : Side) (fault : Fault) → IsLast side fault (missed {T = Bool} side (Err fault))
missed_last side Failed = refl
missed_last side Stopped = refl

-- a call that only reads leaves what was told
pub read_only : (side : Side) (u : Bool) (told new : Option Told) → new ≡ with_steps told (missed side (Ok u)) → new ≡ told
read_only side u told new is = is ∙ sym (with_steps-nil told)

shut_some : (bytes : List ℕ) → lacks_closed_gate bytes ≡ false → 1 ≤ length bytes
shut_some [] h = absurd (cc h)
shut_some (gate ∷ bytes) h = omega arith

pub may_empty : (side : Side) (to_close : Bool) (told new : Option Told) → new ≡ told → IfSome told (λ t. to_close ≡ lacks_closed_gate (disk side t.trace).reads) → IfSome new (λ t. to_close ≡ false → 1 ≤ length (disk side t.trace).reads)
may_empty side to_close told new same saw = subst (λ (o : Option Told). IfSome o (λ t. to_close ≡ false → 1 ≤ length (disk side t.trace).reads)) (sym same) (by told saw)
  where
    by : (o : Option Told) → IfSome o (λ t. to_close ≡ lacks_closed_gate (disk side t.trace).reads) → IfSome o (λ t. to_close ≡ false → 1 ≤ length (disk side t.trace).reads)
    by None saw = tt
    by (Some t) saw = λ no. shut_some (disk side t.trace).reads (sym saw ∙ no)

pub filled_ok : (side : Side) (to_close : Bool) (text : List ℕ) (told one two : Option Told) (u : Unit {0}) → one ≡ with_steps told (emptying side to_close) → (p : WritesText side 1 text one two (Ok u)) → two ≡ with_steps told (filling side to_close p.pieces)
filled_ok side to_close text told one two u first p =
    chain told one two (emptying side to_close) (text_writes side 1 p.pieces ++ p.more) (filling side to_close p.pieces) first p.trace
    (ap (λ l. emptying side to_close ++ (text_writes side 1 p.pieces ++ l)) p.ends.1 ∙ ap (λ l. emptying side to_close ++ l) (append-nil (text_writes side 1 p.pieces)))

pub moves_end : (side : Side) (text : List ℕ) (told two new : Option Told) (to_close : Bool) (pieces : List (List ℕ)) (result : Result (Unit {0}) Fault) → IfSome told (λ t. to_close ≡ lacks_closed_gate (disk side t.trace).reads) → ArePieces text pieces
    → two ≡ with_steps told (filling side to_close pieces) → OnOk result (new ≡ with_steps two (Synced side ∷ Wrote side 0 (165 ∷ []) ∷ Synced side ∷ [])) → BreaksOff side to_close text told new result → MovesOver side text told new result
moves_end side text told two new to_close pieces (Ok u) saw are first second leaves =
    moves_done side text told new to_close pieces u saw are (chain told two new (filling side to_close pieces) (Synced side ∷ Wrote side 0 (165 ∷ []) ∷ Synced side ∷ []) _ first second refl)
moves_end side text told two new to_close pieces (Err fault) saw are first second leaves = moves_left side text told new to_close fault saw leaves
