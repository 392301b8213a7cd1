-- A folder that tells goes on.
use Rattle.std.proofs.Common.{◌≡◌, ◌≤◌, inl, inr, ℕ, Bool, true, false, List, [], ◌∷◌, ◌++◌, Option, Some, None, Result, Ok, Err, refl, sym, ap, ◌∙◌, subst, length, take, drop, arith, length-append}
use Rattle.std.specs.Prelude.{fold, IfSome, OnErr, OnOk, IsErrOf, IsTrue}
use Rattle.std.specs.List.{list_all}
use Rattle.std.specs.Option.{ForSome}
use Rattle.std.proofs.lemmas.Bool.{and_parts, and_from}
use Rattle.std.proofs.lemmas.List.{take-append-le, drop-append-le, ext_get_or}
use Rattle.std.proofs.lemmas.List.Sums.{fold-append}
use Rattle.std.proofs.lemmas.Option.{same_Some}
use Rattle.lab_base.specs.declared.memory.Memory.{Memory}
use Rattle.plant.specs.DiskCalls.{missed, MayStop, WriteSteps, SyncSteps, CutSteps}
use Rattle.plant.specs.Disks.{Disk, disk, disk_after, at_once, IsImage, ArePossible}
use Rattle.plant.specs.Events.{Event, Wrote, Synced, Cut, Did, Restarted, Unread}
use Rattle.plant.specs.Told as plants
use Rattle.plant.specs.Worlds.{World, blank, world_after, world_of}
use Rattle.plant.specs.declared.device.Answer.{Answer}
use Rattle.plant.specs.declared.device.DeviceOp.{DeviceOp}
use Rattle.plant.specs.declared.device.Fault.{Fault}
use Rattle.plant.specs.declared.device.Fault.TheVariants.{Failed, Stopped}
use Rattle.plant.specs.declared.moment.Faults.{Faults}
use Rattle.plant.specs.declared.step.Side.{Side}
use Rattle.plant.specs.declared.step.Side.TheVariants.{A, B}
use Rattle.plant.specs.Readings.{unread}
use Rattle.plant.specs.declared.pipe_row.ReadFailed.{ReadFailed}
use Rattle.plant_file.specs.declared.entry.Entry.{Entry}
use Rattle.folder.specs.Folders.{Held, past_of, more, with_steps, with_mark, made_sure, IsDurable}
use Rattle.plant_file.specs.Lines.{tables_of_text}
use Rattle.plant_file.specs.Standing.{Stands, is_beside, Fits, OldsFit, AreOf, Keeps, KeepsTables}

-- STEPS THAT LEAVE THE DEVICES AS THEY ARE

abbrev pub AreStill : List Event → Type 0
AreStill steps = (w : World) → fold world_after w steps ≡ w

missed_still : {T : Type 0} (side : Side) (result : Result T Fault) → AreStill (missed side result)
missed_still side (Ok value) = λ w. refl
missed_still side (Err Failed) = λ w. refl
missed_still side (Err Stopped) = λ w. refl

may_still : (effect : Event) → ((w : World) → world_after w effect ≡ w) → (steps : List Event) → MayStop effect steps → AreStill steps
may_still effect still steps (inl is) = subst AreStill (sym is) (λ w. refl)
may_still effect still steps (inr is) = subst AreStill (sym is) still

pub write_still : (side : Side) (at : ℕ) (bytes : List ℕ) (stopped : Bool) (result : Result (Unit {0}) Fault) (steps : List Event) → WriteSteps side at bytes stopped result steps → AreStill steps
write_still side at bytes true result steps h = subst AreStill (sym h.1) (λ w. refl)
write_still side at bytes false (Ok done) steps h = subst AreStill (sym h) (λ w. refl)
write_still side at bytes false (Err Failed) steps (inl h) = subst AreStill (sym h) (λ w. refl)
write_still side at bytes false (Err Failed) steps (inr h) = subst AreStill (sym h.2) (λ w. refl)
write_still side at bytes false (Err Stopped) steps h = may_still (Wrote side at bytes) (λ w. refl) steps h

pub sync_still : (side : Side) (stopped : Bool) (result : Result (Unit {0}) Fault) (steps : List Event) → SyncSteps side stopped result steps → AreStill steps
sync_still side true result steps h = subst AreStill (sym h.1) (λ w. refl)
sync_still side false (Ok done) steps h = subst AreStill (sym h) (λ w. refl)
sync_still side false (Err Failed) steps h = subst AreStill (sym h) (λ w. refl)
sync_still side false (Err Stopped) steps h = may_still (Synced side) (λ w. refl) steps h

pub cut_still : (side : Side) (size : ℕ) (stopped : Bool) (result : Result (Unit {0}) Fault) (steps : List Event) → CutSteps side size stopped result steps → AreStill steps
cut_still side size true result steps h = subst AreStill (sym h.1) (λ w. refl)
cut_still side size false (Ok done) steps h = subst AreStill (sym h) (λ w. refl)
cut_still side size false (Err Failed) steps (inl h) = subst AreStill (sym h) (λ w. refl)
cut_still side size false (Err Failed) steps (inr h) = subst AreStill (sym h) (λ w. refl)
cut_still side size false (Err Stopped) steps h = may_still (Cut side size) (λ w. refl) steps h

-- STEPS THAT LEAVE BOTH SIDES AS THEY ARE

abbrev AreStillDisks : List Event → Type 0
AreStillDisks steps = (side : Side) (d : Disk) → fold (disk_after side) d steps ≡ d

abbrev AreBeside : List Event → Type 0
AreBeside steps = list_all is_beside steps ≡ true

abbrev pub AreQuiet : List Event → Type 0
AreQuiet steps = AreStillDisks steps × AreBeside steps

missed_disks : {T : Type 0} (side : Side) (result : Result T Fault) → AreStillDisks (missed side result)
missed_disks side (Ok value) s = λ d. refl
missed_disks side (Err Failed) A = λ d. refl
missed_disks side (Err Failed) B = λ d. refl
missed_disks side (Err Stopped) s = λ d. refl

missed_beside : {T : Type 0} (side : Side) (result : Result T Fault) → AreBeside (missed side result)
missed_beside side (Ok value) = refl
missed_beside side (Err Failed) = refl
missed_beside side (Err Stopped) = refl

pub missed_quiet : {T : Type 0} (side : Side) (result : Result T Fault) → AreQuiet (missed side result)
missed_quiet side result = (missed_disks side result, missed_beside side result)

did_disks : (op : DeviceOp) (applied : Bool) (answer : Result Answer Fault) → AreStillDisks (Did op applied answer ∷ [])
did_disks op applied answer A = λ d. refl
did_disks op applied answer B = λ d. refl

pub did_quiet : (op : DeviceOp) (applied : Bool) (answer : Result Answer Fault) → AreQuiet (Did op applied answer ∷ [])
did_quiet op applied answer = (did_disks op applied answer, refl)

unread_disks : (device : List ℕ) → AreStillDisks (Unread device ∷ [])
unread_disks device A = λ d. refl
unread_disks device B = λ d. refl

unread_some : (device : List ℕ) → AreQuiet (Unread device ∷ [])
unread_some device = (unread_disks device, refl)

pub unread_still : {T : Type 0} (device : List ℕ) (result : Result T ReadFailed) → AreStill (unread device result)
unread_still device (Ok value) = λ w. refl
unread_still device (Err fault) = λ w. refl

none_disks : AreStillDisks []
none_disks side d = refl

pub unread_quiet : {T : Type 0} (device : List ℕ) (result : Result T ReadFailed) → AreQuiet (unread device result)
unread_quiet device (Ok value) = (none_disks, refl)
unread_quiet device (Err fault) = unread_some device

quiet_disk : (side : Side) (trace steps : List Event) → AreQuiet steps → disk side (trace ++ steps) ≡ disk side trace
quiet_disk side trace steps quiet = fold-append (disk_after side) (at_once []) trace steps ∙ quiet.0 side (disk side trace)

pub quiet_possible : (trace steps : List Event) → AreQuiet steps → (a b : List ℕ) → ArePossible (trace ++ steps) a b → ArePossible trace a b
quiet_possible trace steps quiet a b p =
    (subst (λ (d : Disk). IsImage d a) (quiet_disk A trace steps quiet) p.0, subst (λ (d : Disk). IsImage d b) (quiet_disk B trace steps quiet) p.1)

-- of bytes that are all durable a stop leaves those
once : (bytes image : List ℕ) → IsImage (at_once bytes) image → image ≡ bytes
once bytes image is =
    let size : length image ≡ length bytes = omega (arith, is.no_shorter, is.no_longer) in
    ext_get_or 0 image bytes size (λ k within. is.kept k (omega (arith, within, size)) within (λ r none. absurd none))

restarted_possible : (trace : List Event) (x y a b : List ℕ) → ArePossible trace x y → ArePossible (trace ++ Restarted x y ∷ []) a b → ArePossible trace a b
restarted_possible trace x y a b were p =
    let here : disk A (trace ++ Restarted x y ∷ []) ≡ at_once x = fold-append (disk_after A) (at_once []) trace (Restarted x y ∷ []) in
    let there : disk B (trace ++ Restarted x y ∷ []) ≡ at_once y = fold-append (disk_after B) (at_once []) trace (Restarted x y ∷ []) in (
      subst (IsImage (disk A trace)) (sym (once x a (subst (λ (d : Disk). IsImage d a) here p.0))) were.0,
      subst (IsImage (disk B trace)) (sym (once y b (subst (λ (d : Disk). IsImage d b) there p.1))) were.1,
    )

-- THE PAST ALONE

pub past_steps : (held : Option Held) (steps : List Event) → past_of (with_steps held steps) ≡ plants.with_steps (past_of held) steps
past_steps None steps = refl
past_steps (Some h) steps = refl

past_sure : (held : Option Held) → past_of (made_sure held) ≡ past_of held
past_sure None = refl
past_sure (Some h) = refl

pub past_sure_steps : (old new : Option Held) (steps : List Event) → new ≡ with_steps (made_sure old) steps → past_of new ≡ plants.with_steps (past_of old) steps
past_sure_steps old new steps is = ap past_of is ∙ past_steps (made_sure old) steps ∙ ap (λ (t : Option plants.Told). plants.with_steps t steps) (past_sure old)

pub some_past : (held : Option Held) (P : plants.Told → Type 0) → ForSome held (λ h. P h.past) → IfSome (past_of held) P
some_past None P all = tt
some_past (Some h) P all = all h refl

pub past_some_steps : (old new : Option Held) (steps : List Event) → new ≡ with_steps old steps → past_of new ≡ plants.with_steps (past_of old) steps
past_some_steps old new steps is = ap past_of is ∙ past_steps old steps

-- THE TEXT AND THE WORLD

world_more : (trace steps : List Event) → AreStill steps → world_of (trace ++ steps) ≡ world_of trace
world_more trace steps still = fold-append world_after blank trace steps ∙ still (world_of trace)

fits_more : (h : Held) (steps : List Event) → AreStill steps → Fits h → Fits (more h steps)
fits_more h steps still fits = subst (λ (w : World). Stands w h.text) (sym (world_more h.past.trace steps still)) fits

-- steps beside the journal, after such steps
beside_append : (xs ys : List Event) → AreBeside xs → AreBeside ys → AreBeside (xs ++ ys)
beside_append [] ys first rest = rest
beside_append (x ∷ xs) ys first rest = let p = and_parts (is_beside x) (list_all is_beside xs) first in and_from _ _ p.0 (beside_append xs ys p.1 rest)

pub beside_more : (at : ℕ) (trace steps : List Event) → at ≤ length trace → AreBeside (drop at trace) → AreBeside steps → AreBeside (drop at (trace ++ steps))
beside_more at trace steps within first rest = subst AreBeside (sym (drop-append-le at trace steps within)) (beside_append (drop at trace) steps first rest)

-- older texts stay so while each image that is possible was possible
pub olds_more : (h : Held) (steps : List Event) → ((a b : List ℕ) → ArePossible (h.past.trace ++ steps) a b → ArePossible h.past.trace a b) → AreBeside steps → OldsFit h → OldsFit (more h steps)
olds_more h steps were beside olds = λ old has.
    let o = olds old has in
    let same : take old.at (h.past.trace ++ steps) ≡ take old.at h.past.trace = take-append-le old.at h.past.trace steps o.within in
    record {
      within = omega (arith, o.within, length-append h.past.trace steps);
      stands = subst (λ (t : List Event). Stands (world_of t) old.text) (sym same) o.stands;
      possible = λ a b p. subst (λ (t : List Event). ArePossible t a b) (sym same) (o.possible a b (were a b p));
      beside = beside_more old.at h.past.trace steps o.within o.beside beside;
    }

keeps_quiet : (h : Held) (steps : List Event) → AreStill steps → AreQuiet steps → Keeps h → Keeps (more h steps)
keeps_quiet h steps still quiet keeps = record { fits = fits_more h steps still keeps.fits; olds = olds_more h steps (quiet_possible h.past.trace steps quiet) quiet.1 keeps.olds }

keeps_durable : (h : Held) (steps : List Event) → AreStill steps → Keeps h → Keeps (more (record h { older = [] }) steps)
keeps_durable h steps still keeps = record { fits = fits_more (record h { older = [] }) steps still keeps.fits; olds = λ old none. absurd none }

keeps_restart : (h : Held) (x y : List ℕ) → ArePossible h.past.trace x y → Keeps h → Keeps (more h (Restarted x y ∷ []))
keeps_restart h x y were keeps = record {
  fits = fits_more h (Restarted x y ∷ []) (λ w. refl) keeps.fits;
  olds = olds_more h (Restarted x y ∷ []) (λ a b p. restarted_possible h.past.trace x y a b were p) refl keeps.olds;
}

pub some_steps : (old new : Option Held) (steps : List Event) → new ≡ with_steps old steps → (now : Held) → new ≡ Some now → (h : Held) × (old ≡ Some h) × (now ≡ more h steps)
some_steps None new steps is now some = absurd (let never : None ≡ Some now = sym is ∙ some in cc never)
some_steps (Some h) new steps is now some = (h, refl, sym (same_Some (more h steps) now (sym is ∙ some)))

some_made : (old new : Option Held) (steps : List Event) → new ≡ with_steps (made_sure old) steps → (now : Held) → new ≡ Some now → (h : Held) × (old ≡ Some h) × (now ≡ more (record h { older = [] }) steps)
some_made None new steps is now some = absurd (let never : None ≡ Some now = sym is ∙ some in cc never)
some_made (Some h) new steps is now some = (h, refl, sym (same_Some (more (record h { older = [] }) steps) now (sym is ∙ some)))

pub keeps_steps : (old new : Option Held) (steps : List Event) → AreStill steps → AreQuiet steps → new ≡ with_steps old steps → KeepsTables old new
keeps_steps old new steps still quiet is = record {
  before = λ now some.
      let at = some_steps old new steps is now some in
      (at.0, at.1, ap (λ (x : Held). x.text) at.2, λ k. subst Keeps (sym at.2) (keeps_quiet at.0 steps still quiet k));
}

pub keeps_sure_steps : (old new : Option Held) (steps : List Event) → AreStill steps → new ≡ with_steps (made_sure old) steps → KeepsTables old new
keeps_sure_steps old new steps still is = record {
  before = λ now some.
      let at = some_made old new steps is now some in
      (at.0, at.1, ap (λ (x : Held). x.text) at.2, λ k. subst Keeps (sym at.2) (keeps_durable at.0 steps still k));
}

pub keeps_missed : {T : Type 0} (old new : Option Held) (side : Side) (result : Result T Fault) → new ≡ with_steps old (missed side result) → KeepsTables old new
keeps_missed old new side result is = keeps_steps old new (missed side result) (missed_still side result) (missed_quiet side result) is

pub keeps_unread : {T : Type 0} (old new : Option Held) (device : List ℕ) (result : Result T ReadFailed) → new ≡ with_steps old (unread device result) → KeepsTables old new
keeps_unread old new device result is = keeps_steps old new (unread device result) (unread_still device result) (unread_quiet device result) is

pub keeps_restarted : (old new : Option Held) (x y : List ℕ) → IfSome old (λ h. ArePossible h.past.trace x y) → new ≡ with_steps old (Restarted x y ∷ []) → KeepsTables old new
keeps_restarted old new x y were is = record {
  before = λ now some.
      let at = some_steps old new (Restarted x y ∷ []) is now some in
      let own : ArePossible at.0.past.trace x y = subst (λ (o : Option Held). IfSome o (λ h. ArePossible h.past.trace x y)) at.1 were in
      (at.0, at.1, ap (λ (h : Held). h.text) at.2, λ k. subst Keeps (sym at.2) (keeps_restart at.0 x y own k));
}

-- WHAT A PLANT KEEPS OF ITS FOLDER

pub fits_kept : (old new : Option Held) → KeepsTables old new → ForSome old Keeps → ForSome new Keeps
fits_kept old new keeps fits = λ now some. let at = keeps.before now some in at.3 (fits at.0 at.1)

pub are_kept : (old new : Option Held) (kept : Option (List Entry)) → KeepsTables old new → ForSome kept (λ tables. ForSome old (AreOf tables)) → ForSome kept (λ tables. ForSome new (AreOf tables))
are_kept old new kept keeps are = λ tables is now some. let at = keeps.before now some in ap tables_of_text at.2 ∙ are tables is at.0 at.1

pub sure_kept : (known : Bool) (old new : Option Held) (steps : List Event) → new ≡ with_steps old steps → ForSome old (λ h. known ≡ true → IsDurable h) → ForSome new (λ h. known ≡ true → IsDurable h)
sure_kept known old new steps is sure = λ now some. let at = some_steps old new steps is now some in λ k. ap (λ (h : Held). h.older) at.2 ∙ sure at.0 at.1 k

pub sure_made : (known : Bool) (old new : Option Held) (steps : List Event) → new ≡ with_steps (made_sure old) steps → ForSome new (λ h. known ≡ true → IsDurable h)
sure_made known old new steps is = λ now some. let at = some_made old new steps is now some in λ k. ap (λ (h : Held). h.older) at.2

pub durable_made : (old new : Option Held) → new ≡ made_sure old → ForSome new IsDurable
durable_made None new is = λ now some. absurd (let never : None ≡ Some now = sym is ∙ some in cc never)
durable_made (Some h) new is = λ now some. ap (λ (x : Held). x.older) (sym (same_Some (record h { older = [] }) now (sym is ∙ some)))

-- one that is known to be durable need not be made so
pub sure_already : (held : Option Held) → ForSome held IsDurable → held ≡ made_sure held
sure_already None h = refl
sure_already (Some held) h = λ i. Some (record held { older = h held refl i })

-- WHAT A CALL ADDS WHERE THE TEXT IS NOT MADE DURABLE

pub refused_write : (side : Side) (at : ℕ) (bytes : List ℕ) (stopped : Bool) (fault : Fault) → (IsTrue stopped → IsErrOf {T = Unit {0}} (Err fault) Stopped) → WriteSteps side at bytes stopped (Err fault) (missed {T = Unit {0}} side (Err fault))
refused_write side at bytes true Failed rests = absurd (let is = rests refl in cc is)
refused_write side at bytes true Stopped rests = (refl, refl)
refused_write side at bytes false Failed rests = inl refl
refused_write side at bytes false Stopped rests = inl refl

pub refused_sync : (side : Side) (stopped : Bool) (fault : Fault) → (IsTrue stopped → IsErrOf {T = Unit {0}} (Err fault) Stopped) → SyncSteps side stopped (Err fault) (missed {T = Unit {0}} side (Err fault))
refused_sync side true Failed rests = absurd (let is = rests refl in cc is)
refused_sync side true Stopped rests = (refl, refl)
refused_sync side false Failed rests = refl
refused_sync side false Stopped rests = inl refl

pub refused_cut : (side : Side) (size : ℕ) (stopped : Bool) (fault : Fault) → (IsTrue stopped → IsErrOf {T = Unit {0}} (Err fault) Stopped) → CutSteps side size stopped (Err fault) (missed {T = Unit {0}} side (Err fault))
refused_cut side size true Failed rests = absurd (let is = rests refl in cc is)
refused_cut side size true Stopped rests = (refl, refl)
refused_cut side size false Failed rests = inl refl
refused_cut side size false Stopped rests = inl refl

-- WHAT LEAVES THE FOLDER AS IT IS

pub keeps_same : (old new : Option Held) → new ≡ old → KeepsTables old new
keeps_same old new is = record { before = λ now some. (now, sym is ∙ some, refl, λ k. k) }

pub sure_same : (known : Bool) (old new : Option Held) → new ≡ old → ForSome old (λ h. known ≡ true → IsDurable h) → ForSome new (λ h. known ≡ true → IsDurable h)
sure_same known old new is sure = λ now some. sure now (sym is ∙ some)

-- a moment is marked
pub keeps_mark : (old new : Option Held) (faults : Faults) → new ≡ with_mark old faults → KeepsTables old new
keeps_mark None new faults is = record { before = λ now some. absurd (let never : None ≡ Some now = sym is ∙ some in cc never) }
keeps_mark (Some h) new faults is = record {
  before = λ now some.
      let same : marked ≡ now = same_Some marked now (sym is ∙ some) in
      (h, refl, ap (λ (x : Held). x.text) (sym same), λ k. subst Keeps same (record { fits = k.fits; olds = λ old has. let o = k.olds old has in record { within = o.within; stands = o.stands; possible = o.possible; beside = o.beside } }));
}
  where
    marked : Held
    marked = record h { past = record h.past { marks = h.past.marks ++ record { at = length h.past.trace; faults = faults } ∷ [] } }

pub sure_mark : (known : Bool) (old new : Option Held) (faults : Faults) → new ≡ with_mark old faults → ForSome old (λ h. known ≡ true → IsDurable h) → ForSome new (λ h. known ≡ true → IsDurable h)
sure_mark known None new faults is sure = λ now some. absurd (let never : None ≡ Some now = sym is ∙ some in cc never)
sure_mark known (Some h) new faults is sure = λ now some k.
    let marked : Held = record h { past = record h.past { marks = h.past.marks ++ record { at = length h.past.trace; faults = faults } ∷ [] } } in
    ap (λ (x : Held). x.older) (sym (same_Some marked now (sym is ∙ some))) ∙ sure h refl k

-- by what a start or a mark answers

pub keeps_start : (was is : Bool) (result : Result (Unit {0}) Memory) (old new : Option Held) → OnOk result ((a b : List ℕ) × (new ≡ with_steps old (Restarted a b ∷ [])) × IfSome old (λ h. ArePossible h.past.trace a b)) → OnErr result ((new ≡ old) × (is ≡ was)) → KeepsTables old new
keeps_start was is (Ok done) old new ok err = keeps_restarted old new ok.0 ok.1 ok.3 ok.2
keeps_start was is (Err fault) old new ok err = keeps_same old new err.0

pub sure_start : (known was is : Bool) (result : Result (Unit {0}) Memory) (old new : Option Held) → OnOk result ((a b : List ℕ) × (new ≡ with_steps old (Restarted a b ∷ [])) × IfSome old (λ h. ArePossible h.past.trace a b)) → OnErr result ((new ≡ old) × (is ≡ was))
    → ForSome old (λ h. known ≡ true → IsDurable h) → ForSome new (λ h. known ≡ true → IsDurable h)
sure_start known was is (Ok done) old new ok err sure = sure_kept known old new (Restarted ok.0 ok.1 ∷ []) ok.2 sure
sure_start known was is (Err fault) old new ok err sure = sure_same known old new err.0 sure

pub keeps_marked : (result : Result (Unit {0}) Memory) (old new : Option Held) (faults : Faults) → OnOk result (new ≡ with_mark old faults) → OnErr result (new ≡ old) → KeepsTables old new
keeps_marked (Ok done) old new faults ok err = keeps_mark old new faults ok
keeps_marked (Err fault) old new faults ok err = keeps_same old new err

pub sure_marked : (known : Bool) (result : Result (Unit {0}) Memory) (old new : Option Held) (faults : Faults) → OnOk result (new ≡ with_mark old faults) → OnErr result (new ≡ old)
    → ForSome old (λ h. known ≡ true → IsDurable h) → ForSome new (λ h. known ≡ true → IsDurable h)
sure_marked known (Ok done) old new faults ok err sure = sure_mark known old new faults ok sure
sure_marked known (Err fault) old new faults ok err sure = sure_same known old new err sure

pub past_mark : (held : Option Held) (faults : Faults) → past_of (with_mark held faults) ≡ plants.with_mark (past_of held) faults
past_mark None faults = refl
past_mark (Some h) faults = refl
