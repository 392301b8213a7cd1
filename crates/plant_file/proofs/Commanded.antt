-- A folder whose text is put in the place of the old one, for a command.
use Rattle.std.proofs.Common.{◌≡◌, inl, inr, ℕ, Bool, true, false, List, [], ◌∷◌, ◌++◌, Option, Some, None, Result, Ok, Err, refl, sym, ap, ◌∙◌, subst, length, take, arith, length-append}
use Rattle.std.specs.Prelude.{is_ok, IsFalse}
use Rattle.std.specs.List.{list_all}
use Rattle.std.specs.Option.{ForSome}
use Rattle.std.proofs.lemmas.List.{append-nil}
use Rattle.std.proofs.lemmas.List.Sums.{fold-append}
use Rattle.std.proofs.lemmas.Option.{same_Some}
use Rattle.std.proofs.Math.Seq.{take-append_seam, drop-append_seam}
use Rattle.lab_base.specs.Lists.{Has}
use Rattle.plant.specs.Calls.{Fits as FitsCommand, CommandSteps}
use Rattle.plant.specs.Disks.{ArePossible}
use Rattle.plant.specs.Events.{Event, Did}
use Rattle.plant.specs.Told as plants
use Rattle.plant.specs.Worlds.{World, blank, world_after, world_of}
use Rattle.plant.specs.declared.device.Answer.{Answer}
use Rattle.plant.specs.declared.device.DeviceOp.{DeviceOp}
use Rattle.plant.specs.declared.device.Fault.{Fault}
use Rattle.plant.specs.declared.device.Fault.TheVariants.{Failed, Stopped}
use Rattle.plant_file.specs.declared.entry.Entry.{Entry}
use Rattle.plant_file.specs.Entries.{answer_of}
use Rattle.folder.specs.Folders.{Held, Old, past_of, more, put_text, with_steps, Put, Sent, IsSent}
use Rattle.plant_file.specs.Holding.{world_in}
use Rattle.plant_file.specs.Lines.{tables_of_text}
use Rattle.plant_file.specs.Standing.{Stands, IsKnown, is_beside, Fits, IsOld, OldsFit, AreOf, IsObeyed, Keeps, entries_or}
use Rattle.plant_file.proofs.Known.{tables_done, tables_failed, tables_missed}
use Rattle.plant_file.proofs.Telling.{olds_more, quiet_possible, did_quiet, some_steps}

-- a text of these tables stands for the world, where they do
stands_by : (w : World) (text : List ℕ) (entries : List Entry) → tables_of_text text ≡ Ok entries → IsKnown (world_in entries) w → Stands w text
stands_by w text entries is known = record {
  reads = ap is_ok is;
  known = subst (λ (l : List Entry). IsKnown (world_in l) w) (sym (ap entries_or is)) known;
}

pub known_by : (h : Held) (entries : List Entry) → AreOf entries h → Fits h → IsKnown (world_in entries) (world_of h.past.trace)
known_by h entries is fits = subst (λ (l : List Entry). IsKnown (world_in l) (world_of h.past.trace)) (ap entries_or is) fits.known

-- one step more
world_did : (h : Held) (event : Event) → world_of (h.past.trace ++ event ∷ []) ≡ world_after (world_of h.past.trace) event
world_did h event = fold-append world_after blank h.past.trace (event ∷ [])

stands_did : (h : Held) (event : Event) (text : List ℕ) (entries : List Entry) → tables_of_text text ≡ Ok entries → IsKnown (world_in entries) (world_after (world_of h.past.trace) event) → Stands (world_of (h.past.trace ++ event ∷ [])) text
stands_did h event text entries is known = subst (λ (w : World). Stands w text) (sym (world_did h event)) (stands_by (world_after (world_of h.past.trace) event) text entries is known)

-- the text that was there is an old one
own_old : (h : Held) (op : DeviceOp) (applied : Bool) (answer : Result Answer Fault) (text : List ℕ) → Fits h → IsOld (more (put_text true text h) (Did op applied answer ∷ [])) (record { text = h.text; at = length h.past.trace })
own_old h op applied answer text fits =
    let steps : List Event = Did op applied answer ∷ [] in
    let same : take (length h.past.trace) (h.past.trace ++ steps) ≡ h.past.trace = take-append_seam h.past.trace steps in
    record {
      within = omega (arith, length-append h.past.trace steps);
      stands = subst (λ (t : List Event). Stands (world_of t) h.text) (sym same) fits;
      possible = λ a b p. subst (λ (t : List Event). ArePossible t a b) (sym same) (quiet_possible h.past.trace steps (did_quiet op applied answer) a b p);
      beside = subst (λ (t : List Event). list_all is_beside t ≡ true) (sym (drop-append_seam h.past.trace steps)) refl;
    }

olds_put : (h : Held) (op : DeviceOp) (applied : Bool) (answer : Result Answer Fault) (text : List ℕ) → Keeps h → OldsFit (more (put_text true text h) (Did op applied answer ∷ []))
olds_put h op applied answer text keeps = λ old has. by old has
  where
    steps : List Event
    steps = Did op applied answer ∷ []

    by : (old : Old) → Has (record { text = h.text; at = length h.past.trace } ∷ h.older) old → IsOld (more (put_text true text h) steps) old
    by old (inl same) = subst (IsOld (more (put_text true text h) steps)) same (own_old h op applied answer text keeps.fits)
    by old (inr has) =
        let o = olds_more h steps (quiet_possible h.past.trace steps (did_quiet op applied answer)) refl keeps.olds old has in
        record { within = o.within; stands = o.stands; possible = o.possible; beside = o.beside }

-- THE COMMAND IS APPLIED, or not
keeps_put : (h : Held) (op : DeviceOp) (answer : Result Answer Fault) (text : List ℕ) (entries : List Entry) → tables_of_text text ≡ Ok entries
    → IsKnown (world_in entries) (world_after (world_of h.past.trace) (Did op true answer)) → Keeps h → Keeps (more (put_text true text h) (Did op true answer ∷ []))
keeps_put h op answer text entries is known keeps = record { fits = stands_did h (Did op true answer) text entries is known; olds = olds_put h op true answer text keeps }

pub keeps_missed_command : (h : Held) (op : DeviceOp) (fault : Fault) → Keeps h → Keeps (more h (Did op false (Err fault) ∷ []))
keeps_missed_command h op fault keeps =
    let event : Event = Did op false (Err fault) in
    let entries : List Entry = entries_or (tables_of_text h.text) in
    record {
      fits = record {
        reads = keeps.fits.reads;
        known = subst (IsKnown (world_in entries)) (sym (world_did h event)) (tables_missed op entries fault (world_of h.past.trace) keeps.fits.known);
      };
      olds = olds_more h (event ∷ []) (quiet_possible h.past.trace (event ∷ []) (did_quiet op false (Err fault))) refl keeps.olds;
    }

-- what is known of the tables that are sent
pub record IsMade (op : DeviceOp) (answer : Answer) (text : List ℕ) (h : Held) : Type 0 where
  pub tables : List Entry
  pub is : tables_of_text text ≡ Ok tables
  pub obeyed : IsObeyed op tables answer h

keeps_done : (h : Held) (op : DeviceOp) (answer : Answer) (text : List ℕ) → IsMade op answer text h → Keeps h → Keeps (more (put_text true text h) (Did op true (Ok answer) ∷ []))
keeps_done h op answer text made keeps =
    let o = made.obeyed in
    let w = world_of h.past.trace in
    let known = tables_done op o.entries w (known_by h o.entries o.before keeps.fits) in
    keeps_put h op (Ok answer) text made.tables made.is
    (subst (λ (a : Answer). IsKnown (world_in made.tables) (world_after w (Did op true (Ok a)))) (sym o.answer_is)
    (subst (λ (l : List Entry). IsKnown (world_in l) (world_after w (Did op true (Ok (answer_of op o.entries))))) (sym o.after_is) known)) keeps

keeps_failed : (h : Held) (op : DeviceOp) (answer : Answer) (text : List ℕ) (fault : Fault) (applied : Bool) → IsMade op answer text h → Keeps h → Keeps (more (put_text applied text h) (Did op applied (Err fault) ∷ []))
keeps_failed h op answer text fault true made keeps =
    let o = made.obeyed in
    let w = world_of h.past.trace in
    let known = tables_failed op o.entries fault w (known_by h o.entries o.before keeps.fits) in
    keeps_put h op (Err fault) text made.tables made.is (subst (λ (l : List Entry). IsKnown (world_in l) (world_after w (Did op true (Err fault)))) (sym o.after_is) known) keeps
keeps_failed h op answer text fault false made keeps = keeps_missed_command h op fault keeps

keeps_by : (h now : Held) (op : DeviceOp) (answer : Answer) (text : List ℕ) (result : Result (Unit {0}) Fault) → IsMade op answer text h → Put op answer text result h now → Keeps h → Keeps now
keeps_by h now op answer text (Ok done) made sent keeps = subst Keeps (sym sent) (keeps_done h op answer text made keeps)
keeps_by h now op answer text (Err Failed) made sent keeps = subst Keeps (sym sent.1) (keeps_failed h op answer text Failed sent.0 made keeps)
keeps_by h now op answer text (Err Stopped) made (inl same) keeps = subst Keeps (sym same) keeps
keeps_by h now op answer text (Err Stopped) made (inr sent) keeps = subst Keeps (sym sent.1) (keeps_failed h op answer text Stopped sent.0 made keeps)

-- the text was made durable first
made_durable : (op : DeviceOp) (answer : Answer) (text : List ℕ) (h : Held) → IsMade op answer text h → IsMade op answer text (record h { older = [] })
made_durable op answer text h made = record {
  tables = made.tables;
  is = made.is;
  obeyed = record { entries = made.obeyed.entries; before = made.obeyed.before; after_is = made.obeyed.after_is; answer_is = made.obeyed.answer_is };
}

keeps_now : (h : Held) → Keeps h → Keeps (record h { older = [] })
keeps_now h keeps = record { fits = record { reads = keeps.fits.reads; known = keeps.fits.known }; olds = λ old has. absurd has }

keeps_sent : (h now : Held) (op : DeviceOp) (answer : Answer) (text : List ℕ) (result : Result (Unit {0}) Fault) → IsMade op answer text h → Sent op answer text false result h now → Keeps h → Keeps now
keeps_sent h now op answer text result made (false, put) keeps = keeps_by h now op answer text result made put keeps
keeps_sent h now op answer text result made (true, put) keeps = keeps_by (record h { older = [] }) now op answer text result (made_durable op answer text h made) put (keeps_now h keeps)

-- THE FOLDER AFTER A COMMAND THAT WAS SENT
pub fits_sent : (op : DeviceOp) (answer : Answer) (text : List ℕ) (stopped : Bool) (result : Result (Unit {0}) Fault) (old new : Option Held) → IsFalse stopped → ForSome old (IsMade op answer text)
    → IsSent op answer text stopped result old new → ForSome old Keeps → ForSome new Keeps
fits_sent op answer text true result old new runs made sent keeps = absurd (cc runs)
fits_sent op answer text false result None new runs made sent keeps = λ now some. absurd (let never : None ≡ Some now = sym sent ∙ some in cc never)
fits_sent op answer text false result (Some h) new runs made sent keeps = λ now some.
    let same : sent.0 ≡ now = same_Some sent.0 now (sym sent.1 ∙ some) in
    subst Keeps same (keeps_sent h sent.0 op answer text result (made h refl) sent.2 (keeps h refl))

-- its text, where it is done
text_put : (op : DeviceOp) (answer : Answer) (text : List ℕ) (h now : Held) → Sent op answer text false (Ok tt) h now → now.text ≡ text
text_put op answer text h now (false, put) = ap (λ (x : Held). x.text) put
text_put op answer text h now (true, put) = ap (λ (x : Held). x.text) put

pub text_sent : (op : DeviceOp) (answer : Answer) (text : List ℕ) (stopped : Bool) (old new : Option Held) (tables : List Entry) → IsFalse stopped → tables_of_text text ≡ Ok tables → IsSent op answer text stopped (Ok tt) old new → ForSome new (AreOf tables)
text_sent op answer text true old new tables runs is sent = absurd (cc runs)
text_sent op answer text false None new tables runs is sent = λ now some. absurd (let never : None ≡ Some now = sym sent ∙ some in cc never)
text_sent op answer text false (Some h) new tables runs is sent = λ now some.
    let same : sent.0 ≡ now = same_Some sent.0 now (sym sent.1 ∙ some) in
    ap (λ (x : Held). tables_of_text x.text) (sym same) ∙ ap tables_of_text (text_put op answer text h sent.0 sent.2) ∙ is

-- ITS STEPS

abbrev pub Steps : DeviceOp → Bool → Result Answer Fault → Option Held → Option Held → Type 0
Steps op stopped result old new = (steps : List Event) × (past_of new ≡ plants.with_steps (past_of old) steps) × CommandSteps op stopped result steps

steps_one : (h now : Held) (new : Option Held) (applied : Bool) (text : List ℕ) (steps : List Event) → new ≡ Some now → now ≡ more (put_text applied text h) steps → past_of new ≡ plants.with_steps (Some h.past) steps
steps_one h now new true text steps is same = ap past_of is ∙ ap (λ (x : Held). past_of (Some x)) same
steps_one h now new false text steps is same = ap past_of is ∙ ap (λ (x : Held). past_of (Some x)) same

past_nil : (past : plants.Told) → Some past ≡ plants.with_steps (Some past) []
past_nil past = ap (λ (l : List Event). let o : Option plants.Told = Some (record past { trace = l }) in o) (sym (append-nil past.trace))

done_put : (op : DeviceOp) (answer : Answer) (text : List ℕ) (h now : Held) (new : Option Held) → FitsCommand op answer → new ≡ Some now → Sent op answer text false (Ok tt) h now → Steps op false (Ok answer) (Some h) new
done_put op answer text h now new fits is (false, put) = (Did op true (Ok answer) ∷ [], steps_one h now new true text (Did op true (Ok answer) ∷ []) is put, (fits, refl))
done_put op answer text h now new fits is (true, put) = (Did op true (Ok answer) ∷ [], steps_one (record h { older = [] }) now new true text (Did op true (Ok answer) ∷ []) is put, (fits, refl))

pub steps_done : (op : DeviceOp) (answer : Answer) (text : List ℕ) (stopped : Bool) (old new : Option Held) → IsFalse stopped → FitsCommand op answer → IsSent op answer text stopped (Ok tt) old new → Steps op stopped (Ok answer) old new
steps_done op answer text true old new runs fits sent = absurd (cc runs)
steps_done op answer text false None new runs fits sent = (Did op true (Ok answer) ∷ [], ap past_of sent, (fits, refl))
steps_done op answer text false (Some h) new runs fits sent = done_put op answer text h sent.0 new fits sent.1 sent.2

failed_put : (op : DeviceOp) (answer : Answer) (text : List ℕ) (fault : Fault) (h now : Held) (new : Option Held) → new ≡ Some now → Put op answer text (Err fault) h now → Steps op false (Err fault) (Some h) new
failed_put op answer text Failed h now new is put =
    let event : Event = Did op put.0 (Err Failed) in
    (event ∷ [], steps_one h now new put.0 text (event ∷ []) is put.1, (put.0, refl))
failed_put op answer text Stopped h now new is (inl same) = ([], ap past_of is ∙ ap (λ (x : Held). past_of (Some x)) same ∙ past_nil h.past, inl refl)
failed_put op answer text Stopped h now new is (inr did) =
    let event : Event = Did op did.0 (Err Stopped) in
    (event ∷ [], steps_one h now new did.0 text (event ∷ []) is did.1, inr (did.0, refl))

failed_sent : (op : DeviceOp) (answer : Answer) (text : List ℕ) (fault : Fault) (h now : Held) (new : Option Held) → new ≡ Some now → Sent op answer text false (Err fault) h now → Steps op false (Err fault) (Some h) new
failed_sent op answer text fault h now new is (false, put) = failed_put op answer text fault h now new is put
failed_sent op answer text fault h now new is (true, put) = let steps = failed_put op answer text fault (record h { older = [] }) now new is put in (steps.0, steps.1, steps.2)

pub steps_failed : (op : DeviceOp) (answer : Answer) (text : List ℕ) (stopped : Bool) (fault : Fault) (old new : Option Held) → IsFalse stopped → IsSent op answer text stopped (Err fault) old new → Steps op stopped (Err fault) old new
steps_failed op answer text true fault old new runs sent = absurd (cc runs)
steps_failed op answer text false Failed None new runs sent = (Did op false (Err Failed) ∷ [], ap past_of sent, (false, refl))
steps_failed op answer text false Stopped None new runs sent = ([], ap past_of sent, inl refl)
steps_failed op answer text false fault (Some h) new runs sent = failed_sent op answer text fault h sent.0 new sent.1 sent.2

-- A COMMAND THAT WAS NOT SENT

pub steps_unsent : (op : DeviceOp) (stopped : Bool) (old new : Option Held) → IsFalse stopped → new ≡ with_steps old (Did op false (Err Failed) ∷ []) → Steps op stopped (Err Failed) old new
steps_unsent op true old new runs is = absurd (cc runs)
steps_unsent op false None new runs is = (Did op false (Err Failed) ∷ [], ap past_of is, (false, refl))
steps_unsent op false (Some h) new runs is = (Did op false (Err Failed) ∷ [], ap past_of is, (false, refl))

pub fits_unsent : (op : DeviceOp) (old new : Option Held) → new ≡ with_steps old (Did op false (Err Failed) ∷ []) → ForSome old Keeps → ForSome new Keeps
fits_unsent op old new is keeps = λ now some.
    let at = some_steps old new (Did op false (Err Failed) ∷ []) is now some in
    subst Keeps (sym at.2) (keeps_missed_command at.0 op Failed (keeps at.0 at.1))

-- the folder as it was is the folder before
pub steps_from : (op : DeviceOp) (result : Result Answer Fault) (stopped was : Bool) (before old new : Option Held) → before ≡ old → stopped ≡ was → Steps op stopped result before new → Steps op was result old new
steps_from op result stopped was before old new same still steps = subst (λ (s : Bool). Steps op s result old new) still (subst (λ (o : Option Held). Steps op stopped result o new) same steps)

pub all_from : (P : Held → Type 0) (before old : Option Held) → before ≡ old → ForSome old P → ForSome before P
all_from P before old same all = λ h some. all h (sym same ∙ some)
