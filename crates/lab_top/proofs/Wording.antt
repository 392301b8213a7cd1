-- Runs by what words choose.
use Rattle.std.proofs.Common.{◌≡◌, inl, inr, ℕ, Bool, false, List, [], ◌∷◌, Option, None, Some, refl, sym, subst, ◌∙◌, arith}
use Rattle.std.specs.Prelude.{IfSome}
use Rattle.lab_base.specs.Counts.{Rose}
use Rattle.lab_io.proofs.Known.{append_known-nil}
use Rattle.plant.specs.Told.{Told}
use Rattle.records_model.specs.Works.{IsSound}
use Rattle.lab_state.specs.Texts.{the_texts}
use Rattle.lab_io.specs.Lines.{script_lines}
use Rattle.script_text.specs.declared.command.Command.{Command}
use Rattle.script_text.specs.Commands.{AreCommands, AtEnd, BadLine, Ending, End, Bad, Found, Got, IsScript, Lines}
use Rattle.script_text.proofs.Taken.{next_within}
use Rattle.cost_rule.specs.declared.rule.RuleNumber.{RuleNumber}
use Rattle.lab_core.specs.Sessions.{Terms, terms_of}
use Rattle.lab_gen.specs.Script.{generated}
use Rattle.lab_gen.specs.Summary.{summary}
use Rattle.lab_top.specs.declared.status.Status.{Status}
use Rattle.lab_top.specs.declared.status.Status.TheVariants as statuses
use Rattle.lab_top.specs.Answering.{held_first}
use Rattle.lab_top.specs.Pieces.{Begun, commands_of}
use Rattle.lab_top.specs.Ran.{Answered, AreAnswered, AreFirst, BegunBy, BegunCommands, EndsSo, Finishes, GeneratedCommands, GoesOn, Numbered, Outside, Ran, WroteBy, WroteSummary, number_of, rule_of}
use Rattle.lab_top.specs.ReplyTakers.{replies_of}
use Rattle.lab_words.specs.Words.{Choices, Usual}
use Rattle.lab_top.proofs.Stepping.{all_some}
use Rattle.records_model.specs.Labs.{at_first}

-- NOTHING WAS BEGUN
still_sound : (told : Option Told) → IfSome told (λ t. IsSound the_texts t.trace → IfSome told (λ u. IsSound the_texts u.trace))
still_sound None = tt
still_sound (Some t) = λ sound. sound

none_begun : (number : Option ℕ) (left : Option (List ℕ)) → BegunBy number left left [] statuses.Memory
none_begun None left = λ bytes is. (tt, (0, ([], [], bytes, refl, is, omega arith, omega arith), next_within 0 0 (script_lines bytes) (omega arith)))
none_begun (Some seed) left = (refl, tt)

none_written : (number : Option ℕ) (written : Option (List ℕ)) → WroteBy number written written [] statuses.Memory
none_written None written = sym (append_known-nil written)
none_written (Some seed) written = refl

pub unbegun : (terms : Terms) (choices : Option Choices) (out : Outside) → Ran terms choices out out statuses.Memory []
unbegun terms choices out = record {
  refused = λ none. inr refl;
  usage = λ is. absurd (cc is);
  none = λ none. refl;
  told = refl;
  counts = refl;
  sessions = tt;
  goes_on = λ runs. tt;
  labs = (held_first, held_first, refl);
  pieces = all_some out.plant.told (λ t. tt);
  ends = all_some out.plant.told (λ t runs. inl refl);
  sound = still_sound out.plant.told;
  answered = inl refl;
  begun = none_begun (number_of choices) out.left;
  wrote = none_written (number_of choices) out.written;
}

pub refused_so : (terms : Terms) (choices : Option Choices) (out : Outside) → choices ≡ None → Ran terms choices out out statuses.Usage []
refused_so terms choices out is = record {
  refused = λ none. inl refl;
  usage = λ usage. is;
  none = λ none. refl;
  told = refl;
  counts = refl;
  sessions = tt;
  goes_on = λ runs. runs;
  labs = (held_first, held_first, refl);
  pieces = all_some out.plant.told (λ t. tt);
  ends = all_some out.plant.told (λ t. tt);
  sound = still_sound out.plant.told;
  answered = refl;
  begun = subst (λ c. BegunBy (number_of c) out.left out.left [] statuses.Usage) (sym is) (λ bytes left. (refl, left));
  wrote = subst (λ c. WroteBy (number_of c) out.written out.written [] statuses.Usage) (sym is) (sym (append_known-nil out.written));
}

-- A RUN BY THE NUMBER ALONE is one by words that give that number
pub as_chosen : (terms : Terms) (choices : Choices) (old new : Outside) (status : Status) (made : List Begun) → Ran terms (Some (Numbered choices.generated)) old new status made → Ran terms (Some choices) old new status made
as_chosen terms choices old new status made r = record {
  refused = λ none. absurd (cc none);
  usage = λ is. let none = r.usage is in absurd (cc none);
  none = λ none. absurd (cc none);
  told = r.told;
  counts = r.counts;
  sessions = r.sessions;
  goes_on = r.goes_on;
  labs = r.labs;
  pieces = r.pieces;
  ends = r.ends;
  sound = r.sound;
  answered = r.answered;
  begun = r.begun;
  wrote = r.wrote;
}

-- A GENERATED RUN, by the run of its script whose replies are counted

-- a script has one ending
got_same : (c d : Command) (m n : ℕ) (a b : Lines) → ◌≡◌ {A = Found} (Got c m a) (Got d n b) → (m ≡ n) × (a ≡ b)
got_same c d m n a b is = (cc is, cc is)

no_other_end : (number line : ℕ) (lines : Lines) (commands others : List Command) → AreCommands number lines commands AtEnd → AreCommands number lines others (BadLine line) → ⊥
no_other_end number line lines [] [] first second = let e : ◌≡◌ {A = Found} End (Bad line) = sym first ∙ second in cc e
no_other_end number line lines [] (d ∷ others) first (after, rest, next, are) = let e : ◌≡◌ {A = Found} End (Got d after rest) = sym first ∙ next in cc e
no_other_end number line lines (c ∷ commands) [] (after, rest, next, are) second = let e : ◌≡◌ {A = Found} (Got c after rest) (Bad line) = sym next ∙ second in cc e
no_other_end number line lines (c ∷ commands) (d ∷ others) (m, a, first, ones) (n, b, second, twos) =
    let same = got_same c d m n a b (sym first ∙ second) in
    no_other_end n line b commands others (subst (λ (l : Lines). AreCommands n l commands AtEnd) same.1 (subst (λ (k : ℕ). AreCommands k a commands AtEnd) same.0 ones)) twos

-- all commands are the first ones
first_of : (number : ℕ) (lines : Lines) (commands : List Command) (end : Ending) → AreCommands number lines commands end → AreFirst number lines commands
first_of number lines [] end are = tt
first_of number lines (c ∷ commands) end (after, rest, next, are) = (after, rest, next, first_of after rest commands end are)

-- no count rose that stands at 0
pub never_rose : Rose 0 0 → ⊥
never_rose rose = omega arith

-- a generated run reads nothing, so no read of it fails
pub never_read : (terms : Terms) (seed : ℕ) (old new : Outside) (status : Status) (made : List Begun) → Ran terms (Some (Numbered (Some seed))) old new status made → status ≡ statuses.ReadFault → ⊥
never_read terms seed old new status made r is = subst (λ (s : Status). GeneratedCommands (generated seed) (commands_of made) s) is r.begun.1

-- the script that was obeyed
module _ (terms : Terms) (seed : ℕ) (a b : Outside) (was : Status) (made : List Begun) (left_is : a.left ≡ Some (generated seed)) (r : Ran terms (Some Usual) a b was made) where
  rerun : (left written now : Option (List ℕ)) (status : Status) → (status ≡ statuses.Usage → ⊥) → (a.plant.stopped ≡ false → GoesOn status b.plant.stopped) → IfSome a.plant.told (λ t. EndsSo terms t.trace made status b.plant.stopped)
      → Answered status made → GeneratedCommands (generated seed) (commands_of made) status → WroteSummary written now (summary seed (replies_of made)) status
      → Ran terms (Some (Numbered (Some seed))) (record { left = left; plant = a.plant; written = written }) (record { left = left; plant = b.plant; written = now }) status made
  rerun left written now status not goes_on ends answered begun wrote = record {
    refused = λ none. absurd (cc none);
    usage = λ is. absurd (not is);
    none = λ none. absurd (cc none);
    told = r.told;
    counts = r.counts;
    sessions = r.sessions;
    goes_on = goes_on;
    labs = r.labs;
    pieces = r.pieces;
    ends = ends;
    sound = r.sound;
    answered = answered;
    begun = (refl, begun);
    wrote = wrote;
  }

  begun_here : BegunCommands (generated seed) b.left (commands_of made) was
  begun_here = r.begun (generated seed) left_is

  not_usage : was ≡ statuses.Usage → ⊥
  not_usage is = let none : Some Usual ≡ None = r.usage is in cc none

  -- a run that broke off
  pub broken_off : (commands : List Command) → IsScript (generated seed) commands AtEnd → (left written : Option (List ℕ)) → (was ≡ statuses.Done → ⊥) → (was ≡ statuses.ReadFault → ⊥) → (was ≡ statuses.WriteFault → ⊥)
      → Ran terms (Some (Numbered (Some seed))) (record { left = left; plant = a.plant; written = written }) (record { left = left; plant = b.plant; written = written }) was made
  broken_off commands in_grammar left written not_done not_read not_write =
      rerun left written written was not_usage r.goes_on r.ends r.answered (begun_by was begun_here not_done not_read not_write not_usage) (written_by was not_done not_write)
    where
      begun_by : (status : Status) → BegunCommands (generated seed) b.left (commands_of made) status → (status ≡ statuses.Done → ⊥) → (status ≡ statuses.ReadFault → ⊥) → (status ≡ statuses.WriteFault → ⊥) → (status ≡ statuses.Usage → ⊥)
          → GeneratedCommands (generated seed) (commands_of made) status
      begun_by statuses.Done begun done read write usage = absurd (done refl)
      begun_by statuses.ReadFault begun done read write usage = absurd (read refl)
      begun_by statuses.WriteFault begun done read write usage = absurd (write refl)
      begun_by statuses.Usage begun done read write usage = absurd (usage refl)
      begun_by (statuses.BadScript line) begun done read write usage = absurd (no_other_end 0 line _ commands (commands_of made) in_grammar begun.0)
      begun_by statuses.Memory begun done read write usage = begun.0
      begun_by (statuses.JournalBad side at) begun done read write usage = begun.0

      written_by : (status : Status) → (status ≡ statuses.Done → ⊥) → (status ≡ statuses.WriteFault → ⊥) → WroteSummary written written (summary seed (replies_of made)) status
      written_by statuses.Done done write = absurd (done refl)
      written_by statuses.WriteFault done write = absurd (write refl)
      written_by statuses.ReadFault done write = refl
      written_by statuses.Usage done write = refl
      written_by (statuses.BadScript line) done write = refl
      written_by statuses.Memory done write = refl
      written_by (statuses.JournalBad side at) done write = refl

  -- a run to the end
  module _ (is : was ≡ statuses.Done) where
    all_begun : BegunCommands (generated seed) b.left (commands_of made) statuses.Done
    all_begun = subst (λ (s : Status). BegunCommands (generated seed) b.left (commands_of made) s) is begun_here

    all_answered : AreAnswered made
    all_answered = subst (λ (s : Status). Answered s made) is r.answered

    stays : a.plant.stopped ≡ false → b.plant.stopped ≡ false
    stays = subst (λ (s : Status). a.plant.stopped ≡ false → GoesOn s b.plant.stopped) is r.goes_on

    pub finished : (left written now : Option (List ℕ)) (status : Status) → Finishes status → WroteSummary written now (summary seed (replies_of made)) status
        → Ran terms (Some (Numbered (Some seed))) (record { left = left; plant = a.plant; written = written }) (record { left = left; plant = b.plant; written = now }) status made
    finished left written now statuses.Done finishes wrote = rerun left written now statuses.Done (λ e. cc e) stays (all_some a.plant.told (λ t. tt)) all_answered all_begun.0 wrote
    finished left written now statuses.WriteFault finishes wrote = rerun left written now statuses.WriteFault (λ e. cc e) stays (all_some a.plant.told (λ t. tt)) all_answered all_begun.0 wrote
    finished left written now statuses.Memory finishes wrote =
        rerun left written now statuses.Memory (λ e. cc e) (λ runs. tt) (all_some a.plant.told (λ t runs. inl all_answered)) (inl all_answered) (first_of 0 _ (commands_of made) AtEnd all_begun.0) wrote
    finished left written now statuses.ReadFault finishes wrote = absurd finishes
    finished left written now statuses.Usage finishes wrote = absurd finishes
    finished left written now (statuses.BadScript line) finishes wrote = absurd finishes
    finished left written now (statuses.JournalBad side at) finishes wrote = absurd finishes

-- the rule of the session is that of its number
pub by_rule : (takes : Bool) (a b : RuleNumber) (first number : Option ℕ) (old new : Outside) (status : Status) (made : List Begun) → a ≡ b → first ≡ number → Ran (terms_of takes a) (Some (Numbered first)) old new status made → Ran (terms_of takes b) (Some (Numbered number)) old new status made
by_rule takes a b first number old new status made rules numbers r =
    subst (λ (n : Option ℕ). Ran (terms_of takes b) (Some (Numbered n)) old new status made) numbers (subst (λ (k : RuleNumber). Ran (terms_of takes k) (Some (Numbered first)) old new status made) rules r)

-- and a run by what words choose is one by the words
pub by_words : (takes : Bool) (chosen : Choices) (choices : Option Choices) (old new : Outside) (status : Status) (made : List Begun) → choices ≡ Some chosen → Ran (terms_of takes chosen.rule) (Some (Numbered chosen.generated)) old new status made
    → Ran (terms_of takes (rule_of choices)) choices old new status made
by_words takes chosen choices old new status made is r = subst (λ (o : Option Choices). Ran (terms_of takes (rule_of o)) o old new status made) (sym is) (as_chosen (terms_of takes chosen.rule) chosen old new status made r)
