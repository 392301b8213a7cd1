use Rattle.std.proofs.Common.{refl}
use Rattle.script_text.specs.declared.reply.Reply.TheVariants.{Played, Served}
use Rattle.swap_turns.proofs.Blank.{nothing_sound}
use Rattle.lab_state.specs.Texts.{the_texts}
use Rattle.lab_core.proofs.OuterSteps.{tells_stop}
use Rattle.lab_top.proofs.Moving.{moves_first}
use Rattle.lab_top.proofs.RunLaws.{are_kept, steps_told, swapped_in, undrilled_told}
use Rattle.lab_top.proofs.Answers.{inside_told, lines_told, played_told, stays_told, wired_told}
use Rattle.lab_top.proofs.EachImage.{lines_left, played_left}
use Rattle.lab_top.proofs.Scripts.{script_once}
use Rattle.lab_top.proofs.laws.runs.Goals as goal

pub returns-clause-solutions : goal.returns-clause-solutions
returns-clause-solutions c = λ terms choices old new status before after b t only_begin exp text lines reply r told sound asks replied.
    swapped_in terms choices old new status before after b t r told sound (moves_first terms choices old new status before after b t r told sound) only_begin exp text lines reply asks replied

pub returns-clause-kept : goal.returns-clause-kept
returns-clause-kept c = λ terms choices old new status before middle after t e r told sound rests have others. are_kept terms choices old new status before middle after t e r told sound rests have others

pub returns-clause-answered : goal.returns-clause-answered
returns-clause-answered c = λ terms choices old new status before middle after b t reply r told sound replied. stays_told terms choices old new status before middle after b t r told sound reply replied

pub returns-clause-lines : goal.returns-clause-lines
returns-clause-lines c = λ terms choices old new status before middle after b t moment lines text served r told sound asks replied mild.
    lines_told terms choices old new status before middle after b t r told sound (Served served) replied moment lines text served asks refl mild

pub returns-clause-played : goal.returns-clause-played
returns-clause-played c = λ terms choices old new status before middle after b t exp name text last from until lines count closing blaming r told sound asks replied mild.
    played_told terms choices old new status before middle after b t r told sound (Played name count last closing blaming) replied exp name text last from until lines count closing blaming asks refl mild

pub returns-clause-wired : goal.returns-clause-wired
returns-clause-wired c = λ terms choices old new status before middle after b t exp name text last from until lines count closing blaming r told sound asks replied mild.
    wired_told terms choices old new status before middle after b t r told sound (Played name count last closing blaming) replied exp name text last from until lines count closing blaming asks refl mild

pub returns-clause-lines_left : goal.returns-clause-lines_left
returns-clause-lines_left c = λ terms choices old new status before middle after b t moment lines text served r told sound asks replied.
    lines_left terms choices old new status before middle after b t r told sound (Served served) replied moment lines text served asks refl

pub returns-clause-played_left : goal.returns-clause-played_left
returns-clause-played_left c = λ terms choices old new status before middle after b t exp name text last from until lines count closing blaming r told sound asks replied.
    played_left terms choices old new status before middle after b t r told sound (Played name count last closing blaming) replied exp name text last from until lines count closing blaming asks refl

pub returns-clause-inside : goal.returns-clause-inside
returns-clause-inside c = λ terms choices old new status before after b t exp text lines r told sound asks replied. inside_told terms choices old new status before after b t r told sound exp text lines asks replied

pub returns-clause-stops : goal.returns-clause-stops
returns-clause-stops c = λ terms choices old new status before after b t reply r told replied. tells_stop b.piece.command b.piece.opening b.piece.own reply (steps_told terms choices old new status before after b t r told reply replied)

pub returns-clause-undrilled : goal.returns-clause-undrilled
returns-clause-undrilled c = λ terms choices old new status before after b t reply r told no_drill replied. undrilled_told terms choices old new status before after b t r told reply replied no_drill

pub returns-clause-blank : goal.returns-clause-blank
returns-clause-blank c = nothing_sound the_texts

pub returns-clause-script : goal.returns-clause-script
returns-clause-script c = λ bytes a b x y p q. script_once bytes a b x y p q
