use Rattle.complete.proofs.ListSends.{list_sends}
use Rattle.complete.proofs.RunSends.{change_most, event_sends, opening_sends, own_sends, run_sends, swap_in_most, swap_out_most}
use Rattle.complete.proofs.TurnSends.{turn_goes_on}
use Rattle.complete.proofs.laws.few_commands.Goals as goal

pub returns-clause-opening : goal.returns-clause-opening
returns-clause-opening c = λ terms choices old new status before after b t ran told sound. opening_sends terms choices old new status before after b t ran told sound

pub returns-clause-own : goal.returns-clause-own
returns-clause-own c = λ terms choices old new status before after b t ran told sound answered plain. own_sends terms choices old new status before after b t ran told sound answered plain

pub returns-clause-runs : goal.returns-clause-runs
returns-clause-runs c = run_sends

pub returns-clause-events : goal.returns-clause-events
returns-clause-events c = event_sends

pub returns-clause-swap_in : goal.returns-clause-swap_in
returns-clause-swap_in c = λ lab name m. swap_in_most lab name m m

pub returns-clause-swap_out : goal.returns-clause-swap_out
returns-clause-swap_out c = λ lab name m. swap_out_most lab name m m

pub returns-clause-change : goal.returns-clause-change
returns-clause-change c = λ lab name m n. change_most lab name m n

pub returns-clause-lists : goal.returns-clause-lists
returns-clause-lists c = λ terms choices old new status before after b t ran told sound answered listed. list_sends terms choices old new status before after b t ran told sound answered listed

pub returns-clause-turn : goal.returns-clause-turn
returns-clause-turn c = λ terms choices old new status before after b t exp to ran told sound asks replied open_now. turn_goes_on terms choices old new status before after b t ran told sound exp to asks replied open_now
