use Rattle.std.proofs.Common.{rules, [], ◌∷◌, ap, ap₂, refl, subst, codes, true, map, string_bytes, List, ◌≡◌, ◌∙◌}
use Rattle.std.proofs.lemmas.Result.{IfOk-weaker}
use Rattle.clap.specs.Walk.{Text, rule_of}
use Rattle.clap.specs.Simple.{App, app_of, app_of_fields, is_simple, matches_of, on_top, with_rule}
use Rattle.clap.specs.Faults.{fault_of, is_simple_and_free}
use Rattle.clap.specs.Kinds.{FailsBy}
use Rattle.clap.specs.declared.builder.command.Command.{Command}
use Rattle.clap.specs.declared.builder.command.Command.TheOpen.{Command-F}
use Rattle.clap.proofs.OnLiterals.{clap_on_literals}
use Rattle.lab_words.specs.Words.{bare, command_line, number_rule, option_rule}
use Rattle.lab_words.proofs.words.matches.Goals as goal

is_simple_here : is_simple command_line ≡ true
unfolding clap_on_literals
is_simple_here = refl

is_free_here : is_simple_and_free command_line ≡ true
unfolding clap_on_literals
is_free_here = refl

-- the command that is built
command_is : (c : goal.After-try_get_matches_from) → app_of c.in_ok-command.command ≡ command_line
command_is c =
    let cost_is : rule_of c.default_value.result ≡ option_rule (codes "cost") (codes "trunk" ∷ []) = search rules in
    let dir_is : rule_of c.long-2.result ≡ option_rule (codes "dir") [] = search rules in
    let number_is : rule_of c.value_parser-2.result ≡ number_rule = search rules in
    let bare_is : app_of c.disable_help_flag.result ≡ bare =
    ap app_of_fields c.disable_help_flag.ensures
    ∙ (ap (λ (x : Command-F Command). app_of_fields (record x { disable_help_flag = true })) c.no_binary_name.ensures
    ∙ ap (on_top (λ s. record s { no_binary_name = true; disable_help_flag = true })) c.new.ensures.app) in
    c.in_ok-command.ensures.shape (search rules)
    ∙ ap₂ with_rule (c.in_ok-arg-2.ensures.shape (search rules)
    ∙ ap₂ with_rule (c.in_ok-arg.ensures.shape (search rules) ∙ ap₂ with_rule bare_is cost_is) dir_is) number_is

pub returns-clause-rows : goal.returns-clause-rows
returns-clause-rows c =
    let parse = c.try_get_matches_from in
    let words : List Text = map string_bytes c.args.words.now in
    IfOk-weaker parse.result _ _
    (λ m h. (h (ap is_simple (command_is c) ∙ is_simple_here)).0 ∙ ap (λ (a : App). matches_of a words) (command_is c)) parse.ensures.matches

pub returns-clause-faults : goal.returns-clause-faults
returns-clause-faults c =
    let parse = c.try_get_matches_from in
    let words : List Text = map string_bytes c.args.words.now in
    subst (λ (a : App). FailsBy (fault_of a words) parse.result) (command_is c)
    (parse.ensures.kinds (ap is_simple_and_free (command_is c) ∙ is_free_here))
