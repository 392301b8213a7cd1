-- THE COMMAND LINE: what the words after the program's name say.
use Rattle.std.specs.Prelude.{ℕ, true, false, List, [], ◌∷◌, Option, Some, None, option_map, option_and_then, codes, map, String, string_bytes, if◌then◌else◌}
use Rattle.std.specs.Str.{bytes_eq}
use Rattle.std.specs.Str.Parse.{digits_value, without_leading_plus}
use Rattle.clap.specs.Walk.{Rule, Text, first_of, is_empty, one_of}
use Rattle.clap.specs.Simple.{App, matches_of, new_app, new_rule, on_top, with_rule}
use Rattle.clap.specs.Faults.{fault_of}
use Rattle.clap.specs.ValueTests.{accepts}
use Rattle.clap.specs.declared.builder.value_parser.ValueParser.TheVariants as vp
use Rattle.cost_rule.specs.declared.rule.RuleNumber.{RuleNumber}
use Rattle.cost_rule.specs.declared.rule.RuleNumber.TheVariants.{Trunk, Pack}

-- the command has no program's name among its words, and no option for help
abbrev pub bare : App
bare = on_top (λ s. record s { no_binary_name = true; disable_help_flag = true }) (new_app (codes "labctl"))

-- an option `--NAME VALUE`, at most once, with the value that it has where it isn't given
abbrev pub option_rule : List ℕ → List Text → Rule
option_rule name defaults = record (new_rule name) { long = Some name; defaults = defaults }

-- `--gen N`, of a number that 64 bits hold
abbrev pub number_rule : Rule
number_rule = record (option_rule (codes "gen") []) { parser = Some (vp.Unsigned 0 18446744073709551615) }

-- THE COMMAND `labctl [--cost COST] [--dir DIR] [--gen N]`
abbrev pub command_line : App
command_line = with_rule (with_rule (with_rule bare (option_rule (codes "cost") (codes "trunk" ∷ []))) (option_rule (codes "dir") [])) number_rule

-- where a lab is kept: in a plant in which nothing has happened, or in the files of a folder
pub data Kept : Type 0 where
  Blank : Kept
  Folder : (dir : List ℕ) → Kept

-- what words choose: where the lab is kept, the cost rule, and the number of the script that is obeyed in place of the source's
pub record Choices : Type 0 where
  pub place : Kept
  pub rule : RuleNumber
  pub generated : Option ℕ

-- what is chosen where there is no word
abbrev pub Usual : Choices
Usual = record { place = Blank; rule = Trunk; generated = None }

abbrev pub kept_in : Option Text → Kept
kept_in None = Blank
kept_in (Some dir) = Folder dir

abbrev pub rule_named : Text → Option RuleNumber
rule_named word = if bytes_eq word (codes "trunk") then Some Trunk else if bytes_eq word (codes "pack") then Some Pack else None

abbrev pub number_named : Text → Option ℕ
number_named word = if accepts false (vp.Unsigned 0 18446744073709551615) word then Some (digits_value 10 (without_leading_plus word)) else None

-- there need be no number
abbrev pub number_if : Option Text → Option (Option ℕ)
number_if None = Some None
number_if (Some word) = option_map (λ n. Some n) (number_named word)

-- what the values of the options choose
abbrev pub chosen : Option Text → Option Text → Option Text → Option Choices
chosen None dir number = None
chosen (Some cost) dir number =
    option_and_then (λ rule. option_map (λ generated. record { place = kept_in dir; rule = rule; generated = generated }) (number_if number)) (rule_named cost)

-- WORDS CHOOSE something exactly where the command takes them, and the value of each option is one of its kind
unfoldable pub choices_of : {Z : Type 0} → List (String Z) → Option Choices
choices_of words =
    let texts = map string_bytes words in
    let found = matches_of command_line texts in
    if is_empty (fault_of command_line texts) then chosen (first_of (codes "cost") found) (first_of (codes "dir") found) (one_of (codes "gen") found) else None
