-- An interpreter as contracts see it.
use Rattle.std.specs.Prelude.{ℕ, List, Option}
use Rattle.lab_base.specs.declared.fault.TextRefused.{TextRefused}

-- its host, its variables in the order in which they were first set, how many commands and conditions are left,
-- and why a text was refused
pub record Seen (H : Type 0) : Type 0 where
  pub host : H
  pub variables : List (List ℕ × List ℕ)
  pub left : ℕ
  pub failed : Option TextRefused
