-- The bytes of a name.
use Rattle.std.proofs.Common.{◌≡◌, ℕ, ◌≤◌, true, List, length, arith}
use Rattle.std.specs.Char.{is_ascii_digit}
use Rattle.std.proofs.lemmas.Bool.{and_parts, leb-true}
use Rattle.std.proofs.lemmas.Bool.Decides.{nat_tests}
use Rattle.lab_base.specs.Names.{is_name, is_name_byte}

pub name_short : (name : List ℕ) → is_name name ≡ true → length name ≤ 32
name_short name is = leb-true (length name) 32 (and_parts _ _ (and_parts _ _ is).1).0

pub digit_named : (b : ℕ) → is_ascii_digit b ≡ true → is_name_byte b ≡ true
digit_named b h = grind (arith, nat_tests)
