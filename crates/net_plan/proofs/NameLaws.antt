-- Names with a mark after them.
use Rattle.std.specs.Prelude.{nat_le, decimal}
use Rattle.std.proofs.Common.{◌≡◌, ℕ, ◌+◌, ◌^◌, ◌<◌, ◌≤◌, true, ◌&&◌, List, ◌++◌, length, ◌∙◌, arith, length-append}
use Rattle.std.specs.Char.{is_ascii_digit}
use Rattle.std.specs.List.{list_all}
use Rattle.std.proofs.lemmas.Bool.{and_from, and_parts, leb-true, le-leb}
use Rattle.std.proofs.lemmas.Fmt.{digits_decimal, length-decimal-le}
use Rattle.std.proofs.lemmas.List.Folds.{list_all-append}
use Rattle.lab_base.specs.Names.{is_name, is_name_byte}
use Rattle.lab_base.proofs.Digits.{own}
use Rattle.lab_base.proofs.Members.{all_weaker}
use Rattle.lab_base.proofs.Names.{digit_named}

pub decimal_bytes : (n : ℕ) → n < 2 ^ 64 → list_all is_name_byte (decimal n) ≡ true
decimal_bytes n fits = all_weaker is_ascii_digit is_name_byte digit_named (decimal n) (digits_decimal own n fits)

pub name_with : (name mark : List ℕ) → is_name name ≡ true → list_all is_name_byte mark ≡ true → length name + length mark ≤ 32 → is_name (name ++ mark) ≡ true
name_with name mark is bytes few =
    let p1 = and_parts (nat_le 1 (length name)) (nat_le (length name) 32 && list_all is_name_byte name) is in
    let p2 = and_parts (nat_le (length name) 32) (list_all is_name_byte name) p1.1 in
    let long = length-append name mark in
    let some : 1 ≤ length name = leb-true 1 (length name) p1.0 in
    and_from _ _ (le-leb 1 (length (name ++ mark)) (omega arith))
    (and_from _ _ (le-leb (length (name ++ mark)) 32 (omega arith))
    (list_all-append is_name_byte name mark ∙ and_from _ _ p2.1 bytes))

pub numbered_mark : (mark : List ℕ) (n : ℕ) → list_all is_name_byte mark ≡ true → n < 1000 → (list_all is_name_byte (mark ++ decimal n) ≡ true) × (length (mark ++ decimal n) ≤ length mark + 3)
numbered_mark mark n bytes small =
    let fits : n < 2 ^ 64 = omega arith in
    let digits : length (decimal n) ≤ 3 = length-decimal-le 3 n (omega arith) (omega arith) fits in
    (list_all-append is_name_byte mark (decimal n) ∙ and_from _ _ bytes (decimal_bytes n fits), omega (arith, length-append mark (decimal n)))
