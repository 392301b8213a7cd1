-- The bytes of a number, the least first.
use Rattle.std.proofs.Common.{◌≡◌, ℕ, zero, suc, ◌/◌, ◌%◌, ◌^◌, List, ◌∷◌, refl, sym, ap, ◌∙◌}
use Rattle.std.proofs.Math.Nat.{pow-suc, div-div-eq-div-mul}
use Rattle.std.specs.Int.{bytes_low_first}
use Rattle.journal_rec.specs.Payloads.{le}

next : (i n : ℕ) → n / 256 ^ suc (suc i) ≡ n / 256 ^ suc i / 256
next i n = ap (λ m. n / m) (pow-suc 256 (suc i)) ∙ sym (div-div-eq-div-mul n (256 ^ suc i) 256)

from_one : (i k n : ℕ) → bytes_low_first (suc i) k n ≡ le k (n / 256 ^ suc i)
from_one i zero n = refl
from_one i (suc k) n = ap (λ (l : List ℕ). n / 256 ^ suc i % 256 ∷ l) (from_one (suc i) k n ∙ ap (λ m. le k m) (next i n))

pub le_bytes : (k n : ℕ) → bytes_low_first 0 (suc k) n ≡ le (suc k) n
le_bytes k n = ap (λ (l : List ℕ). n % 256 ∷ l) (from_one 0 k n)
