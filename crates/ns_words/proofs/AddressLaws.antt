-- A word has an address exactly where it is four numbers joined by dots.
use Rattle.std.proofs.Common.{◌≡◌, ◌↔◌, ℕ, ◌%◌, ◌≤◌, List, Some, Result, Ok, Err, ap, arith}
use Rattle.std.specs.Result.{result_ok}
use Rattle.lab_base.specs.declared.fault.Kind.{Kind}
use Rattle.line_text.specs.Addresses.{IsAddress}
use Rattle.line_text.specs.Addresses as addresses
use Rattle.line_text.proofs.AddressLaws.{address_is, address_again}
use Rattle.ns_words.specs.Addresses.{address_of}

found : (r : Result ℕ Kind) (address : ℕ) → result_ok r ≡ Some address → r ≡ Ok address
found (Ok n) address h = let same : n ≡ address = cc in ap (λ (k : ℕ). Ok k) same
found (Err kind) address h = absurd cc

pub address_exact : (word : List ℕ) (address : ℕ) → (address_of word ≡ Some address) ↔ IsAddress word address
unfolding address_of
address_exact word address =
    ((λ h. address_is word address (found (addresses.address_of word) address h)), (λ w. ap result_ok (address_again word address w)))

-- its last number
pub last_number : (word : List ℕ) (address : ℕ) → IsAddress word address → (1 ≤ address % 256) × (address % 256 ≤ 254)
last_number word address w =
    let last : address % 256 ≡ w.d = omega (arith, w.value, w.most) in
    (omega (arith, last, w.least), omega (arith, last, w.most))
