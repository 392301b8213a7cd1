-- The values of words are exactly those of the definitions.
use Rattle.std.proofs.Common.{◌≡◌, ◌↔◌, ℕ, ◌<◌, ◌≤◌, Bool, true, false, List, length, Option, Some, None, refl, sym, subst, ◌∙◌, arith, if◌then◌else◌}
use Rattle.std.specs.Prelude.{nat_le}
use Rattle.std.proofs.lemmas.Bool.{leb-true}
use Rattle.std.proofs.lemmas.Bool.Decides.{nat_tests}
use Rattle.ns_words.specs.Quantities.{rate_units, time_units, loss_units, second_units, IsBandwidth, IsDelay, IsLoss, IsTime}
use Rattle.ns_words.specs.Values.{numeral_of, quantity_of, bandwidth_of, delay_of, loss_of, is_to_six, time_of}
use Rattle.ns_words.proofs.Measures.{AreUnits, quantity_is, quantity_again, fraction_is}

rates : AreUnits rate_units
rates = record { apart = refl; plain = refl }

times : AreUnits time_units
times = record { apart = refl; plain = refl }

losses : AreUnits loss_units
losses = record { apart = refl; plain = refl }

seconds : AreUnits second_units
seconds = record { apart = refl; plain = refl }

pub bandwidth_exact : (word : List ℕ) (kbps : ℕ) → (bandwidth_of word ≡ Some kbps) ↔ IsBandwidth word kbps
unfolding bandwidth_of
bandwidth_exact word kbps = (
  (λ h. let w = quantity_is rate_units 1000 1 1000000000 word kbps h in record { quantity = w.quantity; least = w.low; most = w.high }),
  (λ q. quantity_again rate_units 1000 1 1000000000 word kbps rates (omega arith) (record { quantity = q.quantity; low = q.least; high = q.most })),
)

pub delay_exact : (word : List ℕ) (micros : ℕ) → (delay_of word ≡ Some micros) ↔ IsDelay word micros
unfolding delay_of
delay_exact word micros = (
  (λ h. let w = quantity_is time_units 1 0 10000000 word micros h in record { quantity = w.quantity; most = w.high }),
  (λ q. quantity_again time_units 1 0 10000000 word micros times (omega arith) (record { quantity = q.quantity; low = omega arith; high = q.most })),
)

pub loss_exact : (word : List ℕ) (ppm : ℕ) → (loss_of word ≡ Some ppm) ↔ IsLoss word ppm
unfolding loss_of
loss_exact word ppm = (
  (λ h. let w = quantity_is loss_units 1 0 1000000 word ppm h in record { quantity = w.quantity; most = w.high }),
  (λ q. quantity_again loss_units 1 0 1000000 word ppm losses (omega arith) (record { quantity = q.quantity; low = omega arith; high = q.most })),
)

-- a value that stands under a test
tested : {X : Type 0} (b : Bool) (o : Option X) (x : X) → (if b then o else None) ≡ Some x → (b ≡ true) × (o ≡ Some x)
tested true o x h = (refl, h)
tested false o x h = absurd (cc h)

passes : {X : Type 0} (b : Bool) (o : Option X) → b ≡ true → (if b then o else None) ≡ o
passes b o e = rw e refl

few : (k : ℕ) → k ≤ 6 → nat_le k 6 ≡ true
few k h = grind (arith, nat_tests)

many : (k : ℕ) → 6 < k → nat_le k 6 ≡ false
many k h = grind (arith, nat_tests)

-- a word with so many digits after the point has no time, and any other has that of its quantity
pub no_time : (word fraction : List ℕ) → fraction ≡ (numeral_of word).fraction → 6 < length fraction → time_of word ≡ None
unfolding time_of
no_time word fraction is over = let no : is_to_six word ≡ false = many _ (subst (λ (f : List ℕ). 6 < length f) is over) in rw no refl

pub some_time : (word fraction : List ℕ) → fraction ≡ (numeral_of word).fraction → length fraction ≤ 6 → time_of word ≡ quantity_of second_units 1 0 1000000000000 word
unfolding time_of
some_time word fraction is fits = passes (is_to_six word) _ (few _ (subst (λ (f : List ℕ). length f ≤ 6) is fits))

pub time_exact : (word : List ℕ) (micros : ℕ) → (time_of word ≡ Some micros) ↔ IsTime word micros
unfolding time_of
time_exact word micros = (
  (λ h.
      let t = tested (is_to_six word) (quantity_of second_units 1 0 1000000000000 word) micros h in
      let w = quantity_is second_units 1 0 1000000000000 word micros t.1 in
      record { quantity = w.quantity; places = subst (λ (f : List ℕ). length f ≤ 6) (fraction_is second_units 1 word micros seconds w.quantity) (leb-true _ _ t.0); most = w.high }),
  (λ q.
      let places = few _ (subst (λ (f : List ℕ). length f ≤ 6) (sym (fraction_is second_units 1 word micros seconds q.quantity)) q.places) in
      passes (is_to_six word) (quantity_of second_units 1 0 1000000000000 word) places
      ∙ quantity_again second_units 1 0 1000000000000 word micros seconds (omega arith) (record { quantity = q.quantity; low = omega arith; high = q.most })),
)
