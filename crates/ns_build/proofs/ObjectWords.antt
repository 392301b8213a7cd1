-- The words of objects.
use Rattle.std.proofs.Common.{◌≡◌, ℕ, ◌<◌, ◌≤◌, Bool, true, false, length, Some, refl, ap, ◌∙◌, arith}
use Rattle.std.specs.Prelude.{◌&&◌, decimal}
use Rattle.std.proofs.lemmas.Bool.{lt-ltb}
use Rattle.lab_base.specs.Numbers.{number_of}
use Rattle.lab_base.proofs.Again.{number_again}
use Rattle.lab_base.proofs.Bytes.{bytes_self}
use Rattle.ns_build.specs.Networks.{Network}
use Rattle.ns_build.specs.Words.{index_below}
use Rattle.ns_build.specs.Once.{WordsStand}

-- printed digits stand for their index
again : (count index : ℕ) → index ≤ 65534 → index < count → index_below count (decimal index) (number_of 65534 (decimal index)) ≡ Some index
again count index fits lt =
    ap (index_below count (decimal index)) (number_again 65534 index fits (omega arith)) ∙ rw (lt-ltb index count lt, bytes_self (decimal index)) refl

no_pass : (a b : Bool) → (a && (b && false)) ≡ false
no_pass true true = refl
no_pass true false = refl
no_pass false b = refl

pub words_stand : (n : Network) (index : ℕ) → index ≤ 65534 → WordsStand n index
words_stand n index fits = record {
  node = λ lt. again (length n.nodes) index fits lt;
  link = λ lt. again (length n.links) index fits lt;
  no_link = refl;
  no_node = refl;
  node_name = no_pass _ _;
  link_name = no_pass _ _;
  simulator_name = refl;
}
