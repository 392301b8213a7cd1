-- The facts that follow from the tests and quantities of a command.
use Rattle.std.proofs.Common.{◌≡◌, ℕ, true, List, Ok}
use Rattle.std.specs.Prelude.{nat_le}
use Rattle.std.proofs.lemmas.Bool.{le-leb, and_from}
use Rattle.lab_base.specs.declared.fault.Kind.TheVariants as kinds
use Rattle.virt_topo.specs.Soundness.{is_speed}
use Rattle.ns_words.specs.Values.{bandwidth_of, delay_of}
use Rattle.ns_words.specs.Quantities.{IsBandwidth, IsDelay}
use Rattle.ns_words.proofs.Exact.{bandwidth_exact, delay_exact}
use Rattle.ns_build.specs.Checks.{bandwidth_in, delay_in}
use Rattle.ns_build.proofs.Chains.{need_ok}

pub speed_fits : (word : List ℕ) (kbps : ℕ) → bandwidth_in word ≡ Ok kbps → is_speed kbps ≡ true
unfolding bandwidth_in
speed_fits word kbps h =
    let w : IsBandwidth word kbps = (bandwidth_exact word kbps).0 (need_ok kinds.Bandwidth (bandwidth_of word) kbps h) in
    and_from (nat_le 1 kbps) (nat_le kbps 1000000000) (le-leb 1 kbps w.least) (le-leb kbps 1000000000 w.most)

pub delay_fits : (word : List ℕ) (micros : ℕ) → delay_in word ≡ Ok micros → nat_le micros 10000000 ≡ true
unfolding delay_in
delay_fits word micros h =
    let w : IsDelay word micros = (delay_exact word micros).0 (need_ok kinds.Delay (delay_of word) micros h) in
    le-leb micros 10000000 w.most
