use Rattle.std.proofs.Common.{◌≡◌, ◌≢◌, ◌<◌, ℕ, All, true, false, length, get_or}
use Rattle.map_anneal.proofs.notes.Notes.forget_each.Given as goal

abbrev pub invariant-loop-number : goal.invariant-loop-number
invariant-loop-number l = record {
  count : length l.self ≡ length l.initial.self;
  known : (k : ℕ) → get_or l.self k false ≡ true → get_or l.initial.self k false ≡ true;
  gone : (j d : ℕ) → j < l.number-index → get_or l.self (get_or l.numbers j d) false ≡ false;
  others : (k : ℕ) → All (λ n. n ≢ k) l.numbers → get_or l.self k false ≡ get_or l.initial.self k false;
}
