use Rattle.std.proofs.Common.{◌≤◌, ◌<◌, ℕ, get_or}
use Rattle.lab_picture.specs.declared.geometry.Card.{Card}
use Rattle.lab_layout.specs.Laid.{IsCardIn}
use Rattle.lab_layout.proofs.within.Reach.over_cards.Given as goal

abbrev pub invariant-loop-card : goal.invariant-loop-card
invariant-loop-card l = record {
  wide : l.initial.reach.wide ≤ l.reach.wide;
  high : l.initial.reach.high ≤ l.reach.high;
  inside : (k : ℕ) (d : Card) → k < l.card-index → IsCardIn l.reach.wide l.reach.high (get_or l.cards k d);
}
