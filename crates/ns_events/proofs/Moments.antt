-- Events of one moment.
use Rattle.std.proofs.Common.{◌≡◌, ℕ, List, filter, sym, ◌∙◌, arith}
use Rattle.std.specs.Prelude.{◌==◌, codes}
use Rattle.std.specs.List.Sorted.{ties}
use Rattle.std.specs.Ordering.{is_lt, nat_cmp}
use Rattle.std.proofs.lemmas.List.Elements.{filter_agree}
use Rattle.std.proofs.lemmas.Bool.Decides.{nat_tests}
use Rattle.ns_events.specs.declared.event.Event.{Event}
use Rattle.ns_events.specs.declared.event.What.TheVariants.{Down}
use Rattle.ns_events.specs.Schedules.{at_moment}

abbrev pub event_at : ℕ → Event
event_at moment = record { at = moment; link = codes "l"; what = Down; line = 0 }

-- what a stable sort by time leaves together
same_moment : (moment : ℕ) (e : Event) → (e.at == moment) ≡ ties (λ a b. is_lt (nat_cmp a.at b.at)) (event_at moment) e
same_moment moment e = grind (arith, nat_tests)

pub tied : (moment : ℕ) (xs ys : List Event) → filter (ties (λ a b. is_lt (nat_cmp a.at b.at)) (event_at moment)) ys ≡ filter (ties (λ a b. is_lt (nat_cmp a.at b.at)) (event_at moment)) xs
    → at_moment moment ys ≡ at_moment moment xs
tied moment xs ys stable =
    let tie = ties (λ a b. is_lt (nat_cmp a.at b.at)) (event_at moment) in
    filter_agree (λ e. e.at == moment) tie (same_moment moment) ys ∙ stable ∙ sym (filter_agree (λ e. e.at == moment) tie (same_moment moment) xs)
