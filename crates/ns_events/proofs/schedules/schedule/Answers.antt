use Rattle.std.proofs.Common.{ap, ◌∙◌, rules}
use Rattle.std.proofs.lemmas.List.Sorted.{answers_always, IsNonDecreasingBy-from_sort_by_key}
use Rattle.ns_events.specs.Schedules.{at_moment}
use Rattle.ns_events.proofs.Moments.{tied, event_at}
use Rattle.ns_events.proofs.schedules.schedule.Goals as goal

pub returns : goal.returns
returns c = record {
  schedule = record {
    by_time = IsNonDecreasingBy-from_sort_by_key (λ e. e.at) _ c.in_ok-sort_by_key.ensures.sorted (λ a r q k. search rules);
    each_moment = λ moment.
        let stable = c.in_ok-sort_by_key.ensures.stable (λ e. e.at) (answers_always _ _ _ (λ f a r g h. search rules)) (event_at moment) in
        tied moment c.in_ok-due.due.items c.sort_by_key.new.self.items stable ∙ ap (at_moment moment) c.in_ok-due.ensures;
  };
}
