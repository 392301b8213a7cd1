use Rattle.std.proofs.Common.{◌≡◌, Some, sym, ap, ◌∙◌}
use Rattle.std.specs.Option.{option_copied_mut}
use Rattle.std.specs.Str.{bytes_eq}
use Rattle.std.specs.Map.{lookup}
use Rattle.lab_state.proofs.Named.{missing, unread, ended_at, at_ended, stands_so}
use Rattle.lab_state.proofs.experiments.Experiments.end_move.Goals as goal
use Rattle.lab_state.proofs.experiments.Experiments.end_move.Goals.{in-Some-get_index_mut, in-None}

pub returns-in_default-clause-list : goal.returns-in_default-clause-list
returns-in_default-clause-list c = λ e found. absurd (missing c.args.exp c.self.inside.table.entries e c.self.invariant (rw (← c.self.view_is) at found) c.in_default.ensures.found)

pub returns-in_default-clause-stands : goal.returns-in_default-clause-stands
returns-in_default-clause-stands c = λ e found. absurd (missing c.args.exp c.self.inside.table.entries e c.self.invariant (rw (← c.self.view_is) at found) c.in_default.ensures.found)

pub returns-clause-list : goal.returns-clause-list
returns-clause-list c = λ e found.
    let entries = c.self.inside.table.entries in
    let there = rw (← c.self.view_is) at found in
    elim c.match-get_index_mut.branch [
      | in-Some-get_index_mut w ↦
          let old = w.in-Some-get_index_mut.experiment.now in
          let read : Some old ≡ lookup (bytes_eq c.args.exp) entries = sym (ap option_copied_mut w.in-Some-get_index_mut.is) ∙ c.get_index_mut.ensures.value ∙ c.in-Some.ensures.value in
          rw (w.self-inside-is, ← c.self.view_is) (ended_at c.args.exp c.args.commit entries c.in-Some.at e old w.end.new.experiment c.self.invariant there (sym c.in-Some.ensures.index) read w.end.ensures.ended)
      | in-None w ↦ absurd (unread c.args.exp entries e c.self.invariant there (sym (ap option_copied_mut w.in-None.is) ∙ c.get_index_mut.ensures.value ∙ c.in-Some.ensures.value))
    ]

pub returns-clause-stands : goal.returns-clause-stands
returns-clause-stands c = λ e found.
    let entries = c.self.inside.table.entries in
    let there = rw (← c.self.view_is) at found in
    elim c.match-get_index_mut.branch [
      | in-Some-get_index_mut w ↦
          let old = w.in-Some-get_index_mut.experiment.now in
          let read : Some old ≡ lookup (bytes_eq c.args.exp) entries = sym (ap option_copied_mut w.in-Some-get_index_mut.is) ∙ c.get_index_mut.ensures.value ∙ c.in-Some.ensures.value in
          w.result-is ∙ w.end.ensures.stands ∙ stands_so c.args.exp c.args.commit entries e old c.self.invariant there read
      | in-None w ↦ absurd (unread c.args.exp entries e c.self.invariant there (sym (ap option_copied_mut w.in-None.is) ∙ c.get_index_mut.ensures.value ∙ c.in-Some.ensures.value))
    ]

pub invariant_of-self : goal.invariant_of-self
invariant_of-self c =
    let entries = c.self.inside.table.entries in
    let there = rw (← c.self.view_is) at c.requires.1 in
    elim c.match-get_index_mut.branch [
      | in-Some-get_index_mut w ↦
          let old = w.in-Some-get_index_mut.experiment.now in
          let read : Some old ≡ lookup (bytes_eq c.args.exp) entries = sym (ap option_copied_mut w.in-Some-get_index_mut.is) ∙ c.get_index_mut.ensures.value ∙ c.in-Some.ensures.value in
          rw w.self-inside-is (at_ended c.args.exp c.args.commit entries c.in-Some.at c.requires.0 old w.end.new.experiment c.self.invariant there (sym c.in-Some.ensures.index) read w.end.ensures.ended)
      | in-None w ↦ rw w.self-inside-is c.self.invariant
    ]
