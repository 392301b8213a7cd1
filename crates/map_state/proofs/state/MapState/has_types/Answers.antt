use Rattle.std.proofs.Common.{◌≡◌, ◌∙◌, get_or, sym}
use Rattle.std.specs.List.{list_all}
use Rattle.map_state.specs.Ties.{have_one_type}
use Rattle.map_state.proofs.StateLaws.{all_true, each_true}
use Rattle.map_state.proofs.state.MapState.has_types.Goals as goal

pub returns : goal.returns
returns c =
    let places = c.args.self.now.mapping.places in
    let ties = c.args.search.now.table.now.ties.items in
    let are = c.requires.search.table.ties in
    let count = c.requires.state.shaped.places in
    let test : c.are_kept.result ≡ list_all (have_one_type places) ties = c.are_kept.ensures ∙ (λ j. list_all (have_one_type (c.as_slice.ensures j)) (c.deref.ensures.value j)) in (
      λ is. are.all places count (each_true (have_one_type places) ties (sym test ∙ is)),
      λ all. test ∙ all_true (have_one_type places) ties (λ k d lt.
          let tie = are.each k d lt in
          sym (tie.typed places count) ∙ all (get_or ties k d).member tie.member),
    )
