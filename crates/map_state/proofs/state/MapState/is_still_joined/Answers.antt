use Rattle.std.proofs.Common.{◌≡◌, ◌∙◌, List, true, get_or, refl, ap, sym}
use Rattle.std.specs.List.{list_all}
use Rattle.lab_base.specs.declared.ids.IfaceId.{IfaceId}
use Rattle.lab_model.specs.Rules.{are_joined, keeps_f7}
use Rattle.trunk_sums.specs.declared.made.Change.{Change}
use Rattle.map_state.proofs.StateLaws.{all_true, each_true, joined_all}
use Rattle.map_state.proofs.JointLaws.{still_joined}
use Rattle.map_state.proofs.state.MapState.is_still_joined.Goals as goal

pub returns-then-search : goal.returns-then-search
returns-then-search c = λ last before.
    let x = c.args.search.now in
    (λ is s lt. joined_all x.mapper.lab.now x.mapper.wiring.now c.args.self.now.mapping s c.range-kept.ensures.lab (c.requires.search.table.joined.0 c.if-search.true) c.requires.state.shaped, λ all. refl)

pub returns : goal.returns
returns c = λ last before.
    let lab = c.args.search.now.mapper.lab.now in
    let w = c.args.search.now.mapper.wiring.now in
    let m = c.args.self.now.mapping in
    let back = c.args.self.now.back.items in
    let rows = c.requires.backward.rows in
    let keeps = λ (y : Change). keeps_f7 lab w m y.row.segment in
    let test : c.changed_keep_f7.result ≡ list_all keeps back = c.changed_keep_f7.ensures ∙ ap (λ (l : List Change). list_all keeps l) c.deref.ensures.value in (
      λ is s lt. still_joined w m.plugs back s (λ (l : List IfaceId). are_joined lab l ≡ true) rows (each_true keeps back (sym test ∙ is)) (before s lt),
      λ all. test ∙ all_true keeps back (λ k d lt. all (get_or back k d).row.segment (rows k d lt).segment),
    )
