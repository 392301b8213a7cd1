use Rattle.std.proofs.Common.{◌≡◌, ◌∙◌, ◌<◌, [], ℕ, List, length, get_or, ap, sym, subst, arith}
use Rattle.std.proofs.lemmas.List.{length-map, get_or_default}
use Rattle.lab_model.specs.Shapes.{Place}
use Rattle.lab_model.specs.Rules.{no_place}
use Rattle.node_maps.specs.Kinds.{listed}
use Rattle.node_maps.proofs.KindLaws.{place_named}
use Rattle.node_maps.proofs.lists.Candidates.at.Goals as goal

pub returns-clause-named : goal.returns-clause-named
returns-clause-named c =
    let x = c.self.inside in
    let v = c.args.virt in
    let n = c.args.number in
    let p = c.index-2.result.now in
    let seen = sym c.self.view_is in
    let v_in = subst (λ (l : List (List Place)). v < length l) seen c.requires.virt in
    let n_in = subst (λ (l : List (List Place)). n < length (get_or l v [])) seen c.requires.number in
    let lt : v < length x.kinds.items = omega (arith, v_in, length-map x.kinds.items (λ (k : ℕ). get_or (listed x.places.items x.lists.items) k [])) in
    let kind : ◌≡◌ {A = ℕ} c.index.result.now (get_or x.kinds.items v 0) = c.index.ensures ∙ get_or_default x.kinds.items v c.index.result.now 0 lt in
    let own = c.numbers_of-own.ensures ∙ (λ j. get_or (c.deref.ensures.value j) (kind j) []) in
    let is = c.index-2.ensures ∙ ap (λ (l : List ℕ). get_or x.places.items (get_or l n 0) p) own in
    place_named x.places.items x.lists.items x.kinds.items v n p c.self.invariant v_in n_in is
    ∙ ap (λ (l : List (List Place)). get_or (get_or l v []) n no_place) c.self.view_is

pub returns-clause-among : goal.returns-clause-among
returns-clause-among c =
    let own = get_or c.args.self.now c.args.virt [] in
    let p = c.index-2.result.now in
    (c.args.number, c.requires.number, get_or_default own c.args.number p no_place c.requires.number ∙ sym (returns-clause-named c))
