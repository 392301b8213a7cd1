use Rattle.std.proofs.Common.{◌≡◌, ◌<◌, ◌∙◌, ◌+◌, ◌++◌, ◌∷◌, [], inl, inr, ℕ, List, length, get_or, eqb, ap, sym, subst, arith, length-append, get_or-set_same, get_or-set_other}
use Rattle.std.proofs.Math.ListN.{set}
use Rattle.std.proofs.lemmas.Bool.{cases_eq, eq-eqb, ne_eqb}
use Rattle.std.proofs.lemmas.List.{length-set, get_or_read}
use Rattle.virt_topo.proofs.CableLaws.{sound_limits}
use Rattle.lab_model.specs.Shapes.{Place}
use Rattle.node_maps.specs.NodeMaps.{ArePlaces}
use Rattle.map_state.specs.Hosted.{hosted_at}
use Rattle.map_state.proofs.HostedNodeLaws.{one_if, guests_more, few_hosted}
use Rattle.assign_core.specs.Prefixes.{first_parts}
use Rattle.assign_core.proofs.FirstParts.{placed_more}
use Rattle.assign_core.proofs.prefix.Prefix.put.Goals as goal

pub overflow_add-index_mut : goal.overflow_add-index_mut
overflow_add-index_mut c =
    let p = c.args.place in
    let was = c.requires.prefix in
    let node = c.requires.node in
    let each = was.one_each in
    let at : ◌≡◌ {A = ℕ} c.index_mut.result.now (get_or c.args.self.now.hosted.items p.0.0 0) = get_or_read c.args.self.now.hosted.items p.0.0 c.index_mut.result.now (omega (arith, node, each)) c.index_mut.ensures.value 0 in
    let hosted = was.hosted p.0.0 node in
    let few = few_hosted c.args.self.now.places.items p.0.0 in
    let more = c.requires.more in
    let all = (sound_limits c.args._search.now.mapper.wiring.now c.requires.search.mapper.sound).nodes in
    omega (arith, at, hosted, few, more, all)

pub returns-clause-prefix : goal.returns-clause-prefix
returns-clause-prefix c =
    let x = c.args._search.now.mapper in
    let lab = x.lab.now in
    let places = c.args.self.now.places.items in
    let items = c.args.self.now.hosted.items in
    let p = c.args.place in
    let was = c.requires.prefix in
    let node = c.requires.node in
    let each = was.one_each in
    let here : p.0.0 < length items = omega (arith, node, each) in
    let at : ◌≡◌ {A = ℕ} c.index_mut.result.now (get_or items p.0.0 0) = get_or_read items p.0.0 c.index_mut.result.now here c.index_mut.ensures.value 0 in
    let grown : ◌≡◌ {A = List Place} c.push.new.self.items (places ++ p ∷ []) = c.in_ok-push.ensures.items in
    record {
      within = (let long = ap length grown in let one = length-append places (p ∷ []) in let more = c.requires.more in omega (arith, long, one, more));
      are = subst (λ (ps : List Place). ArePlaces lab ps) (sym grown) (placed_more lab places p was.are node c.requires.typed);
      one_each = length-set items p.0.0 (c.index_mut.result.now + 1) ∙ each;
      hosted = λ n lt.
          let before = was.hosted n lt in
          let more = guests_more places p n in
          let new = ap (λ (ps : List Place). hosted_at ps n) grown in
          elim (cases_eq n p.0.0) [
            | inl same ↦ (
                let set_here : ◌≡◌ {A = ℕ} (get_or (set items p.0.0 (c.index_mut.result.now + 1)) n 0) (c.index_mut.result.now + 1) = ap (λ (j : ℕ). get_or (set items p.0.0 (c.index_mut.result.now + 1)) j 0) same ∙ get_or-set_same items p.0.0 (c.index_mut.result.now + 1) 0 here in
                let old : ◌≡◌ {A = ℕ} (get_or items n 0) (get_or items p.0.0 0) = ap (λ (j : ℕ). get_or items j 0) same in
                let one : ◌≡◌ {A = ℕ} (one_if (eqb p.0.0 n)) 1 = ap one_if (eq-eqb p.0.0 n (sym same)) in
                omega (arith, set_here, old, at, before, more, new, one))
            | inr apart ↦ (
                let kept : ◌≡◌ {A = ℕ} (get_or (set items p.0.0 (c.index_mut.result.now + 1)) n 0) (get_or items n 0) = get_or-set_other items p.0.0 n (c.index_mut.result.now + 1) 0 apart in
                let none : ◌≡◌ {A = ℕ} (one_if (eqb p.0.0 n)) 0 = ap one_if (ne_eqb p.0.0 n (λ e. apart (sym e))) in
                omega (arith, kept, before, more, new, none))
          ];
      parts = c.requires.parts ∙ ap (first_parts lab x.wiring.now) (sym grown);
    }
