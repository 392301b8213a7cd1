use Rattle.std.proofs.Common.{◌≡◌, ◌<◌, ◌∙◌, inl, inr, List, Option, None, ℕ, length, get_or, ap, sym, arith, get_or-set_other, get_or-set_same}
use Rattle.std.proofs.Math.ListN.{set}
use Rattle.std.proofs.lemmas.Bool.{cases_eq}
use Rattle.std.proofs.lemmas.List.{length-set}
use Rattle.virt_topo.specs.Wirings.{virt_at}
use Rattle.virt_topo.proofs.CableLaws.{sound_limits}
use Rattle.lab_model.specs.Rules.{place_at}
use Rattle.map_state.specs.Members.{asked_index, one_at}
use Rattle.map_state.proofs.MemberLaws.{counts, if_some, asked_there, counted_at, members_few, members_step, members_end}
use Rattle.map_state.proofs.members.Members.of.Goals as goal

pub join-requires-clause-few : goal.join-requires-clause-few
join-requires-clause-few c = if_some c.own_place.result (λ n is.
    let w = c.args.wiring.now in
    let m = c.args.mapping.now in
    let v = c.loop-virt.virt in
    let kind = (place_at m v).1 in
    let there = asked_there w (virt_at w v).asks kind n (sym c.own_place.ensures.is ∙ is) in
    let so_far = c.loop-virt.invariant.each there.class n kind there.within there.place in
    let few = members_few there.class kind w.nodes m.places in
    let nodes = (sound_limits w c.requires.sound).nodes in
    omega (arith, so_far, few, nodes))

pub loop-virt-preserved : goal.loop-virt-preserved
loop-virt-preserved c =
    let w = c.args.wiring.now in
    let m = c.args.mapping.now in
    let v = c.loop-virt.virt in
    let asks = (virt_at w v).asks in
    let kind_of = (place_at m v).1 in
    let lt : v < length w.nodes = omega (arith, c.loop-virt-test.true, c.len-virt-end.ensures) in
    let all = c.requires.placed in
    let before = c.loop-virt.members.own.items in
    let one_each = c.loop-virt.invariant.one_each in
    let own = c.join.ensures.own in
    record {
      room = c.join.ensures.room ∙ c.loop-virt.invariant.room;
      each = λ d n kind d_lt is.
          let joined = c.join.ensures.counts n in
          let at : one_at c.own_place.result n ≡ counts d kind asks kind_of = ap (λ (o : Option ℕ). one_at o n) c.own_place.ensures.is ∙ counted_at w d n kind asks kind_of c.requires.sound d_lt is in
          let step = members_step w m d v kind lt (omega (arith, lt, all)) in
          let so_far = c.loop-virt.invariant.each d n kind d_lt is in
          omega (arith, joined, at, step, so_far);
      one_each = ap length own ∙ length-set before v c.own_place.result ∙ one_each;
      own = λ k k_lt. ap (λ (l : List (Option ℕ)). get_or l k None) own ∙ (elim (cases_eq k v) [
        | inl is ↦
            (λ j. get_or (set before v c.own_place.result) (is j) None) ∙ get_or-set_same before v c.own_place.result None (omega (arith, lt, one_each)) ∙ c.own_place.ensures.is
            ∙ (λ j. asked_index w (virt_at w (sym is j)).asks (place_at m (sym is j)).1)
        | inr apart ↦ get_or-set_other before v k c.own_place.result None apart ∙ c.loop-virt.invariant.own k (omega (arith, k_lt, apart))
      ]);
    }

pub returns : goal.returns
returns c =
    let w = c.args.wiring.now in
    let m = c.args.mapping.now in
    let v = c.loop-virt.virt in
    let end = c.loop-virt-test.false in
    let nodes = c.len-virt-end.ensures in
    record {
      room = c.loop-virt.invariant.room;
      each = λ d n kind d_lt is.
          let so_far = c.loop-virt.invariant.each d n kind d_lt is in
          let none = members_end w m d v kind (omega (arith, end, nodes)) in
          omega (arith, so_far, none);
      one_each = c.loop-virt.invariant.one_each;
      own = λ k k_lt. c.loop-virt.invariant.own k (omega (arith, end, nodes, k_lt));
    }
