use Rattle.std.proofs.Common.{◌≡◌, ◌<◌, ◌∙◌, inl, inr, List, Option, None, ℕ, length, get_or, ap, sym, arith, get_or-set_other, get_or-set_same}
use Rattle.std.proofs.Math.ListN.{set}
use Rattle.std.proofs.lemmas.Bool.{cases_eq}
use Rattle.std.proofs.lemmas.List.{length-set}
use Rattle.virt_topo.specs.Wirings.{virt_at}
use Rattle.virt_topo.proofs.CableLaws.{sound_limits}
use Rattle.lab_model.specs.Shapes.{Place}
use Rattle.lab_model.specs.Rules.{no_place, place_at}
use Rattle.map_state.specs.Members.{asked_index, one_at}
use Rattle.map_state.specs.Hosted.{placed_at}
use Rattle.map_state.proofs.MemberLaws.{counts, if_some, asked_there, asked_within, counted_at, counts_own, own_counted, members_few, members_went}
use Rattle.map_state.proofs.members.Members.go.Goals as goal

pub leave-requires-clause-within : goal.leave-requires-clause-within
leave-requires-clause-within c = if_some c.counted-from.result (λ n is.
    let w = c.args._wiring.now in
    let v = c.args.virt in
    let room = c.requires.counted.room in
    let within = asked_within w (virt_at w v).asks (place_at c.args._mapping.now v).1 n c.requires.sound (sym (c.requires.counted.own v c.requires.virt) ∙ sym c.counted-from.ensures ∙ is) in
    omega (arith, room, within))

-- it counts itself where it is
pub leave-requires-clause-some : goal.leave-requires-clause-some
leave-requires-clause-some c = if_some c.counted-from.result (λ n is.
    let w = c.args._wiring.now in
    let m = c.args._mapping.now in
    let v = c.args.virt in
    let kind = (place_at m v).1 in
    let virt = c.requires.virt in
    let all = c.requires.placed in
    let there = asked_there w (virt_at w v).asks kind n (sym (c.requires.counted.own v virt) ∙ sym c.counted-from.ensures ∙ is) in
    let had = c.requires.counted.each there.class n kind there.within there.place in
    let own = own_counted w m v there.class kind virt (omega (arith, virt, all)) in
    let one = counts_own there.class kind (virt_at w v).asks there.asked in
    omega (arith, had, own, one))

pub join-requires-clause-within : goal.join-requires-clause-within
join-requires-clause-within c = if_some c.args.into (λ n is.
    let w = c.args._wiring.now in
    let room = c.requires.counted.room in
    let left = c.leave.ensures.room in
    let within = asked_within w (virt_at w c.args.virt).asks c.args._place.now.1 n c.requires.sound (sym c.requires.into ∙ is) in
    omega (arith, room, left, within))

pub join-requires-clause-few : goal.join-requires-clause-few
join-requires-clause-few c = if_some c.args.into (λ n is.
    let w = c.args._wiring.now in
    let m = c.args._mapping.now in
    let kind = c.args._place.now.1 in
    let there = asked_there w (virt_at w c.args.virt).asks kind n (sym c.requires.into ∙ is) in
    let had = c.requires.counted.each there.class n kind there.within there.place in
    let few = members_few there.class kind w.nodes m.places in
    let nodes = (sound_limits w c.requires.sound).nodes in
    let left = c.leave.ensures.counts n in
    omega (arith, had, few, nodes, left))

pub returns : goal.returns
returns c =
    let w = c.args._wiring.now in
    let m = c.args._mapping.now in
    let v = c.args.virt in
    let p = c.args._place.now in
    let asks = (virt_at w v).asks in
    let old = (place_at m v).1 in
    let virt = c.requires.virt in
    let all = c.requires.placed in
    let lt : v < length m.places = omega (arith, virt, all) in
    let before = c.args.self.now.own.items in
    let one_each = c.requires.counted.one_each in
    let own : c.join.new.self.own.items ≡ set before v c.args.into = c.join.ensures.own ∙ ap (λ (l : List (Option ℕ)). set l v c.args.into) c.leave.ensures.own in
    record {
      room = c.join.ensures.room ∙ c.leave.ensures.room ∙ c.requires.counted.room;
      each = λ d n kind d_lt is.
          let had = c.requires.counted.each d n kind d_lt is in
          let left = c.leave.ensures.counts n in
          let joined = c.join.ensures.counts n in
          let from : one_at c.counted-from.result n ≡ counts d kind asks old =
          ap (λ (o : Option ℕ). one_at o n) (c.counted-from.ensures ∙ c.requires.counted.own v virt) ∙ counted_at w d n kind asks old c.requires.sound d_lt is in
          let to : one_at c.args.into n ≡ counts d kind asks p.1 = ap (λ (o : Option ℕ). one_at o n) c.requires.into ∙ counted_at w d n kind asks p.1 c.requires.sound d_lt is in
          let went = members_went w m v p d kind virt lt in
          omega (arith, had, left, joined, from, to, went);
      one_each = ap length own ∙ length-set before v c.args.into ∙ one_each;
      own = λ k k_lt. ap (λ (l : List (Option ℕ)). get_or l k None) own ∙ (elim (cases_eq k v) [
        | inl is ↦
            (λ j. get_or (set before v c.args.into) (is j) None) ∙ get_or-set_same before v c.args.into None (omega (arith, virt, one_each)) ∙ c.requires.into
            ∙ ap (λ (q : Place). asked_index w asks q.1) (sym (get_or-set_same m.places v p no_place lt))
            ∙ (λ j. asked_index w (virt_at w (sym is j)).asks (place_at (placed_at m v p) (sym is j)).1)
        | inr apart ↦
            get_or-set_other before v k c.args.into None apart ∙ c.requires.counted.own k k_lt
            ∙ ap (λ (q : Place). asked_index w (virt_at w k).asks q.1) (sym (get_or-set_other m.places v k p no_place apart))
      ]);
    }
