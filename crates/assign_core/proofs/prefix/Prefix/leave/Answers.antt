use Rattle.std.proofs.Common.{◌≡◌, ◌<◌, ◌∙◌, ◌-◌, ◌++◌, ◌∷◌, [], inl, inr, ℕ, List, length, take, get_or, true, eqb, Option, IfSome, ap, sym, subst, refl, arith, length-append, get_or-set_same, get_or-set_other}
use Rattle.std.specs.Prelude.{option_to_list}
use Rattle.std.proofs.Math.ListN.{set}
use Rattle.std.proofs.lemmas.Bool.{cases_eq, eq-eqb, ne_eqb}
use Rattle.std.proofs.lemmas.List.{length-set, get_or_read}
use Rattle.std.proofs.lemmas.List.Elements.{All-pop}
use Rattle.lab_model.specs.Shapes.{Place, node_at, has_name}
use Rattle.lab_model.specs.Rules.{no_place}
use Rattle.map_state.specs.Hosted.{hosted_at}
use Rattle.map_state.proofs.HostedNodeLaws.{one_if, guests_more}
use Rattle.assign_core.specs.Prefixes.{first_parts}
use Rattle.assign_core.proofs.prefix.Prefix.leave.Goals as goal

pub returns-in_default-clause-prefix : goal.returns-in_default-clause-prefix
returns-in_default-clause-prefix c =
    let len = c.args.self.now.places.ok.0 in
    absurd (c.in_default.not-Some _ (c.pop.ensures.value no_place (omega (arith, c.requires.some, len))))

pub returns-in_default-clause-places : goal.returns-in_default-clause-places
returns-in_default-clause-places c =
    let len = c.args.self.now.places.ok.0 in
    absurd (c.in_default.not-Some _ (c.pop.ensures.value no_place (omega (arith, c.requires.some, len))))

pub index_mut-requires : goal.index_mut-requires
index_mut-requires c =
    let x = c.args._search.now.mapper in
    let was = c.requires.prefix in
    let each = was.one_each in
    let len = c.args.self.now.hosted.ok.0 in
    let popped = All-pop (λ (q : Place). q.0.0 < length x.lab.now.nodes) c.args.self.now.places.items c.pop.new.self.items c.pop.result c.pop.ensures.items was.are.in_nodes in
    let node = subst (λ (o : Option Place). IfSome o (λ q. q.0.0 < length x.lab.now.nodes)) c.in-Some.is popped.1 in
    omega (arith, node, each, len)

pub overflow_sub-index_mut : goal.overflow_sub-index_mut
overflow_sub-index_mut c =
    let x = c.args._search.now.mapper in
    let was = c.requires.prefix in
    let items = c.args.self.now.hosted.items in
    let each = was.one_each in
    let p : Place = c.in-Some.last in
    let popped = All-pop (λ (q : Place). q.0.0 < length x.lab.now.nodes) c.args.self.now.places.items c.pop.new.self.items c.pop.result c.pop.ensures.items was.are.in_nodes in
    let node : p.0.0 < length x.lab.now.nodes = subst (λ (o : Option Place). IfSome o (λ q. q.0.0 < length x.lab.now.nodes)) c.in-Some.is popped.1 in
    let at : ◌≡◌ {A = ℕ} c.index_mut.result.now (get_or items p.0.0 0) = get_or_read items p.0.0 c.index_mut.result.now (omega (arith, node, each)) c.index_mut.ensures.value 0 in
    let before = was.hosted p.0.0 node in
    let all : c.args.self.now.places.items ≡ c.pop.new.self.items ++ p ∷ [] = c.pop.ensures.items ∙ ap (λ (o : Option Place). c.pop.new.self.items ++ option_to_list o) c.in-Some.is in
    let same = ap (λ (ps : List Place). hosted_at ps p.0.0) all in
    let more = guests_more c.pop.new.self.items p p.0.0 in
    let one : ◌≡◌ {A = ℕ} (one_if (eqb p.0.0 p.0.0)) 1 = ap one_if (eq-eqb p.0.0 p.0.0 refl) in
    omega (arith, at, before, same, more, one)

pub returns-clause-places : goal.returns-clause-places
returns-clause-places c =
    let len = c.args.self.now.places.ok.0 in
    c.pop.ensures.rest ∙ ap (λ (k : ℕ). take (k - 1) c.args.self.now.places.items) len

pub returns-clause-prefix : goal.returns-clause-prefix
returns-clause-prefix c =
    let x = c.args._search.now.mapper in
    let was = c.requires.prefix in
    let items = c.args.self.now.hosted.items in
    let rest = c.pop.new.self.items in
    let each = was.one_each in
    let p : Place = c.in-Some.last in
    let In : Place → Type 0 = λ q. q.0.0 < length x.lab.now.nodes in
    let Typed : Place → Type 0 = λ q. has_name (node_at x.lab.now q.0).types q.1 ≡ true in
    let popped = All-pop In c.args.self.now.places.items rest c.pop.result c.pop.ensures.items was.are.in_nodes in
    let typed = All-pop Typed c.args.self.now.places.items rest c.pop.result c.pop.ensures.items was.are.of_node in
    let node : p.0.0 < length x.lab.now.nodes = subst (λ (o : Option Place). IfSome o In) c.in-Some.is popped.1 in
    let here : p.0.0 < length items = omega (arith, node, each) in
    let at : ◌≡◌ {A = ℕ} c.index_mut.result.now (get_or items p.0.0 0) = get_or_read items p.0.0 c.index_mut.result.now here c.index_mut.ensures.value 0 in
    let all : c.args.self.now.places.items ≡ rest ++ p ∷ [] = c.pop.ensures.items ∙ ap (λ (o : Option Place). rest ++ option_to_list o) c.in-Some.is in
    let shorter = length-append rest (p ∷ []) in
    let whole = ap length all in
    record {
      within = (let within = was.within in omega (arith, within, shorter, whole));
      are = record { in_nodes = popped.0; of_node = typed.0 };
      one_each = length-set items p.0.0 (c.index_mut.result.now - 1) ∙ each;
      hosted = λ n lt.
          let before = was.hosted n lt in
          let more = guests_more rest p n in
          let same = ap (λ (ps : List Place). hosted_at ps n) all in
          elim (cases_eq n p.0.0) [
            | inl is ↦ (
                let set_here : ◌≡◌ {A = ℕ} (get_or (set items p.0.0 (c.index_mut.result.now - 1)) n 0) (c.index_mut.result.now - 1) = ap (λ (j : ℕ). get_or (set items p.0.0 (c.index_mut.result.now - 1)) j 0) is ∙ get_or-set_same items p.0.0 (c.index_mut.result.now - 1) 0 here in
                let old : ◌≡◌ {A = ℕ} (get_or items n 0) (get_or items p.0.0 0) = ap (λ (j : ℕ). get_or items j 0) is in
                let one : ◌≡◌ {A = ℕ} (one_if (eqb p.0.0 n)) 1 = ap one_if (eq-eqb p.0.0 n (sym is)) in
                omega (arith, set_here, old, at, before, more, same, one))
            | inr apart ↦ (
                let kept : ◌≡◌ {A = ℕ} (get_or (set items p.0.0 (c.index_mut.result.now - 1)) n 0) (get_or items n 0) = get_or-set_other items p.0.0 n (c.index_mut.result.now - 1) 0 apart in
                let none : ◌≡◌ {A = ℕ} (one_if (eqb p.0.0 n)) 0 = ap one_if (ne_eqb p.0.0 n (λ e. apart (sym e))) in
                omega (arith, kept, before, more, same, none))
          ];
      parts = c.requires.parts ∙ ap (first_parts x.lab.now x.wiring.now) (sym (returns-clause-places c));
    }
