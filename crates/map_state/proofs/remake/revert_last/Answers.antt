use Rattle.std.proofs.Common.{◌≡◌, ◌∙◌, ◌++◌, ◌∷◌, [], List, Option, ap, sym, ◌<◌, length, All, subst, arith, refl}
use Rattle.std.specs.Prelude.{option_to_list}
use Rattle.lab_base.specs.declared.ids.IfaceId.{IfaceId}
use Rattle.trunk_sums.specs.declared.made.Change.{Change}
use Rattle.map_state.specs.Reverted.{reverted}
use Rattle.map_state.proofs.ListSteps.{reverted_push}
use Rattle.std.proofs.lemmas.List.Elements.{All-cons}
use Rattle.trunk_sums.specs.Remade.{AreChanges}
use Rattle.std.proofs.lemmas.List.{get_or_append_left, get_or_push, length_push, length-set}
use Rattle.trunk_sums.specs.Summed.{IsRow}
use Rattle.trunk_sums.proofs.RemadeLaws.{all_set}
use Rattle.map_state.proofs.remake.revert_last.Goals as goal

pub returns-clause-plugs : goal.returns-clause-plugs
returns-clause-plugs c =
    let rest = c.pop.new.self.items in
    let plugs = c.args.plugs.now.items in
    let was : c.args.back.now.items ≡ rest ++ c.in-Some.change ∷ [] = c.pop.ensures.items ∙ ap (λ (o : Option Change). rest ++ option_to_list o) c.in-Some.is in
    ap (λ (l : List IfaceId). reverted l rest) c.replug.ensures.plugs ∙ sym (reverted_push plugs rest c.in-Some.change) ∙ ap (λ (l : List Change). reverted plugs l) (sym was)

pub replug-requires-clause-limits : goal.replug-requires-clause-limits
replug-requires-clause-limits c = c.requires.limits

pub replug-requires-clause-in_lab : goal.replug-requires-clause-in_lab
replug-requires-clause-in_lab c = c.requires.in_lab

pub replug-requires-clause-table : goal.replug-requires-clause-table
replug-requires-clause-table c = c.requires.table

pub replug-requires-clause-summed : goal.replug-requires-clause-summed
replug-requires-clause-summed c = c.requires.summed

pub returns-in_default-clause-summed : goal.returns-in_default-clause-summed
returns-in_default-clause-summed c = c.requires.summed

pub returns-in_default-clause-in_lab : goal.returns-in_default-clause-in_lab
returns-in_default-clause-in_lab c = c.requires.in_lab

pub returns-clause-summed : goal.returns-clause-summed
returns-clause-summed c = c.replug.ensures.summed

abbrev some : Change
some = record { end = 0; row = record { segment = 0; ends = 0; kbps = 0 }; to = record { 0 = 0 } }

-- what holds of each of a list holds of those before the last, and of the last
each_before : (P : Change → Type 0) (xs : List Change) (x : Change) → All P (xs ++ x ∷ []) → All P xs
each_before P xs x all k d lt = subst P (get_or_append_left xs (x ∷ []) d k lt) (all k d (omega (arith, lt, length_push xs x)))

of_last : (P : Change → Type 0) (xs : List Change) (x : Change) → All P (xs ++ x ∷ []) → P x
of_last P xs x all = subst P (get_or_push xs x x (length xs) refl) (all (length xs) x (omega (arith, length_push xs x)))

pub replug-requires-clause-changes : goal.replug-requires-clause-changes
replug-requires-clause-changes c =
    let lab = c.args.lab.now in
    let w = c.args.wiring.now in
    let rest = c.pop.new.self.items in
    let x = c.in-Some.change in
    let was : c.args.back.now.items ≡ rest ++ x ∷ [] = c.pop.ensures.items ∙ ap (λ (o : Option Change). rest ++ option_to_list o) c.in-Some.is in
    let all = subst (λ (l : List Change). AreChanges lab w l) was c.requires.backward in
    record {
      rows = All-cons (λ y. IsRow w y.end y.row) x [] (of_last (λ y. IsRow w y.end y.row) rest x all.rows) (λ j d j_lt. absurd (omega (arith, j_lt)));
      within = All-cons (λ y. y.to.0 < length lab.ifaces) x [] (of_last (λ y. y.to.0 < length lab.ifaces) rest x all.within) (λ j d j_lt. absurd (omega (arith, j_lt)));
    }

pub returns-clause-plugged : goal.returns-clause-plugged
returns-clause-plugged c = ap length c.replug.ensures.plugs ∙ length-set c.args.plugs.now.items c.in-Some.change.end c.in-Some.change.to

pub returns-clause-backward : goal.returns-clause-backward
returns-clause-backward c =
    let lab = c.args.lab.now in
    let w = c.args.wiring.now in
    let rest = c.pop.new.self.items in
    let x = c.in-Some.change in
    let was : c.args.back.now.items ≡ rest ++ x ∷ [] = c.pop.ensures.items ∙ ap (λ (o : Option Change). rest ++ option_to_list o) c.in-Some.is in
    let all = subst (λ (l : List Change). AreChanges lab w l) was c.requires.backward in
    record {
      rows = each_before (λ y. IsRow w y.end y.row) rest x all.rows;
      within = each_before (λ y. y.to.0 < length lab.ifaces) rest x all.within;
    }

pub returns-clause-in_lab : goal.returns-clause-in_lab
returns-clause-in_lab c =
    let n = length c.args.lab.now.ifaces in
    let rest = c.pop.new.self.items in
    let x = c.in-Some.change in
    let was : c.args.back.now.items ≡ rest ++ x ∷ [] = c.pop.ensures.items ∙ ap (λ (o : Option Change). rest ++ option_to_list o) c.in-Some.is in
    let all = subst (λ (l : List Change). AreChanges c.args.lab.now c.args.wiring.now l) was c.requires.backward in
    subst (λ (l : List IfaceId). All (λ i. i.0 < n) l) (sym c.replug.ensures.plugs)
    (all_set n c.args.plugs.now.items x.end x.to c.requires.in_lab (of_last (λ y. y.to.0 < n) rest x all.within))

pub returns-clause-fewer : goal.returns-clause-fewer
returns-clause-fewer c =
    let rest = c.pop.new.self.items in
    let was : c.args.back.now.items ≡ rest ++ c.in-Some.change ∷ [] = c.pop.ensures.items ∙ ap (λ (o : Option Change). rest ++ option_to_list o) c.in-Some.is in
    sym (ap length was ∙ length_push rest c.in-Some.change)

pub returns-in_default-clause-fewer : goal.returns-in_default-clause-fewer
returns-in_default-clause-fewer c =
    let len = c.args.back.now.ok.0 in
    absurd (c.in_default.not-Some _ (c.pop.ensures.value some (omega (arith, c.requires.some, len))))

pub returns-in_default-clause-backward : goal.returns-in_default-clause-backward
returns-in_default-clause-backward c =
    let len = c.args.back.now.ok.0 in
    absurd (c.in_default.not-Some _ (c.pop.ensures.value some (omega (arith, c.requires.some, len))))

pub returns-in_default-clause-plugs : goal.returns-in_default-clause-plugs
returns-in_default-clause-plugs c =
    let len = c.args.back.now.ok.0 in
    absurd (c.in_default.not-Some _ (c.pop.ensures.value some (omega (arith, c.requires.some, len))))
