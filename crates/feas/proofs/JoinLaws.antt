-- Switches that are joined with one are joined with each other.
use Rattle.std.proofs.Common.{◌≡◌, Bool, true, List, [], ◌∷◌, refl, sym, ap, ◌∙◌}
use Rattle.std.specs.List.{list_all}
use Rattle.std.proofs.lemmas.Bool.{and_from, and_parts}
use Rattle.lab_base.specs.declared.ids.IfaceId.{IfaceId}
use Rattle.lab_base.proofs.Tests.{same_tests}
use Rattle.phys_lab.specs.Labs.{Lab}
use Rattle.phys_lab.specs.Sides.{joined}
use Rattle.phys_lab.proofs.SideLaws.{joined_through, joined_back}
use Rattle.lab_model.specs.Uses.{switch_of}
use Rattle.lab_model.specs.Rules.{are_joined}

-- the switches of two plugs are joined
abbrev near : Lab → IfaceId → IfaceId → Bool
near lab i j = joined lab.trunks (switch_of lab i) (switch_of lab j)

-- what is joined with a is joined with b, where a and b are joined
moved : (lab : Lab) (a b : IfaceId) (plugs : List IfaceId) → near lab b a ≡ true → list_all (near lab a) plugs ≡ true → list_all (near lab b) plugs ≡ true
moved lab a b [] h all = refl
moved lab a b (p ∷ plugs) h all =
    let parts = and_parts _ _ all in
    and_from _ _ (joined_through lab.trunks (switch_of lab b) (switch_of lab a) (switch_of lab p) h parts.0) (moved lab a b plugs h parts.1)

-- each of these is joined with all of those
pub each_joined : (lab : Lab) (a : IfaceId) (plugs all : List IfaceId) → list_all (near lab a) all ≡ true → list_all (near lab a) plugs ≡ true
    → list_all (λ i. list_all (near lab i) all) plugs ≡ true
each_joined lab a [] all whole h = refl
each_joined lab a (p ∷ plugs) all whole h =
    let parts = and_parts _ _ h in
    and_from _ _ (moved lab a p all (joined_back lab.trunks (switch_of lab a) (switch_of lab p) parts.0) whole) (each_joined lab a plugs all whole parts.1)

pub star : (lab : Lab) (first : IfaceId) (others plugs : List IfaceId) → plugs ≡ first ∷ others → list_all (near lab first) plugs ≡ are_joined lab plugs
star lab first others plugs is = same_tests _ _ there back
  where
    there : list_all (near lab first) plugs ≡ true → are_joined lab plugs ≡ true
    there h = each_joined lab first plugs plugs h h

    back : are_joined lab plugs ≡ true → list_all (near lab first) plugs ≡ true
    back h = (and_parts _ _ (sym (ap (λ (l : List IfaceId). list_all (λ i. list_all (near lab i) plugs) l) is) ∙ h)).0
