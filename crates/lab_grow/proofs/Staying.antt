-- The experiments of a grown lab stay: by their texts they have the same names.
use Rattle.std.specs.List.{list_all}
use Rattle.std.proofs.Common.{◌≡◌, inl, inr, true, Some, List, [], ◌∷◌, refl, sym, subst}
use Rattle.std.proofs.lemmas.Bool.{and_parts, and_from}
use Rattle.lab_base.specs.Names.{is_name}
use Rattle.lab_base.specs.Lists.{Has}
use Rattle.lab_base.specs.declared.ids.VlanId.{VlanId}
use Rattle.phys_lab.specs.Labs.{Lab}
use Rattle.phys_lab.specs.Kept.{IsLab}
use Rattle.virt_topo.specs.Wirings.{mapped}
use Rattle.virt_topo.specs.declared.wiring.VirtNode.{VirtNode}
use Rattle.virt_topo.specs.declared.wiring.Wiring.{Wiring}
use Rattle.virt_topo.specs.declared.mapping.Mapping.{Mapping}
use Rattle.virt_topo.specs.declared.mapping.Mapped.{Mapped}
use Rattle.virt_topo.specs.declared.experiment.Experiment.{Experiment}
use Rattle.virt_topo.specs.declared.experiment.Phase.{Phase}
use Rattle.virt_topo.specs.declared.experiment.Phase.TheVariants.{Out, In, Moving}
use Rattle.plant.specs.Worlds.{World}
use Rattle.lab_model.specs.Shapes.{IsShaped}
use Rattle.lab_model.specs.Claims.{New, claimed_in}
use Rattle.lab_model.specs.Holding.{Suits, Holding}
use Rattle.lab_model.specs.Cabled.{Cabled}
use Rattle.records_model.specs.Labs.{HasText}
use Rattle.top_text.specs.Printable.{are_named, is_printable, named_node}
use Rattle.solution_text.specs.CanonicalSolution.{canonical_solution}
use Rattle.lab_state.specs.Texts.{the_texts}
use Rattle.lab_grow.specs.Carried.{IsSameMapped, IsSamePhase, AreSame}
use Rattle.lab_grow.specs.Named.{HasSameRows, StaysIn, AreStaying}
use Rattle.lab_grow.proofs.Still.{IsStill, IsStillIn, AreStill}
use Rattle.lab_grow.proofs.Naming.{same_names}
use Rattle.lab_grow.proofs.Cabling.{cabled_there}

nodes_named : (vs : List VirtNode) → list_all named_node vs ≡ true → are_named vs ≡ true
nodes_named [] h = refl
nodes_named (v ∷ vs) h = let both = and_parts (named_node v) (list_all named_node vs) h in and_from _ _ (and_parts (is_name v.name) _ both.0).0 (nodes_named vs both.1)

wiring_named : (w : Wiring) → is_printable w ≡ true → are_named w.nodes ≡ true
wiring_named w h = nodes_named w.nodes (and_parts _ _ (and_parts _ _ h).1).0

still_one : (old new : Lab) (w v : Wiring) (m n : Mapping) (tags ids : List VlanId) → IsLab old → IsLab new → HasText the_texts w → IsShaped old w m
    → IsSameMapped the_texts old new (mapped w m tags) (mapped v n ids) → HasSameRows old new (mapped w m tags) (mapped v n ids) → IsStill old new (mapped w m tags) (mapped v n ids)
still_one old new w v m n tags ids old_is new_is text shaped same rows =
    let there : IsShaped new w n = subst (λ (x : Wiring). IsShaped new x n) same.wiring same.shaped in
    let says : canonical_solution new w n ≡ canonical_solution old w m = subst (λ (x : Wiring). canonical_solution new x n ≡ canonical_solution old w m) same.wiring same.text in
    record {
      wiring = same.wiring;
      sound = text.sound;
      shaped = shaped;
      shaped_there = there;
      names = same_names old new w m n old_is new_is text.sound (wiring_named w text.printable) shaped there says;
      rows = rows;
    }

still_in : (old new : Lab) (w v : Wiring) (p q : Phase) → IsLab old → IsLab new → HasText the_texts w → ((m : Mapped) → claimed_in w p New ≡ Some m → Suits old m)
    → IsSamePhase the_texts old new w p q → v ≡ w → StaysIn old new w v p q → IsStillIn old new w v p q
still_in old new w v Out Out old_is new_is text fits same wiring stays = tt
still_in old new w v (In m tags) (In n ids) old_is new_is text fits same wiring stays =
    let by : IsSameMapped the_texts old new (mapped w m tags) (mapped v n ids) = subst (λ (x : Wiring). IsSameMapped the_texts old new (mapped w m tags) (mapped x n ids)) (sym wiring) same in
    still_one old new w v m n tags ids old_is new_is text (fits (mapped w m tags) refl).shaped by stays
still_in old new w v Out (In n ids) old_is new_is text fits same wiring stays = absurd same
still_in old new w v Out (Moving b c) old_is new_is text fits same wiring stays = absurd same
still_in old new w v (In m tags) Out old_is new_is text fits same wiring stays = absurd same
still_in old new w v (In m tags) (Moving b c) old_is new_is text fits same wiring stays = absurd same
still_in old new w v (Moving a c) q old_is new_is text fits same wiring stays = absurd same

still_all : (old new : Lab) (es fs : List Experiment) → IsLab old → IsLab new → ((e : Experiment) → Has es e → HasText the_texts e.wiring) → ((e : Experiment) (m : Mapped) → Has es e → claimed_in e.wiring e.phase New ≡ Some m → Suits old m)
    → AreSame the_texts old new es fs → AreStaying old new es fs → AreStill old new es fs
still_all old new [] [] old_is new_is text fits same stays = tt
still_all old new [] (f ∷ fs) old_is new_is text fits same stays = absurd same
still_all old new (e ∷ es) [] old_is new_is text fits same stays = absurd same
still_all old new (e ∷ es) (f ∷ fs) old_is new_is text fits same stays = (
  still_in old new e.wiring f.wiring e.phase f.phase old_is new_is (text e (inl refl)) (λ m is. fits e m (inl refl) is) same.0.phase same.0.wiring stays.0,
  still_all old new es fs old_is new_is (λ x h. text x (inr h)) (λ x m h is. fits x m (inr h) is) same.1 stays.1,
)

-- THE DEVICES STAY: where each experiment is the same over the new lab, with the rows that it had, a world that is cabled by the old lab is so by
-- the new one
pub world_stays : (old new : Lab) (es fs : List Experiment) (world : World) → IsLab old → IsLab new → Holding old es → ((e : Experiment) → Has es e → HasText the_texts e.wiring)
    → AreSame the_texts old new es fs → AreStaying old new es fs → Cabled old es world → Cabled new fs world
world_stays old new es fs world old_is new_is holding text same stays cabled =
    cabled_there old new es fs world (still_all old new es fs old_is new_is text (λ e m h is. holding.fits e New m h is) same stays) cabled
