-- A move of one experiment, and the facts that it keeps.
use Rattle.std.proofs.Common.{◌≡◌, ◌≢◌, inl, ℕ, Bool, true, false, if◌then◌else◌, is_none, Option, Some, None, List, ◌∷◌, ◌++◌, refl, sym, ap, subst}
use Rattle.std.proofs.lemmas.Bool.{and_parts}
use Rattle.std.proofs.lemmas.Option.{same_Some}
use Rattle.lab_base.specs.Lists.{Has}
use Rattle.lab_base.proofs.Members.{Has-right}
use Rattle.lab_base.specs.declared.ids.VlanId.{VlanId}
use Rattle.lab_base.proofs.Tests.{none_is}
use Rattle.phys_lab.specs.Labs.{Lab}
use Rattle.phys_lab.specs.Kept.{IsLab}
use Rattle.virt_topo.specs.declared.mapping.Mapping.{Mapping}
use Rattle.virt_topo.specs.declared.mapping.Mapped.{Mapped}
use Rattle.virt_topo.specs.declared.experiment.Experiment.{Experiment}
use Rattle.virt_topo.specs.declared.experiment.Phase.{Phase}
use Rattle.virt_topo.specs.declared.experiment.Phase.TheVariants.{Out, In, Moving}
use Rattle.virt_topo.specs.Soundness.{IsSound}
use Rattle.virt_topo.specs.Wirings.{mapped}
use Rattle.plant.specs.Worlds.{World}
use Rattle.lab_model.specs.Claims.{Which, Old, New, claimed, claimed_in, tags_of}
use Rattle.lab_model.specs.Holding.{Holding, Suits}
use Rattle.lab_model.specs.Parts.{Parts}
use Rattle.lab_model.specs.Leavings.{Ends, Gone}
use Rattle.lab_model.specs.Shapes.{IsShaped}
use Rattle.lab_model.specs.Beside.{violation_beside, are_free_tags}
use Rattle.lab_model.proofs.FeasibleLaws.{TakesOne, takes_nothing, takes_claimed, takes_new, takes_both, tags_apart}
use Rattle.lab_model.proofs.HoldingLaws.{holding_replaced}
use Rattle.lab_model.proofs.Begins.{begin_in, begin_from}
use Rattle.lab_model.proofs.Ending.{ended_in, ended_out}
use Rattle.records_model.specs.Labs.{Move, BeginsIn, BeginsOut, BeginsChange, Commits, Aborts, others, inside, in_phase, can_take, becomes, EndsMove}
use Rattle.records_model.proofs.Finding.{none_some}

-- what the texts of a move say of its values
abbrev pub ShapedFor : Lab → Experiment → Move → Type 0
ShapedFor lab e (BeginsIn name mapping tags) = IsShaped lab e.wiring mapping
ShapedFor lab e (BeginsChange name wiring mapping tags) = IsSound wiring × IsShaped lab wiring mapping
ShapedFor lab e move = Unit {0}

abbrev pub ReadyOne : Lab → World → Experiment → Move → Type 0
ReadyOne lab w e (Commits name) = EndsMove lab w e e.phase true
ReadyOne lab w e (Aborts name) = EndsMove lab w e e.phase false
ReadyOne lab w e move = Unit {0}

pub record Turned (lab : Lab) (a b : List Experiment) (e f : Experiment) (move : Move) : Type 0 where
  pub name : f.name ≡ e.name
  pub wiring : IsSound f.wiring
  pub holding : Holding lab (a ++ f ∷ b)
  pub parts : (w : World) → ReadyOne lab w e move → Parts lab (a ++ e ∷ b) w → Parts lab (a ++ f ∷ b) w

wired : (lab : Lab) (m : Mapped) → Suits lab m → IsSound m.wiring
wired lab m suits = suits.sound

module _ (lab : Lab) (a b : List Experiment) (e : Experiment) (is_lab : IsLab lab) (holding : Holding lab (a ++ e ∷ b)) (own : IsSound e.wiring) where
  mid : Has (a ++ e ∷ b) e
  mid = Has-right a (e ∷ b) e (inl refl)

  of_claimed : (which : Which) (m : Mapped) → claimed e which ≡ Some m → TakesOne lab a b (Some m)
  of_claimed which m is = subst (λ o. TakesOne lab a b o) is (takes_claimed lab a b e which holding)

  none : TakesOne lab a b None
  none = takes_nothing lab a b e holding

  keeps : (f : Experiment) (o p : Option Mapped) → claimed f Old ≡ o → claimed f New ≡ p → TakesOne lab a b o → TakesOne lab a b p → ((u v : ℕ) → Has (tags_of o) u → Has (tags_of p) v → u ≢ v) → Holding lab (a ++ f ∷ b)
  keeps f o p old new of_o of_p cross = holding_replaced lab a b e f holding (takes_both lab a b f o p old new of_o of_p cross)

  turn_in : (name : List ℕ) (m : Mapped) → m.wiring ≡ e.wiring → e.phase ≡ Out → violation_beside lab (a ++ b) e m.wiring m.mapping ≡ None → are_free_tags lab (a ++ e ∷ b) m.wiring m.tags ≡ true → IsShaped lab m.wiring m.mapping → Turned lab a b e (in_phase e (Moving None (Some m))) (BeginsIn name m.mapping m.tags)
  turn_in name m same out ok free shaped =
      let f = in_phase e (Moving None (Some m)) in
      let new : TakesOne lab a b (Some m) = takes_new lab a b e e m ok free (subst (λ w. IsSound w) (sym same) own) shaped in
      let held : Holding lab (a ++ f ∷ b) = keeps f None (Some m) refl refl none new (λ u v h g. absurd h) in
      record {
        name = refl;
        wiring = own;
        holding = held;
        parts = λ w ready parts. begin_in lab a b e f w is_lab held m out refl parts;
      }

  turn_out : (name : List ℕ) (mapping : Mapping) (tags : List VlanId) → e.phase ≡ In mapping tags → Turned lab a b e (in_phase e (Moving (Some (mapped e.wiring mapping tags)) None)) (BeginsOut name)
  turn_out name mapping tags is_in =
      let m = mapped e.wiring mapping tags in
      let f = in_phase e (Moving (Some m) None) in
      let was : claimed e New ≡ Some m = ap (λ p. claimed_in e.wiring p New) is_in in
      let held : Holding lab (a ++ f ∷ b) = keeps f (Some m) None refl refl (of_claimed New m was) none (λ u v h g. absurd g) in
      record {
        name = refl;
        wiring = own;
        holding = held;
        parts = λ w ready parts. begin_from lab a b e f w is_lab held mapping tags None is_in refl parts;
      }

  turn_change : (name : List ℕ) (mapping : Mapping) (tags : List VlanId) (n : Mapped) → e.phase ≡ In mapping tags → violation_beside lab (a ++ b) e n.wiring n.mapping ≡ None → are_free_tags lab (a ++ e ∷ b) n.wiring n.tags ≡ true → IsSound n.wiring → IsShaped lab n.wiring n.mapping → Turned lab a b e (in_phase e (Moving (Some (mapped e.wiring mapping tags)) (Some n))) (BeginsChange name n.wiring n.mapping n.tags)
  turn_change name mapping tags n is_in ok free new_wiring shaped =
      let m = mapped e.wiring mapping tags in
      let f = in_phase e (Moving (Some m) (Some n)) in
      let was : claimed e New ≡ Some m = ap (λ p. claimed_in e.wiring p New) is_in in
      let new : TakesOne lab a b (Some n) = takes_new lab a b e e n ok free new_wiring shaped in
      let held : Holding lab (a ++ f ∷ b) = keeps f (Some m) (Some n) refl refl (of_claimed New m was) new
      (λ u v h g. tags_apart lab (a ++ e ∷ b) e n mid free u v (Has-right (tags_of (claimed e Old)) (tags_of (claimed e New)) u (subst (λ o. Has (tags_of o) u) (sym was) h)) g) in
      record {
        name = refl;
        wiring = own;
        holding = held;
        parts = λ w ready parts. begin_from lab a b e f w is_lab held mapping tags (Some n) is_in refl parts;
      }

  -- the end of a move inside
  turn_inside : (which : Which) (m : Mapped) (move : Move) → claimed e which ≡ Some m → ((w : World) → ReadyOne lab w e move → Ends lab e m w) → Turned lab a b e (inside e m) move
  turn_inside which m move is ends =
      let f = inside e m in
      let held : Holding lab (a ++ f ∷ b) = keeps f None (Some m) refl refl none (of_claimed which m is) (λ u v h g. absurd h) in
      record {
        name = refl;
        wiring = wired lab m (holding.fits e which m mid is);
        holding = held;
        parts = λ w ready parts. ended_in lab a b e f w is_lab held m.mapping m.tags m which refl refl is (ends w ready) parts;
      }

  -- and outside
  turn_outside : (move : Move) → ((w : World) → ReadyOne lab w e move → Gone lab e w) → Turned lab a b e (in_phase e Out) move
  turn_outside move gone =
      let f = in_phase e Out in
      let held : Holding lab (a ++ f ∷ b) = keeps f None None refl refl none none (λ u v h g. absurd h) in
      record {
        name = refl;
        wiring = own;
        holding = held;
        parts = λ w ready parts. ended_out lab a b e f w is_lab held refl (gone w ready) parts;
      }

  ready_commit : (w : World) (name : List ℕ) (p : Phase) → e.phase ≡ p → ReadyOne lab w e (Commits name) → EndsMove lab w e p true
  ready_commit w name p is ready = subst (λ q. EndsMove lab w e q true) is ready

  ready_abort : (w : World) (name : List ℕ) (p : Phase) → e.phase ≡ p → ReadyOne lab w e (Aborts name) → EndsMove lab w e p false
  ready_abort w name p is ready = subst (λ q. EndsMove lab w e q false) is ready

  if_some : (t : Bool) (f g : Experiment) → ◌≡◌ {A = Option Experiment} (if t then Some f else None) (Some g) → (t ≡ true) × (f ≡ g)
  if_some true f g h = (refl, same_Some f g h)
  if_some false f g h = none_some g h

  -- EACH MOVE THAT CAN FOLLOW
  pub turned : (es : List Experiment) (f : Experiment) (p : Phase) (move : Move) → es ≡ a ++ e ∷ b → others e.name es ≡ a ++ b → e.phase ≡ p → becomes lab es e p move ≡ Some f → ShapedFor lab e move → Turned lab a b e f move
  turned es f Out (BeginsIn name mapping tags) whole rest is h shaped =
      let m = mapped e.wiring mapping tags in
      let both = if_some (can_take lab es e m) (in_phase e (Moving None (Some m))) f h in
      let tests : (is_none (violation_beside lab (others e.name es) e m.wiring m.mapping) ≡ true) × (are_free_tags lab es m.wiring m.tags ≡ true) = and_parts _ _ both.0 in
      let ok : violation_beside lab (a ++ b) e m.wiring m.mapping ≡ None = none_is _ (subst (λ l. is_none (violation_beside lab l e m.wiring m.mapping) ≡ true) rest tests.0) in
      let free : are_free_tags lab (a ++ e ∷ b) m.wiring m.tags ≡ true = subst (λ l. are_free_tags lab l m.wiring m.tags ≡ true) whole tests.1 in
      subst (λ x. Turned lab a b e x (BeginsIn name mapping tags)) both.1 (turn_in name m refl is ok free shaped)
  turned es f (In mapping tags) (BeginsOut name) whole rest is h shaped = subst (λ x. Turned lab a b e x (BeginsOut name)) (same_Some _ f h) (turn_out name mapping tags is)
  turned es f (In mapping tags) (BeginsChange name wiring new new_tags) whole rest is h shaped =
      let n = mapped wiring new new_tags in
      let both = if_some (can_take lab es e n) (in_phase e (Moving (Some (mapped e.wiring mapping tags)) (Some n))) f h in
      let tests : (is_none (violation_beside lab (others e.name es) e n.wiring n.mapping) ≡ true) × (are_free_tags lab es n.wiring n.tags ≡ true) = and_parts _ _ both.0 in
      let ok : violation_beside lab (a ++ b) e n.wiring n.mapping ≡ None = none_is _ (subst (λ l. is_none (violation_beside lab l e n.wiring n.mapping) ≡ true) rest tests.0) in
      let free : are_free_tags lab (a ++ e ∷ b) n.wiring n.tags ≡ true = subst (λ l. are_free_tags lab l n.wiring n.tags ≡ true) whole tests.1 in
      subst (λ x. Turned lab a b e x (BeginsChange name wiring new new_tags)) both.1 (turn_change name mapping tags n is ok free shaped.0 shaped.1)
  turned es f (Moving None (Some new)) (Commits name) whole rest is h shaped =
      subst (λ x. Turned lab a b e x (Commits name)) (same_Some _ f h) (turn_inside New new (Commits name) (ap (λ q. claimed_in e.wiring q New) is) (λ w ready. ready_commit w name _ is ready))
  turned es f (Moving (Some old) (Some new)) (Commits name) whole rest is h shaped =
      subst (λ x. Turned lab a b e x (Commits name)) (same_Some _ f h) (turn_inside New new (Commits name) (ap (λ q. claimed_in e.wiring q New) is) (λ w ready. ready_commit w name _ is ready))
  turned es f (Moving (Some old) None) (Commits name) whole rest is h shaped =
      subst (λ x. Turned lab a b e x (Commits name)) (same_Some _ f h) (turn_outside (Commits name) (λ w ready. ready_commit w name _ is ready))
  turned es f (Moving None (Some new)) (Aborts name) whole rest is h shaped =
      subst (λ x. Turned lab a b e x (Aborts name)) (same_Some _ f h) (turn_outside (Aborts name) (λ w ready. ready_abort w name _ is ready))
  turned es f (Moving (Some old) (Some new)) (Aborts name) whole rest is h shaped =
      subst (λ x. Turned lab a b e x (Aborts name)) (same_Some _ f h) (turn_inside Old old (Aborts name) (ap (λ q. claimed_in e.wiring q Old) is) (λ w ready. ready_abort w name _ is ready))
  turned es f p move whole rest is h shaped = none_some f h
