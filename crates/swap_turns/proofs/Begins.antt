-- Which experiment moves after a Begin.
use Rattle.std.proofs.Common.{◌≡◌, ◌≤◌, Bool, true, false, cond, List, length, Option, Some, None, refl, sym, ap, ◌∙◌}
use Rattle.std.proofs.lemmas.Option.{same_Some}
use Rattle.lab_base.specs.declared.ids.VlanId.{VlanId}
use Rattle.phys_lab.specs.Labs.{Lab}
use Rattle.virt_topo.specs.declared.experiment.Experiment.{Experiment}
use Rattle.virt_topo.specs.declared.experiment.Phase.TheVariants.{Out, In, Moving}
use Rattle.virt_topo.specs.declared.mapping.Mapping.{Mapping}
use Rattle.virt_topo.specs.declared.wiring.Wiring.{Wiring}
use Rattle.virt_topo.specs.Wirings.{mapped}
use Rattle.journal_rec.specs.declared.record.Way.{Way}
use Rattle.journal_rec.specs.declared.record.Way.TheVariants.{In as WayIn, Out as WayOut, Change, Change2}
use Rattle.lab_model.specs.Courses.{commands, undo, whole}
use Rattle.records_model.specs.Labs.{LabState, BeginsIn, BeginsOut, BeginsChange, moved, moved_of, moved_one, in_state, with_replaced, becomes, can_take, find, replace, in_phase}
use Rattle.records_model.proofs.Finding.{none_some}
use Rattle.records_model.proofs.Swaps.{find_replaced}
use Rattle.swap_txn.specs.States.{unsent, is_over}
use Rattle.swap_turns.specs.Legs.{Forth, leg_view, plan_of}
use Rattle.swap_turns.specs.Swaps.{swap_in, swap_out, swap_over, Moves}

replaced : (lab : Lab) (es : List Experiment) (was g : Experiment) (u : LabState) → find was.name es ≡ Some was → g.name ≡ was.name → in_state lab (with_replaced was.name es (Some g)) ≡ Some u → find was.name u.experiments ≡ Some g
replaced lab es was g u found same h = ap (λ (x : LabState). find was.name x.experiments) (sym (same_Some (record { lab = Some lab; experiments = replace was.name g es }) u h)) ∙ find_replaced was.name es was g found same

replaced_if : (b : Bool) (lab : Lab) (es : List Experiment) (was g : Experiment) (u : LabState) → find was.name es ≡ Some was → g.name ≡ was.name → in_state lab (with_replaced was.name es (cond b (Some g) None)) ≡ Some u → find was.name u.experiments ≡ Some g
replaced_if true lab es was g u found same h = replaced lab es was g u found same h
replaced_if false lab es was g u found same h = none_some u h

begun_in : (o : Option Lab) (es : List Experiment) (was : Experiment) (mapping : Mapping) (tags : List VlanId) (u : LabState) → find was.name es ≡ Some was → was.phase ≡ Out → moved_of o es (BeginsIn was.name mapping tags) ≡ Some u
    → find was.name u.experiments ≡ Some (in_phase was (Moving None (Some (mapped was.wiring mapping tags))))
begun_in None es was mapping tags u found out h = none_some u h
begun_in (Some lab) es was mapping tags u found out h =
    replaced_if (can_take lab es was (mapped was.wiring mapping tags)) lab es was _ u found refl
    (sym (ap (λ x. in_state lab (moved_one lab es was.name x (BeginsIn was.name mapping tags))) found ∙ ap (λ q. in_state lab (with_replaced was.name es (becomes lab es was q (BeginsIn was.name mapping tags)))) out) ∙ h)

begun_out : (o : Option Lab) (es : List Experiment) (was : Experiment) (mapping : Mapping) (tags : List VlanId) (u : LabState) → find was.name es ≡ Some was → was.phase ≡ In mapping tags → moved_of o es (BeginsOut was.name) ≡ Some u
    → find was.name u.experiments ≡ Some (in_phase was (Moving (Some (mapped was.wiring mapping tags)) None))
begun_out None es was mapping tags u found is_in h = none_some u h
begun_out (Some lab) es was mapping tags u found is_in h =
    replaced lab es was _ u found refl
    (sym (ap (λ x. in_state lab (moved_one lab es was.name x (BeginsOut was.name))) found ∙ ap (λ q. in_state lab (with_replaced was.name es (becomes lab es was q (BeginsOut was.name)))) is_in) ∙ h)

begun_over : (o : Option Lab) (es : List Experiment) (was : Experiment) (mapping : Mapping) (tags : List VlanId) (w : Wiring) (other : Mapping) (others : List VlanId) (u : LabState) → find was.name es ≡ Some was → was.phase ≡ In mapping tags
    → moved_of o es (BeginsChange was.name w other others) ≡ Some u → find was.name u.experiments ≡ Some (in_phase was (Moving (Some (mapped was.wiring mapping tags)) (Some (mapped w other others))))
begun_over None es was mapping tags w other others u found is_in h = none_some u h
begun_over (Some lab) es was mapping tags w other others u found is_in h =
    replaced_if (can_take lab es was (mapped w other others)) lab es was _ u found refl
    (sym (ap (λ x. in_state lab (moved_one lab es was.name x (BeginsChange was.name w other others))) found ∙ ap (λ q. in_state lab (with_replaced was.name es (becomes lab es was q (BeginsChange was.name w other others)))) is_in) ∙ h)

pub moves_in : (s u : LabState) (was : Experiment) (mapping : Mapping) (tags : List VlanId) → length was.name ≤ 32 → find was.name s.experiments ≡ Some was → was.phase ≡ Out → moved s (BeginsIn was.name mapping tags) ≡ Some u → Moves (swap_in was mapping tags) u
moves_in s u was mapping tags short found out gives = record { is_swap = tt; short = short; exp = in_phase was (Moving None (Some (mapped was.wiring mapping tags))); found = begun_in s.lab s.experiments was mapping tags u found out gives; moving = refl }

pub moves_out : (s u : LabState) (was : Experiment) (mapping : Mapping) (tags : List VlanId) → length was.name ≤ 32 → find was.name s.experiments ≡ Some was → was.phase ≡ In mapping tags → moved s (BeginsOut was.name) ≡ Some u → Moves (swap_out was mapping tags) u
moves_out s u was mapping tags short found is_in gives = record { is_swap = tt; short = short; exp = in_phase was (Moving (Some (mapped was.wiring mapping tags)) None); found = begun_out s.lab s.experiments was mapping tags u found is_in gives; moving = refl }

pub moves_over : (s u : LabState) (was : Experiment) (mapping : Mapping) (tags : List VlanId) (w : Wiring) (other : Mapping) (others : List VlanId) → length was.name ≤ 32 → find was.name s.experiments ≡ Some was → was.phase ≡ In mapping tags
    → moved s (BeginsChange was.name w other others) ≡ Some u → Moves (swap_over was mapping tags w other others) u
moves_over s u was mapping tags w other others short found is_in gives = record { is_swap = tt; short = short; exp = in_phase was (Moving (Some (mapped was.wiring mapping tags)) (Some (mapped w other others))); found = begun_over s.lab s.experiments was mapping tags w other others u found is_in gives; moving = refl }

-- nothing was sent of a plan whose way leads over
pub unsent_over : (was : Experiment) (mapping : Mapping) (tags : List VlanId) (w : Wiring) (other : Mapping) (others : List VlanId) (lab : Lab) (way : Way) → is_over way ≡ true
    → unsent was.name way (commands lab (Some (mapped was.wiring mapping tags)) (Some (mapped w other others))) (undo lab (Some (mapped was.wiring mapping tags)) (Some (mapped w other others)))
    ≡ leg_view (swap_over was mapping tags w other others) lab Forth (whole (plan_of (swap_over was mapping tags w other others) lab Forth))
unsent_over was mapping tags w other others lab (Change top map new) over = refl
unsent_over was mapping tags w other others lab (Change2 top map new) over = refl
unsent_over was mapping tags w other others lab (WayIn map new) over = absurd (cc over)
unsent_over was mapping tags w other others lab WayOut over = absurd (cc over)
