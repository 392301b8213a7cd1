-- A network with one event more keeps what networks keep, and `$ns at` asks for one that fits.
use Rattle.std.proofs.Common.{◌≡◌, ◌⊎◌, ℕ, ◌<◌, Bool, true, false, List, [], ◌∷◌, ◌++◌, length, inl, inr, Result, Ok, Err, IfOk, sym, ap, subst, arith, length-append}
use Rattle.std.specs.Prelude.{nat_le, codes, ◌==◌, ◌&&◌, if◌then◌else◌}
use Rattle.std.proofs.lemmas.Bool.{le-leb, and_from, leb-false}
use Rattle.lab_base.specs.Lists.{Has}
use Rattle.lab_base.proofs.Members.{Has-map, Has-push}
use Rattle.lab_base.specs.declared.fault.Kind.TheVariants as kinds
use Rattle.lab_base.specs.declared.rates.Rates.{Rates}
use Rattle.virt_topo.specs.Soundness.{is_speed, are_rates}
use Rattle.lab_base.specs.declared.memory.Memory.{Memory}
use Rattle.ns_events.specs.declared.event.Event.{Event}
use Rattle.ns_events.specs.declared.event.What.{What}
use Rattle.ns_events.specs.declared.event.What.TheVariants as whats
use Rattle.ns_events.specs.Changes.{KeepsLimits}
use Rattle.ns_build.specs.declared.task.Planned.{Planned}
use Rattle.ns_build.specs.declared.task.Task.{Task}
use Rattle.ns_build.specs.declared.task.Task.TheVariants as tasks
use Rattle.ns_build.specs.Networks.{Network, named_event, events_of}
use Rattle.ns_build.specs.Words.{link_of, elements_of}
use Rattle.ns_build.specs.Checks.{need, refuse, word_at, counted, bandwidth_in, delay_in, loss_in}
use Rattle.ns_build.specs.Events.{time_in, is_form, rates_in, what_in, event_in, judged_at}
use Rattle.ns_build.specs.Kept.{IsKept, IsKeptEvent, AllKeepLimits}
use Rattle.ns_build.proofs.Fitting.{FitsEvent, Fits}
use Rattle.ns_build.proofs.Chains.{fault_of, okay, then_ok, need_ok, refuse_ok, ok_is, index_is_below}
use Rattle.ns_build.proofs.JudgedSettings.{loss_fits}
use Rattle.ns_build.proofs.Quantities.{speed_fits, delay_fits}

pub keeps_event : (n : Network) (e : Planned) → IsKept n → FitsEvent n e → IsKept (record n { events = n.events ++ e ∷ [] })
keeps_event n e k fit = record {
  topo = k.topo;
  plain = k.plain;
  node_names = k.node_names;
  link_names = k.link_names;
  few_events = omega (arith, fit.few, length-append n.events (e ∷ []));
  events = λ f h. by f (Has-push n.events e f h);
}
  where
    by : (f : Planned) → Has n.events f ⊎ (e ≡ f) → IsKeptEvent (record n { events = n.events ++ e ∷ [] }) f
    by f (inl h) = record { known = (k.events f h).known; limits = (k.events f h).limits }
    by f (inr is) = subst (λ (g : Planned). IsKeptEvent (record n { events = n.events ++ e ∷ [] }) g) is (record { known = fit.is.known; limits = fit.is.limits })

-- the rates of the events that are asked for keep the limits
all_keep : (n : Network) → IsKept n → AllKeepLimits (events_of n)
all_keep n k e h = let r = Has-map (named_event n) n.events e h in subst KeepsLimits (ap (λ (f : Event). f.what) r.2) (k.events r.0 r.1).limits

pub all_limited : (n : Network) (r : Result (List Event) Memory) → IsKept n → IfOk r (λ events. events ≡ events_of n) → IfOk r (λ events. AllKeepLimits events)
all_limited n (Ok events) k is = subst (λ (es : List Event). AllKeepLimits es) (sym is) (all_keep n k)
all_limited n (Err why) k is = tt

-- WHAT HAPPENS

rates_keep : (parts : List (List ℕ)) (what : What) → rates_in parts ≡ Ok what → KeepsLimits what
unfolding rates_in
rates_keep parts what h =
    let kbps = then_ok (bandwidth_in (word_at parts 2)) _ what h in
    let micros = then_ok (delay_in (word_at parts 3)) _ what kbps.2 in
    let ppm = then_ok (loss_in (word_at parts 4)) _ what micros.2 in
    let rates : Rates = record { kbps = kbps.0; micros = micros.0; ppm = ppm.0 } in
    let keep : are_rates rates ≡ true =
    and_from (is_speed kbps.0) (nat_le micros.0 10000000 && nat_le ppm.0 1000000) (speed_fits (word_at parts 2) kbps.0 kbps.1)
    (and_from (nat_le micros.0 10000000) (nat_le ppm.0 1000000) (delay_fits (word_at parts 3) micros.0 micros.1) (le-leb ppm.0 1000000 (loss_fits (word_at parts 4) ppm.0 ppm.1))) in
    subst KeepsLimits (ok_is (whats.Rates rates) what ppm.2) keep

what_keeps : (parts : List (List ℕ)) (what : What) → what_in parts ≡ Ok what → KeepsLimits what
unfolding what_in
what_keeps parts what h = by (is_form 2 (codes "down") parts) (is_form 2 (codes "up") parts) (is_form 5 (codes "rates") parts) h
  where
    by : (down up rates : Bool) → (if down then okay whats.Down else (if up then okay whats.Up else (if rates then rates_in parts else fault_of What kinds.Event))) ≡ Ok what → KeepsLimits what
    by true up rates e = subst KeepsLimits (ok_is whats.Down what e) tt
    by false true rates e = subst KeepsLimits (ok_is whats.Up what e) tt
    by false false true e = rates_keep parts what e
    by false false false e = absurd (cc e)

event_kept : (line : ℕ) (n : Network) (at : ℕ) (parts : List (List ℕ)) (e : Planned) → event_in line n at parts ≡ Ok e → IsKeptEvent n e
unfolding event_in
event_kept line n at parts e h =
    let some = then_ok (refuse kinds.Event (length parts == 0)) _ e h in
    let index = then_ok (need kinds.Link (link_of n (word_at parts 0))) _ e some.2 in
    let what = then_ok (what_in parts) _ e index.2 in
    let below : index.0 < length n.links = index_is_below (codes ":l") (length n.links) (word_at parts 0) index.0 (need_ok kinds.Link (link_of n (word_at parts 0)) index.0 index.1) in
    subst (IsKeptEvent n) (ok_is (record { at = at; index = index.0; what = what.0; line = line }) e what.2) (record { known = below; limits = what_keeps parts what.0 what.1 })

pub judged_at_fits : (line : ℕ) (n : Network) (words : List (List ℕ)) (task : Task) → judged_at line n words ≡ Ok task → Fits n task
unfolding judged_at
judged_at_fits line n words task h =
    let form = then_ok (counted 4 words) _ task h in
    let at = then_ok (time_in (word_at words 2)) _ task form.2 in
    let event = then_ok (event_in line n at.0 (elements_of (word_at words 3))) _ task at.2 in
    let room = then_ok (refuse kinds.Limit (nat_le 1024 (length n.events))) _ task event.2 in
    let fit : FitsEvent n event.0 = record { few = leb-false 1024 (length n.events) (refuse_ok kinds.Limit (nat_le 1024 (length n.events)) room.0 room.1); is = event_kept line n at.0 (elements_of (word_at words 3)) event.0 event.1 } in
    subst (Fits n) (ok_is (tasks.AddEvent event.0) task room.2) fit
