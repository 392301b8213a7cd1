-- A list of commands among swaps that are open: each of these is as it was, and none of its commands is among the steps of the list.
use Rattle.std.proofs.Common.{inl, ◌≡◌, ℕ, Bool, true, is_some, List, [], ◌++◌, Option, Some, Result, Ok, refl, sym, ◌∙◌, ap, subst}
use Rattle.std.proofs.lemmas.List.{append-nil}
use Rattle.lab_base.specs.Lists.{AllDiffer, Has}
use Rattle.phys_lab.specs.Labs.{Lab}
use Rattle.plant.specs.Events.{Event}
use Rattle.virt_topo.specs.declared.experiment.Experiment.{Experiment}
use Rattle.lab_model.specs.OnCourse.{own_events}
use Rattle.records_model.specs.Labs.{LabState, Sane, find, lab_in}
use Rattle.script_text.specs.declared.reply.Reply.{Reply}
use Rattle.swap_turns.specs.Swaps.{Moves}
use Rattle.lab_core.specs.LabSteps.{IsDoneBy, does, no_memory}
use Rattle.lab_core.specs.Lists.{DoesList, Ground, Listing, Past, set_at, broken, listed, more, no_memory as list_no_memory, none, over, refused, wanting}
use Rattle.lab_core.specs.Sessions.{OpenSwap, Open, Setting, After, name_in, names_of, open_by}
use Rattle.lab_core.proofs.Listings.{IsAboutThese}
use Rattle.lab_core.proofs.Others.{Stays, both_stay, same_stays}
use Rattle.lab_core.proofs.Sessions.{not_shut}
use Rattle.complete.proofs.Continued.{Continues, along, does_keep, same_opens}
use Rattle.complete.proofs.OwnCommands.{own_both}

one_found : (name : List ℕ) (s : LabState) (e f : Experiment) → find name s.experiments ≡ Some e → find name s.experiments ≡ Some f → e ≡ f
one_found name s e f x y = let same : Some e ≡ Some f = sym x ∙ y in cc same

-- FROM A LAB with these open swaps
module _ {X : Type 0} (l : Listing X) (Holds : X → Type 0) (about : List ℕ → Bool) (are : IsAboutThese l Holds about) (opens : List OpenSwap) (differ : AllDiffer (names_of opens)) where
  abbrev AreOk : LabState → Type 0
  AreOk s = (o : OpenSwap) → Has opens o → Sane s × (is_some s.lab ≡ true)

  abbrev AllMoveIn : LabState → Type 0
  AllMoveIn s = (o : OpenSwap) → Has opens o → Moves o.running.swap s

  module _ (s : LabState) (ok : AreOk s) (moves : AllMoveIn s) where
    -- to another lab by these steps
    abbrev Kept : List Event → LabState → Type 0
    Kept own u = (o : OpenSwap) (has : Has opens o) → (own_events (lab_in s.lab) (moves o has).exp own ≡ []) × Stays (name_in o) s u × Sane u

    -- by one command
    next_kept : (set : Setting) (at : X) → Holds at → (own : List Event) (reply : Reply) (lab : LabState) (to : List OpenSwap) → IsDoneBy (l.Judges at set s opens) set s opens own (open_by reply lab to) → (to ≡ opens) × Kept own lab
    next_kept set at holds own reply lab to (does j judged d) =
        let f = are.each at holds set s opens j judged in does_keep own set s opens ok moves differ (open_by reply lab to) to refl f.command j f.fit f.plain d
    next_kept set at holds own reply lab to (no_memory wants) = not_shut to (sym (ap (λ (x : After). x.session) wants.after_is))

  module _ (base : Ground) (trace : Option (List Event)) (s : LabState) (ok : AreOk s) (moves : AllMoveIn s) where
    past_kept : (start : X) → Holds start → (own : List Event) (at : X) (u : LabState) (to : List OpenSwap) → Past l base trace start s opens own at u to → (to ≡ opens) × Kept s ok moves own u × Holds at
    past_kept start first own at u to none = (refl, λ o has. (refl, same_stays (name_in o) s s (ok o has).1 refl, (ok o has).0), first)
    past_kept start holds own at u to (more front at' mid between past steps reply lab to' next) =
        let first = past_kept start holds front at' mid between past in
        let ok_mid : AreOk mid = (λ o has. let k = first.1 o has in (k.2, k.1.set)) in
        let moves_mid : AllMoveIn mid =
        (λ o has. let m = moves o has in let k = first.1 o has in record { is_swap = m.is_swap; short = m.short; exp = m.exp; found = k.1.same ∙ m.found; moving = m.moving }) in
        let done = subst (λ (x : List OpenSwap). IsDoneBy (l.Judges at' (set_at base next.length) mid x) (set_at base next.length) mid x steps (open_by reply lab to')) first.0 next.done in
        let second = next_kept mid ok_mid moves_mid (set_at base next.length) at' first.2 steps reply lab to' done in (
          second.0,
          λ o has.
              let k = first.1 o has in
              let n = second.1 o has in
              let e = (moves o has).exp in (
                own_both (lab_in s.lab) e front steps ∙ (λ i. k.0 i ++ own_events (lab_in s.lab) e steps) ∙ subst (λ (l : Option Lab). own_events (lab_in l) e steps ≡ []) k.1.lab n.0,
                both_stay (name_in o) s mid lab k.1 n.1,
                n.2,
              ),
          are.on at' reply first.2,
        )

    kept_continue : (own : List Event) (u : LabState) (to : List OpenSwap) (told : Option Reply) → (to ≡ opens) × Kept s ok moves own u → (o : OpenSwap) → Has to o → Continues s u opens own told o.running
    kept_continue own u to told k o has_now =
        let has = subst (λ (l : List OpenSwap). Has l o) k.0 has_now in
        let each = k.1 o has in
        let m = moves o has in
        along o has [] (ap (λ c. record o.running { course = c }) (sym (append-nil o.running.course))) each.1 (λ e found. ap (λ x. own_events (lab_in s.lab) x own) (one_found (name_in o) s e m.exp found m.found) ∙ each.0) (inl refl)

  -- THE WHOLE
  pub list_continues : (JudgedList : Result X Reply → Type 0) → ((start : X) → JudgedList (Ok start) → Holds start) → (base : Ground) (trace : Option (List Event)) (s : LabState) (ok : AreOk s) (moves : AllMoveIn s) (own : List Event) (after : After) (to : List OpenSwap) → after.session ≡ Open to → DoesList l JudgedList base trace s opens own after
      → (o : OpenSwap) → Has to o → Continues s after.lab opens own after.reply o.running
  list_continues JudgedList starts base trace s ok moves own after to open_now (refused reply judged d) =
      kept_continue base trace s ok moves own after.lab to after.reply (
        same_opens opens to (sym (ap (λ (x : After). x.session) d.after_is) ∙ open_now),
        λ o has.
            let lab = ap (λ (x : After). x.lab) d.after_is in
            (ap (λ l. own_events (lab_in s.lab) (moves o has).exp l) d.nothing, same_stays (name_in o) s after.lab (ok o has).1 lab, subst Sane (sym lab) (ok o has).0),
      )
  list_continues JudgedList starts base trace s ok moves own after to open_now (list_no_memory wants) = not_shut to (sym (ap (λ (x : After). x.session) wants.after_is) ∙ open_now)
  list_continues JudgedList starts base trace s ok moves own after to open_now (listed start judged (over at lab new past over_here after_is)) =
      let k = past_kept base trace s ok moves start (starts start judged) own at lab new past in
      let same : to ≡ new = same_opens new to (sym (ap (λ (x : After). x.session) after_is) ∙ open_now) in
      let lab_is : lab ≡ after.lab = sym (ap (λ (x : After). x.lab) after_is) in
      kept_continue base trace s ok moves own after.lab to after.reply (same ∙ k.0, subst (λ (u : LabState). Kept s ok moves own u) lab_is k.1)
  list_continues JudgedList starts base trace s ok moves own after to open_now (listed start judged (broken front steps at mid between told lab own_is past next after_is)) = not_shut to (sym (ap (λ (x : After). x.session) after_is) ∙ open_now)
  list_continues JudgedList starts base trace s ok moves own after to open_now (listed start judged (wanting at lab new past after_is)) = not_shut to (sym (ap (λ (x : After). x.session) after_is) ∙ open_now)
