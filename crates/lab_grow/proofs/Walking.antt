-- Experiments of both labs, one after another.
use Rattle.std.specs.Prelude.{slice_get}
use Rattle.std.proofs.Common.{◌≡◌, ℕ, zero, suc, ◌≤◌, Some, List, [], ◌∷◌, length, take, refl, sym, ap, subst, arith}
use Rattle.std.proofs.lemmas.List.{take_all}
use Rattle.std.proofs.lemmas.Option.{same_Some}
use Rattle.phys_lab.specs.Labs.{Lab}
use Rattle.virt_topo.specs.declared.experiment.Experiment.{Experiment}
use Rattle.records_model.specs.Labs.{Texts}
use Rattle.records_model.proofs.Finding.{none_some}
use Rattle.lab_grow.specs.Carried.{IsSame, AreSame, IsAtRest, AreAtRest}
use Rattle.lab_grow.specs.Named.{StaysIn, AreStaying}

abbrev pub Stays : Lab → Lab → Experiment → Experiment → Type 0
Stays old new e f = StaysIn old new e.wiring f.wiring e.phase f.phase

pub same_length : (t : Texts) (old new : Lab) (es fs : List Experiment) → AreSame t old new es fs → length es ≡ length fs
same_length t old new [] [] same = refl
same_length t old new [] (f ∷ fs) same = absurd same
same_length t old new (e ∷ es) [] same = absurd same
same_length t old new (e ∷ es) (f ∷ fs) same = ap suc (same_length t old new es fs same.1)

pub same_at : (t : Texts) (old new : Lab) (es fs : List Experiment) (n : ℕ) (e f : Experiment) → AreSame t old new es fs → slice_get es n ≡ Some e → slice_get fs n ≡ Some f
    → IsSame t old new e f
same_at t old new [] fs n e f same at there = none_some e at
same_at t old new (x ∷ es) [] n e f same at there = none_some f there
same_at t old new (x ∷ es) (y ∷ fs) zero e f same at there = subst (λ (z : Experiment). IsSame t old new z f) (same_Some x e at) (subst (λ (z : Experiment). IsSame t old new x z) (same_Some y f there) same.0)
same_at t old new (x ∷ es) (y ∷ fs) (suc n) e f same at there = same_at t old new es fs n e f same.1 at there

pub stays_start : (old new : Lab) (es fs : List Experiment) → AreStaying old new (take 0 es) (take 0 fs)
stays_start old new es fs = tt

pub stays_on : (old new : Lab) (es fs : List Experiment) (n : ℕ) (e f : Experiment) → slice_get es n ≡ Some e → slice_get fs n ≡ Some f → Stays old new e f
    → AreStaying old new (take n es) (take n fs) → AreStaying old new (take (suc n) es) (take (suc n) fs)
stays_on old new [] fs n e f at there stays h = none_some e at
stays_on old new (x ∷ es) [] n e f at there stays h = none_some f there
stays_on old new (x ∷ es) (y ∷ fs) zero e f at there stays h =
    (subst (λ (z : Experiment). Stays old new z y) (sym (same_Some x e at)) (subst (λ (z : Experiment). Stays old new e z) (sym (same_Some y f there)) stays), tt)
stays_on old new (x ∷ es) (y ∷ fs) (suc n) e f at there stays h = (h.0, stays_on old new es fs n e f at there stays h.1)

pub stays_all : (old new : Lab) (es fs : List Experiment) (n : ℕ) → length es ≤ n → length es ≡ length fs → AreStaying old new (take n es) (take n fs) → AreStaying old new es fs
stays_all old new es fs n all same h =
    subst (λ (l : List Experiment). AreStaying old new l fs) (take_all n es all) (subst (λ (l : List Experiment). AreStaying old new (take n es) l) (take_all n fs (omega (arith, all, same))) h)

pub rest_start : (es : List Experiment) → AreAtRest (take 0 es)
rest_start es = tt

pub rest_on : (es : List Experiment) (n : ℕ) (e : Experiment) → slice_get es n ≡ Some e → IsAtRest e.phase → AreAtRest (take n es) → AreAtRest (take (suc n) es)
rest_on [] n e at rest h = none_some e at
rest_on (x ∷ es) zero e at rest h = (subst (λ (z : Experiment). IsAtRest z.phase) (sym (same_Some x e at)) rest, tt)
rest_on (x ∷ es) (suc n) e at rest h = (h.0, rest_on es n e at rest h.1)

pub rest_all : (es : List Experiment) (n : ℕ) → length es ≤ n → AreAtRest (take n es) → AreAtRest es
rest_all es n all h = subst AreAtRest (take_all n es all) h
