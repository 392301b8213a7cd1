-- A name is busy exactly where it is one of those of the open swaps.
use Rattle.std.proofs.Common.{◌≡◌, inl, inr, ℕ, Bool, true, false, ◌||◌, List, [], ◌∷◌, sym, ap, ◌∙◌, subst}
use Rattle.std.proofs.lemmas.Bool.{cases_Bool, false_from_ne_true, or_left}
use Rattle.std.proofs.lemmas.Slice.Eq.{bytes_eq-Decides}
use Rattle.std.specs.Str.{bytes_eq}
use Rattle.lab_base.specs.Lists.{Has}
use Rattle.lab_base.proofs.Members.{Has-map, Has-mapped}
use Rattle.recovery.specs.Due.{is_busy}
use Rattle.swap_mgr.specs.Open.{HasOpen}
use Rattle.swap_txn.specs.Facts.{exp_of}
use Rattle.swap_txn.specs.declared.live.Live.{Live}
use Rattle.lab_tasks.specs.OpenNames.{has_open, open_names}

-- A NAME IS BUSY exactly where it is one of these
pub busy_has : (names : List (List ℕ)) (exp : List ℕ) → is_busy names exp ≡ true → Has names exp
busy_has [] exp h = absurd (cc h)
busy_has (n ∷ names) exp h = elim (cases_Bool (bytes_eq n exp)) [
  | inl yes' ↦ inl ((bytes_eq-Decides n exp).0 yes')
  | inr no' ↦ inr (busy_has names exp (sym (ap (λ (b : Bool). b || is_busy names exp) no') ∙ h))
]

pub has_busy : (names : List (List ℕ)) (exp : List ℕ) → Has names exp → is_busy names exp ≡ true
has_busy [] exp h = absurd h
has_busy (n ∷ names) exp (inl is) = or_left (bytes_eq n exp) (is_busy names exp) ((bytes_eq-Decides n exp).1 is)
has_busy (n ∷ names) exp (inr h) = elim (cases_Bool (bytes_eq n exp)) [
  | inl yes' ↦ or_left (bytes_eq n exp) (is_busy names exp) yes'
  | inr no' ↦ ap (λ (b : Bool). b || is_busy names exp) no' ∙ has_busy names exp h
]

-- THE MANAGER HAS A SWAP of the name exactly where the name is busy
pub open_busy : (swaps : List Live) (exp : List ℕ) → HasOpen swaps exp → has_open swaps exp ≡ true
open_busy swaps exp o = subst (λ (n : List ℕ). has_open swaps n ≡ true) o.named (has_busy (open_names swaps) (exp_of o.state) (Has-mapped exp_of swaps o.state o.stands))

pub busy_open : (swaps : List Live) (exp : List ℕ) → has_open swaps exp ≡ true → HasOpen swaps exp
busy_open swaps exp h =
    let x = Has-map exp_of swaps exp (busy_has (open_names swaps) exp h) in
    record { state = x.0; stands = x.1; named = x.2 }

pub not_busy : (swaps : List Live) (exp : List ℕ) → (HasOpen swaps exp → ⊥) → has_open swaps exp ≡ false
not_busy swaps exp none = false_from_ne_true (has_open swaps exp) (λ h. none (busy_open swaps exp h))
