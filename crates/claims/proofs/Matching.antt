-- Claims by name beside the experiments that they are of.
use Rattle.std.specs.List.{list_any, sum_by}
use Rattle.std.specs.Str.{bytes_eq}
use Rattle.std.proofs.Common.{◌≡◌, ◌≢◌, ◌⊎◌, inl, inr, ℕ, ◌+◌, ◌||◌, Bool, true, false, if◌then◌else◌, Option, Some, None, List, [], ◌∷◌, ◌++◌, refl, sym, ap, ◌∙◌, subst, arith}
use Rattle.std.proofs.lemmas.Bool.{cases_Bool}
use Rattle.std.proofs.lemmas.List.Sums.{sum_by-cons}
use Rattle.std.proofs.lemmas.Slice.Eq.{bytes_eq-Decides}
use Rattle.lab_base.specs.Lists.{Has, Apart}
use Rattle.lab_base.proofs.Members.{Has-append, Has-either}
use Rattle.lab_base.proofs.Bytes.{bytes_other}
use Rattle.lab_base.proofs.Tests.{or_swapped}
use Rattle.phys_lab.specs.Labs.{Lab}
use Rattle.virt_topo.specs.declared.experiment.Experiment.{Experiment}
use Rattle.lab_model.proofs.ListLaws.{apart_drop}
use Rattle.lab_model.proofs.Records.{apart_mid, Has_mid, Has_other}
use Rattle.claims.specs.declared.claim.Claim.{Claim}
use Rattle.claims.specs.declared.claim.Entry.{Entry}
use Rattle.claims.specs.Held.{claim_use, use_by, claim_named, others}
use Rattle.claims.specs.Experiments.{standing}
use Rattle.claims.proofs.Entries.{others_has, others_apart, others_all, use_rest}

abbrev pub Differs : Entry → Entry → Type 0
Differs f g = f.exp ≢ g.exp

-- the others have other names
pub rest_names : (exp : List ℕ) (fs : List Entry) → Apart Differs fs → (f : Entry) → Has (others exp fs) f → f.exp ≢ exp
rest_names exp [] apart f among = absurd among
rest_names exp (g ∷ fs) apart f among = elim (cases_Bool (bytes_eq g.exp exp)) [
  | inl is_so ↦
      let later : Has fs f = subst (λ l. Has l f) (ap (λ b. if b then fs else g ∷ others exp fs) is_so) among in
      λ same. apart.0 f later ((bytes_eq-Decides g.exp exp).0 is_so ∙ sym same)
  | inr not_so ↦
      let later : Has (g ∷ others exp fs) f = subst (λ l. Has l f) (ap (λ b. if b then fs else g ∷ others exp fs) not_so) among in
      elim later [
        | inl same ↦ λ is. false_true (sym not_so ∙ (bytes_eq-Decides g.exp exp).1 (ap (λ (x : Entry). x.exp) same ∙ is))
        | inr more ↦ rest_names exp fs apart.1 f more
      ]
]
  where
    false_true : false ≡ true → ⊥
    false_true e = cc e

-- and keep their claims
rest_claims : (name exp : List ℕ) (fs : List Entry) → exp ≢ name → claim_named name (others exp fs) ≡ claim_named name fs
rest_claims name exp [] apart = refl
rest_claims name exp (g ∷ fs) apart = elim (cases_Bool (bytes_eq g.exp exp)) [
  | inl is_so ↦
      let other : bytes_eq g.exp name ≡ false = bytes_other g.exp name (λ same. apart (sym ((bytes_eq-Decides g.exp exp).0 is_so) ∙ same)) in
      ap (λ b. claim_named name (if b then fs else g ∷ others exp fs)) is_so ∙ sym (ap (λ b. if b then Some g.claim else claim_named name fs) other)
  | inr not_so ↦
      ap (λ b. claim_named name (if b then fs else g ∷ others exp fs)) not_so ∙ ap (λ o. if bytes_eq g.exp name then Some g.claim else o) (rest_claims name exp fs apart)
]

-- claims are those of these experiments, whose names differ
pub record Match (lab : Lab) (fs : List Entry) (es : List Experiment) : Type 0 where
  pub once : Apart Differs fs
  pub known : (f : Entry) → Has fs f → (e : Experiment) × Has es e × (e.name ≡ f.exp)
  pub claims : (e : Experiment) → Has es e → claim_named e.name fs ≡ standing lab e
  pub names : Apart (λ (d e : Experiment). d.name ≢ e.name) es

-- THE CLAIMS OF THE OTHERS are those of the other experiments
pub match_rest : (lab : Lab) (fs : List Entry) (a b : List Experiment) (own : Experiment) → Match lab fs (a ++ own ∷ b) → Match lab (others own.name fs) (a ++ b)
match_rest lab fs a b own m = record {
  once = others_apart Differs own.name fs m.once;
  known = λ f h.
      let k = m.known f (others_has own.name fs f h) in
      elim (Has_mid a b own k.0 k.1) [
        | inl same ↦ absurd (rest_names own.name fs m.once f h (sym k.2 ∙ ap (λ (e : Experiment). e.name) (sym same)))
        | inr other ↦ (k.0, Has-either a b k.0 other, k.2)
      ];
  claims = λ e h. rest_claims e.name own.name fs (apart e (parted e h)) ∙ m.claims e (Has_other a b own e (parted e h));
  names = apart_drop (λ (d e : Experiment). d.name ≢ e.name) a b own m.names;
}
  where
    parted : (e : Experiment) → Has (a ++ b) e → Has a e ⊎ Has b e
    parted e h = Has-append a b e h

    apart : (e : Experiment) → Has a e ⊎ Has b e → own.name ≢ e.name
    apart e h = elim (apart_mid (λ (d e : Experiment). d.name ≢ e.name) a b own e m.names h) [ inl p ↦ p | inr p ↦ λ same. p (sym same) ]

pub none_known : (lab : Lab) (fs : List Entry) → Match lab fs [] → fs ≡ []
none_known lab [] m = refl
none_known lab (f ∷ fs) m = absurd ((m.known f (inl refl)).1)

-- ---- what all claims use, by the experiments
abbrev pub use_if : ℕ → Option Claim → ℕ
use_if t None = 0
use_if t (Some c) = claim_use t c

use_part : (t : ℕ) (exp : List ℕ) (fs : List Entry) (o : Option Claim) → claim_named exp fs ≡ o → use_by t fs ≡ use_by t (others exp fs) + use_if t o
use_part t exp fs None h = let same : use_by t (others exp fs) ≡ use_by t fs = ap (use_by t) (others_all exp fs h) in omega (arith, same)
use_part t exp fs (Some c) h = use_rest t exp fs c h

pub sums : (lab : Lab) (t : ℕ) (g : Experiment → ℕ) → ((e : Experiment) → use_if t (standing lab e) ≡ g e) → (fs : List Entry) (es : List Experiment) → Match lab fs es → use_by t fs ≡ sum_by g es
sums lab t g same fs [] m = ap (use_by t) (none_known lab fs m)
sums lab t g same fs (e ∷ es) m =
    omega (arith, use_part t e.name fs (standing lab e) (m.claims e (inl refl)), same e, sums lab t g same (others e.name fs) es (match_rest lab fs [] es e m), sum_by-cons g e es)

-- ---- whether one of the claims passes a test, by the experiments
abbrev pub test_if : (Claim → Bool) → Option Claim → Bool
test_if p None = false
test_if p (Some c) = p c

any_rest : (p : Claim → Bool) (exp : List ℕ) (fs : List Entry) (c : Claim) → claim_named exp fs ≡ Some c → list_any (λ f. p f.claim) fs ≡ (p c || list_any (λ f. p f.claim) (others exp fs))
any_rest p exp [] c h = absurd (cc h)
any_rest p exp (f ∷ fs) c h = elim (cases_Bool (bytes_eq f.exp exp)) [
  | inl is_so ↦
      let here : f.claim ≡ c = inside f.claim c (sym (ap (λ b. if b then Some f.claim else claim_named exp fs) is_so) ∙ h) in
      ap (λ d. p d || list_any (λ g. p g.claim) fs) here ∙ sym (ap (λ b. p c || list_any (λ (g : Entry). p g.claim) (if b then fs else f ∷ others exp fs)) is_so)
  | inr not_so ↦
      let more = any_rest p exp fs c (sym (ap (λ b. if b then Some f.claim else claim_named exp fs) not_so) ∙ h) in
      ap (λ b. p f.claim || b) more ∙ or_swapped (p f.claim) (p c) (list_any (λ g. p g.claim) (others exp fs))
      ∙ sym (ap (λ b. p c || list_any (λ (g : Entry). p g.claim) (if b then fs else f ∷ others exp fs)) not_so)
]
  where
    inside : (c d : Claim) → Some c ≡ Some d → c ≡ d
    inside c d e = cc e

any_part : (p : Claim → Bool) (exp : List ℕ) (fs : List Entry) (o : Option Claim) → claim_named exp fs ≡ o → list_any (λ f. p f.claim) fs ≡ (test_if p o || list_any (λ f. p f.claim) (others exp fs))
any_part p exp fs None h = ap (list_any (λ (f : Entry). p f.claim)) (sym (others_all exp fs h))
any_part p exp fs (Some c) h = any_rest p exp fs c h

pub anys : (lab : Lab) (p : Claim → Bool) (q : Experiment → Bool) (fs : List Entry) (es : List Experiment) → ((e : Experiment) → Has es e → test_if p (standing lab e) ≡ q e) → Match lab fs es → list_any (λ f. p f.claim) fs ≡ list_any q es
anys lab p q fs [] same m = ap (list_any (λ (f : Entry). p f.claim)) (none_known lab fs m)
anys lab p q fs (e ∷ es) same m =
    any_part p e.name fs (standing lab e) (m.claims e (inl refl))
    ∙ (λ i. same e (inl refl) i || anys lab p q (others e.name fs) es (λ d h. same d (inr h)) (match_rest lab fs [] es e m) i)
