-- Claims with one taken off or put on, and the tables.
use Rattle.std.specs.List.{position, position_or_len, remove}
use Rattle.std.specs.Str.{bytes_eq}
use Rattle.std.proofs.Common.{◌≡◌, ◌≢◌, inl, inr, ℕ, suc, ◌+◌, ◌<◌, ◌≤◌, ◌||◌, ◌==◌, Bool, true, false, not, cond, zero-add, if◌then◌else◌, Option, Some, None, List, [], ◌∷◌, ◌++◌, length, get_or, set, refl, sym, ap, ◌∙◌, subst, arith}
use Rattle.std.proofs.lemmas.Bool.{cases_eq, cases_lt, lt-ltb, le-ltb, eq-eqb, ne_eqb, cases_Bool}
use Rattle.std.proofs.lemmas.List.{get_or-set_same, get_or-set_other, length-set}
use Rattle.std.proofs.lemmas.List.Sums.{sum_by-cons, sum_by-append}
use Rattle.std.proofs.lemmas.Slice.Eq.{bytes_eq-Decides}
use Rattle.std.proofs.lemmas.Option.{same_Some}
use Rattle.std.proofs.Math.Bool.{or-true}
use Rattle.lab_base.specs.Lists.{Has, Apart}
use Rattle.lab_base.proofs.Members.{Has-append}
use Rattle.claims.specs.declared.claim.Claim.{Claim}
use Rattle.claims.specs.declared.claim.Entry.{Entry}
use Rattle.claims.specs.Held.{claim_use, is_in, use_by, owner_of, claim_named, others}
use Rattle.claims.specs.Adding.{ShareNothing}
use Rattle.claims.specs.Kept.{AreTwo}
use Rattle.claims.specs.Marks.{marked}

-- ---- a number among numbers
pub has_if : (n : ℕ) (ns : List ℕ) → is_in n ns ≡ true → Has ns n
has_if n [] h = absurd (cc h)
has_if n (m ∷ ns) h = elim (cases_eq m n) [
  | inl same ↦ inl same
  | inr apart ↦ inr (has_if n ns (sym (ap (λ b. b || is_in n ns) (ne_eqb m n apart)) ∙ h))
]

pub in_if : (n : ℕ) (ns : List ℕ) → Has ns n → is_in n ns ≡ true
in_if n [] h = absurd h
in_if n (m ∷ ns) (inl e) = ap (λ b. b || is_in n ns) (eq-eqb m n e)
in_if n (m ∷ ns) (inr h) = ap (λ b. (m == n) || b) (in_if n ns h) ∙ or-true (m == n)

pub out_if : (n : ℕ) (ns : List ℕ) → (Has ns n → ⊥) → is_in n ns ≡ false
out_if n ns none = elim (cases_Bool (is_in n ns)) [ inl is_so ↦ absurd (none (has_if n ns is_so)) | inr not_so ↦ not_so ]

-- ---- one value at several places
pub marked_at : {X : Type 0} (v d : X) (xs : List X) (places : List ℕ) (n : ℕ) → n < length xs → get_or (marked v xs places) n d ≡ (if is_in n places then v else get_or xs n d)
marked_at v d xs [] n h = refl
marked_at v d xs (p ∷ places) n h =
    marked_at v d (set xs p v) places n (omega (arith, h, length-set xs p v)) ∙ elim (cases_eq p n) [
      | inl same ↦
          ap (λ x. if is_in n places then v else x) (ap (λ m. get_or (set xs p v) m d) (sym same) ∙ get_or-set_same xs p v d (omega (arith, h, same)))
          ∙ both (is_in n places) ∙ sym (ap (λ b. if b || is_in n places then v else get_or xs n d) (eq-eqb p n same))
      | inr apart ↦
          ap (λ x. if is_in n places then v else x) (get_or-set_other xs p n v d (λ e. apart (sym e)))
          ∙ sym (ap (λ b. if b || is_in n places then v else get_or xs n d) (ne_eqb p n apart))
    ]
  where
    both : (b : Bool) → (if b then v else v) ≡ v
    both true = refl
    both false = refl

-- ---- the claims of the others
pub others_has : (exp : List ℕ) (es : List Entry) (e : Entry) → Has (others exp es) e → Has es e
others_has exp [] e h = h
others_has exp (f ∷ es) e h = by (bytes_eq f.exp exp) h (others_has exp es e)
  where
    by : (b : Bool) → Has (if b then es else f ∷ others exp es) e → (Has (others exp es) e → Has es e) → Has (f ∷ es) e
    by true h more = inr h
    by false (inl same) more = inl same
    by false (inr h) more = inr (more h)

pub others_fewer : (exp : List ℕ) (es : List Entry) → length (others exp es) ≤ length es
others_fewer exp [] = omega arith
others_fewer exp (f ∷ es) = by (bytes_eq f.exp exp) (others_fewer exp es)
  where
    by : (b : Bool) → length (others exp es) ≤ length es → length (if b then es else f ∷ others exp es) ≤ length (f ∷ es)
    by true h = omega arith
    by false h = omega (arith, h)

pub others_apart : (R : Entry → Entry → Type 0) (exp : List ℕ) (es : List Entry) → Apart R es → Apart R (others exp es)
others_apart R exp [] apart = apart
others_apart R exp (f ∷ es) apart = by (bytes_eq f.exp exp) (others_apart R exp es apart.1)
  where
    by : (b : Bool) → Apart R (others exp es) → Apart R (if b then es else f ∷ others exp es)
    by true more = apart.1
    by false more = (λ g h. apart.0 g (others_has exp es g h), more)

-- the entry of an experiment, and that the others share nothing with it
pub record Named (exp : List ℕ) (es : List Entry) (c : Claim) : Type 0 where
  pub entry : Entry
  pub among : Has es entry
  pub name : entry.exp ≡ exp
  pub claim : entry.claim ≡ c

pub named : (exp : List ℕ) (es : List Entry) (c : Claim) → claim_named exp es ≡ Some c → Named exp es c
named exp [] c h = absurd (cc h)
named exp (f ∷ es) c h = elim (cases_Bool (bytes_eq f.exp exp)) [
  | inl is_so ↦ record {
    entry = f;
    among = inl refl;
    name = (bytes_eq-Decides f.exp exp).0 is_so;
    claim = same_Some f.claim c (sym (ap (λ b. if b then Some f.claim else claim_named exp es) is_so) ∙ h);
  }
  | inr not_so ↦
      let more = named exp es c (sym (ap (λ b. if b then Some f.claim else claim_named exp es) not_so) ∙ h) in
      record { entry = more.entry; among = inr more.among; name = more.name; claim = more.claim }
]

flipped : (c d : Claim) → ShareNothing c d → ShareNothing d c
flipped c d s = record { nodes = λ n a b. s.nodes n b a; tags = λ id a b. s.tags id b a }

pub share_nothing : (exp : List ℕ) (es : List Entry) (c : Claim) → Apart AreTwo es → claim_named exp es ≡ Some c → (e : Entry) → Has (others exp es) e → ShareNothing e.claim c
share_nothing exp [] c apart h e among = absurd among
share_nothing exp (f ∷ es) c apart h e among = elim (cases_Bool (bytes_eq f.exp exp)) [
  | inl is_so ↦
      let here : f.claim ≡ c = same_Some f.claim c (sym (ap (λ b. if b then Some f.claim else claim_named exp es) is_so) ∙ h) in
      let later : Has es e = subst (λ l. Has l e) (ap (λ b. if b then es else f ∷ others exp es) is_so) among in
      subst (λ d. ShareNothing e.claim d) here (flipped f.claim e.claim (apart.0 e later).share)
  | inr not_so ↦
      let rest = sym (ap (λ b. if b then Some f.claim else claim_named exp es) not_so) ∙ h in
      let later : Has (f ∷ others exp es) e = subst (λ l. Has l e) (ap (λ b. if b then es else f ∷ others exp es) not_so) among in
      let there = named exp es c rest in
      elim later [
        | inl same ↦ subst (λ (x : Entry). ShareNothing x.claim c) same (subst (λ d. ShareNothing f.claim d) there.claim (apart.0 there.entry there.among).share)
        | inr more ↦ share_nothing exp es c apart.1 rest e more
      ]
]

-- the names of the others are other names
pub other_names : (exp : List ℕ) (es : List Entry) → Apart AreTwo es → (e : Entry) → Has (others exp es) e → e.exp ≢ exp
other_names exp [] apart e among = absurd among
other_names exp (f ∷ es) apart e among = elim (cases_Bool (bytes_eq f.exp exp)) [
  | inl is_so ↦
      let later : Has es e = subst (λ l. Has l e) (ap (λ b. if b then es else f ∷ others exp es) is_so) among in
      λ same. (apart.0 e later).names ((bytes_eq-Decides f.exp exp).0 is_so ∙ sym same)
  | inr not_so ↦
      let later : Has (f ∷ others exp es) e = subst (λ l. Has l e) (ap (λ b. if b then es else f ∷ others exp es) not_so) among in
      elim later [
        | inl same ↦ λ is. absurd (false_true (sym not_so ∙ (bytes_eq-Decides f.exp exp).1 (ap (λ (x : Entry). x.exp) same ∙ is)))
        | inr more ↦ other_names exp es apart.1 e more
      ]
]
  where
    false_true : false ≡ true → ⊥
    false_true e = cc e

-- ---- owners
module _ (numbers : Claim → List ℕ) where
  pub owner_none : (es : List Entry) (n : ℕ) → ((e : Entry) → Has es e → Has (numbers e.claim) n → ⊥) → owner_of numbers es n ≡ None
  owner_none [] n none = refl
  owner_none (e ∷ es) n none =
      ap (λ b. if b then Some e.exp else owner_of numbers es n) (out_if n (numbers e.claim) (none e (inl refl))) ∙ owner_none es n (λ f h. none f (inr h))

  pub owner_rest : (exp : List ℕ) (es : List Entry) (c : Claim) (n : ℕ) → claim_named exp es ≡ Some c → is_in n (numbers c) ≡ false → owner_of numbers es n ≡ owner_of numbers (others exp es) n
  owner_rest exp [] c n h out = refl
  owner_rest exp (f ∷ es) c n h out = elim (cases_Bool (bytes_eq f.exp exp)) [
    | inl is_so ↦
        let here : f.claim ≡ c = same_Some f.claim c (sym (ap (λ b. if b then Some f.claim else claim_named exp es) is_so) ∙ h) in
        let free : is_in n (numbers f.claim) ≡ false = ap (λ d. is_in n (numbers d)) here ∙ out in
        ap (λ b. if b then Some f.exp else owner_of numbers es n) free ∙ sym (ap (λ b. owner_of numbers (if b then es else f ∷ others exp es) n) is_so)
    | inr not_so ↦
        let rest = sym (ap (λ b. if b then Some f.claim else claim_named exp es) not_so) ∙ h in
        ap (λ o. if is_in n (numbers f.claim) then Some f.exp else o) (owner_rest exp es c n rest out) ∙ sym (ap (λ b. owner_of numbers (if b then es else f ∷ others exp es) n) not_so)
  ]

  pub owner_pushed : (es : List Entry) (e : Entry) (n : ℕ) → ((f : Entry) → Has es f → Has (numbers f.claim) n → Has (numbers e.claim) n → ⊥)
      → owner_of numbers (es ++ e ∷ []) n ≡ (if is_in n (numbers e.claim) then Some e.exp else owner_of numbers es n)
  owner_pushed [] e n apart = refl
  owner_pushed (f ∷ es) e n apart = elim (cases_Bool (is_in n (numbers f.claim))) [
    | inl is_so ↦
        let out = out_if n (numbers e.claim) (λ h. apart f (inl refl) (has_if n (numbers f.claim) is_so) h) in
        ap (λ b. if b then Some f.exp else owner_of numbers (es ++ e ∷ []) n) is_so ∙ sym (ap (λ b. if b then Some e.exp else owner_of numbers (f ∷ es) n) out ∙ ap (λ b. if b then Some f.exp else owner_of numbers es n) is_so)
    | inr not_so ↦
        ap (λ b. if b then Some f.exp else owner_of numbers (es ++ e ∷ []) n) not_so ∙ owner_pushed es e n (λ g h. apart g (inr h))
        ∙ sym (ap (λ b. if is_in n (numbers e.claim) then Some e.exp else (if b then Some f.exp else owner_of numbers es n)) not_so)
  ]

-- ---- uses
pub use_rest : (t : ℕ) (exp : List ℕ) (es : List Entry) (c : Claim) → claim_named exp es ≡ Some c → use_by t es ≡ use_by t (others exp es) + claim_use t c
use_rest t exp [] c h = absurd (cc h)
use_rest t exp (f ∷ es) c h = elim (cases_Bool (bytes_eq f.exp exp)) [
  | inl is_so ↦
      let here : f.claim ≡ c = same_Some f.claim c (sym (ap (λ b. if b then Some f.claim else claim_named exp es) is_so) ∙ h) in
      let uses : claim_use t f.claim ≡ claim_use t c = ap (λ d. claim_use t d) here in
      let rest : use_by t (others exp (f ∷ es)) ≡ use_by t es = ap (λ b. use_by t (if b then es else f ∷ others exp es)) is_so in
      omega (arith, sum_by-cons (λ (e : Entry). claim_use t e.claim) f es, uses, rest)
  | inr not_so ↦
      let more = use_rest t exp es c (sym (ap (λ b. if b then Some f.claim else claim_named exp es) not_so) ∙ h) in
      let rest : use_by t (others exp (f ∷ es)) ≡ use_by t (f ∷ others exp es) = ap (λ b. use_by t (if b then es else f ∷ others exp es)) not_so in
      omega (arith, sum_by-cons (λ (e : Entry). claim_use t e.claim) f es, sum_by-cons (λ (e : Entry). claim_use t e.claim) f (others exp es), more, rest)
]

pub use_pushed : (t : ℕ) (es : List Entry) (e : Entry) → use_by t (es ++ e ∷ []) ≡ use_by t es + claim_use t e.claim
use_pushed t es e = sum_by-append (λ (f : Entry). claim_use t f.claim) es (e ∷ []) ∙ ap (λ n. use_by t es + n) (zero-add (claim_use t e.claim))

pub apart_pushed : (R : Entry → Entry → Type 0) (es : List Entry) (e : Entry) → Apart R es → ((f : Entry) → Has es f → R f e) → Apart R (es ++ e ∷ [])
apart_pushed R [] e apart h = (λ f g. absurd g, tt)
apart_pushed R (f ∷ es) e apart h = (λ g among. elim (Has-append es (e ∷ []) g among) [ inl x ↦ apart.0 g x | inr x ↦ elim x [ inl same ↦ subst (λ y. R f y) same (h f (inl refl)) | inr none ↦ absurd none ] ], apart_pushed R es e apart.1 (λ g x. h g (inr x)))

-- ---- where an experiment stands
module _ (exp : List ℕ) where
  abbrev p : Entry → Bool
  p e = bytes_eq e.exp exp

  pub at_place : (es : List Entry) → position_or_len p es < length es → (remove es (position_or_len p es) ≡ others exp es) × ((d : Entry) → claim_named exp es ≡ Some (get_or es (position_or_len p es) d).claim)
  at_place [] h = absurd (omega (arith, h))
  at_place (e ∷ es) h = by (bytes_eq e.exp exp) h (at_place es)
    where
      by : (b : Bool) → cond (not b) (1 + position_or_len p es) 0 < length (e ∷ es) → (position_or_len p es < length es → (remove es (position_or_len p es) ≡ others exp es) × ((d : Entry) → claim_named exp es ≡ Some (get_or es (position_or_len p es) d).claim))
          → (remove (e ∷ es) (cond (not b) (1 + position_or_len p es) 0) ≡ (if b then es else e ∷ others exp es)) × ((d : Entry) → (if b then Some e.claim else claim_named exp es) ≡ Some (get_or (e ∷ es) (cond (not b) (1 + position_or_len p es) 0) d).claim)
      by true h more = (refl, λ d. refl)
      by false h more =
          let rest = more (omega (arith, h)) in
          let one : 1 + position_or_len p es ≡ suc (position_or_len p es) = omega arith in
          (rw one (ap (λ l. e ∷ l) rest.0), λ d. rw one (rest.1 d))

  pub no_place : (es : List Entry) → length es ≤ position_or_len p es → (others exp es ≡ es) × (claim_named exp es ≡ None)
  no_place [] h = (refl, refl)
  no_place (e ∷ es) h = by (bytes_eq e.exp exp) h (no_place es)
    where
      by : (b : Bool) → length (e ∷ es) ≤ cond (not b) (1 + position_or_len p es) 0 → (length es ≤ position_or_len p es → (others exp es ≡ es) × (claim_named exp es ≡ None)) → ((if b then es else e ∷ others exp es) ≡ e ∷ es) × ((if b then Some e.claim else claim_named exp es) ≡ None)
      by true h more = absurd (omega (arith, h))
      by false h more = let rest = more (omega (arith, h)) in (ap (λ l. e ∷ l) rest.0, rest.1)

-- the same of what a search answers
pub place_some : (exp : List ℕ) (es : List Entry) (at : ℕ) → position (λ e. bytes_eq e.exp exp) es ≡ Some at → (at < length es) × (remove es at ≡ others exp es) × ((d : Entry) → claim_named exp es ≡ Some (get_or es at d).claim)
place_some exp es at h = elim (cases_lt i (length es)) [
  | inl within ↦
      let is : i ≡ at = inside (sym (ap (λ b. cond b (Some i) None) (lt-ltb i (length es) within)) ∙ h) in
      let found = at_place exp es within in
      (subst (λ n. n < length es) is within, subst (λ n. remove es n ≡ others exp es) is found.0, λ d. found.1 d ∙ ap (λ n. Some (get_or es n d).claim) is)
  | inr beyond ↦ absurd (none (sym (ap (λ b. cond b (Some i) None) (le-ltb i (length es) beyond)) ∙ h))
]
  where
    i : ℕ
    i = position_or_len (λ e. bytes_eq e.exp exp) es

    inside : Some i ≡ Some at → i ≡ at
    inside e = cc

    none : ◌≡◌ {A = Option ℕ} None (Some at) → ⊥
    none e = cc e

pub place_none : (exp : List ℕ) (es : List Entry) → position (λ e. bytes_eq e.exp exp) es ≡ None → (others exp es ≡ es) × (claim_named exp es ≡ None)
place_none exp es h = elim (cases_lt i (length es)) [
  | inl within ↦ absurd (some (sym (ap (λ b. cond b (Some i) None) (lt-ltb i (length es) within)) ∙ h))
  | inr beyond ↦ no_place exp es beyond
]
  where
    i : ℕ
    i = position_or_len (λ e. bytes_eq e.exp exp) es

    some : Some i ≡ None → ⊥
    some e = cc e

-- without a claim of it the others are all
pub others_all : (exp : List ℕ) (es : List Entry) → claim_named exp es ≡ None → others exp es ≡ es
others_all exp [] h = refl
others_all exp (e ∷ es) h = by (bytes_eq e.exp exp) h (others_all exp es)
  where
    by : (b : Bool) → (if b then Some e.claim else claim_named exp es) ≡ None → (claim_named exp es ≡ None → others exp es ≡ es) → (if b then es else e ∷ others exp es) ≡ e ∷ es
    by true h more = absurd (cc h)
    by false h more = ap (λ l. e ∷ l) (more h)
