-- To each moment of a run there is one that is tested, itself or an earlier one, where the needs fit only if they fit there.
use Rattle.std.proofs.Common.{◌≡◌, ◌⊎◌, ◌<◌, ◌≤◌, ◌+◌, ℕ, Bool, true, false, cond, List, [], ◌∷◌, ◌++◌, map, filter, refl, sym, ap, subst, inl, inr, arith}
use Rattle.std.specs.Prelude.{nat_le, nat_lt, ◌&&◌}
use Rattle.std.proofs.lemmas.Bool.{and_from, and_parts, cases_lt, leb-true, ltb-true, le-leb, lt-ltb, false≢true}
use Rattle.lab_base.specs.Lists.{Has}
use Rattle.lab_base.specs.declared.ids.NodeId.{NodeId}
use Rattle.lab_base.proofs.Members.{Has-append, Has-left, Has-right, Has-map, Has-mapped, Has-filter, Has-filtered}
use Rattle.phys_lab.specs.Labs.{Lab}
use Rattle.lab_ahead.specs.declared.batch.Promise.{Promise}
use Rattle.lab_ahead.specs.declared.times.Left.{Left}
use Rattle.lab_ahead.specs.Moments.{FitsAt, FitsFor, IsTested, first_moment, holds_at, left_at, needs_at, starts_within}
use Rattle.lab_ahead.proofs.NeedLaws.{fewer_needs, more_left}

-- the last of these moments up to t
record Last (promises : List Promise) (now t : ℕ) : Type 0 where
  pub moment : ℕ
  pub after_now : now ≤ moment
  pub before_t : moment ≤ t
  pub tested : (moment ≡ now) ⊎ Has (map (λ promise. promise.from) promises) moment
  pub none_later : (x : Promise) → Has promises x → x.from ≤ t → x.from ≤ moment

one_more : (p : Promise) (promises : List Promise) (now t : ℕ) → Last promises now t → Last (p ∷ promises) now t
one_more p promises now t later = elim (cases_lt t p.from) [
  | inl past ↦ record {
    moment = later.moment;
    after_now = later.after_now;
    before_t = later.before_t;
    tested = also later.moment later.tested;
    none_later = λ x h early. elim h [ inl e ↦ absurd (too_late x.from (ap (λ (v : Promise). v.from) e) past early) | inr there ↦ later.none_later x there early ];
  }
  | inr begun ↦ elim (cases_lt later.moment p.from) [
    | inl after ↦ record {
      moment = p.from;
      after_now = up now later.moment later.after_now after;
      before_t = begun;
      tested = inr (inl refl);
      none_later = λ x h early. elim h [ inl e ↦ itself x.from (ap (λ (v : Promise). v.from) e) | inr there ↦ up x.from later.moment (later.none_later x there early) after ];
    }
    | inr before ↦ record {
      moment = later.moment;
      after_now = later.after_now;
      before_t = later.before_t;
      tested = also later.moment later.tested;
      none_later = λ x h early. elim h [ inl e ↦ by_then x.from later.moment (ap (λ (v : Promise). v.from) e) before | inr there ↦ later.none_later x there early ];
    }
  ]
]
  where
    also : (m : ℕ) → (m ≡ now) ⊎ Has (map (λ promise. promise.from) promises) m → (m ≡ now) ⊎ Has (map (λ promise. promise.from) (p ∷ promises)) m
    also m (inl e) = inl e
    also m (inr h) = inr (inr h)

    too_late : (a : ℕ) → p.from ≡ a → t < p.from → a ≤ t → ⊥
    too_late a e past early = omega arith

    itself : (a : ℕ) → p.from ≡ a → a ≤ p.from
    itself a e = omega arith

    up : (a b : ℕ) → a ≤ b → b < p.from → a ≤ p.from
    up a b le lt = omega arith

    by_then : (a b : ℕ) → p.from ≡ a → p.from ≤ b → a ≤ b
    by_then a b e le = omega arith

last_tested : (promises : List Promise) (now t : ℕ) → now ≤ t → Last promises now t
last_tested [] now t le = record { moment = now; after_now = omega arith; before_t = le; tested = inl refl; none_later = λ x h early. absurd h }
last_tested (p ∷ promises) now t le = one_more p promises now t (last_tested promises now t le)

pub later : (lab : Lab) (left : List Left) (promises : List Promise) (now t : ℕ) → now ≤ t
    → (s : ℕ) × (s ≤ t) × IsTested promises now s × (FitsAt lab left promises s → FitsAt lab left promises t)
later lab left promises now t le =
    let found = last_tested promises now t le in (
      found.moment,
      found.before_t,
      (found.after_now, found.tested),
      λ fits. more_left lab (left_at left found.moment) (left_at left t) (needs_at promises t) (still_left found)
          (fewer_needs lab (left_at left found.moment) (holds_at found.moment) (holds_at t) [] promises (still_needed found) fits),
    )
  where
    still_left : (found : Last promises now t) → (node : NodeId) → Has (left_at left found.moment) node → Has (left_at left t) node
    still_left found node h =
        let from = Has-map (λ (entry : Left). entry.node) (filter (λ (entry : Left). nat_le entry.from found.moment) left) node h in
        let was = Has-filter (λ (entry : Left). nat_le entry.from found.moment) left from.0 from.1 in
        let early : from.0.from ≤ found.moment = leb-true from.0.from found.moment was.1 in
        let now_left : nat_le from.0.from t ≡ true = le-leb from.0.from t (omega (arith, found.before_t)) in
        subst (λ (n : NodeId). Has (left_at left t) n) from.2
        (Has-mapped (λ (entry : Left). entry.node) (filter (λ (entry : Left). nat_le entry.from t) left) from.0 (Has-filtered (λ (entry : Left). nat_le entry.from t) left from.0 was.0 now_left))

    still_needed : (found : Last promises now t) → (x : Promise) → Has promises x → holds_at t x ≡ true → holds_at found.moment x ≡ true
    still_needed found x h holds =
        let parts = and_parts (nat_le x.from t) (nat_lt t x.to) holds in
        let begun : x.from ≤ t = leb-true x.from t parts.0 in
        let open_still : t < x.to = ltb-true t x.to parts.1 in
        let by_then : x.from ≤ found.moment = found.none_later x h begun in
        and_from (nat_le x.from found.moment) (nat_lt found.moment x.to) (le-leb x.from found.moment by_then) (lt-ltb found.moment x.to (omega (arith, found.before_t)))

-- THE MOMENTS THAT ARE TESTED

pub tested_from : (promises : List Promise) (now span t : ℕ) → Has (first_moment now span ++ starts_within now (now + span) promises) t → (t < now + span) × IsTested promises now t
tested_from promises now span t h = elim (Has-append (first_moment now span) (starts_within now (now + span) promises) t h) [
  | inl first ↦ from_first (nat_lt 0 span) refl first
  | inr there ↦
      let from = Has-map (λ (promise : Promise). promise.from) (filter (λ (promise : Promise). nat_le now promise.from && nat_lt promise.from (now + span)) promises) t there in
      let was = Has-filter (λ (promise : Promise). nat_le now promise.from && nat_lt promise.from (now + span)) promises from.0 from.1 in
      let parts = and_parts (nat_le now from.0.from) (nat_lt from.0.from (now + span)) was.1 in
      let begun : now ≤ from.0.from = leb-true now from.0.from parts.0 in
      let inside : from.0.from < now + span = ltb-true from.0.from (now + span) parts.1 in
      (omega (arith, from.2), (omega (arith, from.2), inr (subst (λ (n : ℕ). Has (map (λ (promise : Promise). promise.from) promises) n) from.2 (Has-mapped (λ (promise : Promise). promise.from) promises from.0 was.0))))
]
  where
    from_first : (b : Bool) → nat_lt 0 span ≡ b → Has (cond b (now ∷ []) []) t → (t < now + span) × IsTested promises now t
    from_first true some (inl e) = let positive : 0 < span = ltb-true 0 span some in (omega arith, (omega arith, inl (sym e)))
    from_first true some (inr none) = absurd none
    from_first false some none = absurd none

pub tested_to : (promises : List Promise) (now span t : ℕ) → (t < now + span) × IsTested promises now t → Has (first_moment now span ++ starts_within now (now + span) promises) t
tested_to promises now span t (lt, (le, which)) = elim which [
  | inl e ↦ Has-left (first_moment now span) (starts_within now (now + span) promises) t (to_first (nat_lt 0 span) (lt-ltb 0 span (omega arith)) (sym e))
  | inr start ↦
      let from = Has-map (λ (promise : Promise). promise.from) promises t start in
      let begun : nat_le now from.0.from ≡ true = le-leb now from.0.from (omega (arith, from.2)) in
      let inside : nat_lt from.0.from (now + span) ≡ true = lt-ltb from.0.from (now + span) (omega (arith, from.2)) in
      let kept = Has-filtered (λ (promise : Promise). nat_le now promise.from && nat_lt promise.from (now + span)) promises from.0 from.1 (and_from (nat_le now from.0.from) (nat_lt from.0.from (now + span)) begun inside) in
      Has-right (first_moment now span) (starts_within now (now + span) promises) t
      (subst (λ (n : ℕ). Has (starts_within now (now + span) promises) n) from.2
      (Has-mapped (λ (promise : Promise). promise.from) (filter (λ (promise : Promise). nat_le now promise.from && nat_lt promise.from (now + span)) promises) from.0 kept))
]
  where
    to_first : (b : Bool) → b ≡ true → now ≡ t → Has (cond b (now ∷ []) []) t
    to_first true some e = inl e
    to_first false some e = absurd (false≢true some)

pub enough : (moments : List ℕ) (promises : List Promise) (now span : ℕ) → ((t : ℕ) → (t < now + span) × IsTested promises now t → Has moments t)
    → (lab : Lab) (left : List Left) → ((t : ℕ) → Has moments t → FitsAt lab left promises t) → FitsFor lab left promises now span
enough moments promises now span all lab left fits t le lt =
    let s = later lab left promises now t le in
    let early : s.0 < now + span = omega (arith, s.1) in
    s.3 (fits s.0 (all s.0 (early, s.2)))
