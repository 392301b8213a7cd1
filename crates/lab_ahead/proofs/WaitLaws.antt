-- Needs and nodes left at a moment, and the first moment at which the needs don't fit.
use Rattle.std.proofs.Common.{◌≡◌, ◌<◌, ◌≤◌, ◌+◌, ℕ, Bool, true, false, cond, List, [], ◌∷◌, length, map, filter, get_or, Option, Some, None, refl, subst, inl, inr, arith}
use Rattle.std.specs.Prelude.{All, nat_le}
use Rattle.std.specs.Ordering.{nat_cmp}
use Rattle.std.specs.List.Sorted.{IsStrictlySortedBy}
use Rattle.std.proofs.lemmas.Bool.{cases_order}
use Rattle.std.proofs.lemmas.List.{length-map}
use Rattle.std.proofs.lemmas.List.Kept.{AllPairs-from_increasing}
use Rattle.std.proofs.lemmas.Map.Keys.{IsStrictlyIncreasing-from_sorted}
use Rattle.lab_base.specs.Lists.{Has, AllDiffer}
use Rattle.lab_base.specs.declared.ids.NodeId.{NodeId}
use Rattle.lab_base.proofs.Members.{Has-map, Has-mapped, Has-place, Has-get_or, Has-filter}
use Rattle.phys_lab.specs.Labs.{Lab}
use Rattle.lab_ahead.specs.declared.batch.Promise.{Promise}
use Rattle.lab_ahead.specs.declared.times.Left.{Left}
use Rattle.lab_ahead.specs.declared.waits.Span.{Span}
use Rattle.lab_ahead.specs.declared.waits.Wait.{Wait}
use Rattle.lab_ahead.specs.Moments.{FitsAt, FitsFor, IsTested, holds_at, left_at, need_of_promise, needs_at}
use Rattle.lab_ahead.specs.Waits.{IsShortAt, TellsShort}
use Rattle.lab_ahead.proofs.Halls.{never_fits}
use Rattle.lab_ahead.proofs.Spans.{later}

abbrev node_of : Left → NodeId
node_of entry = entry.node

among : (p : Left → Bool) (left : List Left) (node : NodeId) → Has (map node_of (filter p left)) node → Has (map node_of left) node
among p left node h =
    let from = Has-map node_of (filter p left) node h in
    let was = Has-filter p left from.0 from.1 in
    subst (λ (n : NodeId). Has (map node_of left) n) from.2 (Has-mapped node_of left from.0 was.0)

one_kept : (p : Left → Bool) (entry : Left) (left : List Left) (b : Bool) → ((node : NodeId) → Has (map node_of left) node → entry.node ≡ node → ⊥) → AllDiffer (map node_of (filter p left))
    → AllDiffer (map node_of (cond b (entry ∷ filter p left) (filter p left)))
one_kept p entry left true differ rest = (λ node h. differ node (among p left node h), rest)
one_kept p entry left false differ rest = rest

kept_differ : (p : Left → Bool) (left : List Left) → AllDiffer (map node_of left) → AllDiffer (map node_of (filter p left))
kept_differ p [] differ = tt
kept_differ p (entry ∷ left) differ = one_kept p entry left (p entry) differ.0 (kept_differ p left differ.1)

pub left_differ : (left : List Left) (t : ℕ) → AllDiffer (map node_of left) → AllDiffer (left_at left t)
left_differ left t differ = kept_differ (λ entry. nat_le entry.from t) left differ

pub left_within : (n : ℕ) (left : List Left) (t : ℕ) → All (λ (entry : Left). entry.node.0 < n) left → All (λ (node : NodeId). node.0 < n) (left_at left t)
left_within n left t all = λ k d lt.
    let kept = filter (λ (entry : Left). nat_le entry.from t) left in
    let from = Has-map node_of kept (get_or (left_at left t) k d) (Has-get_or (left_at left t) k d lt) in
    let was = Has-filter (λ (entry : Left). nat_le entry.from t) left from.0 from.1 in
    let place = Has-place left from.0 from.0 was.0 in
    subst (λ (node : NodeId). node.0 < n) from.2 (subst (λ (entry : Left). entry.node.0 < n) place.2 (all place.0 from.0 place.1))

one_fewer : {X : Type 0} (b : Bool) (x : X) (xs ys : List X) → length ys ≤ length xs → length (cond b (x ∷ ys) ys) ≤ length (x ∷ xs)
one_fewer true x xs ys le = omega (arith, le)
one_fewer false x xs ys le = omega (arith, le)

fewer : {X : Type 0} (p : X → Bool) (xs : List X) → length (filter p xs) ≤ length xs
fewer p [] = omega arith
fewer p (x ∷ xs) = one_fewer (p x) x xs (filter p xs) (fewer p xs)

pub few_needs : (promises : List Promise) (t : ℕ) → length (needs_at promises t) ≤ length promises
few_needs promises t = omega (arith, length-map (filter (holds_at t) promises) need_of_promise, fewer (holds_at t) promises)

pub no_wait : (o : Option Wait) → ((w : Wait) → o ≡ Some w → ⊥) → o ≡ None
no_wait None never = refl
no_wait (Some w) never = absurd (never w refl)

-- THE FIRST MOMENT

-- rising numbers: what lies below the one at a place stands at an earlier place
earlier : (xs : List ℕ) (i s : ℕ) → IsStrictlySortedBy nat_cmp xs → i < length xs → Has xs s → s < get_or xs i 0 → (j : ℕ) × (j < i) × (get_or xs j 0 ≡ s)
earlier xs i s rising lt has below =
    let place = Has-place xs s 0 has in
    let pairs = AllPairs-from_increasing xs (IsStrictlyIncreasing-from_sorted xs rising) in
    elim (cases_order place.0 i) [
      | inl here ↦ absurd (not_here place.0 here place.2)
      | inr other ↦ elim other [
        | inl less ↦ (place.0, less, place.2)
        | inr more ↦ absurd (not_later place.0 place.2 (pairs i place.0 0 more place.1))
      ]
    ]
  where
    not_here : (j : ℕ) → j ≡ i → get_or xs j 0 ≡ s → ⊥
    not_here j e is = let same : get_or xs i 0 ≡ s = subst (λ (k : ℕ). get_or xs k 0 ≡ s) e is in omega (arith, same, below)

    not_later : (j : ℕ) → get_or xs j 0 ≡ s → get_or xs i 0 < get_or xs j 0 → ⊥
    not_later j is up = omega (arith, is, up, below)

module _ (lab : Lab) (left : List Left) (promises : List Promise) (span : Span) (tested : List ℕ) (rising : IsStrictlySortedBy nat_cmp tested)
    (all : (t : ℕ) → (t < span.from + span.length) × IsTested promises span.from t → Has tested t)
    (only : (t : ℕ) → Has tested t → (t < span.from + span.length) × IsTested promises span.from t) where
  -- a tested moment, where the needs fit at all that are tested before
  pub first_short : (i : ℕ) (wait : Wait) → i < length tested → ((k : ℕ) → k < i → FitsAt lab left promises (get_or tested k 0)) → wait.at ≡ get_or tested i 0 → TellsShort lab left promises wait
      → IsShortAt lab left promises span wait
  first_short i wait lt fits at tells = record {
    begun = omega (arith, at, here.1.0);
    within = omega (arith, at, here.0);
    before = fits_before;
    tells = tells;
  }
    where
      here : (get_or tested i 0 < span.from + span.length) × IsTested promises span.from (get_or tested i 0)
      here = only (get_or tested i 0) (Has-get_or tested i 0 lt)

      fits_before : (t : ℕ) → span.from ≤ t → t < wait.at → FitsAt lab left promises t
      fits_before t le early =
          let s = later lab left promises span.from t le in
          let inside : s.0 < span.from + span.length = omega (arith, s.1, early, at, here.0) in
          let place = earlier tested i s.0 rising lt (all s.0 (inside, s.2)) (omega (arith, s.1, early, at)) in
          s.3 (subst (λ (m : ℕ). FitsAt lab left promises m) place.2 (fits place.0 place.1))

  pub not_for : (i : ℕ) → i < length tested → (FitsAt lab left promises (get_or tested i 0) → ⊥) → FitsFor lab left promises span.from span.length → ⊥
  not_for i lt short fits = let here = only (get_or tested i 0) (Has-get_or tested i 0 lt) in short (fits (get_or tested i 0) here.1.0 here.0)

-- LAWS

pub never_at : (lab : Lab) (left : List Left) (promises : List Promise) (wait : Wait) → TellsShort lab left promises wait → FitsAt lab left promises wait.at → ⊥
never_at lab left promises wait tells = never_fits lab (left_at left wait.at) (needs_at promises wait.at) wait.kinds tells.short

pub one_moment : (lab : Lab) (left : List Left) (promises : List Promise) (span : Span) (w v : Wait) → IsShortAt lab left promises span w → IsShortAt lab left promises span v → w.at ≡ v.at
one_moment lab left promises span w v a b = elim (cases_order w.at v.at) [
  | inl same ↦ same
  | inr other ↦ elim other [
    | inl less ↦ absurd (never_at lab left promises w a.tells (b.before w.at a.begun less))
    | inr more ↦ absurd (never_at lab left promises v b.tells (a.before v.at b.begun more))
  ]
]

pub above : (lab : Lab) (left : List Left) (promises : List Promise) (w : Wait) → TellsShort lab left promises w → w.have < w.need
above lab left promises w tells = omega (arith, tells.short.short, tells.need_is, tells.have_is)
