-- Lists of the first of all that are so.
use Rattle.std.proofs.Common.{◌≡◌, inl, inr, ℕ, zero, suc, ◌≤◌, List, [], ◌∷◌, ◌++◌, length, Option, Some, None, refl, sym, ap, ◌∙◌, subst, arith}
use Rattle.std.specs.Prelude.{slice_get}
use Rattle.lab_base.specs.Lists.{Has, Apart}
use Rattle.lab_base.proofs.Members.{Has-append, Has-left}
use Rattle.plant.specs.Readings.{IsListOf, IsNth}
use Rattle.plant.proofs.Orders.{IsOrder}

-- a list of the first of all that are so: with one it has all that come before it
pub record IsFront {X : Type 0} (before : X → X → Type 0) (so : X → Type 0) (xs : List X) : Type 0 where
  pub rising : Apart before xs
  pub all_so : (x : X) → Has xs x → so x
  pub closed : (x y : X) → Has xs y → so x → before x y → Has xs x

pub no_front : {X : Type 0} (before : X → X → Type 0) (so : X → Type 0) → IsFront before so []
no_front before so = record { rising = tt; all_so = λ x h. absurd h; closed = λ x y h s b. absurd h }

module _ {X : Type 0} (before : X → X → Type 0) (order : IsOrder before) where
  -- the list of all that are so is a front, and so is that of all before one of them
  pub whole : (so : X → Type 0) (xs : List X) → IsListOf before so xs → IsFront before so xs
  whole so xs l = record { rising = l.rising; all_so = λ x h. (l.exact x).0 h; closed = λ x y h s b. (l.exact x).1 s }

  pub part : (so : X → Type 0) (e : X) (xs : List X) → IsListOf before (λ y. so y × before y e) xs → IsFront before so xs
  part so e xs l = record {
    rising = l.rising;
    all_so = λ x h. ((l.exact x).0 h).0;
    closed = λ x y h s b. (l.exact x).1 (s, order.on x y e b ((l.exact y).0 h).1);
  }

  -- the first of a front comes before all others that are so
  first : (so : X → Type 0) (x : X) (xs : List X) → IsFront before so (x ∷ xs) → (y : X) → so y → before y x → ⊥
  first so x xs f y s b = elim (f.closed y x (inl refl) s b) [
    | inl e ↦ order.never x (subst (λ v. before v x) (sym e) b)
    | inr h ↦ order.never x (order.on x y x (f.rising.0 y h) b)
  ]

  -- the first of two fronts are one
  heads : (so : X → Type 0) (x y : X) (xs ys : List X) → IsFront before so (x ∷ xs) → IsFront before so (y ∷ ys) → x ≡ y
  heads so x y xs ys f g = elim (order.total x y) [
    | inl b ↦ absurd (first so y ys g x (f.all_so x (inl refl)) b)
    | inr h ↦ elim h [ inl e ↦ e | inr b ↦ absurd (first so x xs f y (g.all_so y (inl refl)) b) ]
  ]

  -- what is left of a front is one of those that come later
  rest : (so : X → Type 0) (x : X) (xs : List X) → IsFront before so (x ∷ xs) → IsFront before (λ y. so y × before x y) xs
  rest so x xs f = record {
    rising = f.rising.1;
    all_so = λ y h. (f.all_so y (inr h), f.rising.0 y h);
    closed = λ y z h s b. elim (f.closed y z (inr h) s.0 b) [
      | inl e ↦ absurd (order.never x (subst (λ v. before x v) (sym e) s.1))
      | inr g ↦ g
    ];
  }

  -- of two fronts the longer one has what the other has
  pub covers : (so : X → Type 0) (xs ys : List X) → IsFront before so xs → IsFront before so ys → length xs ≤ length ys → (z : X) → Has xs z → Has ys z
  covers so [] ys f g le z h = absurd h
  covers so (x ∷ xs) [] f g le z h = absurd (omega (arith, le))
  covers so (x ∷ xs) (y ∷ ys) f g le z h =
      let e : x ≡ y = heads so x y xs ys f g in
      let later : IsFront before (λ v. so v × before x v) ys = subst (λ u. IsFront before (λ v. so v × before u v) ys) (sym e) (rest so y ys g) in
      elim h [
        | inl d ↦ inl (sym e ∙ d)
        | inr k ↦ inr (covers (λ v. so v × before x v) xs ys (rest so x xs f) later (omega (arith, le)) z k)
      ]

  pushed : (xs : List X) (e : X) → Apart before xs → ((x : X) → Has xs x → before x e) → Apart before (xs ++ e ∷ [])
  pushed [] e rising below = ((λ y h. absurd h), tt)
  pushed (x ∷ xs) e rising below = (
    (λ y h. elim (Has-append xs (e ∷ []) y h) [
      | inl g ↦ rising.0 y g
      | inr g ↦ elim g [ inl d ↦ subst (λ v. before x v) d (below x (inl refl)) | inr none ↦ absurd none ]
    ]),
    pushed xs e rising.1 (λ y h. below y (inr h)),
  )

  -- A READING MORE: a front with the nth after it, where it has n, is a front
  pub one_more : (so : X → Type 0) (xs : List X) (e : X) → IsFront before so xs → IsNth before so (length xs) (Some e) → IsFront before so (xs ++ e ∷ [])
  one_more so xs e f n =
      let earlier = n.1.0 in
      let is = n.1.1 in
      let front = part so e earlier is in
      let same : length earlier ≡ length xs = n.1.2 in
      let to : (z : X) → Has earlier z → Has xs z = covers so earlier xs front f (omega (arith, same)) in
      let from : (z : X) → Has xs z → Has earlier z = covers so xs earlier f front (omega (arith, same)) in
      record {
        rising = pushed xs e f.rising (λ x h. ((is.exact x).0 (from x h)).1);
        all_so = λ x h. elim (Has-append xs (e ∷ []) x h) [
          | inl g ↦ f.all_so x g
          | inr g ↦ elim g [ inl d ↦ subst so d n.0 | inr none ↦ absurd none ]
        ];
        closed = λ x y h s b. elim (Has-append xs (e ∷ []) y h) [
          | inl g ↦ Has-left xs (e ∷ []) x (f.closed x y g s b)
          | inr g ↦ elim g [
            | inl d ↦ Has-left xs (e ∷ []) x (to x ((is.exact x).1 (s, subst (λ v. before x v) (sym d) b)))
            | inr none ↦ absurd none
          ]
        ];
      }

  -- THE LAST READING: a front of n of which there is no nth more has all
  pub none_left : (so : X → Type 0) (xs : List X) → IsFront before so xs → IsNth before so (length xs) None → (x : X) → so x → Has xs x
  none_left so xs f n x s = covers so n.0 xs (whole so n.0 n.1) f n.2 x ((n.1.exact x).1 s)

  -- one that is the nth isn't among those that come before an nth
  apart : (so : X → Type 0) (nth : ℕ) (x : X) (others : List X) → IsNth before so nth (Some x) → IsFront before so others → length others ≤ nth → Has others x → ⊥
  apart so nth x others n f le h =
      let is = n.1.1 in
      order.never x ((is.exact x).0 (covers so others n.1.0 f (part so x n.1.0 is) (omega (arith, n.1.2, le)) x h)).1

  -- the nth is one
  pub one_answer : (so : X → Type 0) (nth : ℕ) (a b : Option X) → IsNth before so nth a → IsNth before so nth b → a ≡ b
  one_answer so nth None None n m = refl
  one_answer so nth None (Some y) n m = absurd (apart so nth y n.0 m (whole so n.0 n.1) n.2 ((n.1.exact y).1 m.0))
  one_answer so nth (Some x) None n m = absurd (apart so nth x m.0 n (whole so m.0 m.1) m.2 ((m.1.exact x).1 n.0))
  one_answer so nth (Some x) (Some y) n m = elim (order.total x y) [
    | inl b ↦ absurd (apart so nth x m.1.0 n (part so y m.1.0 m.1.1) (omega (arith, m.1.2)) ((m.1.1.exact x).1 (n.0, b)))
    | inr h ↦ elim h [
      | inl e ↦ ap Some e
      | inr b ↦ absurd (apart so nth y n.1.0 m (part so x n.1.0 n.1.1) (omega (arith, n.1.2)) ((n.1.1.exact y).1 (m.0, b)))
    ]
  ]

  -- A LIST OF ALL TELLS EACH OF THEM: its nth is the nth of all that are so
  behind : (so : X → Type 0) (x : X) (xs : List X) → IsListOf before so (x ∷ xs) → IsListOf before (λ y. so y × before x y) xs
  behind so x xs l = record {
    rising = l.rising.1;
    exact = λ y. (
      (λ h. ((l.exact y).0 (inr h), l.rising.0 y h)),
      (λ s. elim ((l.exact y).1 s.0) [
        | inl e ↦ absurd (order.never x (subst (λ v. before x v) (sym e) s.1))
        | inr h ↦ h
      ]),
    );
  }

  headed : (so : X → Type 0) (x : X) (xs ys : List X) → IsListOf before so (x ∷ xs) → IsListOf before (λ y. so y × before x y) ys → IsListOf before so (x ∷ ys)
  headed so x xs ys l m = record {
    rising = ((λ y h. ((m.exact y).0 h).1), m.rising);
    exact = λ y. (
      (λ h. elim h [ inl e ↦ subst so e ((l.exact x).0 (inl refl)) | inr g ↦ ((m.exact y).0 g).0 ]),
      (λ s. elim ((l.exact y).1 s) [ inl e ↦ inl e | inr h ↦ inr ((m.exact y).1 (s, l.rising.0 y h)) ]),
    );
  }

  headed_before : (so : X → Type 0) (x e : X) (xs ys : List X) → IsListOf before so (x ∷ xs) → before x e → IsListOf before (λ y. (so y × before x y) × before y e) ys → IsListOf before (λ y. so y × before y e) (x ∷ ys)
  headed_before so x e xs ys l first m = record {
    rising = ((λ y h. ((m.exact y).0 h).0.1), m.rising);
    exact = λ y. (
      (λ h. elim h [ inl d ↦ (subst so d ((l.exact x).0 (inl refl)), subst (λ v. before v e) d first) | inr g ↦ (((m.exact y).0 g).0.0, ((m.exact y).0 g).1) ]),
      (λ s. elim ((l.exact y).1 s.0) [ inl d ↦ inl d | inr h ↦ inr ((m.exact y).1 ((s.0, l.rising.0 y h), s.1)) ]),
    );
  }

  pub nth_of : (so : X → Type 0) (xs : List X) (nth : ℕ) → IsListOf before so xs → IsNth before so nth (slice_get xs nth)
  nth_of so [] nth l = ([], l, omega arith)
  nth_of so (x ∷ xs) zero l = (
    (l.exact x).0 (inl refl),
    (
      [],
      record {
        rising = tt;
        exact = λ y. (
          (λ h. absurd h),
          (λ s. elim ((l.exact y).1 s.0) [
            | inl e ↦ absurd (order.never y (subst (λ v. before y v) e s.1))
            | inr h ↦ absurd (order.never x (order.on x y x (l.rising.0 y h) s.1))
          ]),
        );
      },
      refl,
    ),
  )
  nth_of so (x ∷ xs) (suc nth) l = by (slice_get xs nth) (nth_of (λ y. so y × before x y) xs nth (behind so x xs l))
    where
      by : (o : Option X) → IsNth before (λ y. so y × before x y) nth o → IsNth before so (suc nth) o
      by None n = (x ∷ n.0, headed so x xs n.0 l n.1, omega (arith, n.2))
      by (Some e) n = (n.0.0, (x ∷ n.1.0, headed_before so x e xs n.1.0 l n.0.1 n.1.1, omega (arith, n.1.2)))
