-- The images of a side that a stop may leave.
use Rattle.std.proofs.Common.{◌≡◌, inl, inr, ℕ, zero, suc, ◌+◌, ◌<◌, ◌≤◌, List, [], ◌∷◌, ◌++◌, length, take, drop, get_or, refl, sym, ap, ◌∙◌, subst, arith, append_assoc, length-append}
use Rattle.std.proofs.lemmas.List.{take_at, drop_at, take_all, get_or_at, ext_get_or}
use Rattle.std.proofs.lemmas.Bool.{cases_eq, cases_lt}
use Rattle.lab_base.specs.Lists.{Has}
use Rattle.plant.specs.Disks.{Disk, put, wrote, synced, IsImage}

-- a list that has the front of another, by its bytes
pub same_front : (n : ℕ) (xs ys : List ℕ) → n ≤ length xs → n ≤ length ys → ((k : ℕ) → k < n → get_or xs k 0 ≡ get_or ys k 0) → take n xs ≡ take n ys
same_front zero xs ys a b same = refl
same_front (suc n) [] ys a b same = absurd (omega arith)
same_front (suc n) (x ∷ xs) [] a b same = absurd (omega arith)
same_front (suc n) (x ∷ xs) (y ∷ ys) a b same =
    let here : x ≡ y = same 0 (omega arith) in
    let rest = same_front n xs ys (omega arith) (omega arith) (λ k h. same (suc k) (omega arith)) in
    (λ i. here i ∷ rest i)

-- where all that was written since the sync is after n bytes that were durable, each image begins with these bytes
pub front_kept : (d : Disk) (image : List ℕ) (n : ℕ) → IsImage d image → n ≤ length d.durable → n ≤ length d.reads → ((r : ℕ × ℕ) → Has d.written r → n ≤ r.0) → take n image ≡ take n d.durable
front_kept d image n is a b behind =
    let long : n ≤ length image = omega (arith, is.no_shorter) in
    same_front n image d.durable long a (λ k h. is.kept k (omega arith) (omega arith) (λ r in_r. inl (omega (arith, behind r in_r))))

-- where nothing was written since the sync, there is one image
pub synced_image : (d : Disk) (image : List ℕ) → IsImage (synced d) image → image ≡ d.reads
synced_image d image is =
    let size : length image ≡ length d.reads = omega (arith, is.no_shorter, is.no_longer) in
    sym (take_all (length d.reads) image (omega (arith, size)))
    ∙ front_kept (synced d) image (length d.reads) is (omega arith) (omega arith) (λ r h. absurd h)
    ∙ take_all (length d.reads) d.reads (omega arith)

-- two lists that differ in one byte
elsewhere : (front back : List ℕ) (x y k : ℕ) → (k ≡ length front → ⊥) → get_or (front ++ x ∷ back) k 0 ≡ get_or (front ++ y ∷ back) k 0
elsewhere [] back x y zero apart = absurd (apart refl)
elsewhere [] back x y (suc k) apart = refl
elsewhere (f ∷ front) back x y zero apart = refl
elsewhere (f ∷ front) back x y (suc k) apart = elsewhere front back x y k (λ e. apart (ap suc e))

pub length_one : (front back : List ℕ) (x : ℕ) → length (front ++ x ∷ back) ≡ length front + 1 + length back
length_one front back x = omega (arith, length-append front (x ∷ back))

pub put_one : (front back : List ℕ) (old new : ℕ) → put (front ++ old ∷ back) (length front) (new ∷ []) ≡ front ++ new ∷ back
put_one front back old new =
    let split : front ++ old ∷ back ≡ (front ++ old ∷ []) ++ back = sym (append_assoc front (old ∷ []) back) in
    let behind : drop (length front + 1) (front ++ old ∷ back) ≡ back = ap (λ l. drop (length front + 1) l) split ∙ drop_at (front ++ old ∷ []) back (length front + 1) (omega (arith, length-append front (old ∷ []))) in
    ap (λ l. l ++ (new ∷ []) ++ drop (length front + 1) (front ++ old ∷ back)) (take_at front (old ∷ back) (length front) refl)
    ∙ ap (λ l. front ++ (new ∷ []) ++ l) behind
    ∙ append_assoc front (new ∷ []) back

-- one byte was written since the sync, inside: each image is the durable bytes with any byte there
pub byte_image : (front back image : List ℕ) (old new : ℕ) → IsImage (wrote (record { durable = front ++ old ∷ back; reads = front ++ old ∷ back; written = [] }) (length front) (new ∷ [])) image
    → image ≡ front ++ get_or image (length front) 0 ∷ back
byte_image front back image old new is =
    let put_size : length (put (front ++ old ∷ back) (length front) (new ∷ [])) ≡ length front + 1 + length back = ap length (put_one front back old new) ∙ length_one front back new in
    let old_size = length_one front back old in
    let size : length image ≡ length front + 1 + length back = omega (arith, put_size, old_size, is.no_shorter, is.no_longer) in
    let x = get_or image (length front) 0 in
    ext_get_or 0 image (front ++ x ∷ back) (size ∙ sym (length_one front back x)) (λ k h. elim (cases_eq k (length front)) [
      | inl here ↦ ap (λ n. get_or image n 0) here ∙ sym (ap (λ n. get_or (front ++ x ∷ back) n 0) here ∙ get_or_at front x back 0 (length front) refl)
      | inr apart ↦
          is.kept k (omega (arith, h, size, old_size)) h (λ r in_r. elim in_r [
            | inl e ↦ elim (cases_lt k (length front)) [
              | inl below ↦ inl (subst (λ n. k < n) (ap (λ q. q.0) e) below)
              | inr above ↦ inr (subst (λ n. n ≤ k) (ap (λ q. q.1) e) (omega arith))
            ]
            | inr none ↦ absurd none
          ])
          ∙ elsewhere front back old x k apart
    ])
