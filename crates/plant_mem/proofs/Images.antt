-- Each pick leaves a possible image.
use Rattle.std.proofs.Common.{◌≡◌, ◌⊎◌, inl, inr, ℕ, min, max, ◌+◌, ◌-◌, ◌/◌, ◌<◌, ◌≤◌, List, [], ◌∷◌, ◌++◌, length, take, drop, get_or, replicate, refl, sym, ap, ◌∙◌, arith, length-append}
use Rattle.std.proofs.lemmas.List.{get_or_append_left, get_or-append-add, get_or-take, get_or-drop, length-take, length-drop, length-replicate, append-nil, take-append-drop, take_all, drop_all}
use Rattle.std.proofs.lemmas.Bool.{cases_lt}
use Rattle.lab_base.specs.Lists.{Has}
use Rattle.lab_base.proofs.Numbers.{add_back}
use Rattle.plant.specs.Disks.{Disk, IsImage}
use Rattle.plant.specs.declared.drill.Pick.{Pick}
use Rattle.plant.specs.declared.drill.Pick.TheVariants.{Nothing, All, Torn}
use Rattle.plant.proofs.Images.{durable_image}
use Rattle.plant_mem.specs.Picks.{garbled, torn, left_by}

abbrev junk : ℕ → List ℕ
junk n = replicate n 165

length_front : (bytes : List ℕ) (from end : ℕ) → length (take from bytes ++ junk (min end (length bytes) - from)) ≡ min from (length bytes) + (min end (length bytes) - from)
length_front bytes from end =
    omega (arith, length-append (take from bytes) (junk (min end (length bytes) - from)), length-take from bytes, length-replicate {A = ℕ} (min end (length bytes) - from) 165)

length_garbled : (bytes : List ℕ) (from end : ℕ) → length (garbled bytes from end) ≡ length bytes
length_garbled bytes from end =
    omega (arith, length-append (take from bytes ++ junk (min end (length bytes) - from)) (drop (max from end) bytes), length_front bytes from end, length-drop (max from end) bytes)

garbled_before : (bytes : List ℕ) (from end k : ℕ) → k < length bytes → k < from → get_or (garbled bytes from end) k 0 ≡ get_or bytes k 0
garbled_before bytes from end k lt below =
    let first : k < length (take from bytes) = omega (arith, length-take from bytes) in
    let second : k < length (take from bytes ++ junk (min end (length bytes) - from)) = omega (arith, length_front bytes from end) in
    get_or_append_left (take from bytes ++ junk (min end (length bytes) - from)) (drop (max from end) bytes) 0 k second
    ∙ get_or_append_left (take from bytes) (junk (min end (length bytes) - from)) 0 k first ∙ get_or-take from bytes k 0 below

garbled_after : (bytes : List ℕ) (from end k : ℕ) → k < length bytes → from ≤ k → end ≤ k → get_or (garbled bytes from end) k 0 ≡ get_or bytes k 0
garbled_after bytes from end k lt low above =
    let seam : length (take from bytes ++ junk (min end (length bytes) - from)) ≡ max from end = omega (arith, length_front bytes from end) in
    let place : k ≡ length (take from bytes ++ junk (min end (length bytes) - from)) + (k - max from end) = omega (arith, seam) in
    ap (λ n. get_or (garbled bytes from end) n 0) place
    ∙ get_or-append-add (take from bytes ++ junk (min end (length bytes) - from)) (drop (max from end) bytes) (k - max from end) 0
    ∙ get_or-drop (max from end) bytes (k - max from end) 0
    ∙ ap (λ n. get_or bytes n 0) (add_back k (max from end) (omega arith))

garbled_elsewhere : (bytes : List ℕ) (from end k : ℕ) → k < length bytes → (k < from) ⊎ (end ≤ k) → get_or (garbled bytes from end) k 0 ≡ get_or bytes k 0
garbled_elsewhere bytes from end k lt (inl below) = garbled_before bytes from end k lt below
garbled_elsewhere bytes from end k lt (inr above) = elim (cases_lt k from) [
  | inl below ↦ garbled_before bytes from end k lt below
  | inr low ↦ garbled_after bytes from end k lt low above
]

-- where there is nothing between them, all stays
pub garbled_nothing : (bytes : List ℕ) (from end : ℕ) → min end (length bytes) ≤ from → bytes ≡ garbled bytes from end
garbled_nothing bytes from end le = sym (elim (cases_lt from (length bytes)) [
  | inl lt ↦
      let none : min end (length bytes) - from ≡ 0 = omega arith in
      let top : max from end ≡ from = omega arith in
      rw (none, top) (ap (λ (l : List ℕ). l ++ drop from bytes) (append-nil (take from bytes)) ∙ take-append-drop from bytes)
  | inr past ↦
      let none : min end (length bytes) - from ≡ 0 = omega arith in
      rw (none, take_all from bytes past, drop_all (max from end) bytes (omega arith)) (append-nil (bytes ++ []) ∙ append-nil bytes)
])

pub length_torn : (ranges : List (ℕ × ℕ)) (bytes : List ℕ) → length (torn ranges bytes) ≡ length bytes
length_torn [] bytes = refl
length_torn (r ∷ ranges) bytes = length_garbled (torn ranges bytes) (r.0 + (r.1 - r.0) / 2) r.1 ∙ length_torn ranges bytes

torn_elsewhere : (ranges : List (ℕ × ℕ)) (bytes : List ℕ) (k : ℕ) → k < length bytes → ((r : ℕ × ℕ) → Has ranges r → (k < r.0) ⊎ (r.1 ≤ k)) → get_or (torn ranges bytes) k 0 ≡ get_or bytes k 0
torn_elsewhere [] bytes k lt free = refl
torn_elsewhere (r ∷ ranges) bytes k lt free =
    let inside : k < length (torn ranges bytes) = omega (arith, length_torn ranges bytes) in
    garbled_elsewhere (torn ranges bytes) (r.0 + (r.1 - r.0) / 2) r.1 k inside (outside (free r (inl refl))) ∙ torn_elsewhere ranges bytes k lt (λ q h. free q (inr h))
  where
    outside : (k < r.0) ⊎ (r.1 ≤ k) → (k < r.0 + (r.1 - r.0) / 2) ⊎ (r.1 ≤ k)
    outside (inl below) = inl (omega arith)
    outside (inr above) = inr above

-- each pick leaves an image that is possible
pub left_image : (pick : Pick) (d : Disk) → IsImage d d.reads → IsImage d (left_by pick d)
left_image Nothing d h = durable_image d
left_image All d h = h
left_image Torn d h =
    let size = length_torn d.written d.reads in
    record {
      no_shorter = omega (arith, size);
      no_longer = omega (arith, size);
      kept = λ k a b free.
          let inside : k < length d.reads = omega (arith, b, size) in
          torn_elsewhere d.written d.reads k inside free ∙ h.kept k a inside free;
    }

-- a torn side is still possible as it reads
pub torn_image : (d : Disk) → IsImage d d.reads → IsImage (record d { reads = torn d.written d.reads }) (torn d.written d.reads)
torn_image d h =
    let size = length_torn d.written d.reads in
    let left = left_image Torn d h in
    record {
      no_shorter = omega (arith, size);
      no_longer = omega (arith, size);
      kept = left.kept;
    }

-- what is left is not longer
pub left_short : (pick : Pick) (d : Disk) → length (left_by pick d) ≤ max (length d.durable) (length d.reads)
left_short Nothing d = omega arith
left_short All d = omega arith
left_short Torn d = omega (arith, length_torn d.written d.reads)
