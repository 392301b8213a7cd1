-- The bytes that a side reads as stay possible, and so do its durable bytes.
use Rattle.std.proofs.Common.{◌≡◌, ◌⊎◌, inl, inr, ℕ, zero, suc, ◌+◌, ◌-◌, ◌<◌, ◌≤◌, List, [], ◌∷◌, ◌++◌, length, take, drop, get_or, refl, ap, ◌∙◌, arith, length-append}
use Rattle.std.specs.Prelude.{slice_index}
use Rattle.std.proofs.lemmas.List.{get_or_append_left, get_or-append-add, get_or-take, get_or-drop, length-take, length-drop, length-map}
use Rattle.lab_base.specs.Lists.{Has}
use Rattle.lab_base.proofs.Numbers.{add_back}
use Rattle.plant.specs.Bytes.{AreBytes, as_byte, as_bytes}
use Rattle.plant.specs.Disks.{Disk, put, wrote, synced, shortened, IsImage, at_once}

-- the bytes of d in no written range are those of image
abbrev Keeps : Disk → List ℕ → Type 0
Keeps d image = (k : ℕ) → k < length d.durable → k < length image → ((r : ℕ × ℕ) → Has d.written r → (k < r.0) ⊎ (r.1 ≤ k)) → slice_index image k ≡ slice_index d.durable k

as_read : (d : Disk) → Keeps d d.reads → IsImage d d.reads
as_read d h = record { no_shorter = omega arith; no_longer = omega arith; kept = h }

-- what is durable is an image that is possible
pub durable_image : (d : Disk) → IsImage d d.durable
durable_image d = record { no_shorter = omega arith; no_longer = omega arith; kept = λ k a b free. refl }

pub once_image : (bytes : List ℕ) → IsImage (at_once bytes) bytes
once_image bytes = as_read (at_once bytes) (λ k a b free. refl)

pub synced_image : (d : Disk) → IsImage (synced d) (synced d).reads
synced_image d = as_read (synced d) (λ k a b free. refl)

pub shortened_image : (d : Disk) (n : ℕ) → IsImage d d.reads → IsImage (shortened d n) (shortened d n).reads
shortened_image d n h = as_read (shortened d n) (λ k a b free.
    let within : k < n = omega (arith, b, length-take n d.reads) in
    let inside : k < length d.reads = omega (arith, b, length-take n d.reads) in
    get_or-take n d.reads k 0 within ∙ h.kept k a inside free)

pub wrote_image : (d : Disk) (at : ℕ) (bytes : List ℕ) → at ≤ length d.reads → IsImage d d.reads → IsImage (wrote d at bytes) (wrote d at bytes).reads
wrote_image d at bytes within h = as_read (wrote d at bytes) (λ k a b free.
    let rest = drop (at + length bytes) d.reads in
    let size : length (put d.reads at bytes) ≡ at + (length bytes + (length d.reads - (at + length bytes))) = omega (arith, length-append (take at d.reads ++ bytes) rest, length-append (take at d.reads) bytes, length-take at d.reads, length-drop (at + length bytes) d.reads, within) in
    elim (free (at, at + length bytes) (inl refl)) [
      | inl below ↦
          let inside : k < length d.reads = omega (arith, below, within) in
          let first : k < length (take at d.reads) = omega (arith, below, within, length-take at d.reads) in
          let second : k < length (take at d.reads ++ bytes) = omega (arith, first, length-append (take at d.reads) bytes) in
          get_or_append_left (take at d.reads ++ bytes) rest 0 k second ∙ get_or_append_left (take at d.reads) bytes 0 k first ∙ get_or-take at d.reads k 0 below ∙ h.kept k a inside (λ r g. free r (inr g))
      | inr above ↦
          let inside : k < length d.reads = omega (arith, above, b, size) in
          let seam : length (take at d.reads ++ bytes) ≡ at + length bytes = omega (arith, length-append (take at d.reads) bytes, length-take at d.reads, within) in
          let place : k ≡ length (take at d.reads ++ bytes) + (k - (at + length bytes)) = omega (arith, seam, above) in
          ap (λ n. get_or (put d.reads at bytes) n 0) place
          ∙ get_or-append-add (take at d.reads ++ bytes) rest (k - (at + length bytes)) 0
          ∙ get_or-drop (at + length bytes) d.reads (k - (at + length bytes)) 0
          ∙ ap (λ n. get_or d.reads n 0) (add_back k (at + length bytes) above)
          ∙ h.kept k a inside (λ r g. free r (inr g))
    ])

-- an image with bytes in place of what is none
get_bytes : (image : List ℕ) (k : ℕ) → get_or (as_bytes image) k 0 ≡ as_byte (get_or image k 0)
get_bytes [] k = refl
get_bytes (x ∷ image) zero = refl
get_bytes (x ∷ image) (suc k) = get_bytes image k

pub all_bytes : (image : List ℕ) → AreBytes (as_bytes image)
all_bytes image k = let is = get_bytes image k in omega (arith, is)

pub byte_image : (d : Disk) (image : List ℕ) → AreBytes d.durable → IsImage d image → IsImage d (as_bytes image)
byte_image d image bytes is =
    let size : length (as_bytes image) ≡ length image = length-map image as_byte in
    record {
      no_shorter = omega (arith, is.no_shorter, size);
      no_longer = omega (arith, is.no_longer, size);
      kept = λ k a b free.
          let there : k < length image = omega (arith, b, size) in
          let same : get_or image k 0 ≡ get_or d.durable k 0 = is.kept k a there free in
          let small : get_or d.durable k 0 < 256 = bytes k in
          get_bytes image k ∙ ap as_byte same ∙ omega (arith, small);
    }
