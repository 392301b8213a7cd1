-- Bytes that were written are read back.
use Rattle.std.proofs.Common.{◌≡◌, ◌≤◌, ◌+◌, ℕ, List, ◌++◌, ap, ◌∙◌, subst, length, take, drop, append_assoc}
use Rattle.std.proofs.lemmas.List.{length-take-le}
use Rattle.std.proofs.Math.Seq.{take-append_seam, drop-append_seam}
use Rattle.plant.specs.Disks.{put}

pub written_back : (l : List ℕ) (at : ℕ) (bytes : List ℕ) → at ≤ length l → take (length bytes) (drop at (put l at bytes)) ≡ bytes
written_back l at bytes within =
    let rest = drop (at + length bytes) l in
    let behind : drop at (take at l ++ (bytes ++ rest)) ≡ bytes ++ rest =
    subst (λ (n : ℕ). drop n (take at l ++ (bytes ++ rest)) ≡ bytes ++ rest) (length-take-le at l within) (drop-append_seam (take at l) (bytes ++ rest)) in
    ap (λ (x : List ℕ). take (length bytes) (drop at x)) (append_assoc (take at l) bytes rest) ∙ (ap (take (length bytes)) behind ∙ take-append_seam bytes rest)
