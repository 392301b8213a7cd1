-- How far a side's durable bytes are those that are read.
use Rattle.std.proofs.Common.{◌≡◌, ℕ, ◌+◌, ◌≤◌, List, [], ◌∷◌, ◌++◌, length, take, drop, sym, ap, ◌∙◌, arith, length-append}
use Rattle.std.specs.Prelude.{reverse}
use Rattle.std.proofs.lemmas.List.{take-append-drop, take-append-le, take-take, length-take, reverse-append}
use Rattle.plant.specs.Disks.{put}

-- less of it is alike too
pub less : (d r : List ℕ) (m n : ℕ) → m ≤ n → take n d ≡ take n r → take m d ≡ take m r
less d r m n le same = sym (take-take m n d le) ∙ ap (λ (l : List ℕ). take m l) same ∙ take-take m n r le

-- the bytes that are not alike, after those that are, are all bytes
pub whole : (d r : List ℕ) (n : ℕ) → take n d ≡ take n r → take n d ++ drop n r ≡ r
whole d r n same = ap (λ (l : List ℕ). l ++ drop n r) same ∙ take-append-drop n r

-- a write leaves alike what stands before it
pub before_put : (d r bytes : List ℕ) (at n m : ℕ) → m ≤ n → m ≤ at → at ≤ length r → take n d ≡ take n r → take m d ≡ take m (put r at bytes)
before_put d r bytes at n m less_n less_at within same =
    let rest = drop (at + length bytes) r in
    let one : take m (put r at bytes) ≡ take m (take at r) =
    take-append-le m (take at r ++ bytes) rest (omega (arith, length-append (take at r) bytes, length-take at r)) ∙ take-append-le m (take at r) bytes (omega (arith, length-take at r)) in
    less d r m n less_n same ∙ sym (take-take m at r less_at) ∙ sym one

-- a cut leaves alike what stands before it
pub before_cut : (d r : List ℕ) (size n m : ℕ) → m ≤ n → m ≤ size → take n d ≡ take n r → take m d ≡ take m (take size r)
before_cut d r size n m less_n less_size same = less d r m n less_n same ∙ sym (take-take m size r less_size)

pub reverse_push : {X : Type 0} (xs : List X) (x : X) → reverse (xs ++ x ∷ []) ≡ x ∷ reverse xs
reverse_push xs x = reverse-append xs (x ∷ [])
