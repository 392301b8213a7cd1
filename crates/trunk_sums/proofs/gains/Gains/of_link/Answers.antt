use Rattle.std.proofs.Common.{◌≡◌, ◌+◌, ◌%◌, ◌∙◌, ℕ, min, max, bit_and, bit_or, bit_xor, ap, arith}
use Rattle.std.specs.Int.{bit_at}
use Rattle.std.proofs.lemmas.Nat.Bits.{bit_at_and, bit_at_or, bit_at_xor, bit_at-lt}
use Rattle.trunk_sums.proofs.GainLaws.{link_after}
use Rattle.trunk_sums.proofs.gains.Gains.of_link.Goals as goal

-- a bit stays where the sides are one
stays : (a apart t : ℕ) → bit_at (bit_xor a (bit_and a apart)) t ≡ (bit_at a t + min (bit_at a t) (bit_at apart t)) % 2
stays a apart t = bit_at_xor a (bit_and a apart) t ∙ ap (λ (n : ℕ). (bit_at a t + n) % 2) (bit_at_and a apart t)

-- a bit comes from another word, where the plug is on that side and the sides differ
comes : (a side apart t : ℕ) → bit_at (bit_and a (bit_and side apart)) t ≡ min (bit_at a t) (min (bit_at side t) (bit_at apart t))
comes a side apart t = bit_at_and a (bit_and side apart) t ∙ ap (λ (n : ℕ). min (bit_at a t) n) (bit_at_and side apart t)

pub returns : goal.returns
returns c k q t was k_le q_le some moved =
    let from = c.args.from in
    let to = c.args.to in
    let g = c.args.self.now in
    let apart = bit_xor from to in
    let onto = bit_and to apart in
    let off = bit_and from apart in
    let x = bit_at-lt from t in
    let y = bit_at-lt to t in
    let nones = bit_at_or (bit_xor g.onto_adds (bit_and g.onto_adds apart)) (bit_and g.onto_takes off) t
    ∙ (λ i. max (stays g.onto_adds apart t i) (comes g.onto_takes from apart t i)) in
    let first = bit_at_or (bit_xor g.onto_takes (bit_and g.onto_takes apart)) (bit_and g.onto_adds onto) t
    ∙ (λ i. max (stays g.onto_takes apart t i) (comes g.onto_adds to apart t i)) in
    let ones = bit_at_or (bit_or (bit_xor g.onto_takes (bit_and g.onto_takes apart)) (bit_and g.onto_adds onto)) (bit_and g.off_adds off) t
    ∙ (λ i. max (first i) (comes g.off_adds from apart t i)) in
    let boths = bit_at_or (bit_xor g.off_adds (bit_and g.off_adds apart)) (bit_and g.onto_takes onto) t
    ∙ (λ i. max (stays g.off_adds apart t i) (comes g.onto_takes to apart t i)) in
    let link = link_after k q (bit_at from t) (bit_at to t) (bit_at apart t) (bit_at g.onto_adds t) (bit_at g.onto_takes t) (bit_at g.off_adds t) _ _ _
    k_le q_le (omega (arith, x)) (omega (arith, y)) some moved (bit_at_xor from to t) was.onto_adds was.onto_takes was.off_adds nones ones boths in
    record { onto_adds = link.none; onto_takes = link.one; off_adds = link.both; off_takes = link.too }
