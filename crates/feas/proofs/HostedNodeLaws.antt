-- Virtual nodes and their places, one after another.
use Rattle.std.proofs.Common.{◌≡◌, ℕ, ◌+◌, ◌<◌, Bool, true, false, cond, eqb, List, [], ◌∷◌, ◌++◌, length, drop, get_or, refl, sym, ◌∙◌}
use Rattle.std.proofs.lemmas.List.{drop_more}
use Rattle.lab_base.proofs.Lists.{item_at}
use Rattle.virt_topo.specs.declared.wiring.VirtNode.{VirtNode}
use Rattle.lab_model.specs.Shapes.{Place}
use Rattle.lab_model.specs.Rules.{HostedNode, hosted, is_member, first_type}

pub guest_step : (vs : List VirtNode) (places : List Place) (i n : ℕ) (v : VirtNode) (p : Place) → i < length vs → i < length places → v ≡ get_or vs i v → p ≡ get_or places i p
    → cond (eqb p.0.0 n) ((p.1, v.os) ∷ []) [] ++ hosted (drop (i + 1) vs) (drop (i + 1) places) n ≡ hosted (drop i vs) (drop i places) n
guest_step vs places i n v p lt few is at =
    let one = item_at vs i v lt is in
    let two = item_at places i p few at in
    by (eqb p.0.0 n) (hosted (drop (i + 1) vs) (drop (i + 1) places) n) ∙ sym (λ j. hosted (one j) (two j) n)
  where
    by : (b : Bool) (rest : List HostedNode) → cond b ((p.1, v.os) ∷ []) [] ++ rest ≡ cond b ((p.1, v.os) ∷ rest) rest
    by true rest = refl
    by false rest = refl

-- nobody is on a node where nobody more is placed
pub no_hosted : (vs : List VirtNode) (n : ℕ) → hosted vs [] n ≡ []
no_hosted [] n = refl
no_hosted (v ∷ vs) n = refl

pub first_step : (c : ℕ) (vs : List VirtNode) (places : List Place) (i : ℕ) (d : VirtNode) (e : Place) → i < length vs → i < length places
    → first_type c (drop i vs) (drop i places) ≡ cond (is_member c (get_or vs i d).asks) (get_or places i e).1 (first_type c (drop (i + 1) vs) (drop (i + 1) places))
first_step c vs places i d e lt few =
    let one = drop_more vs i d lt in
    let two = drop_more places i e few in
    λ j. first_type c (one j) (two j)
