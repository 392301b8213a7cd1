-- The kbps of trunks that are left to an experiment.
use Rattle.std.proofs.Common.{◌≡◌, ℕ, ◌+◌, ◌<◌, inl, inr, Some, None, Bool, false, List, [], ◌∷◌, ◌++◌, length, map, get_or, refl, ap, sym, subst, ◌∙◌, arith}
use Rattle.std.proofs.Math.Seq.{get_or-append_seam}
use Rattle.std.proofs.lemmas.Bool.{cases_lt}
use Rattle.claims.specs.declared.claim.Claim.{Claim}
use Rattle.claims.specs.declared.claim.Entry.{Entry}
use Rattle.claims.specs.Held.{claim_use, use_by, claim_named, others}
use Rattle.claims.specs.Held.{IsLeftTo}
use Rattle.claims.specs.Counts.{is_free_to}
use Rattle.claims.specs.Kept.{Keeps, held_in}
use Rattle.claims.specs.declared.tables.Tables.{Tables}
use Rattle.claims.proofs.Counting.{ids_free, free_to}
use Rattle.claims.proofs.Entries.{use_rest}
use Rattle.std.specs.Prelude.{is_none}
use Rattle.std.specs.List.{count_by}
use Rattle.std.proofs.lemmas.List.{length-map, get_or-map, get_or_append_left}

pub left_beside_so : (kbps used left : List ℕ) (es : List Entry) (exp : List ℕ) (c : Claim) → claim_named exp es ≡ Some c → ((t : ℕ) → t < length kbps → get_or used t 0 ≡ use_by t es)
    → ((t : ℕ) → t < length kbps → get_or left t 0 + get_or used t 0 ≡ get_or kbps t 0 + claim_use t c) → (t : ℕ) → t < length kbps → get_or left t 0 + use_by t (others exp es) ≡ get_or kbps t 0
left_beside_so kbps used left es exp c h uses l t g = omega (arith, uses t g, l t g, use_rest t exp es c h)

pub left_alone_so : (kbps used left : List ℕ) (es : List Entry) (exp : List ℕ) → others exp es ≡ es → ((t : ℕ) → t < length kbps → get_or used t 0 ≡ use_by t es)
    → ((t : ℕ) → t < length kbps → get_or left t 0 + get_or used t 0 ≡ get_or kbps t 0) → (t : ℕ) → t < length kbps → get_or left t 0 + use_by t (others exp es) ≡ get_or kbps t 0
left_alone_so kbps used left es exp h uses l t g = omega (arith, uses t g, l t g, ap (λ x. use_by t x) h)

pub left_to_so : (range : ℕ × ℕ) (kbps : List ℕ) (es : List Entry) (tables : Tables) (exp : List ℕ) (nodes : List Bool) (left : List ℕ) (vlans : ℕ) → Keeps range kbps es tables → nodes ≡ map (is_free_to exp) tables.nodes.items → length left ≡ length kbps
    → ((t : ℕ) → t < length kbps → get_or left t 0 + use_by t (others exp es) ≡ get_or kbps t 0) → vlans ≡ count_by is_none tables.ids.items → IsLeftTo (held_in range kbps es tables) exp (record { nodes = nodes; left = left; vlans = vlans })
left_to_so range kbps es tables exp nodes left vlans k nodes_are len left_so vlans_are = record {
  nodes = ap length nodes_are ∙ length-map tables.nodes.items (is_free_to exp);
  trunks = len;
  unclaimed = λ n h.
      ap (λ l. get_or l n false) nodes_are ∙ get_or-map (is_free_to exp) tables.nodes.items n None false h ∙ ap (is_free_to exp) (k.are_tables.nodes_are n h)
      ∙ free_to exp es n (claim_named exp es) k.together.apart refl;
  room = left_so;
  ids = vlans_are ∙ ids_free range kbps es tables k;
}

-- what holds of each number, where one more is pushed
pub pushed_so : (P : ℕ → ℕ → Type 0) (left more : List ℕ) (n x : ℕ) → length left ≡ n → ((t : ℕ) → t < n → P t (get_or left t 0)) → P n x → more ≡ left ++ x ∷ [] → (t : ℕ) → t < n + 1 → P t (get_or more t 0)
pushed_so P left more n x len before here pushed t lt = subst (λ (l : List ℕ). P t (get_or l t 0)) (sym pushed) (elim (cases_lt t n) [
  | inl below ↦ subst (P t) (sym (get_or_append_left left (x ∷ []) 0 t (omega (arith, below, len)))) (before t below)
  | inr behind ↦
      let same : t ≡ n = omega (arith, behind, lt) in
      let last : get_or (left ++ x ∷ []) t 0 ≡ x = ap (λ (k : ℕ). get_or (left ++ x ∷ []) k 0) (same ∙ sym len) ∙ get_or-append_seam left x [] 0 in
      subst (P t) (sym last) (subst (λ (k : ℕ). P k x) (sym same) here)
])
