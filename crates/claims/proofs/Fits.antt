-- A claim within a lab has its places in the tables.
use Rattle.std.specs.Prelude.{IfSome, All}
use Rattle.std.proofs.Common.{◌≡◌, inl, inr, ℕ, ◌+◌, ◌-◌, ◌<◌, ◌≤◌, Option, Some, None, List, [], ◌∷◌, length, refl, sym, ◌∙◌, arith}
use Rattle.std.specs.List.{AllByRecursion}
use Rattle.std.proofs.lemmas.List.Elements.{All-from_recursion}
use Rattle.lab_base.specs.Lists.{Has}
use Rattle.lab_base.proofs.Members.{Has-left, Has-right, Has-mapped}
use Rattle.claims.specs.declared.hold.Hold.{Hold}
use Rattle.claims.specs.declared.claim.Claim.{Claim}
use Rattle.claims.specs.declared.claim.Entry.{Entry}
use Rattle.claims.specs.declared.tables.Tables.{Tables}
use Rattle.claims.specs.Held.{nodes_in, tags_in}
use Rattle.claims.specs.Adding.{IsWithin}
use Rattle.claims.specs.Kept.{held_in, Keeps}
use Rattle.claims.specs.Marks.{SideFits, FitsTables}

pub all_from_has : {X : Type 0} (P : X → Type 0) (xs : List X) → ((x : X) → Has xs x → P x) → All P xs
all_from_has {X = X} P xs h = All-from_recursion P xs (by xs h)
  where
    by : (ys : List X) → ((x : X) → Has ys x → P x) → AllByRecursion P ys
    by [] h = tt
    by (y ∷ ys) h = (h y (inl refl), by ys (λ x g. h x (inr g)))

side_fits : (first last nodes trunks ids : ℕ) (side : Option Hold) → ids ≡ last + 1 - first → ((n : ℕ) → Has (nodes_in side) n → n < nodes) → ((id : ℕ) → Has (tags_in side) id → (first ≤ id) × (id ≤ last)) → IfSome side (λ h. length h.uses ≡ trunks) → IfSome side (SideFits first nodes trunks ids)
side_fits first last nodes trunks ids None is in_nodes in_ids uses = tt
side_fits first last nodes trunks ids (Some h) is in_nodes in_ids uses = record {
  in_nodes = all_from_has (λ n. n.0 < nodes) h.nodes (λ n g. in_nodes n.0 (Has-mapped (λ m. m.0) h.nodes n g));
  in_ids = all_from_has (λ tag. (first ≤ tag.0) × (tag.0 - first < ids)) h.tags (λ tag g. let i = in_ids tag.0 (Has-mapped (λ x. x.0) h.tags tag g) in (i.0, omega (arith, i.0, i.1, is)));
  uses = uses;
}

pub fits_tables : (range : ℕ × ℕ) (kbps : List ℕ) (es : List Entry) (tables : Tables) (c : Claim) → Keeps range kbps es tables → IsWithin (held_in range kbps es tables) c → FitsTables range.0 tables c
fits_tables range kbps es tables c k w = record {
  old = side_fits range.0 range.1 _ _ _ c.old k.are_tables.ids (λ n g. w.nodes n (Has-left (nodes_in c.old) (nodes_in c.new) n g)) (λ id g. w.tags id (Has-left (tags_in c.old) (tags_in c.new) id g)) (moved c.old w.old_uses);
  new = side_fits range.0 range.1 _ _ _ c.new k.are_tables.ids (λ n g. w.nodes n (Has-right (nodes_in c.old) (nodes_in c.new) n g)) (λ id g. w.tags id (Has-right (tags_in c.old) (tags_in c.new) id g)) (moved c.new w.new_uses);
}
  where
    moved : (side : Option Hold) → IfSome side (λ h. length h.uses ≡ length kbps) → IfSome side (λ h. length h.uses ≡ length tables.used.items)
    moved None h = tt
    moved (Some side) h = h ∙ sym k.are_tables.trunks
