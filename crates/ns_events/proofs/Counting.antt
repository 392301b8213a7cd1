-- An event leaves each link or LAN as many pipes as it has.
use Rattle.std.specs.Prelude.{if◌then◌else◌}
use Rattle.std.proofs.Common.{◌≡◌, ℕ, suc, Bool, true, false, List, [], ◌∷◌, filter, length, map, refl, sym, ap, ◌∙◌}
use Rattle.lab_base.specs.Names.{same_name}
use Rattle.virt_topo.specs.Ends.{end_nodes, end_number}
use Rattle.virt_topo.specs.Soundness.{owner_at}
use Rattle.virt_topo.specs.declared.wiring.Wiring.{Wiring}
use Rattle.ns_events.specs.declared.event.Event.{Event}
use Rattle.ns_events.specs.Changes.{IsApplied}
use Rattle.ns_events.specs.Once.{ShapesStay}
use Rattle.ns_events.specs.Pipes.{ends_of, is_of, own_pipes}

module _ {X Y : Type 0} (f : X → Y) (q : Y → Bool) where
  one_more : (b : Bool) (x : X) (xs : List X) (ys : List Y) → length xs ≡ length ys → (y : Y)
      → length (if b then x ∷ xs else xs) ≡ length (if b then y ∷ ys else ys)
  one_more true x xs ys is y = ap suc is
  one_more false x xs ys is y = is

  counts : (xs : List X) → length (filter (λ x. q (f x)) xs) ≡ length (filter q (map f xs))
  counts [] = refl
  counts (x ∷ xs) = one_more (q (f x)) x (filter (λ z. q (f z)) xs) (filter q (map f xs)) (counts xs) (f x)

module _ (event : Event) (text now new : Wiring) (applied : IsApplied event text now new) (link : List ℕ) where
  abbrev of_ends : ℕ × ℕ × ℕ → Bool
  of_ends p = same_name (owner_at now (end_number (end_nodes now.segments) p.0 p.1)) link

  as_before : own_pipes new link ≡ filter (is_of now link) new.pipes
  as_before = ap (λ (w : Wiring). filter (is_of w link) new.pipes) applied.rest

  same_count : length (own_pipes new link) ≡ length (own_pipes now link)
  same_count = ap length as_before ∙ counts ends_of of_ends new.pipes ∙ ap (λ l. length (filter of_ends l)) applied.ends ∙ sym (counts ends_of of_ends now.pipes)

pub shapes_stay : ShapesStay
shapes_stay event text now new applied link = same_count event text now new applied link
