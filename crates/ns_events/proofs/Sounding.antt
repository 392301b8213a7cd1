-- A wiring after an event is sound.
use Rattle.std.proofs.Common.{◌≡◌, ℕ, ◌≤◌, Bool, true, false, List, [], ◌∷◌, length, map, filter, refl, ap, sym, ◌∙◌, arith}
use Rattle.std.specs.Prelude.{◌==◌, ◌&&◌, ◌||◌, nat_le, if◌then◌else◌}
use Rattle.std.specs.List.{list_all, list_any}
use Rattle.std.proofs.lemmas.Bool.{and_parts, and_from}
use Rattle.lab_base.specs.declared.rates.Rates.{Rates}
use Rattle.virt_topo.specs.declared.wiring.Pipe.{Pipe}
use Rattle.virt_topo.specs.declared.wiring.Wiring.{Wiring}
use Rattle.virt_topo.specs.Ends.{end_nodes}
use Rattle.virt_topo.specs.Repeats.{stands_again}
use Rattle.virt_topo.specs.Soundness.{IsSound, limits_pipe, are_rates, is_speed, knows_pipe, is_bad_pipe, shares_end}
use Rattle.virt_topo.proofs.CableLaws.{sound_limits}
use Rattle.net_plan.specs.Parts.{link_pipe, lan_pipe}
use Rattle.net_plan.proofs.LimitLaws.{pipe_keeps}
use Rattle.ns_events.specs.declared.event.What.{What}
use Rattle.ns_events.specs.declared.event.What.TheVariants as whats
use Rattle.ns_events.specs.Pipes.{ends_of}
use Rattle.ns_events.specs.Changes.{lost, KeepsLimits}
use Rattle.ns_events.specs.Renewed.{renewed, renewed_pipe}

-- LIMITS

pub few_ends : (w : Wiring) → IsSound w → length (end_nodes w.segments) ≤ 65536
few_ends w sound = omega (arith, (sound_limits w sound).ends)

pub sound_pipes : (w : Wiring) → IsSound w → list_all limits_pipe w.pipes ≡ true
sound_pipes w sound = (sound_limits w sound).each_pipe

-- what all pipes pass, some of them do
pub some_pass : (p own : Pipe → Bool) (ps : List Pipe) → list_all p ps ≡ true → list_all p (filter own ps) ≡ true
some_pass p own [] all = refl
some_pass p own (q ∷ ps) all =
    let parts = and_parts (p q) (list_all p ps) all in
    by parts.0 (some_pass p own ps parts.1) (own q)
  where
    by : p q ≡ true → list_all p (filter own ps) ≡ true → (b : Bool) → list_all p (if b then q ∷ filter own ps else filter own ps) ≡ true
    by here rest true = and_from (p q) _ here rest
    by here rest false = rest

lost_keeps : (r : Rates) → are_rates r ≡ true → are_rates (lost r) ≡ true
lost_keeps r is =
    let p1 = and_parts (is_speed r.kbps) _ is in
    let p2 = and_parts (nat_le r.micros 10000000) _ p1.1 in
    and_from _ _ p1.0 (and_from _ _ p2.0 refl)

shaped_keeps : (b : Bool) (r : Rates) (node : ℕ) → are_rates r ≡ true → limits_pipe (if b then link_pipe r node else lan_pipe r node) ≡ true
shaped_keeps true r node is = and_from _ _ is is
shaped_keeps false r node is = pipe_keeps r node is

pub one_keeps : (what : What) (n : ℕ) (p t : Pipe) → KeepsLimits what → limits_pipe p ≡ true → limits_pipe t ≡ true → limits_pipe (renewed_pipe what n p t) ≡ true
one_keeps whats.Down n p t k is it =
    let parts = and_parts (are_rates p.there) (are_rates p.back) is in
    and_from _ _ (lost_keeps p.there parts.0) (lost_keeps p.back parts.1)
one_keeps whats.Up n p t k is it = it
one_keeps (whats.Rates rates) n p t k is it = shaped_keeps (n == 1) rates p.node k

pub all_keep : (own : Pipe → Bool) (f : Pipe → Pipe → Pipe) → ((p t : Pipe) → limits_pipe p ≡ true → limits_pipe t ≡ true → limits_pipe (f p t) ≡ true)
    → (ps ts : List Pipe) → list_all limits_pipe ps ≡ true → list_all limits_pipe ts ≡ true → list_all limits_pipe (renewed own f ps ts) ≡ true
all_keep own f one ps [] all none = all
all_keep own f one [] (t ∷ ts) all more = refl
all_keep own f one (p ∷ ps) (t ∷ ts) all more =
    let here = and_parts (limits_pipe p) (list_all limits_pipe ps) all in
    let there = and_parts (limits_pipe t) (list_all limits_pipe ts) more in
    by here.0 (one p t here.0 there.0) (all_keep own f one ps ts here.1 there.1) (all_keep own f one ps (t ∷ ts) here.1 more) (own p)
  where
    by : limits_pipe p ≡ true → limits_pipe (f p t) ≡ true → list_all limits_pipe (renewed own f ps ts) ≡ true → list_all limits_pipe (renewed own f ps (t ∷ ts)) ≡ true
        → (b : Bool) → list_all limits_pipe (if b then f p t ∷ renewed own f ps ts else p ∷ renewed own f ps (t ∷ ts)) ≡ true
    by old new next past true = and_from _ _ new next
    by old new next past false = and_from _ _ old past

-- WHAT HANGS ON THE ENDS ALONE

module _ {X Y : Type 0} (k : X → Y) where
  all_of : (g : Y → Bool) (xs : List X) → list_all (λ x. g (k x)) xs ≡ list_all g (map k xs)
  all_of g [] = refl
  all_of g (x ∷ xs) = ap (λ (b : Bool). g (k x) && b) (all_of g xs)

  any_of : (g : Y → Bool) (xs : List X) → list_any (λ x. g (k x)) xs ≡ list_any g (map k xs)
  any_of g [] = refl
  any_of g (x ∷ xs) = ap (λ (b : Bool). g (k x) || b) (any_of g xs)

  again_of : (g : Y → Y → Bool) (xs : List X) → stands_again (λ x y. g (k x) (k y)) xs ≡ stands_again g (map k xs)
  again_of g [] = refl
  again_of g (x ∷ xs) = λ i. any_of (g (k x)) xs i || again_of g xs i

abbrev ends_share : (ℕ × ℕ × ℕ) → (ℕ × ℕ × ℕ) → Bool
ends_share a b = (a.0 == b.0) && ((a.1 == b.1) || ((a.1 == b.2) || ((a.2 == b.1) || (a.2 == b.2))))

-- a pipe of these ends
abbrev bare : (ℕ × ℕ × ℕ) → Pipe
bare e = record { node = e.0; from = e.1; to = e.2; there = record { kbps = 0; micros = 0; ppm = 0 }; back = record { kbps = 0; micros = 0; ppm = 0 } }

pub sound_again : (w : Wiring) (ps : List Pipe) → map ends_of ps ≡ map ends_of w.pipes → list_all limits_pipe ps ≡ true → IsSound w → IsSound (record w { pipes = ps })
sound_again w ps ends keep sound =
    let few : list_all limits_pipe ps ≡ list_all limits_pipe w.pipes = keep ∙ sym (sound_pipes w sound) in
    let known : list_all (knows_pipe w) ps ≡ list_all (knows_pipe w) w.pipes = all_of ends_of (λ e. knows_pipe w (bare e)) ps ∙ ap (list_all (λ e. knows_pipe w (bare e))) ends ∙ sym (all_of ends_of (λ e. knows_pipe w (bare e)) w.pipes) in
    let bad : list_any (is_bad_pipe w) ps ≡ list_any (is_bad_pipe w) w.pipes = any_of ends_of (λ e. is_bad_pipe w (bare e)) ps ∙ ap (list_any (λ e. is_bad_pipe w (bare e))) ends ∙ sym (any_of ends_of (λ e. is_bad_pipe w (bare e)) w.pipes) in
    let shared : stands_again shares_end ps ≡ stands_again shares_end w.pipes = again_of ends_of ends_share ps ∙ ap (stands_again ends_share) ends ∙ sym (again_of ends_of ends_share w.pipes) in
    rw (few, known, bad, shared) sound
