-- The pipes after an event: the ends stay, the others stay, and the link's own have the wanted rates.
use Rattle.std.proofs.Common.{◌≡◌, ℕ, Bool, true, false, List, [], ◌∷◌, length, map, filter, refl, ap, arith}
use Rattle.std.specs.Prelude.{not, if◌then◌else◌}
use Rattle.lab_base.specs.declared.rates.Rates.{Rates}
use Rattle.virt_topo.specs.declared.wiring.Pipe.{Pipe}
use Rattle.ns_events.specs.declared.event.What.{What}
use Rattle.ns_events.specs.declared.event.What.TheVariants as whats
use Rattle.ns_events.specs.Pipes.{ends_of, rates_of}
use Rattle.ns_events.specs.Changes.{lost, shaped_pipe, wanted}
use Rattle.ns_events.specs.Renewed.{renewed, renewed_pipe}

-- a pipe made anew joins the same ends
pub same_ends : (what : What) (n : ℕ) (p t : Pipe) → ends_of (renewed_pipe what n p t) ≡ ends_of p
same_ends whats.Down n p t = refl
same_ends whats.Up n p t = refl
same_ends (whats.Rates rates) n p t = refl

module _ (own : Pipe → Bool) (f : Pipe → Pipe → Pipe) where
  pub keeps_ends : ((p t : Pipe) → ends_of (f p t) ≡ ends_of p) → (ps ts : List Pipe) → map ends_of (renewed own f ps ts) ≡ map ends_of ps
  keeps_ends same ps [] = refl
  keeps_ends same [] (t ∷ ts) = refl
  keeps_ends same (p ∷ ps) (t ∷ ts) = by (keeps_ends same ps ts) (keeps_ends same ps (t ∷ ts)) (own p)
    where
      by : map ends_of (renewed own f ps ts) ≡ map ends_of ps → map ends_of (renewed own f ps (t ∷ ts)) ≡ map ends_of ps
          → (b : Bool) → map ends_of (if b then f p t ∷ renewed own f ps ts else p ∷ renewed own f ps (t ∷ ts)) ≡ ends_of p ∷ map ends_of ps
      by next past true = λ i. same p t i ∷ next i
      by next past false = ap (λ (l : List (ℕ × ℕ × ℕ)). ends_of p ∷ l) past

  pub keeps_others : ((p t : Pipe) → own (f p t) ≡ own p) → (ps ts : List Pipe) → filter (λ p. not (own p)) (renewed own f ps ts) ≡ filter (λ p. not (own p)) ps
  keeps_others same ps [] = refl
  keeps_others same [] (t ∷ ts) = refl
  keeps_others same (p ∷ ps) (t ∷ ts) = by (keeps_others same ps ts) (keeps_others same ps (t ∷ ts)) (own p) refl
    where
      by : filter (λ q. not (own q)) (renewed own f ps ts) ≡ filter (λ q. not (own q)) ps → filter (λ q. not (own q)) (renewed own f ps (t ∷ ts)) ≡ filter (λ q. not (own q)) ps
          → (b : Bool) → own p ≡ b
          → filter (λ q. not (own q)) (if b then f p t ∷ renewed own f ps ts else p ∷ renewed own f ps (t ∷ ts)) ≡ filter (λ q. not (own q)) (p ∷ ps)
      by next past true e = rw (same p t, e) next
      by next past false e = rw e (ap (λ (l : List Pipe). p ∷ l) past)

  -- one after another
  abbrev pub paired : List Pipe → List Pipe → List Pipe
  paired ps [] = ps
  paired [] (t ∷ ts) = []
  paired (p ∷ ps) (t ∷ ts) = f p t ∷ paired ps ts

  pub own_paired : ((p t : Pipe) → own (f p t) ≡ own p) → (ps ts : List Pipe) → filter own (renewed own f ps ts) ≡ paired (filter own ps) ts
  own_paired same ps [] = refl
  own_paired same [] (t ∷ ts) = refl
  own_paired same (p ∷ ps) (t ∷ ts) = by (own_paired same ps ts) (own_paired same ps (t ∷ ts)) (own p) refl
    where
      by : filter own (renewed own f ps ts) ≡ paired (filter own ps) ts → filter own (renewed own f ps (t ∷ ts)) ≡ paired (filter own ps) (t ∷ ts)
          → (b : Bool) → own p ≡ b
          → filter own (if b then f p t ∷ renewed own f ps ts else p ∷ renewed own f ps (t ∷ ts)) ≡ paired (filter own (p ∷ ps)) (t ∷ ts)
      by next past true e = rw (same p t, e) (ap (λ (l : List Pipe). f p t ∷ l) next)
      by next past false e = rw e past

pub none_left : (own : Pipe → Bool) (f : Pipe → Pipe → Pipe) (ts : List Pipe) → renewed own f [] ts ≡ []
none_left own f [] = refl
none_left own f (t ∷ ts) = refl

-- the rates of pairs of so many
downed : (own : Pipe → Bool) (n : ℕ) (ps ts : List Pipe) → length ps ≡ length ts → map rates_of (paired own (renewed_pipe whats.Down n) ps ts) ≡ map (λ p. (lost p.there, lost p.back)) ps
downed own n [] [] e = refl
downed own n (p ∷ ps) [] e = absurd (omega arith)
downed own n [] (t ∷ ts) e = refl
downed own n (p ∷ ps) (t ∷ ts) e = ap (λ (l : List (Rates × Rates)). (lost p.there, lost p.back) ∷ l) (downed own n ps ts (omega arith))

upped : (own : Pipe → Bool) (n : ℕ) (ps ts : List Pipe) → length ps ≡ length ts → map rates_of (paired own (renewed_pipe whats.Up n) ps ts) ≡ map rates_of ts
upped own n [] [] e = refl
upped own n (p ∷ ps) [] e = absurd (omega arith)
upped own n [] (t ∷ ts) e = absurd (omega arith)
upped own n (p ∷ ps) (t ∷ ts) e = ap (λ (l : List (Rates × Rates)). rates_of t ∷ l) (upped own n ps ts (omega arith))

given : (own : Pipe → Bool) (rates : Rates) (n : ℕ) (ps ts : List Pipe) → length ps ≡ length ts
    → map rates_of (paired own (renewed_pipe (whats.Rates rates) n) ps ts) ≡ map (λ p. rates_of (shaped_pipe n rates p.node)) ps
given own rates n [] [] e = refl
given own rates n (p ∷ ps) [] e = absurd (omega arith)
given own rates n [] (t ∷ ts) e = refl
given own rates n (p ∷ ps) (t ∷ ts) e = ap (λ (l : List (Rates × Rates)). rates_of (shaped_pipe n rates p.node) ∷ l) (given own rates n ps ts (omega arith))

pub gives_wanted : (own : Pipe → Bool) (what : What) (ps ts : List Pipe) → length ps ≡ length ts
    → map rates_of (paired own (renewed_pipe what (length ts)) ps ts) ≡ wanted what ts ps
gives_wanted own whats.Down ps ts e = downed own (length ts) ps ts e
gives_wanted own whats.Up ps ts e = upped own (length ts) ps ts e
gives_wanted own (whats.Rates rates) ps ts e = given own rates (length ts) ps ts e
