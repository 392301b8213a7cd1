-- An event leaves one wiring.
use Rattle.std.proofs.Common.{◌≡◌, Bool, true, false, List, [], ◌∷◌, map, filter, refl, ap, sym, ◌∙◌}
use Rattle.std.specs.Prelude.{not, if◌then◌else◌}
use Rattle.virt_topo.specs.declared.wiring.Pipe.{Pipe}
use Rattle.virt_topo.specs.declared.wiring.Wiring.{Wiring}
use Rattle.ns_events.specs.declared.event.Event.{Event}
use Rattle.ns_events.specs.Pipes.{is_of, own_pipes, other_pipes, ends_of, rates_of}
use Rattle.ns_events.specs.Changes.{IsApplied, wanted}
use Rattle.ns_events.proofs.Applying.{same_owner}

-- a pipe is its ends and its rates
same_pipe : (p q : Pipe) → ends_of p ≡ ends_of q → rates_of p ≡ rates_of q → p ≡ q
same_pipe p q e r = λ i. record { node = (e i).0; from = (e i).1; to = (e i).2; there = (r i).0; back = (r i).1 }

pub pipes_once : (own : Pipe → Bool) → ((p q : Pipe) → ends_of p ≡ ends_of q → own p ≡ own q) → (ps qs : List Pipe) → map ends_of ps ≡ map ends_of qs
    → filter (λ p. not (own p)) ps ≡ filter (λ p. not (own p)) qs → map rates_of (filter own ps) ≡ map rates_of (filter own qs) → ps ≡ qs
pipes_once own same [] [] ends others rates = refl
pipes_once own same [] (q ∷ qs) ends others rates = absurd (cc ends)
pipes_once own same (p ∷ ps) [] ends others rates = absurd (cc ends)
pipes_once own same (p ∷ ps) (q ∷ qs) ends others rates =
    let here : ends_of p ≡ ends_of q = cc ends in
    let more : map ends_of ps ≡ map ends_of qs = cc ends in
    by here (λ a b. pipes_once own same ps qs more a b) (own p) (own q) (same p q here) others rates
  where
    by : ends_of p ≡ ends_of q
        → (filter (λ x. not (own x)) ps ≡ filter (λ x. not (own x)) qs → map rates_of (filter own ps) ≡ map rates_of (filter own qs) → ps ≡ qs)
        → (a b : Bool) → a ≡ b
        → (if not a then p ∷ filter (λ x. not (own x)) ps else filter (λ x. not (own x)) ps) ≡ (if not b then q ∷ filter (λ x. not (own x)) qs else filter (λ x. not (own x)) qs)
        → map rates_of (if a then p ∷ filter own ps else filter own ps) ≡ map rates_of (if b then q ∷ filter own qs else filter own qs)
        → p ∷ ps ≡ q ∷ qs
    by here rest true true e others rates =
        let r : rates_of p ≡ rates_of q = cc rates in
        let rs : map rates_of (filter own ps) ≡ map rates_of (filter own qs) = cc rates in
        λ i. same_pipe p q here r i ∷ rest others rs i
    by here rest true false e others rates = absurd (cc e)
    by here rest false true e others rates = absurd (cc e)
    by here rest false false e others rates =
        let r : p ≡ q = cc others in
        let rs : filter (λ x. not (own x)) ps ≡ filter (λ x. not (own x)) qs = cc others in
        λ i. r i ∷ rest rs rates i

-- what is said of a wiring, of its pipes alone
said : (e : Event) (text now new : Wiring) → IsApplied e text now new
    → (filter (λ p. not (is_of now e.link p)) new.pipes ≡ other_pipes now e.link) × (map rates_of (filter (is_of now e.link) new.pipes) ≡ wanted e.what (own_pipes text e.link) (own_pipes now e.link))
said e text now new is =
    let tests : (p : Pipe) → is_of new e.link p ≡ is_of now e.link p = λ p. ap (λ (w : Wiring). is_of w e.link p) is.rest in
    let owners : ◌≡◌ {A = Pipe → Bool} (is_of new e.link) (is_of now e.link) = λ i p. tests p i in
    (ap (λ (own : Pipe → Bool). filter (λ p. not (own p)) new.pipes) (sym owners) ∙ is.others, ap (λ (own : Pipe → Bool). map rates_of (filter own new.pipes)) (sym owners) ∙ is.own)

pub applied_once : (e : Event) (text now one other : Wiring) → IsApplied e text now one → IsApplied e text now other → one ≡ other
applied_once e text now one other a b =
    let x = said e text now one a in
    let y = said e text now other b in
    let pipes : one.pipes ≡ other.pipes = pipes_once (is_of now e.link) (same_owner now e.link) one.pipes other.pipes (a.ends ∙ sym b.ends) (x.0 ∙ sym y.0) (x.1 ∙ sym y.1) in
    a.rest ∙ ap (λ (ps : List Pipe). record now { pipes = ps }) pipes ∙ sym b.rest
