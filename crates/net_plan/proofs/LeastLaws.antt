-- Addresses are given end by end, each the least that is left.
use Rattle.std.specs.Prelude.{◌||◌, not, option_map, option_and_then}
use Rattle.std.proofs.Common.{◌≡◌, ◌⊎◌, inl, inr, ℕ, zero, suc, ◌+◌, ◌*◌, ◌<◌, ◌≤◌, Bool, true, false, cond, eqb, Option, Some, None, List, [], ◌∷◌, ◌++◌, length, map, refl, sym, ap, subst, ◌∙◌, arith, append_assoc}
use Rattle.std.specs.List.{find, flat_map, enumerate_from, range_with_len}
use Rattle.std.proofs.lemmas.Bool.{not-true, not-false, cases_eq}
use Rattle.std.proofs.Math.Bool.{or-false}
use Rattle.lab_base.proofs.Numbers.{eqb_turned}
use Rattle.virt_topo.specs.declared.wiring.VirtEnd.{VirtEnd}
use Rattle.virt_topo.specs.declared.topo.AskedLink.{AskedLink}
use Rattle.net_plan.specs.Addresses.{addresses_of, ends_of, subnet_of, hosts, address_for, uses, taken, all_taken, addressed_ends, addressed_from, addressed}
use Rattle.net_plan.specs.Least.{seats, IsFor, AreLeast, OneLacks}
use Rattle.net_plan.proofs.AddressLaws.{with_address, with_ends, addresses_of_links, all_taken-append}
use Rattle.net_plan.proofs.Framing.{and_then_some, map_some}

abbrev Seat : Type 0
Seat = Option ℕ × Option ℕ

and_then_none : {A B : Type 0} (f : A → Option B) (o : Option A) → option_and_then f o ≡ None → (o ≡ None) ⊎ ((x : A) × (o ≡ Some x) × (f x ≡ None))
and_then_none f None e = inl refl
and_then_none f (Some x) e = inr (x, refl, e)

map_none : {A B : Type 0} (f : A → B) (o : Option A) → option_map f o ≡ None → o ≡ None
map_none f None e = refl
map_none f (Some x) e = absurd (cc e)

-- each end's address, where those of the ends before are used
abbrev pub Follows : (ℕ → Bool) → List Seat → List ℕ → Type 0
Follows used [] [] = Unit {0}
Follows used [] (a ∷ addresses) = ⊥
Follows used (s ∷ ends) [] = ⊥
Follows used (s ∷ ends) (a ∷ addresses) = (address_for used s.0 s.1 ≡ Some a) × Follows (taken used a) ends addresses

follows-append : (used : ℕ → Bool) (xs : List Seat) (as1 : List ℕ) (ys : List Seat) (as2 : List ℕ) → Follows used xs as1 → Follows (all_taken used as1) ys as2 → Follows used (xs ++ ys) (as1 ++ as2)
follows-append used [] [] ys as2 one two = two
follows-append used [] (a ∷ as1) ys as2 one two = absurd one
follows-append used (s ∷ xs) [] ys as2 one two = absurd one
follows-append used (s ∷ xs) (a ∷ as1) ys as2 one two = (one.0, follows-append (taken used a) xs as1 ys as2 one.1 two)

follows-length : (used : ℕ → Bool) (ends : List Seat) (addresses : List ℕ) → Follows used ends addresses → length addresses ≡ length ends
follows-length used [] [] h = refl
follows-length used [] (a ∷ addresses) h = absurd h
follows-length used (s ∷ ends) [] h = absurd h
follows-length used (s ∷ ends) (a ∷ addresses) h = ap suc (follows-length (taken used a) ends addresses h.1)

follows-at : (used : ℕ → Bool) (before after : List Seat) (s : Seat) (earlier later : List ℕ) (a : ℕ) → Follows used (before ++ s ∷ after) (earlier ++ a ∷ later) → length earlier ≡ length before → address_for (all_taken used earlier) s.0 s.1 ≡ Some a
follows-at used [] after s [] later a h len = h.0
follows-at used [] after s (x ∷ earlier) later a h len = absurd (omega (arith, len))
follows-at used (r ∷ before) after s [] later a h len = absurd (omega (arith, len))
follows-at used (r ∷ before) after s (x ∷ earlier) later a h len = follows-at (taken used x) before after s earlier later a h.1 (omega (arith, len))

-- an end without an address, after those that have theirs
record Stuck (used : ℕ → Bool) (ends : List Seat) : Type 0 where
  before : List Seat
  seat : Seat
  after : List Seat
  earlier : List ℕ
  whole : ends ≡ before ++ seat ∷ after
  follows : Follows used before earlier
  none : address_for (all_taken used earlier) seat.0 seat.1 ≡ None

stuck-front : (used : ℕ → Bool) (xs ys : List Seat) → Stuck used xs → Stuck used (xs ++ ys)
stuck-front used xs ys k = record {
  before = k.before;
  seat = k.seat;
  after = k.after ++ ys;
  earlier = k.earlier;
  whole = ap (λ (l : List Seat). l ++ ys) k.whole ∙ append_assoc k.before (k.seat ∷ k.after) ys;
  follows = k.follows;
  none = k.none;
}

stuck-back : (used : ℕ → Bool) (xs ys : List Seat) (addresses : List ℕ) → Follows used xs addresses → Stuck (all_taken used addresses) ys → Stuck used (xs ++ ys)
stuck-back used xs ys addresses h k = record {
  before = xs ++ k.before;
  seat = k.seat;
  after = k.after;
  earlier = addresses ++ k.earlier;
  whole = ap (λ (l : List Seat). xs ++ l) k.whole ∙ sym (append_assoc xs k.before (k.seat ∷ k.after));
  follows = follows-append used xs addresses k.before k.earlier h k.follows;
  none = ap (λ (u : ℕ → Bool). address_for u k.seat.0 k.seat.1) (all_taken-append used addresses k.earlier) ∙ k.none;
}

-- ENDS OF ONE LINK

abbrev own_seats : Option ℕ → List VirtEnd → List Seat
own_seats subnet ends = map (λ e. (subnet, e.address)) ends

ends_follow : (used : ℕ → Bool) (subnet : Option ℕ) (ends given : List VirtEnd) → addressed_ends used subnet ends ≡ Some given → Follows used (own_seats subnet ends) (addresses_of given)
ends_follow used subnet [] [] is = tt
ends_follow used subnet [] (g ∷ given) is = absurd (cc is)
ends_follow used subnet (e ∷ ends) given is =
    let r1 = and_then_some (λ a. option_map (λ rest. with_address e a ∷ rest) (addressed_ends (taken used a) subnet ends)) (address_for used subnet e.address) given is in
    let r2 = map_some (λ rest. with_address e r1.0 ∷ rest) (addressed_ends (taken used r1.0) subnet ends) given r1.2 in
    subst (λ g. Follows used (own_seats subnet (e ∷ ends)) (addresses_of g)) r2.2 (r1.1, ends_follow (taken used r1.0) subnet ends r2.0 r2.1)

ends_stuck : (used : ℕ → Bool) (subnet : Option ℕ) (ends : List VirtEnd) → addressed_ends used subnet ends ≡ None → Stuck used (own_seats subnet ends)
ends_stuck used subnet [] is = absurd (cc is)
ends_stuck used subnet (e ∷ ends) is =
    elim (and_then_none (λ a. option_map (λ rest. with_address e a ∷ rest) (addressed_ends (taken used a) subnet ends)) (address_for used subnet e.address) is) [
      | inl lacks ↦ record { before = []; seat = (subnet, e.address); after = own_seats subnet ends; earlier = []; whole = refl; follows = tt; none = lacks }
      | inr r ↦
          let k = ends_stuck (taken used r.0) subnet ends (map_none (λ rest. with_address e r.0 ∷ rest) (addressed_ends (taken used r.0) subnet ends) r.2) in
          stuck-back used ((subnet, e.address) ∷ []) (own_seats subnet ends) (r.0 ∷ []) (r.1, tt) k
    ]

-- LINKS

abbrev seats_from : ℕ → List AskedLink → List Seat
seats_from k links = flat_map (λ p. own_seats (subnet_of p.0 (addresses_of p.1.ends)) p.1.ends) (enumerate_from k links)

links_follow : (used : ℕ → Bool) (k : ℕ) (links given : List AskedLink) → addressed_from used k links ≡ Some given → Follows used (seats_from k links) (addresses_of (ends_of given))
links_follow used k [] [] is = tt
links_follow used k [] (g ∷ given) is = absurd (cc is)
links_follow used k (l ∷ links) given is =
    let subnet = subnet_of k (addresses_of l.ends) in
    let r1 = and_then_some (λ ends. option_map (λ rest. with_ends l ends ∷ rest) (addressed_from (all_taken used (addresses_of ends)) (k + 1) links)) (addressed_ends used subnet l.ends) given is in
    let later : ℕ → Bool = all_taken used (addresses_of r1.0) in
    let r2 = map_some (λ rest. with_ends l r1.0 ∷ rest) (addressed_from later (k + 1) links) given r1.2 in
    let own = ends_follow used subnet l.ends r1.0 r1.1 in
    let rest = links_follow later (k + 1) links r2.0 r2.1 in
    subst (λ g. Follows used (seats_from k (l ∷ links)) (addresses_of (ends_of g))) r2.2
    (subst (Follows used (seats_from k (l ∷ links))) (sym (addresses_of_links (with_ends l r1.0) r2.0))
    (follows-append used (own_seats subnet l.ends) (addresses_of r1.0) (seats_from (k + 1) links) (addresses_of (ends_of r2.0)) own rest))

links_stuck : (used : ℕ → Bool) (k : ℕ) (links : List AskedLink) → addressed_from used k links ≡ None → Stuck used (seats_from k links)
links_stuck used k [] is = absurd (cc is)
links_stuck used k (l ∷ links) is =
    let subnet = subnet_of k (addresses_of l.ends) in
    elim (and_then_none (λ ends. option_map (λ rest. with_ends l ends ∷ rest) (addressed_from (all_taken used (addresses_of ends)) (k + 1) links)) (addressed_ends used subnet l.ends) is) [
      | inl lacks ↦ stuck-front used (own_seats subnet l.ends) (seats_from (k + 1) links) (ends_stuck used subnet l.ends lacks)
      | inr r ↦
          let later : ℕ → Bool = all_taken used (addresses_of r.0) in
          stuck-back used (own_seats subnet l.ends) (seats_from (k + 1) links) (addresses_of r.0) (ends_follow used subnet l.ends r.0 r.1)
          (links_stuck later (k + 1) links (map_none (λ rest. with_ends l r.0 ∷ rest) (addressed_from later (k + 1) links) r.2))
    ]

-- WHAT IS USED

all_taken-at : (used : ℕ → Bool) (xs : List ℕ) (b : ℕ) → all_taken used xs b ≡ (uses xs b || used b)
all_taken-at used [] b = refl
all_taken-at used (x ∷ xs) b = all_taken-at (taken used x) xs b ∙ ap (λ (t : Bool). uses xs b || (t || used b)) (eqb_turned x b) ∙ or_swap (uses xs b) (eqb b x) (used b)
  where
    or_swap : (a c d : Bool) → (a || (c || d)) ≡ ((c || a) || d)
    or_swap true true d = refl
    or_swap true false d = refl
    or_swap false c d = or_false c d
      where
        or_false : (c d : Bool) → (c || d) ≡ ((c || false) || d)
        or_false true d = refl
        or_false false d = refl

used-all : (explicit earlier : List ℕ) → all_taken (all_taken (λ a. false) explicit) earlier ≡ uses (explicit ++ earlier)
used-all explicit earlier =
    let at : (b : ℕ) → all_taken (all_taken (λ a. false) explicit) earlier b ≡ uses (explicit ++ earlier) b =
    λ b. ap (λ (u : ℕ → Bool). u b) (sym (all_taken-append (λ a. false) explicit earlier)) ∙ all_taken-at (λ a. false) (explicit ++ earlier) b ∙ or-false (uses (explicit ++ earlier) b) in
    λ i b. at b i

-- THE FIRST THAT IS FREE IS THE LEAST

pub record IsFirst (p : ℕ → Bool) (f : ℕ → ℕ) (low most a : ℕ) : Type 0 where
  pub host : ℕ
  pub from : low ≤ host
  pub below : host < most
  pub is : f host ≡ a
  pub passes : p a ≡ true
  pub first : (h : ℕ) → low ≤ h → h < host → p (f h) ≡ false

find_first : (p : ℕ → Bool) (f : ℕ → ℕ) (low n a : ℕ) → find p (map f (range_with_len low n)) ≡ Some a → IsFirst p f low (low + n) a
find_first p f low zero a e = absurd (cc e)
find_first p f low (suc n) a e = by (λ d. find_first p f (low + 1) n a d) (p (f low)) refl e
  where
    by : (find p (map f (range_with_len (low + 1) n)) ≡ Some a → IsFirst p f (low + 1) (low + 1 + n) a) → (b : Bool) → p (f low) ≡ b → cond b (Some (f low)) (find p (map f (range_with_len (low + 1) n))) ≡ Some a → IsFirst p f low (low + suc n) a
    by later true is d =
        let same : f low ≡ a = cc d in
        record { host = low; from = omega arith; below = omega arith; is = same; passes = ap p (sym same) ∙ is; first = λ h le lt. absurd (omega (arith, le, lt)) }
    by later false is d =
        let r = later d in
        record {
          host = r.host;
          from = omega (arith, r.from);
          below = omega (arith, r.below);
          is = r.is;
          passes = r.passes;
          first = λ h le lt. elim (cases_eq low h) [ inl e ↦ ap (λ (k : ℕ). p (f k)) (sym e) ∙ is | inr ne ↦ r.first h (omega (arith, le, ne)) lt ];
        }

find_none : (p : ℕ → Bool) (f : ℕ → ℕ) (low n h : ℕ) → find p (map f (range_with_len low n)) ≡ None → low ≤ h → h < low + n → p (f h) ≡ false
find_none p f low zero h e le lt = absurd (omega (arith, le, lt))
find_none p f low (suc n) h e le lt = by (λ d le' lt'. find_none p f (low + 1) n h d le' lt') (p (f low)) refl e
  where
    by : (find p (map f (range_with_len (low + 1) n)) ≡ None → low + 1 ≤ h → h < low + 1 + n → p (f h) ≡ false) → (b : Bool) → p (f low) ≡ b → cond b (Some (f low)) (find p (map f (range_with_len (low + 1) n))) ≡ None → p (f h) ≡ false
    by later true is d = absurd (cc d)
    by later false is d = elim (cases_eq low h) [ inl same ↦ ap (λ (k : ℕ). p (f k)) (sym same) ∙ is | inr ne ↦ later d (omega (arith, le, ne)) (omega (arith, lt)) ]

is_for : (used : List ℕ) (subnet own : Option ℕ) (a : ℕ) → address_for (uses used) subnet own ≡ Some a → IsFor used (subnet, own) a
unfolding hosts
is_for used subnet (Some b) a e = cc e
is_for used (Some s) None a e =
    let r = find_first (λ b. not (uses used b)) (λ host. s * 256 + host) 1 254 a e in
    record {
      host = r.host;
      low = r.from;
      high = omega (arith, r.below);
      is = sym r.is;
      free = not-true (uses used a) r.passes;
      least = λ h le lt. not-false (uses used (s * 256 + h)) (r.first h le lt);
    }
is_for used None None a e = absurd (cc e)

is_for_none : (used : List ℕ) (subnet own : Option ℕ) (a : ℕ) → address_for (uses used) subnet own ≡ None → IsFor used (subnet, own) a → ⊥
unfolding hosts
is_for_none used subnet (Some b) a e h = cc e
is_for_none used (Some s) None a e h =
    let full : not (uses used (s * 256 + h.host)) ≡ false = find_none (λ b. not (uses used b)) (λ host. s * 256 + host) 1 254 h.host e h.low (omega (arith, h.high)) in
    let free : not (uses used (s * 256 + h.host)) ≡ true = ap (λ (b : ℕ). not (uses used b)) (sym h.is) ∙ ap not h.free in
    absurd (cc (full, free))
is_for_none used None None a e h = h

-- SO

pub are_least : (explicit : List ℕ) (ends : List Seat) (addresses : List ℕ) → Follows (all_taken (λ a. false) explicit) ends addresses → AreLeast explicit ends addresses
are_least explicit ends addresses h = record {
  all = follows-length (all_taken (λ a. false) explicit) ends addresses h;
  each = λ before after s earlier later a is at len.
      let both : Follows (all_taken (λ a. false) explicit) (before ++ s ∷ after) (earlier ++ a ∷ later) = subst (λ e. Follows (all_taken (λ a. false) explicit) e (earlier ++ a ∷ later)) is (subst (Follows (all_taken (λ a. false) explicit) ends) at h) in
      let own = follows-at (all_taken (λ a. false) explicit) before after s earlier later a both len in
      is_for (explicit ++ earlier) s.0 s.1 a (ap (λ (u : ℕ → Bool). address_for u s.0 s.1) (sym (used-all explicit earlier)) ∙ own);
}

pub gives_least : (links given : List AskedLink) → addressed links ≡ Some given → AreLeast (addresses_of (ends_of links)) (seats links) (addresses_of (ends_of given))
gives_least links given is =
    are_least (addresses_of (ends_of links)) (seats links) (addresses_of (ends_of given)) (links_follow (all_taken (λ a. false) (addresses_of (ends_of links))) 1 links given is)

pub lacks_one : (links : List AskedLink) → addressed links ≡ None → OneLacks (addresses_of (ends_of links)) (seats links)
lacks_one links is =
    let explicit = addresses_of (ends_of links) in
    let k = links_stuck (all_taken (λ a. false) explicit) 1 links is in
    record {
      before = k.before;
      end = k.seat;
      after = k.after;
      earlier = k.earlier;
      whole = k.whole;
      least = are_least explicit k.before k.earlier k.follows;
      lacks = λ a h. is_for_none (explicit ++ k.earlier) k.seat.0 k.seat.1 a (ap (λ (u : ℕ → Bool). address_for u k.seat.0 k.seat.1) (sym (used-all explicit k.earlier)) ∙ k.none) h;
    }
