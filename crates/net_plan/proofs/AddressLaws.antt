-- Addresses of ends, one end or one link more.
use Rattle.std.specs.Prelude.{◌||◌, nat_eq, option_map, option_and_then}
use Rattle.std.specs.List.{list_any, cons_option}
use Rattle.std.proofs.Common.{◌≡◌, ℕ, ◌+◌, ◌<◌, Bool, true, false, Option, Some, None, List, [], ◌∷◌, ◌++◌, length, take, drop, get_or, refl, sym, ap, ◌∙◌, append_assoc}
use Rattle.std.proofs.lemmas.List.{take_more}
use Rattle.std.proofs.lemmas.List.Elements.{filter_map-append}
use Rattle.std.proofs.lemmas.Grind.{flat_map-append}
use Rattle.lab_base.proofs.Lists.{item_at}
use Rattle.lab_base.proofs.Tests.{or_nested}
use Rattle.virt_topo.specs.declared.wiring.VirtEnd.{VirtEnd}
use Rattle.virt_topo.specs.declared.topo.AskedLink.{AskedLink}
use Rattle.virt_topo.specs.Repeats.{stands_again}
use Rattle.net_plan.specs.Addresses.{addresses_of, ends_of, subnet_of, address_for, taken, all_taken, addressed_ends, addressed_from, repeats}

-- what is put before a list that there may be
pub before_twice : {X : Type 0} (xs : List X) (x : X) (o : Option (List X)) → option_map (λ rest. xs ++ rest) (option_map (λ rest. x ∷ rest) o) ≡ option_map (λ rest. (xs ++ x ∷ []) ++ rest) o
before_twice xs x None = refl
before_twice {X} xs x (Some rest) = ap (λ (l : List X). Some l) (sym (append_assoc xs (x ∷ []) rest))

pub before_none : {X : Type 0} (o : Option (List X)) → o ≡ option_map (λ rest. [] ++ rest) o
before_none None = refl
before_none (Some rest) = refl

-- ENDS

abbrev pub with_address : VirtEnd → ℕ → VirtEnd
with_address e a = record { node = e.node; address = Some a }

pub ends_more : (used : ℕ → Bool) (subnet : Option ℕ) (ends : List VirtEnd) (i : ℕ) (e : VirtEnd) (a : ℕ) → i < length ends → e ≡ get_or ends i e → Some a ≡ address_for used subnet e.address
    → addressed_ends used subnet (drop i ends) ≡ option_map (λ rest. with_address e a ∷ rest) (addressed_ends (taken used a) subnet (drop (i + 1) ends))
ends_more used subnet ends i e a lt is given =
    let next : ℕ → Option (List VirtEnd) = λ b. option_map (λ rest. with_address e b ∷ rest) (addressed_ends (taken used b) subnet (drop (i + 1) ends)) in
    ap (addressed_ends used subnet) (item_at ends i e lt is) ∙ ap (option_and_then next) (sym given)

pub ends_stop : (used : ℕ → Bool) (subnet : Option ℕ) (ends : List VirtEnd) (i : ℕ) (e : VirtEnd) → i < length ends → e ≡ get_or ends i e → None ≡ address_for used subnet e.address
    → addressed_ends used subnet (drop i ends) ≡ None
ends_stop used subnet ends i e lt is given =
    let next : ℕ → Option (List VirtEnd) = λ b. option_map (λ rest. with_address e b ∷ rest) (addressed_ends (taken used b) subnet (drop (i + 1) ends)) in
    ap (addressed_ends used subnet) (item_at ends i e lt is) ∙ ap (option_and_then next) (sym given)

pub all_taken-append : (used : ℕ → Bool) (xs ys : List ℕ) → all_taken used (xs ++ ys) ≡ all_taken (all_taken used xs) ys
all_taken-append used [] ys = refl
all_taken-append used (x ∷ xs) ys = all_taken-append (taken used x) xs ys

pub taken_more : (used : ℕ → Bool) (given : List VirtEnd) (e : VirtEnd) (a : ℕ) → all_taken used (addresses_of (given ++ with_address e a ∷ [])) ≡ taken (all_taken used (addresses_of given)) a
taken_more used given e a =
    ap (all_taken used) (filter_map-append (λ d. d.address) given (with_address e a ∷ [])) ∙ all_taken-append used (addresses_of given) (a ∷ [])

-- one end more has an address
pub given_more : (before used next : ℕ → Bool) (subnet : Option ℕ) (ends : List VirtEnd) (i : ℕ) (e : VirtEnd) (a : ℕ) (given more : List VirtEnd) → i < length ends → e ≡ get_or ends i e
    → Some a ≡ address_for used subnet e.address → next ≡ taken used a → more ≡ given ++ with_address e a ∷ [] → used ≡ all_taken before (addresses_of given)
    → addressed_ends before subnet ends ≡ option_map (λ rest. given ++ rest) (addressed_ends used subnet (drop i ends))
    → (next ≡ all_taken before (addresses_of more)) × (addressed_ends before subnet ends ≡ option_map (λ rest. more ++ rest) (addressed_ends next subnet (drop (i + 1) ends)))
given_more before used next subnet ends i e a given more lt is found step pushed were all = (
  step ∙ ap (λ (u : ℕ → Bool). taken u a) were ∙ sym (taken_more before given e a) ∙ ap (λ (l : List VirtEnd). all_taken before (addresses_of l)) (sym pushed),
  all ∙ ap (option_map (λ rest. given ++ rest)) (ends_more used subnet ends i e a lt is found)
      ∙ before_twice given (with_address e a) (addressed_ends (taken used a) subnet (drop (i + 1) ends))
      ∙ (λ j. option_map (λ rest. sym pushed j ++ rest) (addressed_ends (sym step j) subnet (drop (i + 1) ends))),
)

-- LINKS

abbrev pub with_ends : AskedLink → List VirtEnd → AskedLink
with_ends l ends = record { name = l.name; lan = l.lan; rates = l.rates; multiplexed = l.multiplexed; ends = ends }

pub links_more : (used : ℕ → Bool) (k : ℕ) (links : List AskedLink) (i : ℕ) (l : AskedLink) (ends : List VirtEnd) → i < length links → l ≡ get_or links i l
    → addressed_ends used (subnet_of k (addresses_of l.ends)) l.ends ≡ Some ends
    → addressed_from used k (drop i links) ≡ option_map (λ rest. with_ends l ends ∷ rest) (addressed_from (all_taken used (addresses_of ends)) (k + 1) (drop (i + 1) links))
links_more used k links i l ends lt is given =
    let next : List VirtEnd → Option (List AskedLink) = λ es. option_map (λ rest. with_ends l es ∷ rest) (addressed_from (all_taken used (addresses_of es)) (k + 1) (drop (i + 1) links)) in
    ap (addressed_from used k) (item_at links i l lt is) ∙ ap (option_and_then next) given

pub links_stop : (used : ℕ → Bool) (k : ℕ) (links : List AskedLink) (i : ℕ) (l : AskedLink) → i < length links → l ≡ get_or links i l
    → addressed_ends used (subnet_of k (addresses_of l.ends)) l.ends ≡ None
    → addressed_from used k (drop i links) ≡ None
links_stop used k links i l lt is given =
    let next : List VirtEnd → Option (List AskedLink) = λ es. option_map (λ rest. with_ends l es ∷ rest) (addressed_from (all_taken used (addresses_of es)) (k + 1) (drop (i + 1) links)) in
    ap (addressed_from used k) (item_at links i l lt is) ∙ ap (option_and_then next) given

-- ADDRESSES THAT ARE USED ALREADY OR STAND AGAIN

list_any-or : (p q : ℕ → Bool) (xs : List ℕ) → list_any (λ x. p x || q x) xs ≡ (list_any p xs || list_any q xs)
list_any-or p q [] = refl
list_any-or p q (x ∷ xs) = ap (λ (b : Bool). (p x || q x) || b) (list_any-or p q xs) ∙ swap_or (p x) (q x) (list_any p xs) (list_any q xs)
  where
    swap_or : (a b c d : Bool) → ((a || b) || (c || d)) ≡ ((a || c) || (b || d))
    swap_or true b c d = refl
    swap_or false true true d = refl
    swap_or false true false d = refl
    swap_or false false c d = refl

pub repeats-one : (used : ℕ → Bool) (x : ℕ) (xs : List ℕ) → repeats used (x ∷ xs) ≡ (used x || repeats (taken used x) xs)
repeats-one used x xs =
    or_or (used x) (list_any used xs) (list_any (nat_eq x) xs) (stands_again nat_eq xs)
    ∙ ap (λ (b : Bool). used x || (b || stands_again nat_eq xs)) (sym (list_any-or (nat_eq x) used xs))
  where
    or_or : (a b c d : Bool) → ((a || b) || (c || d)) ≡ (a || ((c || b) || d))
    or_or true b c d = refl
    or_or false true true d = refl
    or_or false true false d = refl
    or_or false false true d = refl
    or_or false false false d = refl

pub repeats-append : (used : ℕ → Bool) (xs ys : List ℕ) → repeats used (xs ++ ys) ≡ (repeats used xs || repeats (all_taken used xs) ys)
repeats-append used [] ys = refl
repeats-append used (x ∷ xs) ys =
    repeats-one used x (xs ++ ys) ∙ ap (λ (b : Bool). used x || b) (repeats-append (taken used x) xs ys)
    ∙ or_nested (used x) (repeats (taken used x) xs) (repeats (all_taken (taken used x) xs) ys)
    ∙ ap (λ (b : Bool). b || repeats (all_taken (taken used x) xs) ys) (sym (repeats-one used x xs))

pub repeats-none : (xs : List ℕ) → repeats (λ a. false) xs ≡ stands_again nat_eq xs
repeats-none xs = ap (λ (b : Bool). b || stands_again nat_eq xs) (none xs)
  where
    none : (xs : List ℕ) → list_any (λ a. false) xs ≡ false
    none [] = refl
    none (x ∷ xs) = none xs

-- the addresses of the ends from i on, and of those up to it
pub addresses_from : (ends : List VirtEnd) (i : ℕ) (e : VirtEnd) → i < length ends → e ≡ get_or ends i e → addresses_of (drop i ends) ≡ cons_option e.address (addresses_of (drop (i + 1) ends))
addresses_from ends i e lt is = ap addresses_of (item_at ends i e lt is)

pub addresses_to : (ends : List VirtEnd) (i : ℕ) (e : VirtEnd) → i < length ends → e ≡ get_or ends i e → addresses_of (take (i + 1) ends) ≡ addresses_of (take i ends) ++ cons_option e.address []
addresses_to ends i e lt is =
    ap addresses_of (take_more ends i e lt) ∙ filter_map-append (λ d. d.address) (take i ends) (get_or ends i e ∷ []) ∙ ap (λ (d : VirtEnd). addresses_of (take i ends) ++ cons_option d.address []) (sym is)

pub addresses_of_links : (l : AskedLink) (links : List AskedLink) → addresses_of (ends_of (l ∷ links)) ≡ addresses_of l.ends ++ addresses_of (ends_of links)
addresses_of_links l links = filter_map-append (λ d. d.address) l.ends (ends_of links)

pub links_from : (links : List AskedLink) (i : ℕ) (l : AskedLink) → i < length links → l ≡ get_or links i l → addresses_of (ends_of (drop i links)) ≡ addresses_of l.ends ++ addresses_of (ends_of (drop (i + 1) links))
links_from links i l lt is = ap (λ (ls : List AskedLink). addresses_of (ends_of ls)) (item_at links i l lt is) ∙ addresses_of_links l (drop (i + 1) links)

pub links_to : (links : List AskedLink) (i : ℕ) (l : AskedLink) → i < length links → l ≡ get_or links i l → addresses_of (ends_of (take (i + 1) links)) ≡ addresses_of (ends_of (take i links)) ++ addresses_of l.ends
links_to links i l lt is =
    let both : ends_of (take i links ++ l ∷ []) ≡ ends_of (take i links) ++ (l.ends ++ []) = flat_map-append (λ m. m.ends) (take i links) (l ∷ []) in
    let none : l.ends ++ [] ≡ l.ends = append_nil l.ends in
    ap (λ (ls : List AskedLink). addresses_of (ends_of ls)) (take_more links i l lt ∙ ap (λ (m : AskedLink). take i links ++ m ∷ []) (sym is))
    ∙ ap addresses_of (both ∙ ap (λ (es : List VirtEnd). ends_of (take i links) ++ es) none)
    ∙ filter_map-append (λ d. d.address) (ends_of (take i links)) l.ends
  where
    append_nil : (xs : List VirtEnd) → xs ++ [] ≡ xs
    append_nil [] = refl
    append_nil (x ∷ xs) = ap (λ (ys : List VirtEnd). x ∷ ys) (append_nil xs)

-- one end more of those whose addresses are used
abbrev pub AreUsed : (before used : ℕ → Bool) → List VirtEnd → ℕ → Type 0
AreUsed before used ends i =
    (used ≡ all_taken before (addresses_of (take i ends))) × (repeats before (addresses_of ends) ≡ repeats used (addresses_of (drop i ends)))

pub used_more : (before used next : ℕ → Bool) (ends : List VirtEnd) (i : ℕ) (e : VirtEnd) (a : ℕ) → i < length ends → e ≡ get_or ends i e → e.address ≡ Some a → used a ≡ false → next ≡ taken used a
    → AreUsed before used ends i → AreUsed before next ends (i + 1)
used_more before used next ends i e a lt is has free step were =
    let from : addresses_of (drop i ends) ≡ a ∷ addresses_of (drop (i + 1) ends) = addresses_from ends i e lt is ∙ ap (λ (o : Option ℕ). cons_option o (addresses_of (drop (i + 1) ends))) has in
    let to : addresses_of (take (i + 1) ends) ≡ addresses_of (take i ends) ++ a ∷ [] = addresses_to ends i e lt is ∙ ap (λ (o : Option ℕ). addresses_of (take i ends) ++ cons_option o []) has in (
      step ∙ ap (λ (u : ℕ → Bool). taken u a) were.0 ∙ sym (ap (all_taken before) to ∙ all_taken-append before (addresses_of (take i ends)) (a ∷ [])),
      were.1 ∙ ap (repeats used) from ∙ repeats-one used a (addresses_of (drop (i + 1) ends)) ∙ ap (λ (b : Bool). b || repeats (taken used a) (addresses_of (drop (i + 1) ends))) free
          ∙ ap (λ (u : ℕ → Bool). repeats u (addresses_of (drop (i + 1) ends))) (sym step),
    )

pub used_same : (before used : ℕ → Bool) (ends : List VirtEnd) (i : ℕ) (e : VirtEnd) → i < length ends → e ≡ get_or ends i e → e.address ≡ None → AreUsed before used ends i → AreUsed before used ends (i + 1)
used_same before used ends i e lt is has were =
    let from : addresses_of (drop i ends) ≡ addresses_of (drop (i + 1) ends) = addresses_from ends i e lt is ∙ ap (λ (o : Option ℕ). cons_option o (addresses_of (drop (i + 1) ends))) has in
    let to : addresses_of (take (i + 1) ends) ≡ addresses_of (take i ends) ++ [] = addresses_to ends i e lt is ∙ ap (λ (o : Option ℕ). addresses_of (take i ends) ++ cons_option o []) has in
    (were.0 ∙ ap (all_taken before) (sym (to ∙ append_nil (addresses_of (take i ends)))), were.1 ∙ ap (repeats used) from)
  where
    append_nil : (xs : List ℕ) → xs ++ [] ≡ xs
    append_nil [] = refl
    append_nil (x ∷ xs) = ap (λ (ys : List ℕ). x ∷ ys) (append_nil xs)

-- one link more
pub links_used : (used : ℕ → Bool) (links : List AskedLink) (i : ℕ) (l : AskedLink) → i < length links → l ≡ get_or links i l
    → repeats used (addresses_of (ends_of (drop i links))) ≡ (repeats used (addresses_of l.ends) || repeats (all_taken used (addresses_of l.ends)) (addresses_of (ends_of (drop (i + 1) links))))
links_used used links i l lt is = ap (repeats used) (links_from links i l lt is) ∙ repeats-append used (addresses_of l.ends) (addresses_of (ends_of (drop (i + 1) links)))
