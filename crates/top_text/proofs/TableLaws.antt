-- The tables decide the tests of the whole wiring.
use Rattle.std.specs.Prelude.{nat_lt, nat_eq}
use Rattle.std.proofs.Common.{◌≡◌, ℕ, zero, suc, ◌+◌, ◌<◌, ◌≤◌, Bool, true, false, not, cond, ltb, eqb, ◌&&◌, ◌||◌, List, [], ◌∷◌, ◌++◌, length, map, take, drop, get_or, Option, Some, None, Err, Ok, refl, sym, ap, ◌∙◌, arith, inl, inr}
use Rattle.std.specs.List.{list_all, list_any, flat_map, prefix_len}
use Rattle.std.proofs.Math.ListN.{set}
use Rattle.std.proofs.lemmas.Bool.{and_parts, and_from, or_parts, cases_eq, ne_eqb}
use Rattle.std.proofs.lemmas.Bool.Decides.{nat_tests}
use Rattle.std.proofs.lemmas.List.{append-nil, append_assoc, take-append-drop, get_or-set_same, get_or-set_other, get_or_default}
use Rattle.std.proofs.lemmas.List.Folds.{list_all-append, list_all-map}
use Rattle.std.proofs.lemmas.Grind.{flat_map-append}
use Rattle.std.proofs.Math.Bool.{or-true}
use Rattle.lab_base.specs.declared.fault.Kind.TheVariants as kinds
use Rattle.lab_base.proofs.Members.{any_map, all_weaker}
use Rattle.lab_base.specs.Names.{same_name}
use Rattle.lab_base.proofs.Lists.{item_at}
use Rattle.lab_base.proofs.Bytes.{bytes_turned}
use Rattle.lab_base.proofs.Numbers.{ltb_start, ltb_next}
use Rattle.virt_topo.specs.declared.wiring.Class.{Class}
use Rattle.virt_topo.specs.declared.wiring.VirtEnd.{VirtEnd}
use Rattle.virt_topo.specs.declared.wiring.Segment.{Segment}
use Rattle.virt_topo.specs.declared.wiring.Pipe.{Pipe}
use Rattle.virt_topo.specs.declared.wiring.Wiring.{Wiring}
use Rattle.virt_topo.specs.Ends.{end_nodes}
use Rattle.virt_topo.specs.Owners.{at_ends}
use Rattle.virt_topo.specs.Repeats.{stands_again}
use Rattle.virt_topo.specs.Soundness.{keeps_limits, knows_all, knows_class, has_twice, has_same, has_bad_pipe, shares_end, same_some, same_address, asks_class_name}
use Rattle.virt_topo.proofs.EndLaws.{nodes_of}
use Rattle.virt_topo.proofs.MoreLaws.{again_more}
use Rattle.top_text.specs.declared.judge.Tests.{Tests}
use Rattle.top_text.specs.Adding.{kept, asks_at, asks_of}
use Rattle.top_text.specs.Tables.{listed, addresses_of, same_end, ends_of_pipe, numbers_from, segments_on, judged}

-- TESTS

pub judged_kept : (w : Wiring) (t : Tests) → has_twice w ≡ t.twice → knows_all w ≡ t.known → has_same w ≡ t.same → has_bad_pipe w ≡ t.bad_pipe → keeps_limits w ≡ t.within → judged t w ≡ kept w
judged_kept w t twice known same bad within =
    sym (λ i. cond (twice i) (Err kinds.Twice) (cond (not (known i)) (Err kinds.Unknown) (cond (same i) (Err kinds.Same) (cond (bad i) (Err kinds.Pipe) (cond (not (within i)) (Err kinds.Limit) (Ok w))))))

-- NAMES

pub name_there : {X : Type 0} (name_of : X → List ℕ) (keys : List (List ℕ)) (xs : List X) (name : List ℕ) → keys ≡ map name_of xs → list_any (same_name name) keys ≡ list_any (λ x. same_name name (name_of x)) xs
name_there name_of keys xs name is = ap (λ (l : List (List ℕ)). list_any (same_name name) l) is ∙ any_map (same_name name) name_of xs

-- WHAT A VIRTUAL NODE ASKS FOR

none_before : {X : Type 0} (test : X → Bool) (xs : List X) → ltb (prefix_len (λ y. not (test y)) xs) (length xs) ≡ false → list_any test xs ≡ false
none_before test [] past = refl
none_before test (x ∷ xs) past = by (test x) past (none_before test xs)
  where
    by : (b : Bool) → ltb (cond (not b) (1 + prefix_len (λ y. not (test y)) xs) 0) (suc (length xs)) ≡ false → (ltb (prefix_len (λ y. not (test y)) xs) (length xs) ≡ false → list_any test xs ≡ false) → (b || list_any test xs) ≡ false
    by true past rest = absurd (cc (sym (ltb_start (length xs)) ∙ past))
    by false past rest = rest (sym (ltb_next (prefix_len (λ y. not (test y)) xs) (length xs)) ∙ past)

any_symm : (classes : List Class) (name : List ℕ) → list_any (λ c. same_name c.name name) classes ≡ list_any (λ c. same_name name c.name) classes
any_symm [] name = refl
any_symm (c ∷ classes) name = λ i. bytes_turned c.name name i || any_symm classes name i

pub asks_known : (w : Wiring) (name : List ℕ) → knows_class w (asks_of w name) ≡ true
asks_known w name = by (ltb n (length w.classes)) refl
  where
    n : ℕ
    n = prefix_len (λ c. not (same_name name c.name)) w.classes

    by : (b : Bool) → ltb n (length w.classes) ≡ b → knows_class w (asks_at name (cond b (Some n) None)) ≡ true
    by true e = e
    by false e = refl

pub asks_apart : (w : Wiring) (name : List ℕ) → asks_class_name w.classes (asks_of w name) ≡ false
asks_apart w name = by (ltb n (length w.classes)) refl
  where
    n : ℕ
    n = prefix_len (λ c. not (same_name name c.name)) w.classes

    by : (b : Bool) → ltb n (length w.classes) ≡ b → asks_class_name w.classes (asks_at name (cond b (Some n) None)) ≡ false
    by true e = refl
    by false e = any_symm w.classes name ∙ none_before (λ c. same_name name c.name) w.classes e

-- ADDRESSES

any_some : (a : ℕ) (ends : List VirtEnd) → list_any (λ f. same_some (Some a) f.address) ends ≡ list_any (nat_eq a) (addresses_of ends)
any_some a [] = refl
any_some a (f ∷ ends) = by f.address (any_some a ends)
  where
    by : (o : Option ℕ) → list_any (λ f. same_some (Some a) f.address) ends ≡ list_any (nat_eq a) (addresses_of ends) → (same_some (Some a) o || list_any (λ f. same_some (Some a) f.address) ends) ≡ list_any (nat_eq a) (listed o ++ addresses_of ends)
    by None is = is
    by (Some b) is = ap (λ (r : Bool). nat_eq a b || r) is

any_none : (ends : List VirtEnd) → list_any (λ f. same_some None f.address) ends ≡ false
any_none [] = refl
any_none (f ∷ ends) = any_none ends

-- an address is given again where it stands again
pub same_addresses : (ends : List VirtEnd) → stands_again same_address ends ≡ stands_again nat_eq (addresses_of ends)
same_addresses [] = refl
same_addresses (e ∷ ends) = by e.address (same_addresses ends)
  where
    by : (o : Option ℕ) → stands_again same_address ends ≡ stands_again nat_eq (addresses_of ends) → (list_any (λ f. same_some o f.address) ends || stands_again same_address ends) ≡ stands_again nat_eq (listed o ++ addresses_of ends)
    by None is = λ i. any_none ends i || is i
    by (Some a) is = λ i. any_some a ends i || is i

pub addresses_more : (xs ys : List VirtEnd) → addresses_of (xs ++ ys) ≡ addresses_of xs ++ addresses_of ys
addresses_more xs ys = flat_map-append (λ (e : VirtEnd). listed e.address) xs ys

has_it : {X : Type 0} (test : X → Bool) (xs : List X) (x : X) (ys : List X) → test x ≡ true → list_any test (xs ++ x ∷ ys) ≡ true
has_it test [] x ys is = ap (λ (b : Bool). b || list_any test ys) is
has_it test (z ∷ xs) x ys is = ap (λ (b : Bool). test z || b) (has_it test xs x ys is) ∙ or-true (test z)

again_there : {X : Type 0} (same : X → X → Bool) (xs : List X) (x : X) (ys : List X) → list_any (λ y. same y x) xs ≡ true → stands_again same (xs ++ x ∷ ys) ≡ true
again_there same [] x ys found = absurd (cc found)
again_there {X} same (z ∷ xs) x ys found = by (same z x) refl found (λ later. again_there same xs x ys later)
  where
    by : (b : Bool) → same z x ≡ b → (b || list_any (λ y. same y x) xs) ≡ true → (list_any (λ y. same y x) xs ≡ true → stands_again same (xs ++ x ∷ ys) ≡ true)
        → (list_any (same z) (xs ++ x ∷ ys) || stands_again same (xs ++ x ∷ ys)) ≡ true
    by true is found rest = ap (λ (r : Bool). r || stands_again same (xs ++ x ∷ ys)) (has_it (same z) xs x ys is)
    by false is found rest = ap (λ (r : Bool). list_any (same z) (xs ++ x ∷ ys) || r) (rest found) ∙ or-true (list_any (same z) (xs ++ x ∷ ys))

symm_number : (a b : ℕ) → nat_eq a b ≡ nat_eq b a
symm_number a b = grind (arith, nat_tests)

any_turned : (a : ℕ) (xs : List ℕ) → list_any (nat_eq a) xs ≡ list_any (λ y. nat_eq y a) xs
any_turned a [] = refl
any_turned a (x ∷ xs) = λ i. symm_number a x i || any_turned a xs i

parted : {X : Type 0} (xs : List X) (i : ℕ) (x : X) → i < length xs → x ≡ get_or xs i x → xs ≡ take i xs ++ x ∷ drop (i + 1) xs
parted xs i x lt is = sym (take-append-drop i xs) ∙ ap (λ l. take i xs ++ l) (item_at xs i x lt is)

take_next : {X : Type 0} (xs : List X) (i : ℕ) (x : X) → i < length xs → x ≡ get_or xs i x → take (i + 1) xs ≡ take i xs ++ x ∷ []
take_next [] i x lt is = absurd (omega arith)
take_next {X} (y ∷ xs) zero x lt is = ap (λ (v : X). v ∷ []) (sym is)
take_next {X} (y ∷ xs) (suc i) x lt is =
    let next : suc i + 1 ≡ suc (i + 1) = omega arith in
    ap (λ (n : ℕ). take n (y ∷ xs)) next ∙ ap (λ (l : List X). y ∷ l) (take_next xs i x (omega arith) is)

-- the end at i has an address that was there, or that an earlier end has
pub address_again : (old keys : List ℕ) (ends : List VirtEnd) (i : ℕ) (e : VirtEnd) → i < length ends → e ≡ get_or ends i e → keys ≡ old ++ addresses_of (take i ends)
    → list_any (λ a. list_any (nat_eq a) keys) (listed e.address) ≡ true → stands_again nat_eq (old ++ addresses_of ends) ≡ true
address_again old keys ends i e lt is so_far found =
    ap (λ (l : List ℕ). stands_again nat_eq l) whole ∙ by e.address found
  where
    rest : List ℕ
    rest = addresses_of (drop (i + 1) ends)

    whole : old ++ addresses_of ends ≡ keys ++ (listed e.address ++ rest)
    whole =
        ap (λ (l : List VirtEnd). old ++ addresses_of l) (parted ends i e lt is)
        ∙ ap (λ (l : List ℕ). old ++ l) (addresses_more (take i ends) (e ∷ drop (i + 1) ends))
        ∙ sym (append_assoc old (addresses_of (take i ends)) (listed e.address ++ rest))
        ∙ ap (λ (l : List ℕ). l ++ (listed e.address ++ rest)) (sym so_far)

    by : (o : Option ℕ) → list_any (λ a. list_any (nat_eq a) keys) (listed o) ≡ true → stands_again nat_eq (keys ++ (listed o ++ rest)) ≡ true
    by None h = absurd (cc h)
    by (Some a) h = again_there nat_eq keys a rest (sym (any_turned a keys) ∙ only (list_any (nat_eq a) keys) h)
      where
        only : (b : Bool) → (b || false) ≡ true → b ≡ true
        only true h = refl
        only false h = absurd (cc h)

-- one end more
pub addresses_next : (old keys new : List ℕ) (ends : List VirtEnd) (i : ℕ) (e : VirtEnd) → i < length ends → e ≡ get_or ends i e → keys ≡ old ++ addresses_of (take i ends)
    → new ≡ keys ++ listed e.address → new ≡ old ++ addresses_of (take (i + 1) ends)
addresses_next old keys new ends i e lt is so_far more =
    more ∙ ap (λ (l : List ℕ). l ++ listed e.address) so_far ∙ append_assoc old (addresses_of (take i ends)) (listed e.address)
    ∙ ap (λ (l : List ℕ). old ++ l) (ap (λ (l : List ℕ). addresses_of (take i ends) ++ l) (sym (append-nil (listed e.address))) ∙ sym (addresses_more (take i ends) (e ∷ [])) ∙ ap addresses_of (sym (take_next ends i e lt is)))

pub addresses_once : (keys new : List ℕ) (o : Option ℕ) → stands_again nat_eq keys ≡ false → list_any (λ a. list_any (nat_eq a) keys) (listed o) ≡ false → new ≡ keys ++ listed o → stands_again nat_eq new ≡ false
addresses_once keys new None once none is = ap (λ (l : List ℕ). stands_again nat_eq l) (is ∙ append-nil keys) ∙ once
addresses_once keys new (Some a) once none is =
    ap (λ (l : List ℕ). stands_again nat_eq l) is ∙ again_more nat_eq symm_number keys a once ∙ (or_parts (list_any (nat_eq a) keys) false none).0

-- SEGMENTS BY VIRTUAL NODE

abbrev pub of_one : {X : Type 0} → X → List VirtEnd → List X
of_one x ends = map (λ e. x) ends

at_next : {X : Type 0} (x : X) (ends : List VirtEnd) (e : VirtEnd) (v : ℕ) → at_ends v (nodes_of (ends ++ e ∷ [])) (of_one x (ends ++ e ∷ [])) ≡ at_ends v (nodes_of ends) (of_one x ends) ++ cond (eqb e.node v) (x ∷ []) []
at_next x [] e v = refl
at_next {X} x (f ∷ ends) e v = by (eqb f.node v) (at_next x ends e v)
  where
    by : (b : Bool) → at_ends v (nodes_of (ends ++ e ∷ [])) (of_one x (ends ++ e ∷ [])) ≡ at_ends v (nodes_of ends) (of_one x ends) ++ cond (eqb e.node v) (x ∷ []) []
        → cond b (x ∷ at_ends v (nodes_of (ends ++ e ∷ [])) (of_one x (ends ++ e ∷ []))) (at_ends v (nodes_of (ends ++ e ∷ [])) (of_one x (ends ++ e ∷ []))) ≡ cond b (x ∷ at_ends v (nodes_of ends) (of_one x ends)) (at_ends v (nodes_of ends) (of_one x ends)) ++ cond (eqb e.node v) (x ∷ []) []
    by true is = ap (λ (l : List X). x ∷ l) is
    by false is = is

equal : (x y : ℕ) → x ≡ y → eqb x y ≡ true
equal x y e = grind (arith, nat_tests)

-- one end more
pub next_end : {X : Type 0} (old so_far new : List (List X)) (own : List X) (x : X) (ends : List VirtEnd) (i : ℕ) (e : VirtEnd) → i < length ends → e ≡ get_or ends i e
    → length so_far ≡ length old → e.node < length old → own ≡ get_or so_far e.node own
    → ((v : ℕ) → v < length old → get_or so_far v [] ≡ get_or old v [] ++ at_ends v (nodes_of (take i ends)) (of_one x (take i ends)))
    → new ≡ set so_far e.node (own ++ x ∷ [])
    → (v : ℕ) → v < length old → get_or new v [] ≡ get_or old v [] ++ at_ends v (nodes_of (take (i + 1) ends)) (of_one x (take (i + 1) ends))
next_end {X} old so_far new own x ends i e lt is count within own_is were now v v_in =
    ap (λ (l : List (List X)). get_or l v []) now
    ∙ changed
    ∙ sym (ap (λ (l : List X). get_or old v [] ++ l) (ap (λ (l : List VirtEnd). at_ends v (nodes_of l) (of_one x l)) (take_next ends i e lt is) ∙ at_next x (take i ends) e v))
  where
    before : List X
    before = at_ends v (nodes_of (take i ends)) (of_one x (take i ends))

    changed : get_or (set so_far e.node (own ++ x ∷ [])) v [] ≡ get_or old v [] ++ (before ++ cond (eqb e.node v) (x ∷ []) [])
    changed = elim (cases_eq v e.node) [
      | inl same ↦
          let here : get_or (set so_far e.node (own ++ x ∷ [])) v [] ≡ own ++ x ∷ [] = ap (λ (n : ℕ). get_or (set so_far e.node (own ++ x ∷ [])) n []) same ∙ get_or-set_same so_far e.node (own ++ x ∷ []) [] (omega (arith, count, within)) in
          let own_was : own ≡ get_or so_far v [] = own_is ∙ get_or_default so_far e.node own [] (omega (arith, count, within)) ∙ ap (λ (n : ℕ). get_or so_far n []) (sym same) in
          let one : cond (eqb e.node v) (x ∷ []) [] ≡ x ∷ [] = ap (λ (b : Bool). cond b (x ∷ []) []) (equal e.node v (sym same)) in
          here ∙ ap (λ (l : List X). l ++ x ∷ []) (own_was ∙ were v v_in) ∙ append_assoc (get_or old v []) before (x ∷ []) ∙ ap (λ (l : List X). get_or old v [] ++ (before ++ l)) (sym one)
      | inr other ↦
          let there : get_or (set so_far e.node (own ++ x ∷ [])) v [] ≡ get_or so_far v [] = get_or-set_other so_far e.node v (own ++ x ∷ []) [] other in
          let none : cond (eqb e.node v) (x ∷ []) [] ≡ [] = ap (λ (b : Bool). cond b (x ∷ []) []) (ne_eqb e.node v (λ h. other (sym h))) in
          there ∙ were v v_in ∙ ap (λ (l : List X). get_or old v [] ++ l) (sym (append-nil before) ∙ ap (λ (l : List X). before ++ l) (sym none))
    ]

at_none : {X : Type 0} (v : ℕ) (xs : List ℕ) (ys : List X) → list_all (λ x. nat_lt x v) xs ≡ true → at_ends v xs ys ≡ []
at_none v [] ys all = refl
at_none v (x ∷ xs) [] all = refl
at_none {X} v (x ∷ xs) (y ∷ ys) all =
    let parts = and_parts (nat_lt x v) (list_all (λ x. nat_lt x v) xs) all in
    ap (λ (b : Bool). cond b (y ∷ at_ends v xs ys) (at_ends v xs ys)) (less x v parts.0) ∙ at_none v xs ys parts.1
  where
    less : (a b : ℕ) → nat_lt a b ≡ true → eqb a b ≡ false
    less a b h = grind (arith, nat_tests)

-- no virtual node past those that are known has an end
pub none_past : (segments : List Segment) (n v : ℕ) → n ≤ v → list_all (λ s. list_all (λ e. nat_lt e.node n) s.ends) segments ≡ true → segments_on segments v ≡ []
none_past segments n v le known = at_none v (end_nodes segments) (numbers_from 0 segments) (all segments known)
  where
    less : (a : ℕ) → nat_lt a n ≡ true → nat_lt a v ≡ true
    less a h = below a n v le h
      where
        below : (a n v : ℕ) → n ≤ v → nat_lt a n ≡ true → nat_lt a v ≡ true
        below a n v le h = grind (arith, nat_tests)

    all : (segments : List Segment) → list_all (λ s. list_all (λ e. nat_lt e.node n) s.ends) segments ≡ true → list_all (λ x. nat_lt x v) (end_nodes segments) ≡ true
    all [] h = refl
    all (s ∷ segments) h =
        let parts = and_parts (list_all (λ e. nat_lt e.node n) s.ends) (list_all (λ s. list_all (λ e. nat_lt e.node n) s.ends) segments) h in
        list_all-append (λ x. nat_lt x v) (nodes_of s.ends) (end_nodes segments)
        ∙ and_from _ _ (list_all-map (λ x. nat_lt x v) (λ (e : VirtEnd). e.node) s.ends ∙ all_weaker (λ e. nat_lt e.node n) (λ e. nat_lt e.node v) (λ e g. less e.node g) s.ends parts.0) (all segments parts.1)

-- a new virtual node has no end
pub none_on : (segments : List Segment) (n : ℕ) → list_all (λ s. list_all (λ e. nat_lt e.node n) s.ends) segments ≡ true → segments_on segments n ≡ []
none_on segments n known = none_past segments n n (omega arith) known

-- PIPES

-- a pipe shares an end where one of its ends is in a pipe
pub shares_by_ends : (p : Pipe) (pipes : List Pipe)
    → list_any (shares_end p) pipes ≡ (list_any (same_end (p.node, p.from)) (flat_map ends_of_pipe pipes) || list_any (same_end (p.node, p.to)) (flat_map ends_of_pipe pipes))
shares_by_ends p [] = refl
shares_by_ends p (q ∷ pipes) =
    ap (λ (b : Bool). shares_end p q || b) (shares_by_ends p pipes)
    ∙ bools (eqb p.node q.node) (eqb p.from q.from) (eqb p.from q.to) (eqb p.to q.from) (eqb p.to q.to) (list_any (same_end (p.node, p.from)) (flat_map ends_of_pipe pipes)) (list_any (same_end (p.node, p.to)) (flat_map ends_of_pipe pipes))
  where
    swap : (a b : Bool) → (a || (true || b)) ≡ true
    swap true b = refl
    swap false b = refl

    rest : (c d r1 r2 : Bool) → ((c || d) || (r1 || r2)) ≡ (r1 || (c || (d || r2)))
    rest true d true r2 = refl
    rest true d false r2 = refl
    rest false true true r2 = refl
    rest false true false r2 = refl
    rest false false r1 r2 = refl

    bools : (e a b c d r1 r2 : Bool) → ((e && (a || (b || (c || d)))) || (r1 || r2)) ≡ (((e && a) || ((e && b) || r1)) || ((e && c) || ((e && d) || r2)))
    bools false a b c d r1 r2 = refl
    bools true true b c d r1 r2 = refl
    bools true false true c d r1 r2 = refl
    bools true false false c d r1 r2 = rest c d r1 r2
