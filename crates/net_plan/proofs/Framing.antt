-- Links and LANs stay the same but for the addresses of their ends, and these differ.
use Rattle.std.specs.Prelude.{◌||◌, not, option_map, option_and_then}
use Rattle.std.proofs.Common.{◌≡◌, ◌≢◌, ◌⊎◌, inl, inr, ℕ, ◌+◌, ◌*◌, ◌%◌, Bool, true, false, eqb, Option, Some, None, List, [], ◌∷◌, ◌++◌, length, map, refl, sym, ap, subst, ◌∙◌, arith}
use Rattle.std.specs.List.{list_all, cons_option, range_with_len}
use Rattle.std.proofs.lemmas.Bool.{and_parts, and_from, eq-eqb, le-leb, not-true}
use Rattle.std.proofs.lemmas.List.{length-map}
use Rattle.std.proofs.lemmas.Nat.{mod-mul-add}
use Rattle.std.proofs.Math.Bool.{or-true}
use Rattle.lab_base.specs.Lists.{Has, AllDiffer}
use Rattle.lab_base.specs.declared.rates.Rates.{Rates}
use Rattle.lab_base.proofs.Members.{Has-left, Has-right, Has-append, Has-map, Apart-left, Apart-right, Apart-across, found_has}
use Rattle.virt_topo.specs.declared.wiring.VirtEnd.{VirtEnd}
use Rattle.virt_topo.specs.declared.topo.AskedLink.{AskedLink}
use Rattle.virt_topo.specs.Soundness.{is_address}
use Rattle.net_plan.specs.Addresses.{addresses_of, ends_of, subnet_of, hosts, address_for, taken, all_taken, addressed_ends, addressed_from}
use Rattle.net_plan.proofs.AddressLaws.{with_address, with_ends, addresses_of_links}
use Rattle.net_plan.proofs.Apart.{differ-append, Has-range}

-- RESULTS OF CHAINS

pub and_then_some : {A B : Type 0} (f : A → Option B) (o : Option A) (y : B) → option_and_then f o ≡ Some y → (x : A) × (o ≡ Some x) × (f x ≡ Some y)
and_then_some f None y e = absurd (cc e)
and_then_some f (Some x) y e = (x, refl, e)

pub map_some : {A B : Type 0} (f : A → B) (o : Option A) (y : B) → option_map f o ≡ Some y → (x : A) × (o ≡ Some x) × (f x ≡ y)
map_some f None y e = absurd (cc e)
map_some f (Some x) y e = (x, refl, cc e)

-- the addresses of a subnet have last numbers from 1 to 254
host_is : (subnet a : ℕ) → Has (hosts subnet) a → is_address (Some a) ≡ true
unfolding hosts
host_is subnet a h =
    let r = Has-map (λ host. subnet * 256 + host) (range_with_len 1 254) a h in
    let range = Has-range 1 254 r.0 r.1 in
    let last : a % 256 ≡ r.0 = ap (λ (n : ℕ). n % 256) (sym r.2) ∙ mod-mul-add subnet 256 r.0 (omega (arith, range.1)) in
    and_from _ _ (le-leb 1 (a % 256) (omega (arith, last, range.0))) (le-leb (a % 256) 254 (omega (arith, last, range.1)))

-- USED ADDRESSES

taken-own : (used : ℕ → Bool) (a : ℕ) → taken used a a ≡ true
taken-own used a = ap (λ (b : Bool). b || used a) (eq-eqb a a refl)

kept : (used : ℕ → Bool) (xs : List ℕ) (a : ℕ) → used a ≡ true → all_taken used xs a ≡ true
kept used [] a is = is
kept used (x ∷ xs) a is = kept (taken used x) xs a (ap (λ (b : Bool). eqb x a || b) is ∙ or-true (eqb x a))

pub all_taken-has : (used : ℕ → Bool) (xs : List ℕ) (a : ℕ) → Has xs a → all_taken used xs a ≡ true
all_taken-has used [] a h = absurd h
all_taken-has used (x ∷ xs) a (inl e) = kept (taken used x) xs a (ap (taken used x) (sym e) ∙ taken-own used x)
all_taken-has used (x ∷ xs) a (inr h) = all_taken-has (taken used x) xs a h

was_free : (used : ℕ → Bool) (xs : List ℕ) (a : ℕ) → all_taken used xs a ≡ false → used a ≡ false
was_free used xs a free = by (used a) refl
  where
    by : (b : Bool) → used a ≡ b → b ≡ false
    by true is = absurd (cc (kept used xs a is, free))
    by false is = refl

-- given addresses are asked or were free; they differ where the asked ones differ and are used
pub record IsFresh (used : ℕ → Bool) (asked given : List ℕ) : Type 0 where
  pub each : (a : ℕ) → Has given a → Has asked a ⊎ (used a ≡ false)
  pub differ : AllDiffer asked → ((a : ℕ) → Has asked a → used a ≡ true) → AllDiffer given

fresh-append : (used : ℕ → Bool) (asked given more_asked more_given : List ℕ) → IsFresh used asked given → IsFresh (all_taken used given) more_asked more_given → IsFresh used (asked ++ more_asked) (given ++ more_given)
fresh-append used asked given more_asked more_given first second = record { each = each; differ = differ }
  where
    each : (a : ℕ) → Has (given ++ more_given) a → Has (asked ++ more_asked) a ⊎ (used a ≡ false)
    each a h = elim (Has-append given more_given a h) [
      | inl g ↦ elim (first.each a g) [ inl k ↦ inl (Has-left asked more_asked a k) | inr k ↦ inr k ]
      | inr g ↦ elim (second.each a g) [ inl k ↦ inl (Has-right asked more_asked a k) | inr k ↦ inr (was_free used given a k) ]
    ]

    differ : AllDiffer (asked ++ more_asked) → ((a : ℕ) → Has (asked ++ more_asked) a → used a ≡ true) → AllDiffer (given ++ more_given)
    differ apart all =
        differ-append given more_given
        (first.differ (Apart-left (λ x y. x ≢ y) asked more_asked apart) (λ a h. all a (Has-left asked more_asked a h)))
        (second.differ (Apart-right (λ x y. x ≢ y) asked more_asked apart) (λ a h. kept used given a (all a (Has-right asked more_asked a h))))
        across
      where
        across : (a : ℕ) → Has given a → Has more_given a → ⊥
        across a h g = elim (second.each a g) [
          | inr free ↦ absurd (cc (all_taken-has used given a h, free))
          | inl k ↦ elim (first.each a h) [
            | inl j ↦ Apart-across (λ x y. x ≢ y) asked more_asked a a apart j k refl
            | inr free ↦ absurd (cc (all a (Has-right asked more_asked a k), free))
          ]
        ]

-- one end
fresh-one : (used : ℕ → Bool) (subnet own : Option ℕ) (a : ℕ) → address_for used subnet own ≡ Some a → IsFresh used (cons_option own []) (a ∷ [])
fresh-one used subnet (Some b) a e =
    let same : b ≡ a = cc e in
    record { each = λ x h. elim h [ inl d ↦ inl (inl (same ∙ d)) | inr d ↦ absurd d ]; differ = λ apart all. (λ x h. absurd h, tt) }
fresh-one used (Some s) None a e =
    let r = found_has (λ b. not (used b)) (hosts s) a e in
    record { each = λ x h. elim h [ inl d ↦ inr (ap used (sym d) ∙ not-true (used a) r.1) | inr d ↦ absurd d ]; differ = λ apart all. (λ x h. absurd h, tt) }
fresh-one used None None a e = absurd (cc e)

valid-one : (used : ℕ → Bool) (subnet own : Option ℕ) (a : ℕ) → is_address own ≡ true → address_for used subnet own ≡ Some a → is_address (Some a) ≡ true
valid-one used subnet (Some b) a is e = let same : Some b ≡ Some a = e in ap is_address (sym same) ∙ is
valid-one used (Some s) None a is e = host_is s a (found_has (λ b. not (used b)) (hosts s) a e).0
valid-one used None None a is e = absurd (cc e)

cons-append : (own : Option ℕ) (xs : List ℕ) → cons_option own xs ≡ cons_option own [] ++ xs
cons-append None xs = refl
cons-append (Some a) xs = refl

-- ENDS

pub record IsGiven (used : ℕ → Bool) (ends given : List VirtEnd) : Type 0 where
  pub nodes : map (λ e. e.node) given ≡ map (λ e. e.node) ends
  pub valid : list_all (λ e. is_address e.address) ends ≡ true → list_all (λ e. is_address e.address) given ≡ true
  pub fresh : IsFresh used (addresses_of ends) (addresses_of given)

no_fresh : (used : ℕ → Bool) → IsFresh used [] []
no_fresh used = record { each = λ a h. absurd h; differ = λ apart all. tt }

pub given_ends : (used : ℕ → Bool) (subnet : Option ℕ) (ends given : List VirtEnd) → addressed_ends used subnet ends ≡ Some given → IsGiven used ends given
given_ends used subnet [] [] is = record { nodes = refl; valid = λ all. refl; fresh = no_fresh used }
given_ends used subnet [] (g ∷ given) is = absurd (cc is)
given_ends used subnet (e ∷ ends) given is =
    let r1 = and_then_some (λ a. option_map (λ rest. with_address e a ∷ rest) (addressed_ends (taken used a) subnet ends)) (address_for used subnet e.address) given is in
    let a = r1.0 in
    let r2 = map_some (λ rest. with_address e a ∷ rest) (addressed_ends (taken used a) subnet ends) given r1.2 in
    let rest = given_ends (taken used a) subnet ends r2.0 r2.1 in
    subst (IsGiven used (e ∷ ends)) r2.2 (record {
      nodes = ap (λ (ns : List ℕ). e.node ∷ ns) rest.nodes;
      valid = λ all. let parts = and_parts (is_address e.address) _ all in and_from _ _ (valid-one used subnet e.address a parts.0 r1.1) (rest.valid parts.1);
      fresh = subst (λ asked. IsFresh used asked (a ∷ addresses_of r2.0)) (sym (cons-append e.address (addresses_of ends)))
          (fresh-append used (cons_option e.address []) (a ∷ []) (addresses_of ends) (addresses_of r2.0) (fresh-one used subnet e.address a r1.1) rest.fresh);
    })

-- LINKS

-- all but addresses stays
pub record IsFramed (l m : AskedLink) : Type 0 where
  pub name : m.name ≡ l.name
  pub lan : m.lan ≡ l.lan
  pub rates : m.rates ≡ l.rates
  pub nodes : map (λ e. e.node) m.ends ≡ map (λ e. e.node) l.ends
  pub valid : list_all (λ e. is_address e.address) l.ends ≡ true → list_all (λ e. is_address e.address) m.ends ≡ true

-- what the number of its parts hangs on
abbrev pub size_of : AskedLink → Rates × (Bool × ℕ)
size_of l = (l.rates, (l.lan, length l.ends))

pub record AreGiven (used : ℕ → Bool) (links given : List AskedLink) : Type 0 where
  pub names : map (λ l. l.name) given ≡ map (λ l. l.name) links
  pub sizes : map size_of given ≡ map size_of links
  pub framed : (m : AskedLink) → Has given m → (l : AskedLink) × Has links l × IsFramed l m
  pub fresh : IsFresh used (addresses_of (ends_of links)) (addresses_of (ends_of given))

pub given_links : (used : ℕ → Bool) (k : ℕ) (links given : List AskedLink) → addressed_from used k links ≡ Some given → AreGiven used links given
given_links used k [] [] is = record { names = refl; sizes = refl; framed = λ m h. absurd h; fresh = no_fresh used }
given_links used k [] (g ∷ given) is = absurd (cc is)
given_links used k (l ∷ links) given is =
    let subnet = subnet_of k (addresses_of l.ends) in
    let r1 = and_then_some (λ ends. option_map (λ rest. with_ends l ends ∷ rest) (addressed_from (all_taken used (addresses_of ends)) (k + 1) links)) (addressed_ends used subnet l.ends) given is in
    let ends = r1.0 in
    let later : ℕ → Bool = all_taken used (addresses_of ends) in
    let r2 = map_some (λ rest. with_ends l ends ∷ rest) (addressed_from later (k + 1) links) given r1.2 in
    let own = given_ends used subnet l.ends ends r1.1 in
    let rest = given_links later (k + 1) links r2.0 r2.1 in
    let count : length ends ≡ length l.ends = sym (length-map ends (λ e. e.node)) ∙ ap (λ (ns : List ℕ). length ns) own.nodes ∙ length-map l.ends (λ e. e.node) in
    subst (AreGiven used (l ∷ links)) r2.2 (record {
      names = ap (λ (ns : List (List ℕ)). l.name ∷ ns) rest.names;
      sizes = λ i. (l.rates, (l.lan, count i)) ∷ rest.sizes i;
      framed = λ m h. elim h [
        | inl e ↦ (l, inl refl, subst (IsFramed l) e (record { name = refl; lan = refl; rates = refl; nodes = own.nodes; valid = own.valid }))
        | inr g ↦ let r = rest.framed m g in (r.0, inr r.1, r.2)
      ];
      fresh = subst (λ given. IsFresh used (addresses_of (ends_of (l ∷ links))) given) (sym (addresses_of_links (with_ends l ends) r2.0))
          (subst (λ asked. IsFresh used asked (addresses_of ends ++ addresses_of (ends_of r2.0))) (sym (addresses_of_links l links))
          (fresh-append used (addresses_of l.ends) (addresses_of ends) (addresses_of (ends_of links)) (addresses_of (ends_of r2.0)) own.fresh rest.fresh));
    })
