-- The interface rule by the interfaces of each node.
use Rattle.std.proofs.Common.{◌≡◌, ◌≤◌, ◌<◌, ◌+◌, ◌∷◌, [], ◌++◌, ◌∙◌, ℕ, suc, List, length, get_or, take, Bool, true, false, cond, eqb, not, nat_le, ◌-◌, ◌&&◌, ◌||◌, inl, inr, Option, Some, All, refl, ap, sym, subst, arith, get_or-set_other, get_or-set_same}
use Rattle.std.proofs.Math.ListN.{set}
use Rattle.std.specs.List.{find, list_all}
use Rattle.std.specs.Option.{option_map}
use Rattle.std.proofs.lemmas.Bool.{cond_both, cond-false, both_ways, cases_eq, eq-eqb, ne_eqb, and_parts, leb-true}
use Rattle.std.proofs.lemmas.List.{append-nil, take_more, length-take-le}
use Rattle.std.proofs.lemmas.List.Elements.{All-cons}
use Rattle.std.proofs.Math.Bool.{and-true}
use Rattle.lab_base.specs.declared.ids.IfaceId.{IfaceId}
use Rattle.lab_base.specs.declared.ids.NodeId.{NodeId}
use Rattle.phys_lab.specs.declared.parts.Iface.{Iface}
use Rattle.phys_lab.specs.Labs.{Lab}
use Rattle.node_maps.specs.declared.index.NodeIface.{NodeIface}
use Rattle.phys_lab.specs.Kept.{IsLab}
use Rattle.lab_base.specs.Names.{is_name}
use Rattle.lab_base.proofs.Members.{Has-get_or}
use Rattle.lab_base.proofs.Numbers.{plus_zero}
use Rattle.phys_lab.specs.Faults.{is_iface, is_port_number, is_speed}
use Rattle.virt_topo.specs.declared.loads.Load.{Load}
use Rattle.lab_model.specs.Rules.{Laid, loads_on, may_bear}
use Rattle.node_maps.specs.declared.ifaces.Given.{Given}
use Rattle.node_maps.proofs.Bearing.{some_on}
use Rattle.node_maps.specs.NodeMaps.{first_iface}
use Rattle.node_maps.specs.Indexed.{ifaces_of, noted, newest, serves, Marks}

abbrev pub numbered : ℕ → Iface → NodeIface
numbered n x = record { id = record { 0 = n }; kbps = x.kbps }

split : (b : Bool) (r : NodeIface) (a c last : List NodeIface) → a ≡ c ++ last → cond b (r ∷ a) a ≡ cond b (r ∷ c) c ++ last
split true r a c last e = ap (λ l. r ∷ l) e
split false r a c last e = e

-- one interface more
pub ifaces_push : (n : ℕ) (xs : List Iface) (y : Iface) (node k : ℕ) → k ≡ n + length xs
    → ifaces_of n (xs ++ y ∷ []) node ≡ ifaces_of n xs node ++ cond (eqb y.node.0 node) (numbered k y ∷ []) []
ifaces_push n [] y node k e =
    let same : n ≡ k = omega (arith, e) in
    ap (λ (j : ℕ). cond (eqb y.node.0 node) (numbered j y ∷ []) []) same
ifaces_push n (x ∷ xs) y node k e =
    split (eqb x.node.0 node) (numbered n x) (ifaces_of (n + 1) (xs ++ y ∷ []) node) (ifaces_of (n + 1) xs node) (cond (eqb y.node.0 node) (numbered k y ∷ []) [])
    (ifaces_push (n + 1) xs y node k (omega (arith, e)))

pub take_push : (xs : List Iface) (i : ℕ) (y : Iface) (node : ℕ) → i < length xs → y ≡ get_or xs i y
    → ifaces_of 0 (take (i + 1) xs) node ≡ ifaces_of 0 (take i xs) node ++ cond (eqb y.node.0 node) (numbered i y ∷ []) []
take_push xs i y node lt is =
    let more : take (i + 1) xs ≡ take i xs ++ y ∷ [] = take_more xs i y lt ∙ ap (λ z. take i xs ++ z ∷ []) (sym is) in
    let count : i ≡ 0 + length (take i xs) = omega (arith, length-take-le i xs (omega (arith, lt))) in
    ap (λ l. ifaces_of 0 l node) more ∙ ifaces_push 0 (take i xs) y node i count

-- one interface more, of another node
index_skip : (lists : List (List NodeIface)) (xs : List Iface) (i : ℕ) (y : Iface) (node : ℕ) → i < length xs → y ≡ get_or xs i y → (node ≡ y.node.0 → ⊥)
    → get_or lists node [] ≡ ifaces_of 0 (take i xs) node → get_or lists node [] ≡ ifaces_of 0 (take (i + 1) xs) node
index_skip lists xs i y node lt is apart each =
    let old = ifaces_of 0 (take i xs) node in
    each ∙ sym (append-nil old)
    ∙ ap (λ b. old ++ cond b (numbered i y ∷ []) []) (sym (ne_eqb y.node.0 node (λ e. apart (sym e)))) ∙ sym (take_push xs i y node lt is)

-- the lists with one interface more
index_push : (lists : List (List NodeIface)) (xs : List Iface) (i : ℕ) (y : Iface) (node : ℕ) → i < length xs → y ≡ get_or xs i y → y.node.0 < length lists
    → get_or lists node [] ≡ ifaces_of 0 (take i xs) node
    → get_or (set lists y.node.0 (get_or lists y.node.0 [] ++ numbered i y ∷ [])) node [] ≡ ifaces_of 0 (take (i + 1) xs) node
index_push lists xs i y node lt is within each =
    let longer = get_or lists y.node.0 [] ++ numbered i y ∷ [] in
    let old = ifaces_of 0 (take i xs) node in
    elim (cases_eq node y.node.0) [
      | inl here ↦
          ap (λ (j : ℕ). get_or (set lists y.node.0 longer) j []) here ∙ get_or-set_same lists y.node.0 longer [] within
          ∙ ap (λ l. l ++ numbered i y ∷ []) (ap (λ (j : ℕ). get_or lists j []) (sym here) ∙ each)
          ∙ ap (λ b. old ++ cond b (numbered i y ∷ []) []) (sym (eq-eqb y.node.0 node (sym here))) ∙ sym (take_push xs i y node lt is)
      | inr apart ↦ get_or-set_other lists y.node.0 node longer [] apart ∙ index_skip lists xs i y node lt is apart each
    ]

-- the same where only the nodes that are used have lists
pub index_used : (used : List Bool) (lists : List (List NodeIface)) (xs : List Iface) (i : ℕ) (y : Iface) (node : ℕ) → i < length xs → y ≡ get_or xs i y → y.node.0 < length lists
    → get_or used node false ≡ true → get_or lists node [] ≡ ifaces_of 0 (take i xs) node
    → get_or (cond (get_or used y.node.0 false) (set lists y.node.0 (get_or lists y.node.0 [] ++ numbered i y ∷ [])) lists) node [] ≡ ifaces_of 0 (take (i + 1) xs) node
index_used used lists xs i y node lt is within in_use each =
    cond_both (get_or used y.node.0 false) (set lists y.node.0 (get_or lists y.node.0 [] ++ numbered i y ∷ [])) lists (λ l. get_or l node [] ≡ ifaces_of 0 (take (i + 1) xs) node)
    (λ yes. index_push lists xs i y node lt is within each)
    (λ no. index_skip lists xs i y node lt is (λ e. both_ways (get_or used y.node.0 false) no (ap (λ (j : ℕ). get_or used j false) (sym e) ∙ in_use)) each)

-- a number that is no node's has none
pub no_node : (n : ℕ) (xs : List Iface) (node m : ℕ) → All (λ x. x.node.0 < m) xs → m ≤ node → ifaces_of n xs node ≡ []
no_node n [] node m within past = refl
no_node n (x ∷ xs) node m within past =
    let below : x.node.0 < m = within 0 x (omega arith) in
    cond-false (eqb x.node.0 node) (numbered n x ∷ ifaces_of (n + 1) xs node) (ifaces_of (n + 1) xs node) (ne_eqb x.node.0 node (λ e. absurd (omega (arith, below, past, e))))
    ∙ no_node (n + 1) xs node m (λ k d lt. within (suc k) d (omega (arith, lt))) past

-- each is one of those
pub ifaces_within : (n m : ℕ) (xs : List Iface) (node : ℕ) → n + length xs ≤ m → All (λ (x : NodeIface). x.id.0 < m) (ifaces_of n xs node)
ifaces_within n m [] node le = λ k d lt. absurd (omega (arith, lt))
ifaces_within n m (x ∷ xs) node le =
    let Below : NodeIface → Type 0 = λ y. y.id.0 < m in
    let rest : All Below (ifaces_of (n + 1) xs node) = ifaces_within (n + 1) m xs node (omega (arith, le)) in
    cond_both (eqb x.node.0 node) (numbered n x ∷ ifaces_of (n + 1) xs node) (ifaces_of (n + 1) xs node) (λ l. All Below l)
    (λ yes. All-cons Below (numbered n x) (ifaces_of (n + 1) xs node) (omega (arith, le)) rest) (λ no. rest)

abbrev pub number_of : Option NodeIface → Option IfaceId
number_of o = option_map (λ x. x.id) o

pick : (a s : Bool) (test : NodeIface → Bool) (r : NodeIface) (rest : List NodeIface) (o : Option IfaceId) → test r ≡ s → number_of (find test rest) ≡ o
    → number_of (find test (cond a (r ∷ rest) rest)) ≡ cond (a && s) (Some r.id) o
pick true true test r rest o is e = ap (λ b. number_of (cond b (Some r) (find test rest))) is
pick true false test r rest o is e = ap (λ b. number_of (cond b (Some r) (find test rest))) is ∙ e
pick false s test r rest o is e = e

abbrev pub bears : List Laid → Load → NodeIface → Bool
bears had load x = may_bear x.kbps (loads_on x.id.0 had) load

pub first_of : (n : ℕ) (xs : List Iface) (had : List Laid) (node : NodeId) (load : Load) → number_of (find (bears had load) (ifaces_of n xs node.0)) ≡ first_iface n xs had node load
first_of n [] had node load = refl
first_of n (x ∷ xs) had node load =
    pick (eqb x.node.0 node.0) (bears had load (numbered n x)) (bears had load) (numbered n x) (ifaces_of (n + 1) xs node.0) (first_iface (n + 1) xs had node load)
    refl (first_of (n + 1) xs had node load)

find_same : {X : Type 0} (f g : X → Bool) (xs : List X) → All (λ x. f x ≡ g x) xs → find f xs ≡ find g xs
find_same f g [] same = refl
find_same f g (x ∷ xs) same =
    ap (λ b. cond b (Some x) (find f xs)) (same 0 x (omega arith)) ∙ ap (λ o. cond (g x) (Some x) o) (find_same f g xs (λ k d lt. same (suc k) d (omega (arith, lt))))

-- no interface has more kbps
slow_ifaces : (n : ℕ) (xs : List Iface) (node : ℕ) → All (λ (x : Iface). x.kbps < 18446744073709551615) xs → All (λ (x : NodeIface). x.kbps < 18446744073709551615) (ifaces_of n xs node)
slow_ifaces n [] node slow = λ k d lt. absurd (omega (arith, lt))
slow_ifaces n (x ∷ xs) node slow =
    let Slow : NodeIface → Type 0 = λ y. y.kbps < 18446744073709551615 in
    let rest : All Slow (ifaces_of (n + 1) xs node) = slow_ifaces (n + 1) xs node (λ k d lt. slow (suc k) d (omega (arith, lt))) in
    cond_both (eqb x.node.0 node) (numbered n x ∷ ifaces_of (n + 1) xs node) (ifaces_of (n + 1) xs node) (λ l. All Slow l)
    (λ yes. All-cons Slow (numbered n x) (ifaces_of (n + 1) xs node) (slow 0 x (omega arith)) rest) (λ no. rest)

slow_of : (iface : Iface) → is_iface iface ≡ true → iface.kbps < 18446744073709551615
slow_of iface is =
    let speed = (and_parts (is_port_number iface.port) (is_speed iface.kbps) (and_parts (is_name iface.link && is_name iface.name) (is_port_number iface.port && is_speed iface.kbps) is).1).1 in
    let both = and_parts (nat_le 1 iface.kbps) (nat_le iface.kbps 1000000000) speed in
    below iface.kbps both.1
  where
    below : (n : ℕ) → nat_le n 1000000000 ≡ true → n < 18446744073709551615
    below n h = let le = leb-true n 1000000000 h in omega (arith, le)

slow_lab : (lab : Lab) → IsLab lab → All (λ (x : Iface). x.kbps < 18446744073709551615) lab.ifaces
slow_lab lab is = λ k d lt. slow_of (get_or lab.ifaces k d) (is.ifaces (get_or lab.ifaces k d) (Has-get_or lab.ifaces k d lt))

-- what an end puts on an interface is like what is on it already
pub record Bearable (had : List Laid) (load : Load) : Type 0 where
  pub some : All (λ (x : Laid). 1 ≤ x.0.kbps) had
  pub next : 1 ≤ load.kbps
  pub rising : All (λ (x : Laid). x.0.segment ≤ load.segment) had

pub on_all : (P : Load → Type 0) (i : ℕ) (had : List Laid) → All (λ (x : Laid). P x.0) had → All P (loads_on i had)
on_all P i [] all = λ k d lt. absurd (omega (arith, lt))
on_all P i (x ∷ had) all =
    let rest = on_all P i had (λ k d lt. all (suc k) d (omega (arith, lt))) in
    cond_both (eqb x.1.0 i) (x.0 ∷ loads_on i had) (loads_on i had) (λ l. All P l) (λ yes. All-cons P x.0 (loads_on i had) (all 0 x (omega arith)) rest) (λ no. rest)

-- THE TABLES SAY WHAT THE RULE SAYS of one interface
pub serves_is : (used last kbps : ℕ) (ys : List Load) (x : Load) → kbps < 18446744073709551615 → used ≡ noted ys → (list_all (λ y. y.multiplexed) ys ≡ true → 0 < length ys → last ≡ newest ys)
    → All (λ (y : Load). 1 ≤ y.kbps) ys → 1 ≤ x.kbps → All (λ (y : Load). y.segment ≤ x.segment) ys → serves used last kbps x ≡ may_bear kbps ys x
serves_is used last kbps [] x slow is at some next rising =
    ap (λ (n : ℕ). nat_le x.kbps kbps && ((eqb n 0) || (x.multiplexed && (nat_le n (kbps - x.kbps) && not (eqb last (x.segment + 1)))))) is ∙ and-true (nat_le x.kbps kbps) ∙ ap (λ (n : ℕ). nat_le n kbps) (plus_zero x.kbps)
serves_is used last kbps (y ∷ ys) x slow is at some next rising =
    some_on used last kbps y ys x slow is (λ all. at all (omega arith)) some next rising

-- the first of a node's interfaces that may have one more end, by the tables
pub first_is : (lab : Lab) (lists : List (List NodeIface)) (given : Given) (had : List Laid) (node : NodeId) (load : Load) → IsLab lab → get_or lists node.0 [] ≡ ifaces_of 0 lab.ifaces node.0
    → Marks lab given had → Bearable had load
    → number_of (find (λ x. serves (get_or given.used.items x.id.0 0) (get_or given.last.items x.id.0 0) x.kbps load) (get_or lists node.0 [])) ≡ first_iface 0 lab.ifaces had node load
first_is lab lists given had node load is_lab at marks fits =
    let told : NodeIface → Bool = λ x. serves (get_or given.used.items x.id.0 0) (get_or given.last.items x.id.0 0) x.kbps load in
    let none : 0 + length lab.ifaces ≤ length lab.ifaces = omega arith in
    let within = ifaces_within 0 (length lab.ifaces) lab.ifaces node.0 none in
    let slow = slow_ifaces 0 lab.ifaces node.0 (slow_lab lab is_lab) in
    ap (λ l. number_of (find told l)) at
    ∙ ap number_of (find_same told (bears had load) (ifaces_of 0 lab.ifaces node.0) (λ k d lt.
    let x = get_or (ifaces_of 0 lab.ifaces node.0) k d in
    serves_is (get_or given.used.items x.id.0 0) (get_or given.last.items x.id.0 0) x.kbps (loads_on x.id.0 had) load (slow k d lt)
    (marks.used x.id.0 (within k d lt)) (marks.last x.id.0 (within k d lt))
    (on_all (λ y. 1 ≤ y.kbps) x.id.0 had marks.some) fits.next (on_all (λ y. y.segment ≤ load.segment) x.id.0 had fits.rising)))
    ∙ first_of 0 lab.ifaces had node load

-- the interfaces of a node have an entry in the tables
pub list_within : (lab : Lab) (lists : List (List NodeIface)) (count node : ℕ) → get_or lists node [] ≡ ifaces_of 0 lab.ifaces node → count ≡ length lab.ifaces
    → All (λ (x : NodeIface). x.id.0 < count) (get_or lists node [])
list_within lab lists count node at sized =
    let none : 0 + length lab.ifaces ≤ count = omega (arith, sized) in
    subst (λ l. All (λ (x : NodeIface). x.id.0 < count) l) (sym at) (ifaces_within 0 count lab.ifaces node none)
