-- Ends in order on the interfaces of one node, each fast enough.
use Rattle.std.proofs.Common.{◌≡◌, ◌≤◌, ◌<◌, ◌+◌, ◌∷◌, [], ◌++◌, ◌∙◌, ℕ, zero, suc, List, length, get_or, take, map, Bool, true, false, cond, eqb, not, nat_le, ◌&&◌, Some, All, refl, ap, sym, arith, append_assoc, length-append}
use Rattle.std.specs.List.{find}
use Rattle.std.specs.Prelude.{sum_by}
use Rattle.std.specs.Option.{option_map}
use Rattle.std.proofs.lemmas.Bool.{cond_both, and_parts, eq-eqb, ne_eqb}
use Rattle.std.proofs.lemmas.Bool.Decides.{nat_tests}
use Rattle.std.proofs.lemmas.List.{append-nil}
use Rattle.std.proofs.lemmas.List.Elements.{All-append, All-cons}
use Rattle.lab_base.specs.declared.ids.IfaceId.{IfaceId}
use Rattle.lab_base.specs.declared.ids.NodeId.{NodeId}
use Rattle.phys_lab.specs.declared.parts.Iface.{Iface}
use Rattle.phys_lab.specs.Labs.{Lab}
use Rattle.virt_topo.specs.declared.loads.Load.{Load}
use Rattle.lab_model.specs.Shapes.{Place}
use Rattle.lab_model.specs.Rules.{no_place, Laid, loads_on, may_bear}
use Rattle.node_maps.specs.declared.ends.End.{End}
use Rattle.node_maps.specs.declared.index.NodeIface.{NodeIface}
use Rattle.node_maps.specs.NodeMaps.{load_of, first_iface, laid_from, plugs_in, plugs_from}
use Rattle.node_maps.specs.Indexed.{ifaces_of, fits, are_in_order}
use Rattle.node_maps.proofs.Bearing.{plain_joins}
use Rattle.node_maps.proofs.IndexLaws.{numbered, number_of, bears, first_of}
use Rattle.node_maps.proofs.KeptPlugs.{on_push}
use Rattle.node_maps.proofs.PlugLaws.{step_is}

-- the numbers of the interfaces rise
record Rises (xs : List NodeIface) : Type 0 where
  each : (j k : ℕ) (d : NodeIface) → j < k → k < length xs → (get_or xs j d).id.0 < (get_or xs k d).id.0

rises_cons : (x : NodeIface) (xs : List NodeIface) → All (λ (y : NodeIface). x.id.0 < y.id.0) xs → Rises xs → Rises (x ∷ xs)
rises_cons x xs above r = record { each = λ j k d less lt. by j k d less lt }
  where
    by : (j k : ℕ) (d : NodeIface) → j < k → k < length (x ∷ xs) → (get_or (x ∷ xs) j d).id.0 < (get_or (x ∷ xs) k d).id.0
    by j zero d less lt = absurd (omega (arith, less))
    by zero (suc k) d less lt = above k d (omega (arith, lt))
    by (suc j) (suc k) d less lt = r.each j k d (omega (arith, less)) (omega (arith, lt))

from_on : (n : ℕ) (xs : List Iface) (node : ℕ) → All (λ (x : NodeIface). n ≤ x.id.0) (ifaces_of n xs node)
from_on n [] node = λ k d lt. absurd (omega (arith, lt))
from_on n (x ∷ xs) node =
    let From : NodeIface → Type 0 = λ y. n ≤ y.id.0 in
    let later = from_on (n + 1) xs node in
    let rest : All From (ifaces_of (n + 1) xs node) = (λ k d lt. (let le = later k d lt in omega (arith, le))) in
    cond_both (eqb x.node.0 node) (numbered n x ∷ ifaces_of (n + 1) xs node) (ifaces_of (n + 1) xs node) (λ l. All From l)
    (λ yes. All-cons From (numbered n x) (ifaces_of (n + 1) xs node) (omega arith) rest) (λ no. rest)

ifaces_rise : (n : ℕ) (xs : List Iface) (node : ℕ) → Rises (ifaces_of n xs node)
ifaces_rise n [] node = record { each = λ j k d less lt. absurd (omega (arith, lt)) }
ifaces_rise n (x ∷ xs) node =
    let rest = ifaces_of (n + 1) xs node in
    let later = from_on (n + 1) xs node in
    let rises = ifaces_rise (n + 1) xs node in
    cond_both (eqb x.node.0 node) (numbered n x ∷ rest) rest (λ l. Rises l)
    (λ yes. rises_cons (numbered n x) rest (λ k d lt. (let le = later k d lt in omega (arith, le))) rises) (λ no. rises)

-- what is not found among the first ones is found among the others
find_past : {X : Type 0} (p : X → Bool) (done rest : List X) → All (λ x. p x ≡ false) done → find p (done ++ rest) ≡ find p rest
find_past p [] rest none = refl
find_past p (x ∷ done) rest none =
    ap (λ b. cond b (Some x) (find p (done ++ rest))) (none 0 x (omega arith)) ∙ find_past p done rest (λ k d lt. none (suc k) d (omega (arith, lt)))

-- a load that isn't multiplexed comes to an interface exactly where nothing is there and it is fast enough
plain_apart : (kbps : ℕ) (had : List Load) (x : Load) → x.multiplexed ≡ false → 0 < length had → may_bear kbps had x ≡ false
plain_apart kbps [] x plain some = absurd (omega (arith, some))
plain_apart kbps (y ∷ ys) x plain some = ap (λ (b : Bool). b && nat_le (x.kbps + sum_by (λ z. z.kbps) (y ∷ ys)) kbps) (plain_joins ys x plain y)

first_bears : (kbps : ℕ) (x : Load) → x.kbps ≤ kbps → may_bear kbps [] x ≡ true
first_bears kbps x le = grind (arith, nat_tests)

-- the first interfaces of a node have loads, and the others have none
record Standing (lab : Lab) (n : ℕ) (had : List Laid) (done rest : List NodeIface) : Type 0 where
  split : ifaces_of 0 lab.ifaces n ≡ done ++ rest
  taken : All (λ (x : NodeIface). 0 < length (loads_on x.id.0 had)) done
  free : All (λ (x : NodeIface). loads_on x.id.0 had ≡ []) rest
  rises : Rises rest

-- the next end gets the first of the others
next_is : (lab : Lab) (node : NodeId) (had : List Laid) (done rest : List NodeIface) (x : NodeIface) (load : Load) → Standing lab node.0 had done (x ∷ rest) → load.multiplexed ≡ false
    → load.kbps ≤ x.kbps → first_iface 0 lab.ifaces had node load ≡ Some x.id
next_is lab node had done rest x load s plain fast =
    let bear : bears had load x ≡ true = ap (λ l. may_bear x.kbps l load) (s.free 0 x (omega arith)) ∙ first_bears x.kbps load fast in
    sym (first_of 0 lab.ifaces had node load)
    ∙ ap (λ l. number_of (find (bears had load) l)) s.split
    ∙ ap number_of (find_past (bears had load) done (x ∷ rest) (λ k d lt. plain_apart (get_or done k d).kbps (loads_on (get_or done k d).id.0 had) load plain (s.taken k d lt)))
    ∙ ap (λ b. number_of (cond b (Some x) (find (bears had load) rest))) bear

pushed : (k : ℕ) (had : List Laid) (load : Load) (i : IfaceId) → length (loads_on k (had ++ (load, i) ∷ [])) ≡ length (loads_on k had) + length (cond (eqb i.0 k) (load ∷ []) [])
pushed k had load i = ap (λ (l : List Load). length l) (on_push k had load i) ∙ length-append (loads_on k had) (cond (eqb i.0 k) (load ∷ []) [])

stands : (lab : Lab) (n : ℕ) (had : List Laid) (done rest : List NodeIface) (x : NodeIface) (load : Load) → Standing lab n had done (x ∷ rest) → Standing lab n (had ++ (load, x.id) ∷ []) (done ++ x ∷ []) rest
stands lab n had done rest x load s =
    let Taken : NodeIface → Type 0 = λ y. 0 < length (loads_on y.id.0 (had ++ (load, x.id) ∷ [])) in
    let own : Taken x =
    (let count = pushed x.id.0 had load x.id in
    let one : length (cond (eqb x.id.0 x.id.0) (load ∷ []) []) ≡ 1 = ap (λ (b : Bool). length (cond b (load ∷ []) [])) (eq-eqb x.id.0 x.id.0 refl) in
    omega (arith, count, one)) in
    record {
      split = s.split ∙ sym (append_assoc done (x ∷ []) rest);
      taken = All-append Taken done (x ∷ [])
          (λ k d lt. (let count = pushed (get_or done k d).id.0 had load x.id in let some = s.taken k d lt in omega (arith, count, some)))
          (All-cons Taken x [] own (λ k d lt. absurd (omega (arith, lt))));
      free = λ k d lt.
          let y = get_or rest k d in
          let above : x.id.0 < y.id.0 = s.rises.each 0 (suc k) d (omega arith) (omega (arith, lt)) in
          on_push y.id.0 had load x.id
          ∙ ap (λ (b : Bool). loads_on y.id.0 had ++ cond b (load ∷ []) []) (ne_eqb x.id.0 y.id.0 (λ e. absurd (omega (arith, above, e))))
          ∙ append-nil (loads_on y.id.0 had) ∙ s.free (suc k) d (omega (arith, lt));
      rises = record { each = λ j k d less lt. s.rises.each (suc j) (suc k) d (omega (arith, less)) (omega (arith, lt)) };
    }

-- ends on these interfaces, one each
abbrev laid_on : List End → List NodeIface → List Laid
laid_on [] xs = []
laid_on (e ∷ es) [] = []
laid_on (e ∷ es) (x ∷ xs) = (load_of e, x.id) ∷ laid_on es xs

plugs_on : (es : List End) (xs : List NodeIface) → plugs_in (laid_on es xs) ≡ map (λ x. x.id) (take (length es) xs)
plugs_on [] xs = refl
plugs_on (e ∷ es) [] = refl
plugs_on (e ∷ es) (x ∷ xs) = ap (λ l. x.id ∷ l) (plugs_on es xs)

plain_of : (b : Bool) → not b ≡ true → b ≡ false
plain_of false is = refl
plain_of true is = absurd (cc is)

fast_of : (e : End) (x : NodeIface) → nat_le e.kbps x.kbps ≡ true → e.kbps ≤ x.kbps
fast_of e x is = grind (arith, nat_tests)

laid_in_order : (lab : Lab) (places : List Place) (n : ℕ) (es : List End) (had : List Laid) (done rest : List NodeIface) → Standing lab n had done rest
    → All (λ (e : End). e.node < length places) es → All (λ (e : End). (get_or places e.node no_place).0.0 ≡ n) es → are_in_order es rest ≡ true
    → laid_from lab places es had ≡ Some (had ++ laid_on es rest)
laid_in_order lab places n [] had done rest s placed on ordered = ap Some (sym (append-nil had))
laid_in_order lab places n (e ∷ es) had done [] s placed on ordered = absurd (cc ordered)
laid_in_order lab places n (e ∷ es) had done (x ∷ rest) s placed on ordered =
    let both = and_parts (fits e x) (are_in_order es rest) ordered in
    let fit = and_parts (not e.multiplexed) (nat_le e.kbps x.kbps) both.0 in
    let node : NodeId = record { 0 = n } in
    let here : node ≡ (get_or places e.node no_place).0 = (λ j. record { 0 = sym (on 0 e (omega arith)) j }) in
    let first = ap (λ (m : NodeId). first_iface 0 lab.ifaces had m (load_of e)) (sym here) ∙ next_is lab node had done rest x (load_of e) s (plain_of e.multiplexed fit.0) (fast_of e x fit.1) in
    step_is lab places e es had x.id (placed 0 e (omega arith)) first
    ∙ laid_in_order lab places n es (had ++ (load_of e, x.id) ∷ []) (done ++ x ∷ []) rest (stands lab n had done rest x (load_of e) s)
    (λ k d lt. placed (suc k) d (omega (arith, lt))) (λ k d lt. on (suc k) d (omega (arith, lt))) both.1
    ∙ ap Some (append_assoc had ((load_of e, x.id) ∷ []) (laid_on es rest))

-- there are as many interfaces
pub in_order_few : (es : List End) (xs : List NodeIface) → are_in_order es xs ≡ true → length es ≤ length xs
in_order_few [] xs is = omega arith
in_order_few (e ∷ es) [] is = absurd (cc is)
in_order_few (e ∷ es) (x ∷ xs) is = let rest = in_order_few es xs (and_parts (fits e x) (are_in_order es xs) is).1 in omega (arith, rest)

-- EACH END HAS THE INTERFACE OF ITS OWN PLACE
pub plugs_in_order : (lab : Lab) (places : List Place) (n : ℕ) (es : List End) → All (λ (e : End). e.node < length places) es
    → All (λ (e : End). (get_or places e.node no_place).0.0 ≡ n) es → are_in_order es (ifaces_of 0 lab.ifaces n) ≡ true
    → plugs_from lab places es ≡ Some (map (λ x. x.id) (take (length es) (ifaces_of 0 lab.ifaces n)))
plugs_in_order lab places n es placed on ordered =
    let xs = ifaces_of 0 lab.ifaces n in
    let start : Standing lab n [] [] xs = record { split = refl; taken = λ k d lt. absurd (omega (arith, lt)); free = λ k d lt. refl; rises = ifaces_rise 0 lab.ifaces n } in
    ap (option_map (λ laid. plugs_in laid)) (laid_in_order lab places n es [] [] xs start placed on ordered) ∙ ap Some (plugs_on es xs)
