-- Tables by node of the lab.
use Rattle.std.specs.Str.{bytes_eq}
use Rattle.std.proofs.Common.{◌≡◌, ◌≢◌, inl, inr, ℕ, zero, suc, ◌+◌, ◌<◌, false, cond, Option, Some, None, List, [], ◌∷◌, ◌++◌, length, map, filter, take, drop, get_or, set, replicate, refl, sym, ap, subst, ◌∙◌, arith, append_assoc, ◌≤◌}
use Rattle.std.proofs.Math.ListN.{drop_of_length-le}
use Rattle.std.proofs.lemmas.List.{length-map, get_or-map, append-nil, take_all, map_more, get_or_default, drop_more}
use Rattle.std.proofs.lemmas.List.Elements.{filter_more}
use Rattle.std.proofs.lemmas.Slice.Eq.{bytes_eq-Decides}
use Rattle.lab_base.specs.Lists.{Has, AllDiffer}
use Rattle.lab_base.proofs.Members.{Apart-right, Has-filter, Has-get_or}
use Rattle.lab_base.proofs.Bytes.{bytes_other}
use Rattle.phys_lab.specs.Labs.{Lab}
use Rattle.phys_lab.specs.Kept.{IsLab}
use Rattle.virt_topo.specs.Soundness.{IsSound}
use Rattle.virt_topo.specs.declared.wiring.Pipe.{Pipe}
use Rattle.virt_topo.specs.declared.wiring.VirtNode.{VirtNode}
use Rattle.virt_topo.specs.declared.wiring.Wiring.{Wiring}
use Rattle.virt_topo.specs.declared.mapping.Mapping.{Mapping}
use Rattle.virt_topo.specs.Wirings.{virt_at, no_virt}
use Rattle.lab_model.specs.Courses.{node_names}
use Rattle.lab_model.specs.Shapes.{Place, IsShaped, no_node}
use Rattle.lab_model.specs.Rules.{no_place, place_at}
use Rattle.lab_model.specs.Wants.{node_name, os_on, place_of}
use Rattle.swap_plan.proofs.PipeLaws.{placed, pipe_there}
use Rattle.swap_plan.specs.Plans.{untagged, host_if, hosts_at, pipes_at, Host}
use Rattle.swap_plan.proofs.Hosts.{hosts_by}

pub names_differ : (lab : Lab) → IsLab lab → AllDiffer (node_names lab)
names_differ lab is = Apart-right (λ x y. x ≢ y) lab.switches (node_names lab) is.devices_differ

pub name_at : (lab : Lab) (n : ℕ) → n < length lab.nodes → get_or (node_names lab) n [] ≡ (get_or lab.nodes n no_node).name
name_at lab n lt = get_or-map (λ node. node.name) lab.nodes n no_node [] lt

map_same : {X Y : Type 0} (f g : X → Y) (xs : List X) → ((x : X) → Has xs x → g x ≡ f x) → map g xs ≡ map f xs
map_same f g [] same = refl
map_same f g (x ∷ xs) same = λ i. same x (inl refl) i ∷ map_same f g xs (λ y h. same y (inr h)) i

-- what changes at one name is set at its place
map_at : {X : Type 0} (f g : List ℕ → X) (names : List (List ℕ)) (n : ℕ) → AllDiffer names → n < length names → ((name : List ℕ) → bytes_eq (get_or names n []) name ≡ false → g name ≡ f name)
    → map g names ≡ set (map f names) n (g (get_or names n []))
map_at f g [] n differ lt same = absurd (omega (arith, lt))
map_at f g (x ∷ xs) zero differ lt same = ap (λ l. g x ∷ l) (map_same f g xs (λ y h. same y (bytes_other x y (differ.0 y h))))
map_at f g (x ∷ xs) (suc n) differ lt same =
    let below : n < length xs = omega (arith, lt) in
    let head : g x ≡ f x = same x (bytes_other (get_or xs n []) x (λ e. differ.0 (get_or xs n []) (Has-get_or xs n [] below) (sym e))) in
    λ i. head i ∷ map_at f g xs n differ.1 below same i

-- an item of the table is what its name gets
table_at : {X : Type 0} (f : List ℕ → X) (names : List (List ℕ)) (n : ℕ) (d : X) → n < length names → get_or (map f names) n d ≡ f (get_or names n [])
table_at f names n d lt = get_or-map f names n [] d lt

-- THE OS OF EACH NODE, from virtual node i on

os_next : (lab : Lab) (vs : List VirtNode) (places : List Place) (i : ℕ) (name : List ℕ) → i < length vs → i < length places
    → os_on lab (drop i vs) (drop i places) name ≡ cond (bytes_eq (node_name lab (get_or places i no_place).0) name) (Some (get_or vs i no_virt).os) (os_on lab (drop (i + 1) vs) (drop (i + 1) places) name)
os_next lab vs places i name lt few =
    let one = drop_more vs i no_virt lt in
    let two = drop_more places i no_place few in
    λ j. os_on lab (one j) (two j) name

-- the node of a virtual node is of the lab, and so in its tables
pub place_within : {X : Type 0} (lab : Lab) (w : Wiring) (m : Mapping) (v : ℕ) (table : List X) (f : List ℕ → X) → IsShaped lab w m → v < length m.places → table ≡ map f (node_names lab) → (place_at m v).0.0 < length table
place_within lab w m v table f shaped lt is =
    omega (arith, shaped.in_nodes v no_place lt, ap length is, length-map (node_names lab) f, length-map lab.nodes (λ node. node.name))

pub os_set : (lab : Lab) (w : Wiring) (m : Mapping) (n k : ℕ) (old new : List (Option (List ℕ))) → IsLab lab → IsShaped lab w m → n ≡ k + 1 → k < length w.nodes
    → old ≡ map (os_on lab (drop n w.nodes) (drop n m.places)) (node_names lab) → new ≡ set old (place_at m k).0.0 (Some (virt_at w k).os)
    → new ≡ map (os_on lab (drop k w.nodes) (drop k m.places)) (node_names lab)
os_set lab w m n k old new is_lab shaped next lt before sets =
    let vs = w.nodes in
    let places = m.places in
    let p = place_at m k in
    let os = (virt_at w k).os in
    let few : k < length places = omega (arith, lt, shaped.places) in
    let names = node_names lab in
    let f = os_on lab (drop (k + 1) vs) (drop (k + 1) places) in
    let g = os_on lab (drop k vs) (drop k places) in
    let within : p.0.0 < length lab.nodes = shaped.in_nodes k no_place few in
    let below : p.0.0 < length names = omega (arith, within, length-map lab.nodes (λ node. node.name)) in
    let own : get_or names p.0.0 [] ≡ node_name lab p.0 = name_at lab p.0.0 within in
    let step : (name : List ℕ) → g name ≡ cond (bytes_eq (node_name lab p.0) name) (Some os) (f name) = λ name. os_next lab vs places k name lt few in
    let here : g (get_or names p.0.0 []) ≡ Some os = step (get_or names p.0.0 []) ∙ ap (λ b. cond b (Some os) (f (get_or names p.0.0 []))) ((bytes_eq-Decides (node_name lab p.0) (get_or names p.0.0 [])).1 (sym own)) in
    let others : (name : List ℕ) → bytes_eq (get_or names p.0.0 []) name ≡ false → g name ≡ f name = λ name other. step name ∙ ap (λ b. cond b (Some os) (f name)) (ap (λ l. bytes_eq l name) (sym own) ∙ other) in
    let was : old ≡ map f names = before ∙ ap (λ (j : ℕ). map (os_on lab (drop j vs) (drop j places)) names) next in
    sets ∙ (λ j. set (was j) p.0.0 (sym here j)) ∙ sym (map_at f g names p.0.0 (names_differ lab is_lab) below others)

pub no_os : (lab : Lab) (vs : List VirtNode) (places : List Place) (i : ℕ) (names : List (List ℕ)) → length vs ≤ i → replicate (length names) None ≡ map (os_on lab (drop i vs) (drop i places)) names
no_os lab vs places i [] past = refl
no_os lab vs places i (name ∷ names) past = λ j. none (drop i vs) (drop_of_length-le vs past) j ∷ no_os lab vs places i names past j
  where
    none : (rest : List VirtNode) → rest ≡ [] → None ≡ os_on lab rest (drop i places) name
    none rest e = ap (λ (l : List VirtNode). os_on lab l (drop i places) name) (sym e)

-- THE PIPES OF EACH NODE, of the first i

pub pipe_added : (lab : Lab) (w : Wiring) (m : Mapping) (seen : List Pipe) (i : ℕ) (d : Pipe) (old new : List (List Pipe)) → IsLab lab → IsSound w → IsShaped lab w m → seen ≡ w.pipes → i < length seen
    → old ≡ map (λ name. filter (λ q. bytes_eq (place_of lab (untagged w m) q.node) name) (take i w.pipes)) (node_names lab)
    → new ≡ set old (place_at m (get_or seen i d).node).0.0 (get_or old (place_at m (get_or seen i d).node).0.0 [] ++ get_or seen i d ∷ [])
    → new ≡ map (λ name. filter (λ q. bytes_eq (place_of lab (untagged w m) q.node) name) (take (i + 1) w.pipes)) (node_names lab)
pipe_added lab w m seen i d old new is_lab sound shaped same lt before adds =
    let ps = w.pipes in
    let p = get_or seen i d in
    let n = (place_at m p.node).0.0 in
    let names = node_names lab in
    let on : Pipe → List ℕ = λ q. place_of lab (untagged w m) q.node in
    let f : List ℕ → List Pipe = λ name. filter (λ q. bytes_eq (on q) name) (take i ps) in
    let g : List ℕ → List Pipe = λ name. filter (λ q. bytes_eq (on q) name) (take (i + 1) ps) in
    let in_ps : i < length ps = omega (arith, lt, ap length same) in
    let at : p ≡ get_or ps i d = ap (λ (l : List Pipe). get_or l i d) same in
    let within : n < length lab.nodes = shaped.in_nodes p.node no_place (placed lab w m p sound shaped (pipe_there w seen i d same lt)) in
    let own : get_or names n [] ≡ on p = name_at lab n within in
    let below : n < length names = omega (arith, within, length-map lab.nodes (λ node. node.name)) in
    let step : (name : List ℕ) → g name ≡ f name ++ cond (bytes_eq (on p) name) (p ∷ []) [] =
    λ name. filter_more (λ q. bytes_eq (on q) name) ps i d in_ps ∙ ap (λ (q : Pipe). f name ++ cond (bytes_eq (on q) name) (q ∷ []) []) (sym at) in
    let here : g (get_or names n []) ≡ f (get_or names n []) ++ p ∷ [] =
    step (get_or names n []) ∙ ap (λ b. f (get_or names n []) ++ cond b (p ∷ []) []) ((bytes_eq-Decides (on p) (get_or names n [])).1 (sym own)) in
    let others : (name : List ℕ) → bytes_eq (get_or names n []) name ≡ false → g name ≡ f name =
    λ name other. step name ∙ ap (λ b. f name ++ cond b (p ∷ []) []) (ap (λ l. bytes_eq l name) (sym own) ∙ other) ∙ append-nil (f name) in
    let was : get_or old n [] ≡ f (get_or names n []) = ap (λ (l : List (List Pipe)). get_or l n []) before ∙ table_at f names n [] below in
    adds ∙ (λ j. set (before j) n ((ap (λ l. l ++ p ∷ []) was ∙ sym here) j)) ∙ sym (map_at f g names n (names_differ lab is_lab) below others)

abbrev pub no_pipes : List Pipe
no_pipes = []

pub no_pipe : (names : List (List ℕ)) → replicate (length names) no_pipes ≡ map (λ name. no_pipes) names
no_pipe [] = refl
no_pipe (name ∷ names) = ap (λ (l : List (List Pipe)). no_pipes ∷ l) (no_pipe names)

-- THE NODES WITH AN OS

hosts_next : (names : List (List ℕ)) (oses : List (Option (List ℕ))) (k : ℕ) → k < length names → k < length oses
    → hosts_at (take (suc k) names) (take (suc k) oses) ≡ hosts_at (take k names) (take k oses) ++ host_if (get_or names k []) (get_or oses k None)
hosts_next [] oses k lt few = absurd (omega (arith, lt))
hosts_next (name ∷ names) [] k lt few = absurd (omega (arith, few))
hosts_next (name ∷ names) (os ∷ oses) zero lt few = append-nil (host_if name os)
hosts_next (name ∷ names) (os ∷ oses) (suc k) lt few =
    ap (λ l. host_if name os ++ l) (hosts_next names oses k (omega (arith, lt)) (omega (arith, few)))
    ∙ sym (append_assoc (host_if name os) (hosts_at (take k names) (take k oses)) (host_if (get_or names k []) (get_or oses k None)))

hosts_more : (names : List (List ℕ)) (oses : List (Option (List ℕ))) (k : ℕ) → k < length names → k < length oses
    → hosts_at (take (k + 1) names) (take (k + 1) oses) ≡ hosts_at (take k names) (take k oses) ++ host_if (get_or names k []) (get_or oses k None)
hosts_more names oses k lt few = let next : k + 1 ≡ suc k = omega arith in ap (λ (j : ℕ). hosts_at (take j names) (take j oses)) next ∙ hosts_next names oses k lt few

-- what is listed of the nodes with an OS, of the first k + 1 and of all
module _ {X : Type 0} (of : List Host → List X) (parts : (a b : List Host) → of (a ++ b) ≡ of a ++ of b) (lab : Lab) (oses : List (Option (List ℕ))) (one_each : length oses ≡ length lab.nodes) where
  pub listed_more : (k : ℕ) (d : Option (List ℕ)) (name : List ℕ) (os : Option (List ℕ)) (start old new : List X) → k < length oses → name ≡ get_or (node_names lab) k [] → os ≡ get_or oses k d
      → old ≡ start ++ of (hosts_at (take k (node_names lab)) (take k oses)) → new ≡ old ++ of (host_if name os)
      → new ≡ start ++ of (hosts_at (take (k + 1) (node_names lab)) (take (k + 1) oses))
  listed_more k d name os start old new lt named at before adds =
      let names = node_names lab in
      let below : k < length names = omega (arith, lt, one_each, length-map lab.nodes (λ node. node.name)) in
      let next : of (hosts_at (take (k + 1) names) (take (k + 1) oses)) ≡ of (hosts_at (take k names) (take k oses)) ++ of (host_if name os) =
      ap of (hosts_more names oses k below lt ∙ (λ i. hosts_at (take k names) (take k oses) ++ host_if (sym named i) (sym (at ∙ get_or_default oses k d None lt) i))) ∙ parts (hosts_at (take k names) (take k oses)) (host_if name os) in
      adds ∙ ap (λ l. l ++ of (host_if name os)) before ∙ append_assoc start (of (hosts_at (take k names) (take k oses))) (of (host_if name os)) ∙ ap (λ l. start ++ l) (sym next)

  pub listed_all : (k : ℕ) (start listed : List X) → length oses ≤ k → listed ≡ start ++ of (hosts_at (take k (node_names lab)) (take k oses)) → listed ≡ start ++ of (hosts_at (node_names lab) oses)
  listed_all k start listed past before =
      let all : length (node_names lab) ≤ k = omega (arith, past, one_each, length-map lab.nodes (λ node. node.name)) in
      before ∙ (λ i. start ++ of (hosts_at (take_all k (node_names lab) all i) (take_all k oses past i)))

-- each OS as it is told of the name
pub hosts_are : (os : List ℕ → Option (List ℕ)) (names : List (List ℕ)) → hosts_at names (map os names) ≡ hosts_by os names
hosts_are os [] = refl
hosts_are os (name ∷ names) = ap (λ l. host_if name (os name) ++ l) (hosts_are os names)

-- the pipes in a table are those of its node's name
pub pipes_there : (lab : Lab) (w : Wiring) (m : Mapping) (lists : List (List Pipe)) (k : ℕ) (name : List ℕ) (d pipes : List Pipe) → lists ≡ map (pipes_at lab w m) (node_names lab) → k < length lab.nodes → name ≡ get_or (node_names lab) k [] → pipes ≡ get_or lists k d
    → pipes ≡ pipes_at lab w m name
pipes_there lab w m lists k name d pipes table lt named at =
    let below : k < length (node_names lab) = omega (arith, lt, length-map lab.nodes (λ node. node.name)) in
    at ∙ ap (λ (l : List (List Pipe)). get_or l k d) table ∙ table_at (pipes_at lab w m) (node_names lab) k d below ∙ ap (pipes_at lab w m) (sym named)

pub os_there : (lab : Lab) (os : List ℕ → Option (List ℕ)) (oses : List (Option (List ℕ))) (k : ℕ) (name : List ℕ) (d : Option (List ℕ)) → oses ≡ map os (node_names lab) → k < length lab.nodes → name ≡ get_or (node_names lab) k [] → get_or oses k d ≡ os name
os_there lab os oses k name d table lt named =
    let below : k < length (node_names lab) = omega (arith, lt, length-map lab.nodes (λ node. node.name)) in
    ap (λ (l : List (Option (List ℕ))). get_or l k d) table ∙ table_at os (node_names lab) k d below ∙ ap os (sym named)

pub own_has : (lab : Lab) (w : Wiring) (m : Mapping) (name : List ℕ) (pipes : List Pipe) (p : Pipe) → pipes ≡ pipes_at lab w m name → Has pipes p → Has w.pipes p
own_has lab w m name pipes p is h = (Has-filter (λ q. bytes_eq (place_of lab (untagged w m) q.node) name) w.pipes p (subst (λ l. Has l p) is h)).0

-- a table is filled node after node
pub table_more : {X : Type 0} (f : List ℕ → X) (lab : Lab) (k : ℕ) (x : X) (old new : List X) → k < length lab.nodes → x ≡ f (get_or (node_names lab) k []) → old ≡ map f (take k (node_names lab)) → new ≡ old ++ x ∷ [] → new ≡ map f (take (k + 1) (node_names lab))
table_more f lab k x old new lt is before adds =
    let below : k < length (node_names lab) = omega (arith, lt, length-map lab.nodes (λ node. node.name)) in
    adds ∙ (λ i. before i ++ is i ∷ []) ∙ sym (map_more f (node_names lab) k [] below)

pub table_all : {X : Type 0} (f : List ℕ → X) (lab : Lab) (k : ℕ) (table : List X) → length lab.nodes ≤ k → table ≡ map f (take k (node_names lab)) → table ≡ map f (node_names lab)
table_all f lab k table past before = before ∙ ap (map f) (take_all k (node_names lab) (omega (arith, past, length-map lab.nodes (λ node. node.name))))

-- what has one for each node's name has one for each node
pub one_for_each : {X : Type 0} (lab : Lab) (f : List ℕ → X) (xs : List X) → xs ≡ map f (node_names lab) → length xs ≡ length lab.nodes
one_for_each lab f xs are = ap length are ∙ length-map (node_names lab) f ∙ length-map lab.nodes (λ node. node.name)
