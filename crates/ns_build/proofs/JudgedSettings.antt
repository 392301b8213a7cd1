-- The tasks of the commands that begin with `tb-` fit the network.
use Rattle.std.proofs.Common.{◌≡◌, ℕ, ◌<◌, ◌≤◌, Bool, true, false, List, [], ◌∷◌, ◌++◌, length, Some, Ok, refl, subst, arith}
use Rattle.std.specs.Prelude.{nat_lt, nat_le, not, ◌||◌}
use Rattle.std.specs.List.{list_any}
use Rattle.std.proofs.lemmas.Bool.{le-leb, and_from, leb-false, ltb-false}
use Rattle.lab_base.specs.declared.fault.Kind.TheVariants as kinds
use Rattle.lab_base.specs.Names.{same_name}
use Rattle.lab_base.proofs.Tests.{or_first, or_rest}
use Rattle.lab_base.proofs.Members.{none_has, none_from}
use Rattle.virt_topo.specs.Repeats.{stands_again}
use Rattle.virt_topo.specs.Soundness.{is_between, is_address}
use Rattle.ns_words.specs.Values.{loss_of}
use Rattle.ns_words.specs.Addresses.{address_of}
use Rattle.ns_words.specs.Quantities.{IsLoss}
use Rattle.ns_words.proofs.Exact.{loss_exact}
use Rattle.ns_words.proofs.AddressLaws.{address_exact, last_number}
use Rattle.ns_build.specs.declared.task.Task.{Task}
use Rattle.ns_build.specs.declared.task.Task.TheVariants as tasks
use Rattle.ns_build.specs.declared.task.NodeChange.TheVariants as nodes
use Rattle.ns_build.specs.declared.task.LinkChange.TheVariants as links
use Rattle.ns_build.specs.Networks.{Network, fresh_class, is_on_at, only_link, asks_of, refuses_class}
use Rattle.ns_build.specs.Words.{node_of, link_of, link_of_kind, elements_of}
use Rattle.ns_build.specs.Checks.{each, need, refuse, word_at, counted, name_in, loss_in, flag_in, address_in}
use Rattle.ns_build.specs.Settings.{judged_os, judged_hardware, judged_fixed, judged_ip, judged_end_ip, judged_loss, judged_multiplexed, with_type, judged_class}
use Rattle.ns_build.proofs.NamesDiffer.{again_push, same_turned}
use Rattle.ns_build.proofs.Fitting.{FitsClass, Fits}
use Rattle.ns_build.proofs.Chains.{then_ok, need_ok, refuse_ok, ok_is, each_keeps}

pub judged_os_fits : (n : Network) (words : List (List ℕ)) (task : Task) → judged_os n words ≡ Ok task → Fits n task
unfolding judged_os
judged_os_fits n words task h =
    let form = then_ok (counted 3 words) _ task h in
    let v = then_ok (need kinds.Node (node_of n (word_at words 1))) _ task form.2 in
    let os = then_ok (name_in (word_at words 2)) _ task v.2 in
    subst (Fits n) (ok_is (tasks.ChangeNode v.0 (nodes.Os os.0)) task os.2) tt

pub judged_hardware_fits : (n : Network) (words : List (List ℕ)) (task : Task) → judged_hardware n words ≡ Ok task → Fits n task
unfolding judged_hardware
judged_hardware_fits n words task h =
    let form = then_ok (counted 3 words) _ task h in
    let v = then_ok (need kinds.Node (node_of n (word_at words 1))) _ task form.2 in
    let type = then_ok (name_in (word_at words 2)) _ task v.2 in
    subst (Fits n) (ok_is (tasks.ChangeNode v.0 (nodes.Asks (asks_of n type.0))) task type.2) (type.0, refl)

pub judged_fixed_fits : (n : Network) (words : List (List ℕ)) (task : Task) → judged_fixed n words ≡ Ok task → Fits n task
unfolding judged_fixed
judged_fixed_fits n words task h =
    let form = then_ok (counted 3 words) _ task h in
    let v = then_ok (need kinds.Node (node_of n (word_at words 1))) _ task form.2 in
    let fixed = then_ok (name_in (word_at words 2)) _ task v.2 in
    subst (Fits n) (ok_is (tasks.ChangeNode v.0 (nodes.Fixed fixed.0)) task fixed.2) tt

-- the last number of an address is from 1 to 254
address_fits : (word : List ℕ) (ip : ℕ) → address_in word ≡ Ok ip → is_address (Some ip) ≡ true
unfolding address_in
address_fits word ip h =
    let w = (address_exact word ip).0 (need_ok kinds.Ip (address_of word) ip h) in
    let last = last_number word ip w in
    and_from _ _ (le-leb 1 _ last.0) (le-leb _ 254 last.1)

pub judged_ip_fits : (n : Network) (words : List (List ℕ)) (task : Task) → judged_ip n words ≡ Ok task → Fits n task
unfolding judged_ip
judged_ip_fits n words task h =
    let form = then_ok (counted 3 words) _ task h in
    let v = then_ok (need kinds.Node (node_of n (word_at words 1))) _ task form.2 in
    let l = then_ok (need kinds.Node (only_link n v.0)) _ task v.2 in
    let ip = then_ok (address_in (word_at words 2)) _ task l.2 in
    subst (Fits n) (ok_is (tasks.ChangeLink l.0 (links.Address v.0 ip.0)) task ip.2) (address_fits (word_at words 2) ip.0 ip.1)

pub judged_end_ip_fits : (lan : Bool) (n : Network) (words : List (List ℕ)) (task : Task) → judged_end_ip lan n words ≡ Ok task → Fits n task
unfolding judged_end_ip
judged_end_ip_fits lan n words task h =
    let form = then_ok (counted 4 words) _ task h in
    let v = then_ok (need kinds.Node (node_of n (word_at words 1))) _ task form.2 in
    let l = then_ok (need kinds.Link (link_of_kind n lan (word_at words 2))) _ task v.2 in
    let joined = then_ok (refuse kinds.Node (not (is_on_at n v.0 l.0))) _ task l.2 in
    let ip = then_ok (address_in (word_at words 3)) _ task joined.2 in
    subst (Fits n) (ok_is (tasks.ChangeLink l.0 (links.Address v.0 ip.0)) task ip.2) (address_fits (word_at words 3) ip.0 ip.1)

pub loss_fits : (word : List ℕ) (ppm : ℕ) → loss_in word ≡ Ok ppm → ppm ≤ 1000000
unfolding loss_in
loss_fits word ppm h = let w : IsLoss word ppm = (loss_exact word ppm).0 (need_ok kinds.Loss (loss_of word) ppm h) in w.most

pub judged_loss_fits : (lan : Bool) (n : Network) (words : List (List ℕ)) (task : Task) → judged_loss lan n words ≡ Ok task → Fits n task
unfolding judged_loss
judged_loss_fits lan n words task h =
    let form = then_ok (counted 3 words) _ task h in
    let l = then_ok (need kinds.Link (link_of_kind n lan (word_at words 1))) _ task form.2 in
    let ppm = then_ok (loss_in (word_at words 2)) _ task l.2 in
    subst (Fits n) (ok_is (tasks.ChangeLink l.0 (links.Loss ppm.0)) task ppm.2) (loss_fits (word_at words 2) ppm.0 ppm.1)

pub judged_multiplexed_fits : (n : Network) (words : List (List ℕ)) (task : Task) → judged_multiplexed n words ≡ Ok task → Fits n task
unfolding judged_multiplexed
judged_multiplexed_fits n words task h =
    let form = then_ok (counted 3 words) _ task h in
    let l = then_ok (need kinds.Link (link_of n (word_at words 1))) _ task form.2 in
    let multiplexed = then_ok (flag_in (word_at words 2)) _ task l.2 in
    subst (Fits n) (ok_is (tasks.ChangeLink l.0 (links.Multiplexed multiplexed.0)) task multiplexed.2) tt

with_type_fits : (types : List (List ℕ)) (word : List ℕ) (more : List (List ℕ)) → stands_again same_name types ≡ false → with_type types word ≡ Ok more → stands_again same_name more ≡ false
unfolding with_type
with_type_fits types word more differ h =
    let type = then_ok (name_in word) _ more h in
    let new = then_ok (refuse kinds.Twice (list_any (same_name type.0) types)) _ more type.2 in
    let none : list_any (same_name type.0) types ≡ false = refuse_ok kinds.Twice (list_any (same_name type.0) types) new.0 new.1 in
    subst (λ (l : List (List ℕ)). stands_again same_name l ≡ false) (ok_is (types ++ type.0 ∷ []) more new.2)
    (again_push same_name types type.0 differ (none_from (λ (t : List ℕ). same_name t type.0) types (λ t m. same_turned type.0 t (none_has (same_name type.0) types t none m))))

pub judged_class_fits : (n : Network) (words : List (List ℕ)) (task : Task) → judged_class n words ≡ Ok task → Fits n task
unfolding judged_class
judged_class_fits n words task h =
    let form = then_ok (counted 3 words) _ task h in
    let name = then_ok (name_in (word_at words 1)) _ task form.2 in
    let free = then_ok (refuse kinds.Twice (refuses_class n name.0)) _ task name.2 in
    let types = then_ok (each with_type [] (elements_of (word_at words 2))) _ task free.2 in
    let some = then_ok (refuse kinds.Name (nat_lt (length types.0) 1)) _ task types.2 in
    let room = then_ok (refuse kinds.Limit (nat_lt 8 (length types.0) || nat_le 64 (length n.classes))) _ task some.2 in
    let within : (nat_lt 8 (length types.0) || nat_le 64 (length n.classes)) ≡ false = refuse_ok kinds.Limit (nat_lt 8 (length types.0) || nat_le 64 (length n.classes)) room.0 room.1 in
    let least : 1 ≤ length types.0 = ltb-false (length types.0) 1 (refuse_ok kinds.Name (nat_lt (length types.0) 1) some.0 some.1) in
    let most : length types.0 ≤ 8 = ltb-false 8 (length types.0) (or_first (nat_lt 8 (length types.0)) (nat_le 64 (length n.classes)) within) in
    let few : length n.classes < 64 = leb-false 64 (length n.classes) (or_rest (nat_lt 8 (length types.0)) (nat_le 64 (length n.classes)) within) in
    let fit : FitsClass n (fresh_class name.0 types.0) = record {
      few = few;
      limits = and_from (nat_le 500 1000000) (is_between 1 8 (length types.0)) (le-leb 500 1000000 (omega arith))
          (and_from (nat_le 1 (length types.0)) (nat_le (length types.0) 8) (le-leb 1 (length types.0) least) (le-leb (length types.0) 8 most));
      free = refuse_ok kinds.Twice (refuses_class n name.0) free.0 free.1;
      differ = each_keeps (λ (l : List (List ℕ)). stands_again same_name l ≡ false) with_type with_type_fits (elements_of (word_at words 2)) [] types.0 refl types.1;
    } in
    subst (Fits n) (ok_is (tasks.AddClass (fresh_class name.0 types.0)) task room.2) fit
