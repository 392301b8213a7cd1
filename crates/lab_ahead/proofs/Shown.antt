-- The nodes given, where all needs are met and where one can't be.
use Rattle.std.proofs.Common.{◌≡◌, ◌<◌, ◌≤◌, ◌+◌, ℕ, Bool, true, false, cond, ltb, List, [], length, map, get_or, count_by, replicate, Option, Some, None, refl, sym, ap, ◌∙◌, subst, inl, inr, arith}
use Rattle.std.specs.Ordering.{nat_cmp}
use Rattle.std.specs.List.Sorted.{IsStrictlySortedBy}
use Rattle.std.specs.Cmp.Lexicographic.{slice_cmp}
use Rattle.std.proofs.lemmas.Bool.{cases_eq, cases_lt, lt-ltb, le-ltb}
use Rattle.std.proofs.lemmas.List.{get_or-map, get_or-replicate, get_or_past, length-map, length-replicate, get_or_default}
use Rattle.lab_base.specs.Lists.{Has, AllDiffer}
use Rattle.lab_base.specs.declared.ids.NodeId.{NodeId}
use Rattle.lab_base.specs.Names.{same_name}
use Rattle.lab_base.proofs.Bytes.{bytes_self}
use Rattle.lab_base.proofs.Members.{Has-place, Has-get_or, any_has, any_from}
use Rattle.phys_lab.specs.Labs.{Lab}
use Rattle.lab_ahead.specs.declared.fitting.Need.{Need}
use Rattle.lab_ahead.specs.declared.giving.Giving.{Giving}
use Rattle.lab_ahead.specs.declared.tree.Step.{Step}
use Rattle.lab_ahead.specs.declared.tree.SearchTree.{SearchTree}
use Rattle.lab_ahead.specs.Givings.{IsGiving, IsShort, has_type, have_of, need_at, need_of}
use Rattle.lab_ahead.specs.SearchTrees.{AreMet, AreServed, IsStuck, IsTable, IsWanting, IsWhole, KeepsNodes, Reached, given_of, held, owner_at, owners_in, serves, step_at, table_in, table_of}
use Rattle.lab_ahead.proofs.Counting.{count_beside}
use Rattle.lab_ahead.proofs.TreeLaws.{reached_within}
use Rattle.lab_ahead.proofs.LookLaws.{served_within}
use Rattle.lab_ahead.proofs.Exchanges.{table_still}
use Rattle.lab_ahead.proofs.GivenLaws.{each_given, given_count, given_once}
use Rattle.lab_ahead.proofs.Halls.{IsNeed, chosen, has_some, held_sum, is_among, sum-held, sum_less, total}

abbrev no_owner : Option ℕ
no_owner = None

abbrev node_at : List NodeId → ℕ → NodeId
node_at left i = get_or left i (record { 0 = 0 })

-- nothing is given yet
pub fresh_whole : (needs nodes : ℕ) (table : List (List Bool)) (giving : Giving) → IsTable needs nodes table → table_in giving ≡ table → owners_in giving ≡ replicate nodes None → IsWhole giving
fresh_whole needs nodes table giving is same owners = record { wide = wide; served = served }
  where
    wide : (n : ℕ) → n < length (table_in giving) → length (get_or (table_in giving) n []) ≡ length (owners_in giving)
    wide n lt =
        let there : n < length table = omega (arith, ap (λ (t : List (List Bool)). length t) same) in
        ap (λ (t : List (List Bool)). length (get_or t n [])) same ∙ is.wide n there ∙ sym (length-replicate nodes None) ∙ ap (λ (o : List (Option ℕ)). length o) (sym owners)

    none_at : (m i : ℕ) → owner_at (replicate m None) i ≡ None
    none_at m i = elim (cases_lt i m) [ inl lt ↦ get_or-replicate m i None None lt | inr le ↦ get_or_past (replicate m None) i None (omega (arith, length-replicate m no_owner)) ]

    no_need : (n : ℕ) → None ≡ Some n → ⊥
    no_need n e = cc e

    served : AreServed (table_in giving) (owners_in giving)
    served i n e = absurd (no_need n (sym (none_at nodes i) ∙ ap (λ (o : List (Option ℕ)). owner_at o i) (sym owners) ∙ e))

-- the needs of a tree are needs of the table
pub steps_within : (needs : List Need) (last : Giving) → length (table_in last) ≡ length needs → (tree : SearchTree) → IsWanting needs (table_in last) (owners_in last) tree
    → (k : ℕ) (d : Step) → k < length tree.steps.items → (get_or tree.steps.items k d).need < length needs
steps_within needs last wide tree is k d lt =
    let within : (step_at tree.steps.items k).need < length (table_in last) = reached_within (step_at tree.steps.items k).need is.stuck.is_tree (k, lt, refl) in
    let same : (get_or tree.steps.items k d).need ≡ (step_at tree.steps.items k).need = ap (λ (s : Step). s.need) (get_or_default tree.steps.items k d (record { need = 0; position = 0; parent = 0 }) lt) in
    omega arith

module _ (lab : Lab) (left : List NodeId) (needs : List Need) where
  table_wide : length (table_of lab left needs) ≡ length needs
  table_wide = length-map needs (λ (need : Need). map (has_type lab need.kind) left)

  row_of : (n : ℕ) → n < length needs → get_or (table_of lab left needs) n [] ≡ map (has_type lab (need_at needs n).kind) left
  row_of n lt = get_or-map (λ (need : Need). map (has_type lab need.kind) left) needs n (record { kind = []; count = 0 }) [] lt

  served_needs : (n i : ℕ) → serves (table_of lab left needs) n i ≡ true → n < length needs
  served_needs n i e = omega (arith, served_within (table_of lab left needs) n i e, table_wide)

  serves_is : (n i : ℕ) → n < length needs → i < length left → serves (table_of lab left needs) n i ≡ has_type lab (need_at needs n).kind (node_at left i)
  serves_is n i lt inside = ap (λ (row : List Bool). get_or row i false) (row_of n lt) ∙ get_or-map (has_type lab (need_at needs n).kind) left i (record { 0 = 0 }) false inside

  pub is_table : (table : List (List Bool)) → table ≡ table_of lab left needs → IsTable (length needs) (length left) table
  is_table table is = record { many = ap (λ (t : List (List Bool)). length t) is ∙ table_wide; wide = wide }
    where
      wide : (n : ℕ) → n < length table → length (get_or table n []) ≡ length left
      wide n lt =
          let there : n < length needs = omega (arith, ap (λ (t : List (List Bool)). length t) is, table_wide) in
          ap (λ (t : List (List Bool)). length (get_or t n [])) is ∙ ap (λ (row : List Bool). length row) (row_of n there) ∙ length-map left (has_type lab (need_at needs n).kind)

  module _ (owners : List (Option ℕ)) (same : length owners ≡ length left) (served : AreServed (table_of lab left needs) owners) where
    -- all needs are met
    pub is_giving : AllDiffer left → AreMet needs (length needs) owners → IsGiving lab left needs (given_of left owners)
    is_giving differ met = record {
      once = given_once left owners differ;
      of_left = each_given (λ node n. Has left node) left owners (record { 0 = 0 }) (λ i n lt e. here i lt);
      of_need = each_given (λ node n. n < length needs) left owners (record { 0 = 0 }) (λ i n lt e. served_needs n i (served i n e));
      of_type = each_given (λ node n. has_type lab (need_at needs n).kind node ≡ true) left owners (record { 0 = 0 })
          (λ i n lt e. sym (serves_is n i (served_needs n i (served i n e)) lt) ∙ served i n e);
      enough = λ n lt. given_count left owners n same ∙ met n ∙ ap (λ (b : Bool). cond b (need_at needs n).count 0) (lt-ltb n (length needs) lt);
    }
      where
        here : (i : ℕ) → i < length left → Has left (node_at left i)
        here i lt = Has-get_or left i (record { 0 = 0 }) lt

    -- one need can't be
    module _ (tree : SearchTree) (is : IsWanting needs (table_of lab left needs) owners tree) (kinds : List (List ℕ))
        (all : (n : ℕ) → Reached tree.steps.items n → Has kinds (need_at needs n).kind)
        (only : (kind : List ℕ) → Has kinds kind → (n : ℕ) × Reached tree.steps.items n × ((need_at needs n).kind ≡ kind)) where
      among : (n : ℕ) → Reached tree.steps.items n → is_among kinds (need_at needs n) ≡ true
      among n reached = any_has (same_name (need_at needs n).kind) kinds (need_at needs n).kind (all n reached) (bytes_self (need_at needs n).kind)

      taken : (i : ℕ) → i < length left → has_some lab kinds (node_at left i) ≡ true → chosen (is_among kinds) needs (owner_at owners i) ≡ true
      taken i lt e =
          let found = any_from (λ (kind : List ℕ). has_type lab kind (node_at left i)) kinds e in
          let need = only found.0 found.1 in
          let typed : has_type lab (need_at needs need.0).kind (node_at left i) ≡ true = subst (λ (kind : List ℕ). has_type lab kind (node_at left i) ≡ true) (sym need.2) found.2 in
          let within : need.0 < length needs = omega (arith, reached_within need.0 is.stuck.is_tree need.1, table_wide) in
          let can : serves (table_of lab left needs) (step_at tree.steps.items need.1.0).need i ≡ true =
          subst (λ (n : ℕ). serves (table_of lab left needs) n i ≡ true) (sym need.1.2) (serves_is need.0 i within lt ∙ typed) in
          let owner = is.stuck.closed need.1.0 need.1.1 i can in
          ap (λ (o : Option ℕ). chosen (is_among kinds) needs o) owner.1 ∙ among owner.0 owner.2

      owners_are : (o : Option ℕ) → Has owners o → IsNeed needs o
      owners_are None h = tt
      owners_are (Some n) h = let place = Has-place owners (Some n) None h in served_needs n place.0 (served place.0 n place.2)

      pub is_short : have_of lab left kinds < need_of needs kinds
      is_short =
          let c = is_among kinds in
          let few : have_of lab left kinds ≤ count_by (chosen c needs) owners =
          count_beside (has_some lab kinds) (chosen c needs) left owners (record { 0 = 0 }) None (sym same) taken in
          let same_sum : held_sum (held owners) c needs ≡ count_by (chosen c needs) owners = sum-held (λ (o : Option ℕ). o) c needs owners owners_are in
          let start_reached : Reached tree.steps.items is.start = (0, is.stuck.is_tree.some, is.stuck.start_is) in
          let within : is.start < length needs = omega (arith, reached_within is.start is.stuck.is_tree start_reached, table_wide) in
          let less : held_sum (held owners) c needs < total c needs = sum_less (held owners) c needs is.start (λ n lt. is.none_more n) within (among is.start start_reached) is.fewer in
          omega arith

-- ONE NEED MORE IS MET

abbrev pub met_below : List Need → ℕ → ℕ → ℕ
met_below needs k n = cond (ltb n k) (need_at needs n).count 0

pub none_met : (needs : List Need) (owners : List (Option ℕ)) → ((n : ℕ) → held owners n ≡ 0) → AreMet needs 0 owners
none_met needs owners none n = none n ∙ ap (λ (b : Bool). cond b (need_at needs n).count 0) (sym (le-ltb n 0 (omega arith)))

module _ (needs : List Need) (i : ℕ) (old new : List (Option ℕ)) (met : AreMet needs i old) (others : (n : ℕ) → (i ≡ n → ⊥) → held new n ≡ held old n) where
  none_yet : held old i ≡ 0
  none_yet = met i ∙ ap (λ (b : Bool). cond b (need_at needs i).count 0) (le-ltb i i (omega arith))

  pub one_more_met : held new i ≡ held old i + (need_at needs i).count → AreMet needs (i + 1) new
  one_more_met own n = elim (cases_eq n i) [
    | inl e ↦
        let here : held new i ≡ (need_at needs i).count = omega (arith, own, none_yet) in
        let now : held new n ≡ (need_at needs n).count = subst (λ (k : ℕ). held new k ≡ (need_at needs k).count) (sym e) here in
        now ∙ ap (λ (b : Bool). cond b (need_at needs n).count 0) (sym (lt-ltb n (i + 1) (omega arith)))
    | inr ne ↦
        let same : ltb n i ≡ ltb n (i + 1) = elim (cases_lt n i) [
          | inl lt ↦ lt-ltb n i lt ∙ sym (lt-ltb n (i + 1) (omega arith))
          | inr le ↦ le-ltb n i le ∙ sym (le-ltb n (i + 1) (omega arith))
        ] in
        others n (λ e. ne (sym e)) ∙ met n ∙ ap (λ (b : Bool). cond b (need_at needs n).count 0) same
  ]

  pub wanting : (table : List (List Bool)) (tree : SearchTree) → IsStuck table new i tree → held new i < held old i + (need_at needs i).count → IsWanting needs table new tree
  wanting table tree stuck fewer = record {
    start = i;
    stuck = stuck;
    fewer = omega (arith, none_yet, fewer);
    none_more = λ n. elim (cases_eq n i) [
      | inl e ↦ subst (λ (k : ℕ). held new k ≤ (need_at needs k).count) (sym e) (omega (arith, none_yet, fewer))
      | inr ne ↦ omega (arith, others n (λ e. ne (sym e)), met n, at_most (ltb n i) n)
    ];
  }
    where
      at_most : (b : Bool) (n : ℕ) → cond b (need_at needs n).count 0 ≤ (need_at needs n).count
      at_most true n = omega arith
      at_most false n = omega arith

-- WHAT THE NODES SHOW THAT WERE GIVEN FROM THE BEGINNING ON

module _ (lab : Lab) (left : List NodeId) (needs : List Need) (first last : Giving) (table : table_in first ≡ table_of lab left needs) (owners : owners_in first ≡ replicate (length left) None)
    (keeps : KeepsNodes first last) (whole : IsWhole last) where
  table_is : table_in last ≡ table_of lab left needs
  table_is = table_still first last keeps ∙ table

  as_many : length (owners_in last) ≡ length left
  as_many = keeps.nodes ∙ ap (λ (o : List (Option ℕ)). length o) owners ∙ length-replicate (length left) no_owner

  are_served : AreServed (table_of lab left needs) (owners_in last)
  are_served = subst (λ (t : List (List Bool)). AreServed t (owners_in last)) table_is whole.served

  pub shows_giving : AllDiffer left → AreMet needs (length needs) (owners_in last) → (given : List (NodeId × ℕ)) → given ≡ given_of left (owners_in last) → IsGiving lab left needs given
  shows_giving differ met given is = subst (λ (l : List (NodeId × ℕ)). IsGiving lab left needs l) (sym is) (is_giving lab left needs (owners_in last) as_many are_served differ met)

  wants : (tree : SearchTree) → IsWanting needs (table_in last) (owners_in last) tree → IsWanting needs (table_of lab left needs) (owners_in last) tree
  wants tree is = subst (λ (t : List (List Bool)). IsWanting needs t (owners_in last) tree) table_is is

  pub shows_short : (tree : SearchTree) → IsWanting needs (table_in last) (owners_in last) tree → (kinds : List (List ℕ)) → IsStrictlySortedBy (slice_cmp nat_cmp) kinds
      → ((n : ℕ) → Reached tree.steps.items n → Has kinds (need_at needs n).kind) → ((kind : List ℕ) → Has kinds kind → (n : ℕ) × Reached tree.steps.items n × ((need_at needs n).kind ≡ kind))
      → IsShort lab left needs kinds
  shows_short tree is kinds rising all only = record { rising = rising; short = is_short lab left needs (owners_in last) as_many are_served tree (wants tree is) kinds all only }
