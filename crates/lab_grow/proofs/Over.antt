-- The packed records of a lab after another lab's record.
use Rattle.std.specs.Prelude.{IfOk}
use Rattle.std.specs.List.{flat_map}
use Rattle.std.proofs.Common.{◌≡◌, inl, inr, Result, Ok, Err, Option, Some, ℕ, ◌-◌, ◌≤◌, List, [], ◌∷◌, ◌++◌, length, take, drop, sym, ap, ◌∙◌, arith, append_assoc, length-append}
use Rattle.std.proofs.lemmas.List.{append-nil, take_at, drop_at}
use Rattle.lab_base.specs.declared.memory.Memory.{Memory}
use Rattle.phys_lab.specs.Labs.{Lab}
use Rattle.virt_topo.specs.declared.experiment.Experiment.{Experiment}
use Rattle.journal_rec.specs.declared.record.Record.{Record}
use Rattle.journal_rec.specs.declared.record.Record.TheVariants.{Lab as LabRecord}
use Rattle.journal_rec.specs.Packing.{block, blocks, ArePacked}
use Rattle.records_model.specs.Labs.{LabState}
use Rattle.lab_state.specs.Packing.{packed_one, packed_in, packed_of}
use Rattle.lab_state.specs.Texts.{the_texts}
use Rattle.lab_grow.specs.Carried.{grown_records}
use Rattle.lab_grow.specs.Sides.{first_header, IsSideOver}

one_block : (r : Record) (bytes : List ℕ) → ArePacked bytes (r ∷ []) → bytes ≡ block r ++ 0 ∷ []
one_block r bytes are = are.spelled ∙ ap (λ (l : List ℕ). l ++ 0 ∷ []) (append-nil (block r))

-- all but the closed gate
length_one : (r : Record) (bytes : List ℕ) → ArePacked bytes (r ∷ []) → length bytes - 1 ≡ length (block r)
length_one r bytes are = omega (arith, ap length (one_block r bytes are), length-append (block r) (0 ∷ []))

pub some_bytes : (rs : List Record) (bytes : List ℕ) → ArePacked bytes rs → 1 ≤ length bytes
some_bytes rs bytes are = omega (arith, ap length are.spelled, length-append (blocks rs) (0 ∷ []))

all_blocks : (o : Record) (rs : List Record) (all : List ℕ) → ArePacked all (o ∷ rs) → all ≡ block o ++ (blocks rs ++ 0 ∷ [])
all_blocks o rs all are = are.spelled ∙ append_assoc (block o) (blocks rs) (0 ∷ [])

pub within : (own all : List ℕ) (o : Record) (rs : List Record) → ArePacked own (o ∷ []) → ArePacked all (o ∷ rs) → length own - 1 ≤ length all
within own all o rs are_own are_all =
    omega (arith, length_one o own are_own, ap length (all_blocks o rs all are_all), length-append (block o) (blocks rs ++ 0 ∷ []))

pub over : (own first all : List ℕ) (o n : Record) (rs : List Record) → ArePacked own (o ∷ []) → ArePacked first (n ∷ []) → ArePacked all (o ∷ rs)
    → ArePacked (take (length first - 1) first ++ drop (length own - 1) all) (n ∷ rs)
over own first all o n rs are_own are_first are_all =
    let front : take (length first - 1) first ≡ block n =
    ap (λ (l : List ℕ). take (length first - 1) l) (one_block n first are_first) ∙ take_at (block n) (0 ∷ []) (length first - 1) (sym (length_one n first are_first)) in
    let back : drop (length own - 1) all ≡ blocks rs ++ 0 ∷ [] =
    ap (λ (l : List ℕ). drop (length own - 1) l) (all_blocks o rs all are_all) ∙ drop_at (block o) (blocks rs ++ 0 ∷ []) (length own - 1) (sym (length_one o own are_own)) in
    record {
      are_records = λ r h. elim h [ inl is ↦ are_first.are_records r (inl is) | inr more ↦ are_all.are_records r (inr more) ];
      spelled = (λ i. front i ++ back i) ∙ sym (append_assoc (block n) (blocks rs) (0 ∷ []));
    }

pub packed_is : (s : LabState) (old : Lab) → s.lab ≡ Some old → packed_of the_texts s ≡ LabRecord (the_texts.ptop old) ∷ flat_map (packed_one the_texts old) s.experiments
packed_is s old is = ap (λ (o : Option Lab). packed_in the_texts o s.experiments) is

pub is_side : (old new : Lab) (es : List Experiment) (r : Result (List ℕ) Memory) (body : List ℕ) → ArePacked body (grown_records the_texts old new es)
    → IfOk r (λ text. text ≡ first_header ++ body) → IfOk r (IsSideOver old new es)
is_side old new es (Ok text) body are h = (body, are, h)
is_side old new es (Err memory) body are h = tt
