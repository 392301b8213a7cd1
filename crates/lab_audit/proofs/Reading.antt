-- Readings one after another.
use Rattle.std.proofs.Common.{◌≡◌, inl, inr, ℕ, suc, ◌≤◌, ◌<◌, List, [], ◌∷◌, ◌++◌, length, map, Option, Some, None, refl, sym, ap, ◌∙◌, subst, arith}
use Rattle.std.specs.Prelude.{IfOk, IfSome, Result, Ok, Err, ◌↔◌}
use Rattle.std.proofs.lemmas.List.{map-append}
use Rattle.lab_base.specs.declared.ids.VlanId.{VlanId}
use Rattle.lab_base.specs.Counts.{Rose}
use Rattle.lab_base.specs.Lists.{Has}
use Rattle.lab_base.proofs.Members.{Has-append}
use Rattle.lab_base.proofs.Numbers.{Rose_since}
use Rattle.plant.specs.Seen.{Seen}
use Rattle.plant.specs.Told.{Told, with_steps}
use Rattle.plant.specs.Worlds.{World, NodeRow}
use Rattle.plant.proofs.Traces.{with_steps-nil}
use Rattle.plant.specs.Readings.{IsBefore, IsEntry, IsNth, HasPipe, RowsFit, PipesFit, TellsRow, TellsPipe, entry_of, pipe_of}
use Rattle.plant.specs.declared.pipe_row.PipeRow.{PipeRow}
use Rattle.plant.proofs.Fronts.{IsFront, none_left, one_more}
use Rattle.plant.proofs.Full.{all_entries, all_numbers}
use Rattle.plant.proofs.Orders.{entries, numbers}
use Rattle.lab_audit.specs.Reads.{Reads, ArePipes, steps_of}

pub none_read : (s : Seen) → Reads s s None
none_read s = record { told = with_steps-nil s.told; disk = refl; later = omega arith; failed = tt; stopped = refl }

rose_by : (unread : Option (List ℕ)) (a b c : ℕ) → a ≤ b → IfSome unread (λ name. Rose b c) → IfSome unread (λ name. Rose a c)
rose_by None a b c le rose = tt
rose_by (Some name) a b c le rose = Rose_since a b c le rose

-- what is told after readings that all were answered is what was told before
pub same_told : (a b : Seen) → Reads a b None → b.told ≡ a.told
same_told a b r = r.told ∙ sym (with_steps-nil a.told)

-- readings that were all answered, and then others
pub read_on : (a b c : Seen) (unread : Option (List ℕ)) → Reads a b None → Reads b c unread → Reads a c unread
read_on a b c unread r s = record {
  told = s.told ∙ ap (λ (o : Option Told). with_steps o (steps_of unread)) (same_told a b r);
  disk = s.disk ∙ r.disk;
  later = omega (arith, r.later, s.later);
  failed = rose_by unread a.faults.devices b.faults.devices c.faults.devices r.later s.failed;
  stopped = s.stopped ∙ r.stopped;
}

-- where something is told, a fact about it after readings that were all answered is one about what was told before
pub told_before : (a b : Seen) (P : Told → Type 0) → Reads a b None → IfSome b.told P → IfSome a.told P
told_before a b P r h = subst (λ (o : Option Told). IfSome o P) (same_told a b r) h

-- what holds of an answer
pub ok_to : {T E : Type 0} (r : Result T E) (P Q : T → Type 0) → ((x : T) → P x → Q x) → IfOk r P → IfOk r Q
ok_to (Ok x) P Q f p = f x p
ok_to (Err e) P Q f p = tt

pub both_told : (o : Option Told) (P Q R : Told → Type 0) → ((t : Told) → P t → Q t → R t) → IfSome o P → IfSome o Q → IfSome o R
both_told None P Q R f p q = tt
both_told (Some t) P Q R f p q = f t p q

pub all_told : (o : Option Told) (P : Told → Type 0) → ((t : Told) → P t) → IfSome o P
all_told None P f = tt
all_told (Some t) P f = f t

pub three_told : (o : Option Told) (P Q S R : Told → Type 0) → ((t : Told) → P t → Q t → S t → R t) → IfSome o P → IfSome o Q → IfSome o S → IfSome o R
three_told None P Q S R f p q s = tt
three_told (Some t) P Q S R f p q s = f t p q s

size_of : {X Y : Type 0} (f : X → Y) (xs : List X) → length (map f xs) ≡ length xs
size_of f [] = refl
size_of f (x ∷ xs) = ap suc (size_of f xs)

-- A ROW MORE, and the last reading of rows
pub row_read : (w : World) (switch : List ℕ) (rows : List (ℕ × VlanId)) (row : ℕ × VlanId) (nth : ℕ) → length rows ≡ nth → IsFront IsBefore (IsEntry w switch) (map entry_of rows)
    → TellsRow w switch nth (Some row) → IsFront IsBefore (IsEntry w switch) (map entry_of (rows ++ row ∷ []))
row_read w switch rows row nth same front tells =
    let size : nth ≡ length (map entry_of rows) = omega (arith, same, size_of entry_of rows) in
    subst (λ (l : List (ℕ × ℕ)). IsFront IsBefore (IsEntry w switch) l) (sym (map-append entry_of rows (row ∷ [])))
    (one_more IsBefore entries (IsEntry w switch) (map entry_of rows) (entry_of row) front (subst (λ (n : ℕ). IsNth IsBefore (IsEntry w switch) n (Some (entry_of row))) size tells))

pub rows_end : (w : World) (switch : List ℕ) (rows : List (ℕ × VlanId)) (nth : ℕ) → length rows ≡ nth → IsFront IsBefore (IsEntry w switch) (map entry_of rows)
    → TellsRow w switch nth None → (e : ℕ × ℕ) → Has (map entry_of rows) e ↔ IsEntry w switch e
rows_end w switch rows nth same front tells =
    let size : nth ≡ length (map entry_of rows) = omega (arith, same, size_of entry_of rows) in
    λ e. (front.all_so e, none_left IsBefore entries (IsEntry w switch) (map entry_of rows) front (subst (λ (n : ℕ). IsNth IsBefore (IsEntry w switch) n None) size tells) e)

-- as many rows as a port and an id can make are all
pub rows_full : (w : World) (switch : List ℕ) (rows : List (ℕ × VlanId)) (nth : ℕ) → length rows ≡ nth → 4294967296 ≤ nth → IsFront IsBefore (IsEntry w switch) (map entry_of rows)
    → RowsFit w switch → (e : ℕ × ℕ) → Has (map entry_of rows) e ↔ IsEntry w switch e
rows_full w switch rows nth same many front fit =
    let size : 4294967296 ≤ length (map entry_of rows) = omega (arith, same, many, size_of entry_of rows) in
    λ e. (front.all_so e, λ s. all_entries (map entry_of rows) front.rising (λ x h. fit x (front.all_so x h)) size e (fit e s))

-- a pipe more, and the last reading of pipes
abbrev pub number_of : PipeRow → ℕ
number_of p = p.pipe

pub pipe_read : (row : NodeRow) (pipes : List PipeRow) (p : PipeRow) (nth : ℕ) → length pipes ≡ nth → IsFront ◌<◌ (HasPipe row) (map number_of pipes)
    → TellsPipe row nth (Some p) → IsFront ◌<◌ (HasPipe row) (map number_of (pipes ++ p ∷ []))
pipe_read row pipes p nth same front tells =
    let size : nth ≡ length (map number_of pipes) = omega (arith, same, size_of number_of pipes) in
    subst (λ (l : List ℕ). IsFront ◌<◌ (HasPipe row) l) (sym (map-append number_of pipes (p ∷ [])))
    (one_more ◌<◌ numbers (HasPipe row) (map number_of pipes) p.pipe front (subst (λ (n : ℕ). IsNth ◌<◌ (HasPipe row) n (Some p.pipe)) size tells.0))

pub each_more : (row : NodeRow) (pipes : List PipeRow) (p : PipeRow) (nth : ℕ) → ((q : PipeRow) → Has pipes q → row.pipes q.pipe ≡ Some (pipe_of q))
    → TellsPipe row nth (Some p) → (q : PipeRow) → Has (pipes ++ p ∷ []) q → row.pipes q.pipe ≡ Some (pipe_of q)
each_more row pipes p nth each tells q h = elim (Has-append pipes (p ∷ []) q h) [
  | inl g ↦ each q g
  | inr g ↦ elim g [ inl e ↦ subst (λ (v : PipeRow). row.pipes v.pipe ≡ Some (pipe_of v)) e tells.1 | inr none ↦ absurd none ]
]

pub pipes_end : (row : NodeRow) (pipes : List PipeRow) (nth : ℕ) → length pipes ≡ nth → IsFront ◌<◌ (HasPipe row) (map number_of pipes)
    → ((q : PipeRow) → Has pipes q → row.pipes q.pipe ≡ Some (pipe_of q)) → TellsPipe row nth None → ArePipes row pipes
pipes_end row pipes nth same front each tells =
    let size : nth ≡ length (map number_of pipes) = omega (arith, same, size_of number_of pipes) in
    record {
      numbers = record { rising = front.rising; exact = λ k. (front.all_so k, none_left ◌<◌ numbers (HasPipe row) (map number_of pipes) front (subst (λ (n : ℕ). IsNth ◌<◌ (HasPipe row) n None) size tells.0) k) };
      each = each;
    }

-- as many pipes as a number can count are all
pub pipes_full : (row : NodeRow) (pipes : List PipeRow) (nth : ℕ) → length pipes ≡ nth → 65536 ≤ nth → IsFront ◌<◌ (HasPipe row) (map number_of pipes)
    → ((q : PipeRow) → Has pipes q → row.pipes q.pipe ≡ Some (pipe_of q)) → PipesFit row → ArePipes row pipes
pipes_full row pipes nth same many front each fit =
    let size : 65536 ≤ length (map number_of pipes) = omega (arith, same, many, size_of number_of pipes) in
    record {
      numbers = record { rising = front.rising; exact = λ k. (front.all_so k, λ s. all_numbers 65536 (map number_of pipes) front.rising (λ x h. fit x (front.all_so x h)) size k (fit k s)) };
      each = each;
    }
