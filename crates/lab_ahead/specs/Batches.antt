-- The grammar of a batch: what a line adds to what is read so far, or its fault, and the batch of a whole text.
use Rattle.std.specs.Prelude.{ℕ, ◌<◌, ◌≤◌, ◌==◌, nat_lt, List, [], ◌∷◌, ◌++◌, length, codes, Result, Ok, Err, if◌then◌else◌}
use Rattle.lab_base.specs.Lists.{Has}
use Rattle.lab_base.specs.Texts.{lines_of}
use Rattle.lab_base.specs.Parts.{name_of, number_from}
use Rattle.lab_base.specs.Kinds.{both_of}
use Rattle.lab_base.specs.declared.fault.Kind.{Kind}
use Rattle.lab_base.specs.declared.fault.Kind.TheVariants as kinds
use Rattle.lab_base.specs.declared.fault.TextFault.{TextFault}
use Rattle.lab_base.specs.Names.{same_name}
use Rattle.line_text.specs.Reading.{and_then, read_from}
use Rattle.line_text.specs.Fields.{field_at}
use Rattle.lab_ahead.specs.declared.batch.Batch.{Batch}
use Rattle.lab_ahead.specs.declared.batch.Promise.{Promise}
use Rattle.lab_ahead.specs.declared.batch.Run.{Run}

-- LINES, BY THEIR FIELDS AFTER THE KEYWORD

-- a type, how many nodes, from when on and until when
abbrev pub PromiseRead : Type 0
PromiseRead = Result (List ℕ × (ℕ × (ℕ × ℕ))) Kind

-- a promise begins before it ends
abbrev pub in_order : PromiseRead → Result Promise Kind
in_order (Ok (kind, (count, (from, to)))) = if nat_lt from to then Ok (record { kind = kind; count = count; from = from; to = to }) else Err kinds.Range
in_order (Err kind) = Err kind

-- `promise TYPE COUNT FROM TO`
abbrev pub promise_line : List (List ℕ) → Result Promise Kind
promise_line fields =
    if length fields == 4 then in_order (both_of (name_of (field_at fields 0)) (both_of (number_from 1 1024 (field_at fields 1)) (both_of (number_from 0 1000000000000 (field_at fields 2)) (number_from 0 1000000000000 (field_at fields 3)))))
    else Err kinds.Fields

abbrev pub run_of : Result (List ℕ × (ℕ × ℕ)) Kind → Result Run Kind
run_of (Ok (exp, (seed, length))) = Ok (record { exp = exp; seed = seed; length = length })
run_of (Err kind) = Err kind

-- `run EXPERIMENT SEED LENGTH`
abbrev pub run_line : List (List ℕ) → Result Run Kind
run_line fields =
    if length fields == 3 then run_of (both_of (name_of (field_at fields 0)) (both_of (number_from 0 18446744073709551615 (field_at fields 1)) (number_from 1 1000000000000 (field_at fields 2))))
    else Err kinds.Fields

-- WHAT A LINE ADDS

-- at most 64 promises
abbrev pub with_promise : Batch → Promise → Result Batch Kind
with_promise batch promise = if nat_lt (length batch.promises) 64 then Ok (record batch { promises = batch.promises ++ promise ∷ [] }) else Err kinds.Limit

-- at most 256 runs
abbrev pub with_run : Batch → Run → Result Batch Kind
with_run batch run = if nat_lt (length batch.runs) 256 then Ok (record batch { runs = batch.runs ++ run ∷ [] }) else Err kinds.Limit

-- a line by its keyword
abbrev pub added : Batch → List (List ℕ) → Result Batch Kind
added batch [] = Err kinds.Word
added batch (keyword ∷ fields) =
    if same_name keyword (codes "promise") then and_then (promise_line fields) (with_promise batch)
    else if same_name keyword (codes "run") then and_then (run_line fields) (with_run batch)
    else Err kinds.Word

abbrev pub start : Batch
start = record { promises = []; runs = [] }

-- the batch of a text, or the fault of its first line that has one
abbrev pub batch_of_text : List ℕ → Result Batch TextFault
batch_of_text text = read_from added 1 (Ok start) (lines_of text)

-- LIMITS

pub record IsPromise (promise : Promise) : Type 0 where
  pub some : 1 ≤ promise.count
  pub few : promise.count ≤ 1024
  pub order : promise.from < promise.to
  pub end : promise.to ≤ 1000000000000

pub record IsRun (run : Run) : Type 0 where
  pub some : 1 ≤ run.length
  pub short : run.length ≤ 1000000000000

-- a batch keeps the limits of its lines
pub record KeepsLimits (batch : Batch) : Type 0 where
  pub few_promises : length batch.promises ≤ 64
  pub few_runs : length batch.runs ≤ 256
  pub promises : (promise : Promise) → Has batch.promises promise → IsPromise promise
  pub runs : (run : Run) → Has batch.runs run → IsRun run
