-- Kinds of faults.
use Rattle.std.specs.Prelude.{ℕ, List, Result, Ok, Err, nat_lt, if◌then◌else◌, codes}
use Rattle.lab_base.specs.declared.fault.Kind.{Kind}
use Rattle.lab_base.specs.declared.fault.Kind.TheVariants as kinds

-- the order in which the faults of a line are tried
abbrev pub rank : Kind → ℕ
rank kinds.Word = 0
rank kinds.Fields = 1
rank kinds.Name = 2
rank kinds.Number = 3
rank kinds.Range = 4
rank kinds.Twice = 5
rank kinds.Unknown = 6
rank kinds.Ends = 7
rank kinds.Port = 8
rank kinds.Cycle = 9
rank kinds.Same = 10
rank kinds.Pipe = 11
rank kinds.Limit = 12
rank kind = 13

abbrev pub earlier : Kind → Kind → Kind
earlier one other = if nat_lt (rank other) (rank one) then other else one

-- two parts of a line: of two faults the one that is tried first counts
abbrev pub both_of : {A B : Type 0} → Result A Kind → Result B Kind → Result (A × B) Kind
both_of (Ok a) (Ok b) = Ok (a, b)
both_of (Ok a) (Err kind) = Err kind
both_of (Err kind) (Ok b) = Err kind
both_of (Err one) (Err other) = Err (earlier one other)

-- the word of a reply
abbrev pub word_of : Kind → List ℕ
word_of kinds.Word = codes "word"
word_of kinds.Fields = codes "fields"
word_of kinds.Name = codes "name"
word_of kinds.Number = codes "number"
word_of kinds.Range = codes "range"
word_of kinds.Twice = codes "twice"
word_of kinds.Unknown = codes "unknown"
word_of kinds.Ends = codes "ends"
word_of kinds.Port = codes "port"
word_of kinds.Cycle = codes "cycle"
word_of kinds.Same = codes "same"
word_of kinds.Pipe = codes "pipe"
word_of kinds.Limit = codes "limit"
word_of kinds.Empty = codes "empty"
word_of kinds.Missing = codes "missing"
word_of kinds.Quote = codes "quote"
word_of kinds.Brace = codes "brace"
word_of kinds.Bracket = codes "bracket"
word_of kinds.AfterQuote = codes "after-quote"
word_of kinds.AfterBrace = codes "after-brace"
word_of kinds.Escape = codes "escape"
word_of kinds.Variable = codes "variable"
word_of kinds.Command = codes "command"
word_of kinds.Arity = codes "arity"
word_of kinds.Zero = codes "zero"
word_of kinds.Overflow = codes "overflow"
word_of kinds.Syntax = codes "syntax"
word_of kinds.List = codes "list"
word_of kinds.Many = codes "many"
word_of kinds.Deep = codes "deep"
word_of kinds.Long = codes "long"
word_of kinds.Unsupported = codes "unsupported"
word_of kinds.Node = codes "node"
word_of kinds.Link = codes "link"
word_of kinds.Bandwidth = codes "bandwidth"
word_of kinds.Delay = codes "delay"
word_of kinds.Loss = codes "loss"
word_of kinds.Time = codes "time"
word_of kinds.Event = codes "event"
word_of kinds.Ip = codes "ip"
word_of kinds.NotRun = codes "not-run"
word_of kinds.Address = codes "address"
word_of kinds.Subnet = codes "subnet"
word_of kinds.Shape = codes "shape"
