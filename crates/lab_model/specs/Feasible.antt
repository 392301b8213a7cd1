-- Whether a mapping is feasible on what the others leave: the first rule that fails, with its first subject.
use Rattle.std.specs.Prelude.{◌≡◌, ◌<◌, ◌+◌, ℕ, zero, suc, Bool, true, false, List, [], ◌∷◌, length, Option, Some, None, if◌then◌else◌}
use Rattle.phys_lab.specs.declared.free.Free.{Free}
use Rattle.phys_lab.specs.Labs.{Lab}
use Rattle.virt_topo.specs.declared.violation.Broken.{Broken}
use Rattle.virt_topo.specs.declared.violation.Subject.{Subject}
use Rattle.virt_topo.specs.declared.wiring.Wiring.{Wiring}
use Rattle.virt_topo.specs.declared.mapping.Mapping.{Mapping}
use Rattle.lab_model.specs.Rules.{keeps_f1, keeps_f2, keeps_f3, keeps_f4, keeps_f5, keeps_f6, keeps_f7, keeps_f8}
use Rattle.virt_topo.specs.declared.violation.Broken.TheVariants as broken
use Rattle.virt_topo.specs.declared.violation.Subject.TheVariants as subjects

-- the first of that many numbers, from `from` on, that fails the test
abbrev pub first_bad : ℕ → ℕ → (ℕ → Bool) → Option ℕ
first_bad zero from test = None
first_bad (suc more) from test = if test from then first_bad more (from + 1) test else Some from

-- the first of the numbers below n that fails the test
abbrev pub first_below : ℕ → (ℕ → Bool) → Option ℕ
first_below n test = first_bad n 0 test

-- a rule that fails at a subject, else what later rules say
abbrev pub or_later : Option ℕ → (ℕ → Broken × Subject) → Option (Broken × Subject) → Option (Broken × Subject)
or_later None as_one later = later
or_later (Some n) as_one later = Some (as_one n)

-- the first rule that fails, with its first subject, where these are the tests of F1, F6 and F8
abbrev pub first_violation : Lab → Wiring → Mapping → (f1 f6 : ℕ → Bool) → (f8 : Bool) → Option (Broken × Subject)
first_violation lab w m f1 f6 f8 =
    or_later (first_below (length w.nodes) f1) (λ v. (broken.F1, subjects.Virt v))
    (or_later (first_below (length lab.nodes) (keeps_f2 lab w m)) (λ n. (broken.F2, subjects.Node (record { 0 = n })))
    (or_later (first_below (length w.nodes) (keeps_f3 lab w m)) (λ v. (broken.F3, subjects.Virt v))
    (or_later (first_below (length w.nodes) (keeps_f4 lab w m)) (λ v. (broken.F4, subjects.Virt v))
    (or_later (first_below (length m.plugs) (keeps_f5 lab w m)) (λ e. (broken.F5, subjects.End e))
    (or_later (first_below (length lab.trunks) f6) (λ t. (broken.F6, subjects.Trunk (record { 0 = t })))
    (or_later (first_below (length w.segments) (keeps_f7 lab w m)) (λ s. (broken.F7, subjects.Segment s))
    (if f8 then None else Some (broken.F8, subjects.Vlans))))))))

-- THE FIRST VIOLATION on what the others leave
abbrev pub violation : Lab → Free → Wiring → Mapping → Option (Broken × Subject)
violation lab free w m = first_violation lab w m (keeps_f1 free m) (keeps_f6 lab free w m) (keeps_f8 free w)

-- the mapping keeps all rules on what the others leave
abbrev pub IsFeasible : Lab → Free → Wiring → Mapping → Type 0
IsFeasible lab free w m = violation lab free w m ≡ None

-- all numbers below n pass the test
abbrev pub AllPass : ℕ → (ℕ → Bool) → Type 0
AllPass n test = (k : ℕ) → k < n → test k ≡ true

-- k is the first of them that fails it
pub record FirstFails (n : ℕ) (test : ℕ → Bool) (k : ℕ) : Type 0 where
  pub below : k < n
  pub fails : test k ≡ false
  pub before : AllPass k test

-- how many subjects a rule has, its test of one, and the subject of that number
abbrev pub count_of : Lab → Wiring → Mapping → Broken → ℕ
count_of lab w m broken.F1 = length w.nodes
count_of lab w m broken.F2 = length lab.nodes
count_of lab w m broken.F3 = length w.nodes
count_of lab w m broken.F4 = length w.nodes
count_of lab w m broken.F5 = length m.plugs
count_of lab w m broken.F6 = length lab.trunks
count_of lab w m broken.F7 = length w.segments
count_of lab w m broken.F8 = 1

abbrev pub test_of : Lab → Wiring → Mapping → (f1 f6 : ℕ → Bool) → (f8 : Bool) → Broken → ℕ → Bool
test_of lab w m f1 f6 f8 broken.F1 = f1
test_of lab w m f1 f6 f8 broken.F2 = keeps_f2 lab w m
test_of lab w m f1 f6 f8 broken.F3 = keeps_f3 lab w m
test_of lab w m f1 f6 f8 broken.F4 = keeps_f4 lab w m
test_of lab w m f1 f6 f8 broken.F5 = keeps_f5 lab w m
test_of lab w m f1 f6 f8 broken.F6 = f6
test_of lab w m f1 f6 f8 broken.F7 = keeps_f7 lab w m
test_of lab w m f1 f6 f8 broken.F8 = λ k. f8

abbrev pub subject_of : Broken → ℕ → Subject
subject_of broken.F1 v = subjects.Virt v
subject_of broken.F2 n = subjects.Node (record { 0 = n })
subject_of broken.F3 v = subjects.Virt v
subject_of broken.F4 v = subjects.Virt v
subject_of broken.F5 e = subjects.End e
subject_of broken.F6 t = subjects.Trunk (record { 0 = t })
subject_of broken.F7 s = subjects.Segment s
subject_of broken.F8 k = subjects.Vlans

-- all its subjects keep the rule
abbrev pub Kept : Lab → Wiring → Mapping → (f1 f6 : ℕ → Bool) → (f8 : Bool) → Broken → Type 0
Kept lab w m f1 f6 f8 rule = AllPass (count_of lab w m rule) (test_of lab w m f1 f6 f8 rule)

-- the rules before a rule
abbrev pub before : Broken → List Broken
before broken.F1 = []
before broken.F2 = broken.F1 ∷ []
before broken.F3 = broken.F1 ∷ broken.F2 ∷ []
before broken.F4 = broken.F1 ∷ broken.F2 ∷ broken.F3 ∷ []
before broken.F5 = broken.F1 ∷ broken.F2 ∷ broken.F3 ∷ broken.F4 ∷ []
before broken.F6 = broken.F1 ∷ broken.F2 ∷ broken.F3 ∷ broken.F4 ∷ broken.F5 ∷ []
before broken.F7 = broken.F1 ∷ broken.F2 ∷ broken.F3 ∷ broken.F4 ∷ broken.F5 ∷ broken.F6 ∷ []
before broken.F8 = broken.F1 ∷ broken.F2 ∷ broken.F3 ∷ broken.F4 ∷ broken.F5 ∷ broken.F6 ∷ broken.F7 ∷ []

-- these rules are kept
abbrev pub AreKept : Lab → Wiring → Mapping → (f1 f6 : ℕ → Bool) → (f8 : Bool) → List Broken → Type 0
AreKept lab w m f1 f6 f8 [] = Unit {0}
AreKept lab w m f1 f6 f8 (rule ∷ rules) = Kept lab w m f1 f6 f8 rule × AreKept lab w m f1 f6 f8 rules

-- THE SAME AS A RELATION: the rules before are kept, and this subject is the first that breaks this one
pub record BreaksFirst (lab : Lab) (w : Wiring) (m : Mapping) (f1 f6 : ℕ → Bool) (f8 : Bool) (rule : Broken) (subject : Subject) : Type 0 where
  pub earlier : AreKept lab w m f1 f6 f8 (before rule)
  pub number : ℕ
  pub is : subject ≡ subject_of rule number
  pub first : FirstFails (count_of lab w m rule) (test_of lab w m f1 f6 f8 rule) number
