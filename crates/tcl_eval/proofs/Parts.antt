-- How parts and variables end, over opaque words.
use Rattle.std.proofs.Common.{◌≡◌, ℕ, ◌+◌, ◌<◌, ◌≤◌, List, [], ◌∷◌, ◌++◌, length, get_or, drop, suc, drop-cons, add-one, ◌∙◌, Some, None, Result, Ok, Err, IfOk, IfErr, sym, ap, subst}
use Rattle.std.specs.Prelude.{slice_range, Bool, true, if◌then◌else◌}
use Rattle.lab_base.specs.declared.fault.Kind.{Kind}
use Rattle.lab_base.specs.declared.fault.Kind.TheVariants as kinds
use Rattle.tcl_words.specs.declared.flaw.Broken.{Broken}
use Rattle.tcl_words.specs.declared.word.Part.{Part}
use Rattle.tcl_words.specs.declared.word.Part.TheVariants.{Plain, Escape, Variable, Script}
use Rattle.tcl_words.specs.declared.word.Reference.{Reference}
use Rattle.tcl_words.specs.Gives.{Finds}
use Rattle.tcl_words.specs.Words.{ReferenceOf}
use Rattle.tcl_eval.specs.declared.hosts.Called.{Called}
use Rattle.tcl_eval.specs.declared.halts.Halt.{Halt}
use Rattle.tcl_eval.specs.declared.halts.Halt.TheVariants.{Fault}
use Rattle.tcl_eval.specs.declared.machine.Machine.{Machine}
use Rattle.tcl_eval.specs.Jobs.{Job, Nested, Parts, Named, Value, ValueAt, fails, value_at}
use Rattle.tcl_eval.specs.Forms.{IsShort}
use Rattle.tcl_eval.specs.Settings.{indexed_name}
use Rattle.tcl_eval.specs.State.{State, state, read_of}
use Rattle.tcl_eval.specs.Halts.{broken_halt}
use Rattle.tcl_eval.specs.Evals as rules
use Rattle.tcl_eval.specs.Evals.{Evals}
use Rattle.tcl_eval.specs.Ends.{Gives}
use Rattle.tcl_eval.specs.Machines.{seen, Ended, Leads}
use Rattle.tcl_eval.proofs.Ended.{got, given, faulted, halted, found_out, given_out, short_out, by, leads_here, leads_on}

-- the next part
pub part_on : (ps : List Part) (i : ℕ) (d p : Part) → i < length ps → get_or ps i d ≡ p → drop i ps ≡ p ∷ drop (i + 1) ps
part_on ps i d p h is = rw (add-one i) (drop-cons ps i d h ∙ ap (λ (y : Part). y ∷ drop (suc i) ps) is)

module _ {O : Type 0} (calls : O → List (List ℕ) → Result Called Kind × O) (hears : O → List ℕ → List ℕ → Result (Unit {0}) Kind × O) where
  pub parts_start : (l : ℕ) (t v : List ℕ) (i : Bool) (s : State O) (ps : List Part) → v ≡ [] → Leads calls hears l (Parts t i ps v) s (Parts t i ps []) s
  parts_start l t v i s ps empty = rw empty (leads_here calls hears l (Parts t i ps []) s)

  pub plain_done : (l : ℕ) (t v more : List ℕ) (i : Bool) (s x : State O) (j : Job) (ps rest : List Part) (a b : ℕ) → ps ≡ Plain a b ∷ rest → more ≡ v ++ slice_range t a b
      → Leads calls hears l (Parts t i ps v) s j x → Leads calls hears l (Parts t i rest more) s j x
  plain_done l t v more i s x j ps rest a b is pushed on =
      leads_on calls hears l (Parts t i ps v) j (Parts t i rest more) s x s on (λ (r : Result _ Halt) (u : State O) (h : Evals calls hears l (Parts t i rest more) s r u).
      subst (λ (ps : List Part). Evals calls hears l (Parts t i ps v) s r u) (sym is) (rules.plain (subst (λ (y : List ℕ). Evals calls hears l (Parts t i rest y) s r u) pushed h)))

  pub escape_done : (l : ℕ) (t v more : List ℕ) (i : Bool) (s x : State O) (j : Job) (ps rest : List Part) (b : ℕ) → ps ≡ Escape b ∷ rest → more ≡ v ++ b ∷ []
      → Leads calls hears l (Parts t i ps v) s j x → Leads calls hears l (Parts t i rest more) s j x
  escape_done l t v more i s x j ps rest b is pushed on =
      leads_on calls hears l (Parts t i ps v) j (Parts t i rest more) s x s on (λ (r : Result _ Halt) (u : State O) (h : Evals calls hears l (Parts t i rest more) s r u).
      subst (λ (ps : List Part). Evals calls hears l (Parts t i ps v) s r u) (sym is) (rules.escape (subst (λ (y : List ℕ). Evals calls hears l (Parts t i rest y) s r u) pushed h)))

  pub variable_done : (l : ℕ) (t v more : List ℕ) (i : Bool) (s w x : State O) (j : Job) (ps rest : List Part) (a b : ℕ) (y : List ℕ × ℕ) → ps ≡ Variable a b ∷ rest → more ≡ v ++ y.0
      → Ended calls hears (λ (x : List ℕ × ℕ). ValueAt x.0 x.1) l (Named t a i) s w (Ok y) → Leads calls hears l (Parts t i ps v) s j x → Leads calls hears l (Parts t i rest more) w j x
  variable_done l t v more i s w x j ps rest a b y is pushed h on =
      leads_on calls hears l (Parts t i ps v) j (Parts t i rest more) s x w on (λ (r : Result _ Halt) (u : State O) (k : Evals calls hears l (Parts t i rest more) w r u).
      subst (λ (ps : List Part). Evals calls hears l (Parts t i ps v) s r u) (sym is)
      (rules.variable (got calls hears (λ (x : List ℕ × ℕ). ValueAt x.0 x.1) l (Named t a i) s w y h) (subst (λ (y : List ℕ). Evals calls hears l (Parts t i rest y) w r u) pushed k)))

  pub variable_halts : (l : ℕ) (t v : List ℕ) (i : Bool) (s w x : State O) (j : Job) (ps rest : List Part) (a b : ℕ) (e : Halt) → ps ≡ Variable a b ∷ rest
      → Ended calls hears (λ (x : List ℕ × ℕ). ValueAt x.0 x.1) l (Named t a i) s w (Err e) → Leads calls hears l (Parts t i ps v) s j x → Ended calls hears Value l j x w (Err e)
  variable_halts l t v i s w x j ps rest a b e is h on =
      halted calls hears (λ (x : List ℕ × ℕ). ValueAt x.0 x.1) Value l l (Named t a i) j s w x w e (λ (h : Halt) (out : Evals calls hears l (Named t a i) s (Err h) w).
      by calls hears l (Parts t i ps v) j s x (Err h) w on (subst (λ (ps : List Part). Evals calls hears l (Parts t i ps v) s (Err h) w) (sym is) (rules.variable_halts out))) h

  pub script_done : (l : ℕ) (t v more q : List ℕ) (i : Bool) (s w x : State O) (j : Job) (ps rest : List Part) (a b : ℕ) → ps ≡ Script a b ∷ rest → more ≡ v ++ q
      → Ended calls hears Value l (Nested (slice_range t a b)) s w (Ok q) → Leads calls hears l (Parts t i ps v) s j x → Leads calls hears l (Parts t i rest more) w j x
  script_done l t v more q i s w x j ps rest a b is pushed h on =
      leads_on calls hears l (Parts t i ps v) j (Parts t i rest more) s x w on (λ (r : Result _ Halt) (u : State O) (k : Evals calls hears l (Parts t i rest more) w r u).
      subst (λ (ps : List Part). Evals calls hears l (Parts t i ps v) s r u) (sym is)
      (rules.script (got calls hears Value l (Nested (slice_range t a b)) s w q h) (subst (λ (y : List ℕ). Evals calls hears l (Parts t i rest y) w r u) pushed k)))

  pub script_halts : (l : ℕ) (t v : List ℕ) (i : Bool) (s w x : State O) (j : Job) (ps rest : List Part) (a b : ℕ) (e : Halt) → ps ≡ Script a b ∷ rest
      → Ended calls hears Value l (Nested (slice_range t a b)) s w (Err e) → Leads calls hears l (Parts t i ps v) s j x → Ended calls hears Value l j x w (Err e)
  script_halts l t v i s w x j ps rest a b e is h on =
      halted calls hears Value Value l l (Nested (slice_range t a b)) j s w x w e (λ (h : Halt) (out : Evals calls hears l (Nested (slice_range t a b)) s (Err h) w).
      by calls hears l (Parts t i ps v) j s x (Err h) w on (subst (λ (ps : List Part). Evals calls hears l (Parts t i ps v) s (Err h) w) (sym is) (rules.script_halts out))) h

  pub parts_end : (l : ℕ) (t v : List ℕ) (i : Bool) (s x : State O) (j : Job) (ps : List Part) (y : Result (List ℕ) Halt) → ps ≡ []
      → Leads calls hears l (Parts t i ps v) s j x → IfOk y (λ short. (short ≡ v) × (length v ≤ 65536)) → IfErr y (λ halt. (halt ≡ Fault kinds.Long) × (65536 < length v))
      → Ended calls hears Value l j x s y
  parts_end l t v i s x j ps y is on ok err =
      short_out calls hears v l j x s y ok err
      (λ (small : IsShort v). by calls hears l (Parts t i ps v) j s x (Ok (Value v)) s on (subst (λ (ps : List Part). Evals calls hears l (Parts t i ps v) s (Ok (Value v)) s) (sym is) (rules.no_parts small)))
      (λ (long : 65536 < length v). by calls hears l (Parts t i ps v) j s x (fails kinds.Long) s on (subst (λ (ps : List Part). Evals calls hears l (Parts t i ps v) s (fails kinds.Long) s) (sym is) (rules.long_value long)))

  -- variables
  pub index_refused : (l : ℕ) (t : List ℕ) (at : ℕ) (i : Bool) (s : State O) (b : Broken) → Finds (ReferenceOf t at) (Err b)
      → Ended calls hears (λ (x : List ℕ × ℕ). ValueAt x.0 x.1) l (Named t at i) s s (Err (broken_halt b))
  index_refused l t at i s b h = found_out calls hears (ReferenceOf t at) (λ (x : List ℕ × ℕ). ValueAt x.0 x.1) l (Named t at i) s s b (λ f is. rules.index_refused is) h

  pub no_variable : (l : ℕ) (t : List ℕ) (at : ℕ) (i : Bool) (s : State O) → ReferenceOf t at (Ok None)
      → Ended calls hears (λ (x : List ℕ × ℕ). ValueAt x.0 x.1) l (Named t at i) s s (Err (Fault kinds.Syntax))
  no_variable l t at i s is = faulted calls hears (λ (x : List ℕ × ℕ). ValueAt x.0 x.1) l (Named t at i) s s kinds.Syntax (rules.no_variable is)

  pub named_ends : {H : Type 0} (objects : H → O) (m : Machine H) (l : ℕ) (t n v : List ℕ) (at : ℕ) (i : Bool) (f : Reference) → ReferenceOf t at (Ok (Some f)) → f.index ≡ None
      → n ≡ slice_range t f.name_start f.name_end → Ok v ≡ read_of (state m.variables.entries (objects m.host) m.left) n
      → Ended calls hears (λ (x : List ℕ × ℕ). ValueAt x.0 x.1) l (Named t at i) (seen objects m) (seen objects m) (Ok (v, f.end))
  unfolding seen
  named_ends objects m l t n v at i f is none name h =
      given calls hears (λ (x : List ℕ × ℕ). ValueAt x.0 x.1) l (Named t at i) (seen objects m) (seen objects m) (v, f.end)
      (subst (λ (r : Result (List ℕ) Kind). Evals calls hears l (Named t at i) (seen objects m) (value_at r f.end) (seen objects m)) (sym h)
      (subst (λ (n : List ℕ). Evals calls hears l (Named t at i) (seen objects m) (value_at (read_of (seen objects m) n) f.end) (seen objects m)) (sym name) (rules.named is none)))

  pub named_fails : {H : Type 0} (objects : H → O) (m : Machine H) (l : ℕ) (t n : List ℕ) (at : ℕ) (i : Bool) (f : Reference) (e : Halt) → ReferenceOf t at (Ok (Some f)) → f.index ≡ None
      → n ≡ slice_range t f.name_start f.name_end → Gives (λ (r : Result (List ℕ) Kind). r ≡ read_of (state m.variables.entries (objects m.host) m.left) n) (Err e)
      → Ended calls hears (λ (x : List ℕ × ℕ). ValueAt x.0 x.1) l (Named t at i) (seen objects m) (seen objects m) (Err e)
  unfolding seen
  named_fails objects m l t n at i f e is none name h =
      given_out calls hears (λ (r : Result (List ℕ) Kind). r ≡ read_of (state m.variables.entries (objects m.host) m.left) n) (λ (x : List ℕ × ℕ). ValueAt x.0 x.1) l (Named t at i) (seen objects m) (seen objects m) e
      (λ (k : Kind) (found : Err k ≡ read_of (state m.variables.entries (objects m.host) m.left) n).
      subst (λ (r : Result (List ℕ) Kind). Evals calls hears l (Named t at i) (seen objects m) (value_at r f.end) (seen objects m)) (sym found)
      (subst (λ (n : List ℕ). Evals calls hears l (Named t at i) (seen objects m) (value_at (read_of (seen objects m) n) f.end) (seen objects m)) (sym name) (rules.named is none))) h

  pub index_deep : (l : ℕ) (t : List ℕ) (at : ℕ) (i : Bool) (s : State O) (f : Reference) (ps : List Part) (e : Halt) → ReferenceOf t at (Ok (Some f)) → f.index ≡ Some ps
      → (e ≡ Fault kinds.Deep) × (l ≡ 0) × (i ≡ true) → Ended calls hears (λ (x : List ℕ × ℕ). ValueAt x.0 x.1) l (Named t at i) s s (Err e)
  index_deep l t at i s f ps e is some found =
      rw (found.0, found.2) (faulted calls hears (λ (x : List ℕ × ℕ). ValueAt x.0 x.1) l (Named t at true) s s kinds.Deep (rules.index_deep is some found.1))

  pub index_halts : (l k : ℕ) (t : List ℕ) (at : ℕ) (i : Bool) (s u : State O) (f : Reference) (ps : List Part) (e : Halt) → ReferenceOf t at (Ok (Some f)) → f.index ≡ Some ps
      → k + (if i then 1 else 0) ≡ l → Ended calls hears Value k (Parts t true ps []) s u (Err e) → Ended calls hears (λ (x : List ℕ × ℕ). ValueAt x.0 x.1) l (Named t at i) s u (Err e)
  index_halts l k t at i s u f ps e is some less h =
      halted calls hears Value (λ (x : List ℕ × ℕ). ValueAt x.0 x.1) k l (Parts t true ps []) (Named t at i) s u s u e (λ h out. rules.index_halts is some less out) h

  -- the name with its index
  pub index_long : (l k : ℕ) (t q n : List ℕ) (at : ℕ) (i : Bool) (s u : State O) (f : Reference) (ps : List Part) (e : Halt) → ReferenceOf t at (Ok (Some f)) → f.index ≡ Some ps
      → k + (if i then 1 else 0) ≡ l → Ended calls hears Value k (Parts t true ps []) s u (Ok q) → n ≡ indexed_name (slice_range t f.name_start f.name_end) q
      → (e ≡ Fault kinds.Long) × (65536 < length n) → Ended calls hears (λ (x : List ℕ × ℕ). ValueAt x.0 x.1) l (Named t at i) s u (Err e)
  index_long l k t q n at i s u f ps e is some less h name long =
      rw long.0 (faulted calls hears (λ (x : List ℕ × ℕ). ValueAt x.0 x.1) l (Named t at i) s u kinds.Long
      (rules.index_long is some less (got calls hears Value k (Parts t true ps []) s u q h) (subst (λ (n : List ℕ). 65536 < length n) name long.1)))

  pub indexed_ends : {H : Type 0} (objects : H → O) (m : Machine H) (l k : ℕ) (t q n v : List ℕ) (at : ℕ) (i : Bool) (s : State O) (f : Reference) (ps : List Part) → ReferenceOf t at (Ok (Some f)) → f.index ≡ Some ps
      → k + (if i then 1 else 0) ≡ l → Ended calls hears Value k (Parts t true ps []) s (seen objects m) (Ok q) → n ≡ indexed_name (slice_range t f.name_start f.name_end) q
      → length n ≤ 65536 → Ok v ≡ read_of (state m.variables.entries (objects m.host) m.left) n
      → Ended calls hears (λ (x : List ℕ × ℕ). ValueAt x.0 x.1) l (Named t at i) s (seen objects m) (Ok (v, f.end))
  unfolding seen
  indexed_ends objects m l k t q n v at i s f ps is some less h name short read =
      given calls hears (λ (x : List ℕ × ℕ). ValueAt x.0 x.1) l (Named t at i) s (seen objects m) (v, f.end)
      (subst (λ (r : Result (List ℕ) Kind). Evals calls hears l (Named t at i) s (value_at r f.end) (seen objects m)) (sym read)
      (subst (λ (n : List ℕ). Evals calls hears l (Named t at i) s (value_at (read_of (seen objects m) n) f.end) (seen objects m)) (sym name)
      (rules.indexed is some less (got calls hears Value k (Parts t true ps []) s (seen objects m) q h) (subst (λ (n : List ℕ). length n ≤ 65536) name short))))

  pub indexed_fails : {H : Type 0} (objects : H → O) (m : Machine H) (l k : ℕ) (t q n : List ℕ) (at : ℕ) (i : Bool) (s : State O) (f : Reference) (ps : List Part) (e : Halt) → ReferenceOf t at (Ok (Some f)) → f.index ≡ Some ps
      → k + (if i then 1 else 0) ≡ l → Ended calls hears Value k (Parts t true ps []) s (seen objects m) (Ok q) → n ≡ indexed_name (slice_range t f.name_start f.name_end) q
      → length n ≤ 65536 → Gives (λ (r : Result (List ℕ) Kind). r ≡ read_of (state m.variables.entries (objects m.host) m.left) n) (Err e)
      → Ended calls hears (λ (x : List ℕ × ℕ). ValueAt x.0 x.1) l (Named t at i) s (seen objects m) (Err e)
  unfolding seen
  indexed_fails objects m l k t q n at i s f ps e is some less h name short read =
      given_out calls hears (λ (r : Result (List ℕ) Kind). r ≡ read_of (state m.variables.entries (objects m.host) m.left) n) (λ (x : List ℕ × ℕ). ValueAt x.0 x.1) l (Named t at i) s (seen objects m) e
      (λ (kind : Kind) (found : Err kind ≡ read_of (state m.variables.entries (objects m.host) m.left) n).
      subst (λ (r : Result (List ℕ) Kind). Evals calls hears l (Named t at i) s (value_at r f.end) (seen objects m)) (sym found)
      (subst (λ (n : List ℕ). Evals calls hears l (Named t at i) s (value_at (read_of (seen objects m) n) f.end) (seen objects m)) (sym name)
      (rules.indexed is some less (got calls hears Value k (Parts t true ps []) s (seen objects m) q h) (subst (λ (n : List ℕ). length n ≤ 65536) name short)))) read
