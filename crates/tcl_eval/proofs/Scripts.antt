-- How scripts, commands and words end, over opaque words.
use Rattle.std.proofs.Common.{◌≡◌, ℕ, ◌+◌, ◌<◌, ◌≤◌, List, [], ◌∷◌, ◌++◌, length, get_or, drop, Result, Ok, Err, IfOk, IfErr, sym, subst}
use Rattle.std.specs.Prelude.{false}
use Rattle.lab_base.specs.declared.fault.Kind.{Kind}
use Rattle.lab_base.specs.declared.fault.Kind.TheVariants as kinds
use Rattle.lab_base.proofs.Lists.{item_at}
use Rattle.tcl_words.specs.declared.word.Command.{Command}
use Rattle.tcl_words.specs.declared.word.Word.{Word}
use Rattle.tcl_words.specs.Words.{CommandsOf}
use Rattle.tcl_eval.specs.declared.hosts.Called.{Called}
use Rattle.tcl_eval.specs.declared.halts.Halt.{Halt}
use Rattle.tcl_eval.specs.declared.halts.Halt.TheVariants.{Fault}
use Rattle.tcl_eval.specs.Jobs.{Job, Nested, Whole, Commands, One, Words, Parts, Call, Gain, Value, Texts}
use Rattle.tcl_eval.specs.State.{State, spent}
use Rattle.tcl_eval.specs.Evals as rules
use Rattle.tcl_eval.specs.Evals.{Evals}
use Rattle.tcl_eval.specs.Machines.{Ended, Leads}
use Rattle.tcl_eval.proofs.Ended.{got, given, faulted, halted, handed, levels_out, by, leads, leads_here, leads_on, short_out}

module _ {O : Type 0} (calls : O → List (List ℕ) → Result Called Kind × O) (hears : O → List ℕ → List ℕ → Result (Unit {0}) Kind × O) where
  -- a text: its commands one after another
  pub script_starts : (l : ℕ) (t v : List ℕ) (s : State O) (cs : List Command) → CommandsOf t 0 (Ok cs) → v ≡ []
      → Leads calls hears l (Commands t (drop 0 cs) v) s (Whole t) s
  script_starts l t v s cs of empty = rw empty (leads calls hears l (Commands t cs []) (Whole t) s s (λ r u h. rules.whole of h))

  pub command_halts : (l : ℕ) (t v : List ℕ) (s u x : State O) (j : Job) (cs : List Command) (i : ℕ) (c : Command) (e : Halt) → i < length cs → c ≡ get_or cs i c
      → Leads calls hears l (Commands t (drop i cs) v) s j x → Ended calls hears Value l (One t c) s u (Err e) → Ended calls hears Value l j x u (Err e)
  command_halts l t v s u x j cs i c e less is on h =
      halted calls hears Value Value l l (One t c) j s u x u e (λ (h : Halt) (out : Evals calls hears l (One t c) s (Err h) u). by calls hears l (Commands t (drop i cs) v) j s x (Err h) u on
      (subst (λ (rest : List Command). Evals calls hears l (Commands t rest v) s (Err h) u) (sym (item_at cs i c less is)) (rules.halts out))) h

  pub command_done : (l : ℕ) (t v q : List ℕ) (s u x : State O) (j : Job) (cs : List Command) (i : ℕ) (c : Command) → i < length cs → c ≡ get_or cs i c
      → Leads calls hears l (Commands t (drop i cs) v) s j x → Ended calls hears Value l (One t c) s u (Ok q) → Leads calls hears l (Commands t (drop (i + 1) cs) q) u j x
  command_done l t v q s u x j cs i c less is on h =
      leads_on calls hears l (Commands t (drop i cs) v) j (Commands t (drop (i + 1) cs) q) s x u on
      (λ (r : Result Gain Halt) (w : State O) (rest : Evals calls hears l (Commands t (drop (i + 1) cs) q) u r w).
      subst (λ (more : List Command). Evals calls hears l (Commands t more v) s r w) (sym (item_at cs i c less is)) (rules.next (got calls hears Value l (One t c) s u q h) rest))

  pub script_ends : (l : ℕ) (t v : List ℕ) (s x : State O) (j : Job) (cs : List Command) (i : ℕ) → drop i cs ≡ []
      → Leads calls hears l (Commands t (drop i cs) v) s j x → Ended calls hears Value l j x s (Ok v)
  script_ends l t v s x j cs i none on =
      given calls hears Value l j x s v (by calls hears l (Commands t (drop i cs) v) j s x (Ok (Value v)) s on
      (subst (λ (rest : List Command). Evals calls hears l (Commands t rest v) s (Ok (Value v)) s) (sym none) rules.ended))

  -- one level deeper
  pub nested_deep : (l : ℕ) (t : List ℕ) (s : State O) (e : Halt) → (e ≡ Fault kinds.Deep) × (l ≡ 0) → Ended calls hears Value l (Nested t) s s (Err e)
  nested_deep l t s e found = levels_out calls hears Value l (Nested t) s e (λ (none : l ≡ 0). rules.deep none) found

  pub nested_ends : (l k : ℕ) (t : List ℕ) (s u : State O) (y : Result (List ℕ) Halt) → k + 1 ≡ l → Ended calls hears Value k (Whole t) s u y → Ended calls hears Value l (Nested t) s u y
  nested_ends l k t s u y less h = handed calls hears Value k l (Whole t) (Nested t) s u s u y (λ r inner. rules.deeper less inner) h

  -- one command: it counts, then its words, then it is called
  pub many_ends : (l : ℕ) (t : List ℕ) (c : Command) (s : State O) → s.left ≡ 0 → Ended calls hears Value l (One t c) s s (Err (Fault kinds.Many))
  many_ends l t c s none = faulted calls hears Value l (One t c) s s kinds.Many (rules.many none)

  pub words_start : (l : ℕ) (t : List ℕ) (words : List Word) (vs : List (List ℕ)) (s u : State O) → vs ≡ [] → u ≡ s
      → Leads calls hears l (Words t (drop 0 words) vs) u (Words t words []) s
  words_start l t words vs s u empty same = rw (empty, same) (leads_here calls hears l (Words t words []) s)

  pub word_halts : (l : ℕ) (t : List ℕ) (s u x : State O) (c : Command) (vs : List (List ℕ)) (i : ℕ) (w : Word) (e : Halt) → 0 < x.left → i < length c.words → w ≡ get_or c.words i w
      → Leads calls hears l (Words t (drop i c.words) vs) s (Words t c.words []) (spent x) → Ended calls hears Value l (Parts t false w.parts []) s u (Err e)
      → Ended calls hears Value l (One t c) x u (Err e)
  word_halts l t s u x c vs i w e some less is on h =
      halted calls hears Value Value l l (Parts t false w.parts []) (One t c) s u x u e
      (λ (h : Halt) (out : Evals calls hears l (Parts t false w.parts []) s (Err h) u). rules.words_halt some (by calls hears l (Words t (drop i c.words) vs) (Words t c.words []) s (spent x) (Err h) u on
      (subst (λ (rest : List Word). Evals calls hears l (Words t rest vs) s (Err h) u) (sym (item_at c.words i w less is)) (rules.word_halts out)))) h

  pub word_done : (l : ℕ) (t : List ℕ) (s u x : State O) (words : List Word) (vs more : List (List ℕ)) (i : ℕ) (w : Word) (v : List ℕ) → i < length words → w ≡ get_or words i w
      → more ≡ vs ++ v ∷ [] → Leads calls hears l (Words t (drop i words) vs) s (Words t words []) x → Ended calls hears Value l (Parts t false w.parts []) s u (Ok v)
      → Leads calls hears l (Words t (drop (i + 1) words) more) u (Words t words []) x
  word_done l t s u x words vs more i w v less is pushed on h =
      rw pushed (leads_on calls hears l (Words t (drop i words) vs) (Words t words []) (Words t (drop (i + 1) words) (vs ++ v ∷ [])) s x u on
      (λ (r : Result Gain Halt) (y : State O) (rest : Evals calls hears l (Words t (drop (i + 1) words) (vs ++ v ∷ [])) u r y).
      subst (λ (more : List Word). Evals calls hears l (Words t more vs) s r y) (sym (item_at words i w less is)) (rules.word (got calls hears Value l (Parts t false w.parts []) s u v h) rest)))

  pub words_end : (l : ℕ) (t : List ℕ) (words : List Word) (vs : List (List ℕ)) (s x : State O) (i : ℕ) → drop i words ≡ []
      → Leads calls hears l (Words t (drop i words) vs) s (Words t words []) x → Evals calls hears l (Words t words []) x (Ok (Texts vs)) s
  words_end l t words vs s x i none on =
      by calls hears l (Words t (drop i words) vs) (Words t words []) s x (Ok (Texts vs)) s on
      (subst (λ (rest : List Word). Evals calls hears l (Words t rest vs) s (Ok (Texts vs)) s) (sym none) rules.no_words)

  pub call_halts : (l : ℕ) (t : List ℕ) (c : Command) (ws : List (List ℕ)) (s u x : State O) (e : Halt) → 0 < x.left
      → Evals calls hears l (Words t c.words []) (spent x) (Ok (Texts ws)) s → Ended calls hears Value l (Call ws) s u (Err e) → Ended calls hears Value l (One t c) x u (Err e)
  call_halts l t c ws s u x e some words h = halted calls hears Value Value l l (Call ws) (One t c) s u x u e (λ h out. rules.call_halts some words out) h

  pub command_ends : (l : ℕ) (t : List ℕ) (c : Command) (ws : List (List ℕ)) (s u x : State O) (v : List ℕ) (y : Result (List ℕ) Halt) → 0 < x.left
      → Evals calls hears l (Words t c.words []) (spent x) (Ok (Texts ws)) s → Ended calls hears Value l (Call ws) s u (Ok v)
      → IfOk y (λ short. (short ≡ v) × (length v ≤ 65536)) → IfErr y (λ halt. (halt ≡ Fault kinds.Long) × (65536 < length v))
      → Ended calls hears Value l (One t c) x u y
  command_ends l t c ws s u x v y some words h ok err =
      short_out calls hears v l (One t c) x u y ok err (rules.one some words (got calls hears Value l (Call ws) s u v h)) (rules.long_result some words (got calls hears Value l (Call ws) s u v h))
