-- The claims of the experiments after one of them comes, goes or claims something else.
use Rattle.std.specs.Str.{bytes_eq}
use Rattle.std.proofs.Common.{◌≡◌, ◌≢◌, ◌⊎◌, inl, inr, ℕ, ◌+◌, ◌<◌, ◌≤◌, Bool, true, false, if◌then◌else◌, Some, None, List, [], ◌∷◌, ◌++◌, length, map, refl, sym, ap, ◌∙◌, subst, arith}
use Rattle.std.proofs.lemmas.List.{length-append}
use Rattle.std.proofs.lemmas.Slice.Eq.{bytes_eq-Decides}
use Rattle.lab_base.specs.Lists.{Has, Apart, AllDiffer}
use Rattle.lab_base.proofs.Members.{Has-append, Has-left, Has-right, Has-either}
use Rattle.lab_base.proofs.Bytes.{bytes_other}
use Rattle.phys_lab.specs.Labs.{Lab}
use Rattle.virt_topo.specs.declared.experiment.Experiment.{Experiment}
use Rattle.virt_topo.specs.declared.experiment.Phase.{Phase}
use Rattle.virt_topo.specs.declared.experiment.Phase.TheVariants.{Out, In, Moving}
use Rattle.virt_topo.specs.declared.mapping.Mapped.{Mapped}
use Rattle.lab_model.specs.Claims.{Old, New, claimed, claimed_in}
use Rattle.lab_model.proofs.ListLaws.{apart_add}
use Rattle.lab_model.proofs.Records.{apart_mid, Has_mid, Has_other}
use Rattle.claims.specs.declared.claim.Claim.{Claim}
use Rattle.claims.specs.declared.claim.Entry.{Entry}
use Rattle.claims.specs.Adding.{with_claim, without, side_of, narrowed, narrowed_to, narrowed_side}
use Rattle.claims.specs.Held.{Held, claim_named, others}
use Rattle.claims.specs.Holds.{hold_in, claim_of}
use Rattle.claims.specs.Experiments.{standing, standing_in, ClaimsOf}
use Rattle.claims.proofs.Entries.{others_all, apart_pushed}
use Rattle.claims.proofs.Matching.{Differs, Match, match_rest, none_known}
use Rattle.claims.proofs.OthersLeave.{matching}

-- ---- claims by name
-- a claim that is there is found by its name
pub listed : (fs : List Entry) (f : Entry) → Apart Differs fs → Has fs f → claim_named f.exp fs ≡ Some f.claim
listed [] f apart h = absurd h
listed (g ∷ fs) f apart (inl same) =
    ap (λ b. if b then Some g.claim else claim_named f.exp fs) ((bytes_eq-Decides g.exp f.exp).1 (ap (λ (x : Entry). x.exp) same)) ∙ ap (λ (x : Entry). Some x.claim) same
listed (g ∷ fs) f apart (inr h) = ap (λ b. if b then Some g.claim else claim_named f.exp fs) (bytes_other g.exp f.exp (apart.0 f h)) ∙ listed fs f apart.1 h

unnamed : (name : List ℕ) (fs : List Entry) → ((f : Entry) → Has fs f → f.exp ≢ name) → claim_named name fs ≡ None
unnamed name [] none = refl
unnamed name (f ∷ fs) none = ap (λ b. if b then Some f.claim else claim_named name fs) (bytes_other f.exp name (none f (inl refl))) ∙ unnamed name fs (λ g h. none g (inr h))

-- a claim at the end is found by its name, and changes no other's
own_pushed : (name : List ℕ) (fs : List Entry) (g : Entry) → g.exp ≡ name → ((f : Entry) → Has fs f → f.exp ≢ name) → claim_named name (fs ++ g ∷ []) ≡ Some g.claim
own_pushed name [] g same none = ap (λ b. if b then Some g.claim else None) ((bytes_eq-Decides g.exp name).1 same)
own_pushed name (f ∷ fs) g same none = ap (λ b. if b then Some f.claim else claim_named name (fs ++ g ∷ [])) (bytes_other f.exp name (none f (inl refl))) ∙ own_pushed name fs g same (λ h x. none h (inr x))

other_pushed : (name : List ℕ) (fs : List Entry) (g : Entry) → g.exp ≢ name → claim_named name (fs ++ g ∷ []) ≡ claim_named name fs
other_pushed name [] g apart = ap (λ b. if b then Some g.claim else None) (bytes_other g.exp name apart)
other_pushed name (f ∷ fs) g apart = ap (λ o. if bytes_eq f.exp name then Some f.claim else o) (other_pushed name fs g apart)

-- ---- the claim that stands for an experiment
pub stands : (lab : Lab) (e : Experiment) → e.phase ≢ Out → standing lab e ≡ Some (claim_of lab e)
stands lab e not_out = by e.phase refl
  where
    by : (p : Phase) → e.phase ≡ p → standing_in lab e p ≡ Some (claim_of lab e)
    by Out is = absurd (not_out is)
    by (In mapping tags) is = refl
    by (Moving old new) is = refl

pub is_claim : (lab : Lab) (e : Experiment) (c : Claim) → standing lab e ≡ Some c → claim_of lab e ≡ c
is_claim lab e c = by e.phase
  where
    inside : (d : Claim) → Some d ≡ Some c → d ≡ c
    inside d is = cc is

    by : (p : Phase) → standing_in lab e p ≡ Some c → claim_of lab e ≡ c
    by Out is = absurd (cc is)
    by (In mapping tags) is = inside (claim_of lab e) is
    by (Moving old new) is = inside (claim_of lab e) is

-- ---- an experiment more, at its place
abbrev pub NamesDiffer : Experiment → Experiment → Type 0
NamesDiffer d e = d.name ≢ e.name

-- none of these has its name
abbrev pub IsNew : List Experiment → List Experiment → Experiment → Type 0
IsNew a b e = (d : Experiment) → Has a d ⊎ Has b d → d.name ≢ e.name

no_entry : (lab : Lab) (fs : List Entry) (a b : List Experiment) (e : Experiment) → Match lab fs (a ++ b) → IsNew a b e → (f : Entry) → Has fs f → f.exp ≢ e.name
no_entry lab fs a b e m new f h same = let k = m.known f h in new k.0 (Has-append a b k.0 k.1) (k.2 ∙ same)

with_out : (lab : Lab) (fs : List Entry) (a b : List Experiment) (e : Experiment) → Match lab fs (a ++ b) → IsNew a b e → e.phase ≡ Out → Match lab fs (a ++ e ∷ b)
with_out lab fs a b e m new out = record {
  once = m.once;
  known = λ f h. let k = m.known f h in (k.0, Has_other a b e k.0 (Has-append a b k.0 k.1), k.2);
  claims = λ d h. elim (Has_mid a b e d h) [
    | inl same ↦ subst (λ (x : Experiment). claim_named x.name fs ≡ standing lab x) same (unnamed e.name fs (no_entry lab fs a b e m new) ∙ sym (ap (λ p. standing_in lab e p) out))
    | inr other ↦ m.claims d (Has-either a b d other)
  ];
  names = apart_add NamesDiffer a b e m.names (λ d h. new d (inl h)) (λ d h same. new d (inr h) (sym same));
}

with_one : (lab : Lab) (fs : List Entry) (a b : List Experiment) (e : Experiment) (f : Entry) → Match lab fs (a ++ b) → IsNew a b e → f.exp ≡ e.name → standing lab e ≡ Some f.claim → Match lab (fs ++ f ∷ []) (a ++ e ∷ b)
with_one lab fs a b e f m new name is = record {
  once = apart_pushed Differs fs f m.once (λ g h same. no_entry lab fs a b e m new g h (same ∙ name));
  known = λ g h. elim (Has-append fs (f ∷ []) g h) [
    | inl x ↦ let k = m.known g x in (k.0, Has_other a b e k.0 (Has-append a b k.0 k.1), k.2)
    | inr x ↦ elim x [ inl same ↦ (e, Has-right a (e ∷ b) e (inl refl), sym name ∙ ap (λ (y : Entry). y.exp) same) | inr none ↦ absurd none ]
  ];
  claims = λ d h. elim (Has_mid a b e d h) [
    | inl same ↦ subst (λ (x : Experiment). claim_named x.name (fs ++ f ∷ []) ≡ standing lab x) same (own_pushed e.name fs f name (no_entry lab fs a b e m new) ∙ sym is)
    | inr other ↦ other_pushed d.name fs f (λ same. new d other (sym same ∙ name)) ∙ m.claims d (Has-either a b d other)
  ];
  names = apart_add NamesDiffer a b e m.names (λ d h. new d (inl h)) (λ d h same. new d (inr h) (sym same));
}

-- ---- claims are at most as many as experiments
shorter : (exp : List ℕ) (fs : List Entry) → length fs ≤ length (others exp fs) + 1
shorter exp [] = omega arith
shorter exp (f ∷ fs) = by (bytes_eq f.exp exp) (shorter exp fs)
  where
    by : (b : Bool) → length fs ≤ length (others exp fs) + 1 → length (f ∷ fs) ≤ length (if b then fs else f ∷ others exp fs) + 1
    by true h = omega arith
    by false h = omega (arith, h)

fewer : (lab : Lab) (fs : List Entry) (es : List Experiment) → Match lab fs es → length fs ≤ length es
fewer lab fs [] m = let none : length fs ≡ 0 = ap length (none_known lab fs m) in omega (arith, none)
fewer lab fs (e ∷ es) m = omega (arith, shorter e.name fs, fewer lab (others e.name fs) es (match_rest lab fs [] es e m))

-- ---- ONE EXPERIMENT MORE, WHICH IS OUT
pub made_claims : (lab : Lab) (es : List Experiment) (e : Experiment) (held : Held) → ClaimsOf lab es held → e.phase ≡ Out → ((d : Experiment) → Has es d → d.name ≢ e.name) → ClaimsOf lab (es ++ e ∷ []) held
made_claims lab es e held of_es out new = record {
  range = of_es.range;
  nodes = of_es.nodes;
  kbps = of_es.kbps;
  once = of_es.once;
  known = λ f h. let k = of_es.known f h in (k.0, Has-left es (e ∷ []) k.0 k.1, k.2);
  claims = λ d h. elim (Has-append es (e ∷ []) d h) [
    | inl x ↦ of_es.claims d x
    | inr x ↦ elim x [ inl same ↦ subst (λ (y : Experiment). claim_named y.name held.entries ≡ standing lab y) same here | inr none ↦ absurd none ]
  ];
}
  where
    here : claim_named e.name held.entries ≡ standing lab e
    here = unnamed e.name held.entries (λ f h same. let k = of_es.known f h in new k.0 k.1 (k.2 ∙ same)) ∙ sym (ap (λ p. standing_in lab e p) out)

-- ---- ONE EXPERIMENT IN THE PLACE OF ANOTHER
module _ (lab : Lab) (a b : List Experiment) (e : Experiment) (held : Held) (names : AllDiffer (map (λ e. e.name) (a ++ e ∷ b))) (of_es : ClaimsOf lab (a ++ e ∷ b) held) where
  all : Match lab held.entries (a ++ e ∷ b)
  all = matching lab a b e held of_es names

  rest : Match lab (others e.name held.entries) (a ++ b)
  rest = match_rest lab held.entries a b e all

  is_new : (f : Experiment) → f.name ≡ e.name → IsNew a b f
  is_new f name d h same = elim (apart_mid NamesDiffer a b e d all.names h) [ inl p ↦ p (sym (same ∙ name)) | inr p ↦ p (same ∙ name) ]

  own : claim_named e.name held.entries ≡ standing lab e
  own = of_es.claims e (Has-right a (e ∷ b) e (inl refl))

  pub gone_claims : e.phase ≡ Out → ClaimsOf lab (a ++ b) held
  gone_claims out =
      let same : others e.name held.entries ≡ held.entries = others_all e.name held.entries (own ∙ ap (λ p. standing_in lab e p) out) in
      let m = subst (λ fs. Match lab fs (a ++ b)) same rest in
      record { range = of_es.range; nodes = of_es.nodes; kbps = of_es.kbps; once = m.once; known = m.known; claims = m.claims }

  pub put_claims : (f : Experiment) (c : Claim) → f.name ≡ e.name → standing lab f ≡ Some c → ClaimsOf lab (a ++ f ∷ b) (with_claim e.name c held)
  put_claims f c name is =
      let m = with_one lab (others e.name held.entries) a b f (record { exp = e.name; claim = c }) rest (is_new f name) (sym name) is in
      record { range = of_es.range; nodes = of_es.nodes; kbps = of_es.kbps; once = m.once; known = m.known; claims = m.claims }

  pub dropped_claims : (f : Experiment) → f.name ≡ e.name → f.phase ≡ Out → ClaimsOf lab (a ++ f ∷ b) (without e.name held)
  dropped_claims f name out =
      let m = with_out lab (others e.name held.entries) a b f rest (is_new f name) out in
      record { range = of_es.range; nodes = of_es.nodes; kbps = of_es.kbps; once = m.once; known = m.known; claims = m.claims }

  pub narrowed_claims : (f : Experiment) (m : Mapped) (keep_new : Bool) → e.phase ≢ Out → side_of keep_new (claim_of lab e) ≡ record { old = None; new = hold_in lab (Some m) } → f.name ≡ e.name → f.wiring ≡ m.wiring → f.phase ≡ In m.mapping m.tags
      → ClaimsOf lab (a ++ f ∷ b) (narrowed e.name keep_new held)
  narrowed_claims f m keep_new not_out side name wiring phase =
      let old : claimed f Old ≡ None = ap (λ p. claimed_in f.wiring p Old) phase in
      let new : claimed f New ≡ Some m = ap (λ p. claimed_in f.wiring p New) phase ∙ ap (λ w. Some (let n : Mapped = record { wiring = w; mapping = m.mapping; tags = m.tags } in n)) wiring in
      let of_f : claim_of lab f ≡ record { old = None; new = hold_in lab (Some m) } = (λ i. let c : Claim = record { old = hold_in lab (old i); new = hold_in lab (new i) } in c) in
      let f_out : f.phase ≢ Out = λ out. is_in m (sym phase ∙ out) in
      let is : claim_named e.name held.entries ≡ Some (claim_of lab e) = own ∙ stands lab e not_out in
      subst (λ h. ClaimsOf lab (a ++ f ∷ b) h) (sym (ap (λ o. narrowed_to (narrowed_side keep_new o) e.name held) is))
      (put_claims f (side_of keep_new (claim_of lab e)) name (stands lab f f_out ∙ ap Some (of_f ∙ sym side)))
    where
      is_in : (m : Mapped) → In m.mapping m.tags ≢ Out
      is_in m same = cc same

  pub few_claims : length (others e.name held.entries) < length (a ++ e ∷ b)
  few_claims = omega (arith, fewer lab (others e.name held.entries) (a ++ b) rest, length-append a b, length-append a (e ∷ b))
