-- Reading and printing decide which texts are canonical.
use Rattle.std.proofs.Common.{◌≡◌, ℕ, true, false, ◌&&◌, List, [], ◌∷◌, Result, Ok, Err, sym, ap, ◌∙◌}
use Rattle.std.specs.List.{list_all}
use Rattle.std.specs.Str.{bytes_eq}
use Rattle.std.proofs.lemmas.Bool.{and_parts}
use Rattle.std.proofs.lemmas.Slice.Eq.{bytes_eq-Decides}
use Rattle.lab_base.specs.Names.{is_name}
use Rattle.lab_base.specs.declared.fault.TextFault.{TextFault}
use Rattle.lab_base.specs.declared.fault.TextRefused.{TextRefused}
use Rattle.lab_base.specs.declared.fault.TextRefused.TheVariants as refusals
use Rattle.line_text.specs.Refusals.{Reads}
use Rattle.line_text.specs.Refusals.{Reads as PtopReads}
use Rattle.virt_topo.specs.declared.wiring.VirtNode.{VirtNode}
use Rattle.virt_topo.specs.declared.wiring.Wiring.{Wiring}
use Rattle.top_text.specs.Printable.{is_printable, are_named, named_node}
use Rattle.top_text.proofs.TopAgain.{named_of}
use Rattle.lab_state.specs.Answers.{OnBad, fault_of}

module _ {X : Type 0} (read : List ℕ → Result X TextFault) (print : X → List ℕ) (P : X → Type 0) (again : (x : X) → P x → read (print x) ≡ Ok x) where
  -- a text that isn't read is that of no value
  pub unread : (text : List ℕ) (fault : TextFault) → read text ≡ Err fault → (x : X) → P x → text ≡ print x → ⊥
  unread text fault is x p same =
      let both : Ok x ≡ Err fault = sym (again x p) ∙ ap read (sym same) ∙ is in cc

  pub bad_text : (text : List ℕ) (refused : TextRefused) → Reads (Err refused) (read text) → OnBad {X = X} (Err (fault_of refused)) ((x : X) → P x → text ≡ print x → ⊥)
  bad_text text (refusals.Text fault) h = unread text fault h
  bad_text text refusals.Memory h = tt

  -- and one that is read but printed otherwise is that of no value
  pub misprinted : (text : List ℕ) (x : X) → read text ≡ Ok x → (print x ≡ text → ⊥) → (y : X) → P y → text ≡ print y → ⊥
  misprinted text x is other y p same =
      let both : Ok x ≡ Ok y = sym is ∙ ap read same ∙ again y p in
      let one : x ≡ y = cc in
      other (ap print one ∙ sym same)

-- a ptop text's reader answers as the others
pub ptop_refused : {X : Type 0} (refused : TextRefused) (read : Result X TextFault) → PtopReads (Err refused) read → Reads (Err refused) read
ptop_refused (refusals.Text fault) read h = h
ptop_refused refusals.Memory read h = h

-- bytes that aren't equal
pub unequal : (a b : List ℕ) → bytes_eq a b ≡ false → a ≡ b → ⊥
unequal a b no' same = let both : false ≡ true = sym no' ∙ (bytes_eq-Decides a b).1 same in cc both

-- the virtual nodes of a wiring that can be printed have names
names_of : (nodes : List VirtNode) → list_all named_node nodes ≡ true → are_named nodes ≡ true
names_of [] h = h
names_of (v ∷ nodes) h =
    let both = and_parts (named_node v) (list_all named_node nodes) h in
    let name = and_parts (is_name v.name) _ both.0 in
    (λ i. name.0 i && names_of nodes both.1 i)

pub are_named_of : (w : Wiring) → is_printable w ≡ true → are_named w.nodes ≡ true
are_named_of w h = names_of w.nodes (named_of w h).nodes
