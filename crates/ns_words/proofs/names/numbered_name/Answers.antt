use Rattle.std.proofs.Common.{◌≡◌, ℕ, List, ◌∷◌, ◌++◌, Option, Some, None, refl, sym, subst, ◌∙◌}
use Rattle.std.specs.Option.{IsSome}
use Rattle.virt_topo.specs.Topos.{IsAskedName, HasForm}
use Rattle.ns_words.specs.Objects.{numbered_prefix, numbered_name_of}
use Rattle.ns_words.specs.Seen.{named_if}
use Rattle.ns_words.proofs.NameLaws.{numbered_is, numbered_short}
use Rattle.ns_words.proofs.names.numbered_name.Goals as goal

is_some : (r : Option (List ℕ)) (name : List ℕ) → r ≡ Some name → IsSome r
is_some None name h = absurd cc
is_some (Some other) name h = refl

pub unwrap-requires : goal.unwrap-requires
unwrap-requires c =
    let digits = c.as_bytes.ensures.value ∙ c.format.ensures.text in
    let bytes = c.numbered_letter.ensures in
    is_some _ _ (c.joined.ensures ∙ (λ i. named_if (116 ∷ 98 ∷ 46 ∷ (bytes i ++ digits i))) ∙ numbered_is c.args.of c.args.k c.ranges.k.fits)

pub returns-clause-value : goal.returns-clause-value
returns-clause-value c =
    let digits = c.as_bytes.ensures.value ∙ c.format.ensures.text in
    let bytes = c.numbered_letter.ensures in
    let named : c.joined.result ≡ Some (numbered_name_of c.args.of c.args.k) =
    c.joined.ensures ∙ (λ i. named_if (116 ∷ 98 ∷ 46 ∷ (bytes i ++ digits i))) ∙ numbered_is c.args.of c.args.k c.ranges.k.fits in
    cc

pub returns-clause-asked : goal.returns-clause-asked
returns-clause-asked c =
    let form : HasForm (numbered_prefix c.args.of) (numbered_name_of c.args.of c.args.k) = record {
      short = numbered_short c.args.of c.args.k c.ranges.k.fits;
      asked = IsAskedName.numbered_one c.args.k (λ i. numbered_name_of c.args.of c.args.k);
    } in
    subst (HasForm (numbered_prefix c.args.of)) (sym (returns-clause-value c)) form
