use Rattle.std.proofs.Common.{◌≡◌, ℕ, List, Option, Some, None, IfSome, sym, ap, ◌∙◌}
use Rattle.virt_topo.specs.Topos.{HasForm}
use Rattle.ns_words.specs.Objects.{named_of, object_name_of}
use Rattle.ns_words.proofs.NameLaws.{name_exact, has_form}
use Rattle.ns_words.proofs.names.object_name.Goals as goal

pub returns-clause-value : goal.returns-clause-value
unfolding object_name_of
returns-clause-value c = c.named.ensures ∙ ap (named_of c.args.variable.now) c.parted.ensures

pub returns-clause-exact : goal.returns-clause-exact
returns-clause-exact c name =
    ((λ h. (name_exact c.args.variable.now name).0 (sym (returns-clause-value c) ∙ h)), (λ q. returns-clause-value c ∙ (name_exact c.args.variable.now name).1 q))

form : (numbered variable : List ℕ) (r : Option (List ℕ)) → r ≡ object_name_of variable → IfSome r (λ name. HasForm numbered name)
form numbered variable None is = tt
form numbered variable (Some name) is = has_form numbered variable name ((name_exact variable name).0 (sym is))

pub returns-clause-asked : goal.returns-clause-asked
returns-clause-asked c numbered = form numbered c.args.variable.now c.named.result (returns-clause-value c)
