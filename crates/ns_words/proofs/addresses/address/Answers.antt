use Rattle.std.proofs.Common.{◌≡◌, ℕ, ◌≤◌, ◌%◌, List, Option, Some, None, IfSome, sym, ◌∙◌}
use Rattle.ns_words.specs.Addresses.{address_of}
use Rattle.ns_words.proofs.AddressLaws.{address_exact, last_number}
use Rattle.ns_words.proofs.addresses.address.Goals as goal

pub returns-clause-exact : goal.returns-clause-exact
returns-clause-exact c address =
    ((λ h. (address_exact c.args.word.now address).0 (sym c.value_in.ensures ∙ h)), (λ w. c.value_in.ensures ∙ (address_exact c.args.word.now address).1 w))

limits : (word : List ℕ) (r : Option ℕ) → r ≡ address_of word → IfSome r (λ address. (1 ≤ address % 256) × (address % 256 ≤ 254))
limits word None is = tt
limits word (Some address) is = last_number word address ((address_exact word address).0 (sym is))

pub returns-clause-limits : goal.returns-clause-limits
returns-clause-limits c = limits c.args.word.now c.value_in.result c.value_in.ensures
