use Rattle.std.proofs.Common.{◌≡◌, Option, Some}
use Rattle.ns_words.specs.Values.{bandwidth_of}
use Rattle.ns_words.proofs.Exact.{bandwidth_exact, delay_exact, loss_exact, time_exact}
use Rattle.ns_words.proofs.AddressLaws.{address_exact}
use Rattle.ns_words.proofs.NameLaws.{name_exact}
use Rattle.ns_words.proofs.laws.values_are_one.Goals as goal

one : {X : Type 0} (o : Option X) (x y : X) → o ≡ Some x → o ≡ Some y → x ≡ y
one o x y h g = cc

pub returns-clause-bandwidth : goal.returns-clause-bandwidth
returns-clause-bandwidth c word x y p q = one (bandwidth_of word) x y ((bandwidth_exact word x).1 p) ((bandwidth_exact word y).1 q)

pub returns-clause-delay : goal.returns-clause-delay
returns-clause-delay c word x y p q = one _ x y ((delay_exact word x).1 p) ((delay_exact word y).1 q)

pub returns-clause-loss : goal.returns-clause-loss
returns-clause-loss c word x y p q = one _ x y ((loss_exact word x).1 p) ((loss_exact word y).1 q)

pub returns-clause-time : goal.returns-clause-time
returns-clause-time c word x y p q = one _ x y ((time_exact word x).1 p) ((time_exact word y).1 q)

pub returns-clause-address : goal.returns-clause-address
returns-clause-address c word x y p q = one _ x y ((address_exact word x).1 p) ((address_exact word y).1 q)

pub returns-clause-name : goal.returns-clause-name
returns-clause-name c variable x y p q = one _ x y ((name_exact variable x).1 p) ((name_exact variable y).1 q)
