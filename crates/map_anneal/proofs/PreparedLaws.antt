-- The maps to be searched, by the prepared tables.
use Rattle.std.proofs.Common.{◌≡◌}
use Rattle.phys_lab.specs.Labs.{Lab}
use Rattle.phys_lab.specs.declared.free.Free.{Free}
use Rattle.virt_topo.specs.declared.wiring.Wiring.{Wiring}
use Rattle.cost_rule.specs.declared.rule.RuleNumber.{RuleNumber}
use Rattle.map_state.specs.declared.search.Search.{Search}
use Rattle.map_anneal.specs.Sought.{sought}
use Rattle.map_anneal.specs.Searches.{sought_of}

pub same_sought : (search : Search) (lab : Lab) (free : Free) (w : Wiring) (number : RuleNumber) → search.mapper.lab.now ≡ lab → search.mapper.free.now ≡ free → search.mapper.wiring.now ≡ w
    → sought_of search number ≡ sought lab free w number
same_sought search lab free w number is_lab is_free is_wiring = (λ j. sought (is_lab j) (is_free j) (is_wiring j) number)
