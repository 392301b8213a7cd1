-- The words that begin a command, and those after the simulator's word.
use Rattle.std.specs.Prelude.{ℕ, nat_eq, List, codes, Option, Some, None, if◌then◌else◌}
use Rattle.std.specs.List.{starts_with}
use Rattle.lab_base.specs.Names.{same_name}
use Rattle.ns_build.specs.declared.keywords.Keyword.{Keyword}
use Rattle.ns_build.specs.declared.keywords.Keyword.TheVariants as keywords
use Rattle.ns_build.specs.declared.keywords.Verb.{Verb}
use Rattle.ns_build.specs.declared.keywords.Verb.TheVariants as verbs

abbrev pub setting_of : List ℕ → Option Keyword
setting_of word =
    if same_name word (codes "tb-set-node-os") then Some keywords.NodeOs
    else (if same_name word (codes "tb-set-hardware") then Some keywords.Hardware
    else (if same_name word (codes "tb-set-ip") then Some keywords.NodeIp
    else (if same_name word (codes "tb-set-ip-link") then Some keywords.LinkIp
    else (if same_name word (codes "tb-set-ip-lan") then Some keywords.LanIp
    else (if same_name word (codes "tb-set-link-loss") then Some keywords.LinkLoss
    else (if same_name word (codes "tb-set-lan-loss") then Some keywords.LanLoss
    else (if same_name word (codes "tb-set-multiplexed") then Some keywords.Multiplexed
    else (if same_name word (codes "tb-fix-node") then Some keywords.FixNode
    else (if same_name word (codes "tb-make-soft-vtype") then Some keywords.SoftVtype
    else (if starts_with nat_eq word (codes "tb-") then Some keywords.OtherSetting else None))))))))))

abbrev pub keyword_of : List ℕ → Option Keyword
keyword_of word =
    if same_name word (codes "new") then Some keywords.New
    else (if same_name word (codes "source") then Some keywords.Source else setting_of word)

abbrev pub verb_of : List ℕ → Option Verb
verb_of word =
    if same_name word (codes "node") then Some verbs.MakeNode
    else (if same_name word (codes "duplex-link") then Some verbs.DuplexLink
    else (if same_name word (codes "make-lan") then Some verbs.MakeLan
    else (if same_name word (codes "rtproto") then Some verbs.RouteBy
    else (if same_name word (codes "at") then Some verbs.At
    else (if same_name word (codes "run") then Some verbs.Run else None)))))
