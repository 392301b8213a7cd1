-- A try on two maps that agree on what it reads.
use Rattle.std.proofs.Common.{◌≡◌, ◌<◌, ◌+◌, ◌∙◌, inl, inr, ℕ, List, length, Bool, Some, refl, arith}
use Rattle.lab_base.specs.declared.ids.IfaceId.{IfaceId}
use Rattle.phys_lab.specs.declared.free.Free.{Free}
use Rattle.phys_lab.specs.Labs.{Lab}
use Rattle.virt_topo.specs.declared.wiring.Wiring.{Wiring}
use Rattle.virt_topo.specs.declared.mapping.Mapping.{Mapping}
use Rattle.virt_topo.specs.Soundness.{IsSound}
use Rattle.lab_model.specs.Shapes.{Place}
use Rattle.cost_rule.specs.declared.rule.RuleNumber.{RuleNumber}
use Rattle.cost_rule.specs.Cost.{cost}
use Rattle.node_maps.specs.NodeMaps.{candidates, IsChoice, node_map}
use Rattle.node_maps.proofs.MapLaws.{mapped_is, choice_within}
use Rattle.node_maps.proofs.Shaped.{shaped}
use Rattle.node_maps.proofs.Assembled.{parts_of_map}
use Rattle.node_maps.proofs.MovedLaws.{shared_all}
use Rattle.map_anneal.specs.Sought.{sought}
use Rattle.map_anneal.specs.RuledOut.{KeepsButRoom, IsNoLess}
use Rattle.map_anneal.proofs.Shares.{OneTry}
use Rattle.map_anneal.proofs.Frames.{IsFrame, AreClassesAlike}
use Rattle.map_anneal.proofs.PlugFrames.{follows}
use Rattle.map_anneal.proofs.SegmentFrames.{one_try}
use Rattle.map_anneal.proofs.FeasibleFrames.{shares_on, joined_on}
use Rattle.map_anneal.proofs.PriceFrames.{AreFour, prices_add}
use Rattle.map_anneal.proofs.ClassFrames.{typed_frame}

-- a feasible node map
pub record IsMapOf (lab : Lab) (free : Free) (w : Wiring) (m : Mapping) : Type 0 where
  pub choice : IsChoice (candidates lab free w) m.places
  pub mapped : node_map lab free w m.places ≡ Some m

-- TWO MAPS, ONE TRY, with what the try reads
pub record Again (lab : Lab) (free : Free) (w : Wiring) (m x : Mapping) (tried others : List Place) (a b : ℕ) (touched : ℕ → Bool) : Type 0 where
  pub sound : IsSound w
  pub first : IsMapOf lab free w m
  pub second : IsMapOf lab free w x
  pub tried_choice : IsChoice (candidates lab free w) tried
  pub others_choice : IsChoice (candidates lab free w) others
  pub a_in : a < length lab.nodes
  pub b_in : b < length lab.nodes
  pub frame : IsFrame lab w m x tried others a b touched
  pub classes : AreClassesAlike w m x tried others

-- the map after the try on the first, where all rules but F6 hold of that on the second: they hold of it too, and the prices add
pub record Made (lab : Lab) (free : Free) (w : Wiring) (number : RuleNumber) (m x : Mapping) (tried others : List Place) (new : List IfaceId) : Type 0 where
  pub plugs : List IfaceId
  pub kept : KeepsButRoom lab free w tried plugs
  pub price : cost number lab w (record { places = tried; plugs = plugs }) + cost number lab w x ≡ cost number lab w (record { places = others; plugs = new }) + cost number lab w m

pub made : (number : RuleNumber) (lab : Lab) (free : Free) (w : Wiring) (m x : Mapping) (tried others : List Place) (a b : ℕ) (touched : ℕ → Bool) (new : List IfaceId)
    → Again lab free w m x tried others a b touched → KeepsButRoom lab free w others new → Made lab free w number m x tried others new
made number lab free w m x tried others a b touched new h y_parts =
    let y : Mapping = record { places = others; plugs = new } in
    let m_is = mapped_is lab free w m.places m h.first.mapped in
    let x_is = mapped_is lab free w x.places x h.second.mapped in
    let m_within = choice_within lab free w m.places h.first.choice in
    let x_within = choice_within lab free w x.places h.second.choice in
    let n_within = choice_within lab free w tried h.tried_choice in
    let y_within = choice_within lab free w others h.others_choice in
    let m_parts = parts_of_map lab free w m.places m h.first.mapped in
    let four : AreFour a b m.places tried x.places others = record { one = h.frame.one; two = h.frame.two; before = h.frame.before; after = h.frame.after } in
    let x_parts = parts_of_map lab free w x.places x h.second.mapped in
    let typed = typed_frame w a b m.places tried x.places others four n_within.placed m_parts.typed x_parts.typed y_parts.typed in
    let g = follows lab w m x tried others a b touched new h.sound m_within.placed m_is.given x_is.given h.frame y_parts.given in
    let n : Mapping = record { places = tried; plugs = g.plugs } in
    let m_shaped = shaped lab w m.places m.plugs h.sound m_within.placed m_within.are m_is.given in
    let x_shaped = shaped lab w x.places x.plugs h.sound x_within.placed x_within.are x_is.given in
    let n_shaped = shaped lab w tried g.plugs h.sound n_within.placed n_within.are g.given in
    let y_shaped = shaped lab w others new h.sound y_within.placed y_within.are y_parts.given in
    let one : OneTry lab w m n x y = one_try lab w m x n y a b touched h.frame g refl h.sound m_within.placed m_is.given x_is.given m_shaped.plugs x_shaped.plugs n_shaped.plugs y_shaped.plugs in
    record {
      plugs = g.plugs;
      kept = record {
        given = g.given;
        shared = shared_all lab w tried m.places a b h.frame.one m_parts.shared (record {
          first = shares_on lab w tried others a b a h.frame.after (inl refl) ∙ y_parts.shared a h.a_in;
          second = shares_on lab w tried others a b b h.frame.after (inr refl) ∙ y_parts.shared b h.b_in;
          typed = typed;
        });
        typed = typed;
        joined = joined_on lab w m n x y one m_parts.joined y_parts.joined;
        ids = m_parts.ids;
      };
      price = prices_add number lab w m n x y a b four
          n_within.placed m_within.are.in_nodes n_within.are.in_nodes x_within.are.in_nodes y_within.are.in_nodes one h.classes;
    }

-- THE FRAME LEMMA: where the try on the first map makes none that costs less, though F6 is not asked, nor does that on the second
pub no_less_again : (number : RuleNumber) (lab : Lab) (free : Free) (w : Wiring) (m x : Mapping) (tried others : List Place) (a b : ℕ) (touched : ℕ → Bool) → Again lab free w m x tried others a b touched
    → IsNoLess (sought lab free w number) (cost number lab w m) tried → IsNoLess (sought lab free w number) (cost number lab w x) others
no_less_again number lab free w m x tried others a b touched h least new kept =
    let so = made number lab free w m x tried others a b touched new h kept in
    let price = so.price in
    let le = least so.plugs so.kept in
    omega (arith, le, price)
