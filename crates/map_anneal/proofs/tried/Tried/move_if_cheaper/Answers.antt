use Rattle.std.proofs.Common.{◌≡◌, ◌∙◌, Option, Some, None, sym, refl}
use Rattle.std.proofs.lemmas.Bool.{false≢true}
use Rattle.virt_topo.specs.declared.mapping.Mapping.{Mapping}
use Rattle.map_anneal.proofs.tried.Tried.move_if_cheaper.Goals as goal

pub is_shut-requires-clause-tried : goal.is_shut-requires-clause-tried
is_shut-requires-clause-tried g c = c.requires.tried

never : (m : Mapping) → ◌≡◌ {A = Option Mapping} None (Some m) → ⊥
never m e = absurd (cc e)

pub returns-then-is_shut-clause-over : goal.returns-then-is_shut-clause-over
returns-then-is_shut-clause-over g c = λ is m found. absurd (never m (sym (c.is_shut.ensures.none c.if-is_shut.true) ∙ found))

pub returns-then-is_shut-clause-ruled_out : goal.returns-then-is_shut-clause-ruled_out
returns-then-is_shut-clause-ruled_out g c = λ is yes. c.is_shut.ensures.ruled_out c.if-is_shut.true c.args.below

pub returns-then-is_shut-clause-tried : goal.returns-then-is_shut-clause-tried
returns-then-is_shut-clause-tried g c = record { state = c.requires.tried.state; none = c.requires.tried.none; cost = c.requires.tried.cost; resting = c.requires.tried.resting }

pub returns-then-is_shut-clause-map : goal.returns-then-is_shut-clause-map
returns-then-is_shut-clause-map g c = λ is. absurd (false≢true is)

pub returns-then-is_shut-clause-below : goal.returns-then-is_shut-clause-below
returns-then-is_shut-clause-below g c = λ is. absurd (false≢true is)

pub returns-then-is_shut-clause-same : goal.returns-then-is_shut-clause-same
returns-then-is_shut-clause-same g c = λ is. refl

pub returns-then-is_shut-clause-same_cost : goal.returns-then-is_shut-clause-same_cost
returns-then-is_shut-clause-same_cost g c = λ is. refl

pub move_on_if_cheaper-requires-clause-tried : goal.move_on_if_cheaper-requires-clause-tried
move_on_if_cheaper-requires-clause-tried g c = c.requires.tried

pub returns-clause-tried : goal.returns-clause-tried
returns-clause-tried g c = c.in_ok-yes.ensures.tried

pub returns-clause-map : goal.returns-clause-map
returns-clause-map g c = c.in_ok-yes.ensures.map

pub returns-clause-over : goal.returns-clause-over
returns-clause-over g c = c.in_ok-yes.ensures.over

pub returns-clause-ruled_out : goal.returns-clause-ruled_out
returns-clause-ruled_out g c = c.in_ok-yes.ensures.ruled_out
