use Rattle.std.proofs.Common.{[], None}
use Rattle.cost_rule.specs.declared.rule.RuleNumber.TheVariants.{Trunk}
use Rattle.lab_core.specs.Sessions.{terms_of}
use Rattle.lab_words.specs.Places.{seen_of}
use Rattle.lab_words.specs.Words.{choices_of}
use Rattle.lab_top.proofs.Headline.{stays_cabled, stays_holding, stays_isolated, stays_sound}
use Rattle.lab_top.proofs.Pieces.{ran_bad, never_bad}
use Rattle.lab_top.proofs.Wording.{by_words, refused_so, unbegun}
use Rattle.lab_top.proofs.top.labctl.Goals as goal

pub returns-in-Ok-clause-run : goal.returns-in-Ok-clause-run
returns-in-Ok-clause-run g c = let r = c.run_under.ensures.ran in (r.0, by_words g.P.Plant.takes_drills (seen_of c.in-Ok.chosen) (choices_of c.args.words.now) _ _ _ r.0 c.in-Ok.ensures r.1)

pub returns-in-Ok-clause-sound : goal.returns-in-Ok-clause-sound
returns-in-Ok-clause-sound g c = let r = c.run_under.ensures.ran in stays_sound _ _ _ _ _ r.0 r.1

pub returns-in-Ok-clause-isolated : goal.returns-in-Ok-clause-isolated
returns-in-Ok-clause-isolated g c = let r = c.run_under.ensures.ran in stays_isolated _ _ _ _ _ r.0 r.1

pub returns-in-Ok-clause-holding : goal.returns-in-Ok-clause-holding
returns-in-Ok-clause-holding g c = let r = c.run_under.ensures.ran in stays_holding _ _ _ _ _ r.0 r.1

pub returns-in-Ok-clause-cabled : goal.returns-in-Ok-clause-cabled
returns-in-Ok-clause-cabled g c = let r = c.run_under.ensures.ran in stays_cabled _ _ _ _ _ r.0 r.1

pub returns-in-Ok-clause-bad : goal.returns-in-Ok-clause-bad
returns-in-Ok-clause-bad g c side at is = let r = rw is at c.run_under.ensures.ran in ran_bad _ _ _ _ side at r.0 r.1

pub returns-in-Ok-clause-never_bad : goal.returns-in-Ok-clause-never_bad
returns-in-Ok-clause-never_bad g c side at is = let r = rw is at c.run_under.ensures.ran in never_bad _ _ _ _ side at r.0 r.1 (g.met.P.Plant.reads_possible c.run_under.new.plant)

pub returns-in-Err-Usage-clause-run : goal.returns-in-Err-Usage-clause-run
returns-in-Err-Usage-clause-run g c = ([], refused_so _ (choices_of c.args.words.now) _ (rw c.in-Err-Usage.field-0-is at c.in-Err-Usage.ensures))

pub returns-in-Err-Memory-clause-run : goal.returns-in-Err-Memory-clause-run
returns-in-Err-Memory-clause-run g c = ([], unbegun _ (choices_of c.args.words.now) _)

pub returns-in-Err-Usage-clause-isolated : goal.returns-in-Err-Usage-clause-isolated
returns-in-Err-Usage-clause-isolated g c = stays_isolated _ _ _ _ _ [] (unbegun (terms_of g.P.Plant.takes_drills Trunk) None (record { left = g.S.Source.left c.args.source.now; plant = g.P.Plant.seen c.args.plant.now; written = g.K.Sink.written c.args.sink.now }))

pub returns-in-Err-Usage-clause-holding : goal.returns-in-Err-Usage-clause-holding
returns-in-Err-Usage-clause-holding g c = stays_holding _ _ _ _ _ [] (unbegun (terms_of g.P.Plant.takes_drills Trunk) None (record { left = g.S.Source.left c.args.source.now; plant = g.P.Plant.seen c.args.plant.now; written = g.K.Sink.written c.args.sink.now }))

pub returns-in-Err-Usage-clause-cabled : goal.returns-in-Err-Usage-clause-cabled
returns-in-Err-Usage-clause-cabled g c = stays_cabled _ _ _ _ _ [] (unbegun (terms_of g.P.Plant.takes_drills Trunk) None (record { left = g.S.Source.left c.args.source.now; plant = g.P.Plant.seen c.args.plant.now; written = g.K.Sink.written c.args.sink.now }))

pub returns-in-Err-Memory-clause-isolated : goal.returns-in-Err-Memory-clause-isolated
returns-in-Err-Memory-clause-isolated g c = stays_isolated _ _ _ _ _ [] (unbegun (terms_of g.P.Plant.takes_drills Trunk) None (record { left = g.S.Source.left c.args.source.now; plant = g.P.Plant.seen c.args.plant.now; written = g.K.Sink.written c.args.sink.now }))

pub returns-in-Err-Memory-clause-holding : goal.returns-in-Err-Memory-clause-holding
returns-in-Err-Memory-clause-holding g c = stays_holding _ _ _ _ _ [] (unbegun (terms_of g.P.Plant.takes_drills Trunk) None (record { left = g.S.Source.left c.args.source.now; plant = g.P.Plant.seen c.args.plant.now; written = g.K.Sink.written c.args.sink.now }))

pub returns-in-Err-Memory-clause-cabled : goal.returns-in-Err-Memory-clause-cabled
returns-in-Err-Memory-clause-cabled g c = stays_cabled _ _ _ _ _ [] (unbegun (terms_of g.P.Plant.takes_drills Trunk) None (record { left = g.S.Source.left c.args.source.now; plant = g.P.Plant.seen c.args.plant.now; written = g.K.Sink.written c.args.sink.now }))
