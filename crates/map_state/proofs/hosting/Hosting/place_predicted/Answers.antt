use Rattle.std.proofs.Common.{sym, subst}
use Rattle.virt_topo.specs.declared.mapping.Mapping.{Mapping}
use Rattle.lab_model.specs.Shapes.{IsShaped}
use Rattle.map_state.specs.Hosted.{IsHosting}
use Rattle.map_state.proofs.StateLaws.{shaped_at}
use Rattle.map_state.proofs.hosting.Hosting.place_predicted.Goals as goal

pub returns-clause-shaped : goal.returns-clause-shaped
returns-clause-shaped c =
    subst (λ (y : Mapping). IsShaped c.args.lab.now c.args.wiring.now y) (sym c.go.ensures.mapping)
    (shaped_at c.args.lab.now c.args.wiring.now c.args.mapping.now c.args.virt c.args.place c.requires.shaped c.requires.node c.requires.typed)

pub returns-clause-hosting : goal.returns-clause-hosting
returns-clause-hosting c =
    let lab = c.args.lab.now in
    let w = c.args.wiring.now in
    subst (λ (y : Mapping). IsHosting lab w y (record { hosts = c.go.new.self.hosts; hosted = c.go.new.self.hosted; nodes = c.go.new.self.nodes; members = c.go.new.self.members; soft = c.args.outcome.soft })) (sym c.go.ensures.mapping) (record {
      hosts = c.go.ensures.hosts;
      one_each = c.go.ensures.one_each;
      hosted = c.go.ensures.hosted;
      nodes = c.go.ensures.nodes;
      members = c.go.ensures.members;
      soft = c.requires.soft;
    })
