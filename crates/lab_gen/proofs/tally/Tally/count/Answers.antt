use Rattle.lab_gen.specs.Summary.{is_created, is_in, is_lab, is_other, is_out, nodes_in}
use Rattle.lab_gen.proofs.Counting.{count_more, one_more, sum_more}
use Rattle.lab_gen.proofs.tally.Tally.count.Goals as goal

pub returns-clause-ok : goal.returns-clause-ok
returns-clause-ok c = λ replies is.
    let reply = c.args.reply.now in record {
      commands = one_more replies reply _ _ is.commands c.in_ok-commands.ensures;
      nodes = sum_more nodes_in replies reply _ _ _ is.nodes c.nodes_in.ensures c.in_ok-nodes.ensures;
      lab = count_more is_lab replies reply _ _ _ is.lab c.is_lab.ensures c.in_ok-lab.ensures;
      created = count_more is_created replies reply _ _ _ is.created c.is_created.ensures c.in_ok-created.ensures;
      inside = count_more is_in replies reply _ _ _ is.inside c.is_in.ensures c.in_ok-inside.ensures;
      outside = count_more is_out replies reply _ _ _ is.outside c.is_out.ensures c.in_ok-outside.ensures;
      other = count_more is_other replies reply _ _ _ is.other c.is_other.ensures c.in_ok-other.ensures;
    }
