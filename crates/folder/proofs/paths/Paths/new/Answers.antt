use Rattle.folder.proofs.paths.Paths.new.Goals as goal

pub returns : goal.returns
returns c = λ i. record {
  folder = c.in_ok-from_str.ensures.ok i;
  parent = c.in_ok-joined.ensures i;
  a = c.in_ok-joined-2.ensures i;
  b = c.in_ok-joined-3.ensures i;
  tables = c.in_ok-joined-4.ensures i;
  beside = c.in_ok-joined-5.ensures i;
  old = c.in_ok-joined-6.ensures i;
}
