use Rattle.std.proofs.Common.{◌≡◌, ◌∷◌, ◌∙◌, [], List, ℕ, refl, ap, subst, drop, take, map, length}
use Rattle.plant.specs.Disks.{Disk, disk, IsImage}
use Rattle.plant.specs.Events.{Event}
use Rattle.plant.specs.declared.step.Side.TheVariants.{A, B}
use Rattle.folder.specs.Files.{text_in}
use Rattle.folder.specs.Folders.{Old}
use Rattle.folder.specs.Lost.{newest}
use Rattle.plant_mem.specs.Picks.{left_by}
use Rattle.mem_folder.specs.MemFolders.{trace_of}
use Rattle.mem_folder.specs.MemTold.{held_of, old_of}
use Rattle.mem_folder.specs.declared.mem_folder.OldText.{OldText}
use Rattle.mem_folder.proofs.Back.{begun_at, has_at, left_is, lost_trace, map_at, starts}
use Rattle.mem_folder.proofs.mem_folder.MemFolder.lose.Goals as goal

pub returns : goal.returns
returns c =
    let self = c.args.self in
    let pick = c.args.pick in
    let back = c.args.back in
    let h = held_of self in
    let trace : List Event = trace_of self.steps.items in
    let sides = c.restore.new.self in
    let left = c.text_back-left.result in
    let first : OldText = record { text = c.in_ok-copied.field-0; steps = self.steps } in
    let at : take 1 (drop back (first ∷ self.olds.items)) ≡ left ∷ [] = c.text_back-left.ensures.back in
    let same : first.text.items ≡ text_in self.texts = c.in_ok-copied.ensures ∙ c.text.ensures in
    let told : take 1 (drop back (newest h ∷ h.older)) ≡ old_of left ∷ [] =
    subst (λ (t : List ℕ). let o : Old = record { text = t; at = length trace } in take 1 (drop back (o ∷ h.older)) ≡ old_of left ∷ []) same (map_at old_of back (first ∷ self.olds.items) left at) in
    let a = left_by pick (disk A trace) in
    let b = left_by pick (disk B trace) in
    let done = c.in_ok-restore.ensures in (
      old_of left,
      told,
      record {
        left = has_at back (newest h ∷ h.older) (old_of left) told;
        possible = (subst (λ (d : Disk). IsImage d (left_by pick d)) self.a_is done.possible_a, subst (λ (d : Disk). IsImage d (left_by pick d)) self.b_is done.possible_b);
        text = c.in_ok-texts.ensures;
        trace = lost_trace left.steps.items c.and-steps.result.items _ sides trace a b c.and-steps.ensures
            (starts sides.a.reads.items sides.b.reads.items a b (left_is pick (disk A trace) _ _ done.a self.a_is) (left_is pick (disk B trace) _ _ done.b self.b_is))
            (begun_at first left self.olds.items trace refl self.begun (has_at back (first ∷ self.olds.items) left at));
        older = ap (λ (l : List OldText). map old_of l) c.new.ensures.items;
      },
    )
