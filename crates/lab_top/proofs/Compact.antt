-- A journal after an opening: whether it was moved onto its other side, and how long it is.
use Rattle.std.proofs.Common.{◌≡◌, ◌⊎◌, inl, inr, ◌<◌, ◌≤◌, ℕ, ◌+◌, ◌-◌, ◌*◌, ◌^◌, false, List, ◌++◌, sym, ap, subst, ◌∙◌, append_assoc, arith}
use Rattle.std.proofs.lemmas.Bool.{cases_lt}
use Rattle.std.proofs.lemmas.List.{append-nil}
use Rattle.plant.specs.Events.{Event}
use Rattle.plant.specs.declared.step.Side.{Side}
use Rattle.journal_model.specs.Appends.{other_side}
use Rattle.records_model.specs.Labs.{LabState}
use Rattle.swap_turns.specs.Pieces.{has_miss}
use Rattle.lab_core.specs.Compaction.{IsCompacted, IsPackedAt, IsToMove, moves, packed_length, stays}
use Rattle.lab_core.specs.Controller.{Control}
use Rattle.lab_core.specs.Moments.{IsLabAt, IsLengthAt, IsLiveAt}
use Rattle.lab_core.specs.Opening.{HasOpened}
use Rattle.lab_top.specs.Pieces.{IsCompact}

-- no call failed in the move of the journal
pub compacted_quiet : {trace steps : List Event} {length : ℕ} {side : Side} {epoch : ℕ} {s : LabState} → IsCompacted trace steps length side epoch s → has_miss steps ≡ false
compacted_quiet (stays not none) = ap has_miss none
compacted_quiet (moves due quiet moved) = quiet

-- why it is not to move
why_not : (length epoch : ℕ) (s : LabState) → (IsToMove length epoch s → ⊥) → (length ≤ 1048576) ⊎ ((length < 2 * packed_length s) ⊎ (2 ^ 64 - 1 ≤ epoch))
why_not length epoch s not = elim (cases_lt 1048576 length) [
  | inl long ↦ elim (cases_lt length (2 * packed_length s)) [
    | inl needed ↦ inr (inl needed)
    | inr half ↦ elim (cases_lt epoch (2 ^ 64 - 1)) [ inl next ↦ absurd (not (record { long = long; half = half; next = next })) | inr last ↦ inr (inr last) ]
  ]
  | inr short ↦ inl short
]

module _ (trace reading behind : List Event) (c : Control) (e : HasOpened trace reading behind (2 ^ 32) c) (lab : IsLabAt (trace ++ (reading ++ behind)) c.lab) where
  abbrev settled : List Event
  settled = trace ++ (reading ++ e.moving)

  joined : settled ++ e.shifting ≡ trace ++ (reading ++ behind)
  joined = append_assoc trace (reading ++ e.moving) e.shifting ∙ ap (λ l. trace ++ l) (append_assoc reading e.moving e.shifting ∙ ap (λ l. reading ++ l) (sym e.parts))

  by_move : IsCompacted settled e.shifting e.length e.side e.epoch c.lab → IsCompact trace (reading ++ behind) c.lab
  by_move (stays not none) =
      let here : settled ≡ trace ++ (reading ++ behind) = sym (append-nil settled) ∙ ap (λ l. settled ++ l) (sym none) ∙ joined in
      let p = e.settled.placed in
      record {
        lab = lab;
        length = e.length;
        length_is = subst (λ l. IsLengthAt l e.length) here p.length_is;
        side = e.side;
        epoch = e.epoch;
        live = subst (λ l. IsLiveAt l e.side e.epoch) here p.live;
        small = why_not e.length e.epoch c.lab not;
        moved = λ was old live. inl (p.kept was old live);
      }
  by_move (moves due quiet moved) =
      let p = e.settled.placed in
      record {
        lab = lab;
        length = packed_length c.lab;
        length_is = subst (λ l. IsLengthAt l (packed_length c.lab)) joined moved.length_is;
        side = other_side e.side;
        epoch = e.epoch + 1;
        live = subst (λ l. IsLiveAt l (other_side e.side) (e.epoch + 1)) joined moved.live;
        small = inr (inl (omega arith));
        moved = λ was old live. let k = p.kept was old live in inr (ap other_side k.0, ap (λ n. n + 1) k.1, subst (λ l. IsPackedAt l c.lab) joined moved.packed);
      }

  pub compact_after : IsCompact trace (reading ++ behind) c.lab
  compact_after = by_move e.compacts
