use Rattle.std.proofs.Common.{◌≡◌, ◌++◌, true, subst, sym, ap, ◌∙◌, arith, List, ℕ, append_assoc}
use Rattle.std.specs.Prelude.{decimal}
use Rattle.lab_base.specs.Names.{is_name}
use Rattle.net_plan.proofs.NameLaws.{name_with, numbered_mark}
use Rattle.net_plan.proofs.names.numbered.Goals as goal

pub named-requires : goal.named-requires
named-requires c =
    let mark = numbered_mark c.args.mark.now c.args.number c.requires.bytes c.requires.number in
    let same = c.bytes.ensures.bytes in
    let name : is_name c.args.link ≡ true = c.bytes.ensures.named in
    let whole : c.bytes-2.result.now ≡ (c.args.link ++ c.args.mark.now) ++ decimal c.args.number =
    c.bytes-2.ensures ∙ c.in_ok-push_number.ensures.ok
    ∙ ap (λ (t : List ℕ). t ++ decimal c.args.number) (c.in_ok-push_bytes.ensures.ok ∙ ap (λ (t : List ℕ). t ++ c.args.mark.now) (c.in_ok-text.ensures ∙ same)) in
    let joined : c.bytes-2.result.now ≡ c.args.link ++ (c.args.mark.now ++ decimal c.args.number) = whole ∙ append_assoc c.args.link c.args.mark.now (decimal c.args.number) in
    subst (λ (l : List ℕ). is_name l ≡ true) (sym joined) (name_with c.args.link (c.args.mark.now ++ decimal c.args.number) name mark.0 (omega (arith, mark.1, c.requires.few)))
