use Rattle.std.proofs.Common.{refl}
use Rattle.script_text.specs.declared.reply.Reply.TheVariants.{Unread}
use Rattle.lab_core.proofs.OuterSteps.{tells_alone, tells_unread}
use Rattle.lab_top.proofs.AuditLaws.{audit_nothing, audit_risen, audit_still, audit_told}
use Rattle.lab_top.proofs.RunLaws.{steps_told}
use Rattle.lab_top.proofs.laws.audits.Goals as goal

pub returns-clause-told : goal.returns-clause-told
returns-clause-told c = λ terms choices old new status before after b t lines r told asks replied. audit_told terms choices old new status before after b t r told asks lines replied

pub returns-clause-nothing : goal.returns-clause-nothing
returns-clause-nothing c = λ terms choices old new status before after b t lines r told sound asks replied. audit_nothing terms choices old new status before after b t r told asks lines replied sound

pub returns-clause-unread : goal.returns-clause-unread
returns-clause-unread c = λ terms choices old new status before after b t reply name r told replied.
    tells_unread b.piece.command b.piece.opening b.piece.own reply name (steps_told terms choices old new status before after b t r told reply replied)

pub returns-clause-alone : goal.returns-clause-alone
returns-clause-alone c = λ terms choices old new status before after b t name r told replied.
    tells_alone b.piece.command b.piece.opening b.piece.own (Unread name) name (steps_told terms choices old new status before after b t r told (Unread name) replied) refl

pub returns-clause-risen : goal.returns-clause-risen
returns-clause-risen c = λ terms choices old new status before after b name r replied. audit_risen terms choices old new status before after b name r replied

pub returns-clause-still : goal.returns-clause-still
returns-clause-still c = λ terms choices old new status before after b t reply r told asks replied. audit_still terms choices old new status before after b t r told asks reply replied
