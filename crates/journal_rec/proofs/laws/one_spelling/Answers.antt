use Rattle.journal_rec.proofs.Again.{payload_once, decodes_once}
use Rattle.journal_rec.proofs.laws.one_spelling.Goals as goal

pub returns-clause-payloads : goal.returns-clause-payloads
returns-clause-payloads c = payload_once

pub returns-clause-decoded : goal.returns-clause-decoded
returns-clause-decoded c = decodes_once
