use Rattle.lab_model.proofs.PartLaws.{whole_from_parts, parts_from_whole}
use Rattle.lab_model.proofs.law_of_parts.Goals as goal

pub returns-clause-whole : goal.returns-clause-whole
returns-clause-whole c = λ lab es w is_lab holding parts. whole_from_parts lab es is_lab holding w parts

pub returns-clause-parts : goal.returns-clause-parts
returns-clause-parts c = λ lab es w is_lab holding isolated cabled. parts_from_whole lab es is_lab holding w isolated cabled
