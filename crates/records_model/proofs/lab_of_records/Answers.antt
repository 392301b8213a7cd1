use Rattle.records_model.proofs.LabLaws.{folds_or_stops, stops_once, folds_push, folds_split, folds_once, lab_sane, follows_parts}
use Rattle.records_model.proofs.Starts.{room_accepted, stands_once}
use Rattle.records_model.proofs.lab_of_records.Goals as goal

pub returns-clause-pushed : goal.returns-clause-pushed
returns-clause-pushed c = λ t s mid end rs r h f. folds_push t s rs r mid end h f

pub returns-clause-split : goal.returns-clause-split
returns-clause-split c = λ t s end rs r h. folds_split t s rs r end h

pub returns-clause-once : goal.returns-clause-once
returns-clause-once c = λ t s u v rs can h g. folds_once t s rs u v can h g

pub returns-clause-sane : goal.returns-clause-sane
returns-clause-sane c = λ t rs s h. lab_sane t rs s h

pub returns-clause-holding : goal.returns-clause-holding
returns-clause-holding c = λ t rs s h. (lab_sane t rs s h).holding

pub returns-clause-parts : goal.returns-clause-parts
returns-clause-parts c = λ t s u r w sane f ready parts. follows_parts t s r u w sane f ready parts

pub returns-clause-room : goal.returns-clause-room
returns-clause-room c = λ rs r u sane fits. room_accepted rs r u sane fits

pub returns-clause-stands : goal.returns-clause-stands
returns-clause-stands c = λ t a b x y can p q. stands_once t a b x y can p q

pub returns-clause-stops : goal.returns-clause-stops
returns-clause-stops c = λ t s u rs n can h g. folds_or_stops t s rs u n can h g

pub returns-clause-stops_once : goal.returns-clause-stops_once
returns-clause-stops_once c = λ t s rs m n can h g. stops_once t s rs m n can h g
