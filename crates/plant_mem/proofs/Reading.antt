-- A reading that doesn't fail is answered with what was found.
use Rattle.std.proofs.Common.{◌≡◌, Bool, true, false, Result, sym, subst}
use Rattle.std.specs.Prelude.{IfOk}
use Rattle.plant.specs.declared.pipe_row.ReadFailed.{ReadFailed}
use Rattle.plant_mem.specs.Readings.{read_answer}

pub told : {T : Type 0} (P : T → Type 0) (fails : Bool) (value : T) (result : Result T ReadFailed) → result ≡ read_answer fails value → P value → IfOk result P
told {T} P true value result is holds = subst (λ (r : Result T ReadFailed). IfOk r P) (sym is) tt
told {T} P false value result is holds = subst (λ (r : Result T ReadFailed). IfOk r P) (sym is) holds
