mod CostLaws
mod NodeLaws
mod SoftLaws
mod UseLaws
