mod BitLaws
mod CellLaws
mod MarkLaws
mod NearLaws
