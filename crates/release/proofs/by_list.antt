mod ByListLaws
mod DecideLaws
mod FinishLaws
mod OutputLaws
