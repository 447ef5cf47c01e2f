mod FrontLaws
mod ChosenLaws
mod BlockLaws
