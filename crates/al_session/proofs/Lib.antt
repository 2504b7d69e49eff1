mod Building
mod FromAnswers
mod Headers
mod Obeyed
mod Reports
