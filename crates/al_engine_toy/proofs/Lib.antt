mod Known
mod CheckResult
mod JudgeLemmas
mod ToyFiles
mod Predefined
mod Results
