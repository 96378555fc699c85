-- The definitions of what is shown of runs that stop, and of marks: `SoFar` of two runs as far as both go, `Stops` of
-- the program's, `AnswerLines` and `Marks` of the lines of desks, `Lifetimes` of stores that are migrated, `Unopened`
-- of files that are not opened, `Unclosed` of files that could not be closed.
pub mod SoFar
pub mod Stops
pub mod AnswerLines
pub mod Marks
pub mod Lifetimes
pub mod Unopened
pub mod Unclosed
