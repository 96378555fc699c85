-- The definitions of runs over a host: `Running` says what a run writes, `ScriptRun`, `DeskRun` and `TurnRun` what each
-- does,
-- and `History` what several leave.
pub mod Running
pub mod ScriptRun
pub mod Memory
pub mod History
pub mod Alike
pub mod Desk
pub mod DeskRun
pub mod Laws
pub mod Marks
pub mod Reading
pub mod TurnRun
pub mod Typed
pub mod Work
pub mod Explaining
pub mod Shell
pub mod Access
pub mod ShellRun
pub mod Steps
pub mod Tally
