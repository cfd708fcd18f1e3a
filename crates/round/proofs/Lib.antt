-- what holds of some items, what is among them, and which are different
pub mod Among
-- what a step comes to, by its form, its fields and its kind
pub mod Leads
pub mod Acts
pub mod Fields
pub mod Forms
pub mod Tries
pub mod Sorting
pub mod Asking
pub mod Timed
-- where a turn goes, and that it ends
pub mod Jumps
pub mod Falls
pub mod Parsed
pub mod Counting
pub mod Ahead
pub mod Lasting
-- traces, what is claimed of turns, and how a claim goes along steps, turns and passes
pub mod TurnLaws
pub mod Traces
pub mod Along
pub mod Stepping
pub mod Shaping
-- the eight actions, and the state behind them
pub mod Entries
pub mod Actions
pub mod Listing
pub mod StartSound
-- what steps and turns keep and bring
pub mod Standings
pub mod Effects
pub mod EffectSound
pub mod AfterTurn
pub mod Coming
pub mod TurnSound
pub mod Outcomes
pub mod Turned
pub mod Again
pub mod Lawful
-- the passes, from the laws of turns
pub mod Waiting
pub mod Closing
pub mod CatchingUp
pub mod Passes
-- what is counted: steps completed, and events
pub mod Sums
pub mod BookSteps
pub mod Paying
pub mod PayingPasses
pub mod Accounts
pub mod Given
pub mod Marks
-- the round as a whole
pub mod Enough
pub mod OneStep
pub mod Once
pub mod After
pub mod Lost
pub mod Reasons
pub mod Closed
pub mod Demand
pub mod Ends
pub mod Misses
pub mod Asked
pub mod TrueInOrder
pub mod TrueTrace
pub mod Replays
pub mod FirstTurn
pub mod NoEvents
pub mod Leaving
pub mod Places
pub mod Ways
pub mod Trace
pub mod CountsDown
