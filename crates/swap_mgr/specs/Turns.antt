-- How a turn is told, as open swaps side by side tell it.
pub use Rattle.swap_turns.specs.Telling.{over_of, IsStop}
