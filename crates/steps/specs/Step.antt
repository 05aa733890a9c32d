-- One step of a sweep, as the code takes it from an instruction. Assumes nothing.
pub use Rattle.touch.specs.Touch.{named}
