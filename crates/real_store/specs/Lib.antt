pub mod StoreView
pub mod StoreLaws
pub mod Inside
pub use Rattle.journal_core.specs.Bytes
