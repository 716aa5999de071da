pub mod ViewLemmas
pub mod RunLemmas
pub mod OpenLemmas
pub mod PlugLemmas
