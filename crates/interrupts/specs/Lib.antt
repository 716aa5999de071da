pub mod Table
pub mod Delivery
pub mod PendingCauses
pub mod Clock
pub mod Laws
