-- what crates above name of those below
pub use Rattle.ext_model.specs as ExtModel
pub use Rattle.use_orders.specs as UseOrders
pub mod Uses
pub mod Hulls
pub mod Sizes
pub mod Cells
pub mod Above
pub mod Trials
pub mod Trees
pub mod Books
pub mod Whole
pub mod Additions
pub mod Arrivals
pub mod steps
