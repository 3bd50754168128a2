pub mod OpenDay
