pub mod IndexFaults
pub mod LoadFaults
pub mod LoadedTable
pub mod MadeIndex
pub mod MadeTable
pub mod MakeFaults
pub mod Making
pub mod Placing
