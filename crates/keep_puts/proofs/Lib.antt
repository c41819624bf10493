mod KeyLaws
mod PassingLaws
mod HandingLaws
pub mod ListLaws
pub mod TreeLaws
pub mod AmountLaws
pub mod OfficeLaws
pub mod CauseLaws
pub mod StoreLaws
pub mod WriteLaws
pub mod PutLaws
pub mod TariffLaws
pub mod ClearLaws
