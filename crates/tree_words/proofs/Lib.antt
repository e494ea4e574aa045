pub mod NodePutLaws
pub mod NodeLaws
pub mod SepLaws
pub mod MakeLaws
pub mod ChildLaws
pub mod KeepLaws
pub mod WayLaws
