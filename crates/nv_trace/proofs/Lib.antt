pub mod HexLaws
pub mod LineLaws
pub mod SaidLaws
