pub mod NestTakes
pub mod QuadrantJoins
pub mod SixCauses
