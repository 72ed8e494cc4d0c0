pub mod Layers
pub mod Bounds
pub mod Spans
pub mod LaneRules
pub mod ChunkedBack
pub mod PatchedBack
