pub mod Auditing
pub mod Going
pub mod UnderWay
pub mod Coming
pub mod Ended
pub mod SafePoint
pub mod OnWay
pub mod Finding
