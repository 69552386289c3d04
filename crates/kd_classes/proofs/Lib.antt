pub mod Left
pub mod OneHeld
pub mod AcceptedHeld
pub mod OneFault
