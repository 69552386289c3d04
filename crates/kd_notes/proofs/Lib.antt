pub mod Noted
pub mod NoUnknown
pub mod NoneWrong
pub mod WorkedNotes
