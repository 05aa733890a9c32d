pub mod Words
pub mod Frames
pub mod Listed
pub mod Resumes
pub mod Open
