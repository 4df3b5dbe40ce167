pub mod Pointers
pub mod Accesses
pub mod Arms
pub mod Memories
pub mod Jumping
pub mod Calling
pub mod Joined
