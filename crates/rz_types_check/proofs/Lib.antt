pub mod Firsts
pub mod Joined
pub mod KeysAlike
pub mod Stepping
pub mod Walking
pub mod Walks
