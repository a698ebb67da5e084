-- What the functions of this crate promise one another and the crates above; no promise to callers outside rests on it.
pub mod Ready
pub mod One
