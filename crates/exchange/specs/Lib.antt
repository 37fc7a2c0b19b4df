-- What the bench programs share: an input's answer, over what refuses a task and what is written of it. Assumes nothing.
pub mod Limits
pub mod Exchange
pub mod Laws
pub mod Reading
pub mod Room
pub mod Layouts
pub mod Text
