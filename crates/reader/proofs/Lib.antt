-- Laws of the frames of an input. Assumes nothing.
mod HeaderLaws
mod FrameLaws
mod NumberLaws
mod Layouts
