-- Laws of back substitution. Assumes nothing.
mod Back
