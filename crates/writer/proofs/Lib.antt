-- Laws of the lines of an answer. Assumes nothing.
mod AnswerLaws
