-- What is proved of the exchanges over whole inputs. Assumes nothing.
pub mod Cut
