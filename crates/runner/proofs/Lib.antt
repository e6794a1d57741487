mod Listed
mod Asked
