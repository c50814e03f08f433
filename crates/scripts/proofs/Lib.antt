mod Breaks
mod Digits
mod Holding
mod Pieces
mod Progress
mod Retrieving
mod Settings
mod WordsRead
