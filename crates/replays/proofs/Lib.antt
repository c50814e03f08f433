mod EmittedLines
mod Widths
mod Frames
mod Records
mod FileWords
