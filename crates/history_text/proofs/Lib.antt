mod HistoryLines
mod Numbering
mod TableLines
