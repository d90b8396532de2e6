mod Append
mod NumbersRead
mod Headers
mod Segments
mod WrittenFiles
