mod Rows
mod Reading
