mod Printing
mod Splitting
