mod Numbers
mod Choosing
