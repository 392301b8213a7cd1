mod Texts
mod Printed
mod LineKinds
mod Heads
mod Grammar
mod Words
mod Counting
mod FirstWords
