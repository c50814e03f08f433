mod Answering
mod Reading
mod Refusing
mod Within
