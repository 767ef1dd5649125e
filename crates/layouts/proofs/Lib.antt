mod Layouts
mod Promises
