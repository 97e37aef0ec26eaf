pub mod Rc
