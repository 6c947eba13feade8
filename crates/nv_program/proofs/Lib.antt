pub mod FileLaws
