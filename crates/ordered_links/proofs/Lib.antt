pub mod PutsAndTakes
