pub mod PieceListing
