pub mod MadeStacks
