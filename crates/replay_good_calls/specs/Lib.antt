pub mod GoodCalls
