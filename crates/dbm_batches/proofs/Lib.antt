pub mod BatchFaults
