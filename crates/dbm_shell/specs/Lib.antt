pub mod CallCodes
