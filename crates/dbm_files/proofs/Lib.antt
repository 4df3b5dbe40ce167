pub mod SaveMoments
