-- Functions that compute what the relations of the folder above state. The laws say that the two agree.
pub mod Longest
