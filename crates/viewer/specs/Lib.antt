-- A viewer's calls: the answer for each case of the code's types, what is known on the way, and what he learns from them.
pub mod ViewAnswers
pub mod ViewerValues
