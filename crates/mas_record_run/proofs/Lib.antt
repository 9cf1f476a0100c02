mod Whole
mod Answers
mod Files
