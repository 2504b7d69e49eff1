mod ExcerptLines
mod Files
mod ToldLines
mod ShownBytes
