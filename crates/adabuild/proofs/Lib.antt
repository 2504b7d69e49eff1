mod Images
mod WhyWords
mod WhyTold
