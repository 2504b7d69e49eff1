mod ToyFiles
