mod Keys
mod Said
mod Values
