mod HexNumbers
mod Numbers
