mod Taken
mod OnePair
mod Renewing
