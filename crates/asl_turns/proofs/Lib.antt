mod Totals
mod Moves
mod Counting
mod LastSeat
