mod Days
mod Growth
mod Passed
mod Products
mod Rounds
