mod Cut
mod Gathered
mod Written
mod Viewed
